-- A design that has what the laws ask for.
use Rattle.std.specs.Prelude.{◌≡◌, true, [], ◌∷◌, Some, None, codes}
use Rattle.sap_tree.specs.Bare.{nowhere, no_spot}
use Rattle.sap_tree.specs.Making.{named, numeral, read}
use Rattle.sap_tree.specs.declared.syntax.Kind.TheVariants.{Dynamic, Enforced}
use Rattle.sap_tree.specs.declared.syntax.Decl.TheVariants.{Input, Register, Memory}
use Rattle.sap_tree.specs.declared.syntax.UnaryOperator.TheVariants.{Not}
use Rattle.sap_tree.specs.declared.syntax.BinaryOperator.TheVariants.{Eq, Shl}
use Rattle.sap_tree.specs.Syntax.{literal, sized_literal, cell_at, unary_of, binary_of, choice, slice, concat, zero_extend, no_part, and_part, level_of, tag_at, join_of, no_tag, and_tag, SimpleCommand, assign, write, set_tag, go_to, lone, CommandList, command_block, no_command, and_command, state_node, no_state, and_state, DesignTree}
use Rattle.sap_tree.specs.Whole.{is_tree}
use Rattle.sap_tree.specs.declared.version.Version.TheVariants.{One}
use Rattle.sap_lattice.specs.Examples.{low_high}
use Rattle.sap_lattice.specs.Order.{Laws}
use Rattle.sap_lattice.specs.Levels.{order_of}
use Rattle.sap_names.specs.NameFaults.{design_name_faults}

-- The text `m[a[1:0]] := ~a << 1;`.
abbrev pub store : SimpleCommand
store = write (named (codes "m")) (slice no_spot (read (codes "a")) 1 0)
    (binary_of no_spot Shl (unary_of no_spot Not (read (codes "a"))) (literal no_spot 1))

-- The text `x := {zext(a == 3 ? 1'd1 : 0, 4), m[2]};`.
abbrev pub mix : SimpleCommand
mix = assign (named (codes "x"))
    (concat no_spot
    (and_part (zero_extend no_spot (choice no_spot
    (binary_of no_spot Eq (read (codes "a")) (literal no_spot 3)) (sized_literal no_spot 1 1)
    (literal no_spot 0)) 4)
    (and_part (cell_at no_spot (codes "m") (literal no_spot 2)) no_part)))

-- The text `setTag(x, join(high, tag(a)));`.
abbrev pub retag : SimpleCommand
retag = set_tag nowhere (named (codes "x"))
    (join_of nowhere (and_tag (level_of (named (codes "high"))) (and_tag (tag_at nowhere (read (codes "a"))) no_tag)))

-- The body of the state S of the mixer.
abbrev pub body : CommandList
body = and_command (lone store) (and_command (lone mix)
    (and_command (lone retag) (and_command (lone (go_to nowhere (named (codes "S")))) no_command)))

-- The text `input a : 8; mem m : 8[4] enforced high; reg x : 12 enforced high = 5; state S dynamic { .. goto S; }`.
abbrev pub mixer : DesignTree
mixer = record {
  version = One;
  declarations = Input nowhere (named (codes "a")) (numeral 8)
      ∷ Memory nowhere (named (codes "m")) (numeral 8) (numeral 4) (Enforced (named (codes "high")) None)
      ∷ Register nowhere (named (codes "x")) (numeral 12) (Enforced (named (codes "high")) None)
      (Some (numeral 5)) ∷ [];
  states = and_state (state_node nowhere (named (codes "S")) (Dynamic nowhere)
      (command_block body nowhere) no_state) no_state;
}

-- The order of two levels is lawful.
abbrev pub Lawful : Type 0
Lawful = Laws (order_of low_high)

-- The tree of the mixer is one that the grammar has.
abbrev pub Whole : Type 0
Whole = is_tree mixer ≡ true

-- The mixer has no fault of names and widths.
abbrev pub NoFault : Type 0
NoFault = design_name_faults low_high.names (order_of low_high).le mixer ≡ []
