-- A well-formed design with nested states of both kinds, handlers and a memory.
use Rattle.std.specs.Prelude.{ℕ, List, [], ◌∷◌, Some, None, codes}
use Rattle.sap_tree.specs.Bare.{nowhere, no_spot}
use Rattle.sap_tree.specs.Making.{named, numeral, number, read, enforced, block}
use Rattle.sap_tree.specs.declared.syntax.Under.{Under}
use Rattle.sap_tree.specs.declared.syntax.Kind.{Kind}
use Rattle.sap_tree.specs.declared.syntax.Kind.TheVariants.{Dynamic, Enforced}
use Rattle.sap_tree.specs.declared.syntax.Decl.TheVariants.{Input, Register, Memory}
use Rattle.sap_tree.specs.Syntax.{Expression, cell_at, level_of, SimpleCommand, assign, write, set_tag, go_to, fall_to_child, Command, lone, try, if_else, CommandBlock, with_else, StateTree, state_node, no_state, and_state, DesignTree}
use Rattle.sap_tree.specs.declared.version.Version.TheVariants.{One}
use Rattle.sap_shape.specs.WellFormed.{WellFormed}
use Rattle.sap_meaning.specs.Fine.{FineProgram}
use Rattle.sap_resolved.specs.Fill.{program_of}
use Rattle.sap_lattice.specs.Examples.{low_high}

-- The kind of an entity that is enforced at a level under an authority.
abbrev pub guarded : (level authority : List ℕ) → Kind
guarded level authority = let under : Under = record { place = nowhere; level = named authority } in
    Enforced (named level) (Some under)

-- A block of one command.
abbrev pub one : Command → CommandBlock
one c = block (c ∷ [])

-- The text `m[index] := value;`.
abbrev pub store : (index value : ℕ) → Command
store index value = lone (write (named (codes "m")) (number index) (number value))

-- The text `x := value;`.
abbrev pub set_x : Expression → Command
set_x value = lone (assign (named (codes "x")) value)

-- The text `goto target;`.
abbrev pub go : List ℕ → SimpleCommand
go target = go_to nowhere (named target)

-- The text `state D dynamic { m[1] := 3; goto D; }`.
abbrev pub state_d : StateTree
state_d = state_node nowhere (named (codes "D")) (Dynamic nowhere)
    (block (store 1 3 ∷ lone (go (codes "D")) ∷ [])) no_state

-- The state `state C dynamic { x := m[2]; goto C; state D .. }`. A cycle never falls into D, which may so write the
-- memory that P has written.
abbrev pub state_c : StateTree
state_c =
    state_node nowhere (named (codes "C")) (Dynamic nowhere)
    (block (set_x (cell_at no_spot (codes "m") (number 2)) ∷ lone (go (codes "C")) ∷ []))
    (and_state state_d no_state)

-- The text `if (a) { fall; } else { goto Q; }`.
abbrev pub choice : Command
choice = if_else nowhere (read (codes "a")) (one (lone (fall_to_child nowhere)))
    (with_else (one (lone (go (codes "Q")))))

-- The text `state P enforced low { m[0] := 1; if (a) { fall; } else { goto Q; } state C .. }`.
abbrev pub state_p : StateTree
state_p = state_node nowhere (named (codes "P")) (enforced (codes "low"))
    (block (store 0 1 ∷ choice ∷ [])) (and_state state_c no_state)

-- The text `setTag(y, high) otherwise { x := 1; }`.
abbrev pub raise : Command
raise = try (set_tag nowhere (named (codes "y")) (level_of (named (codes "high")))) nowhere (one (set_x (number 1)))

-- The text `goto P otherwise { goto Q; }`.
abbrev pub leave : Command
leave = try (go (codes "P")) nowhere (one (lone (go (codes "Q"))))

-- The text `state Q enforced high { setTag(y, high) otherwise { x := 1; } goto P otherwise { goto Q; } }`.
abbrev pub state_q : StateTree
state_q = state_node nowhere (named (codes "Q")) (enforced (codes "high")) (block (raise ∷ leave ∷ [])) no_state

-- The text `input a : 1; mem m : 8[4] dynamic; reg x : 8 dynamic; reg y : 4 enforced high under low = 5;` with the
-- states P and Q.
abbrev pub sample : DesignTree
sample = record {
  version = One;
  declarations = Input nowhere (named (codes "a")) (numeral 1)
      ∷ Memory nowhere (named (codes "m")) (numeral 8) (numeral 4) (Dynamic nowhere)
      ∷ Register nowhere (named (codes "x")) (numeral 8) (Dynamic nowhere) None
      ∷ Register nowhere (named (codes "y")) (numeral 4) (guarded (codes "high") (codes "low")) (Some (numeral 5)) ∷ [];
  states = and_state state_p (and_state state_q no_state);
}

-- The sample is well formed over two levels.
abbrev pub Formed : Type 0
Formed = WellFormed low_high sample

-- So the sample has all that the laws ask for.
abbrev pub SampleServes : Type 0
SampleServes = FineProgram (program_of low_high sample)
