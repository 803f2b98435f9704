-- A worked example: the rows of a small design on two cycles.
use Rattle.std.specs.Prelude.{◌≡◌, ℕ, List, [], ◌∷◌, ◌++◌, None, codes}
use Rattle.sap_tree.specs.Making.{at, spot, mention, numeral_at}
use Rattle.sap_tree.specs.declared.syntax.Kind.TheVariants.{Dynamic, Enforced}
use Rattle.sap_tree.specs.declared.syntax.Decl.TheVariants.{Input, Register}
use Rattle.sap_tree.specs.declared.syntax.BinaryOperator.TheVariants as operator
use Rattle.sap_tree.specs.Syntax.{literal, variable, binary_of, lone, assign, go_to, command_block, no_command, and_command, state_node, no_state, and_state, DesignTree}
use Rattle.sap_tree.specs.declared.version.Version.TheVariants.{One}
use Rattle.sap_text.specs.Places.{line}
use Rattle.sap_lattice.specs.Examples.{low_high}
use Rattle.sap_meaning.specs.Cycle.{Tagged}
use Rattle.sap_sim.specs.Labelled.LabelledRows.{labelled_rows}

-- The text `input a : 8; reg x : 8 dynamic; state S enforced low { x := a + 1; goto S; }`.
abbrev pub adder : DesignTree
adder = record {
  version = One;
  declarations = Input (at 1) (mention (at 7) (codes "a")) (numeral_at (at 11) 8)
      ∷ Register (at 14) (mention (at 18) (codes "x")) (numeral_at (at 22) 8) (Dynamic (at 24)) None ∷ [];
  states = and_state (state_node (at 33) (mention (at 39) (codes "S")) (Enforced (mention (at 50) (codes "low")) None)
      (command_block
      (and_command (lone (assign (mention (at 56) (codes "x"))
      (binary_of (spot (at 63)) operator.Add (variable (spot (at 61)) (codes "a")) (literal (spot (at 65)) 1))))
      (and_command (lone (go_to (at 68) (mention (at 73) (codes "S")))) no_command))
      (at 76)) no_state) no_state;
}

-- A number and a level on the one input.
abbrev pub given : (number level : ℕ) → List Tagged
given number level = record { number = number; level = level } ∷ []

-- On `5@low`, then `255@high`, the design adds one.
abbrev pub AddsOne : Type 0
AddsOne = labelled_rows low_high adder (given 5 0 ∷ given 255 1 ∷ []) ≡ line (codes "cycle 1: x=6@low")
    ++ line (codes "cycle 2: x=0@high")
