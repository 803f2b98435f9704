-- A worked example: the program of a small design.
use Rattle.std.specs.Prelude.{◌≡◌, ℕ, Bool, true, false, [], ◌∷◌, None, codes}
use Rattle.sap_bits.specs.declared.Op2.TheVariants as two
use Rattle.sap_tree.specs.Making.{at, spot, mention, numeral_at}
use Rattle.sap_tree.specs.declared.syntax.Kind.TheVariants.{Dynamic, Enforced}
use Rattle.sap_tree.specs.declared.syntax.Decl.TheVariants.{Input, Register}
use Rattle.sap_tree.specs.declared.syntax.BinaryOperator.TheVariants as operator
use Rattle.sap_tree.specs.Syntax.{literal, variable, binary_of, command_block, no_command, and_command, state_node, no_state, and_state, DesignTree}
use Rattle.sap_tree.specs.Syntax as tree
use Rattle.sap_tree.specs.declared.version.Version.TheVariants.{One}
use Rattle.sap_lattice.specs.Examples.{low_high}
use Rattle.sap_maps.specs.Term as term
use Rattle.sap_meaning.specs.Program.{Entity, no_node as NoGroup, and_node, state_node, command_then, end_block, lone, assign, go_to}
use Rattle.sap_meaning.specs.Program as program
use Rattle.sap_resolved.specs.Fill.{program_of}

-- The text `input a : 8; reg x : 8 dynamic; state S enforced high { x := a + 1; goto S; }`.
abbrev pub adder : DesignTree
adder = record {
  version = One;
  declarations = Input (at 1) (mention (at 7) (codes "a")) (numeral_at (at 11) 8)
      ∷ Register (at 14) (mention (at 18) (codes "x")) (numeral_at (at 22) 8) (Dynamic (at 24)) None ∷ [];
  states = and_state (state_node (at 33) (mention (at 39) (codes "S")) (Enforced (mention (at 50) (codes "high")) None)
      (command_block
      (and_command (tree.lone (tree.assign (mention (at 57) (codes "x"))
      (binary_of (spot (at 64)) operator.Add (variable (spot (at 62)) (codes "a")) (literal (spot (at 66)) 1))))
      (and_command (tree.lone (tree.go_to (at 69) (mention (at 74) (codes "S")))) no_command))
      (at 77)) no_state) no_state;
}

-- An entity without authority that starts with 0.
abbrev pub entity : program.Kind → (width : ℕ) → Bool → (declared : ℕ) → Entity
entity kind width dynamic declared = record {
  kind = kind;
  width = width;
  dynamic = dynamic;
  declared = declared;
  authority = 0;
  initial = 0;
}

-- The adder has three entities: the input, the register and the state.
abbrev pub Entities : Type 0
Entities = (program_of low_high adder).world.entities
    ≡ entity program.input 8 true 0 ∷ entity program.register 8 true 0 ∷ entity (program.state 0 2) 0 false 1 ∷ []

-- The adder has one state, in which the assignment is no check site and the `goto` is site 1.
abbrev pub States : Type 0
States = (program_of low_high adder).states
    ≡ and_node (state_node 2
    (command_then (lone (assign 0 1 (term.two two.Add (term.read 0) (term.constant 8 1))))
    (command_then (lone (go_to 1 2)) end_block)) NoGroup) NoGroup

-- The root's fall touches the register alone.
abbrev pub Hangs : Type 0
Hangs = (program_of low_high adder).hang ≡ false ∷ true ∷ false ∷ []

-- The root has one child, and the state none.
abbrev pub Children : Type 0
Children = (program_of low_high adder).world.children ≡ 0 ∷ 0 ∷ 0 ∷ 1 ∷ []
