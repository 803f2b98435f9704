-- Worked examples of the faults of names and widths.
use Rattle.std.specs.Prelude.{◌≡◌, ℕ, List, [], ◌∷◌, Some, None, Bool, codes, leb}
use Rattle.sap_tree.specs.Making.{at, spot, mention, numeral_at}
use Rattle.sap_tree.specs.declared.place.Spot.{Spot}
use Rattle.sap_tree.specs.declared.syntax.Kind.{Kind}
use Rattle.sap_tree.specs.declared.syntax.Kind.TheVariants.{Dynamic, Enforced}
use Rattle.sap_tree.specs.declared.syntax.Decl.TheVariants.{Register}
use Rattle.sap_tree.specs.declared.syntax.BinaryOperator.TheVariants.{Add}
use Rattle.sap_tree.specs.Syntax.{literal, sized_literal, variable, binary_of, tag_at, assign, go_to, Command, lone, command_block, CommandList, no_command, and_command, state_node, StateList, no_state, and_state, DesignTree}
use Rattle.sap_tree.specs.declared.version.Version.TheVariants.{One}
use Rattle.sap_names.specs.Fault.{Fault}
use Rattle.sap_names.specs.declared.kind.Code.{Code}
use Rattle.sap_names.specs.declared.kind.Code.TheVariants.{E4, E7, E8}
use Rattle.sap_names.specs.Entities.{Lookup}
use Rattle.sap_names.specs.NameFaults.{design_name_faults, tag_faults}

-- The places of an expression whose operator is at one column and whose first token is at another.
abbrev pub inside : ℕ → ℕ → Spot
inside first column = record { first = at first; at = at column }

-- The fault of a code at a column.
abbrev pub fault : Code → ℕ → Fault
fault code column = record { code = code; place = at column }

-- No name is declared.
abbrev pub nothing : Lookup
nothing name = None

-- The names of two levels.
abbrev pub levels : List (List ℕ)
levels = codes "low" ∷ codes "high" ∷ []

-- The first level is at or below the second.
abbrev pub below : ℕ → ℕ → Bool
below a b = leb a b

-- The kind `enforced low` at a column.
abbrev pub low : ℕ → Kind
low column = Enforced (mention (at column) (codes "low")) None

-- One state with this body.
abbrev pub body : CommandList → StateList
body cs = and_state (state_node (at 1) (mention (at 1) (codes "S")) (low 1) (command_block cs (at 90))
    no_state) no_state

-- One state with one command.
abbrev pub only : Command → StateList
only c = body (and_command c no_command)

-- Reg x : 8 dynamic = START; and a state.
abbrev pub starting : (start : ℕ) → DesignTree
starting start = record {
  version = One;
  declarations = Register (at 1) (mention (at 5) (codes "x")) (numeral_at (at 9) 8) (Dynamic (at 11))
      (Some (numeral_at (at 21) start)) ∷ [];
  states = only (lone (go_to (at 30) (mention (at 35) (codes "S"))));
}

-- The text `reg x : 8 dynamic = 256;`.
abbrev pub LargeStart : Type 0
LargeStart = design_name_faults levels below (starting 256) ≡ fault E8 21 ∷ []

-- The text `reg x : 8 dynamic; .. x := 99'd300;`.
abbrev pub WideNumber : Type 0
WideNumber = design_name_faults levels below (record {
  version = One;
  declarations = Register (at 1) (mention (at 5) (codes "x")) (numeral_at (at 9) 8) (Dynamic (at 11)) None ∷ [];
  states = only (lone (assign (mention (at 43) (codes "x")) (sized_literal (spot (at 48)) 99 300)));
}) ≡ fault E7 48 ∷ []

-- Tag(zz), tag((zz)) and tag(1 + zz).
abbrev pub UnknownPlain : Type 0
UnknownPlain = tag_faults levels nothing (tag_at (at 1) (variable (spot (at 5)) (codes "zz")))
    ≡ fault E7 5 ∷ fault E4 5 ∷ []

-- An unknown name in parentheses, of which no width is asked, is E7 at the parenthesis and E4 at the name.
abbrev pub UnknownInside : Type 0
UnknownInside = tag_faults levels nothing (tag_at (at 1) (variable (inside 5 6) (codes "zz")))
    ≡ fault E7 5 ∷ fault E4 6 ∷ []

-- An unknown operand after a number is E7 at the number and E4 at its own place.
abbrev pub UnknownBehind : Type 0
UnknownBehind = tag_faults levels nothing
    (tag_at (at 1) (binary_of (inside 5 7) Add (literal (spot (at 5)) 1) (variable (spot (at 9)) (codes "zz"))))
    ≡ fault E7 5 ∷ fault E7 5 ∷ fault E7 9 ∷ fault E4 9 ∷ []
