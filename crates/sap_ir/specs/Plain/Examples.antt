-- A small program and its run, worked by hand. Of two top-level states A has two children, the first of which goes to
-- the second. A counts x up to 2 and falls each time; then it goes to B, which sets x back and goes to A, whose group
-- returns to its first child.
use Rattle.std.specs.Prelude.{◌≡◌, ℕ, List, [], ◌∷◌, map, codes}
use Rattle.sap_bits.specs.declared.Op2.TheVariants.{Add, Eq}
use Rattle.sap_maps.specs.Maps.{Valuation}
use Rattle.sap_maps.specs.Term.{constant, read, two}
use Rattle.sap_ir.specs.declared.guarded.Var.{Var}
use Rattle.sap_ir.specs.Source.{set}
use Rattle.sap_ir.specs.Plain.Nested.{Body, stop, act, cases, goto, fall, Forest, none, state, Nested}
use Rattle.sap_ir.specs.Plain.Does.{plain_run}

-- The registers of the counting program.
abbrev pub counting_registers : List Var
counting_registers =
    record { name = codes "x"; width = 8; start = 0 }
    ∷ record { name = codes "y"; width = 8; start = 0 }
    ∷ record { name = codes "s_0"; width = 1; start = 0 }
    ∷ record { name = codes "s_A"; width = 1; start = 0 }
    ∷ []

-- State A counts x up and goes to B when x is 2.
abbrev pub body_of_A : Body
body_of_A =
    cases (two Eq (read (codes "x")) (constant 8 2)) (goto (codes "B") stop)
    (act (set (codes "x") (two Add (read (codes "x")) (constant 8 1))) (fall stop)) stop

-- The two children of A; the second copies x to y.
abbrev pub children_of_A : Forest
children_of_A =
    state (codes "first") (goto (codes "second") stop) none
    (state (codes "second") (act (set (codes "y") (read (codes "x"))) stop) none none)

-- State B sets x to 0 and goes back to A.
abbrev pub body_of_B : Body
body_of_B = act (set (codes "x") (constant 8 0)) (goto (codes "A") stop)

-- A program of two states, one with two children.
abbrev pub counting : Nested
counting =
    record {
      inputs = [];
      wires = [];
      registers = counting_registers;
      memories = [];
      ports = codes "x" ∷ codes "y" ∷ [];
      states = state (codes "A") body_of_A children_of_A (state (codes "B") body_of_B none none);
    }

-- `x`, y, the current top-level state and the current child of A, after each of four cycles.
abbrev pub counted : List (List ℕ)
counted = (1 ∷ 0 ∷ 0 ∷ 1 ∷ []) ∷ (2 ∷ 2 ∷ 0 ∷ 1 ∷ []) ∷ (2 ∷ 2 ∷ 1 ∷ 1 ∷ []) ∷ (0 ∷ 2 ∷ 0 ∷ 0 ∷ []) ∷ []

-- What its registers show in four cycles.
abbrev pub counting_shows : List (List ℕ)
counting_shows =
    map (λ (v : Valuation). map v.value (codes "x" ∷ codes "y" ∷ codes "s_0" ∷ codes "s_A" ∷ []))
    (plain_run counting ([] ∷ [] ∷ [] ∷ [] ∷ []))

-- The registers show the numbers that are worked out by hand.
abbrev pub Counts : Type 0
Counts = counting_shows ≡ counted
