-- What the flat program of nested states declares, and whose numbers its runs have.
use Rattle.std.specs.Prelude.{◌≡◌, ℕ, true, List, ◌++◌}
use Rattle.std.specs.List.{AllByRecursion, AllZip}
use Rattle.sap_maps.specs.Maps.{Valuation}
use Rattle.sap_ir.specs.declared.guarded.Var.{Var}
use Rattle.sap_ir.specs.Source.{Source}
use Rattle.sap_ir.specs.Guarded.{guarded_run}
use Rattle.sap_ir.specs.Plain.Nested.{Nested}
use Rattle.sap_ir.specs.Plain.Does.{plain_run}
use Rattle.sap_ir.specs.Plain.IsPlain.{is_gate}

-- A wire of one bit whose name is a `g` and digits.
abbrev pub IsGate : Var → Type 0
IsGate x = (is_gate x.name ≡ true) × (x.width ≡ 1)

-- The same but for wires: behind those of the nested states stand gates.
pub record Declares (p : Nested) (s : Source) : Type 0 where
  pub inputs : s.inputs ≡ p.inputs
  pub registers : s.registers ≡ p.registers
  pub memories : s.memories ≡ p.memories
  pub ports : s.ports ≡ p.ports
  pub wires : (gates : List Var) × (s.wires ≡ p.wires ++ gates) × AllByRecursion IsGate gates

-- Equal numbers of all registers, wires and memories of the nested states.
pub record SameNumbers (p : Nested) (v w : Valuation) : Type 0 where
  pub registers : AllByRecursion (λ x. v.value x.name ≡ w.value x.name) p.registers
  pub wires : AllByRecursion (λ x. v.value x.name ≡ w.value x.name) p.wires
  pub memories : AllByRecursion (λ m. (i : ℕ) → v.cell m.name i ≡ w.cell m.name i) p.memories

-- On all inputs the run of the flat program has in each cycle the numbers of the nested states' run.
abbrev pub RunsAlike : Nested → Source → Type 0
RunsAlike p s = (xss : List (List ℕ)) → AllZip (SameNumbers p) (guarded_run s xss) (plain_run p xss)
