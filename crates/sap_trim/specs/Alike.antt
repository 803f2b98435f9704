-- Two netlists of which the same is seen.
use Rattle.std.specs.Prelude.{◌≡◌, ℕ, List, map}
use Rattle.std.specs.List.{AllByRecursion, AllZip}
use Rattle.sap_maps.specs.Maps.{Name, Valuation}
use Rattle.sap_net.specs.Net.{Net}
use Rattle.sap_net.specs.IsNetlist.{width_of}
use Rattle.sap_net.specs.Runs.{IsRun, AllFit, observed}

-- The same declarations, but for wires that are no ports.
pub record DeclaresAlike (given result : Net) : Type 0 where
  pub module_name : result.module_name ≡ given.module_name
  pub ports : result.ports ≡ given.ports
  pub inputs : result.inputs ≡ given.inputs
  -- registers have the same names, widths and starts, memories the same names, widths, depths and starts
  pub registers : map {B = Name × (ℕ × ℕ)} (λ r. (r.name, (r.width, r.start))) result.registers
      ≡ map (λ r. (r.name, (r.width, r.start))) given.registers
  pub memories : map {B = Name × (ℕ × (ℕ × ℕ))} (λ m. (m.name, (m.width, (m.depth, m.start))))
      result.memories ≡ map (λ m. (m.name, (m.width, (m.depth, m.start)))) given.memories
  pub widths : AllByRecursion (λ p. width_of result p.name ≡ width_of given p.name) given.ports

-- The same numbers in a cycle: at ports before the edge, where they are wires or inputs, at registers and memories
-- after it.
pub record ShowsAlike (given result : Net) (v w : Valuation) : Type 0 where
  pub ports : AllByRecursion (λ p. (observed given v).value p.name ≡ (observed result w).value p.name) given.ports
  pub registers : AllByRecursion (λ r. (observed given v).value r.name
      ≡ (observed result w).value r.name) given.registers
  pub memories : AllByRecursion (λ m. (i : ℕ)
      → (observed given v).cell m.name i ≡ (observed result w).cell m.name i) given.memories

-- On all inputs that fit, the two runs show the same numbers in each cycle.
abbrev pub RunsAlike : Net → Net → Type 0
RunsAlike g r = (xss : List (List ℕ)) (vs ws : List Valuation) → AllFit g.inputs xss → IsRun g xss vs
    → IsRun r xss ws → AllZip (ShowsAlike g r) vs ws
