-- What the netlist of a flat program declares, and whose numbers its runs have.
use Rattle.std.specs.Prelude.{◌≡◌, ◌⊎◌, ℕ, true, List, ◌++◌, map, filter, not, Some, codes}
use Rattle.std.specs.List.{AllByRecursion, AllZip}
use Rattle.sap_maps.specs.Maps.{Name, Valuation}
use Rattle.sap_maps.specs.Scope.{find}
use Rattle.sap_net.specs.Names.{is_among, IsHelpingName}
use Rattle.sap_net.specs.Net.{Net}
use Rattle.sap_net.specs.Runs.{IsRun, AllFit, observed}
use Rattle.sap_net.specs.declared.parts.Wire.{Wire}
use Rattle.sap_share.specs.Differing.{AllDiffer}
use Rattle.sap_ir.specs.declared.guarded.Var.{Var}
use Rattle.sap_ir.specs.Source.{Source}
use Rattle.sap_ir.specs.Guarded.{guarded_run}
use Rattle.sap_ir.specs.IsGuarded.{variable_names, memory_names}
use Rattle.sap_lower.specs.Lowered.{input_of, input_port, listed, port_shown}

-- The wires that are ports.
abbrev pub port_wires : Source → List Var
port_wires s = listed s.ports s.wires

-- The name of an input, a register, a memory or a wire that is a port.
abbrev pub IsKept : Source → Name → Type 0
IsKept s x =
    (is_among x (variable_names s.inputs) ≡ true)
    ⊎ ((is_among x (variable_names s.registers) ≡ true)
    ⊎ ((is_among x (memory_names s.memories) ≡ true) ⊎ (is_among x (variable_names (port_wires s)) ≡ true)))

-- The netlist declares the names of the list of guarded commands, as its ports, inputs, registers and memories.
pub record Declares (s : Source) (n : Net) : Type 0 where
  pub module_name : n.module_name ≡ codes "top"
  -- the inputs, and then the source's ports, in order
  pub ports : n.ports ≡ map input_port s.inputs ++ map (port_shown s.registers) s.ports
  pub inputs : n.inputs ≡ map input_of s.inputs
  -- the source's registers under their names, with their widths and starts
  pub registers : (x : Name) → find {X = ℕ × ℕ} (map (λ r. (r.name, (r.width, r.start))) n.registers) x
      ≡ find {X = ℕ × ℕ} (map (λ r. (r.name, (r.width, r.start))) s.registers) x
  pub memories : map {B = Name × (ℕ × (ℕ × ℕ))} (λ m. (m.name, (m.width, (m.depth, m.start))))
      n.memories ≡ map (λ m. (m.name, (m.width, (m.depth, m.start)))) s.memories
  -- each wire of the source that is a port is a wire with its width
  pub wires : AllByRecursion (λ x. find {X = ℕ} (map (λ w. (w.name, w.width)) n.wires) x.name
      ≡ Some x.width) (port_wires s)
  -- nothing else is declared but helping wires
  pub names : AllByRecursion (λ x. IsKept s x ⊎ IsHelpingName x) n.names

-- Registers and memories after the edge, and before it the inputs and the source's wires that are ports, have the
-- numbers of `end`.
pub record SameNumbers (s : Source) (n : Net) (v end : Valuation) : Type 0 where
  pub inputs : AllByRecursion (λ x. (observed n v).value x.name ≡ end.value x.name) s.inputs
  pub registers : AllByRecursion (λ x. (observed n v).value x.name ≡ end.value x.name) s.registers
  pub wires : AllByRecursion (λ x. (observed n v).value x.name ≡ end.value x.name) (port_wires s)
  pub memories : AllByRecursion (λ m. (i : ℕ) → (observed n v).cell m.name i ≡ end.cell m.name i) s.memories

-- On every stream of inputs that fits, each run of the netlist has in each cycle the numbers of the source's run, at
-- each input, register, memory cell and port.
abbrev pub RunsAlike : Source → Net → Type 0
RunsAlike s n = (xss : List (List ℕ)) (vs : List Valuation) → AllFit n.inputs xss → IsRun n xss vs
    → AllZip (SameNumbers s n) vs (guarded_run s xss)

-- The wires that are none of the source's.
abbrev pub helping : Source → List Wire → List Wire
helping s ws = filter (λ w. not (is_among w.name (variable_names s.wires))) ws

-- No two helping wires have the same width and the same right side.
abbrev pub SharesWires : Source → Net → Type 0
SharesWires s n = AllDiffer (helping s n.wires)
