-- What a netlist is loaded into.
use Rattle.std.specs.Prelude.{◌≡◌, ℕ, ◌+◌, List, [], ◌∷◌, Option, length}
use Rattle.sap_maps.specs.Maps.{Valuation}
use Rattle.sap_net.specs.declared.parts.Memory.{Memory}
use Rattle.sap_net.specs.Net.{Net}
use Rattle.sap_net.specs.IsNetlist.{IsNetlist, memory_names, width_of}
use Rattle.sap_net.specs.Laws.{WithinBefore}
use Rattle.sap_net.specs.NameMaps.{NameMap}
use Rattle.sap_cycle.specs.declared.steps.Step.{Step}
use Rattle.sap_cycle.specs.declared.program.Program.{Program}
use Rattle.sap_cycle.specs.Means.{StepsMean, NextsMean, PortsMean}
use Rattle.sap_cycle.specs.Order.{IsOrder}
use Rattle.sap_cycle.specs.Places.{Finds}
use Rattle.sap_cycle.specs.Runs.{steps_of_runs}
use Rattle.sap_cycle.specs.Running.{Running, first_names, value_names, Shows}

-- The steps of the wires, in whatever order each finds what it reads.
pub record IsProgram (n : Net) (p : Program) : Type 0 where
  pub steps : (ss : List Step) × StepsMean (width_of n) n.memories p.parts.items (first_names n) ss n.wires
      × IsOrder (length (first_names n)) p.parts.items ss (steps_of_runs p.others.items p.runs.items)
  pub nexts : NextsMean (value_names n) p.nexts.items n.registers
  pub ports : PortsMean (value_names n) 0 p.ports.items n.memories

-- Where the cells of each memory begin, behind some.
abbrev pub bases_of : (behind : ℕ) → List Memory → List ℕ
bases_of k [] = []
bases_of k (m ∷ ms) = k ∷ bases_of (k + m.depth) ms

-- A runner keeps a cycle that it shows, or none yet, so the next cycle exists.
pub record IsRunner (r : Running) (p : Program) (edge : List ℕ) (values memories : NameMap ℕ) : Type 0 where
  pub rules : IsNetlist r.net
  pub program : IsProgram r.net p
  pub edge_long : length edge ≡ length r.net.registers
  pub values_found : Finds values (value_names r.net)
  pub memories_found : Finds memories (memory_names r.net)
  pub shown : (before : Option Valuation) × WithinBefore r.net before × Shows r before
