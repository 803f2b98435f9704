-- When the netlist of a system stands for the composite run: part by part as a netlist stands for a design, each name
-- behind the part's.
use Rattle.std.specs.Prelude.{◌≡◌, ◌<◌, ℕ, List, length, map}
use Rattle.sap_maps.specs.Maps.{Name, Valuation}
use Rattle.sap_lattice.specs.Codes.{code_of}
use Rattle.sap_meaning.specs.Program.{is_input}
use Rattle.sap_meaning.specs.Cycle.{Tagged}
use Rattle.sap_net.specs.declared.parts.PortKind.TheVariants as kind
use Rattle.sap_net.specs.Net.{Net}
use Rattle.sap_net.specs.Runs.{AllFit, IsRun, observed}
use Rattle.sap_interface.specs.StandsFor.{Named, world}
use Rattle.sap_interface.specs.Interface.{Shown, pairs_of}
use Rattle.sap_interface.specs.Compiled.{coded_stream, CyclesStand}
use Rattle.sap_build.specs.Copies.{through}
use Rattle.sap_link.specs.Composites.{first_states, composite_run, run_of_part, stream_of_part, StreamFits}
use Rattle.sap_linked.specs.Parts.{NamedSystem, part_at, system_of, in_part}
use Rattle.sap_linked.specs.Interface.{HasLinkedInterface}

-- The value and the tag of each input of a design, in order.
abbrev pub names_of_inputs : Named → List Name
names_of_inputs d = map (λ (port : Shown). port.0) (pairs_of (is_input (world d)) kind.Input d 0 (world d).entities)

-- In each cycle part i's names stand for what the part comes to in the composite run, and its inputs, fed or free, have
-- what they receive in it.
pub record PartStands (s : NamedSystem) (stream : List (List Tagged)) (seen : List Valuation) (i : ℕ) : Type 0 where
  pub cycles : let p = part_at s i in
      CyclesStand p.design p.sites (map (through (in_part p.name)) seen)
      (run_of_part i (composite_run (system_of s) stream))
  pub received : let p = part_at s i in
      map (λ (v : Valuation). map (λ x. v.value (in_part p.name x)) (names_of_inputs p.design)) seen
      ≡ coded_stream (code_of s.order) (stream_of_part (system_of s) (first_states (system_of s)) stream i)

-- On every stream that fits the system, its levels given as codes, what is seen of the run stands for the composite
-- run, part by part.
pub record RunsStand (s : NamedSystem) (n : Net) : Type 0 where
  pub takes : (stream : List (List Tagged)) → StreamFits (system_of s) stream
      → AllFit n.inputs (coded_stream (code_of s.order) stream)
  pub stands : (stream : List (List Tagged)) → StreamFits (system_of s) stream
      → (vs : List Valuation) → IsRun n (coded_stream (code_of s.order) stream) vs
      → (i : ℕ) → i < length s.parts → PartStands s stream (map (observed n) vs) i

-- A net stands for a system: it has its interface, and its runs are the composite runs.
pub record NetStandsForSystem (s : NamedSystem) (n : Net) : Type 0 where
  pub interface : HasLinkedInterface s n
  pub runs : RunsStand s n
