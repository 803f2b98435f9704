-- What is still to come of the dump of a netlist that is stepped on lines.
use Rattle.std.specs.Prelude.{◌≡◌, ℕ, ◌+◌, ◌≤◌, ◌^◌, List, length, map, Option}
use Rattle.sap_lattice.specs.Levels.{Levels}
use Rattle.sap_maps.specs.Maps.{Valuation}
use Rattle.sap_meaning.specs.Cycle.{Tagged as Given}
use Rattle.sap_net.specs.Net.{Net}
use Rattle.sap_net.specs.Runs.{IsRunAfter}
use Rattle.sap_cycle.specs.Running.{Running, Shows}
use Rattle.sap_stim.specs.Fits.{StreamFits}
use Rattle.sap_sim.specs.declared.steps.Plan.{Plan}
use Rattle.sap_sim.specs.Numbers.{numbers_of}
use Rattle.sap_sim.specs.Stepped.{Stepped}
use Rattle.sap_sim.specs.Stepping.{IsPlanned}
use Rattle.sap_wave.specs.Dumping.{Dumping, StandAt}
use Rattle.sap_wave.specs.Dumps.{blocks_from}
use Rattle.sap_wave.specs.Lines.{text_of}
use Rattle.sap_wave.specs.Runs.{numbers_after, variables_of}

-- The runner shows a cycle, or none yet; these are the netlist's cycles behind it.
pub record GoesOn (numbers : Net → List Given → List ℕ) (r : Running) (ahead : List (List Given))
    (run : List Valuation) : Type 0 where
  pub before : Option Valuation
  pub shows : Shows r before
  pub is_run : IsRunAfter r.net before (map (numbers r.net) ahead) run

-- A simulation and the dump of its netlist so far, whose variables have these places, can go on with these lines.
pub record CanGoOn (ls : Levels) (s : Stepped Plan) (d : Dumping) (places : List ℕ)
    (ahead : List (List Given)) : Type 0 where
  pub planned : IsPlanned ls s
  pub fits : StreamFits ls s.fields ahead
  pub variables : d.variables ≡ variables_of s.runner.net
  pub stand : StandAt s.runner.net d.variables places
  pub few : d.count + length ahead ≤ 2 ^ 48

-- The text is that of the blocks of the cycles on these lines.
pub record IsToCome (ls : Levels) (s : Stepped Plan) (d : Dumping) (places : List ℕ)
    (ahead : List (List Given)) (text : List ℕ) : Type 0 where
  pub can : CanGoOn ls s d places ahead
  pub run : List Valuation
  pub goes_on : GoesOn (numbers_of ls) s.runner ahead run
  pub is_text : text ≡ text_of (blocks_from (d.count + 1) d.variables d.last (map (numbers_after s.runner.net) run))
