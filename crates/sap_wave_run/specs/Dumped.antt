-- The dump of a module's run on a stream of lines.
use Rattle.std.specs.Prelude.{◌≡◌, ℕ, List}
use Rattle.sap_maps.specs.Maps.{Valuation}
use Rattle.sap_meaning.specs.Cycle.{Tagged as Given}
use Rattle.sap_net.specs.Net.{Net}
use Rattle.sap_sim.specs.Stepped.{IsRunOn}
use Rattle.sap_wave.specs.Runs.{run_dump}

-- The text is the dump of a netlist's run on these lines, on each of which its inputs get these numbers.
pub record IsDumpOn (n : Net) (numbers : List Given → List ℕ) (lines : List (List Given)) (text : List ℕ) : Type 0 where
  pub run : List Valuation
  pub is_run : IsRunOn n numbers lines run
  pub is_dump : text ≡ run_dump n run
