-- A netlist before its first cycle, and what writing the dump of its run takes.
use Rattle.std.specs.Prelude.{◌≡◌, ◌≤◌, [], None}
use Rattle.sap_lattice.specs.Levels.{Levels}
use Rattle.sap_net.specs.Net.{Net}
use Rattle.sap_cycle.specs.Running.{Shows}
use Rattle.sap_pieces.specs.declared.TheConstants.{LARGE_BYTES}
use Rattle.sap_sim.specs.Stepping.{IsPlanned}
use Rattle.sap_wave.specs.Dumping.{StandAt, begun}
use Rattle.sap_wave.specs.Dumps.{head}
use Rattle.sap_wave.specs.Lines.{text_of}
use Rattle.sap_wave.specs.Runs.{initial_numbers, variables_of}
use Rattle.sap_wave_run.specs.declared.recording.Recording.{Recording}

-- It wasn't stepped yet, nothing of its dump is written, and there is room for what waits to be written.
pub record IsReady (ls : Levels) (n : Net) (r : Recording) : Type 0 where
  pub net : r.simulation.runner.net ≡ n
  pub planned : IsPlanned ls r.simulation
  pub unstepped : Shows r.simulation.runner None
  pub begun : r.dumper ≡ begun n
  pub places : StandAt n (variables_of n) r.places.items
  pub head : r.head ≡ text_of (head (variables_of n) (initial_numbers n))
  pub waiting : r.waiting.bytes ≡ []
  pub room : LARGE_BYTES ≤ r.waiting.room
