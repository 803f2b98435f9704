use Rattle.std.proofs.Common.{◌≡◌, drop}
use Rattle.sap_trim.specs.Unwritten.{lasting_cell}
use Rattle.sap_trim.proofs.unwritten.number_in.Given as goal

abbrev pub invariant-loop-memory : goal.invariant-loop-memory
invariant-loop-memory l = lasting_cell (drop l.memory-index l.memories) l.name ≡ lasting_cell l.memories l.name
