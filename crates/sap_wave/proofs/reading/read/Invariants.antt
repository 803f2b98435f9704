use Rattle.std.proofs.Common.{◌≤◌, ◌+◌, length}
use Rattle.sap_wave.specs.Prelude.{IsIndexed, state_of, ReadUpTo}
use Rattle.sap_wave.proofs.reading.read.Given as goal

abbrev pub invariant-lines : goal.invariant-lines
invariant-lines l = record {
  read : ReadUpTo l.bytes l.rest l.line (state_of l.state);
  indexed : IsIndexed l.state;
  line : l.line + length l.rest ≤ length l.bytes + 1;
}

abbrev pub decreases-lines : goal.decreases-lines
decreases-lines l = length l.rest
