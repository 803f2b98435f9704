use Rattle.std.proofs.Common.{◌≡◌, ◌≤◌, ◌+◌, ◌*◌, length}
use Rattle.sap_stream.specs.Spans.{cycles_of}
use Rattle.sap_stim.specs.Stimulus.{stimulus_of, read_from, behind}
use Rattle.sap_stim.proofs.stimulus.parse_stream.Given as goal

abbrev pub invariant-loop-fields : goal.invariant-loop-fields
invariant-loop-fields l = record {
  read : behind (cycles_of l.spans.items) (read_from l.lattice l.fields (length l.spans.items + 1) l.rest) ≡ stimulus_of l.lattice l.fields l.bytes;
  few : length l.spans.items + length l.rest ≤ length l.bytes;
  short : length (cycles_of l.spans.items) ≤ 65535 * length l.spans.items;
}

abbrev pub decreases-loop-fields : goal.decreases-loop-fields
decreases-loop-fields l = length l.rest
