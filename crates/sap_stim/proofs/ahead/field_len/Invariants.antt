use Rattle.sap_lemmas.proofs.Common.{◌≤◌, ◌-◌, length, position_or_len}
use Rattle.sap_stim.proofs.Marks.{line}
use Rattle.sap_stim.proofs.Pieces.{is_mark}
use Rattle.sap_stim.proofs.ahead.field_len.Given as goal

-- with the bytes so far
abbrev pub invariant-loop-size : goal.invariant-loop-size
invariant-loop-size l = record {
  within : l.size ≤ length l.text;
  inside : l.size ≤ position_or_len (is_mark 32) (line l.text);
}

abbrev pub decreases-loop-size : goal.decreases-loop-size
decreases-loop-size l = length l.text - l.size
