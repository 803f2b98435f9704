use Rattle.sap_lemmas.proofs.Common.{◌≤◌, drop, take, position_or_len}
use Rattle.sap_stim.proofs.FromLeft.{IsLeft, IsRead}
use Rattle.sap_stim.proofs.Marks.{line}
use Rattle.sap_stim.proofs.Pieces.{is_mark}
use Rattle.sap_stim.proofs.along.read_ahead.Given as goal

-- with the pieces and the inputs so far
abbrev pub invariant-loop-k : goal.invariant-loop-k
invariant-loop-k l = record {
  within : l.at ≤ position_or_len (is_mark 10) l.text;
  left : IsLeft (line l.text) l.k (line (drop l.at l.text));
  read : IsRead l.lattice l.fields (line l.text) l.k (take l.k l.inputs) (line (drop l.at l.text));
}
