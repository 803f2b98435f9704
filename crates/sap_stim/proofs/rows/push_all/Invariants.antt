use Rattle.sap_lemmas.proofs.Common.{◌≡◌, ◌≤◌, ◌++◌, vec_capacity}
use Rattle.sap_stim.proofs.RowTexts.{shown_from}
use Rattle.sap_stim.proofs.rows.push_all.Given as goal

abbrev pub invariant-loop-i : goal.invariant-loop-i
invariant-loop-i l = record {
  text : l.out.items ++ shown_from l.lattice l.names l.values l.tags l.i ≡ l.fn.out.items ++ shown_from l.lattice l.names l.values l.tags 0;
  room : vec_capacity l.fn.out ≤ vec_capacity l.out;
}
