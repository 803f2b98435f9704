use Rattle.sap_lemmas.proofs.Common.{◌≡◌, ◌≤◌, ◌++◌, vec_capacity}
use Rattle.sap_wave.proofs.WrittenLines.{changes_from}
use Rattle.sap_wave.proofs.texts.push_changes.Given as goal

abbrev pub invariant-loop-k : goal.invariant-loop-k
invariant-loop-k l = record {
  text : l.out.items ++ changes_from l.variables l.before l.after l.k ≡ l.fn.out.items ++ changes_from l.variables l.before l.after 0;
  room : vec_capacity l.fn.out ≤ vec_capacity l.out;
}
