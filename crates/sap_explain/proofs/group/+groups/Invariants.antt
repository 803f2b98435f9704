use Rattle.std.proofs.Common.{◌≡◌, ◌++◌, drop}
use Rattle.sap_explain.proofs.GroupLines.{all_below}
use Rattle.sap_explain.proofs.group.+groups.Given as goal

-- with the states that are left
abbrev pub invariant-push_all_below-loop-one : goal.invariant-push_all_below-loop-one
invariant-push_all_below-loop-one l = l.out.items ++ all_below l.part (drop l.one-index l.states) ≡ l.fn.out.items ++ all_below l.part l.states
