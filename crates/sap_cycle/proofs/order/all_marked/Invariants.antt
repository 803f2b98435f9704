use Rattle.sap_lemmas.proofs.Common.{◌≡◌, true, take, AllByRecursion}
use Rattle.sap_cycle.proofs.order.all_marked.Given as goal

abbrev pub invariant-loop-mark : goal.invariant-loop-mark
invariant-loop-mark l = AllByRecursion (λ m. m ≡ true) (take l.mark-index l.marks)
