use Rattle.std.proofs.lemmas.Result.{IfOk-weaker}
use Rattle.sap_trim.proofs.trim.number.Goals as goal

pub returns-clause-declares : goal.returns-clause-declares
returns-clause-declares c = IfOk-weaker c.keep-numbered.result _ _ (λ n h. h.declares) c.keep-numbered.ensures

pub returns-clause-same : goal.returns-clause-same
returns-clause-same c = IfOk-weaker c.keep-numbered.result _ _ (λ n h. h.same) c.keep-numbered.ensures

pub returns-clause-named : goal.returns-clause-named
returns-clause-named c = IfOk-weaker c.keep-numbered.result _ _ (λ n h. h.named) c.keep-numbered.ensures

pub returns-clause-numbered : goal.returns-clause-numbered
returns-clause-numbered c = IfOk-weaker c.keep-numbered.result _ _ (λ n h. h.numbered) c.keep-numbered.ensures

pub returns-clause-shared : goal.returns-clause-shared
returns-clause-shared c = IfOk-weaker c.keep-numbered.result _ _ (λ n h. h.shared) c.keep-numbered.ensures

pub returns-clause-settled : goal.returns-clause-settled
returns-clause-settled c = IfOk-weaker c.keep-numbered.result _ _ (λ n h. h.settled) c.keep-numbered.ensures

pub returns-clause-copies : goal.returns-clause-copies
returns-clause-copies c = IfOk-weaker c.keep-numbered.result _ _ (λ n h. h.copies) c.keep-numbered.ensures

pub returns-clause-read : goal.returns-clause-read
returns-clause-read c = IfOk-weaker c.keep-numbered.result _ _ (λ n h. h.read c.requires.folded c.in_ok-walk.ensures.themselves) c.keep-numbered.ensures

pub returns-clause-left : goal.returns-clause-left
returns-clause-left c = IfOk-weaker c.keep-numbered.result _ _ (λ n h. h.left) c.keep-numbered.ensures
