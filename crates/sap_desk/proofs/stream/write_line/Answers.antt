use Rattle.sap_lemmas.proofs.Common.{[], ◌∷◌, refl, on_err_weaker}
use Rattle.sap_desk.specs.Whole.{joined}
use Rattle.sap_desk.proofs.Lines.{cut_in}
use Rattle.sap_desk.proofs.stream.write_line.Goals as goal

pub returns-clause-failed : goal.returns-clause-failed
returns-clause-failed g c = on_err_weaker c.write.result
    (λ took. cut_in (joined c.args.parts.now) (10 ∷ []) [] _ _ _ _ refl c.in_ok-write_parts.ensures.told took) c.write.ensures.failed
