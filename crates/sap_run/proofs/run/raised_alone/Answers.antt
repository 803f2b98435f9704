use Rattle.std.proofs.Common.{◌∙◌, sym, refl}
use Rattle.sap_run.proofs.Alone.{quiet_alone, dynamic_alone, enforced_alone}
use Rattle.sap_run.proofs.run.raised_alone.Goals as goal

pub returns-then-is_dynamic-clause-hang : goal.returns-then-is_dynamic-clause-hang
returns-then-is_dynamic-clause-hang c =
    dynamic_alone c.args.environment.now c.args.at.now c.args.step.now c.in-Goto.site c.in-Goto.target c.in-Goto.is
    (sym c.is_dynamic.ensures ∙ c.if-is_dynamic.true) c.requires.home.state c.args.itself.now c.requires.itself

pub returns-else-is_dynamic-clause-hang : goal.returns-else-is_dynamic-clause-hang
returns-else-is_dynamic-clause-hang c =
    enforced_alone c.args.environment.now c.args.at.now c.args.step.now c.in-Goto.site c.in-Goto.target c.in-Goto.is (sym c.is_dynamic.ensures ∙ c.if-is_dynamic.false)

pub returns-in-Set-clause-hang : goal.returns-in-Set-clause-hang
returns-in-Set-clause-hang c = quiet_alone c.args.environment.now c.args.at.now c.args.step.now (λ x. rw c.in-Set.is refl)

pub returns-in-Write-clause-hang : goal.returns-in-Write-clause-hang
returns-in-Write-clause-hang c = quiet_alone c.args.environment.now c.args.at.now c.args.step.now (λ x. rw c.in-Write.is refl)

pub returns-in-Retag-clause-hang : goal.returns-in-Retag-clause-hang
returns-in-Retag-clause-hang c = quiet_alone c.args.environment.now c.args.at.now c.args.step.now (λ x. rw c.in-Retag.is refl)

pub returns-in-RetagCell-clause-hang : goal.returns-in-RetagCell-clause-hang
returns-in-RetagCell-clause-hang c = quiet_alone c.args.environment.now c.args.at.now c.args.step.now (λ x. rw c.in-RetagCell.is refl)
