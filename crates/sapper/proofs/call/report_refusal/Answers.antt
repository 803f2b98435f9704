use Rattle.std.proofs.Common.{refl, ◌∙◌}
use Rattle.sap_files.specs.Prelude.{refused, stimulus_refused, reason}
use Rattle.sapper.proofs.Calls.{told_as}
use Rattle.sapper.proofs.call.report_refusal.Goals as goal

pub returns-in-Stimulus : goal.returns-in-Stimulus
returns-in-Stimulus g c =
    rw c.in-Stimulus.is (told_as (refused (stimulus_refused c.in-Stimulus.place c.in-Stimulus.fault)) 4 _ _ _ refl refl c.tell_stimulus.ensures)

pub returns-in-Ok : goal.returns-in-Ok
returns-in-Ok g c =
    told_as (refused (reason c.args.why.now)) _ _ _ _ c.status.ensures (c.as_bytes.ensures.value ∙ c.in-Ok.ensures.ok) c.tell.ensures
