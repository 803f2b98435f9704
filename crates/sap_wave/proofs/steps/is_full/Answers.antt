use Rattle.std.proofs.Common.{ap, sym, ◌∙◌}
use Rattle.sap_wave.specs.Prelude.{is_full, now_of}
use Rattle.sap_wave.proofs.Moves.{all_there}
use Rattle.sap_wave.proofs.steps.is_full.Goals as goal

pub returns-in-Later : goal.returns-in-Later
returns-in-Later c = sym (ap (λ ns. is_full (now_of ns)) c.in-Later.is ∙ all_there c.in-Later.field-0.items)
