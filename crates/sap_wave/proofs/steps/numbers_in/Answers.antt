use Rattle.std.proofs.Common.{ap, sym, ◌∙◌}
use Rattle.sap_wave.specs.Prelude.{numbers_in, now_of}
use Rattle.sap_wave.proofs.Moves.{all_numbers}
use Rattle.sap_wave.proofs.steps.numbers_in.Goals as goal

pub returns-in-Later : goal.returns-in-Later
returns-in-Later c = sym (ap (λ ns. numbers_in (now_of ns)) c.in-Later.is ∙ all_numbers c.in-Later.numbers.items)
