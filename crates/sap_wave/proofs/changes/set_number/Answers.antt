use Rattle.std.proofs.Common.{Some, ap, set, sym, ◌∙◌}
use Rattle.std.proofs.lemmas.List.{map-set}
use Rattle.sap_wave.specs.Numbers.{now_of}
use Rattle.sap_wave.proofs.changes.set_number.Goals as goal

pub returns-in-Later : goal.returns-in-Later
returns-in-Later c =
    map-set Some c.in-Later.numbers.items c.args.place c.args.number ∙ sym (ap (λ ns. set (now_of ns) c.args.place (Some c.args.number)) c.in-Later.is)
