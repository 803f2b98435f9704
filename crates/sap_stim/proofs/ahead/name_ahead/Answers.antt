use Rattle.std.proofs.Common.{refl, ◌∙◌, arith}
use Rattle.sap_stim.proofs.Fronts.{named_last}
use Rattle.sap_stim.proofs.ahead.name_ahead.Goals as goal

pub returns-clause-level : goal.returns-clause-level
returns-clause-level c =
    named_last c.args.lattice.now.names c.lawful.ensures.names c.args.level c.as_bytes-name.result.now _
    (omega (arith, c.if-from-count.false, c.count.ensures.names, c.from.ensures, c.place.ensures))
    (c.as_bytes-name.ensures ∙ c.name.ensures) (c.if-not-is_first.ensures.word refl)
