use Rattle.sap_lemmas.proofs.Common.{length, ap, ◌∙◌, arith, decimal}
use Rattle.sap_trace.proofs.Rooms.{few_digits}
use Rattle.sap_trace.proofs.room.digits.Goals as goal

pub returns-clause-count : goal.returns-clause-count
returns-clause-count c = ap length (c.as_bytes.ensures ∙ c.new.ensures ∙ ap decimal c.from.ensures)

pub returns-clause-few : goal.returns-clause-few
returns-clause-few c =
    let count = ap length (c.as_bytes.ensures ∙ c.new.ensures ∙ ap decimal c.from.ensures) in
    let few = few_digits c.args.site c.ranges.site.fits in
    omega (arith, few, count)
