use Rattle.std.proofs.Common.{ap, refl, ◌∙◌}
use Rattle.sap_text.specs.Places.{place_after}
use Rattle.sap_parse.proofs.Behind.{at_end, at_token}
use Rattle.sap_parse.proofs.read.fault_place.Goals as goal

pub returns-then-at_end : goal.returns-then-at_end
returns-then-at_end c = c.after.ensures.value ∙ ap (λ p. place_after p c.args.source.now) c.first.ensures
    ∙ at_end c.args.source.now c.args.tokens.now.left (c.if-at_end.ensures.end refl)

pub returns-else-at_end : goal.returns-else-at_end
returns-else-at_end c = c.here.ensures ∙ at_token c.args.source.now c.args.tokens.now.left (c.if-at_end.ensures.no refl)
