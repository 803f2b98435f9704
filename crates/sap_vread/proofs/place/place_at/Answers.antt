use Rattle.sap_lemmas.proofs.Common.{sym, ap, take, ◌∙◌, take_all}
use Rattle.sap_text.specs.Places.{first_place, place_after, place_at}
use Rattle.sap_vread.proofs.place.place_at.Goals as goal

pub returns-then-n-text : goal.returns-then-n-text
unfolding place_at
returns-then-n-text c = c.after.ensures.value ∙ ap (λ p. place_after p (take c.args.n c.args.text.now)) c.first.ensures

pub returns-else-n-text : goal.returns-else-n-text
unfolding place_at
returns-else-n-text c = c.after-else-n-text.ensures.value ∙ ap (λ p. place_after p c.args.text.now) c.first-else-n-text.ensures
    ∙ ap (place_after first_place) (sym (take_all c.args.n c.args.text.now (c.if-n-text.false)))
