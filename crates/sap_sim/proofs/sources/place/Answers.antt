use Rattle.sap_lemmas.proofs.Common.{◌≡◌, ◌∙◌, ap, subst, ℕ, Option, unwrap_or}
use Rattle.sap_net.specs.NameMaps.{place_in}
use Rattle.sap_sim.specs.Numbers.{place}
use Rattle.sap_sim.proofs.Maps.{place_found}
use Rattle.sap_sim.proofs.sources.place.Goals as goal

pub returns : goal.returns
returns c = λ names is count.
    let x = c.args.name.now in
    let found = subst (λ (k : ℕ). unwrap_or (place_in names x) k ≡ place names x) count (place_found names x) in
    c.unwrap_or.ensures ∙ ap (λ (o : Option ℕ). unwrap_or o c.args.count) (c.at_name.ensures ∙ is x) ∙ found
