use Rattle.std.proofs.Common.{ℕ, ◌∙◌, ap}
use Rattle.sap_desk.specs.Host.{given_of}
use Rattle.sap_desk.proofs.slot.standard.Goals as goal

pub returns-clause-given : goal.returns-clause-given
returns-clause-given g c =
    λ channel. ap (λ (f : ℕ → ℕ). f channel) (c.add-3.ensures.given_stands ∙ c.add-2.ensures.given_stands ∙ c.add.ensures.given_stands ∙ ap given_of c.in_ok-slots.ensures.items)
