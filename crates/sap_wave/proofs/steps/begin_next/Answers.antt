use Rattle.std.proofs.Common.{◌++◌, ◌∷◌, [], List, ℕ, ap, ◌∙◌}
use Rattle.sap_wave.specs.Steps.{open_of}
use Rattle.sap_wave.proofs.Reached.{next_so}
use Rattle.sap_wave.proofs.steps.begin_next.Goals as goal

pub returns : goal.returns
returns c =
    let o = open_of c.args.reached in
    next_so o _ c.in_ok-numbers.numbers.items c.requires c.in_ok-numbers.ensures
    (c.in_ok-push.ensures.blocks ∙ ap (λ (z : List ℕ). o.before ++ (z ∷ [])) c.deref.ensures.value)
