use Rattle.sap_lemmas.proofs.Common.{◌≡◌, ◌∙◌, Option, Some, None, ap, subst, IfOk, unwrap_or}
use Rattle.sap_maps.specs.Scope.{find}
use Rattle.sap_lower.specs.declared.parts.Part.{Part}
use Rattle.sap_lower.specs.Lowering.{nothing}
use Rattle.sap_lower.proofs.calc.present_part.Goals as goal

pub returns-in-Some : goal.returns-in-Some
returns-in-Some c =
    let f : Some c.in-Some.part.now ≡ find c.args.entries.now c.args.name.now = rw c.in-Some.is at c.get.ensures in
    subst (λ (q : Part). IfOk c.copy.result (λ p. p ≡ q)) (ap (λ (o : Option Part). unwrap_or o nothing) f) c.copy.ensures

pub returns-in-None : goal.returns-in-None
returns-in-None c =
    let f : None ≡ find c.args.entries.now c.args.name.now = rw c.in-None.is at c.get.ensures in
    c.nothing_yet.ensures ∙ ap (λ (o : Option Part). unwrap_or o nothing) f
