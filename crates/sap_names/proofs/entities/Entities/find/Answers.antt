use Rattle.sap_lemmas.proofs.Common.{◌∙◌, List, ap, slice_get}
use Rattle.sap_names.specs.Entities.{Entity}
use Rattle.sap_names.proofs.Numbers.{copied, find_some, find_none}
use Rattle.sap_names.proofs.entities.Entities.find.Goals as goal

pub returns-in-Some : goal.returns-in-Some
returns-in-Some c =
    copied c.get.result c.deref.result.now c.in-Some.number c.get.ensures.lookup.0 c.get.ensures.lookup.1
    ∙ ap (λ (l : List Entity). slice_get l c.in-Some.number) (c.deref.ensures.value ∙ c.self.view_is)
    ∙ find_some c.args.self.now c.args.name.now c.in-Some.number c.in-Some.ensures

pub returns-in-None : goal.returns-in-None
returns-in-None c = find_none c.args.self.now c.args.name.now c.in-None.ensures
