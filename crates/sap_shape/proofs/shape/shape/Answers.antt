use Rattle.std.proofs.Common.{◌∙◌, sym}
use Rattle.sap_tree.specs.Designs.{design_of}
use Rattle.sap_names.proofs.First.{none_first, some_first}
use Rattle.sap_shape.specs.Lists.{shape_faults}
use Rattle.sap_shape.proofs.Again.{no_faults, first_of_all}
use Rattle.sap_shape.proofs.shape.shape.Goals as goal

pub returns-in-Ok-None-clause-faultless : goal.returns-in-Ok-None-clause-faultless
returns-in-Ok-None-clause-faultless c =
    no_faults (design_of c.args.design.now) (none_first (shape_faults (design_of c.args.design.now)) (sym c.in-Ok-None.field-0-is ∙ c.in-Ok-None.ensures))

pub returns-in-Ok-Some-clause-first : goal.returns-in-Ok-Some-clause-first
returns-in-Ok-Some-clause-first c =
    λ code place is. first_of_all (design_of c.args.design.now) (record { code = code; place = place })
    (some_first _ c.in-Ok-Some.fault (record { code = code; place = place }) (sym c.in-Ok-Some.field-0-is ∙ c.in-Ok-Some.ensures) (cc is) (cc is))
