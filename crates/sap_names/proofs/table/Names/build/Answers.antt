use Rattle.std.proofs.Common.{◌<◌, ◌^◌, List, length, sym, subst}
use Rattle.sap_lattice.specs.Levels.{order_of}
use Rattle.sap_tree.specs.Designs.{design_of}
use Rattle.sap_names.specs.Entities.{Entity, HaveWidths}
use Rattle.sap_names.specs.Fault.{Fault}
use Rattle.sap_names.proofs.Built.{faultless-fit, few_entities}
use Rattle.sap_names.proofs.First.{none_first, some_first}
use Rattle.sap_names.proofs.table.Names.build.Goals as goal

pub invariant_of-result : goal.invariant_of-result
invariant_of-result c =
    subst (λ (es : List Entity). (length es < 2 ^ 32) × HaveWidths es) (sym c.in_ok-entities.ensures) (
      few_entities (design_of c.args.design.now) c.design_is_whole.ensures,
      faultless-fit c.args.lattice.now.names (order_of c.args.lattice.now).le (design_of c.args.design.now) (none_first _ c.in-None.ensures),
    )

pub returns-in-Some-clause-first : goal.returns-in-Some-clause-first
returns-in-Some-clause-first c = λ code place same.
    let given : Fault = record { code = code; place = place } in some_first _ c.in-Some.fault given c.in-Some.ensures (cc) (cc)

pub returns-in-None-clause-faultless : goal.returns-in-None-clause-faultless
returns-in-None-clause-faultless c = none_first _ c.in-None.ensures
