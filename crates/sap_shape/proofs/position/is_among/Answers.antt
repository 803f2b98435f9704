use Rattle.sap_lemmas.proofs.Common.{rules, tests, ◌∙◌, sym, bytes_eq, YieldsList-from_slice}
use Rattle.std.proofs.lemmas.Iterator.Search.{any_from_yields_List}
use Rattle.sap_tree.specs.declared.syntax.State.{State, out-State}
use Rattle.sap_shape.proofs.Members.{among_listed}
use Rattle.sap_shape.proofs.position.is_among.Goals as goal

pub returns : goal.returns
returns c =
    any_from_yields_List (λ (s : State). bytes_eq (out-State s).name.name c.args.name.now) _ _ _ c.any.ensures.ran
    (YieldsList-from_slice c.args.group.now cc) (λ x b q k. search (rules, tests))
    ∙ sym (among_listed c.args.name.now c.args.group.now)
