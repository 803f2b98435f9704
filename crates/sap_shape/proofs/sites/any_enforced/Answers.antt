use Rattle.sap_lemmas.proofs.Common.{rules, tests, ◌∙◌, sym, not, YieldsList-from_slice}
use Rattle.std.proofs.lemmas.Iterator.Search.{any_from_yields_List}
use Rattle.sap_tree.specs.Touches.{is_dynamic_kind}
use Rattle.sap_tree.specs.declared.syntax.State.{State, out-State}
use Rattle.sap_shape.proofs.Members.{enforced_listed}
use Rattle.sap_shape.proofs.sites.any_enforced.Goals as goal

pub returns : goal.returns
returns c =
    any_from_yields_List (λ (s : State). not (is_dynamic_kind (out-State s).kind)) _ _ _ c.any.ensures.ran
    (YieldsList-from_slice c.args.states.now cc) (λ x b q k. search (rules, tests))
    ∙ sym (enforced_listed c.args.states.now)
