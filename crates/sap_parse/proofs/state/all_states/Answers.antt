use Rattle.std.proofs.Common.{◌∙◌, ◌++◌, ◌∷◌, [], List, ap}
use Rattle.sap_parse.specs.Joining.{join_states}
use Rattle.sap_tree.specs.Trees.{states_of}
use Rattle.sap_tree.specs.declared.syntax.State.{State}
use Rattle.sap_parse.proofs.DesignMakes.{all_states_tree}
use Rattle.sap_parse.proofs.RowLaws.{row_steps}
use Rattle.sap_walk.proofs.Walking.{bind_ok, bind_pure}
use Rattle.sap_parse.proofs.state.all_states.Goals as goal

pub returns-clause-tree : goal.returns-clause-tree
returns-clause-tree c =
    let rest = c.in_ok-last_states.ensures.tree in
    all_states_tree c.in_ok-first.ensures.tree rest.2
    (rest.1 ∙ ap (λ (v : List State). join_states (states_of v) rest.0) (c.in_ok-push.ensures.items
    ∙ ap (λ (v : List State). v ++ c.in_ok-first.first ∷ []) c.new-list.ensures.items))

pub returns-clause-goes : goal.returns-clause-goes
returns-clause-goes c =
    row_steps _ _ ∙ bind_ok _ _ _ c.in_ok-first.ensures.goes ∙ bind_pure _ ∙ c.in_ok-last_states.ensures.goes
