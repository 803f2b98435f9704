use Rattle.sap_lemmas.proofs.Common.{◌∙◌, arith, on_ok}
use Rattle.sap_tree.specs.declared.syntax.State.{out-State}
use Rattle.sap_resolve.proofs.Worlds.{children_step, children_end, state_counted}
use Rattle.sap_resolve.proofs.children.+states.Goals as goal

pub add_states-loop-s-preserved : goal.add_states-loop-s-preserved
add_states-loop-s-preserved t c = children_step c.args.group.now c.loop-s.s-index c.s-item.result _ _ (omega arith) c.s-item.is c.in_ok-add_state.ensures ∙ c.loop-s.invariant

pub add_states-returns : goal.add_states-returns
add_states-returns t c = children_end c.args.group.now c.loop-s.s-index _ _ (omega arith) c.loop-s.invariant

pub add_state-returns : goal.add_state-returns
add_state-returns t c =
    on_ok c.add_states.result _ _
    (λ h. state_counted c.args.s.now c.len.result c.as_slice.result.now c.args.made.now.items c.push.new.self.items
    c.add_states.new.made.items (omega (arith, c.len.ensures, (out-State c.args.s.now).children.ok.0))
    c.as_slice.ensures.value c.in_ok-push.ensures.items h)
    c.add_states.ensures
