use Rattle.sap_lemmas.proofs.Common.{List, ap, arith, on_ok_weaker}
use Rattle.sap_tree.specs.Prelude.{Home, states_of}
use Rattle.sap_tree.specs.declared.syntax.State.{State, out-State}
use Rattle.sap_hang.proofs.Groups.{state_walked, state_adds, states_start, states_step, passed_all, falls_stand}
use Rattle.sap_hang.proofs.states.+states.Goals as goal

pub add_state-returns-clause-rows : goal.add_state-returns-clause-rows
add_state-returns-clause-rows t c =
    on_ok_weaker c.add_list.result
    (λ w. state_walked c.args.walk.now.names.now c.args.walk.now.declarations.now c.args.state.now c.as_slice-3.result.now c.as_slice.result.now _
    c.args.rows.now.items c.add_states.new.rows.items c.add_list.new.rows.items c.as_slice-3.ensures.value c.as_slice.ensures.value
    (ap (λ (l : List State). let h : Home = record {
      name = (out-State c.args.state.now).name.name;
      kind =
          (out-State c.args.state.now).kind;
      children = states_of l;
    } in h) c.as_slice-2.ensures.value)
    c.in_ok-below.ensures.rows w.rows)
    c.add_list.ensures

pub add_state-returns-clause-assigned : goal.add_state-returns-clause-assigned
add_state-returns-clause-assigned t c =
    on_ok_weaker c.add_list.result
    (λ w. state_adds c.args.walk.now.names.now c.args.walk.now.declarations.now c.args.state.now c.as_slice-3.result.now
    c.as_slice.result.now c.in_ok-below.below.assigned c.args.assigned.now c.union.new.self c.add_list.new.assigned
    c.as_slice-3.ensures.value c.as_slice.ensures.value c.in_ok-below.ensures.assigned c.in_ok-union.ensures w.assigned)
    c.add_list.ensures

pub add_states-loop-at-init : goal.add_states-loop-at-init
add_states-loop-at-init t c =
    states_start c.args.walk.now.names.now c.args.walk.now.declarations.now c.args.states.now _ c.args.rows.now.items _ _ (omega arith) c.new-assigned.ensures c.new-falls.ensures

pub add_states-loop-at-preserved : goal.add_states-loop-at-preserved
add_states-loop-at-preserved t c =
    states_step c.args.walk.now.names.now c.args.walk.now.declarations.now c.args.states.now _ c.loop-at.at c.index-states-at.result _ _ _ _ _ _ _ (omega arith) (omega arith)
    c.index-states-at.is c.loop-at.invariant c.in_ok-add_dynamic.ensures c.in_ok-add_state.ensures.rows c.in_ok-add_state.ensures.assigned

pub add_states-returns-clause-rows : goal.add_states-returns-clause-rows
add_states-returns-clause-rows t c =
    (passed_all c.args.walk.now.names.now c.args.walk.now.declarations.now c.args.states.now c.loop-at.at _ _ _ _ (omega arith) c.loop-at.invariant).rows

pub add_states-returns-clause-falls : goal.add_states-returns-clause-falls
add_states-returns-clause-falls t c =
    falls_stand c.args.walk.now.names.now c.args.walk.now.declarations.now c.args.states.now _ _ _ _ _
    (passed_all c.args.walk.now.names.now c.args.walk.now.declarations.now c.args.states.now c.loop-at.at _ _ _ _ (omega arith) c.loop-at.invariant) c.in_ok-union.ensures

pub add_states-returns-clause-assigned : goal.add_states-returns-clause-assigned
add_states-returns-clause-assigned t c =
    (passed_all c.args.walk.now.names.now c.args.walk.now.declarations.now c.args.states.now c.loop-at.at _ _ _ _ (omega arith) c.loop-at.invariant).assigned
