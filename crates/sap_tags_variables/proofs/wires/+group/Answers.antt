use Rattle.std.proofs.Common.{ap, sym, subst, arith}
use Rattle.sap_program.specs.Views.{block_of, group_of}
use Rattle.sap_tags_terms.specs.Code.{entities_in, named_in, tag_width}
use Rattle.sap_tagged.specs.Prelude.{wires_block, wires_group}
use Rattle.sap_tags_terms.specs.Parts.{StateFew, StateRanged}
use Rattle.sap_tags_terms.proofs.Few.{few_body, few_children, few_one}
use Rattle.sap_tags_terms.proofs.Ranged.{ranged_body, ranged_children, ranged_one}
use Rattle.sap_tags_variables.proofs.Wirings.{group_end, group_in, group_last, group_next, group_room, group_step, state_count}
use Rattle.sap_tags_variables.proofs.wires.+group.Goals as goal

pub add_group-add_state-requires : goal.add_group-add_state-requires
add_group-add_state-requires t c =
    let s = c.args.setting.now in
    let i = group_in (entities_in s) c.args.group.now c.loop-state.state-index c.state-item.result (omega arith) c.state-item.is in (
      omega (arith, i),
      (
        group_room (named_in s) (tag_width s) (entities_in s) c.args.group.now c.loop-state.state-index c.state-item.result
            c.loop-state.next 0 _ (omega arith) c.state-item.is c.loop-state.invariant.count c.requires.few,
        (
          subst (StateRanged s) (sym c.state-item.is) (ranged_one s c.args.group.now c.loop-state.state-index c.state-item.result (omega arith) c.requires.ranged),
          subst StateFew (sym c.state-item.is) (few_one c.args.group.now c.loop-state.state-index c.state-item.result (omega arith) c.requires.arms),
        ),
      ),
    )

pub add_group-loop-state-preserved : goal.add_group-loop-state-preserved
add_group-loop-state-preserved t c =
    let s = c.args.setting.now in
    record {
      wires =
          group_step (named_in s) (tag_width s) (entities_in s) c.args.group.now c.loop-state.state-index c.state-item.result
          c.loop-state.next c.in_ok-next.next 0 (omega arith) c.state-item.is c.loop-state.wires.items c.add_state.new.wires.items
          _ c.in_ok-next.ensures.wires c.in_ok-next.ensures.next c.loop-state.invariant.wires;
      count =
          group_next (named_in s) (tag_width s) (entities_in s) c.args.group.now c.loop-state.state-index c.state-item.result
          c.loop-state.next c.in_ok-next.next _ (omega arith) c.state-item.is c.in_ok-next.ensures.next c.loop-state.invariant.count;
    }

pub add_group-returns-clause-wires : goal.add_group-returns-clause-wires
add_group-returns-clause-wires t c =
    let s = c.args.setting.now in
    group_end (named_in s) (tag_width s) (entities_in s) c.args.group.now c.loop-state.state-index c.loop-state.next
    c.loop-state.wires.items _ (omega arith) c.loop-state.invariant.wires

pub add_group-returns-clause-next : goal.add_group-returns-clause-next
add_group-returns-clause-next t c =
    let s = c.args.setting.now in
    group_last (named_in s) (tag_width s) (entities_in s) c.args.group.now c.loop-state.state-index c.loop-state.next _ (omega arith) c.loop-state.invariant.count

pub add_state-overflow_add-k : goal.add_state-overflow_add-k
add_state-overflow_add-k t c =
    let e = state_count (entities_in c.args.setting.now) c.args.state.now in
    omega (arith, e, c.requires.few)

pub add_state-add_block-requires-clause-few : goal.add_state-add_block-requires-clause-few
add_state-add_block-requires-clause-few t c =
    let n = entities_in c.args.setting.now in
    let e = state_count n c.args.state.now in
    let b = ap (λ cs. wires_block (block_of n cs)) c.as_slice.ensures.value in
    omega (arith, e, b, c.requires.few)

pub add_state-add_block-requires-clause-ranged : goal.add_state-add_block-requires-clause-ranged
add_state-add_block-requires-clause-ranged t c = ranged_body c.args.setting.now c.args.state.now c.as_slice.result.now c.as_slice.ensures.value c.requires.ranged

pub add_state-add_block-requires-clause-arms : goal.add_state-add_block-requires-clause-arms
add_state-add_block-requires-clause-arms t c = few_body c.args.state.now c.as_slice.result.now c.as_slice.ensures.value c.requires.arms

pub add_state-add_group-requires : goal.add_state-add_group-requires
add_state-add_group-requires t c =
    let n = entities_in c.args.setting.now in
    let e = state_count n c.args.state.now in
    let b = ap (λ cs. wires_block (block_of n cs)) c.as_slice.ensures.value in
    let g = ap (λ ss. wires_group (group_of n ss)) c.as_slice-2.ensures.value in (
      omega (arith, e, g),
      (
        omega (arith, e, b, g, c.in_ok-next.ensures.next, c.requires.few),
        (
          ranged_children c.args.setting.now c.args.state.now c.as_slice-2.result.now c.as_slice-2.ensures.value c.requires.ranged,
          few_children c.args.state.now c.as_slice-2.result.now c.as_slice-2.ensures.value c.requires.arms,
        ),
      ),
    )
