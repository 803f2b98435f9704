use Rattle.sap_lemmas.proofs.Common.{◌∙◌, ◌+◌, ◌^◌, ap, arith, refl, on_ok}
use Rattle.sap_resolve.proofs.Groups.{below_step, below_end, below_within, below_inside}
use Rattle.sap_resolve.proofs.Lighter.{children_lighter, state_lighter}
use Rattle.sap_resolve.proofs.Worlds.{entities_step, entities_end, group_names_step, group_names_end, state_added, state_named}
use Rattle.sap_resolve.proofs.entities.+states.Goals as goal

pub add_state-states_below-requires : goal.add_state-states_below-requires
add_state-states_below-requires t c =
    let inside = below_inside c.args.s.now c.as_slice.result.now c.as_slice.ensures.value in omega (arith, inside, c.requires)

pub add_state-overflow_add-last : goal.add_state-overflow_add-last
add_state-overflow_add-last t c =
    let inside = below_inside c.args.s.now c.as_slice.result.now c.as_slice.ensures.value in omega (arith, inside, c.requires, c.states_below.ensures)

pub add_state-add_states-requires : goal.add_state-add_states-requires
add_state-add_states-requires t c =
    let lighter = children_lighter c.args.s.now c.as_slice-2.result.now c.as_slice-2.ensures.value in
    let inside = below_inside c.args.s.now c.as_slice-2.result.now c.as_slice-2.ensures.value in
    (omega (arith, lighter), omega (arith, inside, c.requires))

pub add_state-returns-clause-entities : goal.add_state-returns-clause-entities
add_state-returns-clause-entities t c =
    on_ok c.add_states.result _ _
    (λ h. state_added c.args.lattice.now c.args.s.now c.args.place c.args.number.now (c.args.number.now + c.states_below.result)
    c.is_dynamic.result c.declared_level.result c.authority.result c.as_slice.result.now
    c.as_slice-2.result.now c.args.made.now.items c.push.new.self.items c.add_states.new.made.items
    _ (ap (λ n. c.args.number.now + n) c.states_below.ensures) c.as_slice.ensures.value c.as_slice-2.ensures.value
    c.is_dynamic.ensures c.declared_level.ensures c.authority.ensures refl c.in_ok-push.ensures.items h)
    c.add_states.ensures.entities

pub add_state-returns-clause-names : goal.add_state-returns-clause-names
add_state-returns-clause-names t c =
    on_ok c.add_states.result _ _
    (λ h. state_named c.args.s.now c.as_slice-2.result.now c.args.made.now.items c.push.new.self.items c.add_states.new.made.items
    _ c.as_slice-2.ensures.value c.in_ok-copy.ensures c.in_ok-push.ensures.items h)
    c.add_states.ensures.names

pub add_state-returns-clause-number : goal.add_state-returns-clause-number
add_state-returns-clause-number t c =
    on_ok c.add_states.result _ _
    (λ h. let inside = below_inside c.args.s.now c.as_slice-2.result.now c.as_slice-2.ensures.value in omega (arith, inside, h))
    c.add_states.ensures.number

pub add_states-add_state-requires : goal.add_states-add_state-requires
add_states-add_state-requires t c =
    let lighter = state_lighter c.args.group.now c.loop-place.place c.index-group-place.result (omega arith) c.index-group-place.is in (
      omega (arith, lighter),
      below_within c.args.group.now c.loop-place.place c.index-group-place.result c.loop-place.number _ (2 ^ 32)
          (omega arith) c.index-group-place.is c.loop-place.invariant.2 c.requires,
    )

pub add_states-loop-place-preserved : goal.add_states-loop-place-preserved
add_states-loop-place-preserved t c = (
  entities_step c.args.lattice.now c.args.group.now c.loop-place.place c.index-group-place.result c.loop-place.number _ _ _ (omega arith)
      c.index-group-place.is c.in_ok-add_state.ensures.entities
      c.in_ok-add_state.ensures.number
      ∙ c.loop-place.invariant.0,
  group_names_step c.args.group.now c.loop-place.place c.index-group-place.result _ _ (omega arith) c.index-group-place.is
      c.in_ok-add_state.ensures.names ∙ c.loop-place.invariant.1,
  below_step c.args.group.now c.loop-place.place c.index-group-place.result c.loop-place.number _ (omega arith) c.index-group-place.is
      c.in_ok-add_state.ensures.number ∙ c.loop-place.invariant.2,
)

pub add_states-returns-clause-entities : goal.add_states-returns-clause-entities
add_states-returns-clause-entities t c =
    entities_end c.args.lattice.now c.args.group.now c.loop-place.place c.loop-place.place c.loop-place.number _ _ (omega arith) c.loop-place.invariant.0

pub add_states-returns-clause-names : goal.add_states-returns-clause-names
add_states-returns-clause-names t c = group_names_end c.args.group.now c.loop-place.place _ _ (omega arith) c.loop-place.invariant.1

pub add_states-returns-clause-number : goal.add_states-returns-clause-number
add_states-returns-clause-number t c = below_end c.args.group.now c.loop-place.place c.loop-place.number _ (omega arith) c.loop-place.invariant.2
