use Rattle.std.proofs.Common.{◌∙◌, ◌^◌, arith, length}
use Rattle.sap_resolve.specs.Surroundings.{known_rows}
use Rattle.sap_resolve.proofs.Lighter.{children_lighter, state_lighter}
use Rattle.sap_resolve.proofs.Groups.{states_step, states_end, group_sites_step, group_sites_end, group_sites_within, group_points_step, group_points_end, group_points_within, below_step, below_end, below_within, rest_sites, rest_points, rest_states}
use Rattle.sap_resolve.proofs.states.+states.Goals as goal

pub state-states-requires : goal.state-states-requires
state-states-requires t c =
    let k = c.args.known.now in
    let lighter = children_lighter c.args.s.now c.as_slice-3.result.now c.as_slice-3.ensures.value in (
      omega (arith, lighter),
      (
        rest_sites k.names.now c.args.s.now c.as_slice.result.now c.as_slice.ensures.value c.as_slice-2.result.now
            c.as_slice-2.ensures.value c.as_slice-3.result.now c.as_slice-3.ensures.value (2 ^ 32) c.args.next.now c.commands.new.next c.in_ok-body.ensures.next c.requires.sites,
        (
          rest_points k.names.now c.args.s.now c.as_slice.result.now c.as_slice.ensures.value c.as_slice-2.result.now
              c.as_slice-2.ensures.value c.as_slice-3.result.now c.as_slice-3.ensures.value (2 ^ 32) k.lattice.now c.args.next.now
              c.commands.new.next c.args.number.now c.args.point.now c.commands.new.point c.in_ok-body.ensures.next c.in_ok-body.ensures.point c.requires.points,
          rest_states c.args.s.now c.as_slice-3.result.now c.as_slice-3.ensures.value (2 ^ 32) c.args.number.now c.requires.states,
        ),
      ),
    )

pub states-state-requires : goal.states-state-requires
states-state-requires t c =
    let lighter = state_lighter c.args.group.now c.loop-s.s-index c.s-item.result (omega arith) c.s-item.is in (
      omega (arith, lighter),
      (
        group_sites_within c.args.known.now.names.now c.args.group.now c.loop-s.s-index c.s-item.result c.loop-s.next _ (2 ^ 32)
            (omega arith) c.s-item.is c.loop-s.invariant.1 c.requires.sites,
        (
          group_points_within c.args.known.now.lattice.now c.args.known.now.names.now c.args.group.now c.loop-s.s-index c.s-item.result
              c.loop-s.next c.loop-s.number c.loop-s.point _ (2 ^ 32) (omega arith) c.s-item.is c.loop-s.invariant.3 c.requires.points,
          below_within c.args.group.now c.loop-s.s-index c.s-item.result c.loop-s.number _ (2 ^ 32) (omega arith) c.s-item.is c.loop-s.invariant.2 c.requires.states,
        ),
      ),
    )

pub states-loop-s-preserved : goal.states-loop-s-preserved
states-loop-s-preserved t c = (
  states_step c.args.known.now.lattice.now c.args.known.now.names.now (length c.args.known.now.names.now) (known_rows c.args.known.now)
      c.args.group.now c.loop-s.s-index c.s-item.result c.loop-s.next _ c.loop-s.number _
      c.loop-s.point _ c.loop-s.made.items _ _ (omega arith) c.s-item.is c.in_ok-push.ensures.items c.in_ok-one.ensures.state
      c.in_ok-one.ensures.next c.in_ok-one.ensures.number c.in_ok-one.ensures.point
      ∙ c.loop-s.invariant.0,
  group_sites_step c.args.known.now.names.now c.args.group.now c.loop-s.s-index c.s-item.result c.loop-s.next _ (omega arith) c.s-item.is
      c.in_ok-one.ensures.next ∙ c.loop-s.invariant.1,
  below_step c.args.group.now c.loop-s.s-index c.s-item.result c.loop-s.number _ (omega arith) c.s-item.is c.in_ok-one.ensures.number ∙ c.loop-s.invariant.2,
  group_points_step c.args.known.now.lattice.now c.args.known.now.names.now c.args.group.now c.loop-s.s-index c.s-item.result c.loop-s.next
      _ c.loop-s.number _ c.loop-s.point _ (omega arith) c.s-item.is
      c.in_ok-one.ensures.next c.in_ok-one.ensures.number c.in_ok-one.ensures.point
      ∙ c.loop-s.invariant.3,
)

pub states-returns-clause-states : goal.states-returns-clause-states
states-returns-clause-states t c =
    states_end c.args.known.now.lattice.now c.args.known.now.names.now (length c.args.known.now.names.now) (known_rows c.args.known.now)
    c.args.group.now c.loop-s.s-index c.loop-s.next c.loop-s.number c.loop-s.point _ _
    (omega arith) c.loop-s.invariant.0

pub states-returns-clause-next : goal.states-returns-clause-next
states-returns-clause-next t c = group_sites_end c.args.known.now.names.now c.args.group.now c.loop-s.s-index c.loop-s.next _ (omega arith) c.loop-s.invariant.1

pub states-returns-clause-point : goal.states-returns-clause-point
states-returns-clause-point t c =
    group_points_end c.args.known.now.lattice.now c.args.known.now.names.now c.args.group.now c.loop-s.s-index c.loop-s.next c.loop-s.number
    c.loop-s.point _ (omega arith) c.loop-s.invariant.3

pub states-returns-clause-number : goal.states-returns-clause-number
states-returns-clause-number t c = below_end c.args.group.now c.loop-s.s-index c.loop-s.number _ (omega arith) c.loop-s.invariant.2
