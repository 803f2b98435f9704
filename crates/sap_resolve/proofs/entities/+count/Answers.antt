use Rattle.std.proofs.Common.{◌∙◌, ◌+◌, ◌<◌, ◌^◌, arith}
use Rattle.sap_tree.specs.Trees.{state_of}
use Rattle.sap_resolved.specs.Worlds as worlds
use Rattle.sap_resolve.proofs.Groups.{below_step, below_end, below_within, below_inside}
use Rattle.sap_resolve.proofs.Lighter.{children_lighter, state_lighter}
use Rattle.sap_resolve.proofs.entities.+count.Goals as goal

pub states_in-states_below-requires : goal.states_in-states_below-requires
states_in-states_below-requires t c =
    let lighter = children_lighter c.args.s.now c.as_slice.result.now c.as_slice.ensures.value in
    let inside = below_inside c.args.s.now c.as_slice.result.now c.as_slice.ensures.value in
    (omega (arith, lighter), omega (arith, inside, c.requires))

pub states_below-states_in-count-requires : goal.states_below-states_in-count-requires
states_below-states_in-count-requires t c =
    let lighter = state_lighter c.args.group.now c.loop-s.s-index c.s-item.result (omega arith) c.s-item.is in
    let within = below_within c.args.group.now c.loop-s.s-index c.s-item.result c.loop-s.count _ (2 ^ 32) (omega arith) c.s-item.is c.loop-s.invariant c.requires in
    (omega (arith, lighter), omega (arith, within))

pub states_below-overflow_add-count : goal.states_below-overflow_add-count
states_below-overflow_add-count t c =
    let within : c.loop-s.count + worlds.states_in (state_of c.s-item.result) < 2 ^ 32 =
    below_within c.args.group.now c.loop-s.s-index c.s-item.result c.loop-s.count _ (2 ^ 32) (omega arith) c.s-item.is c.loop-s.invariant c.requires in
    omega (arith, within, c.states_in-count.ensures)

pub states_below-loop-s-preserved : goal.states_below-loop-s-preserved
states_below-loop-s-preserved t c =
    below_step c.args.group.now c.loop-s.s-index c.s-item.result c.loop-s.count _ (omega arith) c.s-item.is (omega (arith, c.states_in-count.ensures)) ∙ c.loop-s.invariant

pub states_below-returns : goal.states_below-returns
states_below-returns t c = below_end c.args.group.now c.loop-s.s-index c.loop-s.count _ (omega arith) c.loop-s.invariant
