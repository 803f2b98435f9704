use Rattle.std.proofs.Common.{◌≡◌, ◌+◌, ◌∙◌, ◌++◌, length, drop, ap, sym, subst, arith}
use Rattle.sap_ir.specs.Prelude.{commands_of, seat_width}
use Rattle.sap_flat.specs.Lists.{gates_commands, states_flat}
use Rattle.sap_flat.proofs.Steps.{Behind, commands_grow, states_step, states_rest, state_made}
use Rattle.sap_flat.proofs.Weights.{state_weight, states_weight, children_weight}
use Rattle.sap_flat.proofs.groups.+group.Goals as goal

pub states-returns-clause-commands : goal.states-returns-clause-commands
states-returns-clause-commands t c =
    (states_rest c.args.seat.now c.args.group.now c.args.group.now c.loop-i.i (c.args.first + c.loop-i.i) c.loop-i.gates
    (commands_of c.loop-i.out.items) (commands_of c.args.out.now.items) _ (omega arith) c.loop-i.invariant).0

pub states-returns-clause-gates : goal.states-returns-clause-gates
states-returns-clause-gates t c =
    (states_rest c.args.seat.now c.args.group.now c.args.group.now c.loop-i.i (c.args.first + c.loop-i.i) c.loop-i.gates
    (commands_of c.loop-i.out.items) (commands_of c.args.out.now.items) _ (omega arith) c.loop-i.invariant).1

pub states-loop-i-preserved : goal.states-loop-i-preserved
states-loop-i-preserved t c =
    let group = c.args.group.now in
    let i = c.loop-i.i in
    let all = states_flat c.args.seat.now group group c.args.first c.args.gates.now in
    let e : c.args.first + i + 1 ≡ c.args.first + (i + 1) = omega arith in
    let b = states_step c.args.seat.now group group i c.index-group-i.result (c.args.first + i) c.loop-i.gates c.state.new.gates
    (commands_of c.loop-i.out.items) (commands_of c.state.new.out.items) (commands_of c.args.out.now.items) all (omega arith)
    c.index-group-i.is c.in_ok-state.ensures.commands c.in_ok-state.ensures.gates c.loop-i.invariant in
    subst (λ n. Behind (commands_of c.state.new.out.items) (commands_of c.args.out.now.items) (states_flat c.args.seat.now group (drop (i + 1) group) n c.state.new.gates) all) e b

pub state-states-requires : goal.state-states-requires
state-states-requires t c =
    let kids = c.as_slice-children.result.now in
    let w : states_weight kids + 2 ≡ state_weight c.args.state.now = ap (λ l. states_weight l + 2) c.as_slice-children.ensures.value ∙ sym (children_weight c.args.state.now) in
    let g = commands_grow c.args.seat.now c.args.group.now c.in_ok-fell.fell c.as_slice.result.now c.args.j c.add_all.new.self in
    (omega (arith, w), omega (arith, g, c.in_ok-commands.ensures.gates, c.in_ok-add_all.ensures, c.len-first.ensures))

pub state-returns-clause-commands : goal.state-returns-clause-commands
state-returns-clause-commands t c =
    let kids = c.as_slice-children.result.now in
    let own = c.in_ok-own_seat.own_seat in
    (state_made c.args.seat.now c.args.group.now c.args.state.now kids c.as_slice.result.now own c.args.j c.args.gates.now c.in_ok-fell.fell
    c.len-first.result c.add_all.new.self c.commands.new.gates c.states.new.gates (commands_of c.args.out.now.items)
    (commands_of c.commands.new.out.items) (commands_of c.mark.new.out.items) (commands_of c.states.new.out.items)
    c.as_slice-children.ensures.value c.as_slice.ensures.value c.in_ok-own_seat.ensures c.in_ok-fell.ensures.number (c.len-first.ensures
    ∙ c.in_ok-fell.ensures.more) (c.in_ok-add_all.ensures ∙ ap (λ n. n + length kids) c.in_ok-fell.ensures.more)
    c.in_ok-commands.ensures.commands c.in_ok-commands.ensures.gates (c.in_ok-mark.ensures
    ∙ ap (λ x. commands_of c.commands.new.out.items ++ gates_commands x own (seat_width (length kids)) kids 0 c.len-first.result)
    c.is_open-has_fallen.ensures) c.in_ok-states.ensures.commands c.in_ok-states.ensures.gates).0

pub state-returns-clause-gates : goal.state-returns-clause-gates
state-returns-clause-gates t c =
    let kids = c.as_slice-children.result.now in
    let own = c.in_ok-own_seat.own_seat in
    (state_made c.args.seat.now c.args.group.now c.args.state.now kids c.as_slice.result.now own c.args.j c.args.gates.now c.in_ok-fell.fell
    c.len-first.result c.add_all.new.self c.commands.new.gates c.states.new.gates (commands_of c.args.out.now.items)
    (commands_of c.commands.new.out.items) (commands_of c.mark.new.out.items) (commands_of c.states.new.out.items)
    c.as_slice-children.ensures.value c.as_slice.ensures.value c.in_ok-own_seat.ensures c.in_ok-fell.ensures.number (c.len-first.ensures
    ∙ c.in_ok-fell.ensures.more) (c.in_ok-add_all.ensures ∙ ap (λ n. n + length kids) c.in_ok-fell.ensures.more)
    c.in_ok-commands.ensures.commands c.in_ok-commands.ensures.gates (c.in_ok-mark.ensures
    ∙ ap (λ x. commands_of c.commands.new.out.items ++ gates_commands x own (seat_width (length kids)) kids 0 c.len-first.result)
    c.is_open-has_fallen.ensures) c.in_ok-states.ensures.commands c.in_ok-states.ensures.gates).1
