use Rattle.std.proofs.Common.{◌∙◌, refl, ap, sym, subst, arith}
use Rattle.sap_ir.specs.Prelude.{stop, body_of, forest_of}
use Rattle.sap_program.specs.declared.program.State.{out-State}
use Rattle.sap_tags_terms.specs.Parts.{StateFew, StateRanged, state_wires}
use Rattle.sap_tags_terms.specs.Code.{setting_in}
use Rattle.sap_tagged.specs.Prelude.{gives, wire_key}
use Rattle.sap_tags_effects.proofs.Pushed.{fresh}
use Rattle.sap_tags_terms.proofs.Listed.{states_in, states_drop, states_past}
use Rattle.sap_tags_terms.proofs.Few.{few_body, few_children, few_one}
use Rattle.sap_tags_terms.proofs.Ranged.{ranged_body, ranged_children, ranged_one}
use Rattle.sap_tags.proofs.Planted.{state_made, states_step, states_rest, planted_none, states_wires_step, room}
use Rattle.sap_tags.proofs.states.+group.Goals as goal

pub state-overflow_add-next : goal.state-overflow_add-next
state-overflow_add-next t c =
    let r = room c.args.state.now c.as_slice-body.result.now c.as_slice-children.result.now c.as_slice-body.ensures.value c.as_slice-children.ensures.value in
    omega (arith, r, c.requires.few)

pub state-commands-requires-clause-few : goal.state-commands-requires-clause-few
state-commands-requires-clause-few t c =
    let r = room c.args.state.now c.as_slice-body.result.now c.as_slice-children.result.now c.as_slice-body.ensures.value c.as_slice-children.ensures.value in
    omega (arith, r, c.requires.few)

pub state-commands-requires-clause-ranged : goal.state-commands-requires-clause-ranged
state-commands-requires-clause-ranged t c = ranged_body c.args.setting.now c.args.state.now c.as_slice-body.result.now c.as_slice-body.ensures.value c.requires.ranged

pub state-commands-requires-clause-arms : goal.state-commands-requires-clause-arms
state-commands-requires-clause-arms t c = few_body c.args.state.now c.as_slice-body.result.now c.as_slice-body.ensures.value c.requires.arms

pub state-states-requires : goal.state-states-requires
state-states-requires t c =
    let r = room c.args.state.now c.as_slice-body.result.now c.as_slice-children.result.now c.as_slice-body.ensures.value c.as_slice-children.ensures.value in (
      omega (arith, r),
      (
        omega (arith, r, c.requires.few, c.in_ok-commands.ensures.wires),
        (
          ranged_children c.args.setting.now c.args.state.now c.as_slice-children.result.now c.as_slice-children.ensures.value c.requires.ranged,
          few_children c.args.state.now c.as_slice-children.result.now c.as_slice-children.ensures.value c.requires.arms,
        ),
      ),
    )

pub state-returns-clause-state : goal.state-returns-clause-state
state-returns-clause-state t c =
    let s = c.args.setting.now in
    let k = c.args.next.now in
    state_made s c.args.parent k c.commands.new.next c.args.state.now
    (record { state = (out-State c.args.state.now).number; parent = c.args.parent; children = c.as_slice-children.result })
    c.as_slice-body.result.now c.as_slice-children.result.now
    (record { name = c.in_ok-name.name; cmds = c.commands.new.out; children = c.in_ok-children.children })
    (body_of c.set_wire.new.out.items)
    refl refl refl c.as_slice-body.ensures.value c.as_slice-children.ensures.value c.in_ok-commands.ensures.wires
    c.in_ok-name.ensures
    (fresh c.new-cmds.result.items _ _ c.new-cmds.ensures.items c.in_ok-set_wire.ensures ∙ ap (λ v. gives (setting_in s) (wire_key k) v stop) c.inner_variable-context.ensures)
    c.in_ok-commands.ensures.body
    c.in_ok-children.ensures.states

pub state-returns-clause-wires : goal.state-returns-clause-wires
state-returns-clause-wires t c =
    let r = room c.args.state.now c.as_slice-body.result.now c.as_slice-children.result.now c.as_slice-body.ensures.value c.as_slice-children.ensures.value in
    omega (arith, r, c.in_ok-children.ensures.wires, c.in_ok-commands.ensures.wires)

pub states-loop-one-init : goal.states-loop-one-init
states-loop-one-init t c = record { states = planted_none c.new-made.result.items _ c.new-made.ensures.items; wires = refl }

pub states-state-requires : goal.states-state-requires
states-state-requires t c =
    let ts = c.args.states.now in
    let i = c.loop-one.one-index in
    let w = states_in ts i c.one-item.result (omega arith) in
    let e = ap state_wires c.one-item.is in
    let d = states_drop ts i c.one-item.result (omega arith) in (
      omega (arith, w, e),
      (
        omega (arith, d, e, c.loop-one.invariant.wires, c.requires.few),
        (
          subst (StateRanged c.args.setting.now) (sym c.one-item.is) (ranged_one c.args.setting.now ts i c.one-item.result (omega arith) c.requires.ranged),
          subst StateFew (sym c.one-item.is) (few_one ts i c.one-item.result (omega arith) c.requires.arms),
        ),
      ),
    )

pub states-loop-one-preserved : goal.states-loop-one-preserved
states-loop-one-preserved t c = record {
  states = states_step c.args.setting.now c.args.parent c.args.states.now c.loop-one.one-index c.one-item.result c.loop-one.next
      c.state.new.next c.loop-one.made.items c.push.new.self.items c.in_ok-built.built _ (omega arith) c.one-item.is
      c.in_ok-push.ensures.items c.in_ok-built.ensures.state c.in_ok-built.ensures.wires c.loop-one.invariant.states;
  wires = states_wires_step c.args.states.now c.loop-one.one-index c.one-item.result c.loop-one.next c.state.new.next _ (omega arith)
      c.one-item.is c.in_ok-built.ensures.wires c.loop-one.invariant.wires;
}

pub states-returns-clause-states : goal.states-returns-clause-states
states-returns-clause-states t c =
    states_rest c.args.setting.now c.args.parent c.args.states.now c.loop-one.one-index c.loop-one.next (forest_of c.loop-one.made.items)
    _ (omega arith) c.loop-one.invariant.states

pub states-returns-clause-wires : goal.states-returns-clause-wires
states-returns-clause-wires t c =
    let p = states_past c.args.states.now c.loop-one.one-index (omega arith) in
    omega (arith, p, c.loop-one.invariant.wires)
