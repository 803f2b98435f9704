use Rattle.std.proofs.Common.{◌∙◌, refl, ap, arith}
use Rattle.sap_ir.specs.Prelude.{stop, body_of, follow}
use Rattle.sap_program.specs.declared.program.State.{out-State}
use Rattle.sap_tags_terms.specs.Code.{setting_in}
use Rattle.sap_tagged.specs.Prelude.{gives, wire_key}
use Rattle.sap_tags_effects.proofs.Pushed.{fresh}
use Rattle.sap_tags_terms.proofs.Few.{few_body, few_children}
use Rattle.sap_tags_terms.proofs.Ranged.{ranged_body, ranged_children}
use Rattle.sap_tags.proofs.Planted.{top_made, room}
use Rattle.sap_tags.proofs.states.top_state.Goals as goal

pub overflow_add-next : goal.overflow_add-next
overflow_add-next c =
    let r = room c.args.state.now c.as_slice-body.result.now c.as_slice-children.result.now c.as_slice-body.ensures.value c.as_slice-children.ensures.value in
    omega (arith, r, c.requires.few)

pub commands-requires-clause-few : goal.commands-requires-clause-few
commands-requires-clause-few c =
    let r = room c.args.state.now c.as_slice-body.result.now c.as_slice-children.result.now c.as_slice-body.ensures.value c.as_slice-children.ensures.value in
    omega (arith, r, c.requires.few)

pub commands-requires-clause-ranged : goal.commands-requires-clause-ranged
commands-requires-clause-ranged c = ranged_body c.args.setting.now c.args.state.now c.as_slice-body.result.now c.as_slice-body.ensures.value c.requires.ranged

pub commands-requires-clause-arms : goal.commands-requires-clause-arms
commands-requires-clause-arms c = few_body c.args.state.now c.as_slice-body.result.now c.as_slice-body.ensures.value c.requires.arms

pub states-requires-clause-few : goal.states-requires-clause-few
states-requires-clause-few c =
    let r = room c.args.state.now c.as_slice-body.result.now c.as_slice-children.result.now c.as_slice-body.ensures.value c.as_slice-children.ensures.value in
    omega (arith, r, c.requires.few, c.in_ok-commands.ensures.wires)

pub states-requires-clause-ranged : goal.states-requires-clause-ranged
states-requires-clause-ranged c = ranged_children c.args.setting.now c.args.state.now c.as_slice-children.result.now c.as_slice-children.ensures.value c.requires.ranged

pub states-requires-clause-arms : goal.states-requires-clause-arms
states-requires-clause-arms c = few_children c.args.state.now c.as_slice-children.result.now c.as_slice-children.ensures.value c.requires.arms

pub returns-clause-state : goal.returns-clause-state
returns-clause-state c =
    let s = c.args.setting.now in
    let k = c.args.next.now in
    let b1 = body_of c.save_all.new.out.items in
    top_made s k c.commands.new.next c.args.state.now
    (record { state = (out-State c.args.state.now).number; parent = c.len.result; children = c.as_slice-children.result })
    c.numbers.result.now c.as_slice-body.result.now c.as_slice-children.result.now
    (record { name = c.in_ok-name.name; cmds = c.commands.new.out; children = c.in_ok-children.children })
    b1 (body_of c.set_wire.new.out.items) (body_of c.raise_all.new.out.items)
    refl (omega (arith, c.len.ensures, s.program.now.entities.ok.0)) refl c.numbers.ensures.same c.as_slice-body.ensures.value
    c.as_slice-children.ensures.value c.in_ok-commands.ensures.wires
    c.in_ok-name.ensures
    (fresh c.new-cmds.result.items _ _ c.new-cmds.ensures.items c.in_ok-save_all.ensures)
    (c.in_ok-set_wire.ensures ∙ ap (λ v. follow b1 (gives (setting_in s) (wire_key k) v stop)) c.in_ok-level.ensures)
    c.in_ok-raise_all.ensures
    c.in_ok-commands.ensures.body
    c.in_ok-children.ensures.states

pub returns-clause-wires : goal.returns-clause-wires
returns-clause-wires c =
    let r = room c.args.state.now c.as_slice-body.result.now c.as_slice-children.result.now c.as_slice-body.ensures.value c.as_slice-children.ensures.value in
    omega (arith, r, c.in_ok-children.ensures.wires, c.in_ok-commands.ensures.wires)
