use Rattle.std.proofs.Common.{◌∙◌, List, ap, sym, subst, arith}
use Rattle.sap_meaning.specs.Program.{listed}
use Rattle.sap_ir.specs.Plain.Views.{forest_of}
use Rattle.sap_program.specs.Prelude.{flags, group_of}
use Rattle.sap_program.specs.declared.program.State.{State}
use Rattle.sap_tags_terms.specs.Parts.{StateFew, StateRanged, StatesFew, StatesRanged, state_wires, states_wires}
use Rattle.sap_tags_terms.specs.Code.{entities_in, setting_in}
use Rattle.sap_tagged.specs.States.{top_plain}
use Rattle.sap_tags_terms.proofs.Listed.{states_drop, wires_group_are}
use Rattle.sap_tags_terms.proofs.Few.{few_one}
use Rattle.sap_tags_terms.proofs.Ranged.{ranged_all, ranged_one}
use Rattle.sap_tags.proofs.Planted.{tops_step, tops_rest, tops_are_plain, planted_none, states_wires_step}
use Rattle.sap_tags.proofs.states.top_states.Goals as goal

pub loop-one-init : goal.loop-one-init
loop-one-init c = record { states = planted_none c.new-made.result.items _ c.new-made.ensures.items; wires = omega arith }

pub top_state-requires-clause-few : goal.top_state-requires-clause-few
top_state-requires-clause-few c =
    let s = c.args.setting.now in
    let ts = c.as_slice-states.result.now in
    let a = wires_group_are (entities_in s) s.program.now.states.items in
    let b = ap states_wires c.as_slice-states.ensures.value in
    let e = ap state_wires c.one-item.is in
    let d = states_drop ts c.loop-one.one-index c.one-item.result (omega arith) in
    omega (arith, a, b, d, e, c.loop-one.invariant.wires, c.requires.few)

pub top_state-requires-clause-ranged : goal.top_state-requires-clause-ranged
top_state-requires-clause-ranged c =
    let s = c.args.setting.now in
    subst (StateRanged s) (sym c.one-item.is)
    (ranged_one s c.as_slice-states.result.now c.loop-one.one-index c.one-item.result (omega arith)
    (subst (StatesRanged s) (sym c.as_slice-states.ensures.value) (ranged_all s s.program.now.states.items c.requires.ranged)))

pub top_state-requires-clause-arms : goal.top_state-requires-clause-arms
top_state-requires-clause-arms c =
    let s = c.args.setting.now in
    subst StateFew (sym c.one-item.is)
    (few_one c.as_slice-states.result.now c.loop-one.one-index c.one-item.result (omega arith) (subst StatesFew (sym c.as_slice-states.ensures.value) c.requires.arms))

pub loop-one-preserved : goal.loop-one-preserved
loop-one-preserved c =
    let ts = c.as_slice-states.result.now in record {
      states = tops_step c.args.setting.now ts c.loop-one.one-index c.one-item.result c.loop-one.next c.top_state.new.next
          c.loop-one.made.items c.push.new.self.items c.in_ok-built.built _ (omega arith) c.one-item.is c.in_ok-push.ensures.items
          c.in_ok-built.ensures.state c.in_ok-built.ensures.wires c.loop-one.invariant.states;
      wires = states_wires_step ts c.loop-one.one-index c.one-item.result c.loop-one.next c.top_state.new.next _ (omega arith) c.one-item.is
          c.in_ok-built.ensures.wires c.loop-one.invariant.wires;
    }

pub returns : goal.returns
returns c =
    let s = c.args.setting.now in
    tops_rest s c.as_slice-states.result.now c.loop-one.one-index c.loop-one.next (forest_of c.loop-one.made.items) _ (omega arith) c.loop-one.invariant.states
    ∙ tops_are_plain s 0 c.as_slice-states.result.now
    ∙ ap (λ (l : List State). top_plain (setting_in s) (listed (flags (entities_in s) s.program.now.hang)) 0 (group_of (entities_in s) l)) c.as_slice-states.ensures.value
