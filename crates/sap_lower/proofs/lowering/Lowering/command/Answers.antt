use Rattle.sap_lemmas.proofs.Common.{◌≡◌, ◌∙◌, sym, ap, subst, OnOk}
use Rattle.sap_ir.specs.Calcs.{action_of, term_of}
use Rattle.sap_ir.specs.Prelude.{Action}
use Rattle.sap_lower.specs.declared.lowering.Lowering.{Lowering}
use Rattle.sap_lower.specs.Commands.{low_action}
use Rattle.sap_lower.proofs.Commanded.{put_lowered, set_lowered}
use Rattle.sap_lower.proofs.lowering.Lowering.command.Goals as goal

pub returns-in-Set : goal.returns-in-Set
returns-in-Set c =
    let ms = c.args.memories.now in
    let l = c.args.self.now in
    let when = term_of c.args.cmd.now.when in
    let gate = c.in_ok-when.ensures in
    let value = c.in_ok-value-in-Set.ensures in
    let e =
    set_lowered ms l when c.lower_calc.new.wires c.in_ok-when.when c.len-before.result c.as_slice-facts.result.now gate.wires gate.part c.len-before.ensures
    (c.as_slice-facts.ensures.value ∙ c.in_ok-facts.ensures) c.in-Set.name (term_of c.in-Set.value) c.lower_calc-in-Set.new.wires c.in_ok-value-in-Set.value
    value.wires value.part value.front
    ∙ ap (λ (a : Action). low_action ms l when a) (sym (ap action_of c.in-Set.is)) in
    subst (λ (q : Lowering). OnOk c.set.result (c.set.new.self ≡ q)) e c.set.ensures

pub returns : goal.returns
returns c =
    let ms = c.args.memories.now in
    let l = c.args.self.now in
    let when = term_of c.args.cmd.now.when in
    let gate = c.in_ok-when.ensures in
    let index = c.in_ok-index-in-Put.ensures in
    let write = c.in_ok-write-in-Put.ensures in
    let e =
    put_lowered ms l when c.lower_calc.new.wires c.in_ok-when.when c.len-before.result c.as_slice-facts.result.now gate.wires gate.part c.len-before.ensures
    (c.as_slice-facts.ensures.value ∙ c.in_ok-facts.ensures) c.in-Put.memory (term_of c.in-Put.index) (term_of c.in-Put.value) c.lower_calc-in-Put.new.wires
    c.write_calc.new.wires c.in_ok-index-in-Put.index c.in_ok-write-in-Put.write index.wires index.part index.front write.wires write.write
    ∙ ap (λ (a : Action). low_action ms l when a) (sym (ap action_of c.in-Put.is)) in
    subst (λ (q : Lowering). OnOk c.put.result (c.put.new.self ≡ q)) e c.put.ensures
