use Rattle.sap_lemmas.proofs.Common.{◌≡◌, subst, OnOk, IfOk}
use Rattle.sap_ir.specs.Calcs.{term_of}
use Rattle.sap_lower.specs.Writes.{LowWrite}
use Rattle.sap_lower.proofs.Front.{choice_lowered}
use Rattle.sap_lower.proofs.writes.write_choice.Goals as goal

pub returns-clause-wires : goal.returns-clause-wires
returns-clause-wires c =
    let z = c.in_ok-test.ensures in
    let x = c.in_ok-first.ensures in
    let y = c.in_ok-second.ensures in
    let e =
    choice_lowered c.args.memories.now c.args.entries.now c.args.facts.now c.args.before c.args.memory.now c.args.when c.args.index.now c.args.wires.now
    c.lower_calc.new.wires c.lower_calc-2.new.wires c.lower_calc-3.new.wires (term_of c.args.choice.now.test.now) (term_of c.args.choice.now.first.now)
    (term_of c.args.choice.now.second.now) c.in_ok-test.test c.in_ok-first.first c.in_ok-second.second c.reads_cell-keeps.result z.wires z.part z.front x.wires x.part
    x.front y.wires y.part c.reads_cell-keeps.ensures in
    subst (λ (q : LowWrite). OnOk c.spare.result (c.spare.new.wires ≡ q.wires)) e c.spare.ensures.wires

pub returns-clause-write : goal.returns-clause-write
returns-clause-write c =
    let z = c.in_ok-test.ensures in
    let x = c.in_ok-first.ensures in
    let y = c.in_ok-second.ensures in
    let e =
    choice_lowered c.args.memories.now c.args.entries.now c.args.facts.now c.args.before c.args.memory.now c.args.when c.args.index.now c.args.wires.now
    c.lower_calc.new.wires c.lower_calc-2.new.wires c.lower_calc-3.new.wires (term_of c.args.choice.now.test.now) (term_of c.args.choice.now.first.now)
    (term_of c.args.choice.now.second.now) c.in_ok-test.test c.in_ok-first.first c.in_ok-second.second c.reads_cell-keeps.result z.wires z.part z.front x.wires x.part
    x.front y.wires y.part c.reads_cell-keeps.ensures in
    subst (λ (q : LowWrite). IfOk c.spare.result (λ w. w ≡ q.write)) e c.spare.ensures.write
