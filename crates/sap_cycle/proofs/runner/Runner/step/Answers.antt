use Rattle.std.proofs.Common.{◌≡◌, Some, length, take, drop, ◌++◌, sym, ap, ◌∙◌, subst, refl, rules, arith}
use Rattle.sap_net.specs.Runs.{IsCycle, InputsFit}
use Rattle.sap_cycle.specs.Turned.{values_turned, cells_turned}
use Rattle.sap_cycle.specs.Running.{Running, Shows}
use Rattle.sap_cycle.proofs.Cycle.{turn_is, nexts_long, whole_back}
use Rattle.sap_cycle.proofs.runner.Runner.step.Goals as goal

pub turn-requires-clause-same : goal.turn-requires-clause-same
turn-requires-clause-same c =
    let i = c.self.invariant in
    let e : length c.self.inside.program.nexts.items ≡ length c.self.inside.netlist.registers = nexts_long _ _ _ i.program.nexts in
    rw c.deref_mut-3.ensures.value (i.edge_long ∙ sym e)

-- some cycle can be turned to, whichever it is
pub turn-requires-clause-can : goal.turn-requires-clause-can
turn-requires-clause-can c =
    let i = c.self.invariant in
    let n = c.self.inside.netlist in
    let inputs = c.args.inputs.now in
    let fit : InputsFit n.inputs inputs = subst (λ (r : Running). InputsFit r.net.inputs inputs) (sym c.self.view_is) c.requires in
    let cycle = c.one_cycle.ensures.some i.shown.0 inputs i.shown.1 fit in
    let t = turn_is n i.rules c.self.inside.program i.program i.shown.0 inputs c.self.inside.values.items c.self.inside.cells.items cycle.0
    i.shown.2.values i.shown.2.cells cycle.1 in
    rw (c.deref_mut.ensures.value, c.deref_mut-2.ensures.value) t.can

pub invariant_of-self : goal.invariant_of-self
invariant_of-self c =
    let i = c.self.invariant in
    let n = c.self.inside.netlist in
    let inputs = c.args.inputs.now in
    let values = c.self.inside.values.items in
    let cells = c.self.inside.cells.items in
    let fit : InputsFit n.inputs inputs = subst (λ (r : Running). InputsFit r.net.inputs inputs) (sym c.self.view_is) c.requires in
    let cycle = c.one_cycle.ensures.some i.shown.0 inputs i.shown.1 fit in
    let t = turn_is n i.rules c.self.inside.program i.program i.shown.0 inputs values cells cycle.0 i.shown.2.values i.shown.2.cells cycle.1 in
    let ev : c.turn.new.values ≡ values_turned c.self.inside.program inputs values cells =
    c.turn.ensures.values ∙ rw (c.deref_mut.ensures.value, c.deref_mut-2.ensures.value) refl in
    let ec : c.turn.new.cells ≡ cells_turned c.self.inside.program inputs values cells = c.turn.ensures.cells ∙ rw (c.deref_mut.ensures.value, c.deref_mut-2.ensures.value) refl in
    let bv : take c.self.inside.values.len (c.turn.new.values ++ drop (length c.turn.new.values) values) ≡ c.turn.new.values = whole_back _ _ _ (search rules) (search rules) in
    let bc : take c.self.inside.cells.len (c.turn.new.cells ++ drop (length c.turn.new.cells) cells) ≡ c.turn.new.cells = whole_back _ _ _ (search rules) (search rules) in
    let edge : length (take c.self.inside.edge.len (c.turn.new.edge ++ drop (length c.turn.new.edge) c.self.inside.edge.items)) ≡ length n.registers =
    ap length (whole_back c.turn.new.edge c.self.inside.edge.items c.self.inside.edge.len (search rules) (search rules)) ∙ omega (arith, i.edge_long) in
    record {
      rules = i.rules;
      program = i.program;
      edge_long = edge;
      values_found = i.values_found;
      memories_found = i.memories_found;
      shown = (
        Some cycle.0,
        cycle.1.valuation.within,
        record { stepped = refl; values = bv ∙ ev ∙ t.values_are; cells = bc ∙ ec ∙ t.cells_are },
      );
    }

pub returns-clause-next : goal.returns-clause-next
returns-clause-next c = λ before v shows cycle.
    let i = c.self.invariant in
    let n = c.self.inside.netlist in
    let inputs = c.args.inputs.now in
    let values = c.self.inside.values.items in
    let cells = c.self.inside.cells.items in
    let here : Running = record { net = n; stepped = c.self.inside.stepped; values = values; cells = cells } in
    let shows' : Shows here before = subst (λ (r : Running). Shows r before) (sym c.self.view_is) shows in
    let cycle' : IsCycle n before inputs v = subst (λ (r : Running). IsCycle r.net before inputs v) (sym c.self.view_is) cycle in
    let t = turn_is n i.rules c.self.inside.program i.program before inputs values cells v shows'.values shows'.cells cycle' in
    let ev : c.turn.new.values ≡ values_turned c.self.inside.program inputs values cells =
    c.turn.ensures.values ∙ rw (c.deref_mut.ensures.value, c.deref_mut-2.ensures.value) refl in
    let ec : c.turn.new.cells ≡ cells_turned c.self.inside.program inputs values cells = c.turn.ensures.cells ∙ rw (c.deref_mut.ensures.value, c.deref_mut-2.ensures.value) refl in
    let bv : take c.self.inside.values.len (c.turn.new.values ++ drop (length c.turn.new.values) values) ≡ c.turn.new.values = whole_back _ _ _ (search rules) (search rules) in
    let bc : take c.self.inside.cells.len (c.turn.new.cells ++ drop (length c.turn.new.cells) cells) ≡ c.turn.new.cells = whole_back _ _ _ (search rules) (search rules) in
    record { stepped = refl; values = bv ∙ ev ∙ t.values_are; cells = bc ∙ ec ∙ t.cells_are }
