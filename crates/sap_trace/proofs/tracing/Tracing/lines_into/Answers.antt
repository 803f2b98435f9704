use Rattle.sap_lemmas.proofs.Common.{rules, ◌≡◌, ◌≤◌, ◌+◌, ◌*◌, ℕ, List, length, sym, ap, ◌∙◌, subst, with_items_is, places}
use Rattle.sap_lattice.specs.Levels.{Levels}
use Rattle.sap_net.specs.Prelude.{Net, InputsFit}
use Rattle.sap_check.specs.Checked.{levels_in, tree_in}
use Rattle.sap_check.specs.Sites.{sites_of}
use Rattle.sap_cycle.specs.Running.{ShowsNext}
use Rattle.sap_stim.specs.Fits.{LineFits}
use Rattle.sap_trace.specs.Given.{given}
use Rattle.sap_trace.specs.Seen.{AreWires}
use Rattle.sap_sim.specs.Stepped.{HasMore, Stepped}
use Rattle.sap_trace.specs.declared.wires.Wires.{Wires}
use Rattle.sap_trace.specs.Stepping.{IsAfter, IsPlanned}
use Rattle.sap_trace.proofs.Stepping.{after_more, fields_count, inputs_right, lines_more}
use Rattle.sap_trace.proofs.tracing.Tracing.lines_into.Goals as goal
use Rattle.sap_trace.proofs.tracing.Tracing.lines_into.Goals.{After-deref, After-deref_mut}

-- what the call finds
abbrev the : After-deref_mut → Stepped Wires
the c = record { runner = c.self.inside.runner; plan = c.self.inside.wires; fields = c.self.inside.fields; room = c.self.inside.room }

planned : (c : After-deref_mut) → IsPlanned (levels_in c.args.checked.now) (tree_in c.args.checked.now) (the c)
planned c = subst (IsPlanned (levels_in c.args.checked.now) (tree_in c.args.checked.now)) (sym c.self.view_is) c.requires.planned

fits : (c : After-deref_mut) → LineFits (levels_in c.args.checked.now) (the c).fields c.args.line.now
fits c = subst (λ (s : Stepped Wires). LineFits (levels_in c.args.checked.now) s.fields c.args.line.now) (sym c.self.view_is) c.requires.line

pub take_numbers-requires : goal.take_numbers-requires
take_numbers-requires c =
    let d = (goal.at.take_numbers-requires c).After-deref_mut in
    let count = fields_count (levels_in c.args.checked.now) (tree_in c.args.checked.now) (the d) c.args.line.now (planned d) (fits d) in
    ap length c.deref_mut.ensures.value ∙ c.self.invariant ∙ ap (λ (k : ℕ). 2 * k) (sym count ∙ sym (ap length c.values.ensures))

numbers_taken : (c : After-deref) → c.deref.result.now ≡ given (levels_in c.args.checked.now) c.args.line.now
numbers_taken c =
    c.deref.ensures.value ∙ with_items_is c.self.inside.numbers c.take_numbers.new.numbers (search (rules, places)) ∙ c.take_numbers.ensures
    ∙ ap (λ (ls : Levels). given ls c.values.result.now) c.lattice.ensures ∙ ap (given (levels_in c.args.checked.now)) c.values.ensures

pub step-requires : goal.step-requires
step-requires c =
    let d = (goal.at.step-requires c).After-deref_mut in
    subst (InputsFit c.self.inside.runner.net.inputs) (sym (numbers_taken (goal.at.step-requires c).After-deref))
    (inputs_right (levels_in c.args.checked.now) (tree_in c.args.checked.now) (the d) c.args.line.now (planned d) (fits d))

pub refused_into-requires-clause-wires : goal.refused_into-requires-clause-wires
refused_into-requires-clause-wires c =
    let d = (goal.at.refused_into-requires-clause-wires c).After-deref_mut in
    subst (λ (n : Net). AreWires n (length (sites_of (tree_in c.args.checked.now))) c.self.inside.wires) (sym c.step.ensures.netlist) (planned d).wires

pub refused_into-requires-clause-fits : goal.refused_into-requires-clause-fits
refused_into-requires-clause-fits c =
    let d = (goal.at.refused_into-requires-clause-fits c).After-deref_mut in
    (c.self.inside.room, (planned d).room, subst (λ (s : Stepped Wires). length c.args.out.now.bytes + s.room ≤ c.args.out.now.room) (sym c.self.view_is) c.requires.room)

pub returns-clause-after : goal.returns-clause-after
returns-clause-after c = λ n lines at.
    let d = (goal.at.returns-clause-after c).After-deref_mut in
    let next : ShowsNext c.self.inside.runner (given (levels_in c.args.checked.now) c.args.line.now) c.step.new.self =
    subst (λ (xs : List ℕ). ShowsNext c.self.inside.runner xs c.step.new.self) (numbers_taken (goal.at.returns-clause-after c).After-deref) c.step.ensures.next in
    let ls = levels_in c.args.checked.now in
    let t = tree_in c.args.checked.now in
    after_more ls t n (the d) lines c.args.line.now c.step.new.self (subst (IsAfter ls t n lines) (sym c.self.view_is) at) c.step.ensures.netlist next

pub returns-clause-lines : goal.returns-clause-lines
returns-clause-lines c = λ n lines at.
    let d = (goal.at.returns-clause-lines c).After-deref_mut in
    let next : ShowsNext c.self.inside.runner (given (levels_in c.args.checked.now) c.args.line.now) c.step.new.self =
    subst (λ (xs : List ℕ). ShowsNext c.self.inside.runner xs c.step.new.self) (numbers_taken (goal.at.returns-clause-lines c).After-deref) c.step.ensures.next in
    let ls = levels_in c.args.checked.now in
    let t = tree_in c.args.checked.now in
    lines_more ls t n (the d) lines c.args.line.now c.step.new.self (subst (IsAfter ls t n lines) (sym c.self.view_is) at) c.step.ensures.netlist next
    c.args.cycle c.args.out.now.bytes c.refused_into.new.out.bytes (λ k shows. c.refused_into.ensures.text k shows)

pub returns-clause-more : goal.returns-clause-more
returns-clause-more c =
    let d = (goal.at.returns-clause-more c).After-deref_mut in
    subst (λ (s : Stepped Wires). HasMore s.room c.args.out.now.bytes c.refused_into.new.out.bytes) c.self.view_is
    (c.refused_into.ensures.more c.self.inside.room (planned d).room)
