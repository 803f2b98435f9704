use Rattle.sap_lemmas.proofs.Common.{rules, ◌≡◌, ◌<◌, ℕ, List, length, map, sym, ap, ◌∙◌, subst, All, with_items_is, places}
use Rattle.sap_net.specs.IsNetlist.{IsNetlist}
use Rattle.sap_cycle.specs.Running.{ShowsNext}
use Rattle.sap_stim.specs.Fits.{LineFits}
use Rattle.sap_sim.specs.declared.sources.Source.{Source}
use Rattle.sap_sim.specs.Prelude.{number_from, source_place, numbers_of, Stepped, IsPlanned}
use Rattle.sap_sim.specs.declared.steps.Plan.{Plan}
use Rattle.sap_sim.proofs.Stepping.{inputs_right, numbers_right, planned_still, sources_there}
use Rattle.sap_sim.proofs.simulation.Simulation.step.Goals as goal
use Rattle.sap_sim.proofs.simulation.Simulation.step.Goals.{After-deref-2, After-self}

-- what the call finds
abbrev the : After-self → Stepped Plan
the c = record { runner = c.self.inside.runner; plan = c.self.inside.plan; fields = c.self.inside.fields; room = c.self.inside.room }

planned : (c : After-self) → IsPlanned c.args.lattice.now (the c)
planned c = subst (IsPlanned c.args.lattice.now) (sym c.self.view_is) c.requires.planned

fits : (c : After-self) → LineFits c.args.lattice.now (the c).fields c.args.line.now
fits c = subst (λ (s : Stepped Plan). LineFits c.args.lattice.now s.fields c.args.line.now) (sym c.self.view_is) c.requires.line

pub take_numbers-requires-clause-places : goal.take_numbers-requires-clause-places
take_numbers-requires-clause-places c =
    let d = (goal.at.take_numbers-requires-clause-places c).After-self in
    subst (λ (list : List Source). All (λ x. source_place x < length c.args.line.now) list) (sym c.deref.ensures.value)
    (sources_there c.args.lattice.now (the d) c.args.line.now (planned d) (fits d))

numbers_taken : (c : After-deref-2) → c.deref-2.result.now ≡ map (number_from c.args.lattice.now c.args.line.now) c.self.inside.plan.sources.items
numbers_taken c =
    c.deref-2.ensures.value ∙ with_items_is c.self.inside.numbers c.take_numbers.new.numbers (search (rules, places)) ∙ c.take_numbers.ensures
    ∙ ap (map (number_from c.args.lattice.now c.args.line.now)) c.deref.ensures.value

pub step-requires : goal.step-requires
step-requires c =
    let d = (goal.at.step-requires c).After-self in
    inputs_right c.args.lattice.now (the d) c.args.line.now (planned d) (fits d) c.deref-2.result.now c.lawful.ensures.codes (subst IsNetlist c.netlist.ensures c.rules.ensures)
    (numbers_taken (goal.at.step-requires c).After-deref-2)

pub returns-clause-next : goal.returns-clause-next
returns-clause-next c =
    let d = (goal.at.returns-clause-next c).After-self in
    let ls = c.args.lattice.now in
    let line = c.args.line.now in
    let right = numbers_taken (goal.at.returns-clause-next c).After-deref-2 ∙ numbers_right ls (the d) line (planned d) (fits d) in
    let next : ShowsNext c.self.inside.runner (numbers_of c.args.lattice.now c.self.inside.runner.net c.args.line.now) c.step.new.self =
    subst (λ (xs : List ℕ). ShowsNext c.self.inside.runner xs c.step.new.self) right c.step.ensures.next in
    subst (λ (s : Stepped Plan). ShowsNext s.runner (numbers_of c.args.lattice.now s.runner.net c.args.line.now) c.step.new.self) c.self.view_is next

pub returns-clause-planned : goal.returns-clause-planned
returns-clause-planned c =
    let d = (goal.at.returns-clause-planned c).After-self in
    planned_still c.args.lattice.now (the d) c.step.new.self c.step.ensures.netlist (planned d)
