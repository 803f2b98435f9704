use Rattle.sap_lemmas.proofs.Common.{rules, ◌≡◌, ◌<◌, ◌≤◌, ◌+◌, ◌++◌, ℕ, List, length, map, sym, ap, ◌∙◌, subst, All, with_items_is, places}
use Rattle.sap_maps.specs.Maps.{Name}
use Rattle.sap_meaning.specs.Cycle.{Tagged as Given}
use Rattle.sap_net.specs.IsNetlist.{IsNetlist}
use Rattle.sap_cycle.specs.Running.{seen, ShowsNext}
use Rattle.sap_stim.specs.Fits.{LineFits}
use Rattle.sap_stim.specs.Rows.{AreLevelTexts, HoldsRows, row_text, shown_of}
use Rattle.sap_sim.specs.declared.sources.Source.{Source}
use Rattle.sap_sim.specs.Prelude.{number_from, seen_at, source_place, numbers_of, HasMore, Stepped, IsAfter, IsPlanned}
use Rattle.sap_sim.specs.declared.steps.Plan.{Plan}
use Rattle.sap_sim.proofs.Stepping.{after_more, inputs_right, numbers_right, row_more, sources_there, tags_count, values_count}
use Rattle.sap_sim.proofs.simulation.Simulation.row_into.Goals as goal
use Rattle.sap_sim.proofs.simulation.Simulation.row_into.Goals.{After-deref-2, After-deref-5, After-values}

-- what the call finds
abbrev the : After-values → Stepped Plan
the c = record { runner = c.self.inside.runner; plan = c.self.inside.plan; fields = c.self.inside.fields; room = c.self.inside.room }

planned : (c : After-values) → IsPlanned c.args.lattice.now (the c)
planned c = subst (IsPlanned c.args.lattice.now) (sym c.self.view_is) c.requires.planned

fits : (c : After-values) → LineFits c.args.lattice.now (the c).fields c.args.line.now
fits c = subst (λ (s : Stepped Plan). LineFits c.args.lattice.now s.fields c.args.line.now) (sym c.self.view_is) c.requires.line

pub take_numbers-requires-clause-places : goal.take_numbers-requires-clause-places
take_numbers-requires-clause-places c =
    let d = (goal.at.take_numbers-requires-clause-places c).After-values in
    subst (λ (list : List Source). All (λ x. source_place x < length c.values.result.now) list) (sym c.deref.ensures.value)
    (subst (λ (xs : List Given). All (λ x. source_place x < length xs) c.self.inside.plan.sources.items) (sym c.values.ensures)
    (sources_there c.args.lattice.now (the d) c.args.line.now (planned d) (fits d)))

numbers_taken : (c : After-deref-2) → c.deref-2.result.now ≡ map (number_from c.args.lattice.now c.args.line.now) c.self.inside.plan.sources.items
numbers_taken c =
    c.deref-2.ensures.value ∙ with_items_is c.self.inside.numbers c.take_numbers.new.numbers (search (rules, places)) ∙ c.take_numbers.ensures
    ∙ ap (λ (xs : List Given). map (number_from c.args.lattice.now xs) c.deref.result.now) c.values.ensures
    ∙ ap (map (number_from c.args.lattice.now c.args.line.now)) c.deref.ensures.value

pub step-requires : goal.step-requires
step-requires c =
    let d = (goal.at.step-requires c).After-values in
    inputs_right c.args.lattice.now (the d) c.args.line.now (planned d) (fits d) c.deref-2.result.now c.lawful.ensures.codes (subst IsNetlist c.netlist.ensures c.rules.ensures)
    (numbers_taken (goal.at.step-requires c).After-deref-2)

-- the labels are those of the names
named : (c : After-deref-5) → c.deref-5.result.now ≡ c.self.inside.plan.shown.names.items
named c = c.deref-5.ensures.value ∙ c.self.invariant.3

pub push_held-requires-clause-values : goal.push_held-requires-clause-values
push_held-requires-clause-values c =
    let d = (goal.at.push_held-requires-clause-values c).After-values in
    ap length (c.deref-6.ensures.value ∙ with_items_is c.self.inside.values c.take_seen.new.numbers (search (rules, places)))
    ∙ c.take_seen.ensures.count ∙ ap length c.deref-3.ensures.value
    ∙ values_count c.args.lattice.now (the d) (planned d) ∙ sym (ap length (named (goal.at.push_held-requires-clause-values c).After-deref-5))

pub push_held-requires-clause-tags : goal.push_held-requires-clause-tags
push_held-requires-clause-tags c =
    let d = (goal.at.push_held-requires-clause-tags c).After-values in
    ap length (c.deref-7.ensures.value ∙ with_items_is c.self.inside.tags c.take_seen-2.new.numbers (search (rules, places)))
    ∙ c.take_seen-2.ensures.count ∙ ap length c.deref-4.ensures.value
    ∙ tags_count c.args.lattice.now (the d) (planned d) ∙ sym (ap length (named (goal.at.push_held-requires-clause-tags c).After-deref-5))

pub push_held-requires-clause-levels : goal.push_held-requires-clause-levels
push_held-requires-clause-levels c =
    let d = (goal.at.push_held-requires-clause-levels c).After-values in
    subst (AreLevelTexts c.args.lattice.now) (sym c.deref-8.ensures.value) (planned d).plan.levels

pub push_held-requires-clause-room : goal.push_held-requires-clause-room
push_held-requires-clause-room c =
    let d = (goal.at.push_held-requires-clause-room c).After-values in (
      c.self.inside.room,
      subst (λ (names : List Name). HoldsRows c.args.lattice.now names c.self.inside.room) (sym (named (goal.at.push_held-requires-clause-room c).After-deref-5)) (planned d).room,
      subst (λ (s : Stepped Plan). length c.args.out.now.bytes + s.room ≤ c.args.out.now.room) (sym c.self.view_is) c.requires.room,
    )

pub returns-clause-after : goal.returns-clause-after
returns-clause-after c = λ n lines at.
    let d = (goal.at.returns-clause-after c).After-values in
    let ls = c.args.lattice.now in
    let right = numbers_taken (goal.at.returns-clause-after c).After-deref-2 ∙ numbers_right c.args.lattice.now (the d) c.args.line.now (planned d) (fits d) in
    let next : ShowsNext c.self.inside.runner (numbers_of c.args.lattice.now c.self.inside.runner.net c.args.line.now) c.step.new.self =
    subst (λ (xs : List ℕ). ShowsNext c.self.inside.runner xs c.step.new.self) right c.step.ensures.next in
    after_more ls n (the d) lines c.args.line.now c.step.new.self (subst (IsAfter ls n lines) (sym c.self.view_is) at) c.step.ensures.netlist next

pub returns-clause-row : goal.returns-clause-row
returns-clause-row c = λ n lines at.
    let d = (goal.at.returns-clause-row c).After-values in
    let ls = c.args.lattice.now in
    let right = numbers_taken (goal.at.returns-clause-row c).After-deref-2 ∙ numbers_right c.args.lattice.now (the d) c.args.line.now (planned d) (fits d) in
    let next : ShowsNext c.self.inside.runner (numbers_of c.args.lattice.now c.self.inside.runner.net c.args.line.now) c.step.new.self =
    subst (λ (xs : List ℕ). ShowsNext c.self.inside.runner xs c.step.new.self) right c.step.ensures.next in
    let m = c.step.new.self.net in
    row_more ls n (the d) lines c.args.line.now c.step.new.self (subst (IsAfter ls n lines) (sym c.self.view_is) at) c.step.ensures.netlist next
    c.args.cycle c.args.out.now.bytes c.push_held.new.out.bytes c.deref-6.result.now c.deref-7.result.now
    (λ k shows. c.deref-6.ensures.value ∙ with_items_is c.self.inside.values c.take_seen.new.numbers (search (rules, places))
    ∙ c.take_seen.ensures.seen k shows ∙ ap (seen_at m (seen m k)) c.deref-3.ensures.value)
    (λ k shows. c.deref-7.ensures.value ∙ with_items_is c.self.inside.tags c.take_seen-2.new.numbers (search (rules, places))
    ∙ c.take_seen-2.ensures.seen k shows ∙ ap (seen_at m (seen m k)) c.deref-4.ensures.value)
    (c.push_held.ensures.text ∙ ap (λ (names : List Name). c.args.out.now.bytes
    ++ row_text c.args.cycle (shown_of ls names c.deref-6.result.now c.deref-7.result.now)) (named (goal.at.returns-clause-row c).After-deref-5))

pub returns-clause-more : goal.returns-clause-more
returns-clause-more c =
    let d = (goal.at.returns-clause-more c).After-values in
    let holds : HoldsRows c.args.lattice.now c.deref-5.result.now c.self.inside.room
    = subst (λ (names : List Name). HoldsRows c.args.lattice.now names c.self.inside.room) (sym (named (goal.at.returns-clause-more c).After-deref-5)) (planned d).room in
    subst (λ (s : Stepped Plan). HasMore s.room c.args.out.now.bytes c.push_held.new.out.bytes) c.self.view_is (c.push_held.ensures.more c.self.inside.room holds)
