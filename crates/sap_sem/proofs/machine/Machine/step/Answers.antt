use Rattle.sap_lemmas.proofs.Common.{◌≡◌, ◌∙◌, ℕ, List, Option, None, get_or, length, rules, ap, sym, subst, with_items_is, places}
use Rattle.sap_meaning.specs.Prelude.{cycle, cycle_listed, Sublist, refused_sites, numbers_from, Resting, After, Store}
use Rattle.sap_sem.specs.Machine.{IsSite, program_of, refusal_of, refusals_from, site_count_of, state_of}
use Rattle.sap_sem.specs.Seen.{MachineSeen}
use Rattle.sap_run.specs.Runs.{GroupAble}
use Rattle.sap_sem.proofs.Refused.{told, told_again}
use Rattle.sap_sem.proofs.machine.Machine.step.Goals as goal
use Rattle.sap_sem.proofs.machine.Machine.step.Goals.{After-self}

-- what the call finds
abbrev the : After-self → MachineSeen
the c = record { lattice = c.self.inside.lattice; program = c.self.inside.program; store = c.self.inside.store; refusals = c.self.inside.refusals.items }

abbrev after : (c : After-self) → After
after c = cycle (program_of (the c)) c.args.inputs.now (state_of (the c))

listed : (c : After-self) → cycle_listed (program_of (the c)) c.args.inputs.now (state_of (the c)) ≡ after c
listed c = c.lists_serve.ensures (program_of (the c)) c.self.invariant.sound.exact c.args.inputs.now (state_of (the c))

rises : (c : After-self) → Sublist (refused_sites (after c).refused) (numbers_from 1 (site_count_of (the c)))
rises c =
    subst (λ (ns : List ℕ). Sublist (refused_sites (after c).refused) ns) c.self.invariant.sound.sites
    (c.refusals_in_order.ensures (program_of (the c)) c.self.invariant.sound.fine c.args.inputs.now (state_of (the c))).0

pub turn-requires-clause-able : goal.turn-requires-clause-able
unfolding GroupAble
turn-requires-clause-able c = c.self.invariant.sound.able

pub returns-clause-refusals : goal.returns-clause-refusals
returns-clause-refusals c =
    let d = (goal.at.returns-clause-refusals c).After-self in
    let i = c.args.inputs.now in
    let count = site_count_of (the d) in
    let here =
    ap (λ (l : List (Option ℕ)). refusals_from (λ k. get_or l k None) 1 count) (with_items_is c.self.inside.refusals c.turn.new.marks (search (rules, places)))
    ∙ told_again _ _ c.turn.new.marks (length c.deref_mut.result.now) count c.turn.ensures.marks (ap (λ (a : After). a.refused) (listed d)) (rises d)
    (ap (λ (l : List (Option ℕ)). length l) c.deref_mut.ensures.value ∙ c.self.invariant.marks) in
    here ∙ ap (λ (m : MachineSeen). (cycle (program_of m) i (state_of m)).refused) c.self.view_is

pub returns-clause-refused : goal.returns-clause-refused
returns-clause-refused c = λ k h.
    let d = (goal.at.returns-clause-refused c).After-self in
    let i = c.args.inputs.now in
    let count = site_count_of (the d) in
    let here =
    ap (λ (l : List (Option ℕ)). get_or l k None) (with_items_is c.self.inside.refusals c.turn.new.marks (search (rules, places)))
    ∙ told _ _ c.turn.new.marks (length c.deref_mut.result.now) count k c.turn.ensures.marks (ap (λ (a : After). a.refused) (listed d)) (rises d)
    (ap (λ (l : List (Option ℕ)). length l) c.deref_mut.ensures.value ∙ c.self.invariant.marks)
    (subst (λ (m : MachineSeen). IsSite m k) (sym c.self.view_is) h).1 in
    here ∙ ap (λ (m : MachineSeen). refusal_of (cycle (program_of m) i (state_of m)).refused k) c.self.view_is

pub invariant_of-self : goal.invariant_of-self
invariant_of-self c =
    let d = (goal.at.invariant_of-self c).After-self in
    let m = the d in
    record {
      sound = c.self.invariant.sound;
      ready = record {
        kept = c.turn.ensures.ready;
        rests = subst (λ (t : Store). Resting (program_of m).world t) (sym (c.turn.ensures.store ∙ ap (λ (a : After). a.store) (listed d)))
            ((c.states_keep.ensures.cycles (program_of m) c.self.invariant.sound.fine).1 c.args.inputs.now (state_of m) c.self.invariant.ready.rests);
      };
      marks = ap (λ (l : List (Option ℕ)). length l) (with_items_is c.self.inside.refusals c.turn.new.marks (search (rules, places)))
          ∙ c.turn.auto.marks
          ∙ ap (λ (l : List (Option ℕ)). length l) c.deref_mut.ensures.value
          ∙ c.self.invariant.marks;
    }
