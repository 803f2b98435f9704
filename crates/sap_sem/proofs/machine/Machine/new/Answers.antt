use Rattle.sap_lemmas.proofs.Common.{◌≡◌, ◌∙◌, ℕ, List, [], Option, None, get_or, length, ap, sym, subst, length-replicate}
use Rattle.sap_check.specs.Checked.{levels_in, tree_in}
use Rattle.sap_meaning.specs.Prelude.{FineProgram, Resting, Store}
use Rattle.sap_sem.specs.Sound.{meant}
use Rattle.sap_sem.proofs.Refused.{listed_again, none_marked, unmarked}
use Rattle.sap_sem.proofs.Served.{fine_as, initials_as, sound_as}
use Rattle.sap_sem.proofs.machine.Machine.new.Goals as goal

pub first_store-requires : goal.first_store-requires
first_store-requires c =
    let ls = levels_in c.args.checked.now in
    let d = tree_in c.args.checked.now in
    let same : c.in_ok-lattice.lattice ≡ ls = c.in_ok-lattice.ensures ∙ c.lattice-levels.ensures in
    initials_as ls c.in_ok-lattice.lattice d c.in_ok-program.program same c.in_ok-program.ensures c.program_serves.ensures.initials

pub invariant_of-result : goal.invariant_of-result
invariant_of-result c =
    let ls = levels_in c.args.checked.now in
    let d = tree_in c.args.checked.now in
    let same : c.in_ok-lattice.lattice ≡ ls = c.in_ok-lattice.ensures ∙ c.lattice-levels.ensures in
    let e = c.program_serves.ensures in
    let p = meant c.in_ok-lattice.lattice c.in_ok-program.program in
    let fine : FineProgram p = fine_as ls c.in_ok-lattice.lattice d c.in_ok-program.program same c.in_ok-program.ensures e.fine in
    record {
      sound = sound_as ls c.in_ok-lattice.lattice d c.in_ok-program.program same c.in_ok-program.ensures e.able e.fine e.exact e.sites e.count;
      ready = record {
        kept = c.in_ok-store.ensures.ready;
        rests = subst (λ (t : Store). Resting p.world t) (sym c.in_ok-store.ensures.store) (c.states_keep.ensures.cycles p fine).0;
      };
      marks = ap (λ (l : List (Option ℕ)). length l) c.in_ok-refusals.ensures ∙ length-replicate _ unmarked;
    }

pub returns-clause-refusals : goal.returns-clause-refusals
returns-clause-refusals c =
    listed_again [] 1 c.in_ok-program.program.sites (λ k. get_or c.in_ok-refusals.refusals.items k None) tt
    (λ k l u. ap (λ (o : List (Option ℕ)). get_or o k None) c.in_ok-refusals.ensures ∙ none_marked _ k)
