-- The first state and every cycle keep what every state keeps.
use Rattle.sap_lemmas.proofs.Common.{ℕ, zero, suc, Bool, refl, sym, ap, ◌∙◌, List, if◌then◌else◌, and_left}
use Rattle.sap_meaning.specs.Program.{World, Program, entity, is_dynamic, root, state_node, Group, no_node, and_node}
use Rattle.sap_meaning.specs.Store.{start, next, Store, child}
use Rattle.sap_meaning.specs.Touches.{root_touches}
use Rattle.sap_meaning.specs.Does.{does_state}
use Rattle.sap_meaning.specs.Cycle.{Tagged, set_inputs, root_fall, cycle}
use Rattle.sap_meaning.specs.State.{Rests, Resting, first}
use Rattle.sap_meaning.specs.Fine.{FineProgram, FineGroup}
use Rattle.sap_meaning.proofs.Slots.{owner_home}
use Rattle.sap_meaning.proofs.Trees.{lands}
use Rattle.sap_meaning.proofs.Keeps.{OfDynamic, Keeps, Lands, holds_raise, holds_inputs, holds_settle, settle_rests, first_holds, state_holds}

root_holds : (w : World) (hang : ℕ → Bool) (p : ℕ) (q : Group) (n : ℕ) (g : Group) → OfDynamic w hang → Lands w p q → FineGroup w q n g
    → (m : ℕ) → Keeps w (root_fall w hang (λ t. does_state w t p) g m)
unfolding root_fall
root_holds w hang p q n no_node dyn landing fine m s r = r
root_holds w hang p q n (and_node (state_node c b k) g) dyn landing fine zero s r = state_holds w (state_node c b k) p q n landing fine.0 _ _ (holds_raise w s hang _ dyn r)
root_holds w hang p q n (and_node t g) dyn landing fine (suc m) s r = root_holds w hang p q (suc n) g dyn landing fine.1 m s r

pub cycle_rests : (p : Program) → FineProgram p → (inputs : List Tagged) (s : Store) → Resting p.world s → Resting p.world (cycle p inputs s).store
unfolding cycle
cycle_rests p fine inputs s r =
    let w = p.world in
    let begun = set_inputs w inputs s in
    let h = root_holds w (root_touches w p.states) (root w) p.states 0 p.states (λ x i. and_left (is_dynamic w x) _ i)
    (lands w (root w) p.states fine.states fine.count) fine.states (child (root w) begun) begun (holds_inputs w s inputs fine.inputs r.holds) in
    record { holds = holds_settle w _ h; rests = settle_rests w _ }

first_levels : (w : World) → Rests w (first w)
unfolding first
first_levels w = record {
  numbers = λ m i. refl;
  levels =
      λ m i. ap (λ x. if is_dynamic w x then w.order.bottom else (entity w x).declared) (owner_home w (start m i) ∙ sym (owner_home w (next m i)));
}

pub first_rests : (p : Program) → FineProgram p → Resting p.world (first p.world)
first_rests p fine = record { holds = first_holds p.world fine.above; rests = first_levels p.world }
