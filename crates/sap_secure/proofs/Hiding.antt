-- The conditions of a command in a context from above, worked out.
use Rattle.sap_lemmas.proofs.Common.{◌≡◌, ℕ, zero, suc, ◌<◌, Bool, true, false, ◌&&◌, ◌||◌, refl, arith, nat_eq, nat_lt, nat_le, inl, inr, common_steps, eqb-true, or_cases}
use Rattle.sap_meaning.specs.Prelude.{is_dynamic, is_input, is_register, is_memory, authority, children, is_state, below, and_node, state_node, no_node, owner, put_number, put_level, put_child, raise, reset, settle, Home, touches, effect, attempt, attempt_then, select, does, does_block, does_state, does_child, cycle, set_inputs, root_fall, Holds, first, High, FineNode, FineProgram, inside, OnceState}
use Rattle.sap_meaning.specs.Examples.{two_levels}
use Rattle.sap_meaning.proofs.Sampled.{lawful}
use Rattle.sap_secure.specs.Confinement.{Hidden, Confinement, level_slot}
use Rattle.sap_secure.specs.Hiding.{decided, body_c, body_d, body_p, states_below_p, state_p, hiding, EntersHigh, before, in_d, HiddenAtLow}

-- what holds of each entity, and past the last
each : (P : ℕ → Type 0) → P 0 → P 1 → P 2 → P 3 → P 4 → P 5 → P 6 → ((x : ℕ) → P (suc (suc (suc (suc (suc (suc (suc x)))))))) → (x : ℕ) → P x
each P h0 h1 h2 h3 h4 h5 h6 h7 zero = h0
each P h0 h1 h2 h3 h4 h5 h6 h7 (suc zero) = h1
each P h0 h1 h2 h3 h4 h5 h6 h7 (suc (suc zero)) = h2
each P h0 h1 h2 h3 h4 h5 h6 h7 (suc (suc (suc zero))) = h3
each P h0 h1 h2 h3 h4 h5 h6 h7 (suc (suc (suc (suc zero)))) = h4
each P h0 h1 h2 h3 h4 h5 h6 h7 (suc (suc (suc (suc (suc zero))))) = h5
each P h0 h1 h2 h3 h4 h5 h6 h7 (suc (suc (suc (suc (suc (suc zero)))))) = h6
each P h0 h1 h2 h3 h4 h5 h6 h7 (suc (suc (suc (suc (suc (suc (suc x))))))) = h7 x

-- past the last entity
far : (x k : ℕ) → k < 7 → nat_eq (suc (suc (suc (suc (suc (suc (suc x))))))) k ≡ false
far x k h = grind (arith, common_steps)

no_memory : (x : ℕ) → is_memory hiding.world x ≡ false
no_memory = each (λ x. is_memory hiding.world x ≡ false) refl refl refl refl refl refl refl (λ x. refl)

-- every authority is low
no_authority : (x : ℕ) → authority hiding.world x ≡ 0
no_authority = each (λ x. authority hiding.world x ≡ 0) refl refl refl refl refl refl refl (λ x. refl)

root_seated : (x : ℕ) → 0 < children hiding.world (suc (suc (suc (suc (suc (suc (suc x)))))))
    → before.child (suc (suc (suc (suc (suc (suc (suc x))))))) < children hiding.world (suc (suc (suc (suc (suc (suc (suc x)))))))
unfolding first put_level put_child
root_seated zero h = omega arith
root_seated (suc x) h = omega (arith, h)

holds : Holds hiding.world before
unfolding first put_level put_child
holds = record {
  above = λ z h d. rw (no_authority (owner z)) refl;
  seated = each (λ p. 0 < children hiding.world p → before.child p < children hiding.world p) (λ h. omega (arith, h)) (λ h. omega (arith, h))
      (λ h. omega (arith, h)) (λ h. omega (arith, h)) (λ h. omega arith) (λ h. omega (arith, h)) (λ h. omega (arith, h)) root_seated;
}

abbrev spot : Home
spot = record { state = 6; parent = 4; children = no_node }

touched : (x : ℕ) → (is_register hiding.world x || is_memory hiding.world x) ≡ true → touches hiding.world spot decided x ≡ true
    → High two_levels 0 (before.level (level_slot hiding.world x))
unfolding first put_level put_child
touched = each (λ x. (is_register hiding.world x || is_memory hiding.world x) ≡ true → touches hiding.world spot decided x ≡ true
    → High two_levels 0 (before.level (level_slot hiding.world x)))
    (λ r h. cc) (λ r h. refl) (λ r h. cc) (λ r h. refl) (λ r h. cc) (λ r h. cc) (λ r h. cc) (λ x r h. cc)

premise : Hidden hiding 0 before in_d
unfolding first put_level put_child
premise = record {
  holds = holds;
  active = (refl, refl);
  command = inl (inl refl);
  context = refl;
  touched = touched;
  parts = λ m h d r. let n = no_memory m in cc;
  above = inl (inl refl);
}

-- no number is after s and up to s
childless : (s x : ℕ) (b : Bool) → false ≡ (b && (nat_lt s x && nat_le x s))
childless s x b = grind (arith, common_steps)

past : (s x l : ℕ) → l < 7 → false ≡ (nat_lt s (suc (suc (suc (suc (suc (suc (suc x))))))) && nat_le (suc (suc (suc (suc (suc (suc (suc x))))))) l)
past s x l h = grind (arith, common_steps)

in_p : (x : ℕ) → inside states_below_p x ≡ below hiding.world 4 x
in_p = each (λ x. inside states_below_p x ≡ below hiding.world 4 x) refl refl refl refl refl refl refl
    (λ x. rw (far x 5 (omega arith), far x 6 (omega arith)) (past 4 x 6 (omega arith)))

node_p : FineNode hiding.world hiding.states 0 4 body_p states_below_p
node_p = record {
  kind = refl;
  placed = refl;
  count = refl;
  numbers = in_p;
  itself = omega arith;
  declared = omega arith;
  steps = (omega arith, tt);
  closes = refl;
  retags_itself = refl;
  retags_below = λ x h. refl;
}

node_c : FineNode hiding.world states_below_p 0 5 body_c no_node
node_c = record {
  kind = refl;
  placed = refl;
  count = refl;
  numbers = λ x. childless 5 x (is_state hiding.world x);
  itself = omega arith;
  declared = omega arith;
  steps = (((refl, tt), (refl, tt), (refl, tt)), tt);
  closes = (refl, refl);
  retags_itself = refl;
  retags_below = λ x h. cc;
}

node_d : FineNode hiding.world states_below_p 1 6 body_d no_node
node_d = record {
  kind = refl;
  placed = refl;
  count = refl;
  numbers = λ x. childless 6 x (is_state hiding.world x);
  itself = omega arith;
  declared = omega arith;
  steps = (((refl, tt), (((refl, tt), ((refl, tt), tt)), tt), ((refl, tt), tt)), (refl, tt));
  closes = ((refl, ((refl, (refl, tt)), tt), (refl, tt)), refl);
  retags_itself = refl;
  retags_below = λ x h. cc;
}

once_c : OnceState (state_node 5 body_c no_node)
once_c = (((tt, tt, λ m. refl), (tt, tt, λ m. refl)), tt, λ m. refl)

once_d : OnceState (state_node 6 body_d no_node)
once_d = (
  (tt, ((tt, (tt, tt, λ m. refl), λ m. refl), tt, λ m. refl), (tt, tt, λ m. refl), λ m. refl, λ m. refl),
  (tt, tt, λ m. refl),
  λ m. refl,
)

once_p : OnceState state_p
once_p = ((once_c, (once_d, tt)), tt, λ m. refl)

after_five : (x : ℕ) → inside (and_node (state_node 6 body_d no_node) no_node) x ≡ true → 5 < x
after_five x h = elim (or_cases (nat_eq x 6) false h) [ inl e ↦ (let f = eqb-true x 6 e in omega arith) | inr e ↦ cc ]

fine : FineProgram hiding
fine = record {
  order = lawful;
  states = ((node_p, ((node_c, tt), ((node_d, tt), tt, λ x h. cc), after_five)), tt, λ x h. cc);
  count = refl;
  once = (once_p, tt);
  inputs = each (λ x. is_input hiding.world x ≡ true → is_dynamic hiding.world x ≡ true) (λ h. refl) (λ h. refl) (λ h. cc) (λ h. cc) (λ h. cc)
      (λ h. refl) (λ h. refl) (λ x h. refl);
  above = λ x d. rw (no_authority x) refl;
}

pub enters_high : EntersHigh
unfolding cycle set_inputs root_fall first put_number put_level put_child raise reset settle effect attempt attempt_then select does does_block does_state does_child
enters_high = refl

pub hidden_at_low : Confinement → HiddenAtLow
unfolding first put_number put_level put_child raise effect attempt attempt_then does does_block
hidden_at_low law =
    let l = law hiding fine 0 before in_d premise in
    record { fine = fine; premise = premise; refused = refl; x_given = (refl, refl); y_stays = (refl, refl); z_given = (refl, refl); agree = l.0; unseen = l.1 }
