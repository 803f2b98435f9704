-- Composites that agree at low, and composites that don't.
use Rattle.std.proofs.Common.{◌≡◌, ℕ, zero, suc, true, false, [], ◌∷◌, length, refl, sym, ap, inl, inr, arith}
use Rattle.std.proofs.lemmas.Bool.{eqb-false}
use Rattle.sap_meaning.specs.Prelude.{authority, is_dynamic, is_register, is_memory, Slot, own, start, next, start_whole, next_whole, owner, held, level, put_number, put_level, put_child, first, Low, SlotsAlike, StatesAgree, RefusalsAgree}
use Rattle.sap_meaning.specs.Examples.{two_levels, enforced_states, refused_at}
use Rattle.sap_link.specs.Systems.{IsPart, part}
use Rattle.sap_link.specs.Comparing.{two_parts, part_world, with_second, x_is, ComparedComposites}
use Rattle.sap_link.proofs.Itself.{agrees_itself}

true_is_not_false : true ≡ false → ⊥
true_is_not_false e = cc

no_memory : (m : ℕ) → is_memory part_world m ≡ true → ⊥
no_memory zero e = true_is_not_false (sym e)
no_memory (suc zero) e = true_is_not_false (sym e)
no_memory (suc (suc zero)) e = true_is_not_false (sym e)
no_memory (suc (suc (suc zero))) e = true_is_not_false (sym e)
no_memory (suc (suc (suc (suc m)))) e = true_is_not_false (sym e)

one_register : (P : ℕ → Type 0) → P 1 → (x : ℕ) → is_register part_world x ≡ true → P x
one_register P p zero e = absurd (true_is_not_false (sym e))
one_register P p (suc zero) e = p
one_register P p (suc (suc zero)) e = absurd (true_is_not_false (sym e))
one_register P p (suc (suc (suc zero))) e = absurd (true_is_not_false (sym e))
one_register P p (suc (suc (suc (suc x)))) e = absurd (true_is_not_false (sym e))

-- S and T alone are enforced
two_enforced : (P : ℕ → Type 0) → P 2 → P 3 → (x : ℕ) → is_dynamic part_world x ≡ false → P x
two_enforced P s t zero e = absurd (true_is_not_false e)
two_enforced P s t (suc zero) e = absurd (true_is_not_false e)
two_enforced P s t (suc (suc zero)) e = s
two_enforced P s t (suc (suc (suc zero))) e = t
two_enforced P s t (suc (suc (suc (suc x)))) e = absurd (true_is_not_false e)

-- states in which x is high agree
high_states : StatesAgree enforced_states 0 (x_is 5 1 (refused_at 1 1 ∷ [])).store (x_is 6 1 []).store
unfolding first put_number put_level
high_states = record {
  registers = one_register (λ x. SlotsAlike part_world 0 (own x) (x_is 5 1 []).store (x_is 6 1 []).store) (inr (refl, refl));
  enforced_memories = λ m i is e. absurd (no_memory m is);
  dynamic_memories = λ m is d. absurd (no_memory m is);
  enforced_levels = kept;
  paths = inl ((refl, tt), refl, refl);
}
  where
    kept : (z : Slot) → held part_world z ≡ true → is_dynamic part_world (owner z) ≡ false → Low two_levels 0 (authority part_world (owner z))
        → level part_world z (x_is 5 1 []).store ≡ level part_world z (x_is 6 1 []).store
    kept (own x) h e low = two_enforced (λ x. level part_world (own x) (x_is 5 1 []).store ≡ level part_world (own x) (x_is 6 1 []).store) refl refl x e
    kept (start m i) h e low = absurd (no_memory m h)
    kept (next m i) h e low = absurd (no_memory m h)
    kept (start_whole m) h e low = absurd (true_is_not_false (sym h))
    kept (next_whole m) h e low = absurd (true_is_not_false (sym h))

each_agrees : (i : ℕ) → IsPart two_parts i
    → StatesAgree (part two_parts i) 0 (with_second (x_is 5 1 (refused_at 1 1 ∷ [])) i).store (with_second (x_is 6 1 []) i).store
each_agrees zero is = agrees_itself enforced_states 0 (first part_world)
each_agrees (suc zero) is = high_states
each_agrees (suc (suc i)) is = absurd (omega (arith, is))

none_seen : (i : ℕ) → IsPart two_parts i
    → RefusalsAgree two_levels 0 (with_second (x_is 5 1 (refused_at 1 1 ∷ [])) i).refused (with_second (x_is 6 1 []) i).refused
none_seen zero is = refl
none_seen (suc i) is = refl

pub compared : ComparedComposites
unfolding first put_number put_level put_child
compared = record {
  high_things = record { states = each_agrees; refusals = none_seen };
  register = λ a. elim ((a.states 1 (omega arith)).registers 1 refl) [ inl e ↦ eqb-false 5 6 refl e.0 | inr e ↦ true_is_not_false e.0 ];
  tag = λ a. elim ((a.states 1 (omega arith)).registers 1 refl) [ inl e ↦ eqb-false 0 1 refl e.1 | inr e ↦ true_is_not_false e.0 ];
  enforced_tag = λ a. eqb-false 1 0 refl ((a.states 1 (omega arith)).enforced_levels (own 3) refl refl refl);
  refusal = λ a. eqb-false 1 0 refl (ap length (a.refusals 1 (omega arith)));
  child = λ a. elim (a.states 1 (omega arith)).paths [ inl e ↦ eqb-false 2 3 refl e.0.0 | inr e ↦ true_is_not_false e.0 ];
}
