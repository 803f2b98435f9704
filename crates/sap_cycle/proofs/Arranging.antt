-- Steps that are placed one after another, each once all that it reads is marked.
use Rattle.sap_lemmas.proofs.Common.{◌≡◌, ℕ, zero, suc, ◌+◌, ◌<◌, Bool, true, List, [], ◌∷◌, ◌++◌, ◌⊎◌, inl, inr, Some, length, map, sym, ap, ◌∙◌, subst, refl, arith, slice_get, slice_set, AllByRecursion, map-append, cases_eq, all_append}
use Rattle.std.proofs.lemmas.List.{length-set}
use Rattle.sap_cycle.specs.declared.instructions.Placed.{Placed}
use Rattle.sap_cycle.specs.declared.steps.Part.{Part}
use Rattle.sap_cycle.specs.declared.steps.Step.{Step}
use Rattle.sap_cycle.specs.Instructions.{placed_step}
use Rattle.sap_cycle.specs.Order.{ReadsAmong, IsOrder, IsOwn, IsMarked}
use Rattle.sap_cycle.proofs.Walked.{Also, InOrder, KnownAfter, reads_more, walked_order}

pub record Arranging (base : ℕ) (parts : List Part) (steps : List Step) (marks : List Bool) (placed : List (ℕ × Step)) : Type 0 where
  pub long : length marks ≡ base + length steps
  pub known : (k : ℕ) → IsMarked marks k → KnownAfter (λ k. k < base) placed k
  pub finds : InOrder parts (λ k. k < base) placed
  pub own : AllByRecursion (IsOwn base steps) placed

get_other : (xs : List Bool) (t k : ℕ) (x : Bool) → (k ≡ t → ⊥) → slice_get (slice_set xs t x) k ≡ slice_get xs k
get_other [] t k x n = refl
get_other (y ∷ ys) zero zero x n = absurd (n refl)
get_other (y ∷ ys) zero (suc k) x n = refl
get_other (y ∷ ys) (suc t) zero x n = refl
get_other (y ∷ ys) (suc t) (suc k) x n = get_other ys t k x (λ e. n (ap suc e))

-- one more step behind others
known_push : (known : ℕ → Type 0) (ps : List (ℕ × Step)) (p : ℕ × Step) (k : ℕ) → (KnownAfter known ps k ⊎ (k ≡ p.0)) → KnownAfter known (ps ++ p ∷ []) k
known_push known [] p k h = h
known_push known (q ∷ ps) p k h = known_push (Also known q.0) ps p k h

in_order_push : (parts : List Part) (known : ℕ → Type 0) (ps : List (ℕ × Step)) (p : ℕ × Step) → InOrder parts known ps
    → ReadsAmong (λ k. KnownAfter known ps k) parts p.1 → InOrder parts known (ps ++ p ∷ [])
in_order_push parts known [] p o r = (r, tt)
in_order_push parts known (q ∷ ps) p o r = (o.0, in_order_push parts (Also known q.0) ps p o.1 r)

arranging_push : (base : ℕ) (parts : List Part) (steps : List Step) (marks : List Bool) (ps : List (ℕ × Step))
    → Arranging base parts steps marks ps → (p : ℕ × Step) → IsOwn base steps p → ReadsAmong (IsMarked marks) parts p.1
    → Arranging base parts steps (slice_set marks p.0 true) (ps ++ p ∷ [])
arranging_push base parts steps marks ps a p own reads =
    record {
      long = length-set marks p.0 true ∙ a.long;
      known = λ k h.
          known_push (λ k. k < base) ps p k
          (elim (cases_eq k p.0) [
            | inl e ↦ inr e
            | inr n ↦ inl (a.known k (sym (get_other marks p.0 k true n) ∙ h))
          ]);
      finds = in_order_push parts (λ k. k < base) ps p a.finds (reads_more (IsMarked marks) (λ k. KnownAfter (λ k. k < base) ps k) a.known parts p.1 reads);
      own = all_append (IsOwn base steps) ps (p ∷ []) a.own (own, tt);
    }

pub arranging_more : (others : List Step) (base : ℕ) (parts : List Part) (steps : List Step) (marks new : List Bool) (ps qs : List Placed)
    → Arranging base parts steps marks (map (placed_step others) ps)
    → (p : Placed) → IsOwn base steps (placed_step others p) → ReadsAmong (IsMarked marks) parts (placed_step others p).1 → new ≡ slice_set marks p.target true → qs ≡ ps ++ p ∷ []
    → Arranging base parts steps new (map (placed_step others) qs)
arranging_more others base parts steps marks new ps qs a p own reads em eq =
    let e : map (placed_step others) qs ≡ map (placed_step others) ps ++ placed_step others p ∷ [] =
    ap (map (placed_step others)) eq ∙ map-append (placed_step others) ps (p ∷ []) in
    subst (λ (l : List (ℕ × Step)). Arranging base parts steps new l) (sym e)
    (subst (λ (ms : List Bool). Arranging base parts steps ms (map (placed_step others) ps ++ placed_step others p ∷ [])) (sym em)
    (arranging_push base parts steps marks (map (placed_step others) ps) a (placed_step others p) own reads))

marked_at : (marks : List Bool) → AllByRecursion (λ m. m ≡ true) marks → (k : ℕ) → k < length marks → IsMarked marks k
marked_at [] h k lt = absurd (omega (arith, lt))
marked_at (m ∷ ms) h zero lt = ap Some h.0
marked_at (m ∷ ms) h (suc k) lt = marked_at ms h.1 k (omega (arith, lt))

pub arranged_all : (base : ℕ) (parts : List Part) (steps : List Step) (marks : List Bool) (ps : List (ℕ × Step))
    → Arranging base parts steps marks ps → AllByRecursion (λ m. m ≡ true) marks → IsOrder base parts steps ps
arranged_all base parts steps marks ps a all =
    walked_order base parts steps ps
    (record {
      own = a.own;
      finds = a.finds;
      all = λ k lt. a.known k (marked_at marks all k (omega (arith, lt, a.long)));
    })
