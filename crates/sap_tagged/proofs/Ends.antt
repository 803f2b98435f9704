-- What the wires of sites say after a cycle in which they began at 0.
use Rattle.sap_lemmas.proofs.Common.{◌≡◌, ℕ, zero, suc, ◌+◌, ◌<◌, ◌≤◌, ◌⊎◌, ◌↔◌, Bool, true, false, ◌||◌, List, [], ◌∷◌, refl, sym, ap, ◌∙◌, arith, nat_eq, inl, inr, if◌then◌else◌, cases_Bool, eqb-true, eq-eqb, ne_eqb, or_right, or_other, true_is_not_false}
use Rattle.sap_meaning.specs.Prelude.{Refusal, refused_sites, numbers_from, RisesFrom}
use Rattle.sap_interface.specs.StandsFor.{IsRefusedAt, IsRefused}
use Rattle.sap_tagged.specs.Stands.{refused_after, level_after}

abbrev has : ℕ → List Refusal → Bool
has k [] = false
has k (r ∷ rs) = nat_eq r.site k || has k rs

refused_is : (k : ℕ) (rs : List Refusal) (v : ℕ) → refused_after k rs v ≡ (if has k rs then 1 else v)
refused_is k [] v = refl
refused_is k (r ∷ rs) v = refused_is k rs _ ∙ both (nat_eq r.site k) (has k rs)
  where
    both : (a b : Bool) → (if b then 1 else (if a then 1 else v)) ≡ (if a || b then 1 else v)
    both true true = refl
    both true false = refl
    both false b = refl

has_refused : (k : ℕ) (rs : List Refusal) → has k rs ≡ true → IsRefused rs k
has_refused k [] h = absurd (true_is_not_false (sym h))
has_refused k (r ∷ rs) h = elim (cases_Bool (nat_eq r.site k)) [
  | inl t ↦ (r.level, inl (eqb-true r.site k t, refl))
  | inr t ↦ (let i = has_refused k rs (or_other (nat_eq r.site k) (has k rs) h t) in (i.0, inr i.1))
]

refused_has : (k t : ℕ) (rs : List Refusal) → IsRefusedAt rs k t → has k rs ≡ true
refused_has k t [] h = absurd h
refused_has k t (r ∷ rs) (inl e) = rw (eq-eqb r.site k e.0) refl
refused_has k t (r ∷ rs) (inr h) = or_right (nat_eq r.site k) (has k rs) (refused_has k t rs h)

pub refusals_told : (k : ℕ) (rs : List Refusal) (v : ℕ) → v ≡ refused_after k rs 0 → (v ≡ 1) ↔ IsRefused rs k
refusals_told k rs v e = (
  λ one. elim (cases_Bool (has k rs)) [
    | inl t ↦ has_refused k rs t
    | inr t ↦ absurd (no_one (sym (e ∙ refused_is k rs 0 ∙ ap (λ (b : Bool). if b then 1 else 0) t) ∙ one))
  ],
  λ r. e ∙ refused_is k rs 0 ∙ ap (λ (b : Bool). if b then 1 else 0) (refused_has k r.0 rs r.1),
)
  where
    no_one : ◌≡◌ {A = ℕ} 0 1 → ⊥
    no_one e = omega arith

level_past : (code : ℕ → ℕ) (k n : ℕ) (rs : List Refusal) (v : ℕ) → k < n → RisesFrom n (refused_sites rs) → level_after code k rs v ≡ v
level_past code k n [] v l h = refl
level_past code k n (r ∷ rs) v l h =
    let m : n ≤ r.site = h.0 in
    rw (ne_eqb r.site k (λ e. omega (arith, l, m, e))) (level_past code k (suc r.site) rs v (omega (arith, l, m)) h.1)

pub levels_told : (code : ℕ → ℕ) (k t n : ℕ) (rs : List Refusal) (v : ℕ) → RisesFrom n (refused_sites rs) → IsRefusedAt rs k t → level_after code k rs v ≡ code t
levels_told code k t n [] v h i = absurd i
levels_told code k t n (r ∷ rs) v h (inl e) =
    ap (λ (b : Bool). level_after code k rs (if b then code r.level else v)) (eq-eqb r.site k e.0)
    ∙ level_past code k (suc r.site) rs (code r.level) (here r.site k e.0) h.1 ∙ ap code e.1
  where
    here : (a b : ℕ) → a ≡ b → b < suc a
    here a b e = omega arith
levels_told code k t n (r ∷ rs) v h (inr i) = levels_told code k t (suc r.site) rs _ h.1 i

-- members of lists of sites

abbrev pub Among : List ℕ → ℕ → Type 0
Among [] k = ⊥
Among (x ∷ xs) k = (x ≡ k) ⊎ Among xs k

pub counted_bounds : (n k : ℕ) (j : ℕ) → Among (numbers_from k n) j → (k ≤ j) × (j < k + n)
counted_bounds zero k j h = absurd h
counted_bounds (suc n) k j (inl e) = (omega (arith, e), omega (arith, e))
counted_bounds (suc n) k j (inr h) = let i = counted_bounds n (suc k) j h in (omega (arith, i.0), omega (arith, i.1))
