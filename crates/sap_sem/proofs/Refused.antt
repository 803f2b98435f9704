-- Marks tell what was refused.
use Rattle.sap_lemmas.proofs.Common.{◌≡◌, ℕ, zero, suc, ◌+◌, ◌<◌, ◌≤◌, Bool, true, false, List, [], ◌∷◌, length, get_or, set, Option, Some, None, refl, sym, ap, ◌∙◌, arith, get_or-set_other, inl, inr, nat_eq, if◌then◌else◌, slice_set, replicate, length-set, cases_Bool, eqb-true, eq-eqb, ne_eqb, get_or-set_at, length-replicate}
use Rattle.sap_meaning.specs.Prelude.{Refusal, refused_sites, numbers_from, Sublist}
use Rattle.sap_run.specs.Runs.{marked}
use Rattle.sap_sem.specs.Machine.{refusal_before, refusals_from, refusal_of}

-- the first of two levels that is there
abbrev otherwise : Option ℕ → Option ℕ → Option ℕ
otherwise (Some a) b = Some a
otherwise None b = b

-- the level of a site's last refusal
abbrev last_refusal : List Refusal → ℕ → Option ℕ
last_refusal [] k = None
last_refusal (r ∷ rs) k = otherwise (last_refusal rs k) (if nat_eq k r.site then Some r.level else None)

module _ (v : Option ℕ) where
  set_get : (m : List (Option ℕ)) (x k : ℕ) → k < length m → get_or (set m x v) k None ≡ (if nat_eq k x then v else get_or m k None)
  set_get m x k h = elim (cases_Bool (nat_eq k x)) [
    | inl t ↦ (let e = eqb-true k x t in rw t (get_or-set_at m x k v None e (omega (arith, e, h))))
    | inr t ↦ rw t (get_or-set_other m x k v None (λ e. let f = eq-eqb k x e in cc))
  ]

otherwise_thrice : (a b c : Option ℕ) → otherwise (otherwise a b) c ≡ otherwise a (otherwise b c)
otherwise_thrice (Some a) b c = refl
otherwise_thrice None b c = refl

marked_get : (rs : List Refusal) (m : List (Option ℕ)) (k : ℕ) → k < length m → get_or (marked rs m) k None ≡ otherwise (last_refusal rs k) (get_or m k None)
marked_get [] m k h = refl
marked_get (r ∷ rs) m k h =
    let l : length (slice_set m r.site (Some r.level)) ≡ length m = length-set m r.site (Some r.level) in
    marked_get rs (slice_set m r.site (Some r.level)) k (omega (arith, l, h))
    ∙ ap (otherwise (last_refusal rs k)) (set_get (Some r.level) m r.site k h ∙ by (nat_eq k r.site))
    ∙ sym (otherwise_thrice (last_refusal rs k) _ _)
  where
    by : (q : Bool) → (if q then Some r.level else get_or m k None) ≡ otherwise (if q then Some r.level else None) (get_or m k None)
    by true = refl
    by false = refl

abbrev pub unmarked : Option ℕ
unmarked = None

pub none_marked : (n k : ℕ) → get_or (replicate n unmarked) k None ≡ None
none_marked zero k = refl
none_marked (suc n) zero = refl
none_marked (suc n) (suc k) = none_marked n k

otherwise_none : (a : Option ℕ) → otherwise a None ≡ a
otherwise_none (Some a) = refl
otherwise_none None = refl

-- from no marks on
pub marks_tell : (rs : List Refusal) (n k : ℕ) → k < length (replicate n unmarked) → get_or (marked rs (replicate n unmarked)) k None ≡ last_refusal rs k
marks_tell rs n k h = marked_get rs (replicate n unmarked) k h ∙ ap (otherwise (last_refusal rs k)) (none_marked n k) ∙ otherwise_none (last_refusal rs k)

-- Sites that rise are refused once.

-- a site before all of these is not refused
absent : (rs : List Refusal) (j n k : ℕ) → Sublist (refused_sites rs) (numbers_from j n) → k < j → refusal_of rs k ≡ None
absent [] j n k h l = refl
absent (r ∷ rs) j zero k h l = absurd h
absent (r ∷ rs) j (suc n) k h l = elim h [
  | inl g ↦ (let e = g.0 in rw (ne_eqb k r.site (λ i. omega (arith, i, e, l))) (absent rs (suc j) n k g.1 (omega (arith, l))))
  | inr g ↦ absent (r ∷ rs) (suc j) n k g (omega (arith, l))
]

last_is : (rs : List Refusal) (j n k : ℕ) → Sublist (refused_sites rs) (numbers_from j n) → last_refusal rs k ≡ refusal_of rs k
last_is [] j n k h = refl
last_is (r ∷ rs) j zero k h = absurd h
last_is (r ∷ rs) j (suc n) k h = elim h [
  | inl g ↦ by (nat_eq k r.site) (last_is rs (suc j) n k g.1) (λ t. absent rs (suc j) n k g.1 (let i = eqb-true k r.site t in let e = g.0 in omega (arith, i, e))) refl
  | inr g ↦ last_is (r ∷ rs) (suc j) n k g
]
  where
    by : (q : Bool) → last_refusal rs k ≡ refusal_of rs k → (nat_eq k r.site ≡ true → refusal_of rs k ≡ None) → nat_eq k r.site ≡ q
        → otherwise (last_refusal rs k) (if q then Some r.level else None) ≡ (if q then Some r.level else refusal_of rs k)
    by true e f t = ap (λ (o : Option ℕ). otherwise o (Some r.level)) (e ∙ f t)
    by false e f t = otherwise_none (last_refusal rs k) ∙ e

-- the first of some refusals, behind which the rest is told
first_told : (r : Refusal) (rs : List Refusal) (j n : ℕ) (at : ℕ → Option ℕ) → r.site ≡ j → at j ≡ refusal_of (r ∷ rs) j
    → refusals_from at (suc j) n ≡ rs → refusals_from at j (suc n) ≡ r ∷ rs
first_told r rs j n at e i rest =
    ap (λ (o : Option ℕ). refusal_before j o (refusals_from at (suc j) n)) (i ∙ ap (λ (q : Bool). if q then Some r.level else refusal_of rs j) (eq-eqb j r.site (sym e)))
    ∙ ap (λ (k : ℕ). let a : Refusal = record { site = k; level = r.level } in a ∷ refusals_from at (suc j) n) (sym e)
    ∙ ap (λ (qs : List Refusal). r ∷ qs) rest

beyond_first : (r : Refusal) (rs : List Refusal) (j k : ℕ) (o : Option ℕ) → r.site ≡ j → suc j ≤ k → o ≡ refusal_of (r ∷ rs) k → o ≡ refusal_of rs k
beyond_first r rs j k o e l i = i ∙ ap (λ (q : Bool). if q then Some r.level else refusal_of rs k) (ne_eqb k r.site (λ t. omega (arith, t, e, l)))

-- what is told of each site in turn is what was refused
pub listed_again : (rs : List Refusal) (j n : ℕ) (at : ℕ → Option ℕ) → Sublist (refused_sites rs) (numbers_from j n)
    → ((k : ℕ) → j ≤ k → k < j + n → at k ≡ refusal_of rs k) → refusals_from at j n ≡ rs
listed_again [] j zero at h f = refl
listed_again [] j (suc n) at h f =
    ap (λ (o : Option ℕ). refusal_before j o (refusals_from at (suc j) n)) (f j (omega arith) (omega arith))
    ∙ listed_again [] (suc j) n at tt (λ k l u. f k (omega (arith, l)) (omega (arith, u)))
listed_again (r ∷ rs) j zero at h f = absurd h
listed_again (r ∷ rs) j (suc n) at h f = elim h [
  | inl g ↦ first_told r rs j n at g.0 (f j (omega arith) (omega arith))
      (listed_again rs (suc j) n at g.1 (λ k l u. beyond_first r rs j k (at k) g.0 l (f k (omega (arith, l)) (omega (arith, u)))))
  | inr g ↦
      ap (λ (o : Option ℕ). refusal_before j o (refusals_from at (suc j) n)) (f j (omega arith) (omega arith) ∙ absent (r ∷ rs) (suc j) n j g (omega arith))
      ∙ listed_again (r ∷ rs) (suc j) n at g (λ k l u. f k (omega (arith, l)) (omega (arith, u)))
]

-- what marks say that were kept in a cycle
pub told : (rs qs : List Refusal) (ms : List (Option ℕ)) (n sites k : ℕ) → ms ≡ marked rs (replicate n unmarked) → rs ≡ qs
    → Sublist (refused_sites qs) (numbers_from 1 sites) → n ≡ sites + 1 → k ≤ sites
    → get_or ms k None ≡ refusal_of qs k
told rs qs ms n sites k e f rises g h =
    ap (λ (l : List (Option ℕ)). get_or l k None) e
    ∙ marks_tell rs n k (let c = length-replicate n unmarked in omega (arith, c, g, h))
    ∙ ap (λ (l : List Refusal). last_refusal l k) f
    ∙ last_is qs 1 sites k rises

pub told_again : (rs qs : List Refusal) (ms : List (Option ℕ)) (n sites : ℕ) → ms ≡ marked rs (replicate n unmarked) → rs ≡ qs
    → Sublist (refused_sites qs) (numbers_from 1 sites) → n ≡ sites + 1
    → refusals_from (λ k. get_or ms k None) 1 sites ≡ qs
told_again rs qs ms n sites e f rises g = listed_again qs 1 sites (λ k. get_or ms k None) rises (λ k l u. told rs qs ms n sites k e f rises g (omega (arith, u)))
