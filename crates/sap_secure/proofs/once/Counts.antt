-- How many steps of a list write a memory.
use Rattle.sap_lemmas.proofs.Common.{◌≡◌, ℕ, zero, suc, ◌+◌, ◌≤◌, Bool, true, false, cond, ◌&&◌, ◌||◌, List, [], ◌∷◌, ◌++◌, refl, arith, inl, inr, ◌⊎◌, cases_Bool, sum_by-cons, neither_left, neither_right}
use Rattle.std.proofs.lemmas.List.Sums.{sum_by-append}
use Rattle.sap_meaning.specs.Prelude.{Step, step_writes}
use Rattle.sap_meaning.proofs.Bools.{and_false}
use Rattle.sap_secure.specs.Once.Once.{writes_to}

-- one for a step that writes m
abbrev pub writing : ℕ → Step → ℕ
writing m k = cond (step_writes k m) 1 0

pub writes_to-cons : (m : ℕ) (k : Step) (ks : List Step) → writes_to m (k ∷ ks) ≡ writing m k + writes_to m ks
writes_to-cons m k ks = sum_by-cons (λ k. cond (step_writes k m) 1 0) k ks

pub writes_to-append : (m : ℕ) (xs ys : List Step) → writes_to m (xs ++ ys) ≡ writes_to m xs + writes_to m ys
writes_to-append m xs ys = sum_by-append (λ k. cond (step_writes k m) 1 0) xs ys

pub written : (m : ℕ) (k : Step) → step_writes k m ≡ true → writing m k ≡ 1
written m k e = rw e refl

pub unwritten : (m : ℕ) (k : Step) → step_writes k m ≡ false → writing m k ≡ 0
unwritten m k e = rw e refl

-- of two that make one at most, one is none
pub split_one : (a b : ℕ) → a + b ≤ 1 → (a ≡ 0) ⊎ (b ≡ 0)
split_one zero b h = inl refl
split_one (suc a) b h = inr (omega arith)

-- None of the steps writes m where nothing may, and one at most does.
pub record Counted (m : ℕ) (may : Bool) (ks : List Step) : Type 0 where
  pub none : may ≡ false → writes_to m ks ≡ 0
  pub once : writes_to m ks ≤ 1

pub counted_nothing : (m : ℕ) → Counted m false []
counted_nothing m = record { none = λ h. refl; once = omega arith }

pub counted_weaker : (m : ℕ) (a b : Bool) (ks : List Step) → (b ≡ false → a ≡ false) → Counted m a ks → Counted m b ks
counted_weaker m a b ks f c = record { none = λ h. c.none (f h); once = c.once }

-- steps behind steps, where not both may write
pub counted_both : (m : ℕ) (a b : Bool) (xs ys : List Step) → Counted m a xs → Counted m b ys → (a && b) ≡ false → Counted m (a || b) (xs ++ ys)
counted_both m a b xs ys c d apart =
    let sum : writes_to m (xs ++ ys) ≡ writes_to m xs + writes_to m ys = writes_to-append m xs ys in
    record {
      none = λ h.
          let x : writes_to m xs ≡ 0 = c.none (neither_left a b h) in
          let y : writes_to m ys ≡ 0 = d.none (neither_right a b h) in
          omega arith;
      once = elim (cases_Bool b) [
        | inl t ↦
            let x : writes_to m xs ≡ 0 = c.none (and_false a b apart t) in
            let y : writes_to m ys ≤ 1 = d.once in
            omega arith
        | inr f ↦
            let y : writes_to m ys ≡ 0 = d.none f in
            let x : writes_to m xs ≤ 1 = c.once in
            omega arith
      ];
    }
