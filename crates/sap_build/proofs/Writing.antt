-- Names of helping wires that are taken.
use Rattle.sap_lemmas.proofs.Common.{◌≡◌, ◌≤◌, ◌<◌, ◌+◌, ◌^◌, ℕ, List, [], ◌∷◌, ◌++◌, ◌==◌, true, sym, ◌∙◌, subst, inl, inr, arith, Option, Some, None, Ok, Err, Result, OnOk, OnErr, cases_Bool, equal_of_test, above_unequal}
use Rattle.std.specs.Option.{SomeIff, ok_or}
use Rattle.sap_maps.specs.Maps.{Name}
use Rattle.sap_net.specs.Names.{is_among, helper}
use Rattle.sap_net.proofs.NamesLemmas.{among_here, among_front, among_behind}
use Rattle.sap_build.specs.Writing.{AreTaken, IsFree, IsFresh}

-- none below 1
pub none_taken : (xs : List Name) → AreTaken xs 1
none_taken xs j a b = absurd (omega arith)

-- one more name takes none away
pub still_taken : (xs : List Name) (x : Name) (k : ℕ) → AreTaken xs k → AreTaken (xs ++ x ∷ []) k
still_taken xs x k h j a b = among_front (helper j) xs (x ∷ []) (h j a b)

-- the next number, once it is taken
taken_now : (xs : List Name) (k j : ℕ) → AreTaken xs k → 1 ≤ j → j ≤ k → is_among (helper j) (xs ++ helper k ∷ []) ≡ true
taken_now xs k j h a b =
    elim (cases_Bool (j == k)) [
      | inl t ↦ subst (λ (i : ℕ). is_among (helper j) (xs ++ helper i ∷ []) ≡ true) (equal_of_test j k t) (among_behind (helper j) xs (helper j ∷ []) (among_here (helper j) []))
      | inr f ↦ among_front (helper j) xs (helper k ∷ []) (h j a (let l = above_unequal j k b f in omega arith))
    ]

pub next_taken : (xs : List Name) (k : ℕ) → AreTaken xs k → AreTaken (xs ++ helper k ∷ []) (k + 1)
next_taken xs k h j a b = taken_now xs k j h a (omega arith)

-- one number further, where there is one
pub counted : {E : Type 0} (e : E) (o : Option ℕ) (number found : ℕ) → SomeIff o (number + 1 < 2 ^ 64) (number + 1) → ◌≡◌ {A = Result ℕ E} (Ok found) (ok_or o e)
    → (found ≡ number + 1) × (found < 2 ^ 64)
counted e None number found h g = absurd (cc)
counted e (Some y) number found h g =
    let same : found ≡ y = cc in (same ∙ h.1, omega (arith, same, h.0, h.1))

-- past a taken number
pub taken_past : (xs : List Name) (k : ℕ) → AreTaken xs k → is_among (helper k) xs ≡ true → AreTaken xs (k + 1)
taken_past xs k h t j a b =
    elim (cases_Bool (j == k)) [
      | inl e ↦ subst (λ (i : ℕ). is_among (helper i) xs ≡ true) (sym (equal_of_test j k e)) t
      | inr f ↦ h j a (let l = above_unequal j k (omega arith) f in omega arith)
    ]

-- the last number is fresh
pub is_fresh : (xs : List Name) (k : ℕ) (x : Name) → k < 2 ^ 64 → x ≡ helper k → IsFree xs k → IsFresh xs x
is_fresh xs k x l e f = record { number = k; counted = l; named = e; least = f }

-- whether one more name was added or not
pub still_either : {A E : Type 0} (r : Result A E) (m : Name) (old new : List Name) (x : Name) (k : ℕ) → OnOk r (new ≡ old ++ x ∷ []) → OnErr r (new ≡ old)
    → AreTaken (m ∷ old) k → AreTaken (m ∷ new) k
still_either (Ok a) m old new x k more same h = subst (λ (xs : List Name). AreTaken (m ∷ xs) k) (sym more) (still_taken (m ∷ old) x k h)
still_either (Err e) m old new x k more same h = subst (λ (xs : List Name). AreTaken (m ∷ xs) k) (sym same) h
