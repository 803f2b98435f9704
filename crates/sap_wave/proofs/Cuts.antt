-- Texts that are cut at a byte.
use Rattle.sap_lemmas.proofs.Common.{◌≡◌, ℕ, suc, ◌+◌, ◌-◌, ◌<◌, ◌≤◌, List, [], ◌∷◌, ◌++◌, Bool, true, false, Some, None, cond, eqb, ltb, length, take, drop, refl, sym, ap, ◌∙◌, arith, subst, not, ◌&&◌, position, list_all, position_or_len, eqb-true, nat_tests, take_all, length-drop}
use Rattle.sap_wave.specs.Pieces.{IsCut, is_not}

abbrev is_mark : ℕ → ℕ → Bool
is_mark mark b = eqb b mark

-- where the first mark stands
record Place (m : ℕ) (s : List ℕ) (k : ℕ) : Type 0 where
  whole : s ≡ take k s ++ (m ∷ drop (suc k) s)
  first : list_all (is_not m) (take k s) ≡ true

here : (m b : ℕ) (s : List ℕ) → eqb b m ≡ true → Place m (b ∷ s) 0
here m b s t = record { whole = ap (λ (z : ℕ). z ∷ s) (eqb-true b m t); first = refl }

later : (m b : ℕ) (s : List ℕ) (k : ℕ) → eqb b m ≡ false → Place m s k → Place m (b ∷ s) (suc k)
later m b s k f p = record { whole = ap (λ (z : List ℕ). b ∷ z) p.whole; first = rw f p.first }

place : (m : ℕ) (s : List ℕ) → position_or_len (is_mark m) s < length s → Place m s (position_or_len (is_mark m) s)
place m [] l = absurd (omega arith)
place m (b ∷ s) l =
    let n : ℕ = position_or_len (is_mark m) s in
    elim (eqb b m) as (λ t. eqb b m ≡ t → cond (not t) (1 + n) 0 < suc (length s) → Place m (b ∷ s) (cond (not t) (1 + n) 0)) [
      | true ↦ λ e small. here m b s e
      | false ↦ λ e small. let k : suc n ≡ 1 + n = omega arith in subst (λ (z : ℕ). Place m (b ∷ s) z) k (later m b s n e (place m s (omega (arith, small))))
    ] refl l

unmarked : (m : ℕ) (s : List ℕ) → length s ≤ position_or_len (is_mark m) s → list_all (is_not m) s ≡ true
unmarked m [] l = refl
unmarked m (b ∷ s) l =
    let n : ℕ = position_or_len (is_mark m) s in
    elim (eqb b m) as (λ t. suc (length s) ≤ cond (not t) (1 + n) 0 → (not t && list_all (is_not m) s) ≡ true) [
      | true ↦ λ large. absurd (omega (arith, large))
      | false ↦ λ large. unmarked m s (omega (arith, large))
    ] l

place_found : (k n i : ℕ) (b : Bool) → ltb k n ≡ b → Some i ≡ cond b (Some k) None → (i ≡ k) × (k < n)
place_found k n i true t e = (let f : i ≡ k = cc in f, grind (arith, nat_tests))
place_found k n i false t e = absurd (let f : ⊥ = cc in f)

place_missing : (k n : ℕ) (b : Bool) → ltb k n ≡ b → None ≡ cond b (Some k) None → n ≤ k
place_missing k n true t e = absurd (let f : ⊥ = cc in f)
place_missing k n false t e = grind (arith, nat_tests)

pub cut_there : (m : ℕ) (s : List ℕ) (k : ℕ) → Some k ≡ position (is_mark m) s → IsCut m s (take k s) (take (length s - (k + 1)) (drop (k + 1) s))
cut_there m s k e =
    let n = position_or_len (is_mark m) s in
    let found = place_found n (length s) k (ltb n (length s)) refl e in
    let p : Place m s k = subst (λ (z : ℕ). Place m s z) (sym found.0) (place m s found.1) in
    let rest : take (length s - (k + 1)) (drop (k + 1) s) ≡ drop (k + 1) s = take_all (length s - (k + 1)) (drop (k + 1) s) (let l = length-drop (k + 1) s in omega (arith, l)) in
    let next : suc k ≡ k + 1 = omega arith in
    record {
      whole = p.whole ∙ ap (λ (z : ℕ). take k s ++ (m ∷ drop z s)) next ∙ ap (λ (z : List ℕ). take k s ++ (m ∷ z)) (sym rest);
      first = p.first;
    }

pub not_there : (m : ℕ) (s : List ℕ) → None ≡ position (is_mark m) s → list_all (is_not m) s ≡ true
not_there m s e =
    let n = position_or_len (is_mark m) s in
    unmarked m s (place_missing n (length s) (ltb n (length s)) refl e)
