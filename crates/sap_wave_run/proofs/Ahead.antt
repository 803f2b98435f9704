-- The cycles of a stream that are still to come.
use Rattle.std.proofs.Common.{◌≡◌, ℕ, zero, suc, ◌-◌, ◌<◌, List, [], ◌∷◌, ◌++◌, length, replicate, refl, ap, arith}

-- the first of some cycles with the same inputs
pub first_of_some : {X : Type 0} (count : ℕ) (x : X) (behind : List X) → 0 < count → replicate count x ++ behind ≡ x ∷ (replicate (count - 1) x ++ behind)
first_of_some zero x behind some = absurd (omega (arith, some))
first_of_some {X = X} (suc count) x behind some =
    let same : count ≡ suc count - 1 = omega arith in
    ap (λ (k : ℕ). x ∷ (replicate k x ++ behind)) same

-- where the first has none, there is none
pub none_ahead : {X : Type 0} (xs : List X) (left : ℕ) → (0 < length xs → 0 < left) → left ≡ 0 → xs ≡ []
none_ahead [] left some none = refl
none_ahead (x ∷ xs) left some none = absurd (let more : 0 < left = some (omega arith) in omega (arith, more, none))

pub some_left : (left : ℕ) → (left ≡ 0 → ⊥) → 0 < left
some_left zero some = absurd (some refl)
some_left (suc left) some = omega arith
