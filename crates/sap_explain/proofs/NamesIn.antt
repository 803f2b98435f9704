-- Names of a module, piece by piece.
use Rattle.sap_lemmas.proofs.Common.{◌≡◌, ℕ, ◌<◌, List, [], ◌∷◌, ◌++◌, length, refl, arith, append_assoc, codes}
use Rattle.sap_explain.specs.Explanation.{name_in}

pub without_part : (letter rest : List ℕ) → name_in [] (letter ++ rest) ≡ letter ++ rest
without_part letter rest = refl

with_part : (b : ℕ) (bs letter rest : List ℕ) → length letter ≡ 2
    → name_in (b ∷ bs) (letter ++ rest) ≡ letter ++ ((b ∷ bs) ++ (codes "_" ++ rest))
with_part b bs (x ∷ y ∷ []) rest two = refl
with_part b bs [] rest two = absurd (omega (arith, two))
with_part b bs (x ∷ []) rest two = absurd (omega (arith, two))
with_part b bs (x ∷ y ∷ z ∷ zs) rest two = absurd (omega (arith, two))

pub alone : (part x : List ℕ) → length part ≡ 0 → name_in part x ≡ x
alone [] x none = refl
alone (b ∷ bs) x none = absurd (omega (arith, none))

pub in_a_part : (part letter rest : List ℕ) → 0 < length part → length letter ≡ 2 → name_in part (letter ++ rest) ≡ letter ++ (part ++ (codes "_" ++ rest))
in_a_part [] letter rest some two = absurd (omega (arith, some))
in_a_part (b ∷ bs) letter rest some two = with_part b bs letter rest two

pub ruleset names = (alone, in_a_part, append_assoc)
