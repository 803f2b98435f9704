-- Where refusals are at some of the sites with numbers in a row, each is at one of these.
use Rattle.std.proofs.Common.{◌≡◌, ℕ, zero, suc, ◌+◌, ◌<◌, ◌≤◌, List, [], ◌∷◌, inl, inr, arith}
use Rattle.sap_meaning.specs.Store.{Refusal}
use Rattle.sap_meaning.specs.Sites.{refused_sites, numbers_from, Sublist}
use Rattle.sap_interface.specs.StandsFor.{IsRefusedAt}

pub refused_among : (m n : ℕ) (rs : List Refusal) → Sublist (refused_sites rs) (numbers_from m n) → (k t : ℕ) → IsRefusedAt rs k t → (m ≤ k) × (k < m + n)
refused_among m n [] sub k t h = absurd h
refused_among m zero (r ∷ rs) sub k t h = absurd sub
refused_among m (suc n) (r ∷ rs) sub k t h = elim sub [
  | inl q ↦ elim h [
    | inl e ↦ (let a : r.site ≡ m = q.0 in let b : r.site ≡ k = e.0 in (omega arith, omega arith))
    | inr i ↦ wider (refused_among (suc m) n rs q.1 k t i)
  ]
  | inr q ↦ wider (refused_among (suc m) n (r ∷ rs) q k t h)
]
  where
    wider : (suc m ≤ k) × (k < suc m + n) → (m ≤ k) × (k < m + suc n)
    wider b = (let low = b.0 in let high = b.1 in (omega arith, omega arith))

-- each refusal has a wire
pub refused_within : (sites : ℕ) (rs : List Refusal) → Sublist (refused_sites rs) (numbers_from 1 sites) → (k t : ℕ) → IsRefusedAt rs k t → (1 ≤ k) × (k ≤ sites)
refused_within sites rs sub k t h = (let b = refused_among 1 sites rs sub k t h in (b.0, omega (arith, b.1)))
