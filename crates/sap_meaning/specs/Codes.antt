-- What numbers that are codes of levels show at a level l.
use Rattle.std.specs.Prelude.{◌≡◌, ◌<◌, ℕ}
use Rattle.sap_lattice.specs.Order.{Order}
use Rattle.sap_meaning.specs.Agree.{Relation, AlikeBy, Low, High}

-- `n` is the code of a level at or below `l`.
abbrev pub IsLowCode : Order → (code : ℕ → ℕ) → (l n : ℕ) → Type 0
IsLowCode o code l n = (t : ℕ) × (t < o.count) × (code t ≡ n) × Low o l t

-- `n` is the code of a level that is not at or below `l`.
abbrev pub IsHighCode : Order → (code : ℕ → ℕ) → (l n : ℕ) → Type 0
IsHighCode o code l n = (t : ℕ) × (t < o.count) × (code t ≡ n) × High o l t

-- Contents whose tags are codes of levels look alike at `l`.
abbrev pub LookAlike : Order → (code : ℕ → ℕ) → (l : ℕ) → Relation
LookAlike o code l = AlikeBy (IsLowCode o code l) (IsHighCode o code l)
