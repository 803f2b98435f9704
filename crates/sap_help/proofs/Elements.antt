-- What holds of each element of a list, at a place.
use Rattle.std.proofs.Common.{ℕ, zero, suc, List, [], ◌∷◌, ◌<◌, length, get_or, arith}
use Rattle.std.specs.List.{AllByRecursion}

pub at_place : {X : Type 0} (P : X → Type 0) (xs : List X) (i : ℕ) (d : X) → AllByRecursion P xs → i < length xs → P (get_or xs i d)
at_place P [] i d h low = absurd (omega arith)
at_place P (x ∷ xs) zero d h low = h.0
at_place P (x ∷ xs) (suc i) d h low = at_place P xs i d h.1 (omega arith)
