-- What hangs on a command: as the numbers of entities, and as what is said of each entity.
use Rattle.std.specs.Prelude.{ℕ, Bool, true, List, [], ◌∷◌, nat_eq, nat_lt, ◌&&◌}
use Rattle.std.specs.List.{list_any}
use Rattle.sap_resolved.specs.Fill.{table}

-- The numbers of the list rise, and the first is above x.
abbrev pub rises_from : ℕ → List ℕ → Bool
rises_from x [] = true
rises_from x (y ∷ ys) = nat_lt x y && rises_from y ys

-- The numbers of a list rise: each is above the one before.
abbrev pub rises : List ℕ → Bool
rises [] = true
rises (x ∷ xs) = rises_from x xs

-- The list has the number.
abbrev pub hangs : List ℕ → ℕ → Bool
hangs ys x = list_any (λ y. nat_eq y x) ys

-- Of each of the n entities, whether it hangs.
abbrev pub flags : (n : ℕ) → List ℕ → List Bool
flags n hang = table n (hangs hang)
