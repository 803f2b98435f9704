-- What is told of one cycle after another.
use Rattle.std.specs.Prelude.{ℕ, ◌+◌, List, [], ◌∷◌, ◌++◌}

-- What is told of each of some cycles, counted from this number on.
abbrev pub told_from : {X : Type 0} → (tell : (cycle : ℕ) → X → List ℕ) → (cycle : ℕ) → List X → List ℕ
told_from tell cycle [] = []
told_from tell cycle (x ∷ xs) = tell cycle x ++ told_from tell (cycle + 1) xs
