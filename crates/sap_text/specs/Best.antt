-- The first of several things, as faults are: found one after another by a test, and what it is to be the first by a
-- relation.
use Rattle.std.specs.Prelude.{◌≡◌, ◌⊎◌, List, [], ◌∷◌, Option, Some, None, Bool, if◌then◌else◌}

-- The one that comes first, of the best so far and one more.
abbrev pub better : {A : Type 0} → (A → A → Bool) → Option A → A → Option A
better comes_first None b = Some b
better comes_first (Some a) b = if comes_first a b then Some a else Some b

-- The first of `o` and the elements of the list.
unfoldable pub best_of : {A : Type 0} → (A → A → Bool) → Option A → List A → Option A
best_of comes_first o [] = o
best_of comes_first o (x ∷ xs) = best_of comes_first (better comes_first o x) xs

-- The value is an element of the list.
abbrev pub StandsIn : {A : Type 0} → A → List A → Type 0
StandsIn a [] = ⊥
StandsIn a (x ∷ xs) = (a ≡ x) ⊎ StandsIn a xs

-- A value comes before all of a list's.
abbrev pub BeforeAll : {A : Type 0} → (A → A → Type 0) → A → List A → Type 0
BeforeAll Before a [] = Unit {0}
BeforeAll Before a (x ∷ xs) = Before a x × BeforeAll Before a xs

-- The first of the things that stand; none where none stands.
abbrev pub First : {A : Type 0} → (A → A → Type 0) → Option A → List A → Type 0
First Before None xs = xs ≡ []
First Before (Some a) xs = StandsIn a xs × BeforeAll Before a xs
