-- Words for the rows of a table: what a token does with a symbol, from what it does with others.
use Rattle.std.specs.Prelude.{List, [], ◌∷◌, ◌++◌}
use Rattle.sap_walk.specs.Walk.{Next, begins, empty_here, cannot_stand}

-- Where the token is taken, these symbols come behind the others.
abbrev pub push : {S R : Type 0} → Next S R → List S → Next S R
push (begins role σ) τ = begins role (σ ++ τ)
push empty_here τ = empty_here
push cannot_stand τ = cannot_stand

-- What the token can't begin is left out.
abbrev pub optional : {S R : Type 0} → Next S R → Next S R
optional (begins role σ) = begins role σ
optional empty_here = empty_here
optional cannot_stand = empty_here

-- the first of the two that the token begins
infixr 12 ◌or◌
-- The first of two entries unless the token can't appear there, else the second.
abbrev pub ◌or◌ : {S R : Type 0} → Next S R → Next S R → Next S R
(begins role σ) or n = begins role σ
empty_here or n = empty_here
cannot_stand or n = n

-- One symbol and then others; what is last says what the token does with the others.
abbrev pub first_then : {S R : Type 0} → Next S R → List S → Next S R → Next S R
first_then (begins role σ) τ n = begins role (σ ++ τ)
first_then empty_here τ n = n
first_then cannot_stand τ n = cannot_stand

-- Several symbols, one after another.
abbrev pub firsts : {S R : Type 0} → (S → Next S R) → List S → Next S R
firsts row [] = empty_here
firsts row (s ∷ σ) = first_then (row s) σ (firsts row σ)
