-- Readers of tokens in a row.
use Rattle.sap_lemmas.proofs.Common.{◌≡◌, ◌≤◌, ◌<◌, ◌+◌, ℕ, List, [], ◌∷◌, ◌++◌, Ok, length, drop, get_or, refl, sym, subst, ◌∙◌, at_drop_all, at_drop_more}
use Rattle.sap_vtext.specs.Tokens as t
use Rattle.sap_vparse.specs.Reading.{reads, steps}
use Rattle.sap_vparse.specs.Rows.{Part, single, several, AreFixed, done, ◌then◌, IsFixed, in_turn, reads_row, symbol_of, symbols_of}
use Rattle.sap_vparse.specs.Table.{Symbol}
use Rattle.sap_vparse.specs.declared.row.Fixed.{Fixed}
use Rattle.sap_walk.specs.Walk.{◌>>=◌}
use Rattle.sap_walk.proofs.Walking.{bind_bind, bind_err, bind_ok, bind_pure, bind_same}

steps_append : (σ τ : List Symbol) (p : List t.Token) → steps (σ ++ τ) p ≡ (steps σ p >>= steps τ)
steps_append [] τ p = refl
steps_append (x ∷ σ) τ p = bind_same (reads x p) (steps (σ ++ τ)) (λ q. steps σ q >>= steps τ) (steps_append σ τ) ∙ sym (bind_bind (reads x p) (steps σ) (steps τ))

-- the symbols of parts
abbrev pub symbols_in : List Part → List Symbol
symbols_in [] = []
symbols_in (single x ∷ xs) = x ∷ symbols_in xs
symbols_in (several σ ∷ xs) = σ ++ symbols_in xs

pub by_parts : (xs : List Part) (p : List t.Token) → steps (symbols_in xs) p ≡ in_turn xs p
unfolding reads_row
by_parts [] p = refl
by_parts (single x ∷ xs) p = bind_same (reads x p) (steps (symbols_in xs)) (in_turn xs) (by_parts xs)
by_parts (several σ ∷ xs) p = steps_append σ (symbols_in xs) p ∙ bind_same (steps σ p) (steps (symbols_in xs)) (in_turn xs) (by_parts xs)

-- a row, token by token

pub row_more : (σ : List Symbol) (x : Symbol) (p : List t.Token) → reads_row (x ∷ σ) p ≡ (reads x p >>= reads_row σ)
unfolding reads_row
row_more σ x p = refl

pub row_end : (p : List t.Token) → reads_row [] p ≡ Ok p
unfolding reads_row
row_end p = refl

pub row_at : (xs : List Fixed) (i : ℕ) (d : Fixed) (p : List t.Token) → i < length xs
    → reads_row (symbols_of (drop i xs)) p ≡ (reads (symbol_of (get_or xs i d)) p >>= reads_row (symbols_of (drop (i + 1) xs)))
row_at xs i d p h = at_drop_more (λ ys. reads_row (symbols_of ys) p) xs i d h ∙ row_more (symbols_of (drop (i + 1) xs)) (symbol_of (get_or xs i d)) p

pub row_done : (xs : List Fixed) (i : ℕ) (p : List t.Token) → length xs ≤ i → reads_row (symbols_of (drop i xs)) p ≡ Ok p
row_done xs i p h = at_drop_all (λ ys. reads_row (symbols_of ys) p) xs i h ∙ row_end p

pub fixed_at : (xs : List Fixed) (i : ℕ) (d : Fixed) (p m r : List t.Token) → i < length xs → IsFixed p (get_or xs i d) m
    → AreFixed m (drop (i + 1) xs) r → AreFixed p (drop i xs) r
fixed_at xs i d p m r h x rest = subst (λ (ys : List Fixed). AreFixed p ys r) (sym (at_drop_more (λ ys. ys) xs i d h)) (x then rest)

pub fixed_done : (xs : List Fixed) (i : ℕ) (p : List t.Token) → length xs ≤ i → AreFixed p (drop i xs) p
fixed_done xs i p h = subst (λ (ys : List Fixed). AreFixed p ys p) (sym (at_drop_all (λ ys. ys) xs i h)) done

pub ruleset rows = (row_at, row_done, row_more, bind_ok, bind_err, bind_pure)
