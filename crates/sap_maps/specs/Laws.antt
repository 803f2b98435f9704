-- What holds of the value of every expression.
use Rattle.std.specs.Prelude.{◌≡◌, ◌<◌, ◌^◌, ℕ}
use Rattle.sap_maps.specs.Term.{Term, term_width, term_value, map_term, TermFits}

-- Where the numbers behind the names are within their widths, the value is.
abbrev pub TermWithin : (N : Type 0) → Type 0
TermWithin N = (widths : N → ℕ) (value : N → ℕ) (cells : N → ℕ → ℕ) (t : Term N) → TermFits widths t
    → ((n : N) → value n < 2 ^ widths n) → ((m : N) (i : ℕ) → cells m i < 2 ^ widths m)
    → term_value widths value cells t < 2 ^ term_width widths t

-- Renaming the names of an expression, and giving the new names what the old ones stood for, leaves its value.
abbrev pub TermRenamed : (N M : Type 0) → Type 0
TermRenamed N M = (f : N → M) (widths : M → ℕ) (value : M → ℕ) (cells : M → ℕ → ℕ) (t : Term N)
    → term_value widths value cells (map_term f t)
    ≡ term_value (λ n. widths (f n)) (λ n. value (f n)) (λ m. cells (f m)) t
