-- Values of expressions.
use Rattle.sap_lemmas.proofs.Common.{◌≡◌, ◌<◌, ◌^◌, ◌+◌, ◌-◌, ◌*◌, ◌/◌, ◌==◌, ℕ, Bool, true, false, refl, ap, ap₂, sym, subst, arith, if◌then◌else◌, pow_pos, mod-lt, pow-add}
use Rattle.sap_bits.specs.declared.Op2.{Op2}
use Rattle.sap_bits.specs.declared.Op2.TheVariants.{Add, Sub, Mul, And, Or, Xor, Eq, Ne, Lt, Le, Shl, Shr}
use Rattle.sap_bits.specs.Arithmetic.{width1, width2, RightFits, joined}
use Rattle.sap_bits.proofs.Within.{value1_below, value2_below}
use Rattle.sap_maps.specs.Term.{Term, constant, read, cell, one, two, choose, join, part, term_width, term_value, map_term, TermFits, CountFits}

-- the second operand is what the operator asks for
pub right_fits : (op : Op2) (w u b : ℕ) → CountFits op w u → b < 2 ^ u → RightFits op w b
right_fits Shl w u b c h = tt
right_fits Shr w u b c h = tt
right_fits Add w u b c h = subst (λ (k : ℕ). b < 2 ^ k) c h
right_fits Sub w u b c h = subst (λ (k : ℕ). b < 2 ^ k) c h
right_fits Mul w u b c h = subst (λ (k : ℕ). b < 2 ^ k) c h
right_fits And w u b c h = subst (λ (k : ℕ). b < 2 ^ k) c h
right_fits Or w u b c h = subst (λ (k : ℕ). b < 2 ^ k) c h
right_fits Xor w u b c h = subst (λ (k : ℕ). b < 2 ^ k) c h
right_fits Eq w u b c h = subst (λ (k : ℕ). b < 2 ^ k) c h
right_fits Ne w u b c h = subst (λ (k : ℕ). b < 2 ^ k) c h
right_fits Lt w u b c h = subst (λ (k : ℕ). b < 2 ^ k) c h
right_fits Le w u b c h = subst (λ (k : ℕ). b < 2 ^ k) c h

pub below_both : (b : Bool) (x y n : ℕ) → x < n → y < n → (if b then x else y) < n
below_both true x y n h k = h
below_both false x y n h k = k

product_below : (a m b n : ℕ) → a < m → b < n → a * n + b < m * n
product_below a m b n h k = grind arith

pub joined_below : (a b u w : ℕ) → a < 2 ^ u → b < 2 ^ w → joined a w b < 2 ^ (u + w)
joined_below a b u w h k = subst (λ (n : ℕ). a * 2 ^ w + b < n) (sym (pow-add 2 u w)) (product_below a (2 ^ u) b (2 ^ w) h k)

pub term_within : {N : Type 0} (widths : N → ℕ) (value : N → ℕ) (cells : N → ℕ → ℕ) (t : Term N) → TermFits widths t
    → ((n : N) → value n < 2 ^ widths n) → ((m : N) (i : ℕ) → cells m i < 2 ^ widths m)
    → term_value widths value cells t < 2 ^ term_width widths t
term_within widths value cells (constant w x) fits v c = fits
term_within widths value cells (read n) fits v c = v n
term_within widths value cells (cell m i) fits v c = c m (term_value widths value cells i)
term_within widths value cells (one op a) fits v c =
    value1_below op (term_width widths a) (term_value widths value cells a) (term_within widths value cells a fits v c)
term_within widths value cells (two op a b) fits v c =
    value2_below op (term_width widths a) (term_value widths value cells a) (term_value widths value cells b)
    (term_within widths value cells a fits.0 v c)
    (right_fits op (term_width widths a) (term_width widths b) _ fits.2 (term_within widths value cells b fits.1 v c))
term_within widths value cells (choose d a b) fits v c =
    below_both (term_value widths value cells d == 0) _ _ _
    (subst (λ (k : ℕ). term_value widths value cells b < 2 ^ k) fits.3 (term_within widths value cells b fits.2 v c))
    (term_within widths value cells a fits.1 v c)
term_within widths value cells (join a b) fits v c =
    joined_below (term_value widths value cells a) (term_value widths value cells b) (term_width widths a) (term_width widths b)
    (term_within widths value cells a fits.0 v c) (term_within widths value cells b fits.1 v c)
term_within widths value cells (part a hi lo) fits v c = mod-lt (term_value widths value cells a / 2 ^ lo) (pow_pos (hi + 1 - lo))

pub width_renamed : {N M : Type 0} (f : N → M) (widths : M → ℕ) (t : Term N) → term_width widths (map_term f t) ≡ term_width (λ n. widths (f n)) t
width_renamed f widths (constant w x) = refl
width_renamed f widths (read n) = refl
width_renamed f widths (cell m i) = refl
width_renamed f widths (one op a) = ap (λ (k : ℕ). width1 op k) (width_renamed f widths a)
width_renamed f widths (two op a b) = ap (λ (k : ℕ). width2 op k) (width_renamed f widths a)
width_renamed f widths (choose c a b) = width_renamed f widths a
width_renamed f widths (join a b) = ap₂ (λ (m n : ℕ). m + n) (width_renamed f widths a) (width_renamed f widths b)
width_renamed f widths (part a hi lo) = refl

pub term_renamed : {N M : Type 0} (f : N → M) (widths : M → ℕ) (value : M → ℕ) (cells : M → ℕ → ℕ) (t : Term N)
    → term_value widths value cells (map_term f t) ≡ term_value (λ n. widths (f n)) (λ n. value (f n)) (λ m. cells (f m)) t
term_renamed f widths value cells (constant w x) = refl
term_renamed f widths value cells (read n) = refl
term_renamed f widths value cells (cell m i) = ap (λ (k : ℕ). cells (f m) k) (term_renamed f widths value cells i)
term_renamed f widths value cells (one op a) = rw (width_renamed f widths a, term_renamed f widths value cells a) refl
term_renamed f widths value cells (two op a b) =
    rw (width_renamed f widths a, term_renamed f widths value cells a, term_renamed f widths value cells b) refl
term_renamed f widths value cells (choose c a b) =
    rw (term_renamed f widths value cells c, term_renamed f widths value cells a, term_renamed f widths value cells b) refl
term_renamed f widths value cells (join a b) =
    rw (width_renamed f widths b, term_renamed f widths value cells a, term_renamed f widths value cells b) refl
term_renamed f widths value cells (part a hi lo) = rw (term_renamed f widths value cells a) refl
