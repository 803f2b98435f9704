-- What is written is taken as the token that it stands for.
use Rattle.sap_lemmas.proofs.Common.{◌≡◌, ◌<◌, ◌+◌, ◌^◌, ℕ, List, [], ◌∷◌, ◌++◌, length, take, drop, Bool, true, false, cond, eqb, refl, sym, ap, ◌∙◌, arith, Some, append_assoc, lit<, nat_tests, slice_index, ◌||◌, ◌&&◌, nat_eq, not, decimal, codes, take_while, starts_with, list_all, is_ascii_digit, digits_value, digits_decimal, digits_value-decimal, decimal_nonempty, take_front, digits_model, and_from, and_parts}
use Rattle.std.proofs.lemmas.Fmt.{first_decimal}
use Rattle.sap_lemmas.proofs.Bools.{fourth_case, third_case}
use Rattle.sap_lemmas.proofs.Everywhere.{prefix_run}
use Rattle.sap_lemmas.proofs.Lists.{drop_front, quoted_length}
use Rattle.std.proofs.lemmas.Bool.{and_left}
use Rattle.sap_net.specs.Names.{is_initial, is_inner}
use Rattle.sap_vtext.specs.Items.{Constant}
use Rattle.sap_vtext.specs.Items as item
use Rattle.sap_vtext.specs.Lexing.{word_text, sign_text, is_blank, is_in_line, kind_of_name, name_front, sign_or_bad, number_front, constant_front, digits_of_front, is_constant, digits_front, is_below_2_64, Front, blank, token, bad, front}
use Rattle.sap_vtext.specs.Tokens.{Word, Sign, Kind}
use Rattle.sap_vtext.specs.Tokens as t
use Rattle.sap_vprint.specs.Text.{Piece, space, line, comment, zero, one, word, sign, name, number, operand, operand_text, piece_text}

-- a byte that would join what stands before it
abbrev pub clings : Piece → ℕ → Bool
clings (sign t.is) b = eqb b 61
clings (sign t.less) b = eqb b 61 || eqb b 60
clings (sign s) b = false
clings space b = false
clings line b = false
clings comment b = is_in_line b
clings p b = is_inner b || eqb b 39

-- a name of the module grammar
pub record IsName (n : List ℕ) : Type 0 where
  pub first : ℕ
  pub others : List ℕ
  pub parts : n ≡ first ∷ others
  pub start : is_initial first ≡ true
  pub bytes : list_all is_inner n ≡ true
  pub kind : kind_of_name n ≡ t.name n

pub record IsWritable (c : Constant) : Type 0 where
  pub positive : 0 < c.width
  pub width : c.width < 2 ^ 64
  pub value : c.value < 2 ^ 64

abbrev pub IsSpelled : Piece → Type 0
IsSpelled (name n) = IsName n
IsSpelled (number n) = n < 2 ^ 64
IsSpelled (operand (item.named x)) = IsName x.name
IsSpelled (operand (item.constant c)) = IsWritable c
IsSpelled _ = Unit {0}

abbrev pub front_of : Piece → Front
front_of space = blank 1
front_of line = blank 1
front_of comment = blank (length (piece_text comment))
front_of zero = token (t.number 0 1) 1
front_of one = token (t.number 1 1) 1
front_of (word w) = token (t.word w) (length (word_text w))
front_of (sign s) = token (t.sign s) (length (sign_text s))
front_of (name n) = token (t.name n) (length n)
front_of (number n) = token (t.number n (length (decimal n))) (length (decimal n))
front_of (operand (item.named x)) = token (t.name x.name) (length x.name)
front_of (operand (item.constant c)) = token (t.constant c.width c.value) (length (operand_text (item.constant c)))

middle_false : (a b c : Bool) → b ≡ false → (a && (b && c)) ≡ false
middle_false true b c h = and_left b c h
middle_false false b c h = refl

run_taken : (p : ℕ → Bool) (ds rest : List ℕ) → list_all p ds ≡ true → p (slice_index rest 0) ≡ false → take_while p (ds ++ rest) ≡ ds
run_taken p ds rest all stop = ap (λ n. take n (ds ++ rest)) (prefix_run p ds rest all stop) ∙ take_front ds rest

no_comment : (b : ℕ) (bs : List ℕ) → eqb 47 b ≡ false → starts_with nat_eq (b ∷ bs) (codes "//") ≡ false
no_comment b bs h = and_left (eqb 47 b) _ h

pub record NameStart (b : ℕ) : Type 0 where
  white : is_blank b ≡ false
  slash : eqb 47 b ≡ false

name_start : (b : ℕ) → is_initial b ≡ true → NameStart b
name_start b h = record { white = grind (arith, nat_tests); slash = grind (arith, nat_tests) }

pub record DigitStart (b : ℕ) : Type 0 where
  white : is_blank b ≡ false
  slash : eqb 47 b ≡ false
  name : is_initial b ≡ false

digit_start : (b : ℕ) → is_ascii_digit b ≡ true → DigitStart b
digit_start b h = record { white = grind (arith, nat_tests); slash = grind (arith, nat_tests); name = grind (arith, nat_tests) }

name_taken : (b : ℕ) (bs rest : List ℕ) → is_initial b ≡ true → list_all is_inner (b ∷ bs) ≡ true → is_inner (slice_index rest 0) ≡ false
    → front ((b ∷ bs) ++ rest) ≡ name_front (b ∷ bs)
unfolding front
name_taken b bs rest start all stop =
    let w = name_start b start in
    third_case (is_blank b) (starts_with nat_eq (b ∷ (bs ++ rest)) (codes "//")) (is_initial b) _ _ _ _ w.white (no_comment b (bs ++ rest) w.slash) start
    ∙ ap name_front (run_taken is_inner (b ∷ bs) rest all stop)

no_name_byte : (b : ℕ) → (is_inner b || eqb b 39) ≡ false → (is_inner b ≡ false) × (is_ascii_digit b ≡ false) × (eqb 39 b ≡ false)
no_name_byte b h = (grind (arith, nat_tests), grind (arith, nat_tests), grind (arith, nat_tests))

name_spelled : (n rest : List ℕ) → IsName n → (is_inner (slice_index rest 0) || eqb (slice_index rest 0) 39) ≡ false
    → front (n ++ rest) ≡ token (t.name n) (length n)
name_spelled n rest h stop =
    let w = no_name_byte (slice_index rest 0) stop in
    let all = ap (list_all is_inner) (sym h.parts) ∙ h.bytes in
    ap (λ x. front (x ++ rest)) h.parts ∙ name_taken h.first h.others rest h.start all w.0
    ∙ ap name_front (sym h.parts) ∙ ap (λ k. token k (length n)) h.kind

word_taken : (b : ℕ) (bs rest : List ℕ) (k : Kind) → is_initial b ≡ true → list_all is_inner (b ∷ bs) ≡ true → kind_of_name (b ∷ bs) ≡ k
    → (is_inner (slice_index rest 0) || eqb (slice_index rest 0) 39) ≡ false → front ((b ∷ bs) ++ rest) ≡ token k (length (b ∷ bs))
word_taken b bs rest k start all is stop =
    let w = no_name_byte (slice_index rest 0) stop in
    name_taken b bs rest start all w.0 ∙ ap (λ x. token x (length (b ∷ bs))) is

word_at : (w : Word) (rest : List ℕ) → is_initial (slice_index (word_text w) 0) ≡ true → list_all is_inner (slice_index (word_text w) 0 ∷ drop 1 (word_text w)) ≡ true
    → kind_of_name (slice_index (word_text w) 0 ∷ drop 1 (word_text w)) ≡ t.word w → (is_inner (slice_index rest 0) || eqb (slice_index rest 0) 39) ≡ false
    → front ((slice_index (word_text w) 0 ∷ drop 1 (word_text w)) ++ rest) ≡ token (t.word w) (length (slice_index (word_text w) 0 ∷ drop 1 (word_text w)))
word_at w rest = word_taken (slice_index (word_text w) 0) (drop 1 (word_text w)) rest (t.word w)

word_spelled : (w : Word) (rest : List ℕ) → (is_inner (slice_index rest 0) || eqb (slice_index rest 0) 39) ≡ false
    → front (word_text w ++ rest) ≡ token (t.word w) (length (word_text w))
word_spelled t.module_word rest stop = word_at t.module_word rest refl refl refl stop
word_spelled x rest stop = word_at x rest refl refl refl stop

-- digits, and what follows them
record IsDigits (ds : List ℕ) : Type 0 where
  first : ℕ
  others : List ℕ
  parts : ds ≡ first ∷ others
  all : list_all is_ascii_digit ds ≡ true

digits_taken : (ds rest : List ℕ) → IsDigits ds → is_ascii_digit (slice_index rest 0) ≡ false → front (ds ++ rest) ≡ digits_front ds rest
unfolding front
digits_taken ds rest h stop =
    let all : list_all is_ascii_digit (h.first ∷ h.others) ≡ true = ap (list_all is_ascii_digit) (sym h.parts) ∙ h.all in
    let start = (and_parts (is_ascii_digit h.first) (list_all is_ascii_digit h.others) all).0 in
    let w = digit_start h.first start in
    let whole = h.first ∷ (h.others ++ rest) in
    let e : whole ≡ ds ++ rest = ap (λ x. x ++ rest) (sym h.parts) in
    let run : digits_of_front whole ≡ ds = ap digits_of_front e ∙ run_taken is_ascii_digit ds rest h.all stop in
    ap front (sym e)
    ∙ fourth_case (is_blank h.first) (starts_with nat_eq whole (codes "//")) (is_initial h.first) (is_ascii_digit h.first) _ _ _ _ _ w.white
    (no_comment h.first (h.others ++ rest) w.slash) w.name start
    ∙ ap (λ x. digits_front x (drop (length x) whole)) run
    ∙ ap (digits_front ds) (ap (drop (length ds)) e ∙ drop_front ds rest)

decimal_digits : (n : ℕ) → n < 2 ^ 64 → IsDigits (decimal n)
decimal_digits n h = by_list (decimal n) (decimal_nonempty n h) (digits_decimal digits_model n h) where
  by_list : (ds : List ℕ) → 0 < length ds → list_all is_ascii_digit ds ≡ true → IsDigits ds
  by_list [] p q = absurd (omega arith)
  by_list (d ∷ ds) p q = record { first = d; others = ds; parts = refl; all = q }

small : (n : ℕ) → n < 2 ^ 64 → is_below_2_64 n ≡ true
small n h = grind (arith, nat_tests)

no_constant : (ds rest : List ℕ) → eqb 39 (slice_index rest 0) ≡ false → is_constant ds rest ≡ false
no_constant ds [] h = middle_false (not (eqb (slice_index ds 0) 48)) false (is_ascii_digit (slice_index [] 2)) refl
no_constant ds (c ∷ rest) h = middle_false (not (eqb (slice_index ds 0) 48)) (starts_with nat_eq (c ∷ rest) (codes "'d")) _ (and_left (eqb 39 c) _ h)

digits_spelled : (ds rest : List ℕ) (n : ℕ) → IsDigits ds → digits_value 10 ds ≡ n → n < 2 ^ 64
    → (is_inner (slice_index rest 0) || eqb (slice_index rest 0) 39) ≡ false → front (ds ++ rest) ≡ token (t.number n (length ds)) (length ds)
digits_spelled ds rest n digits value fits stop =
    let w = no_name_byte (slice_index rest 0) stop in
    digits_taken ds rest digits w.1
    ∙ ap (λ b. cond b (constant_front ds (digits_of_front (drop 2 rest))) (number_front ds)) (no_constant ds rest w.2)
    ∙ ap (λ v. cond (is_below_2_64 v) (token (t.number v (length ds)) (length ds)) bad) value
    ∙ ap (λ b. cond b (token (t.number n (length ds)) (length ds)) bad) (small n fits)

number_spelled : (n : ℕ) (rest : List ℕ) → n < 2 ^ 64 → (is_inner (slice_index rest 0) || eqb (slice_index rest 0) 39) ≡ false
    → front (decimal n ++ rest) ≡ token (t.number n (length (decimal n))) (length (decimal n))
number_spelled n rest fits stop = digits_spelled (decimal n) rest n (decimal_digits n fits) (digits_value-decimal digits_model n fits) fits stop

digit_spelled : (d : ℕ) (rest : List ℕ) → is_ascii_digit d ≡ true → digits_value 10 (d ∷ []) < 2 ^ 64 → (is_inner (slice_index rest 0) || eqb (slice_index rest 0) 39) ≡ false
    → front ((d ∷ []) ++ rest) ≡ token (t.number (digits_value 10 (d ∷ [])) 1) 1
digit_spelled d rest h fits stop =
    digits_spelled (d ∷ []) rest (digits_value 10 (d ∷ [])) (record { first = d; others = []; parts = refl; all = and_from (is_ascii_digit d) true h refl }) refl fits stop

not_zero : (d : ℕ) → 48 < d → not (eqb d 48) ≡ true
not_zero d h = grind (arith, nat_tests)

constant_test : (ds vs : List ℕ) → 48 < slice_index ds 0 → is_ascii_digit (slice_index vs 0) ≡ true → is_constant ds (39 ∷ 100 ∷ vs) ≡ true
constant_test ds vs h g = and_from (not (eqb (slice_index ds 0) 48)) (is_ascii_digit (slice_index vs 0)) (not_zero (slice_index ds 0) h) g

first_digit : (ds rest : List ℕ) → IsDigits ds → is_ascii_digit (slice_index (ds ++ rest) 0) ≡ true
first_digit ds rest h =
    let all : list_all is_ascii_digit (h.first ∷ h.others) ≡ true = ap (list_all is_ascii_digit) (sym h.parts) ∙ h.all in
    ap (λ x. is_ascii_digit (slice_index (x ++ rest) 0)) h.parts ∙ (and_parts (is_ascii_digit h.first) (list_all is_ascii_digit h.others) all).0

constant_spelled : (c : Constant) (rest : List ℕ) → IsWritable c → (is_inner (slice_index rest 0) || eqb (slice_index rest 0) 39) ≡ false
    → front (operand_text (item.constant c) ++ rest) ≡ token (t.constant c.width c.value) (length (operand_text (item.constant c)))
constant_spelled c rest h stop =
    let w = no_name_byte (slice_index rest 0) stop in
    let ds = decimal c.width in
    let vs = decimal c.value in
    let after = 39 ∷ 100 ∷ (vs ++ rest) in
    let other = decimal_digits c.value h.value in
    let run : digits_of_front (vs ++ rest) ≡ vs = run_taken is_ascii_digit vs rest other.all w.1 in
    let fits : (is_below_2_64 c.width && is_below_2_64 c.value) ≡ true = and_from (is_below_2_64 c.width) (is_below_2_64 c.value) (small c.width h.width) (small c.value h.value) in
    ap front (append_assoc ds (39 ∷ 100 ∷ vs) rest)
    ∙ digits_taken ds after (decimal_digits c.width h.width) refl
    ∙ ap (λ b. cond b (constant_front ds (digits_of_front (vs ++ rest))) (number_front ds))
    (constant_test ds (vs ++ rest) (first_decimal c.width h.positive h.width) (first_digit vs rest other))
    ∙ ap (constant_front ds) run
    ∙ ap (λ v. cond (is_below_2_64 v && is_below_2_64 (digits_value 10 vs))
    (token (t.constant v (digits_value 10 vs)) (length ds + 2 + length vs)) bad) (digits_value-decimal digits_model c.width h.width)
    ∙ ap (λ v. cond (is_below_2_64 c.width && is_below_2_64 v) (token (t.constant c.width v) (length ds + 2 + length vs)) bad) (digits_value-decimal digits_model c.value h.value)
    ∙ ap (λ b. cond b (token (t.constant c.width c.value) (length ds + 2 + length vs)) bad) fits
    ∙ ap (token (t.constant c.width c.value)) (quoted_length ds vs)

other_byte : (b c : ℕ) → eqb b c ≡ false → eqb c b ≡ false
other_byte b c h = grind (arith, nat_tests)

not_less_sign : (b : ℕ) → (eqb b 61 || eqb b 60) ≡ false → (eqb 61 b ≡ false) × (eqb 60 b ≡ false)
not_less_sign b h = (grind (arith, nat_tests), grind (arith, nat_tests))

sign_spelled : (s : Sign) (rest : List ℕ) → clings (sign s) (slice_index rest 0) ≡ false → front (sign_text s ++ rest) ≡ token (t.sign s) (length (sign_text s))
unfolding front
sign_spelled t.is [] stop = refl
sign_spelled t.is (c ∷ rest) stop = ap (λ b. sign_or_bad (cond (b && true) (Some t.equal) (Some t.is))) (other_byte c 61 stop)
sign_spelled t.less [] stop = refl
sign_spelled t.less (c ∷ rest) stop =
    let w = not_less_sign c stop in
    ap (λ b. sign_or_bad (cond (b && true) (Some t.less_or_equal) (cond (eqb 60 c && true) (Some t.shift_left) (Some t.less)))) w.0
    ∙ ap (λ b. sign_or_bad (cond (b && true) (Some t.shift_left) (Some t.less))) w.1
sign_spelled _ rest stop = refl

pub piece_spelled : (p : Piece) (rest : List ℕ) → IsSpelled p → clings p (slice_index rest 0) ≡ false → front (piece_text p ++ rest) ≡ front_of p
unfolding front
piece_spelled space rest h stop = refl
piece_spelled line rest h stop = refl
piece_spelled comment rest h stop = ap blank (prefix_run is_in_line (piece_text comment) rest refl stop)
piece_spelled zero rest h stop = digit_spelled 48 rest refl (lit< tt) stop
piece_spelled one rest h stop = digit_spelled 49 rest refl (lit< tt) stop
piece_spelled (word w) rest h stop = word_spelled w rest stop
piece_spelled (sign s) rest h stop = sign_spelled s rest stop
piece_spelled (name n) rest h stop = name_spelled n rest h stop
piece_spelled (number n) rest h stop = number_spelled n rest h stop
piece_spelled (operand (item.named x)) rest h stop = name_spelled x.name rest h stop
piece_spelled (operand (item.constant c)) rest h stop = constant_spelled c rest h stop
