-- Each piece is taken as the token that it stands for.
use Rattle.sap_lemmas.proofs.Common.{◌≡◌, ◌<◌, ◌+◌, ◌^◌, ℕ, suc, List, [], ◌∷◌, ◌++◌, length, take, drop, Bool, true, false, cond, refl, sym, ap, ◌∙◌, arith, Some, None, length-append, append_assoc, nat_tests, common_steps, list_any-append, decimal_digit, digits_decimal, digits_value-decimal, decimal_nonempty, is_ascii_digit, prefix_len, list_all, list_any, slice_index, ◌||◌, ◌&&◌, ◌==◌, nat_lt, nat_le, not, decimal, map, bytes_eq, digits_value, take_front, test_of_positive, digits_model, and_from, and_parts, not-true, or_parts}
use Rattle.sap_lemmas.proofs.Bools.{fourth_case, third_case}
use Rattle.sap_lemmas.proofs.Everywhere.{none_found, prefix_run}
use Rattle.sap_lemmas.proofs.Lists.{quoted_length}
use Rattle.std.proofs.lemmas.Bool.{and_left}
use Rattle.sap_text.proofs.NamesLemmas.{initial_inner}
use Rattle.sap_lex.specs.Lexing.{kind_by, later_kind}
use Rattle.sap_lex.specs.Lexemes.{clings, word_or_name, name_at, number_lexeme, sized_lexeme, sized_in, sized_at, number_at, sign_or, sign_at, lexeme_of}
use Rattle.sap_lex.specs.Spelling.{later_word_of, sign_text, word_of}
use Rattle.sap_text.specs.Blanks.{is_blank, is_comment}
use Rattle.sap_text.specs.Runs.{number_of}
use Rattle.sap_text.specs.declared.scan.Class.TheVariants as c
use Rattle.sap_lex.specs.declared.lexeme.Lexeme.TheVariants as l
use Rattle.sap_lex.specs.declared.token.Kind.TheVariants as k
use Rattle.sap_lex.specs.declared.token.Kind.{Kind}
use Rattle.sap_lex.specs.declared.token.Sign.TheVariants as s
use Rattle.sap_lex.specs.declared.token.Sign.{Sign}
use Rattle.sap_tree.specs.declared.word.Word.TheVariants as w
use Rattle.sap_tree.specs.Prelude.{most_name_bytes, is_number, first_words, is_initial, is_inner, is_keyword, is_name, is_word, keywords, later_words, word_text}
use Rattle.sap_tree.specs.declared.word.Word.{Word}
use Rattle.sap_tree.specs.declared.version.Version.{Version}
use Rattle.sap_show.proofs.Pieces.{Piece, space, line, token, bytes_of, kind_bytes}
use Rattle.sap_show.proofs.Spaced.{ends_run, ends_sign, follows, is_spelled, apart}
use Rattle.sap_tree.specs.declared.version.Version.TheVariants as v

-- runs and parts of lists

byte_after : (a b : List ℕ) → slice_index (a ++ b) (length a) ≡ slice_index b 0
byte_after [] b = refl
byte_after (x ∷ a) b = byte_after a b

-- which arm of a chain of tests

record NameStart (b : ℕ) : Type 0 where
  white : is_blank b ≡ false
  slash : (b == 47) ≡ false

name_start : (b : ℕ) → is_initial b ≡ true → NameStart b
name_start b h = record { white = grind (arith, nat_tests); slash = grind (arith, nat_tests) }

record DigitStart (b : ℕ) : Type 0 where
  white : is_blank b ≡ false
  slash : (b == 47) ≡ false
  name : is_initial b ≡ false

digit_start : (b : ℕ) → is_ascii_digit b ≡ true → DigitStart b
digit_start b h = record { white = grind (arith, nat_tests); slash = grind (arith, nat_tests); name = grind (arith, nat_tests) }

record StopsRun (b : ℕ) : Type 0 where
  inner : is_inner b ≡ false
  digit : is_ascii_digit b ≡ false
  quote : (b == 39) ≡ false

stops_run : (b : ℕ) → clings b ≡ false → StopsRun b
stops_run b h = record { inner = grind (arith, nat_tests); digit = grind (arith, nat_tests); quote = grind (arith, nat_tests) }

-- words and names

name_taken : (b : ℕ) (bs rest : List ℕ) → is_initial b ≡ true → list_all is_inner (b ∷ bs) ≡ true → is_inner (slice_index rest 0) ≡ false
    → lexeme_of ((b ∷ bs) ++ rest) ≡ word_or_name (word_of (b ∷ bs)) (b ∷ bs) (length (b ∷ bs))
unfolding lexeme_of name_at
name_taken b bs rest start all stop =
    let f = name_start b start in
    let whole = (b ∷ bs) ++ rest in
    third_case (is_blank b) (is_comment whole) (is_initial b) _ _ _ _ f.white (and_left (b == 47) _ f.slash) start
    ∙ ap (λ n. word_or_name (word_of (take n whole)) (take n whole) n) (prefix_run is_inner (b ∷ bs) rest all stop)
    ∙ ap (λ x. word_or_name (word_of x) x (length (b ∷ bs))) (take_front (b ∷ bs) rest)

word_at : (x : Word) (rest : List ℕ) → is_initial (slice_index (word_text x) 0) ≡ true → list_all is_inner (slice_index (word_text x) 0 ∷ drop 1 (word_text x)) ≡ true
    → clings (slice_index rest 0) ≡ false
    → lexeme_of ((slice_index (word_text x) 0 ∷ drop 1 (word_text x)) ++ rest)
    ≡ word_or_name (word_of (slice_index (word_text x) 0 ∷ drop 1 (word_text x))) (slice_index (word_text x) 0 ∷ drop 1 (word_text x))
    (length (slice_index (word_text x) 0 ∷ drop 1 (word_text x)))
word_at x rest start all stop = name_taken (slice_index (word_text x) 0) (drop 1 (word_text x)) rest start all (stops_run (slice_index rest 0) stop).inner

no_word : (n : List ℕ) → is_keyword v.One n ≡ false → word_of n ≡ None
no_word n h = none_found (λ word. bytes_eq n (word_text word)) first_words h

no_keyword : (n : List ℕ) → is_keyword v.Two n ≡ false → (is_keyword v.One n ≡ false) × (list_any (bytes_eq n) (map word_text later_words) ≡ false)
no_keyword n h =
    or_parts (is_keyword v.One n) (list_any (bytes_eq n) (map word_text later_words)) (sym (list_any-append (bytes_eq n) (keywords v.One) (map word_text later_words)) ∙ h)

no_first_keyword : (version : Version) (n : List ℕ) → is_keyword version n ≡ false → is_keyword v.One n ≡ false
no_first_keyword v.One n h = h
no_first_keyword v.Two n h = (no_keyword n h).0

no_later_word : (n : List ℕ) → is_keyword v.Two n ≡ false → later_word_of n ≡ None
no_later_word n h = none_found (λ word. bytes_eq n (word_text word)) later_words (no_keyword n h).1

pub name_keyword : (version : Version) (n : List ℕ) → is_name version n ≡ true → is_keyword version n ≡ false
unfolding is_name
name_keyword version n h =
    not-true (is_keyword version n) (and_parts (is_word n) (not (is_keyword version n))
    (and_parts (is_word n && not (is_keyword version n)) (nat_le (length n) most_name_bytes) h).0).1

pub name_no_later : (n : List ℕ) → is_name v.Two n ≡ true → later_word_of n ≡ None
name_no_later n h = no_later_word n (name_keyword v.Two n h)

name_lexed : (version : Version) (n rest : List ℕ) → is_name version n ≡ true → clings (slice_index rest 0) ≡ false → lexeme_of (n ++ rest) ≡ l.Token (k.Name n) (length n)
unfolding is_name
name_lexed version n rest h stop = by_list n f.0 (no_first_keyword version n (not-true (is_keyword version n) f.1)) where
  f : (is_word n ≡ true) × (not (is_keyword version n) ≡ true)
  f = and_parts (is_word n) (not (is_keyword version n)) (and_parts (is_word n && not (is_keyword version n)) (nat_le (length n) most_name_bytes) h).0

  by_list : (m : List ℕ) → is_word m ≡ true → is_keyword v.One m ≡ false → lexeme_of (m ++ rest) ≡ l.Token (k.Name m) (length m)
  by_list [] p q = absurd (cc)
  by_list (b ∷ bs) p q =
      let g = and_parts (is_initial b) (list_all is_inner bs) p in
      name_taken b bs rest g.0 (and_from (is_inner b) (list_all is_inner bs) (initial_inner b g.0) g.1) (stops_run (slice_index rest 0) stop).inner
      ∙ ap (λ o. word_or_name o (b ∷ bs) (length (b ∷ bs))) (no_word (b ∷ bs) q)

-- numbers

record IsDigits (ds : List ℕ) : Type 0 where
  first : ℕ
  others : List ℕ
  parts : ds ≡ first ∷ others
  all : list_all is_ascii_digit ds ≡ true

digits_taken : (ds rest : List ℕ) → IsDigits ds → lexeme_of (ds ++ rest) ≡ number_at (ds ++ rest)
unfolding lexeme_of
digits_taken ds rest h =
    let all : list_all is_ascii_digit (h.first ∷ h.others) ≡ true = ap (list_all is_ascii_digit) (sym h.parts) ∙ h.all in
    let start = (and_parts (is_ascii_digit h.first) (list_all is_ascii_digit h.others) all).0 in
    let f = digit_start h.first start in
    let whole = (h.first ∷ h.others) ++ rest in
    ap (λ x. lexeme_of (x ++ rest)) h.parts
    ∙ fourth_case (is_blank h.first) (is_comment whole) (is_initial h.first) (is_ascii_digit h.first) _ _ _ _ _ f.white (and_left (h.first == 47) _ f.slash) f.name start
    ∙ ap (λ x. number_at (x ++ rest)) (sym h.parts)

decimal_digits : (n : ℕ) → n < 2 ^ 64 → IsDigits (decimal n)
decimal_digits n h = by_list (decimal n) (decimal_nonempty n h) (digits_decimal digits_model n h) where
  by_list : (ds : List ℕ) → 0 < length ds → list_all is_ascii_digit ds ≡ true → IsDigits ds
  by_list [] p q = absurd (omega arith)
  by_list (d ∷ ds) p q = record { first = d; others = ds; parts = refl; all = q }

below : (n : ℕ) → is_number n ≡ true → n < 2 ^ 64
below n h = grind (arith, nat_tests)

number_is : (n : ℕ) → is_number n ≡ true → number_of 10 (decimal n) ≡ Some n
number_is n h =
    let value : digits_value 10 (decimal n) ≡ n = digits_value-decimal digits_model n (below n h) in
    ap (λ v. cond (nat_lt v (2 ^ 64)) (Some v) None) value ∙ ap (λ b. cond b (Some n) None) h

number_lexed : (n : ℕ) (rest : List ℕ) → is_number n ≡ true → clings (slice_index rest 0) ≡ false
    → lexeme_of (decimal n ++ rest) ≡ l.Token (k.Number n) (length (decimal n))
unfolding number_at
number_lexed n rest h stop =
    let ds = decimal n in
    let whole = ds ++ rest in
    let len = length ds in
    let f = stops_run (slice_index rest 0) stop in
    let digits = decimal_digits n (below n h) in
    digits_taken ds rest digits
    ∙ ap (λ m. cond (slice_index whole m == 39) (sized_at m whole) (number_lexeme (number_of 10 (take m whole)) (clings (slice_index whole m)) m))
    (prefix_run is_ascii_digit ds rest digits.all f.digit)
    ∙ ap (λ b. cond (b == 39) (sized_at len whole) (number_lexeme (number_of 10 (take len whole)) (clings b) len)) (byte_after ds rest)
    ∙ ap (λ t. cond t (sized_at len whole) (number_lexeme (number_of 10 (take len whole)) (clings (slice_index rest 0)) len)) f.quote
    ∙ ap (λ x. number_lexeme (number_of 10 x) (clings (slice_index rest 0)) len) (take_front ds rest)
    ∙ ap (λ x. number_lexeme x (clings (slice_index rest 0)) len) (number_is n h)
    ∙ ap (λ t. number_lexeme (Some n) t len) stop

-- words; those of the second version alone are taken as the name or the number that they are in the first

abbrev pub raw_word : Word → Kind
raw_word w.Then = k.Name (word_text w.Then)
raw_word w.Case = k.Name (word_text w.Case)
raw_word w.Sapper = k.Name (word_text w.Sapper)
raw_word w.Two = k.Number 2
raw_word x = k.Word x

abbrev pub raw : Kind → Kind
raw (k.Word x) = raw_word x
raw kind = kind

word_lexed : (x : Word) (rest : List ℕ) → clings (slice_index rest 0) ≡ false → lexeme_of (word_text x ++ rest) ≡ l.Token (raw_word x) (length (word_text x))
word_lexed w.Two rest stop =
    ap (λ (ds : List ℕ). lexeme_of (ds ++ rest)) (sym (decimal_digit 2 (omega arith))) ∙ number_lexed 2 rest refl stop
    ∙ ap (λ (ds : List ℕ). l.Token (k.Number 2) (length ds)) (decimal_digit 2 (omega arith))
word_lexed x rest stop = word_at x rest refl refl stop

-- numbers with a width

next_byte : (a : List ℕ) (x y : ℕ) (b : List ℕ) → slice_index (a ++ (x ∷ y ∷ b)) (length a + 1) ≡ y
next_byte a x y b = grind (arith, common_steps)

behind_two : (a : List ℕ) (x y : ℕ) (b : List ℕ) → drop (length a + 2) (a ++ (x ∷ y ∷ b)) ≡ b
behind_two [] x y b = refl
behind_two (z ∷ a) x y b = let e : length (z ∷ a) + 2 ≡ suc (length a + 2) = omega arith in ap (λ n. drop n (z ∷ (a ++ (x ∷ y ∷ b)))) e ∙ behind_two a x y b

byte_behind : (a : List ℕ) (x y : ℕ) (b d : List ℕ) → slice_index (a ++ (x ∷ y ∷ (b ++ d))) (length a + 2 + length b) ≡ slice_index d 0
byte_behind a x y b d =
    let e : length a + 2 + length b ≡ length (a ++ (x ∷ y ∷ b)) = length_is a x y b in
    ap (λ n. slice_index (a ++ (x ∷ y ∷ (b ++ d))) n) e ∙ ap (λ z. slice_index z (length (a ++ (x ∷ y ∷ b)))) (sym (append_assoc a (x ∷ y ∷ b) d)) ∙ byte_after (a ++ (x ∷ y ∷ b)) d
  where
    length_is : (a : List ℕ) (x y : ℕ) (b : List ℕ) → length a + 2 + length b ≡ length (a ++ (x ∷ y ∷ b))
    length_is a x y b = simp length-append (omega arith)

sized_lexed : (width n : ℕ) (rest : List ℕ) → is_number width ≡ true → is_number n ≡ true → clings (slice_index rest 0) ≡ false
    → lexeme_of ((decimal width ++ (39 ∷ 100 ∷ decimal n)) ++ rest) ≡ l.Token (k.Sized width n) (length (decimal width ++ (39 ∷ 100 ∷ decimal n)))
unfolding number_at sized_at sized_in
sized_lexed width n rest h g stop =
    let ds = decimal width in
    let vs = decimal n in
    let after = 39 ∷ 100 ∷ (vs ++ rest) in
    let whole = ds ++ after in
    let len = length ds in
    let more = length vs in
    let f = stops_run (slice_index rest 0) stop in
    let digits = decimal_digits width (below width h) in
    let others = decimal_digits n (below n g) in
    ap lexeme_of (append_assoc ds (39 ∷ 100 ∷ vs) rest)
    ∙ digits_taken ds after digits
    ∙ ap (λ m. cond (slice_index whole m == 39) (sized_at m whole) (number_lexeme (number_of 10 (take m whole)) (clings (slice_index whole m)) m))
    (prefix_run is_ascii_digit ds after digits.all refl)
    ∙ ap (λ b. cond (b == 39) (sized_at len whole) (number_lexeme (number_of 10 (take len whole)) (clings b) len)) (byte_after ds after)
    ∙ ap (λ b. cond (b == 100) (sized_in c.Decimal 10 len whole) (cond (b == 104) (sized_in c.Hexadecimal 16 len whole) l.Bad)) (next_byte ds 39 100 (vs ++ rest))
    ∙ ap (λ z. cond (prefix_len is_ascii_digit z == 0) l.Bad (sized_lexeme (number_of 10 (take len whole)) (number_of 10 (take (prefix_len is_ascii_digit z) z))
    (clings (slice_index whole (len + 2 + prefix_len is_ascii_digit z))) (len + 2 + prefix_len is_ascii_digit z))) (behind_two ds 39 100 (vs ++ rest))
    ∙ ap (λ m. cond (m == 0) l.Bad (sized_lexeme (number_of 10 (take len whole)) (number_of 10 (take m (vs ++ rest))) (clings (slice_index whole (len + 2 + m))) (len + 2 + m)))
    (prefix_run is_ascii_digit vs rest others.all f.digit)
    ∙ ap (λ t. cond t l.Bad (sized_lexeme (number_of 10 (take len whole)) (number_of 10 (take more (vs ++ rest))) (clings (slice_index whole (len + 2 + more))) (len + 2 + more)))
    (test_of_positive more (decimal_nonempty n (below n g)))
    ∙ ap (λ x. sized_lexeme (number_of 10 x) (number_of 10 (take more (vs ++ rest))) (clings (slice_index whole (len + 2 + more))) (len + 2 + more)) (take_front ds after)
    ∙ ap (λ x. sized_lexeme x (number_of 10 (take more (vs ++ rest))) (clings (slice_index whole (len + 2 + more))) (len + 2 + more)) (number_is width h)
    ∙ ap (λ x. sized_lexeme (Some width) (number_of 10 x) (clings (slice_index whole (len + 2 + more))) (len + 2 + more)) (take_front vs rest)
    ∙ ap (λ x. sized_lexeme (Some width) x (clings (slice_index whole (len + 2 + more))) (len + 2 + more)) (number_is n g)
    ∙ ap (λ b. sized_lexeme (Some width) (Some n) (clings b) (len + 2 + more)) (byte_behind ds 39 100 vs rest)
    ∙ ap (λ t. sized_lexeme (Some width) (Some n) t (len + 2 + more)) stop
    ∙ ap (λ m. l.Token (k.Sized width n) m) (quoted_length ds vs)

-- signs

abbrev pub clings_to : Sign → ℕ → Bool
clings_to s.Colon b = b == 61
clings_to s.Is b = b == 61
clings_to s.Less b = b == 61 || b == 60
clings_to x b = false

not_either : (b : ℕ) → (b == 61 || b == 60) ≡ false → ((b == 61) ≡ false) × ((b == 60) ≡ false)
not_either b h = (grind (arith, nat_tests), grind (arith, nat_tests))

sign_lexed : (x : Sign) (rest : List ℕ) → clings_to x (slice_index rest 0) ≡ false → lexeme_of (sign_text x ++ rest) ≡ l.Token (k.Sign x) (length (sign_text x))
unfolding lexeme_of sign_at
sign_lexed s.Colon [] stop = refl
sign_lexed s.Colon (b ∷ rest) stop = ap (λ t. sign_or (cond (t && true) (Some s.Becomes) None) 2 (l.Token (k.Sign s.Colon) 1)) stop
sign_lexed s.Is [] stop = refl
sign_lexed s.Is (b ∷ rest) stop = ap (λ t. sign_or (cond (t && true) (Some s.Equal) None) 2 (l.Token (k.Sign s.Is) 1)) stop
sign_lexed s.Less [] stop = refl
sign_lexed s.Less (b ∷ rest) stop =
    let f = not_either b stop in
    ap (λ t. sign_or (cond (t && true) (Some s.LessOrEqual) (cond ((b == 60) && true) (Some s.ShiftLeft) None)) 2 (l.Token (k.Sign s.Less) 1)) f.0
    ∙ ap (λ t. sign_or (cond (t && true) (Some s.ShiftLeft) None) 2 (l.Token (k.Sign s.Less) 1)) f.1
sign_lexed _ [] stop = refl
sign_lexed _ (b ∷ rest) stop = refl

-- what stands behind a piece

first_digit : (ds rest : List ℕ) → IsDigits ds → is_ascii_digit (slice_index (ds ++ rest) 0) ≡ true
first_digit ds rest h =
    let all : list_all is_ascii_digit (h.first ∷ h.others) ≡ true = ap (list_all is_ascii_digit) (sym h.parts) ∙ h.all in
    ap (λ x. is_ascii_digit (slice_index (x ++ rest) 0)) h.parts ∙ (and_parts (is_ascii_digit h.first) (list_all is_ascii_digit h.others) all).0

no_sign_byte : (b : ℕ) → is_ascii_digit b ≡ true → (b == 61 || b == 60) ≡ false
no_sign_byte b h = grind (arith, nat_tests)

first_of_sign : (x : Sign) (rest : List ℕ) → clings (slice_index (sign_text x ++ rest) 0) ≡ false
first_of_sign s.OpenParen rest = refl
first_of_sign _ rest = refl

behind_run : (ps : List Piece) → ends_run ps ≡ true → clings (slice_index (bytes_of ps) 0) ≡ false
behind_run [] h = refl
behind_run (space ∷ ps) h = refl
behind_run (line ∷ ps) h = refl
behind_run (token role (k.Sign x) ∷ ps) h = first_of_sign x (bytes_of ps)
behind_run _ h = absurd (cc)

behind_sign : (version : Version) (ps : List Piece) → ends_sign ps ≡ true → apart version ps ≡ true
    → (slice_index (bytes_of ps) 0 == 61 || slice_index (bytes_of ps) 0 == 60) ≡ false
behind_sign version [] h a = refl
behind_sign version (space ∷ ps) h a = refl
behind_sign version (line ∷ ps) h a = refl
behind_sign version (token role (k.Number n) ∷ ps) h a =
    let f = and_parts (is_number n) (follows (k.Number n) ps && apart version ps) a in
    no_sign_byte (slice_index (decimal n ++ bytes_of ps) 0) (first_digit (decimal n) (bytes_of ps) (decimal_digits n (below n f.0)))
behind_sign version (token role (k.Sign x) ∷ ps) h a = absurd (cc)
behind_sign version _ h a = absurd (cc)

sign_behind : (version : Version) (x : Sign) (ps : List Piece) → follows (k.Sign x) ps ≡ true → apart version ps ≡ true → clings_to x (slice_index (bytes_of ps) 0) ≡ false
sign_behind version s.Colon ps h a = (not_either (slice_index (bytes_of ps) 0) (behind_sign version ps h a)).0
sign_behind version s.Is ps h a = (not_either (slice_index (bytes_of ps) 0) (behind_sign version ps h a)).0
sign_behind version s.Less ps h a = behind_sign version ps h a
sign_behind version _ ps h a = refl

-- as it is taken
pub piece_lexed : (version : Version) (x : Kind) (ps : List Piece) → is_spelled version x ≡ true → follows x ps ≡ true → apart version ps ≡ true
    → lexeme_of (kind_bytes x ++ bytes_of ps) ≡ l.Token (raw x) (length (kind_bytes x))
piece_lexed version (k.Word x) ps h e a = word_lexed x (bytes_of ps) (behind_run ps e)
piece_lexed version (k.Sign x) ps h e a = sign_lexed x (bytes_of ps) (sign_behind version x ps e a)
piece_lexed version (k.Name n) ps h e a = name_lexed version n (bytes_of ps) h (behind_run ps e)
piece_lexed version (k.Number n) ps h e a = number_lexed n (bytes_of ps) h (behind_run ps e)
piece_lexed version (k.Sized width n) ps h e a = let f = and_parts (is_number width) (is_number n) h in sized_lexed width n (bytes_of ps) f.0 f.1 (behind_run ps e)

-- a word of the first line, and a sign
pub first_lexed : (x : Word) (ps : List Piece) → ends_run ps ≡ true → lexeme_of (word_text x ++ bytes_of ps) ≡ l.Token (raw_word x) (length (word_text x))
first_lexed x ps e = word_lexed x (bytes_of ps) (behind_run ps e)

pub semicolon_lexed : (ps : List Piece) → lexeme_of (sign_text s.Semicolon ++ bytes_of ps) ≡ l.Token (k.Sign s.Semicolon) 1
semicolon_lexed ps = sign_lexed s.Semicolon (bytes_of ps) refl

-- the words that they are made in the second version, and in the first those that they are

pub later_is : (x : Kind) → is_spelled v.Two x ≡ true → later_kind (raw x) ≡ x
later_is (k.Word w.Sapper) h = absurd (cc)
later_is (k.Word w.Two) h = absurd (cc)
later_is (k.Name n) h = ap (λ o. kind_by o (k.Name n)) (name_no_later n h)
later_is _ h = refl

pub raw_is : (x : Kind) → is_spelled v.One x ≡ true → raw x ≡ x
raw_is (k.Word w.Then) h = absurd (cc)
raw_is (k.Word w.Case) h = absurd (cc)
raw_is (k.Word w.Sapper) h = absurd (cc)
raw_is (k.Word w.Two) h = absurd (cc)
raw_is _ h = refl
