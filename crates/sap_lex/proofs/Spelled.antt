-- What stands at the front of a text is spelled by its bytes.
use Rattle.sap_lemmas.proofs.Common.{◌≡◌, ◌<◌, ◌+◌, ◌^◌, ℕ, suc, List, [], ◌∷◌, ◌++◌, length, take, drop, Bool, true, false, cond, refl, sym, ap, subst, ◌∙◌, append_assoc, arith, Option, Some, None, nat_tests, common_steps, take-add, slice_index, ◌||◌, ◌&&◌, ◌==◌, nat_lt, is_ascii_digit, find, list_all, list_any, prefix_len, byte, bytes_eq, run_passes, equal_of_test, equal_of_bytes_eq, digits_value}
use Rattle.std.proofs.lemmas.List.Folds.{length-prefix_len}
use Rattle.sap_lemmas.proofs.Lists.{index_drop}
use Rattle.sap_text.proofs.NamesLemmas.{initial_inner}
use Rattle.sap_tree.specs.Words.{is_initial, is_inner, is_word, word_text, first_words}
use Rattle.sap_tree.specs.declared.word.Word.{Word}
use Rattle.sap_tree.specs.declared.version.Version.TheVariants as v
use Rattle.sap_lex.specs.Lexemes.{lexeme_of, name_at, number_at, number_lexeme, sized_at, sized_in, sized_lexeme, sign_at, sign_or, word_or_name}
use Rattle.sap_lex.specs.Spelled.{SpellsNumber, SpellsSized, decimal, hexadecimal, Spells, is_of}
use Rattle.sap_lex.specs.Spelling.{word_of, sign_of, sign_text, signs}
use Rattle.sap_text.specs.Blanks.{is_blank, is_comment}
use Rattle.sap_text.specs.Runs.{is_in, number_of, run}
use Rattle.sap_text.specs.declared.scan.Class.TheVariants as c
use Rattle.sap_text.specs.declared.scan.Class.{Class}
use Rattle.sap_lex.specs.declared.lexeme.Lexeme.TheVariants.{Blank, Token, Bad}
use Rattle.sap_lex.specs.declared.lexeme.Lexeme.{Lexeme}
use Rattle.sap_lex.specs.declared.token.Sign.{Sign}

abbrev pub IsSpelled : List ℕ → Lexeme → Type 0
IsSpelled bytes (Blank len) = Unit {0}
IsSpelled bytes (Token kind len) = Spells v.One kind (take len bytes)
IsSpelled bytes Bad = Unit {0}

pub by_test : {A : Type 0} (P : A → Type 0) (b : Bool) {x y : A} → (b ≡ true → P x) → (b ≡ false → P y) → P (cond b x y)
by_test P true f g = f refl
by_test P false f g = g refl

-- lists

pub find_passes : {X : Type 0} (p : X → Bool) (xs : List X) {x : X} → find p xs ≡ Some x → p x ≡ true
find_passes p [] e = absurd (cc)
find_passes {X} p (y ∷ ys) {x} e =
    let pick : (b : Bool) → p y ≡ b → cond b (Some y) (find p ys) ≡ Some x → p x ≡ true = λ b. elim b as (λ b. p y ≡ b → cond b (Some y) (find p ys) ≡ Some x → p x ≡ true) [
      | true ↦ λ h s. (let same : y ≡ x = cc in subst (λ z. p z ≡ true) same h)
      | false ↦ λ h s. find_passes p ys s
    ] in
    pick (p y) refl e

pub none_passes : {X : Type 0} (p : X → Bool) (xs : List X) → find p xs ≡ None → list_any p xs ≡ false
none_passes p [] e = refl
none_passes {X} p (y ∷ ys) e =
    let pick : (b : Bool) → cond b (Some y) (find p ys) ≡ None → (b || list_any p ys) ≡ false =
    λ b. elim b as (λ b. cond b (Some y) (find p ys) ≡ None → (b || list_any p ys) ≡ false) [
      | true ↦ λ s. absurd (cc)
      | false ↦ λ s. none_passes p ys s
    ] in
    pick (p y) e

-- what holds of all holds of the one that is found
found_in : {X : Type 0} (q : X → Bool) (ys : List X) (o : Option X) (y x : X) (b a : Bool) → q y ≡ a → (a && list_all q ys) ≡ true
    → (list_all q ys ≡ true → o ≡ Some x → q x ≡ true)
    → cond b (Some y) o ≡ Some x → q x ≡ true
found_in q ys o y x true true e h rest s = (let same : y ≡ x = cc in subst (λ z. q z ≡ true) same e)
found_in q ys o y x b false e h rest s = absurd (cc)
found_in q ys o y x false true e h rest s = rest h s

find_among : {X : Type 0} (p q : X → Bool) (xs : List X) (x : X) → list_all q xs ≡ true → find p xs ≡ Some x → q x ≡ true
find_among p q [] x h e = absurd (cc)
find_among p q (y ∷ ys) x h e = found_in q ys (find p ys) y x (p y) (q y) refl h (find_among p q ys x) e

one_more : (n : ℕ) → suc n ≡ 1 + n
one_more n = omega arith

-- words and names

name_is_word : (bytes : List ℕ) → is_initial (slice_index bytes 0) ≡ true → is_word (take (run c.Inner bytes) bytes) ≡ true
name_is_word [] h = h
name_is_word (x ∷ xs) h =
    let all : list_all is_inner (take (prefix_len is_inner xs) xs) ≡ true = run_passes is_inner xs in
    let whole : is_word (x ∷ take (prefix_len is_inner xs) xs) ≡ true = cc in
    subst (λ b. is_word (take (cond b (1 + prefix_len is_inner xs) 0) (x ∷ xs)) ≡ true) (sym (initial_inner x h))
    (subst (λ m. is_word (take m (x ∷ xs)) ≡ true) (one_more (prefix_len is_inner xs)) whole)

name_spelled : (bytes name : List ℕ) (n : ℕ) → take n bytes ≡ name → is_word name ≡ true → (o : Option Word) → word_of name ≡ o → IsSpelled bytes (word_or_name o name n)
name_spelled bytes name n same h (Some word) e = (
  same ∙ equal_of_bytes_eq name (word_text word) (find_passes (λ w. bytes_eq name (word_text w)) first_words e),
  find_among (λ w. bytes_eq name (word_text w)) (is_of v.One) first_words word refl e,
)
name_spelled bytes name n same h None e = (same, h, none_passes (λ w. bytes_eq name (word_text w)) first_words e)

-- signs

sign_spelled : (bytes text : List ℕ) → take (length text) bytes ≡ text → (other : Lexeme) → IsSpelled bytes other → (o : Option Sign) → sign_of text ≡ o
    → IsSpelled bytes (sign_or o (length text) other)
sign_spelled bytes text same other h (Some sign) e = same ∙ equal_of_bytes_eq text (sign_text sign) (find_passes (λ s. bytes_eq text (sign_text s)) signs e)
sign_spelled bytes text same other h None e = h

take_length : (n : ℕ) (bytes : List ℕ) → take (length (take n bytes)) bytes ≡ take n bytes
take_length n bytes = grind (arith, common_steps)

-- numbers

number_value : (base : ℕ) (text : List ℕ) (n : ℕ) → number_of base text ≡ Some n → (digits_value base text ≡ n) × (n < 2 ^ 64)
number_value base text n e =
    let pick : (b : Bool) → nat_lt (digits_value base text) (2 ^ 64) ≡ b → cond b (Some (digits_value base text)) None ≡ Some n → (digits_value base text ≡ n) × (n < 2 ^ 64)
    = λ b. elim b as (λ b. nat_lt (digits_value base text) (2 ^ 64) ≡ b → cond b (Some (digits_value base text)) None ≡ Some n → (digits_value base text ≡ n) × (n < 2 ^ 64)) [
      | true ↦ λ h s. (let same : digits_value base text ≡ n = cc in (same, grind (arith, nat_tests)))
      | false ↦ λ h s. absurd (cc)
    ] in
    pick (nat_lt (digits_value base text) (2 ^ 64)) refl e

spells_number : (class : Class) (base n : ℕ) (text : List ℕ) → 0 < length text → list_all (is_in class) text ≡ true → number_of base text ≡ Some n → SpellsNumber class base n text
spells_number class base n text some digits e = let v = number_value base text n e in record { some = some; digits = digits; value = v.0; fits = v.1 }

number_spelled : (bytes text : List ℕ) (len : ℕ) → take len bytes ≡ text → 0 < length text → list_all is_ascii_digit text ≡ true
    → (o : Option ℕ) → number_of 10 text ≡ o → (clinging : Bool) → IsSpelled bytes (number_lexeme o clinging len)
number_spelled bytes text len same some digits (Some n) e false = subst (SpellsNumber c.Decimal 10 n) (sym same) (spells_number c.Decimal 10 n text some digits e)
number_spelled bytes text len same some digits (Some n) e true = tt
number_spelled bytes text len same some digits None e clinging = tt

two_bytes : (xs : List ℕ) (a b : ℕ) → 0 < a → 0 < b → slice_index xs 0 ≡ a → slice_index xs 1 ≡ b → take 2 xs ≡ a ∷ b ∷ []
two_bytes [] a b p q e f = absurd (omega arith)
two_bytes (x ∷ []) a b p q e f = absurd (omega arith)
two_bytes (x ∷ y ∷ xs) a b p q e f = cc

pieces : (bytes : List ℕ) (w m a b : ℕ) → 0 < a → 0 < b → slice_index bytes w ≡ a → slice_index bytes (w + 1) ≡ b
    → take (w + 2 + m) bytes ≡ take w bytes ++ ((a ∷ b ∷ []) ++ take m (drop (w + 2) bytes))
pieces bytes w m a b p q e f =
    let front : take (w + 2) bytes ≡ take w bytes ++ take 2 (drop w bytes) = take-add w 2 bytes in
    let here : w + 0 ≡ w = omega arith in
    let middle : take 2 (drop w bytes) ≡ a ∷ b ∷ [] = two_bytes (drop w bytes) a b p q (index_drop bytes w 0 ∙ (ap (slice_index bytes) here ∙ e)) (index_drop bytes w 1 ∙ f) in
    take-add (w + 2) m bytes
    ∙ ap (λ l. l ++ take m (drop (w + 2) bytes)) (front ∙ ap (λ l. take w bytes ++ l) middle)
    ∙ append_assoc (take w bytes) (a ∷ b ∷ []) (take m (drop (w + 2) bytes))

sized_spelled : (bytes : List ℕ) (class : Class) (base len : ℕ) (front digits : List ℕ)
    → ((width n : ℕ) → SpellsNumber c.Decimal 10 width front → SpellsNumber class base n digits → SpellsSized width n (take len bytes))
    → 0 < length front → list_all is_ascii_digit front ≡ true → 0 < length digits → list_all (is_in class) digits ≡ true
    → (o : Option ℕ) → number_of 10 front ≡ o → (q : Option ℕ) → number_of base digits ≡ q → (clinging : Bool) → IsSpelled bytes (sized_lexeme o q clinging len)
sized_spelled bytes class base len front digits make some all some' all' (Some width) e (Some n) f false =
    make width n (spells_number c.Decimal 10 width front some all e) (spells_number class base n digits some' all' f)
sized_spelled bytes class base len front digits make some all some' all' (Some width) e (Some n) f true = tt
sized_spelled bytes class base len front digits make some all some' all' (Some width) e None f clinging = tt
sized_spelled bytes class base len front digits make some all some' all' None e q f clinging = tt

some_in_run : (class : Class) (bytes : List ℕ) → (run class bytes == 0) ≡ false → 0 < length (take (run class bytes) bytes)
some_in_run class bytes h = let same = length-prefix_len (is_in class) bytes in grind (arith, nat_tests)

-- the digits of a width and a letter, and the digits behind it
sized_in_spelled : (class : Class) (base width : ℕ) (bytes : List ℕ)
    → ((w n : ℕ) → SpellsNumber c.Decimal 10 w (take width bytes) → SpellsNumber class base n (take (run class (drop (width + 2) bytes)) (drop (width + 2) bytes))
    → SpellsSized w n (take (width + 2 + run class (drop (width + 2) bytes)) bytes))
    → 0 < length (take width bytes) → list_all is_ascii_digit (take width bytes) ≡ true → IsSpelled bytes (sized_in class base width bytes)
unfolding sized_in
sized_in_spelled class base width bytes make some all =
    by_test (IsSpelled bytes) (run class (drop (width + 2) bytes) == 0) (λ _. tt)
    (λ h. sized_spelled bytes class base (width + 2 + run class (drop (width + 2) bytes)) (take width bytes)
    (take (run class (drop (width + 2) bytes)) (drop (width + 2) bytes)) make some all
    (some_in_run class (drop (width + 2) bytes) h) (run_passes (is_in class) (drop (width + 2) bytes)) _ refl _ refl _)

sized_at_spelled : (width : ℕ) (bytes : List ℕ) → slice_index bytes width ≡ byte "'" → 0 < length (take width bytes) → list_all is_ascii_digit (take width bytes) ≡ true
    → IsSpelled bytes (sized_at width bytes)
unfolding sized_at
sized_at_spelled width bytes quote some all =
    by_test (IsSpelled bytes) (slice_index bytes (width + 1) == byte "d")
    (λ d. sized_in_spelled c.Decimal 10 width bytes
    (λ w n. decimal (take width bytes) (take (run c.Decimal (drop (width + 2) bytes)) (drop (width + 2) bytes))
    (pieces bytes width (run c.Decimal (drop (width + 2) bytes)) 39 100 (omega arith) (omega arith) quote (equal_of_test (slice_index bytes (width + 1)) 100 d))) some all)
    (λ _. by_test (IsSpelled bytes) (slice_index bytes (width + 1) == byte "h")
    (λ h. sized_in_spelled c.Hexadecimal 16 width bytes
    (λ w n. hexadecimal (take width bytes) (take (run c.Hexadecimal (drop (width + 2) bytes)) (drop (width + 2) bytes))
    (pieces bytes width (run c.Hexadecimal (drop (width + 2) bytes)) 39 104 (omega arith) (omega arith) quote (equal_of_test (slice_index bytes (width + 1)) 104 h))) some all)
    (λ _. tt))

digit_first : (bytes : List ℕ) → is_ascii_digit (slice_index bytes 0) ≡ true → (run c.Decimal bytes == 0) ≡ false
digit_first [] h = sym h
digit_first (x ∷ xs) h = subst (λ b. (cond b (1 + prefix_len is_ascii_digit xs) 0 == 0) ≡ false) (sym h) (grind (arith, nat_tests))

number_at_spelled : (bytes : List ℕ) → is_ascii_digit (slice_index bytes 0) ≡ true → IsSpelled bytes (number_at bytes)
unfolding number_at
number_at_spelled bytes h =
    let some = some_in_run c.Decimal bytes (digit_first bytes h) in
    let all = run_passes is_ascii_digit bytes in
    by_test (IsSpelled bytes) (slice_index bytes (run c.Decimal bytes) == byte "'")
    (λ quote. sized_at_spelled (run c.Decimal bytes) bytes (equal_of_test (slice_index bytes (run c.Decimal bytes)) 39 quote) some all)
    (λ _. number_spelled bytes (take (run c.Decimal bytes) bytes) (run c.Decimal bytes) refl some all _ refl _)

name_at_spelled : (bytes : List ℕ) → is_initial (slice_index bytes 0) ≡ true → IsSpelled bytes (name_at bytes)
unfolding name_at
name_at_spelled bytes h = name_spelled bytes (take (run c.Inner bytes) bytes) (run c.Inner bytes) refl (name_is_word bytes h) _ refl

sign_at_spelled : (bytes : List ℕ) → IsSpelled bytes (sign_at bytes)
unfolding sign_at
sign_at_spelled bytes = sign_spelled bytes (take 2 bytes) (take_length 2 bytes) _ (sign_spelled bytes (take 1 bytes) (take_length 1 bytes) Bad tt _ refl) _ refl

pub lexeme_spelled : (bytes : List ℕ) → IsSpelled bytes (lexeme_of bytes)
unfolding lexeme_of
lexeme_spelled bytes =
    by_test (IsSpelled bytes) (is_blank (slice_index bytes 0)) (λ _. tt)
    (λ _. by_test (IsSpelled bytes) (is_comment bytes) (λ _. tt)
    (λ _. by_test (IsSpelled bytes) (is_initial (slice_index bytes 0)) (name_at_spelled bytes)
    (λ _. by_test (IsSpelled bytes) (is_ascii_digit (slice_index bytes 0)) (number_at_spelled bytes)
    (λ _. sign_at_spelled bytes))))
