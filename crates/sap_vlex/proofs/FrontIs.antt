-- What the lexer finds is what stands at the front of a text.
use Rattle.sap_lemmas.proofs.Common.{◌≡◌, ◌<◌, ◌+◌, ◌^◌, ℕ, List, [], ◌∷◌, length, take, drop, Option, Some, None, Bool, true, false, cond, not, refl, sym, ap, subst, ◌∙◌, arith, eqb, common_steps, drop-drop, ◌&&◌, nat_lt, nat_eq, find, slice_index, take_while, codes, is_ascii_digit, prefix_len, starts_with, bytes_eq, digits_value, and_false, and_true, test_symmetric}
use Rattle.std.proofs.lemmas.List.Folds.{length-prefix_len}
use Rattle.sap_lemmas.proofs.Lists.{index_drop}
use mathlib.Core.Bool.{and_comm}
use Rattle.sap_net.specs.Names.{is_initial, is_inner}
use Rattle.sap_vtext.specs.Lexing as l
use Rattle.sap_vtext.specs.Lexing.{word_text, sign_text, words, is_blank, is_in_line, sign_or_bad, sign_front, name_front, number_front, constant_front, digits_front, digits_of_front, front}
use Rattle.sap_vtext.specs.Tokens as t
use Rattle.sap_vlex.specs.Lexemes.{front_of, word_in, word_or_name, name_at, number_lexeme, constant_lexeme, is_constant, constant_at, number_at, sign_or, single_at, sign_at, pair_sign, single_sign, lexeme_of}
use Rattle.sap_vlex.specs.Spelling.{word_of, sign_of}
use Rattle.sap_text.specs.Blanks.{is_comment}
use Rattle.sap_text.specs.Runs.{number_of, run}
use Rattle.sap_text.specs.declared.scan.Class.TheVariants as c
use Rattle.sap_vlex.specs.declared.lexeme.Lexeme.TheVariants.{Blank}
use Rattle.sap_vlex.specs.declared.lexeme.Lexeme.{Lexeme}
use Rattle.sap_vlex.specs.declared.token.Sign.TheVariants as s
use Rattle.sap_vlex.specs.declared.token.Sign.{Sign}
use Rattle.sap_vlex.specs.declared.token.Word.TheVariants as d
use Rattle.sap_vlex.specs.declared.token.Word.{Word}

and_swap : (p q : Bool) → (p && (q && true)) ≡ (q && p)
and_swap true true = refl
and_swap true false = refl
and_swap false true = refl
and_swap false false = refl

-- a text that begins with one byte, or with two

starts_one : (xs : List ℕ) (x : ℕ) → eqb 0 x ≡ false → starts_with nat_eq xs (x ∷ []) ≡ eqb (slice_index xs 0) x
starts_one [] x e = sym e
starts_one (c ∷ xs) x e = and_true (eqb x c) ∙ test_symmetric x c

starts_two : (xs : List ℕ) (x y : ℕ) → eqb 0 y ≡ false → starts_with nat_eq xs (x ∷ y ∷ []) ≡ (eqb (slice_index xs 1) y && eqb (slice_index xs 0) x)
starts_two [] x y e = sym (ap (λ b. b && eqb 0 x) e)
starts_two (c ∷ []) x y e = and_false (eqb x c) ∙ sym (ap (λ b. b && eqb c x) e)
starts_two (c ∷ f ∷ xs) x y e = and_swap (eqb x c) (eqb y f) ∙ ap (λ b. b && eqb x c) (test_symmetric y f) ∙ ap (λ b. eqb f y && b) (test_symmetric x c)

one_byte : (xs : List ℕ) (x : ℕ) → eqb 0 x ≡ false → starts_with nat_eq xs (x ∷ []) ≡ bytes_eq (slice_index xs 0 ∷ []) (x ∷ [])
one_byte xs x e = starts_one xs x e ∙ sym (and_true (eqb (slice_index xs 0) x))

two_bytes : (xs : List ℕ) (x y : ℕ) → eqb 0 y ≡ false → starts_with nat_eq xs (x ∷ y ∷ []) ≡ bytes_eq (slice_index xs 0 ∷ slice_index xs 1 ∷ []) (x ∷ y ∷ [])
two_bytes xs x y e = starts_two xs x y e ∙ sym (and_swap (eqb (slice_index xs 0) x) (eqb (slice_index xs 1) y))

-- keywords

abbrev keyword : Option Word → Option t.Word
keyword None = None
keyword (Some w) = Some (word_of w)

word_link : (b : Bool) (w : Word) (u : Option t.Word) (v : Option Word) → u ≡ keyword v → cond b (Some (word_of w)) u ≡ keyword (cond b (Some w) v)
word_link true w u v e = refl
word_link false w u v e = e

words_are : (text : List ℕ) → find (λ w. bytes_eq text (word_text w)) words ≡ keyword (word_in text)
words_are text =
    (word_link (bytes_eq text (codes "module")) d.Module _ _
    (word_link (bytes_eq text (codes "endmodule")) d.Endmodule _ _
    (word_link (bytes_eq text (codes "input")) d.Input _ _
    (word_link (bytes_eq text (codes "output")) d.Output _ _
    (word_link (bytes_eq text (codes "reg")) d.Reg _ _
    (word_link (bytes_eq text (codes "wire")) d.Wire _ _
    (word_link (bytes_eq text (codes "assign")) d.Assign _ _
    (word_link (bytes_eq text (codes "initial")) d.Initial _ _
    (word_link (bytes_eq text (codes "always")) d.Always _ _
    (word_link (bytes_eq text (codes "posedge")) d.Posedge _ _
    (word_link (bytes_eq text (codes "if")) d.If _ _
    (word_link (bytes_eq text (codes "for")) d.For _ _
    (word_link (bytes_eq text (codes "integer")) d.Integer _ _
    (word_link (bytes_eq text (codes "clk")) d.Clk _ _
    (word_link (bytes_eq text (codes "i")) d.I _ _
    refl)))))))))))))))

name_is : (o : Option Word) (name : List ℕ) (len : ℕ) → l.token (l.word_or_name (keyword o) name) len ≡ front_of (word_or_name o name len)
name_is None name len = refl
name_is (Some w) name len = refl

names_are : (bs : List ℕ) → name_front (take_while is_inner bs) ≡ front_of (name_at bs)
unfolding name_at
names_are bs =
    let name = take (prefix_len is_inner bs) bs in
    ap (λ k. l.token (l.word_or_name k name) (length name)) (words_are name)
    ∙ ap (λ n. l.token (l.word_or_name (keyword (word_in name)) name) n) (length-prefix_len is_inner bs)
    ∙ name_is (word_in name) name (prefix_len is_inner bs)

-- signs

sign_link : {b b' : Bool} (x : Sign) (len : ℕ) (u : Option t.Sign) (v : Option Sign) (other : Lexeme) → b ≡ b' → length (sign_text (sign_of x)) ≡ len
    → sign_or_bad u ≡ front_of (sign_or v len other) → sign_or_bad (cond b (Some (sign_of x)) u) ≡ front_of (sign_or (cond b' (Some x) v) len other)
sign_link {b} {b'} x len u v other same size e = subst (λ z. sign_or_bad (cond b (Some (sign_of x)) u) ≡ front_of (sign_or (cond z (Some x) v) len other)) same (by_test b) where
  by_test : (b : Bool) → sign_or_bad (cond b (Some (sign_of x)) u) ≡ front_of (sign_or (cond b (Some x) v) len other)
  by_test true = ap (λ n. l.token (t.sign (sign_of x)) n) size
  by_test false = e

signs_are : (bs : List ℕ) → sign_front bs ≡ front_of (sign_at bs)
unfolding sign_at single_at pair_sign single_sign
signs_are bs =
    (sign_link s.Equal 2 _ _ _ (two_bytes bs 61 61 refl) refl
    (sign_link s.NotEqual 2 _ _ _ (two_bytes bs 33 61 refl) refl
    (sign_link s.LessOrEqual 2 _ _ _ (two_bytes bs 60 61 refl) refl
    (sign_link s.ShiftLeft 2 _ _ _ (two_bytes bs 60 60 refl) refl
    (sign_link s.ShiftRight 2 _ _ _ (two_bytes bs 62 62 refl) refl
    (sign_link s.OpenParen 1 _ _ _ (one_byte bs 40 refl) refl
    (sign_link s.CloseParen 1 _ _ _ (one_byte bs 41 refl) refl
    (sign_link s.OpenBrace 1 _ _ _ (one_byte bs 123 refl) refl
    (sign_link s.CloseBrace 1 _ _ _ (one_byte bs 125 refl) refl
    (sign_link s.OpenBracket 1 _ _ _ (one_byte bs 91 refl) refl
    (sign_link s.CloseBracket 1 _ _ _ (one_byte bs 93 refl) refl
    (sign_link s.Comma 1 _ _ _ (one_byte bs 44 refl) refl
    (sign_link s.Semicolon 1 _ _ _ (one_byte bs 59 refl) refl
    (sign_link s.Colon 1 _ _ _ (one_byte bs 58 refl) refl
    (sign_link s.Question 1 _ _ _ (one_byte bs 63 refl) refl
    (sign_link s.At 1 _ _ _ (one_byte bs 64 refl) refl
    (sign_link s.Is 1 _ _ _ (one_byte bs 61 refl) refl
    (sign_link s.Less 1 _ _ _ (one_byte bs 60 refl) refl
    (sign_link s.Plus 1 _ _ _ (one_byte bs 43 refl) refl
    (sign_link s.Minus 1 _ _ _ (one_byte bs 45 refl) refl
    (sign_link s.Star 1 _ _ _ (one_byte bs 42 refl) refl
    (sign_link s.Ampersand 1 _ _ _ (one_byte bs 38 refl) refl
    (sign_link s.Bar 1 _ _ _ (one_byte bs 124 refl) refl
    (sign_link s.Caret 1 _ _ _ (one_byte bs 94 refl) refl
    (sign_link s.Tilde 1 _ _ _ (one_byte bs 126 refl) refl
    refl)))))))))))))))))))))))))

-- numbers

number_is : (digits : List ℕ) (len : ℕ) → length digits ≡ len → number_front digits ≡ front_of (number_lexeme (number_of 10 digits) len)
number_is digits len size = subst (λ n. number_front digits ≡ front_of (number_lexeme (number_of 10 digits) n)) size (by_test (nat_lt (digits_value 10 digits) (2 ^ 64))) where
  by_test : (b : Bool) → cond b (l.token (t.number (digits_value 10 digits) (length digits)) (length digits)) l.bad
      ≡ front_of (number_lexeme (cond b (Some (digits_value 10 digits)) None) (length digits))
  by_test true = refl
  by_test false = refl

constant_is : (width digits : List ℕ) (len : ℕ) → length width + 2 + length digits ≡ len
    → constant_front width digits ≡ front_of (constant_lexeme (number_of 10 width) (number_of 10 digits) len)
constant_is width digits len size =
    subst (λ n. constant_front width digits ≡ front_of (constant_lexeme (number_of 10 width) (number_of 10 digits) n)) size
    (by_tests (nat_lt (digits_value 10 width) (2 ^ 64)) (nat_lt (digits_value 10 digits) (2 ^ 64))) where
      by_tests : (a b : Bool) → cond (a && b) (l.token (t.constant (digits_value 10 width) (digits_value 10 digits)) (length width + 2 + length digits)) l.bad
          ≡ front_of (constant_lexeme (cond a (Some (digits_value 10 width)) None) (cond b (Some (digits_value 10 digits)) None) (length width + 2 + length digits))
      by_tests true true = refl
      by_tests true false = refl
      by_tests false true = refl
      by_tests false false = refl

index_take : (xs : List ℕ) (n : ℕ) → 0 < n → slice_index (take n xs) 0 ≡ slice_index xs 0
index_take xs n h = grind (arith, common_steps)

index_first : (xs : List ℕ) (n : ℕ) → slice_index (drop n xs) 0 ≡ slice_index xs n
index_first xs n = grind (arith, common_steps)

shuffle : (p q r s : Bool) → (p && ((r && q) && s)) ≡ (p && (q && (r && s)))
shuffle true true true s = refl
shuffle true true false s = refl
shuffle true false true s = refl
shuffle true false false s = refl
shuffle false q r s = refl

constants_are : (bs : List ℕ) (n : ℕ) → 0 < n → l.is_constant (take n bs) (drop n bs) ≡ is_constant n bs
constants_are bs n h =
    ap (λ z. not (eqb z 48) && (starts_with nat_eq (drop n bs) (codes "'d") && is_ascii_digit (slice_index (drop n bs) 2))) (index_take bs n h)
    ∙ ap (λ b. not (eqb (slice_index bs 0) 48) && (b && is_ascii_digit (slice_index (drop n bs) 2))) (starts_two (drop n bs) 39 100 refl)
    ∙ shuffle (not (eqb (slice_index bs 0) 48)) (eqb (slice_index (drop n bs) 0) 39) (eqb (slice_index (drop n bs) 1) 100) (is_ascii_digit (slice_index (drop n bs) 2))
    ∙ ap (λ z. not (eqb (slice_index bs 0) 48) && (eqb z 39 && (eqb (slice_index (drop n bs) 1) 100 && is_ascii_digit (slice_index (drop n bs) 2)))) (index_first bs n)
    ∙ ap (λ z. not (eqb (slice_index bs 0) 48) && (eqb (slice_index bs n) 39 && (eqb z 100 && is_ascii_digit (slice_index (drop n bs) 2)))) (index_drop bs n 1)
    ∙ ap (λ z. not (eqb (slice_index bs 0) 48) && (eqb (slice_index bs n) 39 && (eqb (slice_index bs (n + 1)) 100 && is_ascii_digit z))) (index_drop bs n 2)

numbers_at : (bs : List ℕ) (n : ℕ) → 0 < n → prefix_len is_ascii_digit bs ≡ n → length (take n bs) ≡ n → digits_front (take n bs) (drop n bs) ≡ front_of (number_at bs)
unfolding number_at constant_at
numbers_at bs n h size len =
    ap (λ b. cond b (constant_front (take n bs) (digits_of_front (drop 2 (drop n bs)))) (number_front (take n bs))) (constants_are bs n h)
    ∙ by_test (is_constant n bs)
    ∙ ap (λ m. front_of (cond (is_constant m bs) (constant_at m bs) (number_lexeme (number_of 10 (take m bs)) m))) (sym size) where
      by_test : (b : Bool) → cond b (constant_front (take n bs) (digits_of_front (drop 2 (drop n bs)))) (number_front (take n bs))
          ≡ front_of (cond b (constant_at n bs) (number_lexeme (number_of 10 (take n bs)) n))
      by_test false = number_is (take n bs) n len
      by_test true =
          ap (λ xs. constant_front (take n bs) (digits_of_front xs)) (drop-drop 2 n bs)
          ∙ constant_is (take n bs) (digits_of_front (drop (n + 2) bs)) (n + 2 + prefix_len is_ascii_digit (drop (n + 2) bs))
          (ap (λ k. k + 2 + length (digits_of_front (drop (n + 2) bs))) len ∙ ap (λ k. n + 2 + k) (length-prefix_len is_ascii_digit (drop (n + 2) bs)))

digit_run : (b : ℕ) (bs : List ℕ) → is_ascii_digit b ≡ true → 0 < prefix_len is_ascii_digit (b ∷ bs)
digit_run b bs e = subst (λ z. 0 < cond z (1 + prefix_len is_ascii_digit bs) 0) (sym e) (omega arith)

numbers_are : (b : ℕ) (bs : List ℕ) → is_ascii_digit b ≡ true
    → digits_front (digits_of_front (b ∷ bs)) (drop (length (digits_of_front (b ∷ bs))) (b ∷ bs)) ≡ front_of (number_at (b ∷ bs))
numbers_are b bs e =
    let n = prefix_len is_ascii_digit (b ∷ bs) in
    let len = length-prefix_len is_ascii_digit (b ∷ bs) in
    ap (λ k. digits_front (digits_of_front (b ∷ bs)) (drop k (b ∷ bs))) len ∙ numbers_at (b ∷ bs) n (digit_run b bs e) refl len

-- all of them

lexeme_is : (b : ℕ) (bs : List ℕ) → front (b ∷ bs) ≡ front_of (lexeme_of (b ∷ bs))
unfolding front lexeme_of
lexeme_is b bs =
    ap (λ z. cond (is_blank b) (l.blank 1) (cond z (l.blank (prefix_len is_in_line (b ∷ bs))) (by_name (is_initial b) (is_ascii_digit b))))
    (starts_two (b ∷ bs) 47 47 refl ∙ and_comm (eqb (slice_index (b ∷ bs) 1) 47) (eqb (slice_index (b ∷ bs) 0) 47))
    ∙ by_tests (is_blank b) (is_comment (b ∷ bs)) (is_initial b) (is_ascii_digit b) refl where
      by_name : Bool → Bool → l.Front
      by_name p q =
          cond p (name_front (take_while is_inner (b ∷ bs)))
          (cond q (digits_front (digits_of_front (b ∷ bs)) (drop (length (digits_of_front (b ∷ bs))) (b ∷ bs))) (sign_front (b ∷ bs)))

      by_tests : (w m p q : Bool) → is_ascii_digit b ≡ q
          → cond w (l.blank 1) (cond m (l.blank (prefix_len is_in_line (b ∷ bs))) (by_name p q))
          ≡ front_of (cond w (Blank 1) (cond m (Blank (run c.Comment (b ∷ bs))) (cond p (name_at (b ∷ bs)) (cond q (number_at (b ∷ bs)) (sign_at (b ∷ bs))))))
      by_tests true m p q e = refl
      by_tests false true p q e = refl
      by_tests false false true q e = names_are (b ∷ bs)
      by_tests false false false true e = numbers_are b bs e
      by_tests false false false false e = signs_are (b ∷ bs)

pub front_is : (bs : List ℕ) → 0 < length bs → front bs ≡ front_of (lexeme_of bs)
front_is [] h = absurd (omega arith)
front_is (b ∷ bs) h = lexeme_is b bs
