-- The word that a text spells, by the words' uses, and the sign, by the text's length.
use Rattle.sap_lemmas.proofs.Common.{◌≡◌, ℕ, List, [], ◌∷◌, length, Bool, true, false, cond, not, refl, ap, ◌∙◌, arith, eqb, inl, inr, Option, Some, None, cases_Bool, nat_tests, slice_index, ◌&&◌, ◌++◌, list_all, option_or, bytes_eq, equal_of_bytes_eq}
use Rattle.std.proofs.lemmas.List.Folds.{find-append}
use Rattle.sap_tree.specs.Words.{word_text}
use Rattle.sap_lex.specs.Spelling.{command_word, command_words, declaration_word, declaration_words, expression_word, expression_words, pair_sign, pair_signs, sign_among, sign_of, sign_text, signs, single_sign, single_signs, word_of}
use Rattle.sap_lex.specs.declared.token.Sign.{Sign}

-- words

pub word_by_use : (text : List ℕ) → word_of text ≡ option_or (declaration_word text) (option_or (command_word text) (expression_word text))
unfolding declaration_word command_word expression_word
word_by_use text =
    find-append (λ word. bytes_eq text (word_text word)) declaration_words (command_words ++ expression_words)
    ∙ ap (option_or (declaration_word text)) (find-append (λ word. bytes_eq text (word_text word)) command_words expression_words)

pub ruleset by_use = (word_by_use)

-- signs

apart : (m n : List ℕ) → eqb (length n) (length m) ≡ false → bytes_eq m n ≡ false
apart m n e = elim (cases_Bool (bytes_eq m n)) [
  | inl t ↦ (let same : length m ≡ length n = ap length (equal_of_bytes_eq m n t) in absurd (grind (arith, nat_tests)))
  | inr f ↦ f
]

not_this : (text : List ℕ) (sign : Sign) (o : Option Sign) (b r : Bool) → eqb (length (sign_text sign)) (length text) ≡ b → (not b && r) ≡ true → (r ≡ true → o ≡ None)
    → cond (bytes_eq text (sign_text sign)) (Some sign) o ≡ None
not_this text sign o true r e h rest = absurd (cc)
not_this text sign o false r e h rest = ap (λ b. cond b (Some sign) o) (apart text (sign_text sign) e) ∙ rest h

-- a text of another length than each of some signs spells none of them
other_length : (text : List ℕ) (list : List Sign) → list_all (λ sign. not (eqb (length (sign_text sign)) (length text))) list ≡ true → sign_among list text ≡ None
other_length text [] h = refl
other_length text (sign ∷ list) h =
    not_this text sign (sign_among list text) (eqb (length (sign_text sign)) (length text))
    (list_all (λ sign. not (eqb (length (sign_text sign)) (length text))) list) refl h (other_length text list)

pub sign_of_one : (text : List ℕ) → length text ≡ 1 → sign_of text ≡ single_sign (slice_index text 0)
unfolding single_sign
sign_of_one [] h = absurd (omega arith)
sign_of_one (x ∷ []) h =
    find-append (λ sign. bytes_eq (x ∷ []) (sign_text sign)) pair_signs single_signs
    ∙ ap (λ o. option_or o (sign_among single_signs (x ∷ []))) (other_length (x ∷ []) pair_signs refl)
sign_of_one (x ∷ y ∷ rest) h = absurd (omega arith)

or_none : (o p : Option Sign) → p ≡ None → option_or o p ≡ o
or_none (Some sign) p e = refl
or_none None p e = e

pub sign_of_two : (text : List ℕ) → length text ≡ 2 → sign_of text ≡ pair_sign (slice_index text 0) (slice_index text 1)
unfolding pair_sign
sign_of_two [] h = absurd (omega arith)
sign_of_two (x ∷ []) h = absurd (omega arith)
sign_of_two (x ∷ y ∷ []) h =
    find-append (λ sign. bytes_eq (x ∷ y ∷ []) (sign_text sign)) pair_signs single_signs
    ∙ or_none (sign_among pair_signs (x ∷ y ∷ [])) _ (other_length (x ∷ y ∷ []) single_signs refl)
sign_of_two (x ∷ y ∷ z ∷ rest) h = absurd (omega arith)

one_or_two : (n : ℕ) → eqb 1 n ≡ false → eqb 2 n ≡ false → list_all (λ sign. not (eqb (length (sign_text sign)) n)) signs ≡ true
one_or_two n e f = cc

pub sign_of_other : (text : List ℕ) → eqb 1 (length text) ≡ false → eqb 2 (length text) ≡ false → sign_of text ≡ None
sign_of_other text e f = other_length text signs (one_or_two (length text) e f)

pub ruleset by_length = (sign_of_one, sign_of_two, sign_of_other)
