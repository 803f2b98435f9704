-- What the walk does with a symbol that is a single token.
use Rattle.sap_lemmas.proofs.Common.{◌≡◌, ◌≢◌, ◌<◌, ℕ, List, [], ◌∷◌, length, Option, Some, None, Ok, Err, Bool, true, false, refl, sym, ap, ◌∙◌, arith, eqb, ◌&&◌, find, bytes_eq, same_Some, test_of_same, bytes_eq_same, equal_of_bytes_eq}
use Rattle.sap_vtext.specs.Lexing.{sign_text, signs, word_text, words}
use Rattle.sap_vtext.specs.Tokens as t
use Rattle.sap_vtext.specs.Tokens.{IsToken}
use Rattle.sap_vparse.specs.Reading.{Passes, Head, constant_in, front_constant, front_name, front_number, head, head_of, name_in, number_in, of_sign, of_word, plain, reads, steps}
use Rattle.sap_vparse.specs.Table as s
use Rattle.sap_vparse.specs.Table.{Symbol, first, grammar, if_same, may_be_empty, next}
use Rattle.sap_walk.specs.Walk as walk
use Rattle.sap_walk.specs.Walk.{cannot_stand, ◌>>=◌}
use Rattle.sap_walk.proofs.Walking.{read_take, read_stop, read_end}

-- the laws of the walk, over plain lists of tokens

plain_bind : (o : walk.Outcome grammar) (σ : List Symbol) → ((p : walk.Point grammar) → plain (walk.steps grammar σ p) ≡ steps σ p.left)
    → plain (o >>= walk.steps grammar σ) ≡ (plain o >>= steps σ)
plain_bind (Ok p) σ h = h p
plain_bind (Err (walk.at_token p)) σ h = refl
plain_bind (Err (walk.at_limit limit p)) σ h = refl

plain_steps : (σ : List Symbol) (p : walk.Point grammar) → plain (walk.steps grammar σ p) ≡ steps σ p.left
unfolding reads
plain_steps [] p = refl
plain_steps (x ∷ σ) p = plain_bind (walk.read grammar x p) σ (plain_steps σ)

pub reads_first : (x : Symbol) (y : t.Token) (ts : List t.Token) (σ : List Symbol) → next x y.kind ≡ first σ → reads x (y ∷ ts) ≡ steps σ ts
unfolding reads
reads_first x y ts σ e = ap plain (read_take grammar x y ts tt tt σ tt e refl) ∙ plain_steps σ (record { past = tt; left = ts })

pub reads_stop : (x : Symbol) (y : t.Token) (ts : List t.Token) → next x y.kind ≡ cannot_stand → reads x (y ∷ ts) ≡ Err (y ∷ ts)
unfolding reads
reads_stop x y ts e = ap plain (read_stop grammar x y ts tt e)

pub reads_none : (x : Symbol) → may_be_empty x ≡ false → reads x [] ≡ Err []
unfolding reads
reads_none x e = ap plain (read_end grammar x tt e)

-- one token is all that x is
passed : (x : Symbol) {p q : List t.Token} {place : ℕ} (h : Passes p place q) → next x h.token.kind ≡ first [] → reads x p ≡ Ok q
passed x {p} {q} h e = ap (reads x) h.parts ∙ reads_first x h.token q [] e

pub refused : (x : Symbol) (p : List t.Token) → may_be_empty x ≡ false → ((y : t.Token) (ts : List t.Token) → p ≡ y ∷ ts → next x y.kind ≡ cannot_stand) → reads x p ≡ Err p
refused x [] full h = reads_none x full
refused x (y ∷ ts) full h = reads_stop x y ts (h y ts refl)

passed_is : {p q : List t.Token} {place : ℕ} {kind : t.Kind} (h : Passes p place q) → h.token.kind ≡ kind → IsToken p place kind q
passed_is {q = q} {place} {kind} h e = record {
  parts =
      h.parts ∙ ap (λ n. (let y : t.Token = record { place = n; kind = h.token.kind } in y) ∷ q) (sym h.there)
      ∙ ap (λ k. (let y : t.Token = record { place = place; kind = k } in y) ∷ q) e;
}

-- how a sign and a word are spelled gives them back

sign_back : (x : t.Sign) → find (λ y. bytes_eq (sign_text x) (sign_text y)) signs ≡ Some x
sign_back t.open_paren = refl
sign_back _ = refl

word_back : (x : t.Word) → find (λ y. bytes_eq (word_text x) (word_text y)) words ≡ Some x
word_back t.module_word = refl
word_back _ = refl

pub sign_same : (x y : t.Sign) → bytes_eq (sign_text x) (sign_text y) ≡ true → x ≡ y
sign_same x y e =
    same_Some x y (sym (sign_back x) ∙ ap (λ text. find (λ z. bytes_eq text (sign_text z)) signs) (equal_of_bytes_eq (sign_text x) (sign_text y) e) ∙ sign_back y)

pub word_same : (x y : t.Word) → bytes_eq (word_text x) (word_text y) ≡ true → x ≡ y
word_same x y e =
    same_Some x y (sym (word_back x) ∙ ap (λ text. find (λ z. bytes_eq text (word_text z)) words) (equal_of_bytes_eq (word_text x) (word_text y) e) ∙ word_back y)

signs_apart : (x y : t.Sign) → x ≢ y → bytes_eq (sign_text x) (sign_text y) ≡ false
signs_apart x y ne = by_test (bytes_eq (sign_text x) (sign_text y)) refl where
  by_test : (b : Bool) → bytes_eq (sign_text x) (sign_text y) ≡ b → b ≡ false
  by_test true e = absurd (ne (sign_same x y e))
  by_test false e = refl

words_apart : (x y : t.Word) → x ≢ y → bytes_eq (word_text x) (word_text y) ≡ false
words_apart x y ne = by_test (bytes_eq (word_text x) (word_text y)) refl where
  by_test : (b : Bool) → bytes_eq (word_text x) (word_text y) ≡ b → b ≡ false
  by_test true e = absurd (ne (word_same x y e))
  by_test false e = refl

-- what stands at the front

pub kind_of_sign : (i : t.Kind) (x : t.Sign) → head_of i ≡ of_sign x → i ≡ t.sign x
kind_of_sign (t.sign i) x e = cc
kind_of_sign _ x e = absurd (cc)

pub kind_of_word : (i : t.Kind) (x : t.Word) → head_of i ≡ of_word x → i ≡ t.word x
kind_of_word (t.word i) x e = cc
kind_of_word _ x e = absurd (cc)

number_kind : (i : t.Kind) (v : ℕ × ℕ) → number_in i ≡ Some v → i ≡ t.number v.0 v.1
number_kind (t.number i n) v e = (let same : (i, n) ≡ v = cc in ap (λ (x : ℕ × ℕ). t.number x.0 x.1) same)
number_kind _ v e = absurd (cc)

constant_kind : (i : t.Kind) (v : ℕ × ℕ) → constant_in i ≡ Some v → i ≡ t.constant v.0 v.1
constant_kind (t.constant i n) v e = (let same : (i, n) ≡ v = cc in ap (λ (x : ℕ × ℕ). t.constant x.0 x.1) same)
constant_kind _ v e = absurd (cc)

name_kind : (i : t.Kind) (n : List ℕ) → name_in i ≡ Some n → i ≡ t.name n
name_kind (t.name i) n e = cc
name_kind _ n e = absurd (cc)

pub head_front : {left : List t.Token} {x : Head} (y : t.Token) (ts : List t.Token) → head left ≡ x → left ≡ y ∷ ts → head_of y.kind ≡ x
unfolding head
head_front y ts e h = sym (ap head h) ∙ e

pub head_back : {left : List t.Token} {x : Head} (y : t.Token) (ts : List t.Token) → head_of y.kind ≡ x → left ≡ y ∷ ts → head left ≡ x
unfolding head
head_back y ts h e = ap head e ∙ h

number_front : {left : List t.Token} {x : Option (ℕ × ℕ)} (y : t.Token) (ts : List t.Token) → front_number left ≡ x → left ≡ y ∷ ts → number_in y.kind ≡ x
unfolding front_number
number_front y ts e h = sym (ap front_number h) ∙ e

constant_front : {left : List t.Token} {x : Option (ℕ × ℕ)} (y : t.Token) (ts : List t.Token) → front_constant left ≡ x → left ≡ y ∷ ts → constant_in y.kind ≡ x
unfolding front_constant
constant_front y ts e h = sym (ap front_constant h) ∙ e

name_front : {left : List t.Token} {x : Option (List ℕ)} (y : t.Token) (ts : List t.Token) → front_name left ≡ x → left ≡ y ∷ ts → name_in y.kind ≡ x
unfolding front_name
name_front y ts e h = sym (ap front_name h) ∙ e

pub some_number : (left : List t.Token) (v : ℕ × ℕ) → front_number left ≡ Some v → 0 < length left
unfolding front_number
some_number [] v e = absurd (cc)
some_number (y ∷ ts) v e = omega arith

pub some_constant : (left : List t.Token) (v : ℕ × ℕ) → front_constant left ≡ Some v → 0 < length left
unfolding front_constant
some_constant [] v e = absurd (cc)
some_constant (y ∷ ts) v e = omega arith

pub some_name : (left : List t.Token) (n : List ℕ) → front_name left ≡ Some n → 0 < length left
unfolding front_name
some_name [] n e = absurd (cc)
some_name (y ∷ ts) n e = omega arith

-- signs

sign_kind : {p q : List t.Token} {place : ℕ} (x : t.Sign) → head p ≡ of_sign x → (h : Passes p place q) → h.token.kind ≡ t.sign x
sign_kind {q = q} x e h = kind_of_sign h.token.kind x (head_front h.token q e h.parts)

pub sign_is : (p q : List t.Token) (place : ℕ) (x : t.Sign) → head p ≡ of_sign x → Passes p place q → IsToken p place (t.sign x) q
sign_is p q place x e h = passed_is h (sign_kind x e h)

pub next_sign : (x : t.Sign) (i : t.Kind) → i ≡ t.sign x → next (s.sign x) i ≡ first []
next_sign x i e = ap (next (s.sign x)) e ∙ ap if_same (bytes_eq_same (sign_text x))

pub next_not_sign : (x : t.Sign) (i : t.Kind) → head_of i ≢ of_sign x → next (s.sign x) i ≡ cannot_stand
next_not_sign x (t.sign i) ne = ap if_same (signs_apart i x (λ e. ne (ap of_sign e)))
next_not_sign x _ ne = refl

pub sign_read : (p q : List t.Token) (place : ℕ) (x : t.Sign) → head p ≡ of_sign x → Passes p place q → reads (s.sign x) p ≡ Ok q
sign_read p q place x e h = passed (s.sign x) h (next_sign x h.token.kind (sign_kind x e h))

pub sign_refused : (p : List t.Token) (x : t.Sign) → head p ≢ of_sign x → reads (s.sign x) p ≡ Err p
sign_refused p x ne = refused (s.sign x) p refl (λ y ts e. next_not_sign x y.kind (λ h. ne (head_back y ts h e)))

-- words

word_kind : {p q : List t.Token} {place : ℕ} (x : t.Word) → head p ≡ of_word x → (h : Passes p place q) → h.token.kind ≡ t.word x
word_kind {q = q} x e h = kind_of_word h.token.kind x (head_front h.token q e h.parts)

pub word_is : (p q : List t.Token) (place : ℕ) (x : t.Word) → head p ≡ of_word x → Passes p place q → IsToken p place (t.word x) q
word_is p q place x e h = passed_is h (word_kind x e h)

pub next_word : (x : t.Word) (i : t.Kind) → i ≡ t.word x → next (s.word x) i ≡ first []
next_word x i e = ap (next (s.word x)) e ∙ ap if_same (bytes_eq_same (word_text x))

pub next_not_word : (x : t.Word) (i : t.Kind) → head_of i ≢ of_word x → next (s.word x) i ≡ cannot_stand
next_not_word x (t.word i) ne = ap if_same (words_apart i x (λ e. ne (ap of_word e)))
next_not_word x _ ne = refl

pub word_read : (p q : List t.Token) (place : ℕ) (x : t.Word) → head p ≡ of_word x → Passes p place q → reads (s.word x) p ≡ Ok q
word_read p q place x e h = passed (s.word x) h (next_word x h.token.kind (word_kind x e h))

pub word_refused : (p : List t.Token) (x : t.Word) → head p ≢ of_word x → reads (s.word x) p ≡ Err p
word_refused p x ne = refused (s.word x) p refl (λ y ts e. next_not_word x y.kind (λ h. ne (head_back y ts h e)))

-- numbers

next_not_number : (i : t.Kind) → number_in i ≡ None → next s.number i ≡ cannot_stand
next_not_number (t.number n digits) e = absurd (cc)
next_not_number _ e = refl

pub number_is : (p q : List t.Token) (place : ℕ) (v : ℕ × ℕ) → front_number p ≡ Some v → Passes p place q → IsToken p place (t.number v.0 v.1) q
number_is p q place v e h = passed_is h (number_kind h.token.kind v (number_front h.token q e h.parts))

pub number_read : (p q : List t.Token) (place : ℕ) (v : ℕ × ℕ) → front_number p ≡ Some v → Passes p place q → reads s.number p ≡ Ok q
number_read p q place v e h = passed s.number h (ap (next s.number) (number_kind h.token.kind v (number_front h.token q e h.parts)))

pub number_refused : (p : List t.Token) → front_number p ≡ None → reads s.number p ≡ Err p
number_refused p e = refused s.number p refl (λ y ts h. next_not_number y.kind (number_front y ts e h))

next_not_digit : (n : ℕ) (i : t.Kind) → number_in i ≡ None → next (s.digit n) i ≡ cannot_stand
next_not_digit n (t.number i digits) e = absurd (cc)
next_not_digit n _ e = refl

pub digit_read : (p q : List t.Token) (place : ℕ) (n : ℕ) → front_number p ≡ Some (n, 1) → Passes p place q → reads (s.digit n) p ≡ Ok q
digit_read p q place n e h =
    passed (s.digit n) h (ap (next (s.digit n)) (number_kind h.token.kind (n, 1) (number_front h.token q e h.parts)) ∙ ap (λ b. if_same (b && true)) (test_of_same n))

pub digit_refused : (p : List t.Token) (n : ℕ) → front_number p ≡ None → reads (s.digit n) p ≡ Err p
digit_refused p n e = refused (s.digit n) p refl (λ y ts h. next_not_digit n y.kind (number_front y ts e h))

pub digit_other : (p : List t.Token) (n : ℕ) (v : ℕ × ℕ) → front_number p ≡ Some v → (eqb v.0 n && eqb v.1 1) ≡ false → reads (s.digit n) p ≡ Err p
digit_other p n v e ne = refused (s.digit n) p refl (λ y ts h. ap (next (s.digit n)) (number_kind y.kind v (number_front y ts e h)) ∙ ap if_same ne)

-- constants

next_not_constant : (i : t.Kind) → constant_in i ≡ None → next s.constant i ≡ cannot_stand
next_not_constant (t.constant n m) e = absurd (cc)
next_not_constant _ e = refl

pub constant_is : (p q : List t.Token) (place : ℕ) (v : ℕ × ℕ) → front_constant p ≡ Some v → Passes p place q → IsToken p place (t.constant v.0 v.1) q
constant_is p q place v e h = passed_is h (constant_kind h.token.kind v (constant_front h.token q e h.parts))

pub constant_read : (p q : List t.Token) (place : ℕ) (v : ℕ × ℕ) → front_constant p ≡ Some v → Passes p place q → reads s.constant p ≡ Ok q
constant_read p q place v e h = passed s.constant h (ap (next s.constant) (constant_kind h.token.kind v (constant_front h.token q e h.parts)))

pub constant_refused : (p : List t.Token) → front_constant p ≡ None → reads s.constant p ≡ Err p
constant_refused p e = refused s.constant p refl (λ y ts h. next_not_constant y.kind (constant_front y ts e h))

-- names

next_not_name : (i : t.Kind) → name_in i ≡ None → next s.name i ≡ cannot_stand
next_not_name (t.name n) e = absurd (cc)
next_not_name _ e = refl

pub name_is : (p q : List t.Token) (place : ℕ) (n : List ℕ) → front_name p ≡ Some n → Passes p place q → IsToken p place (t.name n) q
name_is p q place n e h = passed_is h (name_kind h.token.kind n (name_front h.token q e h.parts))

pub name_read : (p q : List t.Token) (place : ℕ) (n : List ℕ) → front_name p ≡ Some n → Passes p place q → reads s.name p ≡ Ok q
name_read p q place n e h = passed s.name h (ap (next s.name) (name_kind h.token.kind n (name_front h.token q e h.parts)))

pub name_refused : (p : List t.Token) → front_name p ≡ None → reads s.name p ≡ Err p
name_refused p e = refused s.name p refl (λ y ts h. next_not_name y.kind (name_front y ts e h))
