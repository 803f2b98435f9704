-- A text has at most one list of tokens, or at most one place where no token begins, and not both.
use Rattle.sap_lemmas.proofs.Common.{◌≡◌, ◌<◌, ◌+◌, ℕ, List, [], ◌∷◌, length, length-take, take, drop, Bool, true, false, Option, Some, None, refl, sym, ap, subst, ◌∙◌, arith, nat_tests, common_steps, slice_index, ◌==◌, is_ascii_digit, byte}
use Rattle.sap_tree.specs.Words.{is_initial}
use Rattle.sap_tree.specs.declared.word.Word.{Word}
use Rattle.sap_lex.specs.Lexemes.{lexeme_of, name_at, number_at, number_lexeme, sized_at, sized_in, sized_lexeme, sign_at, sign_or, word_or_name}
use Rattle.sap_lex.specs.Lexing.{AreTokens, IsBadAt, IsBlankAt, IsLexFault, StandsAt, keyed}
use Rattle.sap_text.specs.Places.{place_at}
use Rattle.sap_tree.specs.declared.version.Version.TheVariants as v
use Rattle.sap_lex.specs.Spelling.{sign_of}
use Rattle.sap_text.specs.Blanks.{is_blank, is_comment}
use Rattle.sap_text.specs.Runs.{run}
use Rattle.sap_text.specs.declared.scan.Class.TheVariants as c
use Rattle.sap_text.specs.declared.scan.Class.{Class}
use Rattle.sap_lex.specs.declared.fault.ReadFault.TheVariants as f
use Rattle.sap_lex.specs.declared.fault.ReadFault.{ReadFault}
use Rattle.sap_lex.specs.declared.lexeme.Lexeme.TheVariants.{Blank, Token, Bad}
use Rattle.sap_lex.specs.declared.lexeme.Lexeme.{Lexeme}
use Rattle.sap_lex.specs.declared.token.Kind.{Kind}
use Rattle.sap_lex.specs.declared.token.Sign.{Sign}
use Rattle.sap_lex.specs.declared.token.Token.{Token as TokenOf}
use Rattle.sap_lex.proofs.Spelled.{IsSpelled, by_test, lexeme_spelled}
use Rattle.sap_lex.proofs.TokenTexts.{text_some}
use Rattle.sap_walk.proofs.Reached as reached

-- a blank has a byte

abbrev IsSome : Lexeme → Type 0
IsSome (Blank len) = 0 < len
IsSome (Token kind len) = Unit {0}
IsSome Bad = Unit {0}

name_some : (o : Option Word) (name : List ℕ) (len : ℕ) → IsSome (word_or_name o name len)
name_some (Some word) name len = tt
name_some None name len = tt

sign_some : (o : Option Sign) (len : ℕ) (other : Lexeme) → IsSome other → IsSome (sign_or o len other)
sign_some (Some sign) len other h = tt
sign_some None len other h = h

number_some : (o : Option ℕ) (b : Bool) (len : ℕ) → IsSome (number_lexeme o b len)
number_some (Some n) true len = tt
number_some (Some n) false len = tt
number_some None b len = tt

sized_some : (o p : Option ℕ) (b : Bool) (len : ℕ) → IsSome (sized_lexeme o p b len)
sized_some (Some w) (Some n) true len = tt
sized_some (Some w) (Some n) false len = tt
sized_some (Some w) None b len = tt
sized_some None p b len = tt

sized_in_some : (class : Class) (base width : ℕ) (bytes : List ℕ) → IsSome (sized_in class base width bytes)
unfolding sized_in
sized_in_some class base width bytes = by_test IsSome (run class (drop (width + 2) bytes) == 0) (λ _. tt) (λ _. sized_some _ _ _ _)

sized_at_some : (width : ℕ) (bytes : List ℕ) → IsSome (sized_at width bytes)
unfolding sized_at
sized_at_some width bytes =
    by_test IsSome (slice_index bytes (width + 1) == byte "d") (λ _. sized_in_some c.Decimal 10 width bytes)
    (λ _. by_test IsSome (slice_index bytes (width + 1) == byte "h") (λ _. sized_in_some c.Hexadecimal 16 width bytes) (λ _. tt))

number_at_some : (bytes : List ℕ) → IsSome (number_at bytes)
unfolding number_at
number_at_some bytes = by_test IsSome (slice_index bytes (run c.Decimal bytes) == byte "'") (λ _. sized_at_some (run c.Decimal bytes) bytes) (λ _. number_some _ _ _)

sign_at_some : (bytes : List ℕ) → IsSome (sign_at bytes)
unfolding sign_at
sign_at_some bytes =
    sign_some (sign_of (take 2 bytes)) (length (take 2 bytes)) (sign_or (sign_of (take 1 bytes)) (length (take 1 bytes)) Bad)
    (sign_some (sign_of (take 1 bytes)) (length (take 1 bytes)) Bad tt)

name_at_some : (bytes : List ℕ) → IsSome (name_at bytes)
unfolding name_at
name_at_some bytes = name_some _ _ _

comment_some : (bytes : List ℕ) → is_comment bytes ≡ true → 0 < run c.Comment bytes
comment_some [] h = absurd (cc)
comment_some (x ∷ xs) h = grind (arith, nat_tests, common_steps)

lexeme_some : (bytes : List ℕ) → IsSome (lexeme_of bytes)
unfolding lexeme_of
lexeme_some bytes =
    by_test IsSome (is_blank (slice_index bytes 0)) (λ _. omega arith)
    (λ _. by_test IsSome (is_comment bytes) (comment_some bytes)
    (λ _. by_test IsSome (is_initial (slice_index bytes 0)) (λ _. name_at_some bytes)
    (λ _. by_test IsSome (is_ascii_digit (slice_index bytes 0)) (λ _. number_at_some bytes)
    (λ _. sign_at_some bytes))))

token_some : (bytes : List ℕ) (kind : Kind) (len : ℕ) → lexeme_of bytes ≡ Token kind len → 0 < len
token_some bytes kind len e =
    let some : 0 < length (take len bytes) = text_some v.One kind (take len bytes) (subst (IsSpelled bytes) e (lexeme_spelled bytes)) in
    omega (arith, length-take len bytes)

-- the lexer

blank_one : {n m : ℕ} {l : Lexeme} → l ≡ Blank n → l ≡ Blank m → n ≡ m
blank_one e f = cc

token_length_one : {k j : Kind} {n m : ℕ} {l : Lexeme} → l ≡ Token k n → l ≡ Token j m → n ≡ m
token_length_one e f = cc

token_kind_one : {k j : Kind} {n m : ℕ} {l : Lexeme} → l ≡ Token k n → l ≡ Token j m → k ≡ j
token_kind_one e f = cc

apart : {k : Kind} {n m : ℕ} {l : Lexeme} → l ≡ Blank n → l ≡ Token k m → ⊥
apart e f = cc

token_one : {t u : TokenOf} → t.kind ≡ u.kind → t.place ≡ u.place → t.from ≡ u.from → t.to ≡ u.to → t ≡ u
token_one {t} {u} e f g h = whole where
  whole : ◌≡◌ {A = TokenOf} (record { kind = t.kind; place = t.place; from = t.from; to = t.to }) (record { kind = u.kind; place = u.place; from = u.from; to = u.to })
  whole = cc

lexer : (text : List ℕ) → reached.IsLexer (IsBlankAt text) (StandsAt text)
lexer text = record {
  blank_length = λ {n} {len} b. subst IsSome b (lexeme_some (drop n text));
  token_length = λ {n} {len} {t} s. token_some (drop n text) t.kind len s.lexeme;
  one_blank = λ b b'. blank_one b b';
  one_token = λ {n} {len} {len'} {t} {t'} s s'. both n len len' t t' s s';
  apart = λ b s. apart b s.lexeme;
} where
  both : (n len len' : ℕ) (t t' : TokenOf) → StandsAt text n t len → StandsAt text n t' len' → (t ≡ t') × (len ≡ len')
  both n len len' t t' s s' =
      let same = token_length_one s.lexeme s'.lexeme in
      (token_one (token_kind_one s.lexeme s'.lexeme) (s.place ∙ sym s'.place) (s.from ∙ sym s'.from) (s.to ∙ ap (λ l. n + l) same ∙ sym s'.to), same)

bad_end : (text : List ℕ) (n : ℕ) → lexeme_of (drop n text) ≡ Bad → reached.IsEnd (IsBlankAt text) (StandsAt text) (lexer text) n
bad_end text n e = record { no_blank = λ len b. not_blank e b; no_token = λ t len s. not_token e s.lexeme } where
  not_blank : {l : Lexeme} {len : ℕ} → l ≡ Bad → l ≡ Blank len → ⊥
  not_blank e f = cc

  not_token : {l : Lexeme} {k : Kind} {len : ℕ} → l ≡ Bad → l ≡ Token k len → ⊥
  not_token e f = cc

nothing_left : (text : List ℕ) → drop (length text) text ≡ []
nothing_left text = grind (arith, common_steps)

nothing_bad : lexeme_of [] ≡ Bad
unfolding lexeme_of sign_at
nothing_bad = refl

text_end : (text : List ℕ) → reached.IsEnd (IsBlankAt text) (StandsAt text) (lexer text) (length text)
text_end text = bad_end text (length text) (ap lexeme_of (nothing_left text) ∙ nothing_bad)

pub one_list : (text : List ℕ) (ts us : List TokenOf) → AreTokens text ts → AreTokens text us → ts ≡ us
one_list text ts us a b = a.keyed_are ∙ ap keyed
    (reached.one_end (IsBlankAt text) (StandsAt text) (lexer text) a.reached b.reached (text_end text) (text_end text)).1 ∙ sym b.keyed_are

pub one_place : (text : List ℕ) (p q : _) → IsBadAt text p → IsBadAt text q → p ≡ q
one_place text p q a b =
    let same = (reached.one_end (IsBlankAt text) (StandsAt text) (lexer text) a.before b.before (bad_end text a.at a.bad) (bad_end text b.at b.bad)).0 in
    a.there ∙ ap (place_at text) same ∙ sym b.there

pub not_bad : (text : List ℕ) (ts : List TokenOf) (p : _) → AreTokens text ts → IsBadAt text p → ⊥
not_bad text ts p a b =
    let same : length text ≡ b.at = (reached.one_end (IsBlankAt text) (StandsAt text) (lexer text) a.reached b.before (text_end text) (bad_end text b.at b.bad)).0 in
    let within = b.within in omega arith

-- the same of faults

pub one_fault : (text : List ℕ) (one other : ReadFault) → IsLexFault text one → IsLexFault text other → one ≡ other
one_fault text (f.E1 p) (f.E1 q) a b = ap f.E1 (one_place text p q a b)
one_fault text (f.E2 p) other a b = absurd a
one_fault text (f.E18 p limit) other a b = absurd a
one_fault text f.Memory other a b = absurd a
one_fault text (f.E1 p) _ a b = absurd b

pub not_both : (text : List ℕ) (tokens : List TokenOf) (fault : ReadFault) → AreTokens text tokens → IsLexFault text fault → ⊥
not_both text tokens (f.E1 place) a b = not_bad text tokens place a b
not_both text tokens _ a b = b
