-- Where the tokens of a text lie, and what their texts are.
use Rattle.sap_lemmas.proofs.Common.{◌≡◌, ◌<◌, ◌≤◌, ◌+◌, ◌-◌, ◌∙◌, ℕ, zero, suc, List, [], ◌∷◌, ◌++◌, length, length-append, length-take, take, drop, Bool, true, false, Option, Some, None, refl, sym, ap, ap₂, subst, arith, nat_tests, list_any-append, codes, map, ◌||◌, ◌==◌, bytes_eq, All, equal_of_bytes_eq, and_parts}
use Rattle.std.proofs.lemmas.List.Elements.{All-append}
use Rattle.sap_tree.specs.Words.{is_word, is_keyword, keywords, later_words, word_text}
use Rattle.sap_tree.specs.declared.version.Version.{Version}
use Rattle.sap_tree.specs.declared.word.Word.{Word}
use Rattle.sap_tree.specs.declared.version.Version.TheVariants as v
use Rattle.sap_lex.specs.Spelling.{later_word_of, sign_text}
use Rattle.sap_lex.specs.declared.token.Kind.TheVariants as k
use Rattle.sap_lex.specs.declared.token.Sign.TheVariants as s
use Rattle.sap_lex.specs.declared.token.Sign.{Sign}
use Rattle.sap_tree.specs.declared.word.Word.TheVariants as w
use Rattle.sap_walk.specs.Reached.{start, blank, token}
use Rattle.sap_lex.specs.Lexing.{AreSpanned, AreTokens, Reached, StandsAt, behind_sapper, is_number_two, is_sapper, is_two, keyed, kind_by, later_kind, later_token, second_token, version_of, version_of_kind, version_of_word, with_kind}
use Rattle.sap_lex.specs.Spelled.{Spells, SpellsNumber, SpellsSized, decimal, hexadecimal, HasText, AreInOrder, is_of, text_of}
use Rattle.sap_text.specs.declared.scan.Class.TheVariants as c
use Rattle.sap_lex.specs.declared.token.Kind.{Kind}
use Rattle.sap_lex.specs.declared.token.Token.{Token}
use Rattle.sap_lex.proofs.Spelled.{by_test, find_passes, lexeme_spelled, none_passes, IsSpelled}

text_is : (text : List ℕ) (n : ℕ) (t : Token) (len : ℕ) → StandsAt text n t len → HasText v.One text t
text_is text n t len s =
    let spelled : Spells v.One t.kind (take len (drop n text)) = subst (IsSpelled (drop n text)) s.lexeme (lexeme_spelled (drop n text)) in
    let span : t.to - t.from ≡ len = (let a = s.from in let b = s.to in omega arith) in
    subst (λ d. Spells v.One t.kind (take d (drop t.from text))) (sym span) (subst (λ m. Spells v.One t.kind (take len (drop m text))) (sym s.from) spelled)

one : (P : Token → Type 0) (t : Token) → P t → All P (t ∷ [])
one P t p zero d h = p
one P t p (suc k) d h = absurd (omega arith)

reached_texts : (text : List ℕ) {n : ℕ} {ts : List Token} → Reached text n ts → All (HasText v.One text) ts
reached_texts text start = λ k d h. absurd (omega arith)
reached_texts text (blank len r b) = reached_texts text r
reached_texts text (token {n = n} {ts = ts} t len r s) =
    All-append (HasText v.One text) ts (t ∷ []) (reached_texts text r) (one (HasText v.One text) t (text_is text n t len s))

-- a text that begins with the word `sapper`

version_word : (word : Word) → is_of v.One word ≡ true → version_of_word word ≡ v.One
version_word w.Sapper h = absurd (cc)
version_word _ h = refl

version_kind : (kind : Kind) (text : List ℕ) → Spells v.One kind text → version_of_kind kind ≡ v.One
version_kind (k.Word word) text e = version_word word e.1
version_kind _ text e = refl

sapper_spelled : (kind : Kind) (text : List ℕ) → Spells v.One kind text → is_sapper kind ≡ true → Spells v.Two (k.Word w.Sapper) text
sapper_spelled (k.Name name) text e h = (e.0 ∙ equal_of_bytes_eq name (word_text w.Sapper) h, refl)
sapper_spelled _ text e h = absurd (cc)

no_keyword : (name : List ℕ) → is_keyword v.One name ≡ false → later_word_of name ≡ None → is_keyword v.Two name ≡ false
no_keyword name first later =
    list_any-append (bytes_eq name) (keywords v.One) (map word_text later_words)
    ∙ ap₂ (λ (a b : Bool). a || b) first (none_passes (λ word. bytes_eq name (word_text word)) later_words later)

name_spelled : (text name : List ℕ) → Spells v.One (k.Name name) text → (o : Option Word) → later_word_of name ≡ o → Spells v.Two (kind_by o (k.Name name)) text
name_spelled text name e (Some word) h = (e.0 ∙ equal_of_bytes_eq name (word_text word) (find_passes (λ word. bytes_eq name (word_text word)) later_words h), refl)
name_spelled text name e None h = (e.0, e.1, no_keyword name e.2 h)

later_spelled : (kind : Kind) (text : List ℕ) → Spells v.One kind text → Spells v.Two (later_kind kind) text
later_spelled (k.Word word) text e = (e.0, refl)
later_spelled (k.Name name) text e = name_spelled text name e (later_word_of name) refl
later_spelled _ text e = e

digit_two : (n : ℕ) (text : List ℕ) → SpellsNumber c.Decimal 10 n text → (n == 2) ≡ true → length text ≤ 1 → text ≡ word_text w.Two
digit_two n [] e h l = (let some = e.some in absurd (omega (arith, some)))
digit_two n (d ∷ []) e h l = (let value = e.value in let digits = e.digits in let two : n ≡ 2 = grind (arith, nat_tests) in
    let digit : d ≡ 50 = grind (arith, nat_tests) in ap (λ (b : ℕ). b ∷ []) digit)
digit_two n (d ∷ e' ∷ text) e h l = absurd (omega (arith, l))

two_spelled : (kind : Kind) (text : List ℕ) → Spells v.One kind text → is_number_two kind ≡ true → length text ≤ 1 → Spells v.Two (k.Word w.Two) text
two_spelled (k.Number n) text e h l = (digit_two n text e h l, refl)
two_spelled _ text e h l = absurd (cc)

later_text : (source : List ℕ) (t : Token) → HasText v.One source t → HasText v.Two source (later_token t)
later_text source t e = later_spelled t.kind (text_of source t) e

second_text : (source : List ℕ) (t : Token) → HasText v.One source t → HasText v.Two source (second_token t)
second_text source t e =
    by_test (HasText v.Two source) (is_two t)
    (λ h. let parts = and_parts (is_number_two t.kind) (t.to == t.from + 1) h in
    let next : t.to ≡ t.from + 1 = (let p = parts.1 in grind (arith, nat_tests)) in
    two_spelled t.kind (text_of source t) e parts.0 (let l = length-take (t.to - t.from) (drop t.from source) in omega (arith, l, next)))
    (λ h. later_text source t e)

All-map : (P Q : Token → Type 0) (f : Token → Token) → ((t : Token) → P t → Q (f t)) → (ts : List Token) → All P ts → All Q (map f ts)
All-map P Q f h [] a n d l = absurd (omega arith)
All-map P Q f h (t ∷ ts) a zero d l = h t (a zero d (omega arith))
All-map P Q f h (t ∷ ts) a (suc n) d l = All-map P Q f h ts (λ m e g. a (suc m) e (omega (arith, g))) n d (omega (arith, l))

first_of : (P : Token → Type 0) (t : Token) (ts : List Token) → All P (t ∷ ts) → P t
first_of P t ts a = a zero t (omega arith)

rest_of : (P : Token → Type 0) (t : Token) (ts : List Token) → All P (t ∷ ts) → All P ts
rest_of P t ts a = λ m e g. a (suc m) e (omega (arith, g))

with_first : (P : Token → Type 0) (t : Token) (ts : List Token) → P t → All P ts → All P (t ∷ ts)
with_first P t ts p a = All-append P (t ∷ []) ts (one P t p) a

behind_texts : (source : List ℕ) (ts : List Token) → All (HasText v.One source) ts → All (HasText v.Two source) (behind_sapper ts)
behind_texts source [] a = λ n d l. absurd (omega arith)
behind_texts source (t ∷ ts) a =
    with_first (HasText v.Two source) (second_token t) (map later_token ts) (second_text source t (first_of (HasText v.One source) t ts a))
    (All-map (HasText v.One source) (HasText v.Two source) later_token (later_text source) ts (rest_of (HasText v.One source) t ts a))

abbrev HaveTexts : List ℕ → List Token → Type 0
HaveTexts source ts = All (HasText (version_of ts) source) ts

keyed_texts : (source : List ℕ) (ts : List Token) → All (HasText v.One source) ts → HaveTexts source (keyed ts)
unfolding keyed version_of
keyed_texts source [] a = λ n d l. absurd (omega arith)
keyed_texts source (t ∷ ts) a =
    let e = first_of (HasText v.One source) t ts a in
    by_test (HaveTexts source) (is_sapper t.kind)
    (λ h. with_first (HasText v.Two source) (with_kind t (k.Word w.Sapper)) (behind_sapper ts) (sapper_spelled t.kind (text_of source t) e h)
    (behind_texts source ts (rest_of (HasText v.One source) t ts a)))
    (λ h. subst (λ version. All (HasText version source) (t ∷ ts)) (sym (version_kind t.kind (text_of source t) e)) a)

pub texts_are : (source : List ℕ) (ts : List Token) → AreTokens source ts → All (HasText (version_of ts) source) ts
texts_are source ts a = subst (HaveTexts source) (sym a.keyed_are) (keyed_texts source a.found (reached_texts source a.reached))

-- each token has a byte

word_some : (w : Word) → 0 < length (word_text w)
word_some w.Input = omega arith
word_some _ = omega arith

sign_some : (s : Sign) → 0 < length (sign_text s)
sign_some s.Becomes = omega arith
sign_some _ = omega arith

name_some : (name : List ℕ) → is_word name ≡ true → 0 < length name
name_some [] h = absurd (cc)
name_some (x ∷ xs) h = omega arith

sized_some : {width n : ℕ} {text : List ℕ} → SpellsSized width n text → 0 < length text
sized_some (decimal front digits e a b) = let f = a.some in omega (arith, ap length e, length-append front (codes "'d" ++ digits))
sized_some (hexadecimal front digits e a b) = let f = a.some in omega (arith, ap length e, length-append front (codes "'h" ++ digits))

pub text_some : (version : Version) (kind : Kind) (text : List ℕ) → Spells version kind text → 0 < length text
text_some version (k.Word word) text e = subst (λ x. 0 < length x) (sym e.0) (word_some word)
text_some version (k.Sign sign) text e = subst (λ x. 0 < length x) (sym e) (sign_some sign)
text_some version (k.Name name) text e = subst (λ x. 0 < length x) (sym e.0) (name_some name e.1)
text_some version (k.Number n) text e = e.some
text_some version (k.Sized width n) text e = sized_some e

-- order

order_more : (from to : ℕ) (ts : List Token) (t : Token) (end : ℕ) → AreInOrder from to ts → to ≤ t.from → t.from < t.to → t.to ≤ end → AreInOrder from end (ts ++ t ∷ [])
order_more from to [] t end o p q r = (omega arith, q, r)
order_more from to (x ∷ ts) t end o p q r = (o.0, o.1, order_more x.to to ts t end o.2 p q r)

order_until : (from to end : ℕ) (ts : List Token) → AreInOrder from to ts → to ≤ end → AreInOrder from end ts
order_until from to end [] o p = omega arith
order_until from to end (x ∷ ts) o p = (o.0, o.1, order_until x.to to end ts o.2 p)

in_order_to : (text : List ℕ) {n : ℕ} {ts : List Token} → Reached text n ts → AreInOrder 0 n ts
in_order_to text start = omega arith
in_order_to text (blank {n = n} {ts = ts} len r b) = order_until 0 n (n + len) ts (in_order_to text r) (omega arith)
in_order_to text (token {n = n} {ts = ts} t len r s) =
    let some : 0 < length (take (t.to - t.from) (drop t.from text)) = text_some v.One t.kind _ (text_is text n t len s) in
    let span : t.from < t.to = omega (arith, length-take (t.to - t.from) (drop t.from text)) in
    order_more 0 n ts t (n + len) (in_order_to text r) (let e = s.from in omega arith) span (let e = s.to in omega arith)

pub in_order : (text : List ℕ) (n : ℕ) (ts : List Token) → Reached text n ts → n ≤ length text → AreInOrder 0 (length text) ts
in_order text n ts r h = order_until 0 n (length text) ts (in_order_to text r) h

pub spanned : (from to : ℕ) (ts : List Token) → AreInOrder from to ts → AreSpanned ts
spanned from to [] o = tt
spanned from to (t ∷ ts) o = (o.1, spanned t.to to ts o.2)

-- the words of a text that begins with `sapper` lie where the names did

second_order : (from to : ℕ) (t : Token) (us : List Token) → (from ≤ t.from) × (t.from < t.to) × AreInOrder t.to to us → AreInOrder from to (second_token t ∷ us)
second_order from to t us o = by_test (λ (s : Token). AreInOrder from to (s ∷ us)) (is_two t) (λ h. o) (λ h. o)

later_order : (from to : ℕ) (ts : List Token) → AreInOrder from to ts → AreInOrder from to (map later_token ts)
later_order from to [] o = o
later_order from to (t ∷ ts) o = (o.0, o.1, later_order t.to to ts o.2)

behind_order : (from to : ℕ) (ts : List Token) → AreInOrder from to ts → AreInOrder from to (behind_sapper ts)
behind_order from to [] o = o
behind_order from to (t ∷ ts) o = second_order from to t (map later_token ts) (o.0, o.1, later_order t.to to ts o.2)

pub keyed_order : (from to : ℕ) (ts : List Token) → AreInOrder from to ts → AreInOrder from to (keyed ts)
unfolding keyed
keyed_order from to [] o = o
keyed_order from to (t ∷ ts) o =
    by_test (AreInOrder from to) (is_sapper t.kind) (λ h. (o.0, o.1, behind_order t.to to ts o.2)) (λ h. o)

pub tokens_order : (text : List ℕ) (ts : List Token) → AreTokens text ts → AreInOrder 0 (length text) ts
tokens_order text ts a = subst (AreInOrder 0 (length text)) (sym a.keyed_are) (keyed_order 0 (length text) a.found (in_order text (length text) a.found a.reached (omega arith)))
