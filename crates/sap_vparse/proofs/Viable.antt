-- Each symbol can be spelled, and tokens that the walk takes go on as the grammar has it.
use Rattle.sap_lemmas.proofs.Common.{◌≡◌, ℕ, List, [], ◌∷◌, ◌++◌, Bool, true, false, refl, sym, ap, subst, ◌∙◌, eqb, ◌⊎◌, inl, inr, ◌&&◌, eqb-true, bytes_eq}
use Rattle.sap_bits.specs.declared.Op1.TheVariants as unary
use Rattle.sap_bits.specs.declared.Op1.{Op1}
use Rattle.sap_bits.specs.declared.Op2.TheVariants as binary
use Rattle.sap_bits.specs.declared.Op2.{Op2}
use Rattle.sap_vtext.specs.Grammar as g
use Rattle.sap_vtext.specs.Grammar.{binary_sign, unary_sign, AreParts, IsClocked, IsConstant, IsDigit, IsFile, IsItem, IsLoop, IsName, IsNumber, IsOperand, IsPort, IsRange, IsSign, IsWord}
use Rattle.sap_vtext.specs.Items as item
use Rattle.sap_vtext.specs.Lexing.{sign_text, word_text}
use Rattle.sap_vtext.specs.Tokens as t
use Rattle.sap_vtext.specs.Tokens.{IsToken}
use Rattle.sap_vparse.specs.Parts.{ItemsEnd, PortsEnd, RightEnds}
use Rattle.sap_vparse.specs.Table as s
use Rattle.sap_vparse.specs.Table.{Symbol, Row, grammar, next}
use Rattle.sap_walk.specs.Rows.{push}
use Rattle.sap_walk.specs.Walk.{begins, empty_here, cannot_stand, Point}
use Rattle.sap_walk.proofs.Running.{Runs}
use Rattle.sap_walk.proofs.Spelling as spelling
use Rattle.sap_vparse.proofs.NeverSkips.{never_skips}
use Rattle.sap_vparse.proofs.Single.{sign_same, word_same}

-- what stands for a symbol, in the words of the grammar
abbrev pub L : Symbol → List t.Token → List t.Token → Type 0
L (s.sign j) ts r = IsSign ts j r
L (s.word j) ts r = IsWord ts j r
L (s.digit n) ts r = IsDigit ts n r
L s.name ts r = (x : item.Mention) × IsName ts x r
L s.number ts r = (n : item.Number) × IsNumber ts n r
L s.constant ts r = (c : item.Constant) × IsConstant ts c r
L s.operand ts r = (x : item.Operand) × IsOperand ts x r
L s.range ts r = (n : item.Number) × IsRange ts n r
L s.output_kind ts r = IsWord ts t.reg_word r ⊎ IsWord ts t.wire_word r
L s.port ts r = (p : item.Port) × IsPort ts p r
L s.ports ts r = (ps : List item.Port) × PortsEnd ts ps r
L s.parts ts r = (xs : List item.Operand) × (m : List t.Token) × AreParts ts xs m × IsSign m t.close_brace r
L s.right ts r = (x : item.Right) × RightEnds ts x r
L s.after_operand ts r = (us : List t.Token) (x : item.Operand) → IsOperand us x ts → (y : item.Right) × RightEnds us y r
L s.after_name ts r = (us : List t.Token) (x : item.Mention) → IsName us x ts → (y : item.Right) × RightEnds us y r
L s.after_bracket ts r = (us m : List t.Token) (x : item.Mention) → IsName us x m → IsSign m t.open_bracket ts → (y : item.Right) × RightEnds us y r
L s.loop ts r = (place : ℕ) × (n : item.Number) × IsLoop ts place n r
L s.clocked ts r = IsClocked ts r
L s.after_register ts r = (us a b : List t.Token) (n : item.Number) (x : item.Mention) → IsWord us t.reg_word a → IsRange a n b → IsName b x ts → (y : item.Item) × IsItem us y r
L s.after_initial ts r = (us : List t.Token) → IsWord us t.initial_word ts → (y : item.Item) × IsItem us y r
L s.after_clock ts r = (us : List t.Token) → IsClocked us ts → (y : item.Item) × IsItem us y r
L s.item ts r = (x : item.Item) × IsItem ts x r
L s.items ts r = (xs : List item.Item) × ItemsEnd ts xs r
L s.end ts r = ts ≡ r
L s.file ts r = (f : item.File) × IsFile ts f r

abbrev pub Ls : List Symbol → List t.Token → List t.Token → Type 0
Ls [] ts r = ts ≡ r
Ls (x ∷ σ) ts r = (q : List t.Token) × L x ts q × Ls σ q r

split : (σ τ : List Symbol) (ts r : List t.Token) → Ls (σ ++ τ) ts r → (q : List t.Token) × Ls σ ts q × Ls τ q r
split [] τ ts r h = (ts, refl, h)
split (x ∷ σ) τ ts r h = let w = split σ τ h.0 r h.2 in (w.0, (h.0, h.1, w.1), w.2)

-- the last of several
fin : (x : Symbol) (q r : List t.Token) → Ls (x ∷ []) q r → L x q r
fin x q r h = subst (L x q) h.2 h.1

abbrev token : ℕ → t.Kind → t.Token
token place kind = record { place = place; kind = kind }

-- where the row takes the token, P holds from there on for what is then to come
abbrev Gives : Row → (List t.Token → List t.Token → Type 0) → Type 0
Gives (begins role σ) P = (ts r : List t.Token) → Ls σ ts r → P ts r
Gives empty_here P = Unit {0}
Gives cannot_stand P = Unit {0}

push_gives : (n : Row) (τ : List Symbol) (P Q : List t.Token → List t.Token → Type 0) → Gives n P
    → ((ts r m : List t.Token) → P ts m → Ls τ m r → Q ts r) → Gives (push n τ) Q
push_gives (begins role ρ) τ P Q h g = λ ts r all. let c = split ρ τ ts r all in g ts r c.0 (h ts c.0 c.1) c.2
push_gives empty_here τ P Q h g = tt
push_gives cannot_stand τ P Q h g = tt

gives_also : (n : Row) (P Q : List t.Token → List t.Token → Type 0) → Gives n P → ((ts r : List t.Token) → P ts r → Q ts r) → Gives n Q
gives_also (begins role σ) P Q h g = λ ts r all. g ts r (h ts r all)
gives_also empty_here P Q h g = tt
gives_also cannot_stand P Q h g = tt

-- single tokens

one_sign : (p : ℕ) (j : t.Sign) (ts : List t.Token) → IsSign (token p (t.sign j) ∷ ts) j ts
one_sign p j ts = record { place = p; is = record { parts = refl } }

one_word : (p : ℕ) (j : t.Word) (ts : List t.Token) → IsWord (token p (t.word j) ∷ ts) j ts
one_word p j ts = record { place = p; is = record { parts = refl } }

one_name : (p : ℕ) (n : List ℕ) (ts : List t.Token) → IsName (token p (t.name n) ∷ ts) (record { place = p; name = n }) ts
one_name p n ts = record { parts = refl }

one_number : (p n d : ℕ) (ts : List t.Token) → IsNumber (token p (t.number n d) ∷ ts) (record { place = p; value = n }) ts
one_number p n d ts = record { digits = d; is = record { parts = refl } }

one_digit : (p n : ℕ) (ts : List t.Token) → IsDigit (token p (t.number n 1) ∷ ts) n ts
one_digit p n ts = record { place = p; is = record { parts = refl } }

one_constant : (p width n : ℕ) (ts : List t.Token) → IsConstant (token p (t.constant width n) ∷ ts) (record { place = p; width = width; value = n }) ts
one_constant p width n ts = record { parts = refl }

sign_gives : (p : ℕ) (j : t.Sign) (k : t.Kind) → Gives (s.sign_next j k) (λ ts r. IsSign (token p k ∷ ts) j r)
sign_gives p j (t.sign x) = by_test (bytes_eq (sign_text x) (sign_text j)) refl where
  by_test : (b : Bool) → bytes_eq (sign_text x) (sign_text j) ≡ b → Gives (s.if_same b) (λ ts r. IsSign (token p (t.sign x) ∷ ts) j r)
  by_test true e = λ ts r h. subst (λ z. IsSign (token p (t.sign z) ∷ ts) j r) (sym (sign_same x j e)) (subst (λ z. IsSign (token p (t.sign j) ∷ ts) j z) h (one_sign p j ts))
  by_test false e = tt
sign_gives p j _ = tt

word_gives : (p : ℕ) (j : t.Word) (k : t.Kind) → Gives (s.word_next j k) (λ ts r. IsToken (token p k ∷ ts) p (t.word j) r)
word_gives p j (t.word x) = by_test (bytes_eq (word_text x) (word_text j)) refl where
  by_test : (b : Bool) → bytes_eq (word_text x) (word_text j) ≡ b → Gives (s.if_same b) (λ ts r. IsToken (token p (t.word x) ∷ ts) p (t.word j) r)
  by_test true e = λ ts r h. record { parts = ap (λ z. token p (t.word z) ∷ ts) (word_same x j e) ∙ ap (λ z. token p (t.word j) ∷ z) h }
  by_test false e = tt
word_gives p j _ = tt

as_word : {ts r : List t.Token} {p : ℕ} {j : t.Word} → IsToken ts p (t.word j) r → IsWord ts j r
as_word {p = p} h = record { place = p; is = h }

-- the words only
words_give : (p : ℕ) (j : t.Word) (k : t.Kind) → Gives (s.word_next j k) (λ ts r. IsWord (token p k ∷ ts) j r)
words_give p j k = gives_also (s.word_next j k) (λ ts r. IsToken (token p k ∷ ts) p (t.word j) r) (λ ts r. IsWord (token p k ∷ ts) j r) (word_gives p j k) (λ ts r. as_word)

digit_gives : (p n : ℕ) (k : t.Kind) → Gives (s.digit_next n k) (λ ts r. IsDigit (token p k ∷ ts) n r)
digit_gives p n (t.number x d) = by_tests (eqb x n) (eqb d 1) refl refl where
  by_tests : (a b : Bool) → eqb x n ≡ a → eqb d 1 ≡ b → Gives (s.if_same (a && b)) (λ ts r. IsDigit (token p (t.number x d) ∷ ts) n r)
  by_tests true true e f = λ ts r h.
      subst (λ z. IsDigit (token p (t.number z d) ∷ ts) n r) (sym (eqb-true x n e))
      (subst (λ z. IsDigit (token p (t.number n z) ∷ ts) n r) (sym (eqb-true d 1 f)) (subst (λ z. IsDigit (token p (t.number n 1) ∷ ts) n z) h (one_digit p n ts)))
  by_tests true false e f = tt
  by_tests false b e f = tt
digit_gives p n _ = tt

name_gives : (p : ℕ) (k : t.Kind) → Gives (next s.name k) (λ ts r. L s.name (token p k ∷ ts) r)
name_gives p (t.name x) = λ ts r h. (record { place = p; name = x }, subst (λ z. IsName (token p (t.name x) ∷ ts) (record { place = p; name = x }) z) h (one_name p x ts))
name_gives p _ = tt

number_gives : (p : ℕ) (k : t.Kind) → Gives (next s.number k) (λ ts r. L s.number (token p k ∷ ts) r)
number_gives p (t.number x n) = λ ts r h. (
  record { place = p; value = x },
  subst (λ z. IsNumber (token p (t.number x n) ∷ ts) (record { place = p; value = x }) z) h (one_number p x n ts),
)
number_gives p _ = tt

constant_gives : (p : ℕ) (k : t.Kind) → Gives (next s.constant k) (λ ts r. L s.constant (token p k ∷ ts) r)
constant_gives p (t.constant x n) = λ ts r h. (
  record { place = p; width = x; value = n },
  subst (λ z. IsConstant (token p (t.constant x n) ∷ ts) (record { place = p; width = x; value = n }) z) h (one_constant p x n ts),
)
constant_gives p _ = tt

operand_gives : (p : ℕ) (k : t.Kind) → Gives (next s.operand k) (λ ts r. L s.operand (token p k ∷ ts) r)
operand_gives p (t.name x) = λ ts r h. (
  item.named (record { place = p; name = x }),
  g.name (subst (λ z. IsName (token p (t.name x) ∷ ts) (record { place = p; name = x }) z) h (one_name p x ts)),
)
operand_gives p (t.constant x n) = λ ts r h. (
  item.constant (record { place = p; width = x; value = n }),
  g.constant (subst (λ z. IsConstant (token p (t.constant x n) ∷ ts) (record { place = p; width = x; value = n }) z) h (one_constant p x n ts)),
)
operand_gives p _ = tt

range_gives : (p : ℕ) (k : t.Kind) → Gives (next s.range k) (λ ts r. L s.range (token p k ∷ ts) r)
range_gives p k =
    push_gives (s.sign_next t.open_bracket k) _ (λ ts r. IsSign (token p k ∷ ts) t.open_bracket r) (λ ts r. L s.range (token p k ∷ ts) r) (sign_gives p t.open_bracket k)
    (λ ts r m a h. (h.1.0, g.range a h.1.1 h.2.1 h.2.2.1 (fin (s.sign t.close_bracket) h.2.2.0 r h.2.2.2)))

kind_gives : (p : ℕ) (k : t.Kind) → Gives (next s.output_kind k) (λ ts r. L s.output_kind (token p k ∷ ts) r)
kind_gives p (t.word t.reg_word) = λ ts r h. inl (subst (λ z. IsWord (token p (t.word t.reg_word) ∷ ts) t.reg_word z) h (one_word p t.reg_word ts))
kind_gives p (t.word t.wire_word) = λ ts r h. inr (subst (λ z. IsWord (token p (t.word t.wire_word) ∷ ts) t.wire_word z) h (one_word p t.wire_word ts))
kind_gives p _ = tt

output_port : {ts a b c r : List t.Token} {n : item.Number} {x : item.Mention} → IsWord ts t.output_word a → IsWord a t.reg_word b
    ⊎ IsWord a t.wire_word b → IsRange b n c → IsName c x r
    → (y : item.Port) × IsPort ts y r
output_port {n = n} {x = x} a (inl b) c d = (record { direction = item.output_register; range = n; name = x }, g.output_reg a b c d)
output_port {n = n} {x = x} a (inr b) c d = (record { direction = item.output_wire; range = n; name = x }, g.output_wire a b c d)

port_gives : (p : ℕ) (k : t.Kind) → Gives (next s.port k) (λ ts r. L s.port (token p k ∷ ts) r)
port_gives p (t.word t.input_word) = λ ts r h. let x = fin s.name h.0 r h.2 in
    (record { direction = item.input; range = h.1.0; name = x.0 }, g.input (one_word p t.input_word ts) h.1.1 x.1)
port_gives p (t.word t.output_word) = λ ts r h. let x = fin s.name h.2.0 r h.2.2 in output_port (one_word p t.output_word ts) h.1 h.2.1.1 x.1
port_gives p _ = tt

ports_gives : (p : ℕ) (k : t.Kind) → Gives (next s.ports k) (λ ts r. L s.ports (token p k ∷ ts) r)
ports_gives p (t.sign t.comma) = λ ts r h. let x = fin s.ports h.0 r h.2 in
    (h.1.0 ∷ x.0, record { last = x.1.last; ports = g.next_port (one_sign p t.comma ts) h.1.1 x.1.ports; close = x.1.close })
ports_gives p (t.sign t.close_paren) = λ ts r h. (
  [],
  record {
    last = token p (t.sign t.close_paren) ∷ ts;
    ports = g.no_port;
    close =
        subst (λ z. IsSign (token p (t.sign t.close_paren) ∷ ts) t.close_paren z) h (one_sign p t.close_paren ts);
  },
)
ports_gives p _ = tt

parts_gives : (p : ℕ) (k : t.Kind) → Gives (next s.parts k) (λ ts r. L s.parts (token p k ∷ ts) r)
parts_gives p (t.sign t.comma) = λ ts r h. let x = fin s.parts h.0 r h.2 in (h.1.0 ∷ x.0, x.1, g.next_part (one_sign p t.comma ts) h.1.1 x.2, x.3)
parts_gives p (t.sign t.close_brace) = λ ts r h. (
  [],
  token p (t.sign t.close_brace) ∷ ts,
  g.no_part,
  subst (λ z. IsSign (token p (t.sign t.close_brace) ∷ ts) t.close_brace z) h (one_sign p t.close_brace ts),
)
parts_gives p _ = tt

two_gives : (p : ℕ) (op : Op2) (ts r : List t.Token) → Ls (s.operand ∷ s.sign t.semicolon ∷ []) ts r → L s.after_operand (token p (t.sign (binary_sign op)) ∷ ts) r
two_gives p op ts r h us x o = (
  item.two op x h.1.0,
  record { last = _; right = g.two op o (one_sign p (binary_sign op) ts) h.1.1; close = fin (s.sign t.semicolon) h.0 r h.2 },
)

after_operand_gives : (p : ℕ) (k : t.Kind) → Gives (next s.after_operand k) (λ ts r. L s.after_operand (token p k ∷ ts) r)
after_operand_gives p (t.sign t.semicolon) =
    λ ts r h us x o. (
      item.copy x,
      record {
        last = _;
        right = g.copy o;
        close =
            subst (λ z. IsSign (token p (t.sign t.semicolon) ∷ ts) t.semicolon z) h (one_sign p t.semicolon ts);
      },
    )
after_operand_gives p (t.sign t.question) =
    λ ts r h us x o. (
      item.choose x h.1.0 h.2.2.1.0,
      record { last = _; right = g.choose o (one_sign p t.question ts) h.1.1 h.2.1 h.2.2.1.1; close = fin (s.sign t.semicolon) h.2.2.0 r h.2.2.2 },
    )
after_operand_gives p (t.sign t.plus) = two_gives p binary.Add
after_operand_gives p (t.sign t.minus) = two_gives p binary.Sub
after_operand_gives p (t.sign t.star) = two_gives p binary.Mul
after_operand_gives p (t.sign t.ampersand) = two_gives p binary.And
after_operand_gives p (t.sign t.bar) = two_gives p binary.Or
after_operand_gives p (t.sign t.caret) = two_gives p binary.Xor
after_operand_gives p (t.sign t.equal) = two_gives p binary.Eq
after_operand_gives p (t.sign t.not_equal) = two_gives p binary.Ne
after_operand_gives p (t.sign t.less) = two_gives p binary.Lt
after_operand_gives p (t.sign t.less_or_equal) = two_gives p binary.Le
after_operand_gives p (t.sign t.shift_left) = two_gives p binary.Shl
after_operand_gives p (t.sign t.shift_right) = two_gives p binary.Shr
after_operand_gives p _ = tt

after_name_gives : (p : ℕ) (k : t.Kind) → Gives (next s.after_name k) (λ ts r. L s.after_name (token p k ∷ ts) r)
after_name_gives p (t.sign t.open_bracket) = λ ts r h us x o. fin s.after_bracket ts r h us (token p (t.sign t.open_bracket) ∷ ts) x o (one_sign p t.open_bracket ts)
after_name_gives p k = gives_also (next s.after_operand k) (λ ts r. L s.after_operand (token p k ∷ ts) r) (λ ts r. L s.after_name (token p k ∷ ts) r) (after_operand_gives p k)
    (λ ts r h us x o. h us (item.named x) (g.name o))

after_bracket_gives : (p : ℕ) (k : t.Kind) → Gives (next s.after_bracket k) (λ ts r. L s.after_bracket (token p k ∷ ts) r)
after_bracket_gives p (t.name x) = λ ts r h us m y a b. (
  item.cell y (item.named (record { place = p; name = x })),
  record { last = _; right = g.cell a b (g.name (one_name p x ts)) h.1; close = fin (s.sign t.semicolon) h.0 r h.2 },
)
after_bracket_gives p (t.number x n) = λ ts r h us m y a b. (
  item.slice y x h.2.1.0.value,
  record { last = _; right = g.slice a b (one_number p x n ts) h.1 h.2.1.1 h.2.2.1; close = fin (s.sign t.semicolon) h.2.2.0 r h.2.2.2 },
)
after_bracket_gives p (t.constant x n) =
    λ ts r h us m y a b. (
      item.cell y (item.constant (record { place = p; width = x; value = n })),
      record { last = _; right = g.cell a b (g.constant (one_constant p x n ts)) h.1; close = fin (s.sign t.semicolon) h.0 r h.2 },
    )
after_bracket_gives p _ = tt

one_gives : (p : ℕ) (op : Op1) (ts r : List t.Token) → Ls (s.operand ∷ s.sign t.semicolon ∷ []) ts r → L s.right (token p (t.sign (unary_sign op)) ∷ ts) r
one_gives p op ts r h = (
  item.one op h.1.0,
  record { last = _; right = g.one op (one_sign p (unary_sign op) ts) h.1.1; close = fin (s.sign t.semicolon) h.0 r h.2 },
)

right_gives : (p : ℕ) (k : t.Kind) → Gives (next s.right k) (λ ts r. L s.right (token p k ∷ ts) r)
right_gives p (t.sign t.tilde) = one_gives p unary.Not
right_gives p (t.sign t.minus) = one_gives p unary.Neg
right_gives p (t.sign t.ampersand) = one_gives p unary.AllOnes
right_gives p (t.sign t.bar) = one_gives p unary.AnyOne
right_gives p (t.sign t.caret) = one_gives p unary.Odd
right_gives p (t.sign t.open_brace) = λ ts r h. (
  item.concat (h.1.0 ∷ h.2.2.1.0 ∷ h.2.2.2.1.0),
  record { last = _; right = g.concat (one_sign p t.open_brace ts) h.1.1 h.2.1 h.2.2.1.1 h.2.2.2.1.2 h.2.2.2.1.3; close = fin (s.sign t.semicolon) h.2.2.2.0 r h.2.2.2.2 },
)
right_gives p (t.name x) = λ ts r h. fin s.after_name ts r h (token p (t.name x) ∷ ts) (record { place = p; name = x }) (one_name p x ts)
right_gives p (t.constant x n) = λ ts r h. fin s.after_operand ts r h (token p (t.constant x n) ∷ ts)
    (item.constant (record { place = p; width = x; value = n })) (g.constant (one_constant p x n ts))
right_gives p _ = tt

clocked_gives : (p : ℕ) (k : t.Kind) → Gives (next s.clocked k) (λ ts r. IsClocked (token p k ∷ ts) r)
clocked_gives p k =
    push_gives (s.word_next t.always_word k) _ (λ ts r. IsWord (token p k ∷ ts) t.always_word r) (λ ts r. IsClocked (token p k ∷ ts) r) (words_give p t.always_word k)
    (λ ts r m a h. g.clocked a h.1 h.2.1 h.2.2.1 h.2.2.2.1 (fin (s.sign t.close_paren) h.2.2.2.0 r h.2.2.2.2))

loop_gives : (p : ℕ) (k : t.Kind) → Gives (next s.loop k) (λ ts r. L s.loop (token p k ∷ ts) r)
loop_gives p k =
    push_gives (s.word_next t.for_word k) _ (λ ts r. IsWord (token p k ∷ ts) t.for_word r) (λ ts r. L s.loop (token p k ∷ ts) r) (words_give p t.for_word k)
    (λ ts r m a h.
    let i = h.2 in let j = i.2.2.2 in let k = j.2.2.2 in let l = k.2.2.2 in let n = l.2.2 in
    (i.1.place, k.1.0, g.loop a h.1 i.1.is i.2.1 i.2.2.1 j.1 j.2.1 j.2.2.1 k.1.1 k.2.1 k.2.2.1 l.1 l.2.1 n.1 n.2.1 (fin (s.sign t.close_paren) n.2.0 r n.2.2)))

after_register_gives : (p : ℕ) (k : t.Kind) → Gives (next s.after_register k) (λ ts r. L s.after_register (token p k ∷ ts) r)
after_register_gives p (t.sign t.semicolon) =
    λ ts r h us a b n x w m o. (item.register n x, g.register w m o (subst (λ z. IsSign (token p (t.sign t.semicolon) ∷ ts) t.semicolon z) h (one_sign p t.semicolon ts)))
after_register_gives p (t.sign t.open_bracket) =
    λ ts r h us a b n x w m o. (
      item.memory n x h.2.2.1.0,
      g.memory w m o (one_sign p t.open_bracket ts) h.1 h.2.1 h.2.2.1.1 h.2.2.2.1 (fin (s.sign t.semicolon) h.2.2.2.0 r h.2.2.2.2),
    )
after_register_gives p _ = tt

cells_gives : (p : ℕ) (k : t.Kind) → Gives (s.cells_next k) (λ ts r. L s.after_initial (token p k ∷ ts) r)
cells_gives p k =
    push_gives (s.loop_next k) _ (λ ts r. L s.loop (token p k ∷ ts) r) (λ ts r. L s.after_initial (token p k ∷ ts) r) (loop_gives p k)
    (λ ts r m a h us w.
    let i = h.2.2.2 in
    (item.initial_cells a.0 a.1 h.1.0 i.2.2.1.0, g.initial_cells w a.2 h.1.1 h.2.1 h.2.2.1 i.1 i.2.1 i.2.2.1.1 (fin (s.sign t.semicolon) i.2.2.0 r i.2.2.2)))

after_initial_gives : (p : ℕ) (k : t.Kind) → Gives (next s.after_initial k) (λ ts r. L s.after_initial (token p k ∷ ts) r)
after_initial_gives p (t.name x) = λ ts r h us w. (
  item.initial (record { place = p; name = x }) h.2.1.0,
  g.initial w (one_name p x ts) h.1 h.2.1.1 (fin (s.sign t.semicolon) h.2.0 r h.2.2),
)
after_initial_gives p k = cells_gives p k

write_gives : (p : ℕ) (k : t.Kind) → Gives (s.write_next k) (λ ts r. L s.after_clock (token p k ∷ ts) r)
write_gives p k =
    push_gives (s.word_next t.if_word k) _ (λ ts r. IsWord (token p k ∷ ts) t.if_word r) (λ ts r. L s.after_clock (token p k ∷ ts) r) (words_give p t.if_word k)
    (λ ts r m a h us w.
    let i = h.2.2.2 in let j = i.2.2.2 in (
      item.always_cell h.2.1.0 i.1.0 i.2.2.1.0 j.2.2.1.0,
      g.always_cell w a h.1 h.2.1.1 h.2.2.1 i.1.1 i.2.1 i.2.2.1.1 j.1 j.2.1 j.2.2.1.1 (fin (s.sign t.semicolon) j.2.2.0 r j.2.2.2),
    ))

after_clock_gives : (p : ℕ) (k : t.Kind) → Gives (next s.after_clock k) (λ ts r. L s.after_clock (token p k ∷ ts) r)
after_clock_gives p (t.name x) = λ ts r h us w. (
  item.always (record { place = p; name = x }) h.2.1.0,
  g.always w (one_name p x ts) h.1 h.2.1.1 (fin (s.sign t.semicolon) h.2.0 r h.2.2),
)
after_clock_gives p k = write_gives p k

always_gives : (p : ℕ) (k : t.Kind) → Gives (push (s.clocked_next k) (s.after_clock ∷ [])) (λ ts r. L s.item (token p k ∷ ts) r)
always_gives p k =
    push_gives (s.clocked_next k) (s.after_clock ∷ []) (λ ts r. IsClocked (token p k ∷ ts) r) (λ ts r. L s.item (token p k ∷ ts) r) (clocked_gives p k)
    (λ ts r m a h. fin s.after_clock m r h (token p k ∷ ts) a)

item_gives : (p : ℕ) (k : t.Kind) → Gives (next s.item k) (λ ts r. L s.item (token p k ∷ ts) r)
item_gives p (t.word t.wire_word) = λ ts r h. (item.wire h.1.0 h.2.1.0, g.wire (one_word p t.wire_word ts) h.1.1 h.2.1.1 (fin (s.sign t.semicolon) h.2.0 r h.2.2))
item_gives p (t.word t.reg_word) = λ ts r h. fin s.after_register h.2.0 r h.2.2 (token p (t.word t.reg_word) ∷ ts) ts h.0 h.1.0 h.2.1.0 (one_word p t.reg_word ts) h.1.1 h.2.1.1
item_gives p (t.word t.integer_word) = λ ts r h. (item.integer p, g.integer (record { parts = refl }) h.1 (fin (s.sign t.semicolon) h.0 r h.2))
item_gives p (t.word t.assign_word) = λ ts r h. let x = fin s.right h.2.0 r h.2.2 in (item.assign h.1.0 x.0, g.assign (one_word p t.assign_word ts) h.1.1 h.2.1 x.1.right x.1.close)
item_gives p (t.word t.initial_word) = λ ts r h. fin s.after_initial ts r h (token p (t.word t.initial_word) ∷ ts) (one_word p t.initial_word ts)
item_gives p k = always_gives p k

more_gives : (p : ℕ) (k : t.Kind) → Gives (push (s.item_next k) (s.items ∷ [])) (λ ts r. L s.items (token p k ∷ ts) r)
more_gives p k =
    push_gives (s.item_next k) (s.items ∷ []) (λ ts r. L s.item (token p k ∷ ts) r) (λ ts r. L s.items (token p k ∷ ts) r) (item_gives p k)
    (λ ts r m a h. let x = fin s.items m r h in (a.0 ∷ x.0, record { last = x.1.last; items = g.next_item a.1 x.1.items; close = x.1.close }))

items_gives : (p : ℕ) (k : t.Kind) → Gives (next s.items k) (λ ts r. L s.items (token p k ∷ ts) r)
items_gives p (t.word t.endmodule_word) =
    λ ts r h. (
      [],
      record {
        last = token p (t.word t.endmodule_word) ∷ ts;
        items = g.no_item;
        close =
            subst (λ z. IsWord (token p (t.word t.endmodule_word) ∷ ts) t.endmodule_word z) (fin s.end ts r h) (one_word p t.endmodule_word ts);
      },
    )
items_gives p k = more_gives p k

file_gives : (p : ℕ) (k : t.Kind) → Gives (next s.file k) (λ ts r. L s.file (token p k ∷ ts) r)
file_gives p k =
    push_gives (s.word_next t.module_word k) _ (λ ts r. IsWord (token p k ∷ ts) t.module_word r) (λ ts r. L s.file (token p k ∷ ts) r) (words_give p t.module_word k)
    (λ ts r m a h.
    let i = h.2.2.2 in let ps = i.2.1.1 in let x = fin s.items i.2.2.0 r i.2.2.2 in
    (record { module_name = h.1.0.name; ports = i.2.1.0; items = x.0 }, g.file a h.1.1 h.2.1 h.2.2.1 i.1 ps.ports ps.close i.2.2.1 x.1.items x.1.close))

gives : (x : Symbol) (p : ℕ) (k : t.Kind) → Gives (next x k) (λ ts r. L x (token p k ∷ ts) r)
gives (s.sign j) p k = sign_gives p j k
gives (s.word j) p k = words_give p j k
gives (s.digit n) p k = digit_gives p n k
gives s.end p k = tt
gives s.name p k = name_gives p k
gives s.number p k = number_gives p k
gives s.constant p k = constant_gives p k
gives s.operand p k = operand_gives p k
gives s.range p k = range_gives p k
gives s.output_kind p k = kind_gives p k
gives s.port p k = port_gives p k
gives s.ports p k = ports_gives p k
gives s.parts p k = parts_gives p k
gives s.right p k = right_gives p k
gives s.after_operand p k = after_operand_gives p k
gives s.after_name p k = after_name_gives p k
gives s.after_bracket p k = after_bracket_gives p k
gives s.loop p k = loop_gives p k
gives s.clocked p k = clocked_gives p k
gives s.after_register p k = after_register_gives p k
gives s.after_initial p k = after_initial_gives p k
gives s.after_clock p k = after_clock_gives p k
gives s.item p k = item_gives p k
gives s.items p k = items_gives p k
gives s.file p k = file_gives p k

-- the shortest way to spell each symbol

abbrev Least : Symbol → Type 0
Least x = (ts : List t.Token) × ((rest : List t.Token) → L x (ts ++ rest) rest)

abbrev sg : t.Sign → t.Token
sg j = token 0 (t.sign j)

abbrev wd : t.Word → t.Token
wd j = token 0 (t.word j)

abbrev nm : t.Token
nm = token 0 (t.name [])

abbrev some_name : item.Mention
some_name = record { place = 0; name = [] }

abbrev num : ℕ → t.Token
num n = token 0 (t.number n 1)

abbrev some_number : item.Number
some_number = record { place = 0; value = 0 }

abbrev con : t.Token
con = token 0 (t.constant 0 0)

abbrev some_constant : item.Constant
some_constant = record { place = 0; width = 0; value = 0 }

a_sign : (j : t.Sign) (ts : List t.Token) → IsSign (sg j ∷ ts) j ts
a_sign j ts = one_sign 0 j ts

a_word : (j : t.Word) (ts : List t.Token) → IsWord (wd j ∷ ts) j ts
a_word j ts = one_word 0 j ts

a_name : (ts : List t.Token) → IsName (nm ∷ ts) some_name ts
a_name ts = one_name 0 [] ts

a_number : (ts : List t.Token) → IsNumber (num 0 ∷ ts) some_number ts
a_number ts = one_number 0 0 1 ts

a_digit : (n : ℕ) (ts : List t.Token) → IsDigit (num n ∷ ts) n ts
a_digit n ts = one_digit 0 n ts

a_constant : (ts : List t.Token) → IsConstant (con ∷ ts) some_constant ts
a_constant ts = one_constant 0 0 0 ts

a_range : (ts : List t.Token) → IsRange (sg t.open_bracket ∷ num 0 ∷ sg t.colon ∷ num 0 ∷ sg t.close_bracket ∷ ts) some_number ts
a_range ts = g.range (a_sign t.open_bracket _) (a_number _) (a_sign t.colon _) (a_digit 0 _) (a_sign t.close_bracket _)

least : (x : Symbol) → Least x
least (s.sign j) = (sg j ∷ [], λ rest. a_sign j rest)
least (s.word j) = (wd j ∷ [], λ rest. a_word j rest)
least (s.digit n) = (num n ∷ [], λ rest. a_digit n rest)
least s.name = (nm ∷ [], λ rest. (some_name, a_name rest))
least s.number = (num 0 ∷ [], λ rest. (some_number, a_number rest))
least s.constant = (con ∷ [], λ rest. (some_constant, a_constant rest))
least s.operand = (nm ∷ [], λ rest. (item.named some_name, g.name (a_name rest)))
least s.range = (sg t.open_bracket ∷ num 0 ∷ sg t.colon ∷ num 0 ∷ sg t.close_bracket ∷ [], λ rest. (some_number, a_range rest))
least s.output_kind = (wd t.reg_word ∷ [], λ rest. inl (a_word t.reg_word rest))
least s.port = (
  wd t.input_word ∷ sg t.open_bracket ∷ num 0 ∷ sg t.colon ∷ num 0 ∷ sg t.close_bracket ∷ nm ∷ [],
  λ rest. (record { direction = item.input; range = some_number; name = some_name }, g.input (a_word t.input_word _) (a_range _) (a_name rest)),
)
least s.ports = (sg t.close_paren ∷ [], λ rest. ([], record { last = _; ports = g.no_port; close = a_sign t.close_paren rest }))
least s.parts = (sg t.close_brace ∷ [], λ rest. ([], sg t.close_brace ∷ rest, g.no_part, a_sign t.close_brace rest))
least s.right = (nm ∷ sg t.semicolon ∷ [], λ rest. (item.copy (item.named some_name), record { last = _; right = g.copy (g.name (a_name _)); close = a_sign t.semicolon rest }))
least s.after_operand = (sg t.semicolon ∷ [], λ rest us x o. (item.copy x, record { last = _; right = g.copy o; close = a_sign t.semicolon rest }))
least s.after_name = (sg t.semicolon ∷ [], λ rest us x o. (item.copy (item.named x), record { last = _; right = g.copy (g.name o); close = a_sign t.semicolon rest }))
least s.after_bracket = (
  nm ∷ sg t.close_bracket ∷ sg t.semicolon ∷ [],
  λ rest us m x o b. (item.cell x (item.named some_name), record { last = _; right = g.cell o b (g.name (a_name _)) (a_sign t.close_bracket _); close = a_sign t.semicolon rest }),
)
least s.loop = (
  wd t.for_word ∷ sg t.open_paren ∷ wd t.i_word ∷ sg t.is ∷ num 0 ∷ sg t.semicolon ∷ wd t.i_word ∷ sg t.less ∷ num 0 ∷ sg t.semicolon
      ∷ wd t.i_word ∷ sg t.is ∷ wd t.i_word ∷ sg t.plus ∷ num 1 ∷ sg t.close_paren ∷ [],
  λ rest. (
    0,
    some_number,
    g.loop (a_word t.for_word _) (a_sign t.open_paren _) (record { parts = refl }) (a_sign t.is _) (a_digit 0 _) (a_sign t.semicolon _)
        (a_word t.i_word _) (a_sign t.less _) (a_number _) (a_sign t.semicolon _) (a_word t.i_word _) (a_sign t.is _) (a_word t.i_word _)
        (a_sign t.plus _) (a_digit 1 _) (a_sign t.close_paren rest),
  ),
)
least s.clocked = (
  wd t.always_word ∷ sg t.at ∷ sg t.open_paren ∷ wd t.posedge_word ∷ wd t.clk_word ∷ sg t.close_paren ∷ [],
  λ rest. g.clocked (a_word t.always_word _) (a_sign t.at _) (a_sign t.open_paren _) (a_word t.posedge_word _) (a_word t.clk_word _) (a_sign t.close_paren rest),
)
least s.after_register = (sg t.semicolon ∷ [], λ rest us a b n x w m o. (item.register n x, g.register w m o (a_sign t.semicolon rest)))
least s.after_initial = (
  nm ∷ sg t.is ∷ con ∷ sg t.semicolon ∷ [],
  λ rest us w. (item.initial some_name some_constant, g.initial w (a_name _) (a_sign t.is _) (a_constant _) (a_sign t.semicolon rest)),
)
least s.after_clock = (
  nm ∷ sg t.less_or_equal ∷ nm ∷ sg t.semicolon ∷ [],
  λ rest us w. (item.always some_name (item.named some_name), g.always w (a_name _) (a_sign t.less_or_equal _) (g.name (a_name _)) (a_sign t.semicolon rest)),
)
least s.item =
    (wd t.integer_word ∷ wd t.i_word ∷ sg t.semicolon ∷ [], λ rest. (item.integer 0, g.integer (record { parts = refl }) (a_word t.i_word _) (a_sign t.semicolon rest)))
least s.items = (wd t.endmodule_word ∷ [], λ rest. ([], record { last = _; items = g.no_item; close = a_word t.endmodule_word rest }))
least s.end = ([], λ rest. refl)
least s.file = (
  wd t.module_word ∷ nm ∷ sg t.open_paren ∷ wd t.input_word ∷ wd t.clk_word ∷ sg t.close_paren ∷ sg t.semicolon ∷ wd t.endmodule_word ∷ [],
  λ rest. (
    record { module_name = []; ports = []; items = [] },
    g.file (a_word t.module_word _) (a_name _) (a_sign t.open_paren _) (a_word t.input_word _) (a_word t.clk_word _) g.no_port
        (a_sign t.close_paren _) (a_sign t.semicolon _) g.no_item (a_word t.endmodule_word rest),
  ),
)

-- so tokens that the walk takes go on

abbrev Lang : Symbol → Point grammar → Point grammar → Type 0
Lang x p q = L x p.left q.left

plainly : (σ : List Symbol) (p r : Point grammar) → spelling.Langs grammar Lang σ p r → Ls σ p.left r.left
plainly [] p r h = ap (λ (p : Point grammar). p.left) h
plainly (x ∷ σ) p r h = (h.0.left, h.1, plainly σ h.0 r h.2)

given : (n : Row) (P : List t.Token → List t.Token → Type 0) (role : Unit {0}) (σ : List Symbol) → Gives n P → n ≡ begins role σ → (ts r : List t.Token) → Ls σ ts r → P ts r
given n P role σ h e = subst (λ n. Gives n P) e h

spells : spelling.Spells grammar Lang
spells = record {
  keeps = λ x y ts past q r role σ e f h. given (next x y.kind) (λ ts r. L x (token y.place y.kind ∷ ts) r) role σ (gives x y.place y.kind)
      e ts r.left (plainly σ (record { past = q; left = ts }) r h);
  empties = λ x y p e. absurd (never_skips x y.kind e);
  least = λ x past. ((least x).0, past, (least x).1);
}

pub goes_on : {front : List t.Token} {q : Unit {0}} {σ : List Symbol} → Runs grammar front tt (s.file ∷ []) q σ → (more : List t.Token)
    × (f : item.File) × IsFile (front ++ more) f []
goes_on {front} h =
    let a = spelling.goes_on grammar Lang spells h in
    let f = fin s.file (front ++ a.0) [] (plainly (s.file ∷ []) (record { past = tt; left = front ++ a.0 }) (record { past = a.1; left = [] }) a.2) in
    (a.0, f.0, f.1)
