-- A list of tokens is at most one file.
use Rattle.std.proofs.Common.{◌≡◌, ℕ, List, Option, Some, None, refl, sym, ap, ◌∙◌}
use Rattle.sap_bits.specs.declared.Op1.{Op1}
use Rattle.sap_bits.specs.declared.Op1.TheVariants as unary
use Rattle.sap_bits.specs.declared.Op2.{Op2}
use Rattle.sap_bits.specs.declared.Op2.TheVariants as binary
use Rattle.sap_vtext.specs.Tokens.{Sign, Kind, Token, IsToken}
use Rattle.sap_vtext.specs.Tokens as t
use Rattle.sap_vtext.specs.Items.{Mention, Number, Operand, Right, Direction, Port, Item, File}
use Rattle.sap_vtext.specs.Items as item
use Rattle.sap_vtext.specs.Grammar as g
use Rattle.sap_vtext.specs.Grammar.{IsWord, IsSign, IsName, unary_sign, binary_sign, IsOperand, IsRange, IsPort, ArePorts, AreParts, IsRight, IsClocked, IsLoop, IsItem, AreItems, IsFile}
use Rattle.sap_vtext.proofs.Tokens.{first_kind, others_of, kind_first, others_are, same_token, after_word, after_sign, after_digit, one_sign, Same, one_name, one_number, one_constant}

operand_one : {ts us r s : List Token} {x y : Operand} → ts ≡ us → IsOperand ts x r → IsOperand us y s → Same x y r s
operand_one e (g.name a) (g.name b) = let w = one_name e a b in record { is = ap item.named w.is; others = w.others }
operand_one e (g.constant a) (g.constant b) = let w = one_constant e a b in record { is = ap item.constant w.is; others = w.others }
operand_one e (g.name a) (g.constant b) = let k = (same_token e a b).kind in absurd (cc)
operand_one e (g.constant a) (g.name b) = let k = (same_token e a b).kind in absurd (cc)

range_one : {ts us r s : List Token} {x y : Number} → ts ≡ us → IsRange ts x r → IsRange us y s → Same x y r s
range_one e (g.range a b c d z) (g.range a' b' c' d' z') =
    let n = one_number (after_sign e a a') b b' in
    record { is = n.is; others = after_sign (after_digit (after_sign n.others c c') d d') z z' }

port_same : (d : Direction) {m n : Number} {x y : Mention} → m ≡ n → x ≡ y
    → (let p : Port = record { direction = d; range = m; name = x } in p) ≡ (let q : Port = record { direction = d; range = n; name = y } in q)
port_same d {m} {n} {x} {y} u v =
    ap (λ z. let p : Port = record { direction = d; range = z; name = x } in p) u ∙ ap (λ z. let p : Port = record { direction = d; range = n; name = z } in p) v

port_one : {ts us r s : List Token} {x y : Port} → ts ≡ us → IsPort ts x r → IsPort us y s → Same x y r s
port_one e (g.input a b c) (g.input a' b' c') =
    let n = range_one (after_word e a a') b b' in
    let x = one_name n.others c c' in
    record { is = port_same item.input n.is x.is; others = x.others }
port_one e (g.output_reg a b c d) (g.output_reg a' b' c' d') =
    let n = range_one (after_word (after_word e a a') b b') c c' in
    let x = one_name n.others d d' in
    record { is = port_same item.output_register n.is x.is; others = x.others }
port_one e (g.output_wire a b c d) (g.output_wire a' b' c' d') =
    let n = range_one (after_word (after_word e a a') b b') c c' in
    let x = one_name n.others d d' in
    record { is = port_same item.output_wire n.is x.is; others = x.others }
port_one e (g.input a b c) (g.output_reg a' b' c' d') = let k = (same_token e a.is a'.is).kind in absurd (cc)
port_one e (g.input a b c) (g.output_wire a' b' c' d') = let k = (same_token e a.is a'.is).kind in absurd (cc)
port_one e (g.output_reg a b c d) (g.input a' b' c') = let k = (same_token e a.is a'.is).kind in absurd (cc)
port_one e (g.output_wire a b c d) (g.input a' b' c') = let k = (same_token e a.is a'.is).kind in absurd (cc)
port_one e (g.output_reg a b c d) (g.output_wire a' b' c' d') = let k = (same_token (after_word e a a') b.is b'.is).kind in absurd (cc)
port_one e (g.output_wire a b c d) (g.output_reg a' b' c' d') = let k = (same_token (after_word e a a') b.is b'.is).kind in absurd (cc)

-- the lists end before the sign that closes them
ports_one : {ts us r s m n : List Token} {xs ys : List Port} → ts ≡ us → ArePorts ts xs r → IsSign r t.close_paren m → ArePorts us ys s → IsSign s t.close_paren n
    → Same xs ys r s
ports_one e g.no_port h g.no_port h' = record { is = refl; others = e }
ports_one e g.no_port h (g.next_port a b c) h' = let k = one_sign e h a in absurd (cc)
ports_one e (g.next_port a b c) h g.no_port h' = let k = one_sign e a h' in absurd (cc)
ports_one e (g.next_port a b c) h (g.next_port a' b' c') h' =
    let x = port_one (after_sign e a a') b b' in
    let xs = ports_one x.others c h c' h' in
    let p = x.is in let q = xs.is in
    record { is = cc; others = xs.others }

parts_one : {ts us r s m n : List Token} {xs ys : List Operand} → ts ≡ us → AreParts ts xs r → IsSign r t.close_brace m → AreParts us ys s → IsSign s t.close_brace n
    → Same xs ys r s
parts_one e g.no_part h g.no_part h' = record { is = refl; others = e }
parts_one e g.no_part h (g.next_part a b c) h' = let k = one_sign e h a in absurd (cc)
parts_one e (g.next_part a b c) h g.no_part h' = let k = one_sign e a h' in absurd (cc)
parts_one e (g.next_part a b c) h (g.next_part a' b' c') h' =
    let x = operand_one (after_sign e a a') b b' in
    let xs = parts_one x.others c h c' h' in
    let p = x.is in let q = xs.is in
    record { is = cc; others = xs.others }

unary_same : (o p : Op1) → unary_sign o ≡ unary_sign p → o ≡ p
unary_same unary.Not unary.Not e = refl
unary_same unary.Neg unary.Neg e = refl
unary_same unary.AllOnes unary.AllOnes e = refl
unary_same unary.AnyOne unary.AnyOne e = refl
unary_same unary.Odd unary.Odd e = refl
unary_same o p e = absurd (cc)

-- an operator back from its sign
operator_of : Sign → Option Op2
operator_of t.plus = Some binary.Add
operator_of t.minus = Some binary.Sub
operator_of t.star = Some binary.Mul
operator_of t.ampersand = Some binary.And
operator_of t.bar = Some binary.Or
operator_of t.caret = Some binary.Xor
operator_of t.equal = Some binary.Eq
operator_of t.not_equal = Some binary.Ne
operator_of t.less = Some binary.Lt
operator_of t.less_or_equal = Some binary.Le
operator_of t.shift_left = Some binary.Shl
operator_of t.shift_right = Some binary.Shr
operator_of _ = None

operator_is : (o : Op2) → operator_of (binary_sign o) ≡ Some o
unfolding operator_of
operator_is binary.Add = refl
operator_is _ = refl

binary_same : (o p : Op2) → binary_sign o ≡ binary_sign p → o ≡ p
binary_same o p e = let v = operator_is o in let w = operator_is p in let u = ap operator_of e in cc

-- which right side begins with these three tokens
behind_sign : Sign → Option Kind → ℕ
behind_sign t.semicolon k = 0
behind_sign t.question k = 1
behind_sign t.open_bracket (Some (t.number n d)) = 2
behind_sign t.open_bracket _ = 3
behind_sign _ k = 4

behind_operand : Option Kind → Option Kind → ℕ
unfolding behind_sign
behind_operand (Some (t.sign s)) k = behind_sign s k
behind_operand _ k = 7

from_sign : Sign → ℕ
from_sign t.open_brace = 5
from_sign _ = 6

tag_of : Option Kind → Option Kind → Option Kind → ℕ
unfolding behind_operand from_sign
tag_of (Some (t.sign s)) second third = from_sign s
tag_of _ second third = behind_operand second third

right_tag : List Token → ℕ
right_tag ts = tag_of (first_kind ts) (first_kind (others_of ts)) (first_kind (others_of (others_of ts)))

abbrev tag : {ts r : List Token} {x : Right} → IsRight ts x r → ℕ
tag (g.copy a) = 0
tag (g.choose a b c d e) = 1
tag (g.slice a b c d e f) = 2
tag (g.cell a b c d) = 3
tag (g.two o a b c) = 4
tag (g.concat a b c d e f) = 5
tag (g.one o a b) = 6

tag_from : (ts : List Token) {j k l : Option Kind} → first_kind ts ≡ j → first_kind (others_of ts) ≡ k → first_kind (others_of (others_of ts)) ≡ l → right_tag ts ≡ tag_of j k l
unfolding right_tag
tag_from ts a b c = cc

second_is : {ts m r : List Token} {p q : ℕ} {j k : Kind} → IsToken ts p j m → IsToken m q k r → first_kind (others_of ts) ≡ Some k
second_is a b = ap first_kind (others_are a) ∙ kind_first b

third_is : {ts m r : List Token} {p q : ℕ} {j k : Kind} → IsToken ts p j m → IsToken m q k r → first_kind (others_of (others_of ts)) ≡ first_kind r
third_is a b = ap (λ z. first_kind (others_of z)) (others_are a) ∙ ap first_kind (others_are b)

-- the first token of an operand
record OperandToken (ts : List Token) (r : List Token) : Type 0 where
  place : ℕ
  kind : Kind
  is : IsToken ts place kind r
  tag : (k l : Option Kind) → tag_of (Some kind) k l ≡ behind_operand k l
  index : (k : Option Kind) → behind_operand (Some (t.sign t.open_bracket)) (Some kind) ≡ 3

operand_token : {ts r : List Token} {x : Operand} → IsOperand ts x r → OperandToken ts r
unfolding tag_of behind_operand behind_sign
operand_token (g.name {n = n} a) = record { place = n.place; kind = t.name n.name; is = a; tag = λ k l. refl; index = λ k. refl }
operand_token (g.constant {c = c} a) = record { place = c.place; kind = t.constant c.width c.value; is = a; tag = λ k l. refl; index = λ k. refl }

sign_behind : (o : Op2) (k : Option Kind) → behind_operand (Some (t.sign (binary_sign o))) k ≡ 4
unfolding behind_operand behind_sign
sign_behind binary.Add k = refl
sign_behind _ k = refl

sign_in_front : (o : Op1) (k l : Option Kind) → tag_of (Some (t.sign (unary_sign o))) k l ≡ 6
unfolding tag_of from_sign
sign_in_front unary.Not k l = refl
sign_in_front _ k l = refl

tag_is : {ts r m : List Token} {x : Right} (h : IsRight ts x r) → IsSign r t.semicolon m → right_tag ts ≡ tag h
unfolding tag_of behind_operand behind_sign from_sign
tag_is (g.copy a) z =
    let w = operand_token a in
    tag_from _ (kind_first w.is) (second_is w.is z.is) refl ∙ w.tag _ _
tag_is (g.choose a b c d e) z =
    let w = operand_token a in
    tag_from _ (kind_first w.is) (second_is w.is b.is) refl ∙ w.tag _ _
tag_is (g.slice a b c d e f) z = tag_from _ (kind_first a) (second_is a b.is) (third_is a b.is ∙ kind_first c.is)
tag_is (g.cell a b c d) z =
    let w = operand_token c in
    tag_from _ (kind_first a) (second_is a b.is) (third_is a b.is ∙ kind_first w.is) ∙ w.index (Some w.kind)
tag_is (g.two o a b c) z =
    let w = operand_token a in
    tag_from _ (kind_first w.is) (second_is w.is b.is) refl ∙ w.tag _ _ ∙ sign_behind o _
tag_is {ts} (g.concat a b c d e f) z = tag_from ts (kind_first a.is) refl refl
tag_is {ts} (g.one o a b) z = tag_from ts (kind_first a.is) refl refl ∙ sign_in_front o (first_kind (others_of ts)) (first_kind (others_of (others_of ts)))

same_tag : {ts us r s m n : List Token} {x y : Right} → ts ≡ us → (h : IsRight ts x r) → IsSign r t.semicolon m → (i : IsRight us y s) → IsSign s t.semicolon n → tag h ≡ tag i
same_tag e h z i z' = sym (tag_is h z) ∙ ap right_tag e ∙ tag_is i z'

right_one : {ts us r s m n : List Token} {x y : Right} → ts ≡ us → IsRight ts x r → IsSign r t.semicolon m → IsRight us y s → IsSign s t.semicolon n → Same x y r s
right_one e (g.copy a) z (g.copy a') z' = let w = operand_one e a a' in record { is = ap item.copy w.is; others = w.others }
right_one e (g.two o a b c) z (g.two o' a' b' c') z' =
    let x = operand_one e a a' in
    let y = operand_one (after_sign x.others b b') c c' in
    let p = binary_same o o' (one_sign x.others b b') in let q = x.is in let r = y.is in
    record { is = cc; others = y.others }
right_one e (g.one o a b) z (g.one o' a' b') z' =
    let x = operand_one (after_sign e a a') b b' in
    let p = unary_same o o' (one_sign e a a') in let q = x.is in
    record { is = cc; others = x.others }
right_one e (g.choose a b c d f) z (g.choose a' b' c' d' f') z' =
    let x = operand_one e a a' in
    let y = operand_one (after_sign x.others b b') c c' in
    let w = operand_one (after_sign y.others d d') f f' in
    let p = x.is in let q = y.is in let r = w.is in
    record { is = cc; others = w.others }
right_one e (g.concat a b c d f h) z (g.concat a' b' c' d' f' h') z' =
    let x = operand_one (after_sign e a a') b b' in
    let y = operand_one (after_sign x.others c c') d d' in
    let w = parts_one y.others f h f' h' in
    let p = x.is in let q = y.is in let r = w.is in
    record { is = cc; others = after_sign w.others h h' }
right_one e (g.slice a b c d f h) z (g.slice a' b' c' d' f' h') z' =
    let x = one_name e a a' in
    let y = one_number (after_sign x.others b b') c c' in
    let w = one_number (after_sign y.others d d') f f' in
    let p = x.is in let q = ap (λ (v : Number). v.value) y.is in let r = ap (λ (v : Number). v.value) w.is in
    record { is = cc; others = after_sign w.others h h' }
right_one e (g.cell a b c d) z (g.cell a' b' c' d') z' =
    let x = one_name e a a' in
    let y = operand_one (after_sign x.others b b') c c' in
    let p = x.is in let q = y.is in
    record { is = cc; others = after_sign y.others d d' }
right_one e h z i z' = let w = same_tag e h z i z' in absurd (cc)

clocked_one : {ts us r s : List Token} → ts ≡ us → IsClocked ts r → IsClocked us s → r ≡ s
clocked_one e (g.clocked a b c d f z) (g.clocked a' b' c' d' f' z') =
    after_sign (after_word (after_word (after_sign (after_sign (after_word e a a') b b') c c') d d') f f') z z'

record SameLoop (p q : ℕ) (m n : Number) (r s : List Token) : Type 0 where
  place : p ≡ q
  bound : m ≡ n
  others : r ≡ s

loop_one : {ts us r s : List Token} {p q : ℕ} {m n : Number} → ts ≡ us → IsLoop ts p m r → IsLoop us q n s → SameLoop p q m n r s
loop_one e (g.loop a b c d f h i j k l m n o p q u) (g.loop a' b' c' d' f' h' i' j' k' l' m' n' o' p' q' u') =
    let x = same_token (after_sign (after_word e a a') b b') c c' in
    let y = one_number (after_sign (after_word (after_sign (after_digit (after_sign x.others d d') f f') h h') i i') j j') k k' in
    record {
      place = x.place;
      bound = y.is;
      others = after_sign (after_digit (after_sign (after_word (after_sign (after_word (after_sign y.others l l') m m') n n') o o') p p') q q') u u';
    }

-- which item begins with this token
item_tag : Option Kind → ℕ
item_tag (Some (t.word t.wire_word)) = 0
item_tag (Some (t.word t.reg_word)) = 1
item_tag (Some (t.word t.integer_word)) = 2
item_tag (Some (t.word t.assign_word)) = 3
item_tag (Some (t.word t.initial_word)) = 4
item_tag (Some (t.word t.always_word)) = 5
item_tag _ = 6

abbrev first_tag : {ts r : List Token} {x : Item} → IsItem ts x r → ℕ
first_tag (g.wire a b c d) = 0
first_tag (g.register a b c d) = 1
first_tag (g.memory a b c d e f h i j) = 1
first_tag (g.integer a b c) = 2
first_tag (g.assign a b c d e) = 3
first_tag (g.initial a b c d e) = 4
first_tag (g.initial_cells a b c d e f h i j) = 4
first_tag (g.always a b c d e) = 5
first_tag (g.always_cell a b c d e f h i j k l m) = 5

clocked_first : {ts r : List Token} → IsClocked ts r → first_kind ts ≡ Some (t.word t.always_word)
clocked_first (g.clocked a b c d f z) = kind_first a.is

first_tag_is : {ts r : List Token} {x : Item} (h : IsItem ts x r) → item_tag (first_kind ts) ≡ first_tag h
unfolding item_tag
first_tag_is (g.wire a b c d) = ap item_tag (kind_first a.is)
first_tag_is (g.register a b c d) = ap item_tag (kind_first a.is)
first_tag_is (g.memory a b c d e f h i j) = ap item_tag (kind_first a.is)
first_tag_is (g.integer a b c) = ap item_tag (kind_first a)
first_tag_is (g.assign a b c d e) = ap item_tag (kind_first a.is)
first_tag_is (g.initial a b c d e) = ap item_tag (kind_first a.is)
first_tag_is (g.initial_cells a b c d e f h i j) = ap item_tag (kind_first a.is)
first_tag_is (g.always a b c d e) = ap item_tag (clocked_first a)
first_tag_is (g.always_cell a b c d e f h i j k l m) = ap item_tag (clocked_first a)

loop_first : {ts r : List Token} {p : ℕ} {n : Number} → IsLoop ts p n r → first_kind ts ≡ Some (t.word t.for_word)
loop_first (g.loop a b c d f h i j k l m n o p q u) = kind_first a.is

-- two items that begin alike are told apart further on
not_initial : {ts us a b c d : List Token} {p : ℕ} {n : Number} {x : Mention} → ts ≡ us → IsWord ts t.initial_word a → IsName a x b
    → IsWord us t.initial_word c → IsLoop c p n d → ⊥
not_initial e a b c d = let q = ap first_kind (after_word e a c) in let k = kind_first b in let l = loop_first d in absurd (cc)

not_register : {ts us a b c d a' b' c' d' : List Token} {n n' : Number} {x x' : Mention} → ts ≡ us → IsWord ts t.reg_word a → IsRange a n b → IsName b x c → IsSign c t.semicolon d
    → IsWord us t.reg_word a' → IsRange a' n' b' → IsName b' x' c' → IsSign c' t.open_bracket d' → ⊥
not_register e a b c d a' b' c' d' =
    let n = range_one (after_word e a a') b b' in
    let x = one_name n.others c c' in
    let k = one_sign x.others d d' in absurd (cc)

not_always : {ts us a b c d : List Token} {x : Mention} → ts ≡ us → IsClocked ts a → IsName a x b → IsClocked us c → IsWord c t.if_word d → ⊥
not_always e a b c d = let k = (same_token (clocked_one e a c) b d.is).kind in absurd (cc)

item_one : {ts us r s : List Token} {x y : Item} → ts ≡ us → IsItem ts x r → IsItem us y s → Same x y r s
item_one e (g.wire a b c d) (g.wire a' b' c' d') =
    let n = range_one (after_word e a a') b b' in
    let x = one_name n.others c c' in
    let p = n.is in let q = x.is in
    record { is = cc; others = after_sign x.others d d' }
item_one e (g.register a b c d) (g.register a' b' c' d') =
    let n = range_one (after_word e a a') b b' in
    let x = one_name n.others c c' in
    let p = n.is in let q = x.is in
    record { is = cc; others = after_sign x.others d d' }
item_one e (g.memory a b c d f h i j k) (g.memory a' b' c' d' f' h' i' j' k') =
    let n = range_one (after_word e a a') b b' in
    let x = one_name n.others c c' in
    let l = one_number (after_sign (after_digit (after_sign x.others d d') f f') h h') i i' in
    let p = n.is in let q = x.is in let r = l.is in
    record { is = cc; others = after_sign (after_sign l.others j j') k k' }
item_one e (g.integer a b c) (g.integer a' b' c') =
    let x = same_token e a a' in
    record { is = ap item.integer x.place; others = after_sign (after_word x.others b b') c c' }
item_one e (g.assign a b c d f) (g.assign a' b' c' d' f') =
    let x = one_name (after_word e a a') b b' in
    let y = right_one (after_sign x.others c c') d f d' f' in
    let p = x.is in let q = y.is in
    record { is = cc; others = after_sign y.others f f' }
item_one e (g.initial a b c d f) (g.initial a' b' c' d' f') =
    let x = one_name (after_word e a a') b b' in
    let y = one_constant (after_sign x.others c c') d d' in
    let p = x.is in let q = y.is in
    record { is = cc; others = after_sign y.others f f' }
item_one e (g.initial_cells a b c d f h i j k) (g.initial_cells a' b' c' d' f' h' i' j' k') =
    let l = loop_one (after_word e a a') b b' in
    let x = one_name l.others c c' in
    let y = one_constant (after_sign (after_sign (after_word (after_sign x.others d d') f f') h h') i i') j j' in
    let o = l.place in let p = l.bound in let q = x.is in let r = y.is in
    record { is = cc; others = after_sign y.others k k' }
item_one e (g.always a b c d f) (g.always a' b' c' d' f') =
    let x = one_name (clocked_one e a a') b b' in
    let y = operand_one (after_sign x.others c c') d d' in
    let p = x.is in let q = y.is in
    record { is = cc; others = after_sign y.others f f' }
item_one e (g.always_cell a b c d f h i j k l m n) (g.always_cell a' b' c' d' f' h' i' j' k' l' m' n') =
    let w = operand_one (after_sign (after_word (clocked_one e a a') b b') c c') d d' in
    let x = one_name (after_sign w.others f f') h h' in
    let y = operand_one (after_sign x.others i i') j j' in
    let z = operand_one (after_sign (after_sign y.others k k') l l') m m' in
    let o = w.is in let p = x.is in let q = y.is in let r = z.is in
    record { is = cc; others = after_sign z.others n n' }
item_one e (g.register a b c d) (g.memory a' b' c' d' f' h' i' j' k') = absurd (not_register e a b c d a' b' c' d')
item_one e (g.memory a' b' c' d' f' h' i' j' k') (g.register a b c d) = absurd (not_register (sym e) a b c d a' b' c' d')
item_one e (g.initial a b c d f) (g.initial_cells a' b' c' d' f' h' i' j' k') = absurd (not_initial e a b a' b')
item_one e (g.initial_cells a' b' c' d' f' h' i' j' k') (g.initial a b c d f) = absurd (not_initial (sym e) a b a' b')
item_one e (g.always a b c d f) (g.always_cell a' b' c' d' f' h' i' j' k' l' m' n') = absurd (not_always e a b a' b')
item_one e (g.always_cell a' b' c' d' f' h' i' j' k' l' m' n') (g.always a b c d f) = absurd (not_always (sym e) a b a' b')
item_one e x y = let v = first_tag_is x in let w = first_tag_is y in let u = ap (λ ts. item_tag (first_kind ts)) e in absurd (cc)

no_end : {ts us r s : List Token} {x : Item} → ts ≡ us → IsItem ts x r → IsWord us t.endmodule_word s → ⊥
unfolding item_tag
no_end e x z = begins x (sym (first_tag_is x) ∙ ap (λ ts. item_tag (first_kind ts)) e ∙ ap item_tag (kind_first z.is)) where
  begins : {ts r : List Token} {x : Item} (h : IsItem ts x r) → first_tag h ≡ 6 → ⊥
  begins (g.wire a b c d) h = cc
  begins _ h = cc

items_one : {ts us r s m n : List Token} {xs ys : List Item} → ts ≡ us → AreItems ts xs r → IsWord r t.endmodule_word m → AreItems us ys s
    → IsWord s t.endmodule_word n → Same xs ys r s
items_one e g.no_item z g.no_item z' = record { is = refl; others = e }
items_one e g.no_item z (g.next_item a b) z' = absurd (no_end (sym e) a z)
items_one e (g.next_item a b) z g.no_item z' = absurd (no_end e a z')
items_one e (g.next_item a b) z (g.next_item a' b') z' =
    let x = item_one e a a' in
    let xs = items_one x.others b z b' z' in
    let p = x.is in let q = xs.is in
    record { is = cc; others = xs.others }

pub one_file : {ts us r s : List Token} {x y : File} → ts ≡ us → IsFile ts x r → IsFile us y s → x ≡ y
one_file e (g.file a b c d f h i j k l) (g.file a' b' c' d' f' h' i' j' k' l') =
    let x = one_name (after_word e a a') b b' in
    let ps = ports_one (after_word (after_word (after_sign x.others c c') d d') f f') h i h' i' in
    let xs = items_one (after_sign (after_sign ps.others i i') j j') k l k' l' in
    files_same (ap (λ (v : Mention). v.name) x.is) ps.is xs.is where
      files_same : {m n : List ℕ} {ps qs : List Port} {xs ys : List Item} → m ≡ n → ps ≡ qs → xs ≡ ys
          → (let v : File = record { module_name = m; ports = ps; items = xs } in v) ≡ (let w : File = record { module_name = n; ports = qs; items = ys } in w)
      files_same {m} {n} {ps} {qs} {xs} {ys} p q r =
          ap (λ z. let v : File = record { module_name = z; ports = ps; items = xs } in v) p
          ∙ ap (λ z. let v : File = record { module_name = n; ports = z; items = xs } in v) q
          ∙ ap (λ z. let v : File = record { module_name = n; ports = qs; items = z } in v) r
