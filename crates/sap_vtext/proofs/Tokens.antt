-- Two readings of the front of one list of tokens.
use Rattle.std.proofs.Common.{◌≡◌, ℕ, List, [], ◌∷◌, Option, Some, None, sym, ap, ◌∙◌}
use Rattle.sap_vtext.specs.Tokens.{Word, Sign, Kind, Token, IsToken}
use Rattle.sap_vtext.specs.Items.{Mention, Number, Constant}
use Rattle.sap_vtext.specs.Grammar.{IsWord, IsSign, IsName, IsNumber, IsDigit, IsConstant}

abbrev pub first_kind : List Token → Option Kind
first_kind [] = None
first_kind (t ∷ ts) = Some t.kind

abbrev front_place : List Token → ℕ
front_place [] = 0
front_place (t ∷ ts) = t.place

abbrev pub others_of : List Token → List Token
others_of [] = []
others_of (t ∷ ts) = ts

pub kind_first : {ts r : List Token} {p : ℕ} {k : Kind} → IsToken ts p k r → first_kind ts ≡ Some k
kind_first h = ap first_kind h.parts

pub others_are : {ts r : List Token} {p : ℕ} {k : Kind} → IsToken ts p k r → others_of ts ≡ r
others_are h = ap others_of h.parts

-- one token, and the same tokens behind it
pub record SameToken (p q : ℕ) (j k : Kind) (r s : List Token) : Type 0 where
  pub place : p ≡ q
  pub kind : j ≡ k
  pub others : r ≡ s

some_same : {j k : Kind} → Some j ≡ Some k → j ≡ k
some_same e = cc

pub same_token : {ts us r s : List Token} {p q : ℕ} {j k : Kind} → ts ≡ us → IsToken ts p j r → IsToken us q k s → SameToken p q j k r s
same_token e a b =
    let both = sym a.parts ∙ e ∙ b.parts in
    record { place = ap front_place both; kind = some_same (ap first_kind both); others = ap others_of both }

pub after_word : {ts us r s : List Token} {v w : Word} → ts ≡ us → IsWord ts v r → IsWord us w s → r ≡ s
after_word e a b = (same_token e a.is b.is).others

pub after_sign : {ts us r s : List Token} {v w : Sign} → ts ≡ us → IsSign ts v r → IsSign us w s → r ≡ s
after_sign e a b = (same_token e a.is b.is).others

pub after_digit : {ts us r s : List Token} {v w : ℕ} → ts ≡ us → IsDigit ts v r → IsDigit us w s → r ≡ s
after_digit e a b = (same_token e a.is b.is).others

pub one_sign : {ts us r s : List Token} {v w : Sign} → ts ≡ us → IsSign ts v r → IsSign us w s → v ≡ w
one_sign e a b = let k = (same_token e a.is b.is).kind in cc

-- two things that were read, and what is left behind them
pub record Same {A : Type 0} (x y : A) (r s : List Token) : Type 0 where
  pub is : x ≡ y
  pub others : r ≡ s

name_same : (m n : Mention) → m.place ≡ n.place → m.name ≡ n.name → m ≡ n
name_same m n p e = ap (λ q. let z : Mention = record { place = q; name = m.name } in z) p ∙ ap (λ x. let z : Mention = record { place = n.place; name = x } in z) e

number_same : (m n : Number) → m.place ≡ n.place → m.value ≡ n.value → m ≡ n
number_same m n p e = ap (λ q. let z : Number = record { place = q; value = m.value } in z) p ∙ ap (λ x. let z : Number = record { place = n.place; value = x } in z) e

constant_same : (m n : Constant) → m.place ≡ n.place → m.width ≡ n.width → m.value ≡ n.value → m ≡ n
constant_same m n p w e =
    ap (λ q. let z : Constant = record { place = q; width = m.width; value = m.value } in z) p
    ∙ ap (λ x. let z : Constant = record { place = n.place; width = x; value = m.value } in z) w
    ∙ ap (λ x. let z : Constant = record { place = n.place; width = n.width; value = x } in z) e

pub one_name : {ts us r s : List Token} {m n : Mention} → ts ≡ us → IsName ts m r → IsName us n s → Same m n r s
one_name {m = m} {n = n} e a b =
    let t = same_token e a b in
    let k = t.kind in
    let names : m.name ≡ n.name = cc in
    record { is = name_same m n t.place names; others = t.others }

pub one_number : {ts us r s : List Token} {m n : Number} → ts ≡ us → IsNumber ts m r → IsNumber us n s → Same m n r s
one_number {m = m} {n = n} e a b =
    let t = same_token e a.is b.is in
    let k = t.kind in
    let values : m.value ≡ n.value = cc in
    record { is = number_same m n t.place values; others = t.others }

pub one_constant : {ts us r s : List Token} {m n : Constant} → ts ≡ us → IsConstant ts m r → IsConstant us n s → Same m n r s
one_constant {m = m} {n = n} e a b =
    let t = same_token e a b in
    let k = t.kind in
    let widths : m.width ≡ n.width = cc in
    let values : m.value ≡ n.value = cc in
    record { is = constant_same m n t.place widths values; others = t.others }
