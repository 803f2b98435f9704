-- The names of gates.
use Rattle.sap_lemmas.proofs.Common.{◌≡◌, ℕ, zero, suc, ◌+◌, ◌%◌, ◌/◌, ◌^◌, ◌<◌, ◌≤◌, ◌==◌, List, [], ◌∷◌, ◌++◌, length, replicate, true, false, sym, ap, ◌∙◌, refl, arith, inl, inr, nat_lt, is_ascii_digit, decimal, AllByRecursion, list_all, bytes_eq, decimal_injective, length-replicate, and_from, and_parts, cases_Bool, eq-eqb, lt-ltb, ltb-true, equal_of_bytes_eq}
use Rattle.std.proofs.lemmas.Fmt.{decimal_by_steps}
use Rattle.sap_lemmas.proofs.Texts.{digit_in_range}
use Rattle.sap_text.proofs.NamesLemmas.{digits_inner}
use Rattle.sap_maps.specs.Maps.{Name}
use Rattle.sap_net.specs.Names.{is_inner, is_name, is_among}
use Rattle.sap_ir.specs.Prelude.{is_helping, is_gate}
use Rattle.sap_flat.specs.Gates.{gate_name}

all_behind : (xs ys : List ℕ) → list_all is_ascii_digit xs ≡ true → list_all is_ascii_digit ys ≡ true → list_all is_ascii_digit (xs ++ ys) ≡ true
all_behind [] ys h k = k
all_behind (x ∷ xs) ys h k =
    let p = and_parts (is_ascii_digit x) (list_all is_ascii_digit xs) h in
    and_from (is_ascii_digit x) (list_all is_ascii_digit (xs ++ ys)) p.0 (all_behind xs ys p.1 k)

some_behind : (xs : List ℕ) (y : ℕ) → 0 < length (xs ++ y ∷ [])
some_behind [] y = omega arith
some_behind (x ∷ xs) y = omega arith

abbrev Digits : ℕ → List ℕ → Type 0
Digits n ds = (0 < length ds) × (list_all is_ascii_digit ds ≡ true)

one_digit : (n : ℕ) → n < 10 → Digits n ((48 + n) ∷ [])
one_digit n h = (omega arith, and_from (is_ascii_digit (48 + n)) true (digit_in_range (48 + n) (omega arith) (omega (arith, h))) refl)

more_digits : (n : ℕ) (ds : List ℕ) → 10 ≤ n → Digits (n / 10) ds → Digits n (ds ++ ((48 + n % 10) ∷ []))
more_digits n ds h r = (some_behind ds (48 + n % 10), all_behind ds ((48 + n % 10) ∷ []) r.1 (one_digit (n % 10) (omega arith)).1)

digits : (n : ℕ) → n < 2 ^ 64 → Digits n (decimal n)
digits n l = decimal_by_steps Digits one_digit more_digits n l

gate_of : (ds : List ℕ) → 0 < length ds → list_all is_ascii_digit ds ≡ true → is_gate (103 ∷ ds) ≡ true
gate_of [] l h = absurd (omega (arith, l))
gate_of (d ∷ ds) l h = h

no_helping : (ds : List ℕ) → is_helping (103 ∷ ds) ≡ false
no_helping [] = refl
no_helping (d ∷ ds) = refl

word_of : (ds : List ℕ) → list_all is_inner ds ≡ true → is_name (103 ∷ ds) ≡ true
unfolding is_name
word_of ds h = rw h refl

pub gate_small : (k : ℕ) → k < 2 ^ 64 → gate_name k ≡ 103 ∷ decimal k
unfolding gate_name
gate_small k l = rw (lt-ltb k (2 ^ 64) l) refl

gate_large : (k : ℕ) → nat_lt k (2 ^ 64) ≡ false → gate_name k ≡ replicate k 0
unfolding gate_name
gate_large k f = rw f refl

pub gate_is_gate : (k : ℕ) → k < 2 ^ 64 → is_gate (gate_name k) ≡ true
gate_is_gate k l = let d = digits k l in ap is_gate (gate_small k l) ∙ gate_of (decimal k) d.0 d.1

pub gate_is_name : (k : ℕ) → k < 2 ^ 64 → is_name (gate_name k) ≡ true
gate_is_name k l = ap is_name (gate_small k l) ∙ word_of (decimal k) (digits_inner (decimal k) (digits k l).1)

pub gate_is_not_helping : (k : ℕ) → k < 2 ^ 64 → is_helping (gate_name k) ≡ false
gate_is_not_helping k l = ap is_helping (gate_small k l) ∙ no_helping (decimal k)

no_name : (k : ℕ) → is_name (replicate k 0) ≡ false
unfolding is_name
no_name zero = refl
no_name (suc k) = refl

-- gates differ from names that are none
pub gate_other : (k : ℕ) (n : Name) → is_name n ≡ true → is_gate n ≡ false → bytes_eq (gate_name k) n ≡ false
gate_other k n h g =
    elim (cases_Bool (bytes_eq (gate_name k) n)) [
      | inl t ↦
          let e : gate_name k ≡ n = equal_of_bytes_eq (gate_name k) n t in
          elim (cases_Bool (nat_lt k (2 ^ 64))) [
            | inl s ↦ absurd (let q = gate_is_gate k (ltb-true k (2 ^ 64) s) in let r : is_gate (gate_name k) ≡ is_gate n = ap is_gate e in cc)
            | inr l ↦ absurd (let q : is_name (gate_name k) ≡ false = ap is_name (gate_large k l) ∙ no_name k in let r : is_name (gate_name k) ≡ is_name n = ap is_name e in cc)
          ]
      | inr f ↦ f
    ]

tail : List ℕ → List ℕ
tail [] = []
tail (x ∷ xs) = xs

head : List ℕ → ℕ
head [] = 0
head (x ∷ xs) = x

first_is : (k : ℕ) → head (replicate k 0) ≡ 0
unfolding head
first_is zero = refl
first_is (suc k) = refl

apart_ends : (i j : ℕ) → 103 ∷ decimal i ≡ replicate j 0 → ⊥
unfolding head
apart_ends i j e = let q = ap head e ∙ first_is j in omega (arith, q)

gate_injective : (i j : ℕ) → gate_name i ≡ gate_name j → i ≡ j
unfolding tail
gate_injective i j e =
    elim (cases_Bool (nat_lt i (2 ^ 64))) [
      | inl s ↦
          let a = gate_small i (ltb-true i (2 ^ 64) s) in
          elim (cases_Bool (nat_lt j (2 ^ 64))) [
            | inl t ↦
                let b = gate_small j (ltb-true j (2 ^ 64) t) in
                decimal_injective i j (ltb-true i (2 ^ 64) s) (ltb-true j (2 ^ 64) t) (ap tail (sym a ∙ e ∙ b))
            | inr t ↦ absurd (apart_ends i j (sym a ∙ e ∙ gate_large j t))
          ]
      | inr s ↦
          let a = gate_large i s in
          elim (cases_Bool (nat_lt j (2 ^ 64))) [
            | inl t ↦ absurd (apart_ends j i (sym (gate_small j (ltb-true j (2 ^ 64) t)) ∙ sym e ∙ a))
            | inr t ↦ sym (length-replicate i 0) ∙ ap length (sym a ∙ e ∙ gate_large j t) ∙ length-replicate j 0
          ]
    ]

pub gate_differs : (i j : ℕ) → (i == j) ≡ false → bytes_eq (gate_name i) (gate_name j) ≡ false
gate_differs i j h =
    elim (cases_Bool (bytes_eq (gate_name i) (gate_name j))) [
      | inl t ↦ absurd (let e = eq-eqb i j (gate_injective i j (equal_of_bytes_eq (gate_name i) (gate_name j) t)) in cc)
      | inr f ↦ f
    ]

-- a gate is not on a list of other names
pub gate_not_among : (k : ℕ) (ns : List Name) → AllByRecursion (λ n. is_name n ≡ true) ns → AllByRecursion (λ n. is_gate n ≡ false) ns → is_among (gate_name k) ns ≡ false
gate_not_among k [] a b = refl
gate_not_among k (n ∷ ns) a b = rw (gate_other k n a.0 b.0) (gate_not_among k ns a.1 b.1)
