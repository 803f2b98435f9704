-- Different operations, counted.
use Rattle.sap_lemmas.proofs.Common.{◌≡◌, ◌&&◌, ◌||◌, ◌==◌, ◌≤◌, List, [], ◌∷◌, ◌++◌, length, Bool, true, false, sym, ap, ap₂, ◌∙◌, subst, refl, inl, inr, AllByRecursion, bytes_eq, cases_Bool, and_from, and_parts, eqb-true, eq-eqb, or_left, or_right, bytes_eq_same, equal_of_bytes_eq}
use Rattle.std.specs.Cmp.{IsEquivalence}
use Rattle.std.specs.List.{IsDistinct}
use Rattle.std.specs.Set.{is_member, unique_keys}
use Rattle.std.proofs.lemmas.Map.Made.{length-le_from_is_member}
use Rattle.sap_bits.specs.declared.Op1.{Op1}
use Rattle.sap_bits.specs.declared.Op1.TheVariants.{Not, Neg, AllOnes, AnyOne, Odd}
use Rattle.sap_bits.specs.declared.Op2.{Op2}
use Rattle.sap_bits.specs.declared.Op2.TheVariants.{Add, Sub, Mul, And, Or, Xor, Eq, Ne, Lt, Le, Shl, Shr}
use Rattle.sap_maps.specs.Prelude.{Name, Term, constant, read, cell, one, two, choose, join, part}
use Rattle.sap_size.specs.Terms.{same_one, same_two, same_term, operations_in, operations}

one_is : (o p : Op1) → same_one o p ≡ true → o ≡ p
one_is Not Not h = refl
one_is Neg Neg h = refl
one_is AllOnes AllOnes h = refl
one_is AnyOne AnyOne h = refl
one_is Odd Odd h = refl
one_is _ _ h = absurd (cc)

one_self : (o : Op1) → same_one o o ≡ true
one_self Not = refl
one_self _ = refl

two_is : (o p : Op2) → same_two o p ≡ true → o ≡ p
two_is Add Add h = refl
two_is Sub Sub h = refl
two_is Mul Mul h = refl
two_is And And h = refl
two_is Or Or h = refl
two_is Xor Xor h = refl
two_is Eq Eq h = refl
two_is Ne Ne h = refl
two_is Lt Lt h = refl
two_is Le Le h = refl
two_is Shl Shl h = refl
two_is Shr Shr h = refl
two_is _ _ h = absurd (cc)

two_self : (o : Op2) → same_two o o ≡ true
two_self Add = refl
two_self _ = refl

pub term_is : (t u : Term Name) → same_term t u ≡ true → t ≡ u
term_is (constant w x) (constant v y) h =
    let p = and_parts (w == v) (x == y) h in let d = eqb-true w v p.0 in let e = eqb-true x y p.1 in cc
term_is (read m) (read n) h = ap (λ (k : Name). read k) (equal_of_bytes_eq m n h)
term_is (cell m i) (cell n j) h =
    let p = and_parts (bytes_eq m n) (same_term i j) h in ap₂ (λ (k : Name) (a : Term Name). cell k a) (equal_of_bytes_eq m n p.0) (term_is i j p.1)
term_is (one o a) (one p x) h =
    let q = and_parts (same_one o p) (same_term a x) h in ap₂ (λ (k : Op1) (b : Term Name). one k b) (one_is o p q.0) (term_is a x q.1)
term_is (two o a b) (two p x y) h =
    let q = and_parts (same_two o p) (same_term a x && same_term b y) h in
    let r = and_parts (same_term a x) (same_term b y) q.1 in
    let d = two_is o p q.0 in
    let e = term_is a x r.0 in
    let f = term_is b y r.1 in
    cc
term_is (choose c a b) (choose z x y) h =
    let q = and_parts (same_term c z) (same_term a x && same_term b y) h in
    let r = and_parts (same_term a x) (same_term b y) q.1 in
    let d = term_is c z q.0 in
    let e = term_is a x r.0 in
    let f = term_is b y r.1 in
    cc
term_is (join a b) (join x y) h =
    let r = and_parts (same_term a x) (same_term b y) h in
    ap₂ (λ (k l : Term Name). join k l) (term_is a x r.0) (term_is b y r.1)
term_is (part a hi lo) (part x high low) h =
    let q = and_parts (same_term a x) (hi == high && lo == low) h in
    let r = and_parts (hi == high) (lo == low) q.1 in
    let d = term_is a x q.0 in
    let e = eqb-true hi high r.0 in
    let f = eqb-true lo low r.1 in
    cc
term_is _ _ h = absurd (cc)

pub term_self : (t : Term Name) → same_term t t ≡ true
term_self (constant w x) = and_from (w == w) (x == x) (eq-eqb w w refl) (eq-eqb x x refl)
term_self (read n) = bytes_eq_same n
term_self (cell m i) = and_from (bytes_eq m m) (same_term i i) (bytes_eq_same m) (term_self i)
term_self (one o a) = and_from (same_one o o) (same_term a a) (one_self o) (term_self a)
term_self (two o a b) =
    and_from (same_two o o) (same_term a a && same_term b b) (two_self o) (and_from (same_term a a) (same_term b b) (term_self a) (term_self b))
term_self (choose c a b) =
    and_from (same_term c c) (same_term a a && same_term b b) (term_self c) (and_from (same_term a a) (same_term b b) (term_self a) (term_self b))
term_self (join a b) = and_from (same_term a a) (same_term b b) (term_self a) (term_self b)
term_self (part a hi lo) =
    and_from (same_term a a) (hi == hi && lo == lo) (term_self a) (and_from (hi == hi) (lo == lo) (eq-eqb hi hi refl) (eq-eqb lo lo refl))

-- the test is an equivalence

term_back : (t u : Term Name) → same_term t u ≡ same_term u t
term_back t u =
    elim (cases_Bool (same_term t u)) [
      | inl h ↦ h ∙ subst (λ (x : Term Name). true ≡ same_term x t) (term_is t u h) (sym (term_self t))
      | inr f ↦
          elim (cases_Bool (same_term u t)) [
            | inl h ↦ subst (λ (x : Term Name). same_term t x ≡ same_term x t) (sym (term_is u t h)) refl
            | inr g ↦ f ∙ sym g
          ]
    ]

pub term_laws : IsEquivalence same_term
term_laws = record {
  refl = term_self;
  symm = term_back;
  congr = λ x y z h. subst (λ (a : Term Name). same_term x z ≡ same_term a z) (term_is x y h) refl;
}

-- a term stands on a list
abbrev pub has : List (Term Name) → Term Name → Bool
has xs q = is_member same_term xs q

pub has_both : (xs ys : List (Term Name)) (q : Term Name) → has (xs ++ ys) q ≡ (has xs q || has ys q)
has_both [] ys q = refl
has_both (x ∷ xs) ys q =
    elim (cases_Bool (same_term q x)) [ inl t ↦ rw t refl | inr f ↦ rw f (has_both xs ys q) ]

pub has_front : (xs ys : List (Term Name)) (q : Term Name) → has xs q ≡ true → has (xs ++ ys) q ≡ true
has_front xs ys q h = has_both xs ys q ∙ or_left (has xs q) (has ys q) h

pub has_behind : (xs ys : List (Term Name)) (q : Term Name) → has ys q ≡ true → has (xs ++ ys) q ≡ true
has_behind xs ys q h = has_both xs ys q ∙ or_right (has xs q) (has ys q) h

-- of terms each once
unique_has : (xs : List (Term Name)) (q : Term Name) → has (unique_keys same_term xs) q ≡ has xs q
unique_has [] q = refl
unique_has (x ∷ xs) q =
    elim (cases_Bool (has xs x)) [
      | inl m ↦
          rw m
          (elim (cases_Bool (same_term q x)) [
            | inl t ↦ unique_has xs q ∙ subst (λ (y : Term Name). has xs y ≡ true) (sym (term_is q x t)) m ∙ rw t refl
            | inr f ↦ rw f (unique_has xs q)
          ])
      | inr n ↦ rw n (ap (λ (b : Bool). same_term q x || b) (unique_has xs q))
    ]

apart_all : (x : Term Name) (ys : List (Term Name)) → has ys x ≡ false → AllByRecursion (λ y. same_term x y ≡ false) ys
apart_all x [] h = tt
apart_all x (y ∷ ys) h =
    elim (cases_Bool (same_term x y)) [ inl t ↦ absurd (let g : true ≡ false = rw t at h in cc) | inr f ↦ (f, apart_all x ys (rw f at h)) ]

unique_distinct : (xs : List (Term Name)) → IsDistinct same_term (unique_keys same_term xs)
unfolding IsDistinct
unique_distinct [] = tt
unique_distinct (x ∷ xs) =
    elim (cases_Bool (has xs x)) [
      | inl m ↦ rw m (unique_distinct xs)
      | inr n ↦ rw n (apart_all x (unique_keys same_term xs) (unique_has xs x ∙ n), unique_distinct xs)
    ]

-- each operation once
abbrev pub all_operations : Term Name → List (Term Name)
all_operations t = unique_keys same_term (operations_in t)

pub all_has : (t q : Term Name) → has (operations_in t) q ≡ true → has (all_operations t) q ≡ true
all_has t q h = unique_has (operations_in t) q ∙ h

-- Where all operations of a term stand on a list, there are no more of them than the list has.
pub operations_within : (t : Term Name) (ys : List (Term Name)) → ((q : Term Name) → has (operations_in t) q ≡ true → has ys q ≡ true) → operations t ≤ length ys
operations_within t ys h =
    length-le_from_is_member term_laws (all_operations t) ys (unique_distinct (operations_in t)) (λ q m. h q (sym (unique_has (operations_in t) q) ∙ m))
