-- The bytes of a right side give it back.
use Rattle.sap_lemmas.proofs.Common.{◌≡◌, ℕ, zero, suc, ◌==◌, List, [], ◌∷◌, ◌++◌, take, drop, length, sym, ap, ap₂, ◌∙◌, refl, append-nil, append_assoc, if◌then◌else◌, take-append_seam}
use Rattle.std.proofs.Math.Seq.{drop-append_seam}
use Rattle.sap_bits.specs.declared.Op1.{Op1}
use Rattle.sap_bits.specs.declared.Op1.TheVariants.{Not, Neg, AllOnes, AnyOne, Odd}
use Rattle.sap_bits.specs.declared.Op2.{Op2}
use Rattle.sap_bits.specs.declared.Op2.TheVariants.{Add, Sub, Mul, And, Or, Xor, Eq, Ne, Lt, Le, Shl, Shr}
use Rattle.sap_net.specs.declared.parts.Operand.{Operand}
use Rattle.sap_net.specs.declared.parts.Operand.TheVariants.{Named, Constant}
use Rattle.sap_net.specs.declared.parts.Right.{Right}
use Rattle.sap_net.specs.declared.parts.Right.TheVariants.{Copy, One, Two, Choose, Concat, Slice, Cell}
use Rattle.sap_share.specs.Keys.{number, number1, number2, operand_bytes, operands_bytes, right_bytes, key}
use Rattle.sap_share.proofs.Digits.{Front, read, number_back}

abbrev operator1 : ℕ → Op1
operator1 k = if k == 0 then Not else if k == 1 then Neg else if k == 2 then AllOnes else if k == 3 then AnyOne else Odd

operator1_back : (op : Op1) → operator1 (number1 op) ≡ op
operator1_back Not = refl
operator1_back Neg = refl
operator1_back AllOnes = refl
operator1_back AnyOne = refl
operator1_back Odd = refl

abbrev operator2 : ℕ → Op2
operator2 k =
    if k == 0 then Add else if k == 1 then Sub else if k == 2 then Mul else if k == 3 then And else if k == 4 then Or else if k == 5 then Xor
    else if k == 6 then Eq else if k == 7 then Ne else if k == 8 then Lt else if k == 9 then Le else if k == 10 then Shl else Shr

operator2_back : (op : Op2) → operator2 (number2 op) ≡ op
operator2_back Add = refl
operator2_back Sub = refl
operator2_back Mul = refl
operator2_back And = refl
operator2_back Or = refl
operator2_back Xor = refl
operator2_back Eq = refl
operator2_back Ne = refl
operator2_back Lt = refl
operator2_back Le = refl
operator2_back Shl = refl
operator2_back Shr = refl

abbrev Read : Type 0
Read = Operand × List ℕ

abbrev named : Front → Read
named r = (Named (take r.0 r.1), drop r.0 r.1)

abbrev constant_behind : ℕ → Front → Read
constant_behind w r = (Constant w r.0, r.1)

abbrev constant : Front → Read
constant r = constant_behind r.0 (read r.1)

-- the operand in front, and what is behind it
abbrev operand : List ℕ → Read
operand [] = (Constant 0 0, [])
operand (k ∷ xs) = if k == 0 then named (read xs) else constant (read xs)

operand_back : (o : Operand) (xs : List ℕ) → operand (operand_bytes o ++ xs) ≡ (o, xs)
operand_back (Named x) xs =
    ap (λ (ys : List ℕ). named (read ys)) (append_assoc (number (length x)) x xs)
    ∙ ap named (number_back (length x) (x ++ xs))
    ∙ ap₂ (λ (a b : List ℕ). (Named a, b)) (take-append_seam x xs) (drop-append_seam x xs)
operand_back (Constant w n) xs =
    ap (λ (ys : List ℕ). constant (read ys)) (append_assoc (number w) (number n) xs)
    ∙ ap constant (number_back w (number n ++ xs))
    ∙ ap (constant_behind w) (number_back n xs)

operand_alone : (o : Operand) → operand (operand_bytes o) ≡ (o, [])
operand_alone o = ap operand (sym (append-nil (operand_bytes o))) ∙ operand_back o []

abbrev operands : ℕ → List ℕ → List Operand
operands zero xs = []
operands (suc n) xs = (operand xs).0 ∷ operands n (operand xs).1

operands_back : (os : List Operand) → operands (length os) (operands_bytes os) ≡ os
operands_back [] = refl
operands_back (o ∷ os) =
    ap (λ (r : Read). r.0 ∷ operands (length os) r.1) (operand_back o (operands_bytes os)) ∙ ap (λ (r : List Operand). o ∷ r) (operands_back os)

abbrev first : List ℕ → ℕ
first [] = 0
first (n ∷ ns) = n

abbrev rest : List ℕ → List ℕ
rest [] = []
rest (n ∷ ns) = ns

abbrev two : ℕ → Read → Right
two k r = Two (operator2 k) r.0 (operand r.1).0

abbrev choice_behind : Operand → Read → Right
choice_behind c r = Choose c r.0 (operand r.1).0

abbrev choice : Read → Right
choice r = choice_behind r.0 (operand r.1)

abbrev cell : Read → Right
cell r = Cell r.1 r.0

abbrev concat : Front → Right
concat r = Concat (operands r.0 r.1)

abbrev slice_behind : ℕ → Front → Right
slice_behind hi r = Slice r.1 hi r.0

abbrev slice : Front → Right
slice r = slice_behind r.0 (read r.1)

abbrev right : ℕ → List ℕ → Right
right k xs =
    if k == 0 then Copy (operand xs).0 else if k == 1 then One (operator1 (first xs)) (operand (rest xs)).0 else if k == 2 then two (first xs) (operand (rest xs))
    else if k == 3 then choice (operand xs) else if k == 4 then concat (read xs) else if k == 5 then slice (read xs) else cell (operand xs)

abbrev right_of : List ℕ → Right
right_of ns = right (first ns) (rest ns)

right_back : (r : Right) → right_of (right_bytes r) ≡ r
right_back (Copy a) = ap (λ (r : Read). Copy r.0) (operand_alone a)
right_back (One op a) = ap₂ (λ (p : Op1) (r : Read). One p r.0) (operator1_back op) (operand_alone a)
right_back (Two op a b) =
    ap (λ (r : Read). two (number2 op) r) (operand_back a (operand_bytes b))
    ∙ ap₂ (λ (p : Op2) (r : Read). Two p a r.0) (operator2_back op) (operand_alone b)
right_back (Choose c a b) =
    ap choice (operand_back c (operand_bytes a ++ operand_bytes b))
    ∙ ap (choice_behind c) (operand_back a (operand_bytes b))
    ∙ ap (λ (r : Read). Choose c a r.0) (operand_alone b)
right_back (Concat os) = ap concat (number_back (length os) (operands_bytes os)) ∙ ap Concat (operands_back os)
right_back (Slice x hi lo) = ap slice (number_back hi (number lo ++ x)) ∙ ap (slice_behind hi) (number_back lo x)
right_back (Cell m i) = ap cell (operand_back i m)

-- equal bytes, equal right sides at equal widths
pub key_is : (w u : ℕ) (r s : Right) → key w r ≡ key u s → (w ≡ u) × (r ≡ s)
unfolding key
key_is w u r s e =
    let same : (w, right_bytes r) ≡ (u, right_bytes s) = sym (number_back w (right_bytes r)) ∙ ap read e ∙ number_back u (right_bytes s) in
    (ap (λ (p : Front). p.0) same, sym (right_back r) ∙ ap (λ (p : Front). right_of p.1) same ∙ right_back s)
