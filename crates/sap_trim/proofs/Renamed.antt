-- Right sides whose names are replaced by others, no two by the same: they fold no further if they did not before, and differ if they did.
use Rattle.sap_lemmas.proofs.Common.{◌≡◌, ◌==◌, ℕ, List, [], ◌∷◌, map, Option, Some, Bool, true, false, sym, ap, ap₂, ◌∙◌, subst, refl, inl, inr, ◌||◌, if◌then◌else◌, nat_le, unwrap_or, bytes_eq, AllByRecursion, cases_Bool, test_of_equal, bytes_eq_same, equal_of_bytes_eq}
use Rattle.sap_bits.specs.declared.Op1.{Op1}
use Rattle.sap_bits.specs.declared.Op2.{Op2}
use Rattle.sap_bits.specs.declared.Op2.TheVariants.{Add, Sub, Mul, And, Or, Xor, Eq, Ne, Lt, Le, Shl, Shr}
use Rattle.sap_maps.specs.Prelude.{Name, Scope, find}
use Rattle.sap_net.specs.Rules.{Shapes, IsOperand, AreOperands, IsRight}
use Rattle.sap_net.specs.declared.parts.Operand.{Operand}
use Rattle.sap_net.specs.declared.parts.Operand.TheVariants.{Named, Constant}
use Rattle.sap_net.specs.declared.parts.Right.{Right}
use Rattle.sap_net.specs.declared.parts.Right.TheVariants.{Copy, One, Two, Choose, Concat, Slice, Cell}
use Rattle.sap_fold.specs.declared.rules.Outcome.{Outcome}
use Rattle.sap_fold.specs.declared.rules.Outcome.TheVariants.{Keep, First, Second, Number, NotFirst, NotSecond}
use Rattle.sap_fold.specs.Folding.{or_else, is_number, is_bit, is_full, same_operand, fold_one, fold_constants, fold_shift, fold_operator, fold_two, fold_choose, of_one, of_two, of_choose, folded}
use Rattle.sap_fold.specs.Settled.{is_copy}
use Rattle.sap_fold.specs.Slices.{sliced}
use Rattle.sap_fold.proofs.Folds.{same_is}
use Rattle.sap_trim.specs.Replaced.{Stands, standing, standing_operand, replaced}
use Rattle.sap_trim.proofs.Replaced.{stands_for}

-- Each name of a scope stands for a name, and no two for the same.
pub record Renames (so : Scope) (e : Stands) : Type 0 where
  pub named : (x : Name) (u : ℕ) → find so x ≡ Some u → (y : Name) × (e x ≡ Some (Named y))
  pub apart : (x y : Name) (u t : ℕ) (z : Name) → find so x ≡ Some u → find so y ≡ Some t → e x ≡ Some (Named z) → e y ≡ Some (Named z) → x ≡ y

module _ (so : Scope) (e : Stands) (r : Renames so e) where
  name_of : (x : Name) (u : ℕ) → find so x ≡ Some u → (y : Name) × (standing e x ≡ Named y)
  name_of x u h = let y = r.named x u h in (y.0, stands_for e x (Named y.0) y.1)

  -- what is the same of all names
  test_kept : {X : Type 0} (f : Operand → X) → ((x y : Name) → f (Named x) ≡ f (Named y)) → (u : ℕ) (o : Operand) → IsOperand so u o → f (standing_operand e o) ≡ f o
  test_kept f same u (Named x) h = let y = name_of x u h in ap f y.1 ∙ same y.0 x
  test_kept f same u (Constant w n) h = refl

  number_kept : (u : ℕ) (o : Operand) → IsOperand so u o → (k : ℕ) → is_number (standing_operand e o) k ≡ is_number o k
  number_kept u o h k = test_kept (λ p. is_number p k) (λ x y. refl) u o h

  bit_kept : (u : ℕ) (o : Operand) → IsOperand so u o → (k : ℕ) → is_bit (standing_operand e o) k ≡ is_bit o k
  bit_kept u o h k = test_kept (λ p. is_bit p k) (λ x y. refl) u o h

  full_kept : (u : ℕ) (o : Operand) → IsOperand so u o → is_full (standing_operand e o) ≡ is_full o
  full_kept u o h = test_kept is_full (λ x y. refl) u o h

  names_kept : (x z : Name) (u t : ℕ) → find so x ≡ Some u → find so z ≡ Some t → (p q : Name)
      → e x ≡ Some (Named p) → e z ≡ Some (Named q) → bytes_eq p q ≡ bytes_eq x z
  names_kept x z u t h g p q i j =
      elim (cases_Bool (bytes_eq x z)) [
        | inl s ↦
            let k : e z ≡ Some (Named p) = subst (λ (y : Name). e y ≡ Some (Named p)) (equal_of_bytes_eq x z s) i in
            let m : Some (Named p) ≡ Some (Named q) = sym k ∙ j in
            let n : p ≡ q = cc in
            subst (λ (y : Name). bytes_eq p y ≡ true) n (bytes_eq_same p) ∙ sym s
        | inr f ↦
            elim (cases_Bool (bytes_eq p q)) [
              | inl s ↦
                  let k : e z ≡ Some (Named p) = j ∙ ap (λ (y : Name). Some (Named y)) (sym (equal_of_bytes_eq p q s)) in
                  let m : x ≡ z = r.apart x z u t p h g i k in
                  let n : bytes_eq x z ≡ true = subst (λ (y : Name). bytes_eq x y ≡ true) m (bytes_eq_same x) in
                  absurd (let a : true ≡ false = sym n ∙ f in cc)
              | inr g ↦ g ∙ sym f
            ]
      ]

  same_kept : (u t : ℕ) (o p : Operand) → IsOperand so u o → IsOperand so t p
      → same_operand (standing_operand e o) (standing_operand e p) ≡ same_operand o p
  same_kept u t (Named x) (Named z) h g =
      let a = r.named x u h in
      let b = r.named z t g in
      ap₂ same_operand (stands_for e x (Named a.0) a.1) (stands_for e z (Named b.0) b.1) ∙ names_kept x z u t h g a.0 b.0 a.1 b.1
  same_kept u t (Named x) (Constant k n) h g = ap (λ (q : Operand). same_operand q (Constant k n)) (name_of x u h).1
  same_kept u t (Constant k n) (Named x) h g = ap (λ (q : Operand). same_operand (Constant k n) q) (name_of x t g).1
  same_kept u t (Constant k n) (Constant j m) h g = refl

  -- what the table says of an operator

  constants_kept : (op : Op2) (u t : ℕ) (a b : Operand) → IsOperand so u a → IsOperand so t b
      → fold_constants op (standing_operand e a) (standing_operand e b) ≡ fold_constants op a b
  constants_kept op u t (Named x) b h g = ap (λ (q : Operand). fold_constants op q (standing_operand e b)) (name_of x u h).1
  constants_kept op u t (Constant k n) (Named x) h g = ap (λ (q : Operand). fold_constants op (Constant k n) q) (name_of x t g).1
  constants_kept op u t (Constant k n) (Constant j m) h g = refl

  shift_kept : (w u t : ℕ) (a b : Operand) → IsOperand so u a → IsOperand so t b
      → fold_shift w (standing_operand e a) (standing_operand e b) ≡ fold_shift w a b
  shift_kept w u t a (Named x) h g =
      ap (λ (q : Operand). fold_shift w (standing_operand e a) q) (name_of x t g).1
      ∙ ap (λ (z : Bool). if z then First else Keep) (number_kept u a h 0)
  shift_kept w u t a (Constant k m) h g =
      ap (λ (z : Bool). if m == 0 || z then First else if nat_le w m then Number 0 else Keep) (number_kept u a h 0)

  operator_kept : (w : ℕ) (op : Op2) (u t : ℕ) (a b : Operand) → IsOperand so u a
      → IsOperand so t b → fold_operator w op (standing_operand e a) (standing_operand e b) ≡ fold_operator w op a b
  operator_kept w Add u t a b h g = rw (number_kept u a h 0, number_kept t b g 0) refl
  operator_kept w Sub u t a b h g = rw (number_kept t b g 0, same_kept u t a b h g) refl
  operator_kept w Mul u t a b h g = rw (number_kept u a h 0, number_kept t b g 0, number_kept u a h 1, number_kept t b g 1) refl
  operator_kept w And u t a b h g = rw (number_kept u a h 0, number_kept t b g 0, full_kept u a h, full_kept t b g, same_kept u t a b h g) refl
  operator_kept w Or u t a b h g = rw (number_kept u a h 0, number_kept t b g 0, full_kept u a h, full_kept t b g, same_kept u t a b h g) refl
  operator_kept w Xor u t a b h g = rw (number_kept u a h 0, number_kept t b g 0, same_kept u t a b h g) refl
  operator_kept w Eq u t a b h g = rw (bit_kept u a h 0, bit_kept t b g 0, bit_kept u a h 1, bit_kept t b g 1, same_kept u t a b h g) refl
  operator_kept w Ne u t a b h g = rw (bit_kept u a h 0, bit_kept t b g 0, bit_kept u a h 1, bit_kept t b g 1, same_kept u t a b h g) refl
  operator_kept w Lt u t a b h g = rw (number_kept t b g 0, full_kept u a h, same_kept u t a b h g) refl
  operator_kept w Le u t a b h g = rw (number_kept u a h 0, full_kept t b g, same_kept u t a b h g) refl
  operator_kept w Shl u t a b h g = shift_kept w u t a b h g
  operator_kept w Shr u t a b h g = shift_kept w u t a b h g

  two_kept : (w : ℕ) (op : Op2) (u t : ℕ) (a b : Operand) → IsOperand so u a → IsOperand so t b
      → fold_two w op (standing_operand e a) (standing_operand e b) ≡ fold_two w op a b
  two_kept w op u t a b h g = ap₂ or_else (constants_kept op u t a b h g) (operator_kept w op u t a b h g)

  choose_kept : (w u t i : ℕ) (c a b : Operand) → IsOperand so i c → IsOperand so u a
      → IsOperand so t b → fold_choose w (standing_operand e c) (standing_operand e a) (standing_operand e b) ≡ fold_choose w c a b
  choose_kept w u t i c a b j h g =
      rw (
        number_kept i c j 0,
        number_kept i c j 1,
        number_kept u a h 0,
        number_kept t b g 0,
        number_kept u a h 1,
        number_kept t b g 1,
        same_kept u t a b h g,
      ) refl

-- an outcome that leaves a right side as it is leaves others with its operator

one_left : (w : ℕ) (op : Op1) (a p : Operand) (o : Outcome) → of_one w op a o ≡ One op a → of_one w op p o ≡ One op p
one_left w op a p (Number n) h = absurd (cc)
one_left w op a p _ h = refl

two_left : (w : ℕ) (op : Op2) (a b p q : Operand) (o : Outcome) → of_two w op a b o ≡ Two op a b → of_two w op p q o ≡ Two op p q
two_left w op a b p q First h = absurd (cc)
two_left w op a b p q Second h = absurd (cc)
two_left w op a b p q (Number n) h = absurd (cc)
two_left w op a b p q NotFirst h = absurd (cc)
two_left w op a b p q NotSecond h = absurd (cc)
two_left w op a b p q _ h = refl

choose_left : (c a b d p q : Operand) (o : Outcome) → of_choose c a b o ≡ Choose c a b → of_choose d p q o ≡ Choose d p q
choose_left c a b d p q Keep h = refl
choose_left c a b d p q (Number n) h = refl
choose_left c a b d p q NotFirst h = refl
choose_left c a b d p q NotSecond h = refl
choose_left c a b d p q _ h = absurd (cc)

pub folded_renamed : (so : Scope) (e : Stands) → Renames so e → (ms : Shapes) (w u : ℕ) (r : Right) → IsRight ms so u r → folded w r ≡ r → folded w (replaced e r) ≡ replaced e r
folded_renamed so e n ms w u (One op a) i h =
    let p = standing_operand e a in
    ap (of_one w op p) (test_kept so e n (fold_one op) (λ x y. refl) i.0 a i.2) ∙ one_left w op a p (fold_one op a) h
folded_renamed so e n ms w u (Two op a b) i h =
    let p = standing_operand e a in
    let q = standing_operand e b in
    ap (of_two w op p q) (two_kept so e n w op i.0 i.1 a b i.4 i.5) ∙ two_left w op a b p q (fold_two w op a b) h
folded_renamed so e n ms w u (Choose c a b) i h =
    let d = standing_operand e c in
    let p = standing_operand e a in
    let q = standing_operand e b in
    ap (of_choose d p q) (choose_kept so e n w u u 1 c a b i.0 i.1 i.2) ∙ choose_left c a b d p q (fold_choose w c a b) h
folded_renamed so e n ms w u (Slice x hi lo) i h =
    subst (λ (p : Operand). folded w (sliced p hi lo) ≡ sliced p hi lo) (sym (name_of so e n x i.0 i.2).1) refl
folded_renamed so e n ms w u _ i h = refl

pub calculated_renamed : (so : Scope) (e : Stands) → Renames so e → (ms : Shapes) (u : ℕ) (r : Right) → IsRight ms so u r → is_copy r ≡ false → is_copy (replaced e r) ≡ false
calculated_renamed so e n ms u (Copy a) i h = h
calculated_renamed so e n ms u (Slice x hi lo) i h = ap (λ (p : Operand). is_copy (sliced p hi lo)) (name_of so e n x i.0 i.2).1
calculated_renamed so e n ms u _ i h = refl

-- a right side is what it is without its operands, and these

abbrev none : Operand
none = Constant 0 0

abbrev shape : Right → Right
shape (Copy a) = Copy none
shape (One op a) = One op none
shape (Two op a b) = Two op none none
shape (Choose c a b) = Choose none none none
shape (Concat os) = Concat []
shape (Slice x hi lo) = Slice [] hi lo
shape (Cell m a) = Cell m none

abbrev operands : Right → List Operand
operands (Copy a) = a ∷ []
operands (One op a) = a ∷ []
operands (Two op a b) = a ∷ b ∷ []
operands (Choose c a b) = c ∷ a ∷ b ∷ []
operands (Concat os) = os
operands (Slice x hi lo) = Named x ∷ []
operands (Cell m a) = a ∷ []

abbrev first : List Operand → Operand
first [] = none
first (o ∷ os) = o

abbrev rest : List Operand → List Operand
rest [] = []
rest (o ∷ os) = os

abbrev name_in : Operand → Name
name_in (Named x) = x
name_in (Constant w n) = []

abbrev filled : Right → List Operand → Right
filled (Copy a) os = Copy (first os)
filled (One op a) os = One op (first os)
filled (Two op a b) os = Two op (first os) (first (rest os))
filled (Choose c a b) os = Choose (first os) (first (rest os)) (first (rest (rest os)))
filled (Concat ps) os = Concat os
filled (Slice x hi lo) os = Slice (name_in (first os)) hi lo
filled (Cell m a) os = Cell m (first os)

filled_back : (r : Right) → filled (shape r) (operands r) ≡ r
filled_back (Copy a) = refl
filled_back _ = refl

shape_renamed : (so : Scope) (e : Stands) → Renames so e → (ms : Shapes) (u : ℕ) (r : Right) → IsRight ms so u r → shape (replaced e r) ≡ shape r
shape_renamed so e n ms u (Slice x hi lo) i = ap (λ (p : Operand). shape (sliced p hi lo)) (name_of so e n x i.0 i.2).1
shape_renamed so e n ms u _ i = refl

operands_renamed : (so : Scope) (e : Stands) → Renames so e → (ms : Shapes) (u : ℕ) (r : Right) → IsRight ms so u r
    → operands (replaced e r) ≡ map (standing_operand e) (operands r)
operands_renamed so e n ms u (Slice x hi lo) i =
    subst (λ (p : Operand). operands (sliced p hi lo) ≡ p ∷ []) (sym (name_of so e n x i.0 i.2).1) refl
operands_renamed so e n ms u _ i = refl

abbrev IsFound : Scope → Operand → Type 0
IsFound so o = (u : ℕ) × IsOperand so u o

all_found : (so : Scope) (u : ℕ) (os : List Operand) → AreOperands so u os → AllByRecursion (IsFound so) os
all_found so u [] h = tt
all_found so u (o ∷ os) h = ((h.0, h.3), all_found so h.1 os h.4)

operands_found : (ms : Shapes) (so : Scope) (u : ℕ) (r : Right) → IsRight ms so u r → AllByRecursion (IsFound so) (operands r)
operands_found ms so u (Copy a) i = ((u, i), tt)
operands_found ms so u (One op a) i = ((i.0, i.2), tt)
operands_found ms so u (Two op a b) i = ((i.0, i.4), ((i.1, i.5), tt))
operands_found ms so u (Choose c a b) i = ((1, i.0), ((u, i.1), ((u, i.2), tt)))
operands_found ms so u (Concat os) i = all_found so u os i.1
operands_found ms so u (Slice x hi lo) i = ((i.0, i.2), tt)
operands_found ms so u (Cell m a) i = ((i.0, i.2), tt)

same_itself : (o : Operand) → same_operand o o ≡ true
same_itself (Named x) = bytes_eq_same x
same_itself (Constant w n) = rw (test_of_equal w w refl, test_of_equal n n refl) refl

operand_apart : (so : Scope) (e : Stands) → Renames so e → (o p : Operand) → IsFound so o → IsFound so p → standing_operand e o ≡ standing_operand e p → o ≡ p
operand_apart so e n o p h g i =
    same_is o p (sym (same_kept so e n h.0 g.0 o p h.1 g.1) ∙ ap (λ (q : Operand). same_operand (standing_operand e o) q) (sym i) ∙ same_itself (standing_operand e o))

operands_apart : (so : Scope) (e : Stands) → Renames so e → (os ps : List Operand) → AllByRecursion (IsFound so) os
    → AllByRecursion (IsFound so) ps → map (standing_operand e) os ≡ map (standing_operand e) ps → os ≡ ps
operands_apart so e n [] [] h g i = refl
operands_apart so e n (o ∷ os) (p ∷ ps) h g i =
    ap₂ (λ (q : Operand) (qs : List Operand). q ∷ qs) (operand_apart so e n o p h.0 g.0 (ap first i)) (operands_apart so e n os ps h.1 g.1 (ap rest i))
operands_apart so e n _ _ h g i = absurd (cc)

pub replaced_apart : (so : Scope) (e : Stands) → Renames so e → (ms : Shapes) (u t : ℕ) (r s : Right) → IsRight ms so u r → IsRight ms so t s → replaced e r ≡ replaced e s → r ≡ s
replaced_apart so e n ms u t r s i j h =
    let shapes = sym (shape_renamed so e n ms u r i) ∙ ap shape h ∙ shape_renamed so e n ms t s j in
    let same = sym (operands_renamed so e n ms u r i) ∙ ap operands h ∙ operands_renamed so e n ms t s j in
    sym (filled_back r) ∙ ap₂ filled shapes (operands_apart so e n (operands r) (operands s) (operands_found ms so u r i) (operands_found ms so t s j) same) ∙ filled_back s

-- a right side is replaced by the same where its names stand for the same

abbrev pub AgreeIn : Scope → (e f : Stands) → Type 0
AgreeIn so e f = (x : Name) (u : ℕ) → find so x ≡ Some u → f x ≡ e x

operand_agrees : (so : Scope) (e f : Stands) → AgreeIn so e f → (u : ℕ) (o : Operand) → IsOperand so u o → standing_operand f o ≡ standing_operand e o
operand_agrees so e f a u (Named x) h = ap (λ (o : Option Operand). unwrap_or o none) (a x u h)
operand_agrees so e f a u (Constant w n) h = refl

operands_agree : (so : Scope) (e f : Stands) → AgreeIn so e f → (os : List Operand) → AllByRecursion (IsFound so) os → map (standing_operand f) os ≡ map (standing_operand e) os
operands_agree so e f a [] h = refl
operands_agree so e f a (o ∷ os) h =
    ap₂ (λ (q : Operand) (qs : List Operand). q ∷ qs) (operand_agrees so e f a h.0.0 o h.0.1) (operands_agree so e f a os h.1)

pub replaced_agrees : (so : Scope) (e f : Stands) → AgreeIn so e f → (ms : Shapes) (u : ℕ) (r : Right) → IsRight ms so u r → replaced f r ≡ replaced e r
replaced_agrees so e f a ms u (Copy o) i = ap Copy (operand_agrees so e f a u o i)
replaced_agrees so e f a ms u (One op o) i = ap (One op) (operand_agrees so e f a i.0 o i.2)
replaced_agrees so e f a ms u (Two op o p) i = ap₂ (Two op) (operand_agrees so e f a i.0 o i.4) (operand_agrees so e f a i.1 p i.5)
replaced_agrees so e f a ms u (Choose c o p) i =
    let j = operand_agrees so e f a 1 c i.0 in
    let k = operand_agrees so e f a u o i.1 in
    let l = operand_agrees so e f a u p i.2 in
    cc
replaced_agrees so e f a ms u (Concat os) i = ap Concat (operands_agree so e f a os (all_found so u os i.1))
replaced_agrees so e f a ms u (Slice x hi lo) i = ap (λ (p : Operand). sliced p hi lo) (operand_agrees so e f a i.0 (Named x) i.2)
replaced_agrees so e f a ms u (Cell m o) i = ap (Cell m) (operand_agrees so e f a i.0 o i.2)
