-- What a wire, a register or a memory reads is used without a fault where it can be read.
use Rattle.sap_lemmas.proofs.Common.{◌≡◌, ℕ, ◌+◌, ◌-◌, ◌^◌, ◌<◌, ◌≤◌, List, [], ◌∷◌, Bool, true, false, cond, ltb, leb, Option, Some, None, refl, sym, ap, ◌∙◌, subst, arith, ◌&&◌, map, flat_map, AllByRecursion, nat_tests, all_append, same_power}
use Rattle.sap_bits.specs.Arithmetic.{width1, width2}
use Rattle.sap_bits.specs.declared.Op1.{Op1}
use Rattle.sap_bits.specs.declared.Op1.TheVariants as unary
use Rattle.sap_bits.specs.declared.Op2.{Op2}
use Rattle.sap_bits.specs.declared.Op2.TheVariants as binary
use Rattle.sap_maps.specs.Prelude.{Name, Scope, find, CountFits}
use Rattle.sap_net.specs.Prelude.{Net, IsWidth, IsOperand, AreOperands, IsRight, shapes}
use Rattle.sap_net.specs.declared.parts.Operand.{Operand}
use Rattle.sap_net.specs.declared.parts.Operand.TheVariants.{Named, Constant}
use Rattle.sap_net.specs.declared.parts.Right.{Right}
use Rattle.sap_net.specs.declared.parts.Right.TheVariants as right
use Rattle.sap_vtext.specs.Items as item
use Rattle.sap_vtext.specs.Names.{Shape, input, wire, register, memory, Above, shape_above, assign, is_set, known_above}
use Rattle.sap_vtext.specs.Widths.{shape_width, constant_fits, constant_width, value_width, operand_width, add_widths, parts_width, slice_width, unary_rule, binary_rule, unary_pairs, binary_pairs, right_pairs, Differ, memory_width}
use Rattle.sap_vtext.specs.Faults.{as_value, suits, operand_uses, right_uses, operand_constants, right_constants, right_indexes}
use Rattle.sap_vtext.proofs.Good.{IsGoodUse, IsGoodIndex, IsFit}
use Rattle.sap_vprint.specs.Printed.{mention, constant, entities, operand_of, right_of}

-- all declared names are above, and what can be read is an input, a register or an assigned wire there
pub record Sees (n : Net) (a : Above) (readable : Scope) : Type 0 where
  pub found : (x : Name) → shape_above a x ≡ find (entities n) x
  pub values : (x : Name) (w : ℕ) → find readable x ≡ Some w → value_width (find (entities n) x) (is_set assign x a.items) ≡ Some w
  pub cells : (x : Name) (w d : ℕ) → find (shapes n) x ≡ Some (w, d) → find (entities n) x ≡ Some (memory w d)
  pub deep : (x : Name) (w b : ℕ) → find (shapes n) x ≡ Some (w, 2 ^ b) → IsWidth b

-- a shape that has a value
record Valued (o : Option Shape) (b : Bool) (w : ℕ) : Type 0 where
  shape : Shape
  is : o ≡ Some shape
  suits : suits as_value shape ≡ true
  assigned : (u : ℕ) → shape ≡ wire u → b ≡ true
  width : shape_width shape ≡ w

valued : (o : Option Shape) (b : Bool) (w : ℕ) → value_width o b ≡ Some w → Valued o b w
valued None b w h = absurd (cc)
valued (Some (input v)) b w h = record { shape = input v; is = refl; suits = refl; assigned = λ u e. absurd (cc); width = cc }
valued (Some (register v)) b w h = record { shape = register v; is = refl; suits = refl; assigned = λ u e. absurd (cc); width = cc }
valued (Some (wire v)) true w h = record { shape = wire v; is = refl; suits = refl; assigned = λ u e. refl; width = cc }
valued (Some (wire v)) false w h = absurd (cc)
valued (Some (memory v d)) b w h = absurd (cc)

pub fits_is : (w v : ℕ) → IsWidth w → v < 2 ^ w → constant_fits (constant w v) ≡ true
fits_is w v h g = both (leb 1 w) (leb w 64) (ltb v (2 ^ w)) (le_true 1 w h.0) (le_true w 64 h.1) (lt_true v (2 ^ w) g) where
  both : (a b c : Bool) → a ≡ true → b ≡ true → c ≡ true → (a && (b && c)) ≡ true
  both a b c p q r = cc

  le_true : (x y : ℕ) → x ≤ y → leb x y ≡ true
  le_true x y e = grind (arith, nat_tests)

  lt_true : (x y : ℕ) → x < y → ltb x y ≡ true
  lt_true x y e = grind (arith, nat_tests)

pub constant_is : (w v : ℕ) → constant_fits (constant w v) ≡ true → constant_width (constant w v) ≡ Some w
constant_is w v h = ap (λ b. cond b (Some w) None) h

pub no_differ : (p q : Option ℕ) (w : ℕ) → p ≡ Some w → q ≡ Some w → Differ (p, q) → ⊥
no_differ p q w e f d =
    let g : Differ (Some w, q) = subst (λ z. Differ (z, q)) e d in
    let k : Differ (Some w, Some w) = subst (λ z. Differ (Some w, z)) f g in
    k refl

module _ (n : Net) (a : Above) (readable : Scope) (sees : Sees n a readable) where
  pub value_good : (x : Name) (w : ℕ) → find readable x ≡ Some w → IsGoodUse a (record { manner = as_value; name = mention x })
  value_good x w h =
      let v = valued (find (entities n) x) (is_set assign x a.items) w (sees.values x w h) in
      record { shape = v.shape; declared = sees.found x ∙ v.is; suits = v.suits; assigned = λ u m e. v.assigned u e }

  pub operand_good : (o : Operand) (w : ℕ) → IsOperand readable w o → AllByRecursion (IsGoodUse a) (operand_uses (operand_of o))
  operand_good (Named x) w h = (value_good x w h, tt)
  operand_good (Constant u v) w h = tt

  pub operand_fits : (o : Operand) (w : ℕ) → IsWidth w → IsOperand readable w o → AllByRecursion (λ c. constant_fits c ≡ true) (operand_constants (operand_of o))
  operand_fits (Named x) w g h = tt
  operand_fits (Constant u v) w g h = (fits_is u v (subst IsWidth (sym h.0) g) (subst (λ z. v < 2 ^ z) (sym h.0) h.1), tt)

  pub operand_is : (o : Operand) (w : ℕ) → IsWidth w → IsOperand readable w o → operand_width (known_above a) (operand_of o) ≡ Some w
  operand_is (Named x) w g h = ap (λ s. value_width s (is_set assign x a.items)) (sees.found x) ∙ sees.values x w h
  operand_is (Constant u v) w g h =
      constant_is u v (fits_is u v (subst IsWidth (sym h.0) g) (subst (λ z. v < 2 ^ z) (sym h.0) h.1)) ∙ ap (λ z. Some z) h.0

  -- the parts of a `{}`
  parts_good : (os : List Operand) (w : ℕ) → AreOperands readable w os → AllByRecursion (IsGoodUse a) (flat_map operand_uses (map operand_of os))
  parts_good [] w h = tt
  parts_good (o ∷ os) w h = all_append (IsGoodUse a) (operand_uses (operand_of o)) _ (operand_good o h.0 h.3) (parts_good os h.1 h.4)

  parts_fit : (os : List Operand) (w : ℕ) → AreOperands readable w os → AllByRecursion (λ c. constant_fits c ≡ true) (flat_map operand_constants (map operand_of os))
  parts_fit [] w h = tt
  parts_fit (o ∷ os) w h = all_append (λ c. constant_fits c ≡ true) (operand_constants (operand_of o)) _ (operand_fits o h.0 h.2 h.3) (parts_fit os h.1 h.4)

  parts_are : (os : List Operand) (w : ℕ) → AreOperands readable w os → parts_width (known_above a) (map operand_of os) ≡ Some w
  parts_are [] w h = ap (λ z. Some z) (sym h)
  parts_are (o ∷ os) w h =
      ap (λ z. add_widths z (parts_width (known_above a) (map operand_of os))) (operand_is o h.0 h.2 h.3)
      ∙ ap (add_widths (Some h.0)) (parts_are os h.1 h.4) ∙ ap (λ z. Some z) (sym h.5)

  pub right_good : (w : ℕ) (r : Right) → IsRight (shapes n) readable w r → AllByRecursion (IsGoodUse a) (right_uses (right_of r))
  right_good w (right.Copy x) h = operand_good x w h
  right_good w (right.One op x) h = operand_good x h.0 h.2
  right_good w (right.Two op x y) h = all_append (IsGoodUse a) (operand_uses (operand_of x)) (operand_uses (operand_of y)) (operand_good x h.0 h.4) (operand_good y h.1 h.5)
  right_good w (right.Choose c x y) h =
      all_append (IsGoodUse a) (operand_uses (operand_of c)) _ (operand_good c 1 h.0)
      (all_append (IsGoodUse a) (operand_uses (operand_of x)) (operand_uses (operand_of y)) (operand_good x w h.1) (operand_good y w h.2))
  right_good w (right.Concat os) h = parts_good os w h.1
  right_good w (right.Slice x hi lo) h = (value_good x h.0 h.2, tt)
  right_good w (right.Cell m i) h =
      (record { shape = memory w (2 ^ h.0); declared = sees.found m ∙ sees.cells m w (2 ^ h.0) h.1; suits = refl; assigned = λ u e f. absurd (cc) }, operand_good i h.0 h.2)

  pub right_fits : (w : ℕ) (r : Right) → IsWidth w → IsRight (shapes n) readable w r → AllByRecursion (λ c. constant_fits c ≡ true) (right_constants (right_of r))
  right_fits w (right.Copy x) g h = operand_fits x w g h
  right_fits w (right.One op x) g h = operand_fits x h.0 h.1 h.2
  right_fits w (right.Two op x y) g h = all_append (λ c. constant_fits c ≡ true) (operand_constants (operand_of x)) _ (operand_fits x h.0 h.2 h.4) (operand_fits y h.1 h.3 h.5)
  right_fits w (right.Choose c x y) g h =
      all_append (λ c. constant_fits c ≡ true) (operand_constants (operand_of c)) _ (operand_fits c 1 (omega arith, omega arith) h.0)
      (all_append (λ c. constant_fits c ≡ true) (operand_constants (operand_of x)) _ (operand_fits x w g h.1) (operand_fits y w g h.2))
  right_fits w (right.Concat os) g h = parts_fit os w h.1
  right_fits w (right.Slice x hi lo) g h = tt
  right_fits w (right.Cell m i) g h = operand_fits i h.0 (sees.deep m w h.0 h.1) h.2

  abbrev NoPair : Option ℕ × Option ℕ → Type 0
  NoPair p = Differ p → ⊥

  unary_equal : (op : Op1) (w u : ℕ) (t x : Option ℕ) → w ≡ width1 op u → t ≡ Some w → x ≡ Some u → AllByRecursion NoPair (unary_pairs (unary_rule op) t x)
  unary_equal unary.Not w u t x e p q = (no_differ t x w p (q ∙ ap (λ z. Some z) (sym e)), tt)
  unary_equal unary.Neg w u t x e p q = (no_differ t x w p (q ∙ ap (λ z. Some z) (sym e)), tt)
  unary_equal _ w u t x e p q = (no_differ t (Some 1) 1 (p ∙ ap (λ z. Some z) e) refl, tt)

  all_one : (w u v : ℕ) (t x y : Option ℕ) → w ≡ u → v ≡ u → t ≡ Some w → x ≡ Some u → y ≡ Some v → AllByRecursion NoPair ((t, x) ∷ (t, y) ∷ (x, y) ∷ [])
  all_one w u v t x y e f p q r =
      let a : t ≡ Some u = p ∙ ap (λ z. Some z) e in
      let b : y ≡ Some u = r ∙ ap (λ z. Some z) f in
      (no_differ t x u a q, (no_differ t y u a b, (no_differ x y u q b, tt)))

  compared_one : (w u v : ℕ) (t x y : Option ℕ) → w ≡ 1 → v ≡ u → t ≡ Some w → x ≡ Some u → y ≡ Some v → AllByRecursion NoPair ((t, Some 1) ∷ (x, y) ∷ [])
  compared_one w u v t x y e f p q r = (no_differ t (Some 1) 1 (p ∙ ap (λ z. Some z) e) refl, (no_differ x y u q (r ∙ ap (λ z. Some z) f), tt))

  first_one : (w u : ℕ) (t x : Option ℕ) → w ≡ u → t ≡ Some w → x ≡ Some u → AllByRecursion NoPair ((t, x) ∷ [])
  first_one w u t x e p q = (no_differ t x u (p ∙ ap (λ z. Some z) e) q, tt)

  binary_equal : (op : Op2) (w u v : ℕ) (t x y : Option ℕ) → w ≡ width2 op u → CountFits op u v → t ≡ Some w → x ≡ Some u → y ≡ Some v
      → AllByRecursion NoPair (binary_pairs (binary_rule op) t x y)
  binary_equal binary.Eq w u v t x y e f p q r = compared_one w u v t x y e f p q r
  binary_equal binary.Ne w u v t x y e f p q r = compared_one w u v t x y e f p q r
  binary_equal binary.Lt w u v t x y e f p q r = compared_one w u v t x y e f p q r
  binary_equal binary.Le w u v t x y e f p q r = compared_one w u v t x y e f p q r
  binary_equal binary.Shl w u v t x y e f p q r = first_one w u t x e p q
  binary_equal binary.Shr w u v t x y e f p q r = first_one w u t x e p q
  binary_equal _ w u v t x y e f p q r = all_one w u v t x y e f p q r

  slice_is : (w u hi lo : ℕ) → lo ≤ hi → hi < u → w ≡ hi + 1 - lo → slice_width (Some u) hi lo ≡ Some w
  slice_is w u hi lo low high e = in_range (leb lo hi) (ltb hi u) (grind (arith, nat_tests)) (grind (arith, nat_tests)) ∙ ap (λ z. Some z) (sym e) where
    in_range : (b c : Bool) → b ≡ true → c ≡ true → cond (b && c) (Some (hi + 1 - lo)) None ≡ Some (hi + 1 - lo)
    in_range b c p q = cc

  pub right_equal : (w : ℕ) (r : Right) (t : Option ℕ) → IsWidth w → t ≡ Some w → IsRight (shapes n) readable w r
      → AllByRecursion NoPair (right_pairs (known_above a) t (right_of r))
  right_equal w (right.Copy x) t g p h = (no_differ t _ w p (operand_is x w g h), tt)
  right_equal w (right.One op x) t g p h = unary_equal op w h.0 t (operand_width (known_above a) (operand_of x)) h.3 p (operand_is x h.0 h.1 h.2)
  right_equal w (right.Two op x y) t g p h =
      binary_equal op w h.0 h.1 t (operand_width (known_above a) (operand_of x)) (operand_width (known_above a) (operand_of y)) h.7 h.6 p
      (operand_is x h.0 h.2 h.4) (operand_is y h.1 h.3 h.5)
  right_equal w (right.Choose c x y) t g p h =
      let one : IsWidth 1 = (omega arith, omega arith) in (
        no_differ _ (Some 1) 1 (operand_is c 1 one h.0) refl,
        (no_differ t _ w p (operand_is x w g h.1), (no_differ t _ w p (operand_is y w g h.2), (no_differ _ _ w (operand_is x w g h.1) (operand_is y w g h.2), tt))),
      )
  right_equal w (right.Concat os) t g p h = (no_differ t _ w p (parts_are os w h.1), tt)
  right_equal w (right.Slice x hi lo) t g p h =
      (no_differ t _ w p (ap (λ z. slice_width z hi lo) (operand_is (Named x) h.0 h.1 h.2) ∙ slice_is w h.0 hi lo h.3 h.4 h.5), tt)
  right_equal w (right.Cell m i) t g p h = (no_differ t _ w p (ap memory_width (sees.found m ∙ sees.cells m w (2 ^ h.0) h.1)), tt)

  pub index_good : (m : Name) (i : Operand) (b w : ℕ) → IsWidth b → shape_above a m ≡ Some (memory w (2 ^ b)) → IsOperand readable b i
      → IsGoodIndex a (mention m, operand_of i)
  index_good m i b w g s h v c u e f =
      let p = operand_is i b g h in
      let depths : 2 ^ b ≡ 2 ^ c = same_depth (sym s ∙ e) in
      let same = same_power b c depths in
      let q : Some b ≡ Some u = sym p ∙ f in cc where
        same_depth : {x y z w : ℕ} → Some (memory x y) ≡ Some (memory z w) → y ≡ w
        same_depth k = cc

  pub right_indexed : (w : ℕ) (r : Right) → IsRight (shapes n) readable w r → AllByRecursion (IsGoodIndex a) (right_indexes (right_of r))
  right_indexed w (right.Cell m i) h = (index_good m i h.0 w (sees.deep m w h.0 h.1) (sees.found m ∙ sees.cells m w (2 ^ h.0) h.1) h.2, tt)
  right_indexed w _ h = tt

  shape_width_is : (x : Name) (u : ℕ) (s : Shape) → find readable x ≡ Some u → shape_above a x ≡ Some s → shape_width s ≡ u
  shape_width_is x u s f e =
      let v = valued (find (entities n) x) (is_set assign x a.items) u (sees.values x u f) in
      let same : Some v.shape ≡ Some s = sym v.is ∙ sym (sees.found x) ∙ e in
      let p : v.shape ≡ s = cc in
      ap shape_width (sym p) ∙ v.width

  pub right_fit : (x : Name) (w : ℕ) (r : Right) → IsWidth w → IsRight (shapes n) readable w r → IsFit a (item.assign (mention x) (right_of r))
  right_fit x w (right.Concat os) g h = λ v e. let p : Some w ≡ Some v = sym (parts_are os w h.1) ∙ e in let q : w ≡ v = cc in let top = g.1 in omega arith
  right_fit x w (right.Slice y hi lo) g h = λ s e. let q = shape_width_is y h.0 s h.2 e in (h.3, subst (λ z. hi < z) (sym q) h.4)
  right_fit x w _ g h = tt
