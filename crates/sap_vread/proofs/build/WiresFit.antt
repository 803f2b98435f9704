-- Each wire reads what stands above it, and its widths fit.
use Rattle.sap_lemmas.proofs.Common.{◌≡◌, ℕ, ◌+◌, ◌-◌, ◌^◌, ◌<◌, ◌≤◌, List, [], ◌∷◌, ◌++◌, length, Bool, true, false, cond, Option, Some, None, refl, sym, ap, ◌∙◌, subst, inl, ⊎_elim, append_assoc, append-nil, ◌||◌, ◌&&◌, map, flat_map, nat_lt, AllByRecursion, bytes_eq, cases_Bool, cases_eq, lt-ltb, le-leb, or_left, all_parts, length_map, equal_of_bytes_eq}
use Rattle.sap_vtext.proofs.FaultsLemmas.{set_append}
use Rattle.sap_bits.specs.declared.Op1.{Op1}
use Rattle.sap_bits.specs.declared.Op1.TheVariants as unary
use Rattle.sap_bits.specs.declared.Op2.{Op2}
use Rattle.sap_bits.specs.declared.Op2.TheVariants as binary
use Rattle.sap_bits.specs.Arithmetic.{width1, width2}
use Rattle.sap_maps.specs.Prelude.{Name, CountFits, Scope, find}
use Rattle.sap_net.specs.Prelude.{IsWidth, IsOperand, AreOperands, IsRight, AreWires, readable_after, first_readable, readable, shapes}
use Rattle.sap_vtext.specs.Items.{Mention, Operand, Right, Item, File}
use Rattle.sap_vtext.specs.Items as item
use Rattle.sap_vtext.specs.Names.{Shape, wire, memory, declarations, shape_in, IsItemOf, shape_above, assign, target_of, is_target, is_set, known_above}
use Rattle.sap_vtext.specs.Widths.{operand_width, parts_width, add_widths, slice_width, memory_width, wire_width, constant_fits, value_width, unary_pairs, unary_rule, binary_pairs, binary_rule, pairs, Differ}
use Rattle.sap_vtext.specs.Faults.{as_cell, as_wire, suits, uses, operand_uses, constants, operand_constants, IsFaultless}
use Rattle.sap_vtext.specs.Modules.{netlist_of, net_operand, net_right, net_wires, declared_width}
use Rattle.sap_vtext.proofs.Good.{IsGoodUse, above_of}
use Rattle.sap_vread.proofs.build.Entries.{picked}
use Rattle.sap_vread.proofs.build.Sound.{good_uses, good_constants, good_pairs, good_index, assigned_first, slice_fits}
use Rattle.sap_vread.proofs.build.Parts.{all_declared, memory_shape, item_in, shape_below}
use Rattle.sap_vread.proofs.build.Readable.{value_of, fine_shape, memory_found, first_found, IsReadable, AssignsMore, operand_is, operand_wide}

some_same : {A : Type 0} (x y : A) → Some x ≡ Some y → x ≡ y
some_same x y e = cc

-- widths that don't differ
pub equal : (p q : Option ℕ) (u v : ℕ) → p ≡ Some u → q ≡ Some v → (Differ (p, q) → ⊥) → u ≡ v
equal None q u v e g d = absurd (cc)
equal (Some a) None u v e g d = absurd (cc)
equal (Some a) (Some b) u v e g d =
    ⊎_elim (λ s. sym (some_same a u e) ∙ s ∙ some_same b v g) (λ n. absurd (d n)) (cases_eq a b)

-- What is set above.

or_nothing : (a b : Bool) → b ≡ false → (a || (b || false)) ≡ a
or_nothing true b e = refl
or_nothing false true e = absurd (cc)
or_nothing false false e = refl

or_last : (a b : Bool) → b ≡ true → (a || (b || false)) ≡ true
or_last true b e = refl
or_last false true e = refl
or_last false false e = absurd (cc)

-- Operators.

one_fits : (op : Op1) (w u : ℕ) (target x : Option ℕ) → target ≡ Some w → x ≡ Some u → AllByRecursion (λ p. Differ p → ⊥) (unary_pairs (unary_rule op) target x)
    → w ≡ width1 op u
one_fits unary.Not w u target x e g ps = equal target x w u e g ps.0
one_fits unary.Neg w u target x e g ps = equal target x w u e g ps.0
one_fits _ w u target x e g ps = equal target (Some 1) w 1 e refl ps.0

abbrev TwoFits : Op2 → ℕ → ℕ → ℕ → Type 0
TwoFits op w u v = CountFits op u v × (w ≡ width2 op u)

abbrev AreEqual : Op2 → Option ℕ → Option ℕ → Option ℕ → Type 0
AreEqual op target x y = AllByRecursion (λ p. Differ p → ⊥) (binary_pairs (binary_rule op) target x y)

two_fits : (op : Op2) (w u v : ℕ) (target x y : Option ℕ) → target ≡ Some w → x ≡ Some u → y ≡ Some v → AreEqual op target x y → TwoFits op w u v
two_fits binary.Eq w u v target x y e g k ps = (sym (equal x y u v g k ps.1.0), equal target (Some 1) w 1 e refl ps.0)
two_fits binary.Ne w u v target x y e g k ps = (sym (equal x y u v g k ps.1.0), equal target (Some 1) w 1 e refl ps.0)
two_fits binary.Lt w u v target x y e g k ps = (sym (equal x y u v g k ps.1.0), equal target (Some 1) w 1 e refl ps.0)
two_fits binary.Le w u v target x y e g k ps = (sym (equal x y u v g k ps.1.0), equal target (Some 1) w 1 e refl ps.0)
two_fits binary.Shl w u v target x y e g k ps = (tt, equal target x w u e g ps.0)
two_fits binary.Shr w u v target x y e g k ps = (tt, equal target x w u e g ps.0)
two_fits _ w u v target x y e g k ps = (sym (equal x y u v g k ps.1.1.0), equal target x w u e g ps.0)

slice_is : (u high low : ℕ) → low ≤ high → high < u → slice_width (Some u) high low ≡ Some (high + 1 - low)
slice_is u high low p q =
    ap (λ b. cond (b && nat_lt high u) (Some (high + 1 - low)) None) (le-leb low high p)
    ∙ ap (λ b. cond b (Some (high + 1 - low)) None) (lt-ltb high u q)

-- a `{}` has two parts at least
abbrev pub HasParts : Item → Type 0
HasParts (item.assign x (item.concat parts)) = 2 ≤ length parts
HasParts _ = Unit {0}

module _ (f : File) (h : IsFaultless f) where
  more_same : (items : List Item) → AssignsMore f h items items
  more_same items n e = e

  -- an operand above an item, with its width
  record Reads (before : List Item) (sc : Scope) (o : Operand) : Type 0 where
    width : ℕ
    is : operand_width (known_above (above_of f.ports before)) o ≡ Some width
    fits : IsWidth width
    operand : IsOperand sc width (net_operand o)

  reads_at : (before after : List Item) (sc : Scope) → f.items ≡ before ++ after → IsReadable f h sc before → (o : Operand)
      → AllByRecursion (IsGoodUse (above_of f.ports before)) (operand_uses o) → AllByRecursion (λ c. constant_fits c ≡ true) (operand_constants o) → Reads before sc o
  reads_at before after sc e r o us cs =
      let w = operand_wide f h before after e o us cs in
      record { width = w.width; is = w.is; fits = w.fits; operand = operand_is f h before after before sc e (more_same before) r o w.width w.is cs }

  record ReadsAll (before : List Item) (sc : Scope) (os : List Operand) : Type 0 where
    width : ℕ
    is : parts_width (known_above (above_of f.ports before)) os ≡ Some width
    operands : AreOperands sc width (map net_operand os)

  reads_all : (before after : List Item) (sc : Scope) → f.items ≡ before ++ after → IsReadable f h sc before → (os : List Operand)
      → AllByRecursion (IsGoodUse (above_of f.ports before)) (flat_map operand_uses os)
      → AllByRecursion (λ c. constant_fits c ≡ true) (flat_map operand_constants os) → ReadsAll before sc os
  reads_all before after sc e r [] us cs = record { width = 0; is = refl; operands = refl }
  reads_all before after sc e r (o ∷ os) us cs =
      let u = all_parts (IsGoodUse (above_of f.ports before)) (operand_uses o) (flat_map operand_uses os) us in
      let c = all_parts (λ z. constant_fits z ≡ true) (operand_constants o) (flat_map operand_constants os) cs in
      let a = reads_at before after sc e r o u.0 c.0 in
      let b = reads_all before after sc e r os u.1 c.1 in
      record {
        width = a.width + b.width;
        is = ap (λ p. add_widths p (parts_width (known_above (above_of f.ports before)) os)) a.is ∙ ap (add_widths (Some a.width)) b.is;
        operands = (a.width, b.width, a.fits, a.operand, b.operands, refl);
      }

  right_is : (before after : List Item) (sc : Scope) (x : Mention) (right : Right) (w : ℕ) → f.items ≡ before ++ item.assign x right ∷ after → HasParts (item.assign x right)
      → IsReadable f h sc before → shape_in (declarations f.ports before) x.name ≡ Some (wire w)
      → IsItemOf f (above_of f.ports before) (item.assign x right) → AllByRecursion (IsGoodUse (above_of f.ports before)) (uses (item.assign x right))
      → AllByRecursion (λ c. constant_fits c ≡ true) (constants (item.assign x right))
      → AllByRecursion (λ p. Differ p → ⊥) (pairs (known_above (above_of f.ports before)) (item.assign x right)) → IsRight (shapes (netlist_of f)) sc w (net_right right)
  right_is before after sc x (item.copy o) w e two r s i us cs ps =
      let a = above_of f.ports before in
      let y = reads_at before (item.assign x (item.copy o) ∷ after) sc e r o us.1 cs in
      subst (λ z. IsOperand sc z (net_operand o))
      (sym (equal (wire_width (shape_above a x.name)) (operand_width (known_above a) o) w y.width (ap wire_width s) y.is ps.0)) y.operand
  right_is before after sc x (item.one op o) w e two r s i us cs ps =
      let a = above_of f.ports before in
      let y = reads_at before (item.assign x (item.one op o) ∷ after) sc e r o us.1 cs in
      (y.width, y.fits, y.operand, one_fits op w y.width (wire_width (shape_above a x.name)) (operand_width (known_above a) o) (ap wire_width s) y.is ps)
  right_is before after sc x (item.two op o q) w e two r s i us cs ps =
      let a = above_of f.ports before in
      let vs = all_parts (IsGoodUse a) (operand_uses o) (operand_uses q) us.1 in
      let ds = all_parts (λ c. constant_fits c ≡ true) (operand_constants o) (operand_constants q) cs in
      let y = reads_at before (item.assign x (item.two op o q) ∷ after) sc e r o vs.0 ds.0 in
      let z = reads_at before (item.assign x (item.two op o q) ∷ after) sc e r q vs.1 ds.1 in
      let t = two_fits op w y.width z.width (wire_width (shape_above a x.name)) (operand_width (known_above a) o)
      (operand_width (known_above a) q) (ap wire_width s) y.is z.is ps in
      (y.width, z.width, y.fits, z.fits, y.operand, z.operand, t.0, t.1)
  right_is before after sc x (item.choose c o q) w e two r s i us cs ps =
      let a = above_of f.ports before in
      let all_us = all_parts (IsGoodUse a) (operand_uses c) (operand_uses o ++ operand_uses q) us.1 in
      let vs = all_parts (IsGoodUse a) (operand_uses o) (operand_uses q) all_us.1 in
      let all_cs = all_parts (λ k. constant_fits k ≡ true) (operand_constants c) (operand_constants o ++ operand_constants q) cs in
      let ds = all_parts (λ k. constant_fits k ≡ true) (operand_constants o) (operand_constants q) all_cs.1 in
      let below = item.assign x (item.choose c o q) ∷ after in
      let b = reads_at before below sc e r c all_us.0 all_cs.0 in
      let y = reads_at before below sc e r o vs.0 ds.0 in
      let z = reads_at before below sc e r q vs.1 ds.1 in
      let target = wire_width (shape_above a x.name) in
      let one : b.width ≡ 1 = equal (operand_width (known_above a) c) (Some 1) b.width 1 b.is refl ps.0 in
      let first : w ≡ y.width = equal target (operand_width (known_above a) o) w y.width (ap wire_width s) y.is ps.1.0 in
      let second : w ≡ z.width = equal target (operand_width (known_above a) q) w z.width (ap wire_width s) z.is ps.1.1.0 in (
        subst (λ v. IsOperand sc v (net_operand c)) one b.operand,
        subst (λ v. IsOperand sc v (net_operand o)) (sym first) y.operand,
        subst (λ v. IsOperand sc v (net_operand q)) (sym second) z.operand,
      )
  right_is before after sc x (item.concat os) w e two r s i us cs ps =
      let a = above_of f.ports before in
      let y = reads_all before (item.assign x (item.concat os) ∷ after) sc e r os us.1 cs in
      let same : w ≡ y.width = equal (wire_width (shape_above a x.name)) (parts_width (known_above a) os) w y.width (ap wire_width s) y.is ps.0 in
      (subst (λ n. 2 ≤ n) (sym (length_map net_operand os)) two, subst (λ z. AreOperands sc z (map net_operand os)) (sym same) y.operands)
  right_is before after sc x (item.slice y high low) w e two r s i us cs ps =
      let a = above_of f.ports before in
      let z = reads_at before (item.assign x (item.slice y high low) ∷ after) sc e r (item.named y) us.1 tt in
      let v = value_of (shape_above a y.name) (is_set assign y.name before) z.width z.is in
      let q = slice_fits f h a x y high low v.shape i v.is in
      let below : high < z.width = subst (λ n. high < n) v.width q.1 in
      let width : slice_width (operand_width (known_above a) (item.named y)) high low ≡ Some (high + 1 - low) =
      ap (λ o. slice_width o high low) z.is ∙ slice_is z.width high low q.0 below in (
        z.width,
        z.fits,
        z.operand,
        q.0,
        below,
        equal (wire_width (shape_above a x.name)) (slice_width (operand_width (known_above a) (item.named y)) high low) w (high + 1 - low) (ap wire_width s) width ps.0,
      )
  right_is before after sc x (item.cell m index) w e two r s i us cs ps = by_shape us.1.0.shape us.1.0.declared us.1.0.suits where
    by_shape : (t : Shape) → shape_in (declarations f.ports before) m.name ≡ Some t → suits as_cell t ≡ true → IsRight (shapes (netlist_of f)) sc w (net_right (item.cell m index))
    by_shape (memory u depth) d k =
        let a = above_of f.ports before in
        let below = shape_below f before (item.assign x (item.cell m index) ∷ after) m.name (memory u depth) e d in
        let fine = fine_shape f h m.name (memory u depth) below in
        let b = fine.1.0 in
        let z = reads_at before (item.assign x (item.cell m index) ∷ after) sc e r index us.1.1 cs in
        let same : w ≡ u = equal (wire_width (shape_above a x.name)) (memory_width (shape_above a m.name)) w u (ap wire_width s) (ap memory_width d) ps.0 in
        let deep : shape_above a m.name ≡ Some (memory u (2 ^ b)) = d ∙ ap (λ n. Some (memory u n)) fine.1.1.2 in
        let wide : z.width ≡ b = good_index f h a (item.assign x (item.cell m index)) i m index (inl refl) u b z.width deep z.is in (
          b,
          memory_found f h m.name ∙ ap (picked memory_shape) below ∙ ap (λ n. let q : ℕ × ℕ = (n, depth) in Some q) (sym same)
              ∙ ap (λ n. let q : ℕ × ℕ = (w, n) in Some q) fine.1.1.2,
          subst (λ n. IsOperand sc n (net_operand index)) wide z.operand,
        )
    by_shape _ d k = absurd (cc)

  -- One item further.

  kept_reads : (sc : Scope) (before : List Item) (x : Item) → ((n : Name) → is_target assign n (target_of x) ≡ false) → IsReadable f h sc before
      → IsReadable f h sc (before ++ x ∷ [])
  kept_reads sc before x other r n =
      r n ∙ ap (value_width (shape_in (all_declared f) n))
      (sym (set_append assign n before (x ∷ []) ∙ or_nothing (is_set assign n before) (is_target assign n (target_of x)) (other n)))

  wire_reads : (sc : Scope) (before : List Item) (x : Mention) (right : Right) (w : ℕ) → shape_in (all_declared f) x.name ≡ Some (wire w) → IsReadable f h sc before
      → IsReadable f h ((x.name, w) ∷ sc) (before ++ item.assign x right ∷ [])
  wire_reads sc before x right w s r n =
      let set = set_append assign n before (item.assign x right ∷ []) in
      ⊎_elim
      (λ t. ap (λ b. cond b (Some w) (find sc n)) t
      ∙ sym (ap (value_width (shape_in (all_declared f) n)) (set ∙ or_last (is_set assign n before) (bytes_eq x.name n) t)
      ∙ ap (λ o. value_width o true) (subst (λ z. shape_in (all_declared f) z ≡ Some (wire w)) (equal_of_bytes_eq x.name n t) s)))
      (λ t. ap (λ b. cond b (Some w) (find sc n)) t ∙ r n
      ∙ ap (value_width (shape_in (all_declared f) n)) (sym (set ∙ or_nothing (is_set assign n before) (bytes_eq x.name n) t)))
      (cases_Bool (bytes_eq x.name n))

  -- the wires of the items from here on, and what can be read behind them
  abbrev WiresFrom : List Item → List Item → Scope → Type 0
  WiresFrom before rest sc =
      AreWires (shapes (netlist_of f)) sc (flat_map (net_wires (all_declared f)) rest)
      × IsReadable f h (readable_after sc (flat_map (net_wires (all_declared f)) rest)) (before ++ rest)

  step : (before : List Item) (x : Item) (rest : List Item) (sc : Scope) → WiresFrom (before ++ x ∷ []) rest sc
      → AreWires (shapes (netlist_of f)) sc (flat_map (net_wires (all_declared f)) rest)
      × IsReadable f h (readable_after sc (flat_map (net_wires (all_declared f)) rest)) (before ++ x ∷ rest)
  step before x rest sc w = (w.0, subst (λ z. IsReadable f h (readable_after sc (flat_map (net_wires (all_declared f)) rest)) z) (append_assoc before (x ∷ []) rest) w.1)

  abbrev HasAllParts : List Item → Type 0
  HasAllParts xs = AllByRecursion HasParts xs

  wires_from : (before rest : List Item) (sc : Scope) → f.items ≡ before ++ rest → HasAllParts rest → IsReadable f h sc before → WiresFrom before rest sc
  wires_from before [] sc e two r = (tt, subst (λ z. IsReadable f h sc z) (sym (append-nil before)) r)
  wires_from before (item.assign x right ∷ rest) sc e two r =
      by_shape us.0.shape us.0.declared us.0.suits
      (λ w g. wires_from (before ++ item.assign x right ∷ []) rest ((x.name, w) ∷ sc) (e ∙ sym (append_assoc before (item.assign x right ∷ []) rest)) two.1 g) where
        i : IsItemOf f (above_of f.ports before) (item.assign x right)
        i = item_in f (item.assign x right) (record { before = before; after = rest; is = e })

        us : AllByRecursion (IsGoodUse (above_of f.ports before)) (uses (item.assign x right))
        us = good_uses f h (above_of f.ports before) (item.assign x right) i

        by_shape : (t : Shape) → shape_in (declarations f.ports before) x.name ≡ Some t → suits as_wire t ≡ true
            → ((w : ℕ) → IsReadable f h ((x.name, w) ∷ sc) (before ++ item.assign x right ∷ []) → WiresFrom (before ++ item.assign x right ∷ []) rest ((x.name, w) ∷ sc))
            → WiresFrom before (item.assign x right ∷ rest) sc
        by_shape (wire w) d k go =
            let below = shape_below f before (item.assign x right ∷ rest) x.name (wire w) e d in
            let fresh : find sc x.name ≡ None =
            r x.name ∙ ap (λ o. value_width o (is_set assign x.name before)) below
            ∙ ap (value_width (Some (wire w))) (assigned_first f h (above_of f.ports before) x right w i d) in
            let later = go w (wire_reads sc before x right w below r) in
            let all = step before (item.assign x right) rest ((x.name, w) ∷ sc) later in
            let ms = shapes (netlist_of f) in
            let ws = flat_map (net_wires (all_declared f)) rest in
            subst (λ v. (IsWidth v × (find sc x.name ≡ None) × (find ms x.name ≡ None) × IsRight ms sc v (net_right right) × AreWires ms ((x.name, v) ∷ sc) ws)
            × IsReadable f h (readable_after ((x.name, v) ∷ sc) ws) (before ++ item.assign x right ∷ rest))
            (sym (ap declared_width below)) (
              (
                fine_shape f h x.name (wire w) below,
                fresh,
                memory_found f h x.name ∙ ap (picked memory_shape) below,
                right_is before rest sc x right w e two.0 r d i us
                    (good_constants f h (above_of f.ports before) (item.assign x right) i)
                    (good_pairs f h (above_of f.ports before) (item.assign x right) (record { setting = assign; name = x }) i refl),
                all.0,
              ),
              all.1,
            )
        by_shape _ d k go = absurd (cc)
  wires_from before (x ∷ rest) sc e two r =
      let g = kept_reads sc before x (λ n. refl) r in
      step before x rest sc (wires_from (before ++ x ∷ []) rest sc (e ∙ sym (append_assoc before (x ∷ []) rest)) two.1 g)

  nothing_set : IsReadable f h (first_readable (netlist_of f)) []
  nothing_set n = first_found f h n

  pub wires_are : AllByRecursion HasParts f.items → AreWires (shapes (netlist_of f)) (first_readable (netlist_of f)) (netlist_of f).wires
  wires_are two = (wires_from [] f.items (first_readable (netlist_of f)) refl two nothing_set).0

  pub last_reads : AllByRecursion HasParts f.items → IsReadable f h (readable (netlist_of f)) f.items
  last_reads two = (wires_from [] f.items (first_readable (netlist_of f)) refl two nothing_set).1

  pub more_below : (before after : List Item) → f.items ≡ before ++ after → AssignsMore f h before f.items
  more_below before after e n s = ap (is_set assign n) e ∙ set_append assign n before after ∙ or_left (is_set assign n before) (is_set assign n after) s
