-- Slices of slices, of parts of concatenations, and of whole wires.
use Rattle.sap_lemmas.proofs.Common.{◌≡◌, ℕ, suc, ◌+◌, ◌-◌, ◌*◌, ◌/◌, ◌%◌, ◌^◌, ◌<◌, ◌≤◌, ◌==◌, List, [], ◌∷◌, ◌++◌, length, take, drop, get_or, Option, Some, None, true, sym, ap, ap₂, ◌∙◌, subst, refl, arith, IfSome, add-mul, mul_comm, mod-lt, mod-eq_of_lt, pow_pos, take-append-drop, length-take, pow-add, div-mul-add, nat_tests, le-leb, lt-ltb}
use Rattle.std.proofs.Common.{drop-cons}
use Rattle.std.proofs.Math.Nat.{mul_assoc, div-add-mod, add-mul-mod_self_right, add-mul-div_right}
use Rattle.std.proofs.lemmas.Nat.{shr-shr}
use Rattle.sap_bits.specs.Arithmetic.{slice_of}
use Rattle.sap_maps.specs.Prelude.{Name, Valuation, Scope, find}
use Rattle.sap_net.specs.Prelude.{Shapes, IsWidth, IsOperand, AreOperands, IsRight, readable_after, operand_value, operands_width, operands_value, right_value}
use Rattle.sap_net.specs.declared.parts.Operand.{Operand}
use Rattle.sap_net.specs.declared.parts.Operand.TheVariants.{Named, Constant}
use Rattle.sap_net.specs.declared.parts.Right.{Right}
use Rattle.sap_net.specs.declared.parts.Right.TheVariants.{Copy, Concat, Slice}
use Rattle.sap_net.specs.declared.parts.Wire.{Wire}
use Rattle.sap_net.proofs.Within.{operands_below}
use Rattle.sap_fold.specs.Equals.{Equals}
use Rattle.sap_fold.specs.Wires.{HasWire}
use Rattle.sap_fold.specs.Seen.{Defines}
use Rattle.sap_fold.specs.Slices.{sliced, HasWidth, HaveWidth, IsPartAt, OfParts, SlicesRight}
use Rattle.sap_fold.proofs.Parting.{are_front, values_both, parts_wide}
use Rattle.sap_fold.proofs.Sees.{defined_right, defined_same, defined_behind}

-- numbers

-- bits within the last u ones don't see what stands before them
window : (a u o l k : ℕ) → l + k ≤ u → (a * 2 ^ u + o) / 2 ^ l % 2 ^ k ≡ o / 2 ^ l % 2 ^ k
window a u o l k h =
    let p : 2 ^ u ≡ 2 ^ (u - l) * 2 ^ l = let e : u ≡ u - l + l = omega (arith, h) in ap (λ (n : ℕ). 2 ^ n) e ∙ pow-add 2 (u - l) l in
    let q : 2 ^ (u - l) ≡ 2 ^ (u - l - k) * 2 ^ k = let e : u - l ≡ u - l - k + k = omega (arith, h) in ap (λ (n : ℕ). 2 ^ n) e ∙ pow-add 2 (u - l - k) k in
    let x : a * 2 ^ u ≡ a * 2 ^ (u - l) * 2 ^ l = ap (λ (n : ℕ). a * n) p ∙ sym (mul_assoc a (2 ^ (u - l)) (2 ^ l)) in
    let y : a * 2 ^ (u - l) ≡ a * 2 ^ (u - l - k) * 2 ^ k = ap (λ (n : ℕ). a * n) q ∙ sym (mul_assoc a (2 ^ (u - l - k)) (2 ^ k)) in
    let z : a * 2 ^ u + o ≡ o + a * 2 ^ (u - l) * 2 ^ l = omega (arith, x) in
    ap (λ (n : ℕ). n / 2 ^ l % 2 ^ k) z
    ∙ ap (λ (n : ℕ). n % 2 ^ k) (add-mul-div_right o (a * 2 ^ (u - l)) (pow_pos l))
    ∙ ap (λ (n : ℕ). (o / 2 ^ l + n) % 2 ^ k) y
    ∙ add-mul-mod_self_right (o / 2 ^ l) (a * 2 ^ (u - l - k)) (2 ^ k)

split_at : (n w : ℕ) → n ≡ n / 2 ^ w * 2 ^ w + n % 2 ^ w
split_at n w = sym (ap (λ (m : ℕ). m + n % 2 ^ w) (mul_comm (n / 2 ^ w) (2 ^ w)) ∙ div-add-mod n (2 ^ w))

slice_twice : (n h l hi lo : ℕ) → lo ≤ hi → hi < h + 1 - l → slice_of (slice_of n h l) hi lo ≡ slice_of n (hi + l) (lo + l)
slice_twice n h l hi lo a b =
    let m = n / 2 ^ l in
    let w = h + 1 - l in
    let k = hi + 1 - lo in
    let e : (m / 2 ^ w * 2 ^ w + m % 2 ^ w) / 2 ^ lo % 2 ^ k ≡ m % 2 ^ w / 2 ^ lo % 2 ^ k = window (m / 2 ^ w) w (m % 2 ^ w) lo k (omega (arith, a, b)) in
    let f : m / 2 ^ lo ≡ n / 2 ^ (lo + l) = shr-shr n l lo ∙ ap (λ (i : ℕ). n / 2 ^ i) (omega arith) in
    let g : k ≡ hi + l + 1 - (lo + l) = omega (arith, a) in
    sym e ∙ ap (λ (i : ℕ). i / 2 ^ lo % 2 ^ k) (sym (split_at m w)) ∙ ap (λ (i : ℕ). i % 2 ^ k) f ∙ ap (λ (i : ℕ). n / 2 ^ (lo + l) % 2 ^ i) g

-- a part with u bits, with `a` in front and r bits of `b` behind
slice_part : (a u o b r hi lo : ℕ) → b < 2 ^ r → r ≤ lo → lo ≤ hi → hi < r + u → slice_of (a * 2 ^ (u + r) + (o * 2 ^ r + b)) hi lo ≡ slice_of o (hi - r) (lo - r)
slice_part a u o b r hi lo h c d e =
    let k = hi + 1 - lo in
    let p : 2 ^ (u + r) ≡ 2 ^ u * 2 ^ r = pow-add 2 u r in
    let x : a * 2 ^ (u + r) ≡ a * 2 ^ u * 2 ^ r = ap (λ (n : ℕ). a * n) p ∙ sym (mul_assoc a (2 ^ u) (2 ^ r)) in
    let y : (a * 2 ^ u + o) * 2 ^ r ≡ a * 2 ^ u * 2 ^ r + o * 2 ^ r = add-mul (a * 2 ^ u) o (2 ^ r) in
    let z : a * 2 ^ (u + r) + (o * 2 ^ r + b) ≡ (a * 2 ^ u + o) * 2 ^ r + b = omega (arith, x, y) in
    let s : lo ≡ r + (lo - r) = omega (arith, c) in
    let t : k ≡ hi - r + 1 - (lo - r) = omega (arith, c, d) in
    ap (λ (n : ℕ). n / 2 ^ lo % 2 ^ k) z
    ∙ ap (λ (i : ℕ). ((a * 2 ^ u + o) * 2 ^ r + b) / 2 ^ i % 2 ^ k) s
    ∙ ap (λ (n : ℕ). n % 2 ^ k) (sym (shr-shr ((a * 2 ^ u + o) * 2 ^ r + b) r (lo - r)))
    ∙ ap (λ (n : ℕ). n / 2 ^ (lo - r) % 2 ^ k) (div-mul-add (a * 2 ^ u + o) (2 ^ r) b h)
    ∙ window a u o (lo - r) k (omega (arith, c, d, e))
    ∙ ap (λ (i : ℕ). o / 2 ^ (lo - r) % 2 ^ i) t

-- slices of operands

slice_below : (n hi lo : ℕ) → slice_of n hi lo < 2 ^ (hi + 1 - lo)
slice_below n hi lo = mod-lt _ (pow_pos _)

pub sliced_fits : (ms : Shapes) (sn : Scope) (u t hi lo : ℕ) (o : Operand) → IsWidth u → IsOperand sn u o → lo ≤ hi → hi < u → t ≡ hi + 1 - lo → IsRight ms sn t (sliced o hi lo)
sliced_fits ms sn u t hi lo (Named x) w h a b e = (u, w, h, a, b, e)
sliced_fits ms sn u t hi lo (Constant k n) w h a b e =
    let p = le-leb lo hi a in
    let q = lt-ltb hi 64 (omega (arith, w.1)) in
    rw (p, q) (sym e, rw e (slice_below n hi lo))

pub sliced_value : (ww : Name → ℕ) (w : Valuation) (hi lo : ℕ) (o : Operand) → lo ≤ hi → hi < 64 → slice_of (operand_value w o) hi lo ≡ right_value ww w (sliced o hi lo)
sliced_value ww w hi lo (Named x) a b = refl
sliced_value ww w hi lo (Constant k n) a b =
    let p = le-leb lo hi a in
    let q = lt-ltb hi 64 b in
    rw (p, q) refl

-- slices of wires

pub slice_of_slice : (ws : List Wire) (u : ℕ) (x y : Name) (h l hi lo : ℕ) → Defines ws (Named x) (Slice y h l) → Equals ws u (Slice x hi lo) (Slice y (hi + l) (lo + l))
slice_of_slice ws u x y h l hi lo k =
    record {
      fits = λ ms sc f a.
          let r = defined_right ms sc ws (Named x) (Slice y h l) a.0 f a.2 k in
          (r.0, r.1, r.2, omega (arith, a.3), omega (arith, a.4, r.4, r.5, r.3), omega (arith, a.5, a.3));
      same = λ ms sc widths v o a.
          let r = defined_right ms sc ws (Named x) (Slice y h l) a.0 o.wires a.2 k in
          ap (λ (n : ℕ). slice_of n hi lo) (defined_same widths v ws (Named x) (Slice y h l) o.holds k)
          ∙ slice_twice (v.value y) h l hi lo a.3 (omega (arith, a.4, r.5));
    }

-- the width of a wire
pub wire_wide : (ws : List Wire) (x : Name) (w : Wire) → HasWire ws x w → HasWidth ws (Named x) w.width
wire_wide ws x w h ms sc t a f =
    let b = defined_behind ms sc ws x w a h in
    let e : Some t ≡ Some w.width = sym f ∙ subst (λ (n : Name). find (readable_after sc ws) n ≡ Some w.width) h.named b.1 in cc

pub slice_whole : (ws : List Wire) (u : ℕ) (x : Name) (w : Wire) (hi : ℕ) → HasWire ws x w → w.width ≡ hi + 1 → Equals ws u (Slice x hi 0) (Copy (Named x))
slice_whole ws u x w hi h e =
    record {
      fits = λ ms sc f a.
          let i : a.0 ≡ w.width = wire_wide ws x w h ms sc a.0 f a.2 in
          let j : u ≡ a.0 = omega (arith, i, e, a.5) in
          subst (λ (n : ℕ). find (readable_after sc ws) x ≡ Some n) (sym j) a.2;
      same = λ ms sc widths v o a.
          let i : a.0 ≡ w.width = wire_wide ws x w h ms sc a.0 o.wires a.2 in
          let l : v.value x < 2 ^ a.0 = o.below x a.0 a.2 in
          let n : a.0 ≡ hi + 1 = i ∙ e in
          let m : v.value x / 1 ≡ v.value x = omega arith in
          let d : hi + 1 - 0 ≡ hi + 1 = omega arith in
          ap₂ (λ (y z : ℕ). z % 2 ^ y) d m ∙ mod-eq_of_lt (subst (λ (z : ℕ). v.value x < 2 ^ z) n l);
    }

-- a slice of one part

record PartIn (sc : Scope) (w u r : ℕ) (one : Operand) (rest : List Operand) : Type 0 where
  one_wide : IsWidth u
  one_is : IsOperand sc u one
  rest_are : AreOperands sc r rest
  wide : w ≡ u + r

pub slice_of_parts : (ws : List Wire) (u : ℕ) (x : Name) (os : List Operand) (hi lo : ℕ) (r : Right) → Defines ws (Named x) (Concat os)
    → OfParts ws os hi lo r → Equals ws u (Slice x hi lo) r
slice_of_parts ws u x os hi lo r k p =
    let s = p.part_at in
    let tail = s.one ∷ s.rest in
    record {
      fits = λ ms sc f a.
          let sd = readable_after sc ws in
          let d = defined_right ms sc ws (Named x) (Concat os) a.0 f a.2 k in
          let b = are_front sd a.0 s.front tail (subst (AreOperands sd a.0) s.parts d.1) in
          let t = b.second in
          let m : t.0 ≡ s.wide = s.wide_is ms sc t.0 f t.3 in
          subst (IsRight ms sd u) (sym p.is)
          (sliced_fits ms sd t.0 u (hi - p.behind) (lo - p.behind) s.one t.2 t.3 (omega (arith, a.3)) (omega (arith, m, s.high, s.low, a.3)) (omega (arith, a.5, a.3, s.low)));
      same = λ ms sc widths v o a.
          let sd = readable_after sc ws in
          let d = defined_right ms sc ws (Named x) (Concat os) a.0 o.wires a.2 k in
          let b = are_front sd a.0 s.front tail (subst (AreOperands sd a.0) s.parts d.1) in
          let t = b.second in
          let m : t.0 ≡ s.wide = s.wide_is ms sc t.0 o.wires t.3 in
          let n : t.1 ≡ p.behind = s.behind_is ms sc t.1 o.wires t.4 in
          let q = operands_below sd v widths o.below o.wide t.1 s.rest t.4 in
          let e : operands_width widths s.rest ≡ p.behind = q.0 ∙ n in
          let f : operands_width widths tail ≡ t.0 + p.behind = parts_wide sd widths o.wide b.b tail t ∙ omega (arith, t.5, n) in
          let g : operands_value widths v s.rest < 2 ^ p.behind = subst (λ (z : ℕ). operands_value widths v s.rest < 2 ^ z) n q.1 in
          let c : v.value x ≡ operands_value widths v s.front * 2 ^ (t.0 + p.behind) + (operand_value v s.one * 2 ^ p.behind + operands_value widths v s.rest) =
          defined_same widths v ws (Named x) (Concat os) o.holds k ∙ ap (operands_value widths v) s.parts ∙ values_both widths v s.front tail
          ∙ ap₂ (λ (y z : ℕ). operands_value widths v s.front * 2 ^ y + (operand_value v s.one * 2 ^ z + operands_value widths v s.rest)) f e in
          ap (λ (z : ℕ). slice_of z hi lo) c
          ∙ slice_part (operands_value widths v s.front) t.0 (operand_value v s.one) (operands_value widths v s.rest) p.behind hi lo g s.low a.3 (omega (arith, m, s.high))
          ∙ sliced_value widths v (hi - p.behind) (lo - p.behind) s.one (omega (arith, a.3)) (omega (arith, a.4, a.1.1))
          ∙ ap (right_value widths v) (sym p.is);
    }

pub named_wide : (ws : List Wire) (o : Operand) (x : Name) (w : Wire) → o ≡ Named x → HasWire ws x w → HasWidth ws o w.width
named_wide ws o x w e h = subst (λ (p : Operand). HasWidth ws p w.width) (sym e) (wire_wide ws x w h)

is_one : (n : ℕ) → (n == 1) ≡ true → n ≡ 1
is_one n h = grind (arith, nat_tests)

pub bit_wire : (ws : List Wire) (o : Operand) (x : Name) (w : Wire) → o ≡ Named x → HasWire ws x w → (w.width == 1) ≡ true → HasWidth ws o 1
bit_wire ws o x w e h t = subst (HasWidth ws o) (is_one w.width t) (named_wide ws o x w e h)

-- the place of a part

pub drop_less : (xs : List Operand) (r : ℕ) (x : Operand) → 0 < r → r ≤ length xs → x ≡ get_or xs (r - 1) x → drop (r - 1) xs ≡ x ∷ drop r xs
drop_less xs r x p h e =
    let k = r - 1 in
    let l : k < length xs = omega arith in
    let s : suc k ≡ r = omega arith in
    drop-cons xs k x l ∙ ap₂ (λ (y : Operand) (n : ℕ). y ∷ drop n xs) (sym e) s

pub width_more : (ws : List Wire) (y : Operand) (rest : List Operand) (b u : ℕ) → HaveWidth ws rest b → HasWidth ws y u → HaveWidth ws (y ∷ rest) (b + u)
width_more ws y rest b u h k ms sc t f a =
    let p = k ms sc a.0 f a.3 in
    let q = h ms sc a.1 f a.4 in
    omega (arith, p, q, a.5)

pub part_found : (ws : List Wire) (xs : List Operand) (hi lo r behind u : ℕ) (y : Operand) → 0 < r → r ≤ length xs → y ≡ get_or xs (r - 1) y
    → HaveWidth ws (drop r xs) behind → HasWidth ws y u → behind ≤ lo → hi < behind + u → IsPartAt ws xs hi lo (r - 1) behind
part_found ws xs hi lo r behind u y p l e h k low high =
    let j = r - 1 in
    record {
      front = take j xs;
      one = y;
      rest = drop r xs;
      parts = sym (take-append-drop j xs) ∙ ap (λ (os : List Operand). take j xs ++ os) (drop_less xs r y p l e);
      place = let m = length-take j xs in omega (arith, m, l);
      behind_is = h;
      low = low;
      wide = u;
      wide_is = k;
      high = high;
    }

get_front : (front : List Operand) (x : Operand) (rest : List Operand) (d : Operand) → get_or (front ++ x ∷ rest) (length front) d ≡ x
get_front [] x rest d = refl
get_front (y ∷ front) x rest d = get_front front x rest d

pub part_sliced : (ws : List Wire) (xs : List Operand) (hi lo part behind : ℕ) (y z : Operand) (r : Right)
    → (s : IsPartAt ws xs hi lo part behind) → y ≡ get_or xs part y → z ≡ y → r ≡ sliced z (hi - behind) (lo - behind) → OfParts ws xs hi lo r
part_sliced ws xs hi lo part behind y z r s e f g =
    let a : y ≡ s.one = e ∙ ap₂ (λ (os : List Operand) (n : ℕ). get_or os n y) s.parts s.place ∙ get_front s.front s.one s.rest y in
    record {
      part = part;
      behind = behind;
      part_at = s;
      is = g ∙ ap (λ (o : Operand). sliced o (hi - behind) (lo - behind)) (f ∙ a);
    }

-- slices of right sides

pub some_slice : (ws : List Wire) (d : Right) (y : Name) (h l hi lo : ℕ) (m : Option Right) → d ≡ Slice y h l
    → IfSome m (λ r. r ≡ Slice y (hi + l) (lo + l)) → IfSome m (λ r. SlicesRight ws d hi lo r)
some_slice ws d y h l hi lo None e f = tt
some_slice ws d y h l hi lo (Some r) e f = λ x u k.
    subst (λ (q : Right). Equals ws u (Slice x hi lo) q) (sym f) (slice_of_slice ws u x y h l hi lo (subst (Defines ws (Named x)) e k))

pub some_parts : (ws : List Wire) (d : Right) (os : List Operand) (hi lo : ℕ) (m : Option Right) → d ≡ Concat os
    → IfSome m (λ r. OfParts ws os hi lo r) → IfSome m (λ r. SlicesRight ws d hi lo r)
some_parts ws d os hi lo None e f = tt
some_parts ws d os hi lo (Some r) e f = λ x u k. slice_of_parts ws u x os hi lo r (subst (Defines ws (Named x)) e k) f
