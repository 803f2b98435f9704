-- One write port for a memory: its condition, index and value are merged over the writes.
use Rattle.sap_lemmas.proofs.Common.{◌≡◌, ℕ, ◌==◌, ◌&&◌, List, Bool, true, false, sym, ap, ◌∙◌, refl, inl, inr, if◌then◌else◌, bytes_eq, cases_Bool, Decides-eqb, bytes_eq_apart_back, bytes_eq_same, Some, true_is_not_false}
use Rattle.sap_maps.specs.Prelude.{Name, Valuation, set_value, Scope, find, Term}
use Rattle.sap_net.specs.Prelude.{Shapes, operand_value}
use Rattle.sap_net.specs.declared.parts.Operand.{Operand}
use Rattle.sap_net.specs.declared.parts.Operand.TheVariants.{Constant}
use Rattle.sap_net.specs.declared.parts.Right.TheVariants.{Choose}
use Rattle.sap_net.specs.declared.parts.Wire.{Wire}
use Rattle.sap_ir.specs.Prelude.{Going, value_in, set_cell, TermFine}
use Rattle.sap_lower.specs.declared.parts.Part.{Part}
use Rattle.sap_lower.specs.declared.parts.WritePort.{WritePort}
use Rattle.sap_lower.specs.Lowering.{plus, low}
use Rattle.sap_lower.specs.Facts.{is_zero}
use Rattle.sap_lower.specs.Commands.{entries_plain, entries_under, low_put, taken_over}
use Rattle.sap_lower.proofs.Shared.{Gives}
use Rattle.sap_lower.proofs.Means.{Around, front, GivesBefore, plus_front, plus_shows, low_front, low_stands}
use Rattle.sap_lower.specs.Writes.{low_write}
use Rattle.sap_lower.proofs.Adding.{over_added}
use Rattle.sap_lower.proofs.Written.{write_front, write_means}
use Rattle.sap_lower.proofs.Known.{zero_value}
use Rattle.sap_lower.proofs.Under.{around_plain, around_under}

-- what a port says of the memory's next contents; `done`: whether it was written so far, if only with the number that it had
pub record PortIs (v : Valuation) (p : WritePort) (m : Name) (g : Going) (done : Bool) : Type 0 where
  pub written : done ≡ false → (operand_value v p.enable == 1) ≡ false
  pub next : (j : ℕ) → g.next m j ≡ (if operand_value v p.enable == 1 && operand_value v p.index == j then operand_value v p.value else g.now.cell m j)

same_test : (a b : ℕ) → (a == b) ≡ (b == a)
same_test a b =
    elim (cases_Bool (a == b)) [
      | inl t ↦ t ∙ sym ((Decides-eqb b a).1 (sym ((Decides-eqb a b).0 t)))
      | inr f ↦ elim (cases_Bool (b == a)) [ inl t ↦ absurd (let e : (a == b) ≡ true = (Decides-eqb a b).1 (sym ((Decides-eqb b a).0 t)) in cc) | inr e ↦ f ∙ sym e ]
    ]

-- on numbers: where the condition holds nothing was written before
write_is : (off : Bool) (e i x y t : ℕ) (cells nexts : Name → ℕ → ℕ) (m : Name) (done : Bool) → (off ≡ false → done ≡ false)
    → (done ≡ false → (e == 1) ≡ false) → ((j : ℕ) → nexts m j ≡ (if e == 1 && i == j then x else cells m j)) → (j : ℕ)
    → (if off then nexts else set_cell nexts m y t) m j ≡ (if (if off then e else 1) == 1 && (if off then i else y) == j then (if off then x else t) else cells m j)
write_is true e i x y t cells nexts m done once w n j = n j
write_is false e i x y t cells nexts m done once w n j =
    let q : (e == 1) ≡ false = w (once refl) in
    let r : nexts m j ≡ cells m j = n j ∙ rw q refl in
    rw (bytes_eq_same m, same_test j y, r) refl

-- the same of the first write, whose index and value are taken as they are
first_is : (off : Bool) (e y t J V : ℕ) (cells nexts : Name → ℕ → ℕ) (m : Name) → e ≡ 0 → (off ≡ false → (J ≡ y) × (V ≡ t))
    → ((j : ℕ) → nexts m j ≡ cells m j) → (j : ℕ)
    → (if off then nexts else set_cell nexts m y t) m j ≡ (if (if off then e else 1) == 1 && J == j then V else cells m j)
first_is true e y t J V cells nexts m z k n j = rw z (n j)
first_is false e y t J V cells nexts m z k n j =
    let r : nexts m j ≡ cells m j = n j in
    let same = k refl in
    let a = same.0 in
    let b = same.1 in
    rw (bytes_eq_same m, same_test j y, r, a, b) refl

bit_is : (off shut : Bool) (e : ℕ) (done : Bool) → (off ≡ true → shut ≡ true) → (done ≡ false → (e == 1) ≡ false) → (if off then done else true) ≡ false
    → ((if shut then e else 1) == 1) ≡ false
bit_is true shut e done c w h = rw (c refl) (w h)
bit_is false shut e done c w h = absurd (cc)

-- a write that isn't made, of the number that the cell has
unwritten : (off shut : Bool) (y t : ℕ) (cells nexts : Name → ℕ → ℕ) (m : Name) → (off ≡ true → shut ≡ true)
    → (off ≡ false → shut ≡ true → (t ≡ cells m y) × ((j : ℕ) → nexts m j ≡ cells m j)) → (j : ℕ)
    → (if off then nexts else set_cell nexts m y t) m j ≡ (if shut then nexts else set_cell nexts m y t) m j
unwritten true shut y t cells nexts m c k j = rw (c refl) refl
unwritten false false y t cells nexts m c k j = refl
unwritten false true y t cells nexts m c k j =
    let q = k refl refl in
    elim (cases_Bool (j == y)) [
      | inl s ↦ rw (bytes_eq_same m, s) (q.0 ∙ ap (λ (n : ℕ). cells m n) (sym ((Decides-eqb j y).0 s)) ∙ sym (q.1 j))
      | inr s ↦ rw (bytes_eq_same m, s) refl
    ]

next_of : (off : Bool) (g : Going) (m : Name) (i t : ℕ) (n : Name) (j : ℕ)
    → (if off then g else record { now = g.now; next = set_cell g.next m i t }).next n j ≡ (if off then g.next else set_cell g.next m i t) n j
next_of true g m i t n j = refl
next_of false g m i t n j = refl

pub now_of : (off : Bool) (g : Going) (m : Name) (i t : ℕ) → (if off then g else record { now = g.now; next = set_cell g.next m i t }).now ≡ g.now
now_of true g m i t = refl
now_of false g m i t = refl

merged : (c d old new x : ℕ) → c ≡ d → ((d == 0) ≡ false → new ≡ x) → (if c == 0 then old else new) ≡ (if d == 0 then old else x)
merged c d old new x e f =
    elim (cases_Bool (d == 0)) [ inl t ↦ rw (e, t) refl | inr n ↦ rw (e, n) (f n) ]

-- what a port takes over has the write's number where the write is done; and else the number before, if it isn't the first
abbrev Over : (first off : Bool) (old new x : ℕ) → Type 0
Over true off old new x = off ≡ false → x ≡ new
Over false off old new x = x ≡ (if off then old else new)

over_value : (widths : Name → ℕ) (v : Valuation) (first : Bool) (ws : List Wire) (w : ℕ) (c n o : Operand) (d x : ℕ) → operand_value v c ≡ d
    → ((d == 0) ≡ false → operand_value v n ≡ x) → Gives widths v (taken_over first ws w c n o).wires
    → Over first (d == 0) (operand_value v o) x (operand_value v (taken_over first ws w c n o).part.operand)
over_value widths v true ws w c n o d x e f h = f
over_value widths v false ws w c n o d x e f h = (plus_shows widths v ws w (Choose c n o) h).value ∙ merged _ _ _ _ _ e f

ported : (first off : Bool) (e i x y t J V : ℕ) (cells nexts : Name → ℕ → ℕ) (m : Name) (done : Bool) → (off ≡ false → done ≡ false)
    → (done ≡ false → (e == 1) ≡ false) → ((j : ℕ) → nexts m j ≡ (if e == 1 && i == j then x else cells m j)) → (first ≡ true → e ≡ 0)
    → Over first off i y J → Over first off x t V → (j : ℕ)
    → (if off then nexts else set_cell nexts m y t) m j ≡ (if (if off then e else 1) == 1 && J == j then V else cells m j)
ported true off e i x y t J V cells nexts m done once w n zero a b j =
    let z = zero refl in
    first_is off e y t J V cells nexts m z (λ o. (a o, b o)) (λ k. n k ∙ rw z refl) j
ported false off e i x y t J V cells nexts m done once w n zero a b j =
    write_is off e i x y t cells nexts m done once w n j ∙ rw (a, b) refl

opened : (off shut : Bool) → (off ≡ true → shut ≡ true) → shut ≡ false → off ≡ false
opened true shut c o = absurd (true_is_not_false (sym (c refl) ∙ o))
opened false shut c o = refl

pub put_is : (ms : Shapes) (vars : Scope) (vw widths : Name → ℕ) (v : Valuation) (es : List (Name × Part)) (g : Going)
    → Around ms vars vw widths v es g.now.value g.now.cell → (p : WritePort) (m : Name) (s : ℕ × ℕ) → find ms m ≡ Some s → (done : Bool) → PortIs v p m g done
    → (c i t : Term Name) (b w : ℕ) → TermFine ms vars 1 c → TermFine ms vars b i → TermFine ms vars w t
    → ((value_in vw g c == 0) ≡ false → done ≡ false) → (ws : List Wire) → Gives widths v (low_put ms es m p c i t ws).wires
    → PortIs v (low_put ms es m p c i t ws).port m (if value_in vw g c == 0 then g else record {
      now = g.now;
      next =
          set_cell g.next m (value_in vw g i) (value_in vw g t);
    }) (if value_in vw g c == 0 then done else true)
put_is ms vars vw widths v es g k p m s found done is c i t b w fc fi ft once ws h =
    let plain = entries_plain es in
    let z = low ms plain c ws in
    let seen = entries_under z es in
    let y = low ms seen i z.wires in
    let x = low_write ms seen m z.part.operand y.part.operand t y.wires in
    let when = x.write.when in
    let e = plus x.wires 1 (Choose when (Constant 1 1) p.enable) in
    let first = is_zero p.enable in
    let j = taken_over first e.wires p.bits when y.part.operand p.index in
    let l = taken_over first j.wires p.width when x.write.value p.value in
    let hj = over_added (GivesBefore widths v) (front widths v) first j.wires p.width when x.write.value p.value h in
    let he = over_added (GivesBefore widths v) (front widths v) first e.wires p.bits when y.part.operand p.index hj in
    let hx = plus_front widths v x.wires 1 (Choose when (Constant 1 1) p.enable) he in
    let hy = write_front ms widths v seen m z.part.operand y.part.operand t y.wires hx in
    let hz = low_front widths v ms seen i z.wires hy in
    let kp = around_plain ms vars vw widths v es g.now.value g.now.cell k in
    let sz = low_stands ms vars vw widths v plain g.now.value g.now.cell kp 1 c fc ws hz in
    let d = value_in vw g c in
    let ku = λ (on : (d == 0) ≡ false).
    around_under ms vars vw widths v es g.now.value g.now.cell k z hz d sz.shows.value on in
    let vi = λ (on : (d == 0) ≡ false).
    (low_stands ms vars vw widths v seen g.now.value g.now.cell (ku on) b i fi z.wires hy).shows.value in
    let wr = write_means ms vars vw widths v seen g.now.value g.now.cell m s found z.part.operand y.part.operand d (value_in vw g i) sz.shows.value ku vi w t ft y.wires hx in
    let pe = plus_shows widths v x.wires 1 (Choose when (Constant 1 1) p.enable) he in
    let off = d == 0 in
    let shut = operand_value v when == 0 in
    let made : shut ≡ false → off ≡ false = λ o. opened off shut wr.closed o in
    let ve : operand_value v e.part.operand ≡ (if shut then operand_value v p.enable else 1) = pe.value in
    let vj = over_value widths v first e.wires p.bits when y.part.operand p.index (operand_value v when) (value_in vw g i) refl (λ o. vi (made o)) hj in
    let vl = over_value widths v first j.wires p.width when x.write.value p.value (operand_value v when) (value_in vw g t) refl wr.value h in
    let before : done ≡ false → (n : ℕ) → g.next m n ≡ g.now.cell m n = λ f n.
    let w = is.written f in is.next n ∙ rw w refl in
    record {
      written = λ f. ap (λ (q : ℕ). q == 1) ve ∙ bit_is off shut (operand_value v p.enable) done wr.closed is.written f;
      next = λ n.
          next_of off g m (value_in vw g i) (value_in vw g t) m n
          ∙ unwritten off shut (value_in vw g i) (value_in vw g t) g.now.cell g.next m wr.closed (λ on z. (wr.kept on z, before (once on))) n
          ∙ ported first shut (operand_value v p.enable) (operand_value v p.index) (operand_value v p.value) (value_in vw g i) (value_in vw g t)
          (operand_value v j.part.operand) (operand_value v l.part.operand) g.now.cell g.next m done (λ o. once (made o)) is.written is.next (zero_value v p.enable) vj vl n
          ∙ rw (ve, now_of off g m (value_in vw g i) (value_in vw g t)) refl;
    }

-- another memory is left alone
pub other_is : (v : Valuation) (p : WritePort) (n : Name) (g : Going) (done : Bool) → PortIs v p n g done
    → (off : Bool) (m : Name) (i t : ℕ) → bytes_eq m n ≡ false → PortIs v p n (if off then g else record { now = g.now; next = set_cell g.next m i t }) done
other_is v p n g done is true m i t d = record { written = is.written; next = is.next }
other_is v p n g done is false m i t d = record { written = is.written; next = λ j. rw (bytes_eq_apart_back m n d) (is.next j) }

-- an assignment changes no memory
pub set_is : (v : Valuation) (p : WritePort) (n : Name) (g : Going) (done : Bool) → PortIs v p n g done → (off : Bool) (x : Name) (a : ℕ)
    → PortIs v p n (if off then g else record { now = set_value g.now x a; next = g.next }) done
set_is v p n g done is true x a = record { written = is.written; next = is.next }
set_is v p n g done is false x a = record { written = is.written; next = is.next }
