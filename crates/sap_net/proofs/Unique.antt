-- The equations of the wires have one solution at the names that can be read.
use Rattle.std.proofs.Common.{◌≡◌, ℕ, List, [], ◌∷◌, sym, ap, ◌∙◌, refl}
use Rattle.sap_bits.specs.Arithmetic.{value1, slice_of}
use Rattle.sap_maps.specs.Prelude.{Name, Valuation, set_value, Scope, Agree}
use Rattle.sap_maps.proofs.Scopes.{found_here, agree_more, set_value_here}
use Rattle.sap_net.specs.declared.parts.Operand.{Operand}
use Rattle.sap_net.specs.declared.parts.Operand.TheVariants.{Named, Constant}
use Rattle.sap_net.specs.declared.parts.Right.{Right}
use Rattle.sap_net.specs.declared.parts.Right.TheVariants.{Copy, One, Two, Choose, Concat, Slice, Cell}
use Rattle.sap_net.specs.declared.parts.Wire.{Wire}
use Rattle.sap_net.specs.Values.{operand_value, operand_width, operands_value, right_value, Holds}
use Rattle.sap_net.specs.Rules.{Shapes, IsOperand, AreOperands, IsRight, AreWires, readable_after}
use Rattle.sap_net.proofs.Settle.{settle, CellsAgree, settle_agrees, settle_cell}

pub operand_agree : (sc : Scope) (v w : Valuation) → Agree sc v w → (u : ℕ) (o : Operand) → IsOperand sc u o → operand_value v o ≡ operand_value w o
operand_agree sc v w a u (Named n) h = a n u h
operand_agree sc v w a u (Constant k x) h = refl

operands_agree : (widths : Name → ℕ) (sc : Scope) (v w : Valuation) → Agree sc v w → (u : ℕ) (os : List Operand) → AreOperands sc u os
    → operands_value widths v os ≡ operands_value widths w os
operands_agree widths sc v w a u [] h = refl
operands_agree widths sc v w a u (o ∷ os) h =
    let e = operand_agree sc v w a h.0 o h.3 in
    let f = operands_agree widths sc v w a h.1 os h.4 in
    cc

pub right_agree : (widths : Name → ℕ) (ms : Shapes) (sc : Scope) (v w : Valuation) → Agree sc v w → CellsAgree ms v w → (u : ℕ) (r : Right)
    → IsRight ms sc u r → right_value widths v r ≡ right_value widths w r
right_agree widths ms sc v w a c u (Copy o) h = operand_agree sc v w a u o h
right_agree widths ms sc v w a c u (One op o) h = ap (λ x. value1 op (operand_width widths o) x) (operand_agree sc v w a h.0 o h.2)
right_agree widths ms sc v w a c u (Two op o p) h =
    let e = operand_agree sc v w a h.0 o h.4 in
    let f = operand_agree sc v w a h.1 p h.5 in
    cc
right_agree widths ms sc v w a c u (Choose t o p) h =
    let d = operand_agree sc v w a 1 t h.0 in
    let e = operand_agree sc v w a u o h.1 in
    let f = operand_agree sc v w a u p h.2 in
    cc
right_agree widths ms sc v w a c u (Concat os) h = operands_agree widths sc v w a u os h.1
right_agree widths ms sc v w a c u (Slice n hi lo) h = ap (λ x. slice_of x hi lo) (a n h.0 h.2)
right_agree widths ms sc v w a c u (Cell m i) h =
    c m _ h.1 (operand_value v i) ∙ ap (w.cell m) (operand_agree sc v w a h.0 i h.2)

-- two solutions that begin alike are alike
pub wires_agree : (widths : Name → ℕ) (ms : Shapes) (ws : List Wire) (sc : Scope) (v w : Valuation) → AreWires ms sc ws → CellsAgree ms v w
    → Agree sc v w → Holds widths v ws → Holds widths w ws → Agree (readable_after sc ws) v w
wires_agree widths ms [] sc v w rules c a hv hw = a
wires_agree widths ms (x ∷ ws) sc v w rules c a hv hw =
    let e : v.value x.name ≡ w.value x.name = hv.0 ∙ right_agree widths ms sc v w a c x.width x.right rules.3 ∙ sym hw.0 in
    wires_agree widths ms ws ((x.name, x.width) ∷ sc) v w rules.4 c (agree_more sc v w x.name x.width a e) hv.1 hw.1

-- the wires' values, put one after another, solve the equations
pub settle_holds : (widths : Name → ℕ) (ms : Shapes) (ws : List Wire) (sc : Scope) (v : Valuation) → AreWires ms sc ws → Holds widths (settle widths v ws) ws
settle_holds widths ms [] sc v rules = tt
settle_holds widths ms (x ∷ ws) sc v rules =
    let r = right_value widths v x.right in
    let v' = set_value v x.name r in
    let end = settle widths v' ws in
    let all : Agree ((x.name, x.width) ∷ sc) v' end = settle_agrees widths ms ws ((x.name, x.width) ∷ sc) v' rules.4 in
    let back : Agree sc v end = settle_agrees widths ms (x ∷ ws) sc v rules in (
      sym (all x.name x.width (found_here x.name x.width sc)) ∙ set_value_here v x.name r
          ∙ right_agree widths ms sc v end back (λ m s h i. ap (λ f. f m i) (settle_cell widths (x ∷ ws) v)) x.width x.right rules.3,
      settle_holds widths ms ws ((x.name, x.width) ∷ sc) v' rules.4,
    )
