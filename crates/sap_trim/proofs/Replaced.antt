-- Right sides with what stands for their operands in their place: they fit, and have the same value.
use Rattle.sap_lemmas.proofs.Common.{◌≡◌, ℕ, List, [], ◌∷◌, map, length, Option, Some, sym, ap, ◌∙◌, subst, refl, arith, unwrap_or}
use Rattle.sap_bits.specs.Arithmetic.{slice_of}
use Rattle.sap_maps.specs.Prelude.{Name, Valuation, Scope, find}
use Rattle.sap_net.specs.Prelude.{Shapes, IsOperand, AreOperands, IsRight, operand_value, operand_width, operands_width, operands_value, right_value, WidthsAre}
use Rattle.sap_net.specs.declared.parts.Operand.{Operand}
use Rattle.sap_net.specs.declared.parts.Operand.TheVariants.{Named, Constant}
use Rattle.sap_net.specs.declared.parts.Right.{Right}
use Rattle.sap_net.specs.declared.parts.Right.TheVariants.{Copy, One, Two, Choose, Concat, Slice, Cell}
use Rattle.sap_net.proofs.Settle.{CellsAgree}
use Rattle.sap_net.proofs.Within.{operand_is_wide}
use Rattle.sap_fold.proofs.Slicing.{sliced_fits, sliced_value}
use Rattle.sap_trim.specs.Replaced.{Stands, standing, standing_operand, replaced}

-- each name of one scope stands for an operand over another, of the same width
abbrev pub Finds : (so sn : Scope) → Stands → Type 0
Finds so sn e = (x : Name) (u : ℕ) → find so x ≡ Some u → (o : Operand) × (e x ≡ Some o) × IsOperand sn u o

-- each name has the number of what it stands for
abbrev pub Means : Scope → Stands → (v w : Valuation) → Type 0
Means so e v w = (x : Name) (u : ℕ) → find so x ≡ Some u → v.value x ≡ operand_value w (standing e x)

pub stands_for : (e : Stands) (x : Name) (o : Operand) → e x ≡ Some o → standing e x ≡ o
stands_for e x o h = ap (λ (p : Option Operand). unwrap_or p (Constant 0 0)) h

pub name_fits : (so sn : Scope) (e : Stands) → Finds so sn e → (x : Name) (u : ℕ) → find so x ≡ Some u → IsOperand sn u (standing e x)
name_fits so sn e f x u h =
    let g = f x u h in subst (λ (o : Operand). IsOperand sn u o) (sym (stands_for e x g.0 g.1)) g.2

pub operand_fits : (so sn : Scope) (e : Stands) → Finds so sn e → (u : ℕ) (o : Operand) → IsOperand so u o → IsOperand sn u (standing_operand e o)
operand_fits so sn e f u (Named x) h = name_fits so sn e f x u h
operand_fits so sn e f u (Constant w n) h = h

operands_fit : (so sn : Scope) (e : Stands) → Finds so sn e → (u : ℕ) (os : List Operand) → AreOperands so u os → AreOperands sn u (map (standing_operand e) os)
operands_fit so sn e f u [] h = h
operands_fit so sn e f u (o ∷ os) h =
    (h.0, h.1, h.2, operand_fits so sn e f h.0 o h.3, operands_fit so sn e f h.1 os h.4, h.5)

as_long : (e : Stands) (os : List Operand) → length (map (standing_operand e) os) ≡ length os
as_long e [] = refl
as_long e (o ∷ os) = let h = as_long e os in omega arith

pub replaced_fits : (ms : Shapes) (so sn : Scope) (e : Stands) → Finds so sn e → (u : ℕ) (r : Right) → IsRight ms so u r → IsRight ms sn u (replaced e r)
replaced_fits ms so sn e f u (Copy a) h = operand_fits so sn e f u a h
replaced_fits ms so sn e f u (One op a) h = (h.0, h.1, operand_fits so sn e f h.0 a h.2, h.3)
replaced_fits ms so sn e f u (Two op a b) h =
    (h.0, h.1, h.2, h.3, operand_fits so sn e f h.0 a h.4, operand_fits so sn e f h.1 b h.5, h.6, h.7)
replaced_fits ms so sn e f u (Choose c a b) h =
    (operand_fits so sn e f 1 c h.0, operand_fits so sn e f u a h.1, operand_fits so sn e f u b h.2)
replaced_fits ms so sn e f u (Concat os) h = (omega (arith, as_long e os, h.0), operands_fit so sn e f u os h.1)
replaced_fits ms so sn e f u (Slice x hi lo) h =
    sliced_fits ms sn h.0 u hi lo (standing e x) h.1 (name_fits so sn e f x h.0 h.2) h.3 h.4 h.5
replaced_fits ms so sn e f u (Cell m i) h = (h.0, h.1, operand_fits so sn e f h.0 i h.2)

pub operand_same : (so : Scope) (e : Stands) (v w : Valuation) → Means so e v w → (u : ℕ) (o : Operand) → IsOperand so u o
    → operand_value v o ≡ operand_value w (standing_operand e o)
operand_same so e v w m u (Named x) h = m x u h
operand_same so e v w m u (Constant k n) h = refl

width_same : (so sn : Scope) (e : Stands) (wv ww : Name → ℕ) → Finds so sn e → WidthsAre so wv → WidthsAre sn ww → (u : ℕ) (o : Operand)
    → IsOperand so u o → operand_width wv o ≡ operand_width ww (standing_operand e o)
width_same so sn e wv ww f a b u o h =
    operand_is_wide so wv a u o h ∙ sym (operand_is_wide sn ww b u (standing_operand e o) (operand_fits so sn e f u o h))

operands_wide : (so sn : Scope) (e : Stands) (wv ww : Name → ℕ) → Finds so sn e → WidthsAre so wv → WidthsAre sn ww
    → (u : ℕ) (os : List Operand) → AreOperands so u os → operands_width wv os ≡ operands_width ww (map (standing_operand e) os)
operands_wide so sn e wv ww f a b u [] h = refl
operands_wide so sn e wv ww f a b u (o ∷ os) h =
    let p = width_same so sn e wv ww f a b h.0 o h.3 in
    let q = operands_wide so sn e wv ww f a b h.1 os h.4 in
    cc

operands_same : (so sn : Scope) (e : Stands) (wv ww : Name → ℕ) (v w : Valuation) → Finds so sn e → Means so e v w → WidthsAre so wv
    → WidthsAre sn ww → (u : ℕ) (os : List Operand) → AreOperands so u os → operands_value wv v os ≡ operands_value ww w (map (standing_operand e) os)
operands_same so sn e wv ww v w f m a b u [] h = refl
operands_same so sn e wv ww v w f m a b u (o ∷ os) h =
    let p = operand_same so e v w m h.0 o h.3 in
    let q = operands_wide so sn e wv ww f a b h.1 os h.4 in
    let r = operands_same so sn e wv ww v w f m a b h.1 os h.4 in
    cc

pub replaced_same : (ms : Shapes) (so sn : Scope) (e : Stands) (wv ww : Name → ℕ) (v w : Valuation) → Finds so sn e → Means so e v w
    → WidthsAre so wv → WidthsAre sn ww → CellsAgree ms v w → (u : ℕ) (r : Right) → IsRight ms so u r → right_value wv v r ≡ right_value ww w (replaced e r)
replaced_same ms so sn e wv ww v w f m a b c u (Copy o) h = operand_same so e v w m u o h
replaced_same ms so sn e wv ww v w f m a b c u (One op o) h =
    let p = operand_same so e v w m h.0 o h.2 in
    let q = width_same so sn e wv ww f a b h.0 o h.2 in
    cc
replaced_same ms so sn e wv ww v w f m a b c u (Two op o t) h =
    let p = operand_same so e v w m h.0 o h.4 in
    let q = operand_same so e v w m h.1 t h.5 in
    let r = width_same so sn e wv ww f a b h.0 o h.4 in
    cc
replaced_same ms so sn e wv ww v w f m a b c u (Choose o s t) h =
    let p = operand_same so e v w m 1 o h.0 in
    let q = operand_same so e v w m u s h.1 in
    let r = operand_same so e v w m u t h.2 in
    cc
replaced_same ms so sn e wv ww v w f m a b c u (Concat os) h = operands_same so sn e wv ww v w f m a b u os h.1
replaced_same ms so sn e wv ww v w f m a b c u (Slice x hi lo) h =
    ap (λ (n : ℕ). slice_of n hi lo) (m x h.0 h.2) ∙ sliced_value ww w hi lo (standing e x) h.3 (omega (arith, h.1.1, h.4))
replaced_same ms so sn e wv ww v w f m a b c u (Cell k i) h =
    c k _ h.1 (operand_value v i) ∙ ap (w.cell k) (operand_same so e v w m h.0 i h.2)
