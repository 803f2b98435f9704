-- In every solution of the wires' equations the operand of an expression has its value.
use Rattle.sap_lemmas.proofs.Common.{◌≡◌, ℕ, ◌+◌, ◌-◌, ◌%◌, ◌/◌, ◌^◌, ◌<◌, ◌≤◌, ◌==◌, List, [], ◌∷◌, ◌++◌, Option, Some, None, true, false, length, sym, ap, ap₂, ◌∙◌, subst, refl, arith, inl, inr, unwrap_or, nat_lt, pow_pos, mod-lt, mod-eq_of_lt, cases_Bool, nat_tests}
use Rattle.sap_bits.specs.Arithmetic.{value1, value2, width1, width2, slice_of, joined}
use Rattle.sap_bits.specs.declared.Op2.{Op2}
use Rattle.sap_bits.specs.declared.Op2.TheVariants.{Shl, Shr}
use Rattle.sap_bits.proofs.Low.{shl_past, shr_past}
use Rattle.sap_bits.proofs.Within.{value1_below, value2_below}
use Rattle.sap_maps.specs.Prelude.{Name, Valuation, Scope, find, Term, constant, read, cell, one, two, choose, join, part, term_width, CountFits}
use Rattle.sap_maps.specs.Term.{term_value}
use Rattle.sap_maps.proofs.Terms.{right_fits, below_both, joined_below}
use Rattle.sap_net.specs.Prelude.{Shapes, IsWidth, operand_value, operand_width, right_value}
use Rattle.sap_net.specs.declared.parts.Operand.{Operand}
use Rattle.sap_net.specs.declared.parts.Operand.TheVariants.{Named, Constant}
use Rattle.sap_net.specs.declared.parts.Right.{Right}
use Rattle.sap_net.specs.declared.parts.Right.TheVariants.{One, Two, Choose, Concat, Slice, Cell}
use Rattle.sap_net.specs.declared.parts.Wire.{Wire}
use Rattle.sap_ir.specs.IsGuarded.{TermFine}
use Rattle.sap_ir.proofs.Passes.{WidthsDeclared, fine_width}
use Rattle.sap_lower.specs.declared.parts.Part.{Part}
use Rattle.sap_share.specs.Keys.{key}
use Rattle.sap_share.specs.Names.{helper}
use Rattle.sap_share.specs.Rights.{rights}
use Rattle.sap_fold.specs.Folding.{settled}
use Rattle.sap_lower.proofs.Adding.{OfEach, two_added, slice_added, low_added, calculated_added}
use Rattle.sap_lower.proofs.Calculated.{Within, Folds, copied_is, one_folds, two_folds, choice_folds}
use Rattle.sap_lower.specs.Lowering.{present, shared, plus, copied, placed, calculated, is_past, leaves_nothing, low_two, sliced, is_outside, low_join, cell_width, low}
use Rattle.sap_lower.proofs.Shared.{Gives, known_gives}

-- a part has this width and value
pub record Shows (widths : Name → ℕ) (v : Valuation) (p : Part) (u x : ℕ) : Type 0 where
  pub value : operand_value v p.operand ≡ x
  pub wide : operand_width widths p.operand ≡ u
  pub width : p.width ≡ u

-- and the value is within the width
pub record Stands (widths : Name → ℕ) (v : Valuation) (p : Part) (u x : ℕ) : Type 0 where
  pub shows : Shows widths v p u x
  pub below : x < 2 ^ u

-- what each name stands for at present
abbrev pub Env : (Name → ℕ) → Valuation → Scope → List (Name × Part) → (Name → ℕ) → Type 0
Env widths v vars es value = (n : Name) (u : ℕ) → find vars n ≡ Some u → Stands widths v (present es n) u (value n)

-- the memories' cells
pub record SameCells (ms : Shapes) (v : Valuation) (cells : Name → ℕ → ℕ) : Type 0 where
  pub same : (m : Name) (e : ℕ × ℕ) → find ms m ≡ Some e → (i : ℕ) → v.cell m i ≡ cells m i
  pub below : (m : Name) (e : ℕ × ℕ) → find ms m ≡ Some e → (i : ℕ) → v.cell m i < 2 ^ e.0

pub gives_front : (widths : Name → ℕ) (v : Valuation) (ws more : List Wire) → Gives widths v (ws ++ more) → Gives widths v ws
gives_front widths v [] more h = tt
gives_front widths v (w ∷ ws) more h = (h.0, h.1, h.2, gives_front widths v ws more h.3)

pub gives_behind : (widths : Name → ℕ) (v : Valuation) (ws more : List Wire) → Gives widths v (ws ++ more) → Gives widths v more
gives_behind widths v [] more h = h
gives_behind widths v (w ∷ ws) more h = gives_behind widths v ws more h.3

gives_last : (widths : Name → ℕ) (v : Valuation) (ws : List Wire) (w : Wire) → Gives widths v (ws ++ w ∷ [])
    → (v.value w.name ≡ right_value widths v w.right) × (widths w.name ≡ w.width)
gives_last widths v [] w h = (h.0, h.1)
gives_last widths v (x ∷ ws) w h = gives_last widths v ws w h.3

-- a wire stands for its right side, whether it was there or is added

shared_shows : (widths : Name → ℕ) (v : Valuation) (ws : List Wire) (u : ℕ) (r : Right) (o : Option Name) → find (rights ws) (key u r) ≡ o
    → Gives widths v (shared o ws u r).wires → Shows widths v (shared o ws u r).part u (right_value widths v r)
shared_shows widths v ws u r (Some n) e h =
    let g = known_gives widths v ws u r n e h in record { value = g.0; wide = g.1; width = refl }
shared_shows widths v ws u r None e h =
    let g = gives_last widths v ws (record { name = helper (length ws); width = u; right = r }) h in record { value = g.0; wide = g.1; width = refl }

pub plus_shows : (widths : Name → ℕ) (v : Valuation) (ws : List Wire) (u : ℕ) (r : Right) → Gives widths v (plus ws u r).wires
    → Shows widths v (plus ws u r).part u (right_value widths v r)
plus_shows widths v ws u r h = shared_shows widths v ws u r (find (rights ws) (key u r)) refl h

-- the wires before are kept

shared_front : (widths : Name → ℕ) (v : Valuation) (ws : List Wire) (u : ℕ) (r : Right) (o : Option Name) → Gives widths v (shared o ws u r).wires → Gives widths v ws
shared_front widths v ws u r (Some n) h = h
shared_front widths v ws u r None h = gives_front widths v ws _ h

pub plus_front : (widths : Name → ℕ) (v : Valuation) (ws : List Wire) (u : ℕ) (r : Right) → Gives widths v (plus ws u r).wires → Gives widths v ws
plus_front widths v ws u r h = shared_front widths v ws u r (find (rights ws) (key u r)) h

-- what is given after is given before
abbrev pub GivesBefore : (Name → ℕ) → Valuation → List Wire → List Wire → Type 0
GivesBefore widths v ws xs = Gives widths v xs → Gives widths v ws

pub front : (widths : Name → ℕ) (v : Valuation) → OfEach (GivesBefore widths v)
front widths v = record { none = λ ws h. h; both = λ ws xs ys f g h. f (g h); wire = plus_front widths v }

-- a calculation stands for its right side

pub within : (widths : Name → ℕ) (v : Valuation) (p : Part) (u x : ℕ) → Stands widths v p u x → Within widths v p.operand u
within widths v p u x s = record { wide = s.shows.wide; below = subst (λ (n : ℕ). n < 2 ^ u) (sym s.shows.value) s.below }

placed_shows : (widths : Name → ℕ) (v : Valuation) (ws : List Wire) (u : ℕ) (r : Right) (o : Option Operand)
    → ((p : Operand) → o ≡ Some p → (operand_value v p ≡ right_value widths v r) × (operand_width widths p ≡ u))
    → Gives widths v (placed o ws u r).wires → Shows widths v (placed o ws u r).part u (right_value widths v r)
placed_shows widths v ws u r (Some p) f h = let k = f p refl in record { value = k.0; wide = k.1; width = refl }
placed_shows widths v ws u r None f h = plus_shows widths v ws u r h

calculated_shows : (widths : Name → ℕ) (v : Valuation) (ws : List Wire) (u w : ℕ) (r : Right) → u ≡ w → Folds widths v w r
    → Gives widths v (calculated ws u r).wires → Shows widths v (calculated ws u r).part u (right_value widths v r)
unfolding calculated
calculated_shows widths v ws u w r e f h =
    let g : Folds widths v u r = subst (λ (k : ℕ). Folds widths v k r) (sym e) f in
    placed_shows widths v ws u r (copied (settled u r))
    (λ p k. let c = copied_is (settled u r) p k in (ap (λ (q : Right). right_value widths v q) (sym c) ∙ g.value, g.wide p c)) h

calculated_front : (widths : Name → ℕ) (v : Valuation) (ws : List Wire) (u : ℕ) (r : Right) → Gives widths v (calculated ws u r).wires → Gives widths v ws
calculated_front widths v ws u r h = calculated_added (GivesBefore widths v) (front widths v) ws u r h

pub slice_inside : (w hi lo : ℕ) → lo ≤ hi → hi < w → w ≤ 64 → is_outside hi lo ≡ false
slice_inside w hi lo a b c =
    let p : nat_lt hi lo ≡ false = grind (arith, nat_tests) in
    let q : nat_lt 63 hi ≡ false = grind (arith, nat_tests) in
    rw (p, q) refl

pub low_front : (widths : Name → ℕ) (v : Valuation) (ms : Shapes) (es : List (Name × Part)) (t : Term Name) (ws : List Wire)
    → Gives widths v (low ms es t ws).wires → Gives widths v ws
low_front widths v ms es t ws h = low_added (GivesBefore widths v) (front widths v) ms es t ws h

-- shifts that leave nothing

past_zero : (v : Valuation) (w : ℕ) (o : Operand) → is_past w o ≡ true → w ≤ operand_value v o
past_zero v w (Named x) h = absurd (cc)
past_zero v w (Constant u n) h = grind (arith, nat_tests)

nothing_left : (v : Valuation) (op : Op2) (w a : ℕ) (o : Operand) → leaves_nothing op w o ≡ true → a < 2 ^ w → (value2 op w a (operand_value v o) ≡ 0) × (width2 op w ≡ w)
nothing_left v Shl w a o h l = (shl_past a (operand_value v o) w (past_zero v w o h), refl)
nothing_left v Shr w a o h l = (shr_past a (operand_value v o) w (past_zero v w o h) l, refl)
nothing_left v _ w a o h l = absurd (cc)

two_shows : (widths : Name → ℕ) (v : Valuation) (op : Op2) (x y : Part) (ws : List Wire) (w t a b : ℕ) → IsWidth w → IsWidth t → CountFits op w t
    → Stands widths v x w a → Stands widths v y t b → Gives widths v (low_two op x y ws).wires
    → Shows widths v (low_two op x y ws).part (width2 op w) (value2 op w a b)
two_shows widths v op x y ws w t a b iw it cf sx sy h =
    elim (cases_Bool (leaves_nothing op x.width y.operand)) [
      | inl e ↦
          let f : leaves_nothing op w y.operand ≡ true = subst (λ (k : ℕ). leaves_nothing op k y.operand ≡ true) sx.shows.width e in
          let z = nothing_left v op w a y.operand f sx.below in
          let q : value2 op w a b ≡ 0 = subst (λ (k : ℕ). value2 op w a k ≡ 0) sy.shows.value z.0 in
          rw e (record { value = sym q; wide = sx.shows.width ∙ sym z.1; width = sx.shows.width ∙ sym z.1 })
      | inr e ↦
          let g : Gives widths v (calculated ws (width2 op x.width) (Two op x.operand y.operand)).wires = rw e at h in
          let folds = two_folds widths v op x.operand y.operand w t (width2 op w) iw it (within widths v x w a sx) (within widths v y t b sy) cf refl in
          let p = calculated_shows widths v ws (width2 op x.width) (width2 op w) (Two op x.operand y.operand) (ap (λ (k : ℕ). width2 op k) sx.shows.width) folds g in
          let vx = sx.shows.value in let wx = sx.shows.wide in let ux = sx.shows.width in let vy = sy.shows.value in
          let pv = p.value in let pw = p.wide in
          rw e (record { value = pv ∙ rw (wx, vx, vy) refl; wide = pw ∙ ap (λ (k : ℕ). width2 op k) ux; width = p.width ∙ ap (λ (k : ℕ). width2 op k) ux })
    ]

slice_shows : (widths : Name → ℕ) (v : Valuation) (o : Operand) (hi lo : ℕ) (ws : List Wire) (x : ℕ) → operand_value v o ≡ x
    → Gives widths v (sliced o hi lo ws).wires → Shows widths v (sliced o hi lo ws).part (hi + 1 - lo) (slice_of x hi lo)
slice_shows widths v (Named n) hi lo ws x e h =
    let p = plus_shows widths v ws (hi + 1 - lo) (Slice n hi lo) h in
    record { value = p.value ∙ ap (λ (k : ℕ). slice_of k hi lo) e; wide = p.wide; width = p.width }
slice_shows widths v (Constant w n) hi lo ws x e h =
    record { value = ap (λ (k : ℕ). slice_of k hi lo) e; wide = refl; width = refl }

-- two widths within 64 bits have a sum that wraps nowhere
pub small_sum : (a b : ℕ) → a ≤ 64 → b ≤ 64 → (a + b) % 4294967296 ≡ a + b
small_sum a b h k = mod-eq_of_lt (omega arith)

wide_last : (x t : ℕ) → x ≡ t → x + 0 ≡ t
wide_last x t e = omega arith

value_last : (x b : ℕ) → x ≡ b → joined x 0 0 ≡ b
value_last x b e = omega arith

same_join : (x a u t y b : ℕ) → x ≡ a → u ≡ t → y ≡ b → joined x u y ≡ joined a t b
same_join x a u t y b e f g = cc

join_shows : (widths : Name → ℕ) (v : Valuation) (x y : Part) (ws : List Wire) (w t a b : ℕ) → w ≤ 64 → t ≤ 64 → Stands widths v x w a
    → Stands widths v y t b → Gives widths v (low_join x y ws).wires → Shows widths v (low_join x y ws).part (w + t) (joined a t b)
join_shows widths v x y ws w t a b hw ht sx sy h =
    let u = (x.width + y.width) % 4294967296 in
    let p = plus_shows widths v ws u (Concat (x.operand ∷ y.operand ∷ [])) h in
    let e : u ≡ w + t = ap₂ (λ (j k : ℕ). (j + k) % 4294967296) sx.shows.width sy.shows.width ∙ small_sum w t hw ht in
    let vx = sx.shows.value in let vy = sy.shows.value in let wy = sy.shows.wide in
    let z : operand_width widths y.operand + 0 ≡ t = wide_last (operand_width widths y.operand) t wy in
    let l : joined (operand_value v y.operand) 0 0 ≡ b = value_last (operand_value v y.operand) b vy in
    record {
      value = p.value ∙ same_join (operand_value v x.operand) a (operand_width widths y.operand + 0) t
          (joined (operand_value v y.operand) 0 0) b vx z l;
      wide = p.wide ∙ e;
      width = p.width ∙ e;
    }

-- what surrounds an expression
pub record Around (ms : Shapes) (vars : Scope) (vw widths : Name → ℕ) (v : Valuation) (es : List (Name × Part)) (value : Name → ℕ) (cells : Name → ℕ → ℕ) : Type 0 where
  pub declared : WidthsDeclared ms vars vw
  pub env : Env widths v vars es value
  pub memories : SameCells ms v cells

pub low_stands : (ms : Shapes) (vars : Scope) (vw widths : Name → ℕ) (v : Valuation) (es : List (Name × Part)) (value : Name
    → ℕ) (cells : Name → ℕ → ℕ) → Around ms vars vw widths v es value cells → (u : ℕ) (t : Term Name) → TermFine ms vars u t
    → (ws : List Wire) → Gives widths v (low ms es t ws).wires → Stands widths v (low ms es t ws).part u (term_value vw value cells t)
low_stands ms vars vw widths v es value cells k u (constant w x) f ws h =
    record { shows = record { value = refl; wide = f.0; width = f.0 }; below = f.1 }
low_stands ms vars vw widths v es value cells k u (read n) f ws h = k.env n u f
low_stands ms vars vw widths v es value cells k u (cell m i) f ws h =
    let y = low ms es i ws in
    let hy = plus_front widths v y.wires (cell_width ms m) (Cell m y.part.operand) h in
    let sy = low_stands ms vars vw widths v es value cells k f.0 i f.3 ws hy in
    let p = plus_shows widths v y.wires (cell_width ms m) (Cell m y.part.operand) h in
    let e : cell_width ms m ≡ u = ap (λ (o : Option (ℕ × ℕ)). (unwrap_or o (0, 0)).0) f.2 in
    let j = term_value vw value cells i in
    let s = k.memories.same m (u, 2 ^ f.0) f.2 j in
    record {
      shows = record { value = p.value ∙ ap (λ (n : ℕ). v.cell m n) sy.shows.value ∙ s; wide = p.wide ∙ e; width = p.width ∙ e };
      below = subst (λ (n : ℕ). n < 2 ^ u) s (k.memories.below m (u, 2 ^ f.0) f.2 j);
    }
low_stands ms vars vw widths v es value cells k u (one op a) f ws h =
    let x = low ms es a ws in
    let hx = calculated_front widths v x.wires (width1 op x.part.width) (One op x.part.operand) h in
    let sx = low_stands ms vars vw widths v es value cells k f.0 a f.2 ws hx in
    let d = fine_width ms vars vw k.declared f.0 a f.2 in
    let tv = term_value vw value cells a in
    let e : width1 op x.part.width ≡ u = ap (λ (n : ℕ). width1 op n) sx.shows.width ∙ sym f.3 in
    let folds = one_folds widths v op x.part.operand f.0 u f.1 (within widths v x.part f.0 tv sx) f.3 in
    let p = calculated_shows widths v x.wires (width1 op x.part.width) u (One op x.part.operand) e folds h in
    let q : value1 op (operand_width widths x.part.operand) (operand_value v x.part.operand) ≡ value1 op (term_width vw a) tv =
    ap₂ (λ (n o : ℕ). value1 op n o) (sx.shows.wide ∙ sym d) sx.shows.value in
    record {
      shows = record { value = p.value ∙ q; wide = p.wide ∙ e; width = p.width ∙ e };
      below = subst (λ (n : ℕ). value1 op (term_width vw a) tv < 2 ^ n) (sym f.3) (subst (λ (n : ℕ). value1 op n tv < 2 ^ width1 op f.0) (sym d) (value1_below op f.0 tv sx.below));
    }
low_stands ms vars vw widths v es value cells k u (two op a b) f ws h =
    let x = low ms es a ws in
    let y = low ms es b x.wires in
    let hb = two_added (GivesBefore widths v) (front widths v) op x.part y.part y.wires h in
    let sx = low_stands ms vars vw widths v es value cells k f.0 a f.4 ws (low_front widths v ms es b x.wires hb) in
    let sy = low_stands ms vars vw widths v es value cells k f.1 b f.5 x.wires hb in
    let d = fine_width ms vars vw k.declared f.0 a f.4 in
    let ta = term_value vw value cells a in
    let tb = term_value vw value cells b in
    let p = two_shows widths v op x.part y.part y.wires f.0 f.1 ta tb f.2 f.3 f.6 sx sy h in
    let q : value2 op f.0 ta tb ≡ value2 op (term_width vw a) ta tb = ap (λ (n : ℕ). value2 op n ta tb) (sym d) in
    record {
      shows = record { value = p.value ∙ q; wide = p.wide ∙ sym f.7; width = p.width ∙ sym f.7 };
      below = subst (λ (n : ℕ). n < 2 ^ u) q (subst (λ (n : ℕ). value2 op f.0 ta tb < 2 ^ n) (sym f.7)
          (value2_below op f.0 ta tb sx.below (right_fits op f.0 f.1 tb f.6 sy.below)));
    }
low_stands ms vars vw widths v es value cells k u (choose c a b) f ws h =
    let z = low ms es c ws in
    let x = low ms es a z.wires in
    let y = low ms es b x.wires in
    let r = Choose z.part.operand x.part.operand y.part.operand in
    let hb = calculated_front widths v y.wires x.part.width r h in
    let ha = low_front widths v ms es b x.wires hb in
    let sz = low_stands ms vars vw widths v es value cells k 1 c f.0 ws (low_front widths v ms es a z.wires ha) in
    let sx = low_stands ms vars vw widths v es value cells k u a f.1 z.wires ha in
    let sy = low_stands ms vars vw widths v es value cells k u b f.2 x.wires hb in
    let vc = term_value vw value cells c in let va = term_value vw value cells a in let vb = term_value vw value cells b in
    let folds = choice_folds widths v z.part.operand x.part.operand y.part.operand u
    (within widths v z.part 1 vc sz) (within widths v x.part u va sx) (within widths v y.part u vb sy) in
    let p = calculated_shows widths v y.wires x.part.width u r sx.shows.width folds h in
    let e1 = sz.shows.value in let e2 = sx.shows.value in let e3 = sy.shows.value in
    record {
      shows = record { value = p.value ∙ rw (e1, e2, e3) refl; wide = p.wide ∙ sx.shows.width; width = p.width ∙ sx.shows.width };
      below = below_both (term_value vw value cells c == 0) (term_value vw value cells b) (term_value vw value cells a) (2 ^ u) sy.below sx.below;
    }
low_stands ms vars vw widths v es value cells k u (join a b) f ws h =
    let x = low ms es a ws in
    let y = low ms es b x.wires in
    let hb = plus_front widths v y.wires ((x.part.width + y.part.width) % 4294967296) (Concat (x.part.operand ∷ y.part.operand ∷ [])) h in
    let sx = low_stands ms vars vw widths v es value cells k f.0 a f.4 ws (low_front widths v ms es b x.wires hb) in
    let sy = low_stands ms vars vw widths v es value cells k f.1 b f.5 x.wires hb in
    let d = fine_width ms vars vw k.declared f.1 b f.5 in
    let ta = term_value vw value cells a in
    let tb = term_value vw value cells b in
    let p = join_shows widths v x.part y.part y.wires f.0 f.1 ta tb f.2.1 f.3.1 sx sy h in
    let q : joined ta f.1 tb ≡ joined ta (term_width vw b) tb = ap (λ (n : ℕ). joined ta n tb) (sym d) in
    record {
      shows = record { value = p.value ∙ q; wide = p.wide ∙ sym f.6; width = p.width ∙ sym f.6 };
      below = subst (λ (n : ℕ). n < 2 ^ u) q (subst (λ (n : ℕ). joined ta f.1 tb < 2 ^ n) (sym f.6) (joined_below ta tb f.0 f.1 sx.below sy.below));
    }
low_stands ms vars vw widths v es value cells k u (part a hi lo) f ws h =
    let x = low ms es a ws in
    let sx = low_stands ms vars vw widths v es value cells k f.0 a f.2 ws (slice_added (GivesBefore widths v) (front widths v) x.part.operand hi lo x.wires h) in
    let ta = term_value vw value cells a in
    let there = slice_inside f.0 hi lo f.3 f.4 f.1.1 in
    let h' : Gives widths v (sliced x.part.operand hi lo x.wires).wires = rw there at h in
    let p = slice_shows widths v x.part.operand hi lo x.wires ta sx.shows.value h' in
    record {
      shows = rw there (record { value = p.value; wide = p.wide ∙ sym f.5; width = p.width ∙ sym f.5 });
      below = subst (λ (n : ℕ). slice_of ta hi lo < 2 ^ n) (sym f.5) (mod-lt (ta / 2 ^ lo) (pow_pos (hi + 1 - lo)));
    }
