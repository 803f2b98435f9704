-- The wires of an expression are declared once, read after they are assigned, and fit.
use Rattle.sap_lemmas.proofs.Common.{◌≡◌, ℕ, ◌+◌, ◌-◌, ◌/◌, ◌%◌, ◌^◌, ◌<◌, ◌≤◌, List, [], ◌∷◌, ◌++◌, Option, Some, None, true, false, length, sym, ap, ap₂, ◌∙◌, subst, refl, arith, inl, inr, length-append, unwrap_or, pow_pos, mod-lt, cases_Bool, AllByRecursion, all_append}
use Rattle.sap_bits.specs.Arithmetic.{width1, width2, slice_of}
use Rattle.sap_bits.specs.declared.Op2.{Op2}
use Rattle.sap_bits.specs.declared.Op2.TheVariants.{Shl, Shr}
use Rattle.sap_maps.specs.Prelude.{Name, Scope, find, Term, constant, read, cell, one, two, choose, join, part, CountFits}
use Rattle.sap_maps.proofs.Scopes.{found_here, found_behind}
use Rattle.sap_net.specs.Prelude.{Shapes, IsWidth, IsOperand, IsRight, AreWires, readable_after, is_name}
use Rattle.sap_net.specs.declared.parts.Operand.{Operand}
use Rattle.sap_net.specs.declared.parts.Operand.TheVariants.{Named, Constant}
use Rattle.sap_net.specs.declared.parts.Right.{Right}
use Rattle.sap_net.specs.declared.parts.Right.TheVariants.{One, Two, Choose, Concat, Slice, Cell}
use Rattle.sap_net.specs.declared.parts.Wire.{Wire}
use Rattle.sap_ir.specs.IsGuarded.{TermFine, is_helping}
use Rattle.sap_share.proofs.Helpers.{helper_is_name, helpers_differ}
use Rattle.sap_lower.proofs.Helping.{other_name}
use Rattle.sap_net.proofs.RulesLemmas.{Grows, operand_grows}
use Rattle.sap_lower.specs.declared.parts.Part.{Part}
use Rattle.sap_share.specs.Keys.{key}
use Rattle.sap_share.specs.Names.{helper}
use Rattle.sap_share.specs.Rights.{rights}
use Rattle.sap_fold.specs.Folding.{settled}
use Rattle.sap_fold.proofs.Settling.{settled_equals}
use Rattle.sap_lower.proofs.Adding.{OfEach, two_added, slice_added, low_added, calculated_added}
use Rattle.sap_lower.specs.Lowering.{present, shared, plus, copied, placed, calculated, leaves_nothing, low_two, sliced, cell_width, low}
use Rattle.sap_lower.proofs.Calculated.{copied_is}
use Rattle.sap_lower.proofs.Means.{small_sum, slice_inside}
use Rattle.sap_share.proofs.Found.{known_readable}

-- a helping wire by its name
abbrev pub IsHelper : Wire → Type 0
IsHelper w = (k : ℕ) × (k < 2 ^ 64) × (w.name ≡ helper k)

-- the wires fit, have helping names, the helping names from the next on are new, and no other name is added
pub record Fits (ms : Shapes) (sc : Scope) (ws : List Wire) : Type 0 where
  pub wires : AreWires ms sc ws
  pub fresh : (k : ℕ) → length ws ≤ k → k < 2 ^ 64 → find (readable_after sc ws) (helper k) ≡ None
  pub named : AllByRecursion (λ w. is_name w.name ≡ true) ws
  pub helping : AllByRecursion IsHelper ws
  pub others : (n : Name) → is_helping n ≡ false → find (readable_after sc ws) n ≡ find sc n

-- no memory has a helping name
abbrev pub NoHelpers : Shapes → Type 0
NoHelpers ms = (k : ℕ) → k < 2 ^ 64 → find ms (helper k) ≡ None

abbrev pub EnvFits : (sc vars : Scope) → List (Name × Part) → Type 0
EnvFits sc vars es = (n : Name) (u : ℕ) → find vars n ≡ Some u → IsOperand sc u (present es n).operand × ((present es n).width ≡ u)

pub env_grows : (sc sd vars : Scope) (es : List (Name × Part)) → Grows sc sd → EnvFits sc vars es → EnvFits sd vars es
env_grows sc sd vars es g e n u h = (operand_grows sc sd g u _ (e n u h).0, (e n u h).1)

pub readable_push : (ws : List Wire) (sc : Scope) (w : Wire) → readable_after sc (ws ++ w ∷ []) ≡ (w.name, w.width) ∷ readable_after sc ws
readable_push [] sc w = refl
readable_push (x ∷ ws) sc w = readable_push ws ((x.name, x.width) ∷ sc) w

pub wires_push : (ms : Shapes) (ws : List Wire) (sc : Scope) (w : Wire) → AreWires ms sc ws → IsWidth w.width
    → find (readable_after sc ws) w.name ≡ None → find ms w.name ≡ None → IsRight ms (readable_after sc ws) w.width w.right → AreWires ms sc (ws ++ w ∷ [])
wires_push ms [] sc w f i n k r = (i, n, k, r, tt)
wires_push ms (x ∷ ws) sc w f i n k r = (f.0, f.1, f.2, f.3, wires_push ms ws _ w f.4 i n k r)

pub record Lowered (ms : Shapes) (sc : Scope) (ws after : List Wire) (p : Part) (u : ℕ) : Type 0 where
  pub fits : Fits ms sc after
  pub grows : Grows (readable_after sc ws) (readable_after sc after)
  pub operand : IsOperand (readable_after sc after) u p.operand
  pub width : p.width ≡ u

shared_long : (ws : List Wire) (u : ℕ) (r : Right) (o : Option Name) → length ws ≤ length (shared o ws u r).wires
shared_long ws u r (Some n) = omega arith
shared_long ws u r None = omega (arith, length-append ws (record { name = helper (length ws); width = u; right = r } ∷ []))

pub plus_long : (ws : List Wire) (u : ℕ) (r : Right) → length ws ≤ length (plus ws u r).wires
plus_long ws u r = shared_long ws u r (find (rights ws) (key u r))

shared_fits : (ms : Shapes) (sc : Scope) (ws : List Wire) (u : ℕ) (r : Right) → NoHelpers ms → Fits ms sc ws → IsWidth u
    → IsRight ms (readable_after sc ws) u r → (o : Option Name) → find (rights ws) (key u r) ≡ o → length (shared o ws u r).wires < 2 ^ 64
    → Lowered ms sc ws (shared o ws u r).wires (shared o ws u r).part u
shared_fits ms sc ws u r apart fits i f (Some n) e l =
    record { fits = fits; grows = λ m k h. h; operand = known_readable ms ws sc u r n e fits.wires; width = refl }
shared_fits ms sc ws u r apart fits i f None e l =
    let n = helper (length ws) in
    let w : Wire = record { name = n; width = u; right = r } in
    let long : length (ws ++ w ∷ []) ≡ length ws + 1 = length-append ws (w ∷ []) in
    let new = fits.fresh (length ws) (omega arith) (omega (arith, long)) in
    let e = readable_push ws sc w in
    record {
      fits = record {
        wires = wires_push ms ws sc w fits.wires i new (apart (length ws) (omega (arith, long))) f;
        fresh = λ k le lt.
            let lp : length ws + 1 ≤ k = omega (arith, long) in
            let d = helpers_differ (length ws) k (omega (arith, long)) lt (omega arith) in
            rw (e, d) (fits.fresh k (omega arith) lt);
        named = all_append (λ (x : Wire). is_name x.name ≡ true) ws (w ∷ []) fits.named (helper_is_name (length ws) (omega (arith, long)), tt);
        helping = all_append IsHelper ws (w ∷ []) fits.helping ((length ws, omega (arith, long), refl), tt);
        others = λ m h. let d = other_name (length ws) (omega (arith, long)) m h in rw (e, d) (fits.others m h);
      };
      grows = λ m w h. rw e (found_behind (readable_after sc ws) n u new m w h);
      operand = rw e (found_here n u (readable_after sc ws));
      width = refl;
    }

-- at a width that is equal to the one that is written
pub plus_at : (ms : Shapes) (sc : Scope) (ws : List Wire) (w u : ℕ) (r : Right) → w ≡ u → NoHelpers ms → Fits ms sc ws → IsWidth u
    → IsRight ms (readable_after sc ws) u r → length (plus ws w r).wires < 2 ^ 64 → Lowered ms sc ws (plus ws w r).wires (plus ws w r).part u
plus_at ms sc ws w u r e apart fits i f l =
    let k : length (plus ws u r).wires < 2 ^ 64 = subst (λ (k : ℕ). length (plus ws k r).wires < 2 ^ 64) e l in
    subst (λ (k : ℕ). Lowered ms sc ws (plus ws k r).wires (plus ws k r).part u) (sym e) (shared_fits ms sc ws u r apart fits i f (find (rights ws) (key u r)) refl k)

-- a calculation, likewise

placed_at : (ms : Shapes) (sc : Scope) (ws : List Wire) (w u : ℕ) (r : Right) (o : Option Operand) → ((p : Operand) → o ≡ Some p → IsOperand (readable_after sc ws) u p) → w ≡ u
    → NoHelpers ms → Fits ms sc ws → IsWidth u → IsRight ms (readable_after sc ws) u r → length (placed o ws w r).wires < 2 ^ 64
    → Lowered ms sc ws (placed o ws w r).wires (placed o ws w r).part u
placed_at ms sc ws w u r (Some p) h e apart fits i f l = record { fits = fits; grows = λ m k g. g; operand = h p refl; width = e }
placed_at ms sc ws w u r None h e apart fits i f l = plus_at ms sc ws w u r e apart fits i f l

pub calculated_at : (ms : Shapes) (sc : Scope) (ws : List Wire) (w u : ℕ) (r : Right) → w ≡ u → NoHelpers ms → Fits ms sc ws → IsWidth u
    → IsRight ms (readable_after sc ws) u r → length (calculated ws w r).wires < 2 ^ 64 → Lowered ms sc ws (calculated ws w r).wires (calculated ws w r).part u
unfolding calculated
calculated_at ms sc ws w u r e apart fits i f l =
    let s = settled u r in
    let fit = (settled_equals ws u r).fits ms sc fits.wires f in
    let operand = λ (p : Operand) (h : copied (settled w r) ≡ Some p).
    let k : copied s ≡ Some p = subst (λ (k : ℕ). copied (settled k r) ≡ Some p) e h in
    subst (λ (q : Right). IsRight ms (readable_after sc ws) u q) (copied_is s p k) fit in
    placed_at ms sc ws w u r (copied (settled w r)) operand e apart fits i f l

-- no wire is lost

abbrev pub IsLonger : List Wire → List Wire → Type 0
IsLonger ws xs = length ws ≤ length xs

pub longer : OfEach IsLonger
longer = record { none = λ ws. omega arith; both = λ ws xs ys a b. omega (arith, a, b); wire = plus_long }

pub low_long : (ms : Shapes) (es : List (Name × Part)) (t : Term Name) (ws : List Wire) → length ws ≤ length (low ms es t ws).wires
low_long ms es t ws = low_added IsLonger longer ms es t ws

-- one step after another
pub followed : (ms : Shapes) (sc : Scope) (ws xs ys : List Wire) (p q : Part) (u w : ℕ) → Lowered ms sc ws xs p u → Lowered ms sc xs ys q w → Lowered ms sc ws ys q w
followed ms sc ws xs ys p q u w a b = record { fits = b.fits; grows = λ n k h. b.grows n k (a.grows n k h); operand = b.operand; width = b.width }

shift_width : (op : Op2) (w : ℕ) (o : Operand) → leaves_nothing op w o ≡ true → width2 op w ≡ w
shift_width Shl w o h = refl
shift_width Shr w o h = refl
shift_width _ w o h = absurd (cc)

two_fits : (ms : Shapes) (sc : Scope) (op : Op2) (x y : Part) (ws : List Wire) (w t u : ℕ) → NoHelpers ms → Fits ms sc ws → IsWidth w
    → IsWidth t → IsWidth u → IsOperand (readable_after sc ws) w x.operand → x.width ≡ w → IsOperand (readable_after sc ws) t y.operand
    → CountFits op w t → u ≡ width2 op w → length (low_two op x y ws).wires < 2 ^ 64 → Lowered ms sc ws (low_two op x y ws).wires (low_two op x y ws).part u
two_fits ms sc op x y ws w t u apart fits iw it iu ox xw oy cf e l =
    elim (cases_Bool (leaves_nothing op x.width y.operand)) [
      | inl b ↦
          let g : width2 op x.width ≡ x.width = shift_width op x.width y.operand b in
          let k : x.width ≡ u = sym g ∙ ap (λ (n : ℕ). width2 op n) xw ∙ sym e in
          rw b (record { fits = fits; grows = λ n q h. h; operand = (k, pow_pos u); width = k })
      | inr b ↦
          let l' : length (calculated ws (width2 op x.width) (Two op x.operand y.operand)).wires < 2 ^ 64 = rw b at l in
          let p = calculated_at ms sc ws (width2 op x.width) u (Two op x.operand y.operand)
          (ap (λ (n : ℕ). width2 op n) xw ∙ sym e) apart fits iu (w, t, iw, it, ox, oy, cf, e) l' in
          rw b p
    ]

slice_fits : (ms : Shapes) (sc : Scope) (o : Operand) (hi lo : ℕ) (ws : List Wire) (w u : ℕ) → NoHelpers ms → Fits ms sc ws → IsWidth w
    → IsWidth u → IsOperand (readable_after sc ws) w o → lo ≤ hi → hi < w → u ≡ hi + 1 - lo → length (sliced o hi lo ws).wires < 2 ^ 64
    → Lowered ms sc ws (sliced o hi lo ws).wires (sliced o hi lo ws).part u
slice_fits ms sc (Named x) hi lo ws w u apart fits iw iu o a b e l =
    plus_at ms sc ws (hi + 1 - lo) u (Slice x hi lo) (sym e) apart fits iu (w, iw, o, a, b, e) l
slice_fits ms sc (Constant k n) hi lo ws w u apart fits iw iu o a b e l =
    record {
      fits = fits;
      grows = λ m q h. h;
      operand = (sym e, subst (λ (q : ℕ). slice_of n hi lo < 2 ^ q) (sym e) (mod-lt (n / 2 ^ lo) (pow_pos (hi + 1 - lo))));
      width = sym e;
    }

pub low_fits : (ms : Shapes) (sc vars : Scope) (es : List (Name × Part)) → NoHelpers ms → (u : ℕ) (t : Term Name) → IsWidth u
    → TermFine ms vars u t → (ws : List Wire) → EnvFits (readable_after sc ws) vars es → Fits ms sc ws
    → length (low ms es t ws).wires < 2 ^ 64 → Lowered ms sc ws (low ms es t ws).wires (low ms es t ws).part u
low_fits ms sc vars es apart u (constant w x) iu f ws env fits l =
    record { fits = fits; grows = λ n k h. h; operand = (f.0, f.1); width = f.0 }
low_fits ms sc vars es apart u (read n) iu f ws env fits l =
    record { fits = fits; grows = λ m k h. h; operand = (env n u f).0; width = (env n u f).1 }
low_fits ms sc vars es apart u (cell m i) iu f ws env fits l =
    let y = low ms es i ws in
    let e = plus_long y.wires (cell_width ms m) (Cell m y.part.operand) in
    let i' = low_fits ms sc vars es apart f.0 i f.1 f.3 ws env fits (omega (arith, e)) in
    let w : cell_width ms m ≡ u = ap (λ (o : Option (ℕ × ℕ)). (unwrap_or o (0, 0)).0) f.2 in
    let p = plus_at ms sc y.wires (cell_width ms m) u (Cell m y.part.operand) w apart i'.fits iu (f.0, f.2, i'.operand) l in
    followed ms sc ws y.wires _ y.part _ f.0 u i' p
low_fits ms sc vars es apart u (one op a) iu f ws env fits l =
    let x = low ms es a ws in
    let e = calculated_added IsLonger longer x.wires (width1 op x.part.width) (One op x.part.operand) in
    let a' = low_fits ms sc vars es apart f.0 a f.1 f.2 ws env fits (omega (arith, e)) in
    let w : width1 op x.part.width ≡ u = ap (λ (n : ℕ). width1 op n) a'.width ∙ sym f.3 in
    let p = calculated_at ms sc x.wires (width1 op x.part.width) u (One op x.part.operand) w apart a'.fits iu (f.0, f.1, a'.operand, f.3) l in
    followed ms sc ws x.wires _ x.part _ f.0 u a' p
low_fits ms sc vars es apart u (two op a b) iu f ws env fits l =
    let x = low ms es a ws in
    let y = low ms es b x.wires in
    let e = two_added IsLonger longer op x.part y.part y.wires in
    let lb = low_long ms es b x.wires in
    let a' = low_fits ms sc vars es apart f.0 a f.2 f.4 ws env fits (omega (arith, e, lb)) in
    let b' = low_fits ms sc vars es apart f.1 b f.3 f.5 x.wires (env_grows _ _ vars es a'.grows env) a'.fits (omega (arith, e)) in
    let o = operand_grows (readable_after sc x.wires) (readable_after sc y.wires) b'.grows f.0 x.part.operand a'.operand in
    let p = two_fits ms sc op x.part y.part y.wires f.0 f.1 u apart b'.fits f.2 f.3 iu o a'.width b'.operand f.6 f.7 l in
    followed ms sc ws y.wires _ y.part _ f.1 u (followed ms sc ws x.wires y.wires x.part y.part f.0 f.1 a' b') p
low_fits ms sc vars es apart u (choose c a b) iu f ws env fits l =
    let z = low ms es c ws in
    let x = low ms es a z.wires in
    let y = low ms es b x.wires in
    let e = calculated_added IsLonger longer y.wires x.part.width (Choose z.part.operand x.part.operand y.part.operand) in
    let lb = low_long ms es b x.wires in
    let la = low_long ms es a z.wires in
    let c' = low_fits ms sc vars es apart 1 c (omega arith, omega arith) f.0 ws env fits (omega (arith, e, lb, la)) in
    let ea = env_grows _ _ vars es c'.grows env in
    let a' = low_fits ms sc vars es apart u a iu f.1 z.wires ea c'.fits (omega (arith, e, lb)) in
    let eb = env_grows _ _ vars es a'.grows ea in
    let b' = low_fits ms sc vars es apart u b iu f.2 x.wires eb a'.fits (omega (arith, e)) in
    let oc = operand_grows (readable_after sc x.wires) (readable_after sc y.wires) b'.grows 1 z.part.operand
    (operand_grows (readable_after sc z.wires) (readable_after sc x.wires) a'.grows 1 z.part.operand c'.operand) in
    let oa = operand_grows (readable_after sc x.wires) (readable_after sc y.wires) b'.grows u x.part.operand a'.operand in
    let p = calculated_at ms sc y.wires x.part.width u (Choose z.part.operand x.part.operand y.part.operand) a'.width apart b'.fits iu (oc, oa, b'.operand) l in
    followed ms sc ws y.wires _ y.part _ u u (followed ms sc ws x.wires y.wires x.part y.part u u (followed ms sc ws z.wires x.wires z.part x.part 1 u c' a') b') p
low_fits ms sc vars es apart u (join a b) iu f ws env fits l =
    let x = low ms es a ws in
    let y = low ms es b x.wires in
    let w = (x.part.width + y.part.width) % 4294967296 in
    let r = Concat (x.part.operand ∷ y.part.operand ∷ []) in
    let e = plus_long y.wires w r in
    let lb = low_long ms es b x.wires in
    let a' = low_fits ms sc vars es apart f.0 a f.2 f.4 ws env fits (omega (arith, e, lb)) in
    let b' = low_fits ms sc vars es apart f.1 b f.3 f.5 x.wires (env_grows _ _ vars es a'.grows env) a'.fits (omega (arith, e)) in
    let o = operand_grows (readable_after sc x.wires) (readable_after sc y.wires) b'.grows f.0 x.part.operand a'.operand in
    let wu : w ≡ u = ap₂ (λ (j k : ℕ). (j + k) % 4294967296) a'.width b'.width ∙ small_sum f.0 f.1 f.2.1 f.3.1 ∙ sym f.6 in
    let p = plus_at ms sc y.wires w u r wu apart b'.fits iu (omega arith, (f.0, f.1, f.2, o, (f.1, 0, f.3, b'.operand, refl, omega arith), f.6)) l in
    followed ms sc ws y.wires _ y.part _ f.1 u (followed ms sc ws x.wires y.wires x.part y.part f.0 f.1 a' b') p
low_fits ms sc vars es apart u (part a hi lo) iu f ws env fits l =
    let x = low ms es a ws in
    let e = slice_added IsLonger longer x.part.operand hi lo x.wires in
    let a' = low_fits ms sc vars es apart f.0 a f.1 f.2 ws env fits (omega (arith, e)) in
    let there = slice_inside f.0 hi lo f.3 f.4 f.1.1 in
    let l' : length (sliced x.part.operand hi lo x.wires).wires < 2 ^ 64 = rw there at l in
    let p = slice_fits ms sc x.part.operand hi lo x.wires f.0 u apart a'.fits f.1 iu a'.operand f.3 f.4 f.5 l' in
    rw there (followed ms sc ws x.wires (sliced x.part.operand hi lo x.wires).wires x.part (sliced x.part.operand hi lo x.wires).part f.0 u a' p)
