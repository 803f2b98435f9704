-- One more wire, or one that is there: the wires fit, and the operand has the right side's value.
use Rattle.sap_lemmas.proofs.Common.{◌≡◌, ℕ, ◌+◌, ◌^◌, ◌<◌, ◌≤◌, List, [], ◌∷◌, ◌++◌, Some, None, Bool, false, sym, ap, ◌∙◌, subst, inl, inr, arith, append-nil, bytes_eq, AllByRecursion, cases_Bool, all_append, all_follow}
use Rattle.sap_net.proofs.RulesLemmas.{readable_both, readable_kept, wires_both, Grows}
use Rattle.sap_maps.specs.Prelude.{Name, Valuation, Scope, find}
use Rattle.sap_maps.proofs.Scopes.{found_here}
use Rattle.sap_net.specs.Prelude.{Shapes, IsWidth, IsOperand, IsRight, AreWires, readable_after, operand_value, right_value, Holds}
use Rattle.sap_net.specs.declared.parts.Operand.{Operand}
use Rattle.sap_net.specs.declared.parts.Operand.TheVariants.{Named}
use Rattle.sap_net.specs.declared.parts.Right.{Right}
use Rattle.sap_net.specs.declared.parts.Right.TheVariants.{Copy, One, Two, Choose, Concat, Slice, Cell}
use Rattle.sap_net.specs.declared.parts.Wire.{Wire}
use Rattle.sap_share.specs.Keys.{key}
use Rattle.sap_share.specs.Names.{helper}
use Rattle.sap_share.specs.Rights.{rights}
use Rattle.sap_fold.specs.Wires.{AddsNew, IsThere, Adds, Provides}
use Rattle.sap_fold.specs.Equals.{Over}
use Rattle.sap_fold.specs.Gives.{Numbers, TakenApart, Provided}
use Rattle.sap_share.proofs.Found.{known, known_readable}
use Rattle.sap_share.proofs.Helpers.{helpers_differ}

-- scopes of more and more wires

pub wires_first : (ms : Shapes) (ws xs : List Wire) (sc : Scope) → AreWires ms sc (ws ++ xs) → AreWires ms sc ws × AreWires ms (readable_after sc ws) xs
wires_first ms [] xs sc f = (tt, f)
wires_first ms (w ∷ ws) xs sc f = let r = wires_first ms ws xs _ f.4 in ((f.0, f.1, f.2, f.3, r.0), r.1)

pub holds_both : (widths : Name → ℕ) (v : Valuation) (ws xs : List Wire) → Holds widths v (ws ++ xs) → Holds widths v ws × Holds widths v xs
holds_both widths v [] xs h = (tt, h)
holds_both widths v (w ∷ ws) xs h = let r = holds_both widths v ws xs h.1 in ((h.0, r.0), r.1)

-- what is new to a scope and to the names of wires is new behind them
pub new_behind : (ws : List Wire) (sc : Scope) (n : Name) → find sc n ≡ None → AllByRecursion (λ w. bytes_eq w.name n ≡ false) ws → find (readable_after sc ws) n ≡ None
new_behind [] sc n h a = h
new_behind (w ∷ ws) sc n h a = let f = a.0 in new_behind ws ((w.name, w.width) ∷ sc) n (rw f h) a.1

known_value : (widths : Name → ℕ) (v : Valuation) (ws : List Wire) (u : ℕ) (r : Right) (n : Name) → find (rights ws) (key u r) ≡ Some n
    → Holds widths v ws → v.value n ≡ right_value widths v r
known_value widths v [] u r n e h = absurd (cc)
known_value widths v (w ∷ ws) u r n e h =
    elim (cases_Bool (bytes_eq (key w.width w.right) (key u r))) [
      | inl t ↦ known (λ x s m. v.value m ≡ right_value widths v s) u r w n t (rw t at e) h.0
      | inr f ↦ known_value widths v ws u r n (rw f at e) h.1
    ]

others_differ : (taken : Name → Bool) (ws : List Wire) (next k : ℕ) → next ≤ k → k < 2 ^ 64 → Numbers taken ws next → AllByRecursion (λ w. bytes_eq w.name (helper k) ≡ false) ws
others_differ taken ws next k l s n =
    all_follow _ (λ w. bytes_eq w.name (helper k) ≡ false) ws
    (λ w h. subst (λ (x : Name). bytes_eq x (helper k) ≡ false) (sym h.2) (helpers_differ h.0 k (omega (arith, h.1)) s (omega (arith, h.1)))) n.each

new_fits : (taken : Name → Bool) (ms : Shapes) (sc : Scope) (ws : List Wire) (next u : ℕ) (r : Right) (n : Name) (after : List Wire)
    (next_after : ℕ) → TakenApart taken ms sc → Numbers taken ws next → AreWires ms sc ws → IsWidth u
    → IsRight ms (readable_after sc ws) u r → AddsNew taken ws next u r n after next_after → Provided taken ms sc ws u (Named n) after next_after
new_fits taken ms sc ws next u r n after next_after apart named fits w f a =
    let x : Wire = record { name = n; width = u; right = r } in
    let k = a.number in
    let free = a.free in
    let s : k < 2 ^ 64 = omega (arith, free.small) in
    let d : AllByRecursion (λ y. bytes_eq y.name n ≡ false) ws =
    subst (λ (m : Name). AllByRecursion (λ y. bytes_eq y.name m ≡ false) ws) (sym free.name) (others_differ taken ws next k free.behind s named) in
    let new = apart n free.free in
    let fresh = new_behind ws sc n new.0 d in
    let all = wires_both ms ws (x ∷ []) sc fits (w, fresh, new.1, f, tt) in
    let is : readable_after sc (ws ++ x ∷ []) ≡ (n, u) ∷ readable_after sc ws = readable_both ws (x ∷ []) sc in
    let names : Numbers taken (ws ++ x ∷ []) (k + 1) = record {
      small = free.small;
      each = all_append _ ws (x ∷ []) (all_follow _ _ ws (λ y h. (h.0, omega (arith, h.1, free.behind), h.2, h.3)) named.each) ((k, omega arith, free.name, free.free), tt);
    } in
    let after_is = a.wires in
    record {
      fits = subst (AreWires ms sc) (sym after_is) all;
      named = subst (λ (q : ℕ). Numbers taken after q) (sym a.next_is) (subst (λ (ys : List Wire). Numbers taken ys (k + 1)) (sym after_is) names);
      more = x ∷ [];
      wires = after_is;
      operand = subst (λ (ys : List Wire). find (readable_after sc ys) n ≡ Some u) (sym after_is)
          (subst (λ (sd : Scope). find sd n ≡ Some u) (sym is) (found_here n u (readable_after sc ws)));
    }

there_fits : (taken : Name → Bool) (ms : Shapes) (sc : Scope) (ws : List Wire) (next u : ℕ) (r : Right) (n : Name) (after : List Wire)
    (next_after : ℕ) → Numbers taken ws next → AreWires ms sc ws → IsThere ws next u r n after next_after → Provided taken ms sc ws u (Named n) after next_after
there_fits taken ms sc ws next u r n after next_after named fits a =
    record {
      fits = subst (AreWires ms sc) (sym a.wires) fits;
      named = subst (λ (q : ℕ). Numbers taken after q) (sym a.next_is) (subst (λ (ys : List Wire). Numbers taken ys next) (sym a.wires) named);
      more = [];
      wires = a.wires ∙ sym (append-nil ws);
      operand = subst (λ (ys : List Wire). find (readable_after sc ys) n ≡ Some u) (sym a.wires) (known_readable ms ws sc u r n a.found fits);
    }

copy_fits : (taken : Name → Bool) (ms : Shapes) (sc : Scope) (ws : List Wire) (next u : ℕ) (o p : Operand) (after : List Wire) (next_after : ℕ)
    → Numbers taken ws next → AreWires ms sc ws → IsOperand (readable_after sc ws) u p → o ≡ p → after ≡ ws → next_after ≡ next → Provided taken ms sc ws u o after next_after
copy_fits taken ms sc ws next u o p after next_after named fits f e a n =
    record {
      fits = subst (AreWires ms sc) (sym a) fits;
      named = subst (λ (q : ℕ). Numbers taken after q) (sym n) (subst (λ (ys : List Wire). Numbers taken ys next) (sym a) named);
      more = [];
      wires = a ∙ sym (append-nil ws);
      operand = subst (λ (q : Operand). IsOperand (readable_after sc after) u q) (sym e) (subst (λ (ys : List Wire). IsOperand (readable_after sc ys) u p) (sym a) f);
    }

adds_fits : (taken : Name → Bool) (ms : Shapes) (sc : Scope) (ws : List Wire) (next u : ℕ) (r : Right) (o : Operand) (n : Name)
    (after : List Wire) (next_after : ℕ) → TakenApart taken ms sc → Numbers taken ws next → AreWires ms sc ws → IsWidth u
    → IsRight ms (readable_after sc ws) u r → o ≡ Named n → Adds taken ws next u r n after next_after → Provided taken ms sc ws u o after next_after
adds_fits taken ms sc ws next u r o n after next_after apart named fits w f e (inl a) =
    subst (λ (q : Operand). Provided taken ms sc ws u q after next_after) (sym e) (there_fits taken ms sc ws next u r n after next_after named fits a)
adds_fits taken ms sc ws next u r o n after next_after apart named fits w f e (inr a) =
    subst (λ (q : Operand). Provided taken ms sc ws u q after next_after) (sym e) (new_fits taken ms sc ws next u r n after next_after apart named fits w f a)

pub provided : (taken : Name → Bool) (ms : Shapes) (sc : Scope) (ws : List Wire) (next u : ℕ) (r : Right) (o : Operand) (after : List Wire)
    (next_after : ℕ) → TakenApart taken ms sc → Numbers taken ws next → AreWires ms sc ws → IsWidth u
    → IsRight ms (readable_after sc ws) u r → Provides taken ws next u r o after next_after → Provided taken ms sc ws u o after next_after
provided taken ms sc ws next u (Copy p) o after na apart named fits w f a = copy_fits taken ms sc ws next u o p after na named fits f a.0 a.1 a.2
provided taken ms sc ws next u (One op p) o after na apart named fits w f a = adds_fits taken ms sc ws next u (One op p) o a.0 after na apart named fits w f a.1 a.2
provided taken ms sc ws next u (Two op p q) o after na apart named fits w f a = adds_fits taken ms sc ws next u (Two op p q) o a.0 after na apart named fits w f a.1 a.2
provided taken ms sc ws next u (Choose c p q) o after na apart named fits w f a = adds_fits taken ms sc ws next u (Choose c p q) o a.0 after na apart named fits w f a.1 a.2
provided taken ms sc ws next u (Concat os) o after na apart named fits w f a = adds_fits taken ms sc ws next u (Concat os) o a.0 after na apart named fits w f a.1 a.2
provided taken ms sc ws next u (Slice x hi lo) o after na apart named fits w f a = adds_fits taken ms sc ws next u (Slice x hi lo) o a.0 after na apart named fits w f a.1 a.2
provided taken ms sc ws next u (Cell m i) o after na apart named fits w f a = adds_fits taken ms sc ws next u (Cell m i) o a.0 after na apart named fits w f a.1 a.2

-- values

adds_value : (taken : Name → Bool) (widths : Name → ℕ) (v : Valuation) (ws : List Wire) (next u : ℕ) (r : Right) (o : Operand) (n : Name)
    (after : List Wire) (next_after : ℕ) → o ≡ Named n → Adds taken ws next u r n after next_after → Holds widths v after → operand_value v o ≡ right_value widths v r
adds_value taken widths v ws next u r o n after na e (inl a) h =
    ap (operand_value v) e ∙ known_value widths v ws u r n a.found (subst (Holds widths v) a.wires h)
adds_value taken widths v ws next u r o n after na e (inr a) h =
    let x : Wire = record { name = n; width = u; right = r } in
    ap (operand_value v) e ∙ (holds_both widths v ws (x ∷ []) (subst (Holds widths v) a.wires h)).1.0

pub provided_value : (taken : Name → Bool) (widths : Name → ℕ) (v : Valuation) (ws : List Wire) (next u : ℕ) (r : Right) (o : Operand)
    (after : List Wire) (next_after : ℕ) → Provides taken ws next u r o after next_after → Holds widths v after → operand_value v o ≡ right_value widths v r
provided_value taken widths v ws next u (Copy p) o after na a h = ap (operand_value v) a.0
provided_value taken widths v ws next u (One op p) o after na a h = adds_value taken widths v ws next u (One op p) o a.0 after na a.1 a.2 h
provided_value taken widths v ws next u (Two op p q) o after na a h = adds_value taken widths v ws next u (Two op p q) o a.0 after na a.1 a.2 h
provided_value taken widths v ws next u (Choose c p q) o after na a h = adds_value taken widths v ws next u (Choose c p q) o a.0 after na a.1 a.2 h
provided_value taken widths v ws next u (Concat os) o after na a h = adds_value taken widths v ws next u (Concat os) o a.0 after na a.1 a.2 h
provided_value taken widths v ws next u (Slice x hi lo) o after na a h = adds_value taken widths v ws next u (Slice x hi lo) o a.0 after na a.1 a.2 h
provided_value taken widths v ws next u (Cell m i) o after na a h = adds_value taken widths v ws next u (Cell m i) o a.0 after na a.1 a.2 h

-- scopes and valuations of fewer wires

pub grows_more : (ms : Shapes) (sc : Scope) (ws after more : List Wire) → after ≡ ws ++ more → AreWires ms sc after → Grows (readable_after sc ws) (readable_after sc after)
grows_more ms sc ws after more e f =
    let g = wires_first ms ws more sc (subst (AreWires ms sc) e f) in
    let k = readable_kept ms more (readable_after sc ws) g.1 in
    λ x u h. subst (λ (ys : List Wire). find (readable_after sc ys) x ≡ Some u) (sym e) (subst (λ (sd : Scope). find sd x ≡ Some u) (sym (readable_both ws more sc)) (k x u h))

pub over_first : (ms : Shapes) (sc : Scope) (ws after more : List Wire) (ww : Name → ℕ) (w : Valuation) → after ≡ ws ++ more → Over ms sc after ww w → Over ms sc ws ww w
over_first ms sc ws after more ww w e o =
    let g = grows_more ms sc ws after more e o.wires in
    record {
      wires = (wires_first ms ws more sc (subst (AreWires ms sc) e o.wires)).0;
      wide = λ x u h. o.wide x u (g x u h);
      below = λ x u h. o.below x u (g x u h);
      holds = (holds_both ww w ws more (subst (Holds ww w) e o.holds)).0;
    }
