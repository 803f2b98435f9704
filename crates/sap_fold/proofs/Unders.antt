-- What operands are where a bit is known.
use Rattle.sap_lemmas.proofs.Common.{◌≡◌, ℕ, ◌-◌, ◌^◌, ◌<◌, ◌==◌, List, Option, Some, None, Bool, true, false, sym, ap, ◌∙◌, subst, refl, inl, inr, arith, ◌⊎◌, not, IfSome, if◌then◌else◌, bit_and, bit_or, and_zero_l, or_zero_l, and_comm, or_comm, cases_Bool}
use Rattle.sap_bits.specs.Arithmetic.{value2}
use Rattle.sap_bits.specs.declared.Op1.TheVariants.{Not}
use Rattle.sap_bits.specs.declared.Op2.{Op2}
use Rattle.sap_bits.specs.declared.Op2.TheVariants.{And, Or}
use Rattle.sap_maps.specs.Prelude.{Valuation, Scope}
use Rattle.sap_net.specs.Prelude.{Shapes, IsOperand, AreWires, readable_after, operand_value, operand_width}
use Rattle.sap_net.specs.declared.parts.Operand.{Operand}
use Rattle.sap_net.specs.declared.parts.Operand.TheVariants.{Named, Constant}
use Rattle.sap_net.specs.declared.parts.Right.{Right}
use Rattle.sap_net.specs.declared.parts.Right.TheVariants.{Copy, One, Two, Choose}
use Rattle.sap_net.specs.declared.parts.Wire.{Wire}
use Rattle.sap_net.proofs.Within.{operand_below, operand_is_wide}
use Rattle.sap_fold.specs.Seen.{Defines}
use Rattle.sap_fold.specs.Folding.{same_operand}
use Rattle.sap_fold.specs.Under.{number, bit, other, chosen, decided, right_under, tells, only_second, only_first, Under}
use Rattle.sap_fold.proofs.Folds.{KeepsWidth, SameWidths, same_is, number_is, bit_cases, one_and, one_or}
use Rattle.sap_fold.proofs.Sees.{defined_right, defined_same}

-- an operand has one width
pub one_width : (sc : Scope) (u t : ℕ) (o : Operand) → IsOperand sc u o → IsOperand sc t o → u ≡ t
one_width sc u t (Named x) h k =
    let e : Some u ≡ Some t = sym h ∙ k in cc
one_width sc u t (Constant w n) h k = sym h.0 ∙ k.0

pub number_below : (t : Bool) → number t < 2 ^ 1
number_below true = omega arith
number_below false = omega arith

pub bit_fits : (sc : Scope) (u : ℕ) (t : Bool) → u ≡ 1 → IsOperand sc u (bit t)
bit_fits sc u t e = (sym e, subst (λ (k : ℕ). number t < 2 ^ k) (sym e) (number_below t))

-- a choice by the bit

abbrev Chosen : (c : Operand) (t : Bool) (d a b p : Operand) → Type 0
Chosen c t d a b p = (d ≡ c) × (p ≡ (if t then a else b))

chosen_is : (c : Operand) (t : Bool) (d a b p : Operand) → chosen c t d a b ≡ Some p → Chosen c t d a b p
chosen_is c t d a b p h =
    elim (cases_Bool (same_operand d c)) [
      | inl s ↦ let g : Some (if t then a else b) ≡ Some p = rw s at h in (same_is d c s, cc)
      | inr f ↦ absurd (let g : None ≡ Some p = rw f at h in cc)
    ]

under_choice : (ws : List Wire) (c o : Operand) (t : Bool) (d a b p : Operand) → Defines ws o (Choose d a b) → Chosen c t d a b p → Under ws c (number t) o (Copy p)
under_choice ws c o true d a b p k e =
    record {
      fits = λ ms sc u f hc ho. subst (IsOperand (readable_after sc ws) u) (sym e.1) (defined_right ms sc ws o (Choose d a b) u f ho k).1;
      same = λ ms sc widths v u q hc ho n.
          let i : operand_value v d ≡ 1 = ap (operand_value v) e.0 ∙ n in
          defined_same widths v ws o (Choose d a b) q.holds k ∙ ap (λ (x : ℕ). if x == 0 then operand_value v b else operand_value v a) i ∙ ap (operand_value v) (sym e.1);
    }
under_choice ws c o false d a b p k e =
    record {
      fits = λ ms sc u f hc ho. subst (IsOperand (readable_after sc ws) u) (sym e.1) (defined_right ms sc ws o (Choose d a b) u f ho k).2;
      same = λ ms sc widths v u q hc ho n.
          let i : operand_value v d ≡ 0 = ap (operand_value v) e.0 ∙ n in
          defined_same widths v ws o (Choose d a b) q.holds k ∙ ap (λ (x : ℕ). if x == 0 then operand_value v b else operand_value v a) i ∙ ap (operand_value v) (sym e.1);
    }

-- `&` and `|` of the bit and another operand

abbrev IsPair : (c a b o : Operand) → Type 0
IsPair c a b o = ((a ≡ c) × (o ≡ b)) ⊎ ((b ≡ c) × (o ≡ a))

pub other_is : (c a b o : Operand) → other c a b ≡ Some o → IsPair c a b o
other_is c a b o h =
    elim (cases_Bool (same_operand a c)) [
      | inl s ↦ let g : Some b ≡ Some o = rw s at h in inl (same_is a c s, cc)
      | inr f ↦
          let g : (if same_operand b c then Some a else None) ≡ Some o = rw f at h in
          elim (cases_Bool (same_operand b c)) [
            | inl s ↦ let i : Some a ≡ Some o = rw s at g in inr (same_is b c s, cc)
            | inr j ↦ absurd (let i : None ≡ Some o = rw j at g in cc)
          ]
    ]

decided_is : (t d : Bool) (m : Option Operand) (p : Operand) → decided t d m ≡ Some p → (o : Operand) × (m ≡ Some o) × (p ≡ (if d then bit t else o))
decided_is t d None p h = absurd (cc)
decided_is t d (Some o) p h =
    let e : (if d then bit t else o) ≡ p = cc in (o, refl, sym e)

decided_fits : (sc : Scope) (u : ℕ) (t d : Bool) (o : Operand) → u ≡ 1 → IsOperand sc u o → IsOperand sc u (if d then bit t else o)
decided_fits sc u t true o e h = bit_fits sc u t e
decided_fits sc u t false o e h = h

decided_value : (v : Valuation) (t d : Bool) (o : Operand) → operand_value v (if d then bit t else o) ≡ (if d then number t else operand_value v o)
decided_value v t true o = refl
decided_value v t false o = refl

-- the widths of a pair under an operator of equal widths
pair_wide : (sc : Scope) (u t : ℕ) (c a b o : Operand) → t ≡ u → IsOperand sc 1 c → IsOperand sc u a → IsOperand sc t b → IsPair c a b o → (u ≡ 1) × IsOperand sc u o
pair_wide sc u t c a b o s hc ha hb (inl e) = (
  one_width sc u 1 c (subst (IsOperand sc u) e.0 ha) hc,
  subst (IsOperand sc u) (sym e.1) (subst (λ (k : ℕ). IsOperand sc k b) s hb),
)
pair_wide sc u t c a b o s hc ha hb (inr e) = (
  one_width sc u 1 c (subst (IsOperand sc u) e.0 (subst (λ (k : ℕ). IsOperand sc k b) s hb)) hc,
  subst (IsOperand sc u) (sym e.1) ha,
)

pair_value : (op : ℕ → ℕ → ℕ) → ((x y : ℕ) → op x y ≡ op y x) → (v : Valuation) (c a b o : Operand) → IsPair c a b o
    → op (operand_value v a) (operand_value v b) ≡ op (operand_value v c) (operand_value v o)
pair_value op comm v c a b o (inl e) =
    ap (λ (x : Operand). op (operand_value v x) (operand_value v b)) e.0 ∙ ap (λ (x : Operand). op (operand_value v c) (operand_value v x)) (sym e.1)
pair_value op comm v c a b o (inr e) =
    comm (operand_value v a) (operand_value v b)
    ∙ ap (λ (x : Operand). op (operand_value v x) (operand_value v a)) e.0 ∙ ap (λ (x : Operand). op (operand_value v c) (operand_value v x)) (sym e.1)

and_decided : (t : Bool) (y : ℕ) → y < 2 ^ 1 → bit_and (number t) y ≡ (if not t then number t else y)
and_decided true y h = one_and y h
and_decided false y h = and_zero_l y

or_decided : (t : Bool) (y : ℕ) → y < 2 ^ 1 → bit_or (number t) y ≡ (if t then number t else y)
or_decided true y h = one_or y h
or_decided false y h = or_zero_l y

under_pair : (ws : List Wire) (c x : Operand) (t d : Bool) (op : Op2) (f : ℕ → ℕ → ℕ) (a b o p : Operand) → KeepsWidth op → SameWidths op
    → ((u y z : ℕ) → value2 op u y z ≡ f y z) → ((y z : ℕ) → f y z ≡ f z y)
    → ((y : ℕ) → y < 2 ^ 1 → f (number t) y ≡ (if d then number t else y)) → Defines ws x (Two op a b) → IsPair c a b o
    → p ≡ (if d then bit t else o) → Under ws c (number t) x (Copy p)
under_pair ws c x t d op f a b o p keeps same is comm value k pair e =
    record {
      fits = λ ms sc u g hc hx.
          let sd = readable_after sc ws in
          let r = defined_right ms sc ws x (Two op a b) u g hx k in
          let i : u ≡ r.0 = r.7 ∙ keeps r.0 in
          let w = pair_wide sd r.0 r.1 c a b o (same r.0 r.1 r.6) hc r.4 r.5 pair in
          subst (IsOperand sd u) (sym e) (decided_fits sd u t d o (i ∙ w.0) (subst (λ (z : ℕ). IsOperand sd z o) (sym i) w.1));
      same = λ ms sc widths v u q hc hx n.
          let sd = readable_after sc ws in
          let r = defined_right ms sc ws x (Two op a b) u q.wires hx k in
          let w = pair_wide sd r.0 r.1 c a b o (same r.0 r.1 r.6) hc r.4 r.5 pair in
          let l : operand_value v o < 2 ^ 1 = operand_below sd v q.below 1 o (subst (λ (z : ℕ). IsOperand sd z o) w.0 w.1) in
          defined_same widths v ws x (Two op a b) q.holds k ∙ is (operand_width widths a) (operand_value v a) (operand_value v b)
          ∙ pair_value f comm v c a b o pair ∙ ap (λ (y : ℕ). f y (operand_value v o)) n ∙ value (operand_value v o) l
          ∙ sym (decided_value v t d o) ∙ ap (operand_value v) (sym e);
    }

pub under_right : (ws : List Wire) (c x : Operand) (t : Bool) (r : Right) (p : Operand) → Defines ws x r → right_under c t r ≡ Some p → Under ws c (number t) x (Copy p)
under_right ws c x t (Choose d a b) p k h = under_choice ws c x t d a b p k (chosen_is c t d a b p h)
under_right ws c x t (Two And a b) p k h =
    let r = decided_is t (not t) (other c a b) p h in
    under_pair ws c x t (not t) And bit_and a b r.0 p (λ u. refl) (λ u y z. z) (λ u y z. refl) and_comm (and_decided t) k (other_is c a b r.0 r.1) r.2
under_right ws c x t (Two Or a b) p k h =
    let r = decided_is t t (other c a b) p h in
    under_pair ws c x t t Or bit_or a b r.0 p (λ u. refl) (λ u y z. z) (λ u y z. refl) or_comm (or_decided t) k (other_is c a b r.0 r.1) r.2
under_right ws c x t _ p k h = absurd (let e : None ≡ Some p = h in cc)

pub some_under : (ws : List Wire) (c x : Operand) (t : Bool) (r : Right) (m : Option Operand) → Defines ws x r → m ≡ right_under c t r
    → IfSome m (λ p. Under ws c (number t) x (Copy p))
some_under ws c x t r None k h = tt
some_under ws c x t r (Some p) k h = under_right ws c x t r p k (sym h)

-- a negation

pub under_negation : (ws : List Wire) (c x q p : Operand) (n : ℕ) → Defines ws x (One Not q) → Under ws c n q (Copy p) → Under ws c n x (One Not p)
under_negation ws c x q p n k g =
    record {
      fits = λ ms sc u f hc hx.
          let r = defined_right ms sc ws x (One Not q) u f hx k in
          (r.0, r.1, g.fits ms sc r.0 f hc r.2, r.3);
      same = λ ms sc widths v u o hc hx i.
          let sd = readable_after sc ws in
          let r = defined_right ms sc ws x (One Not q) u o.wires hx k in
          let wq : operand_width widths q ≡ r.0 = operand_is_wide sd widths o.wide r.0 q r.2 in
          let wp : operand_width widths p ≡ r.0 = operand_is_wide sd widths o.wide r.0 p (g.fits ms sc r.0 o.wires hc r.2) in
          let e : operand_value v q ≡ operand_value v p = g.same ms sc widths v r.0 o hc r.2 i in
          defined_same widths v ws x (One Not q) o.holds k ∙ ap (λ (y : ℕ). 2 ^ operand_width widths q - 1 - y) e ∙ ap (λ (y : ℕ). 2 ^ y - 1 - operand_value v p) (wq ∙ sym wp);
    }

-- what follows from the bit's own right side

turned_number : (t : Bool) (x y : ℕ) → x < 2 ^ 1 → y ≡ 2 ^ 1 - 1 - x → y ≡ number t → x ≡ number (not t)
turned_number true x y h e f = omega (arith, h, e, f)
turned_number false x y h e f = omega (arith, h, e, f)

pub caused_negation : (ws : List Wire) (c q x : Operand) (t : Bool) (r : Right) → Defines ws c (One Not q) → Under ws q (number (not t)) x r → Under ws c (number t) x r
caused_negation ws c q x t r k g =
    record {
      fits = λ ms sc u f hc hx.
          let d = defined_right ms sc ws c (One Not q) 1 f hc k in
          g.fits ms sc u f (subst (λ (n : ℕ). IsOperand (readable_after sc ws) n q) (sym d.3) d.2) hx;
      same = λ ms sc widths v u o hc hx i.
          let sd = readable_after sc ws in
          let d = defined_right ms sc ws c (One Not q) 1 o.wires hc k in
          let hq : IsOperand sd 1 q = subst (λ (n : ℕ). IsOperand sd n q) (sym d.3) d.2 in
          let l : operand_value v q < 2 ^ 1 = operand_below sd v o.below 1 q hq in
          let e : operand_value v c ≡ 2 ^ 1 - 1 - operand_value v q =
          defined_same widths v ws c (One Not q) o.holds k ∙ ap (λ (n : ℕ). 2 ^ n - 1 - operand_value v q) (operand_is_wide sd widths o.wide 1 q hq) in
          g.same ms sc widths v u o hq hx (turned_number t (operand_value v q) (operand_value v c) l e i);
    }

and_tells : (t : Bool) (x y : ℕ) → t ≡ true → x < 2 ^ 1 → y < 2 ^ 1 → bit_and x y ≡ number t → (x ≡ number t) × (y ≡ number t)
and_tells false x y e h k f = absurd (cc)
and_tells true x y e h k f =
    elim (bit_cases x h) [
      | inl i ↦ absurd (let g : 0 ≡ 1 = sym (and_zero_l y) ∙ (rw i at f) in omega (arith, g))
      | inr i ↦ (i, sym (one_and y k) ∙ (rw i at f))
    ]

or_tells : (t : Bool) (x y : ℕ) → not t ≡ true → x < 2 ^ 1 → y < 2 ^ 1 → bit_or x y ≡ number t → (x ≡ number t) × (y ≡ number t)
or_tells true x y e h k f = absurd (cc)
or_tells false x y e h k f =
    elim (bit_cases x h) [
      | inl i ↦ (i, sym (or_zero_l y) ∙ (rw i at f))
      | inr i ↦ absurd (let g : 1 ≡ 0 = sym (one_or y k) ∙ (rw i at f) in omega (arith, g))
    ]

caused_pair : (ws : List Wire) (c p q x : Operand) (t : Bool) (op : Op2) (f : ℕ → ℕ → ℕ) (r : Right) → KeepsWidth op → SameWidths op
    → ((u y z : ℕ) → value2 op u y z ≡ f y z) → ((y z : ℕ) → y < 2 ^ 1 → z < 2 ^ 1 → f y z ≡ number t → (y ≡ number t) × (z ≡ number t))
    → Defines ws c (Two op p q) → Under ws p (number t) x r ⊎ Under ws q (number t) x r → Under ws c (number t) x r
caused_pair ws c p q x t op f r keeps same is both k g =
    let left : (ms : Shapes) (sc : Scope) → AreWires ms sc ws → IsOperand (readable_after sc ws) 1 c → IsOperand (readable_after sc ws) 1 p × IsOperand (readable_after sc ws) 1 q =
    λ ms sc a hc.
    let d = defined_right ms sc ws c (Two op p q) 1 a hc k in
    let i : d.0 ≡ 1 = sym (d.7 ∙ keeps d.0) in
    (subst (λ (n : ℕ). IsOperand (readable_after sc ws) n p) i d.4, subst (λ (n : ℕ). IsOperand (readable_after sc ws) n q) (same d.0 d.1 d.6 ∙ i) d.5) in
    record {
      fits = λ ms sc u a hc hx.
          let h = left ms sc a hc in
          elim g [ inl y ↦ y.fits ms sc u a h.0 hx | inr y ↦ y.fits ms sc u a h.1 hx ];
      same = λ ms sc widths v u o hc hx i.
          let h = left ms sc o.wires hc in
          let lp : operand_value v p < 2 ^ 1 = operand_below (readable_after sc ws) v o.below 1 p h.0 in
          let lq : operand_value v q < 2 ^ 1 = operand_below (readable_after sc ws) v o.below 1 q h.1 in
          let e : f (operand_value v p) (operand_value v q) ≡ number t =
          sym (defined_same widths v ws c (Two op p q) o.holds k ∙ is (operand_width widths p) (operand_value v p) (operand_value v q)) ∙ i in
          let b = both (operand_value v p) (operand_value v q) lp lq e in
          elim g [ inl y ↦ y.same ms sc widths v u o h.0 hx b.0 | inr y ↦ y.same ms sc widths v u o h.1 hx b.1 ];
    }

pub caused_both : (ws : List Wire) (c p q x : Operand) (t : Bool) (op : Op2) (r : Right) → tells op t ≡ true → Defines ws c (Two op p q)
    → Under ws p (number t) x r ⊎ Under ws q (number t) x r → Under ws c (number t) x r
caused_both ws c p q x t And r h k g = caused_pair ws c p q x t And bit_and r (λ u. refl) (λ u y z. z) (λ u y z. refl) (λ y z. and_tells t y z h) k g
caused_both ws c p q x t Or r h k g = caused_pair ws c p q x t Or bit_or r (λ u. refl) (λ u y z. z) (λ u y z. refl) (λ y z. or_tells t y z h) k g
caused_both ws c p q x t _ r h k g = absurd (let e : false ≡ true = h in cc)

pub some_caused_negation : (ws : List Wire) (c q x : Operand) (t : Bool) (m : Option Right) → Defines ws c (One Not q)
    → IfSome m (λ r. Under ws q (number (not t)) x r) → IfSome m (λ r. Under ws c (number t) x r)
some_caused_negation ws c q x t None k h = tt
some_caused_negation ws c q x t (Some r) k h = caused_negation ws c q x t r k h

pub some_caused_both : (ws : List Wire) (c p q x : Operand) (t : Bool) (op : Op2) (m : Option Right) → tells op t ≡ true
    → Defines ws c (Two op p q) → IfSome m (λ r. Under ws p (number t) x r ⊎ Under ws q (number t) x r) → IfSome m (λ r. Under ws c (number t) x r)
some_caused_both ws c p q x t op None h k g = tt
some_caused_both ws c p q x t op (Some r) h k g = caused_both ws c p q x t op r h k g

-- what follows from the bit's own choice

caused_arm : (ws : List Wire) (c d p q e x : Operand) (s t : Bool) (r : Right)
    → ((sc : Scope) → IsOperand sc 1 p → IsOperand sc 1 q → IsOperand sc 1 e)
    → ((v : Valuation) → operand_value v d < 2 ^ 1 → (if operand_value v d == 0 then operand_value v q else operand_value v p) ≡ number t
    → (operand_value v d ≡ number s) × (operand_value v e ≡ number t)) → Defines ws c (Choose d p q) → Under ws d (number s) x r
    ⊎ Under ws e (number t) x r → Under ws c (number t) x r
caused_arm ws c d p q e x s t r wide both k g =
    record {
      fits = λ ms sc u a hc hx.
          let h = defined_right ms sc ws c (Choose d p q) 1 a hc k in
          elim g [
            | inl y ↦ y.fits ms sc u a h.0 hx
            | inr y ↦ y.fits ms sc u a (wide (readable_after sc ws) h.1 h.2) hx
          ];
      same = λ ms sc widths v u o hc hx i.
          let sd = readable_after sc ws in
          let h = defined_right ms sc ws c (Choose d p q) 1 o.wires hc k in
          let l : operand_value v d < 2 ^ 1 = operand_below sd v o.below 1 d h.0 in
          let b = both v l (sym (defined_same widths v ws c (Choose d p q) o.holds k) ∙ i) in
          elim g [
            | inl y ↦ y.same ms sc widths v u o h.0 hx b.0
            | inr y ↦ y.same ms sc widths v u o (wide sd h.1 h.2) hx b.1
          ];
    }

second_tells : (x y z : ℕ) → x < 2 ^ 1 → y ≡ 0 → (if x == 0 then z else y) ≡ 1 → (x ≡ 0) × (z ≡ 1)
second_tells x y z h e f =
    elim (bit_cases x h) [
      | inl i ↦ (i, rw i at f)
      | inr i ↦ absurd (let g : y ≡ 1 = rw i at f in omega (arith, e, g))
    ]

first_tells : (x y z : ℕ) → x < 2 ^ 1 → z ≡ 1 → (if x == 0 then z else y) ≡ 0 → (x ≡ 1) × (y ≡ 0)
first_tells x y z h e f =
    elim (bit_cases x h) [
      | inl i ↦ absurd (let g : z ≡ 0 = rw i at f in omega (arith, e, g))
      | inr i ↦ (i, rw i at f)
    ]

caused_second : (ws : List Wire) (c d p q x : Operand) (t : Bool) (r : Right) → only_second t p ≡ true → Defines ws c (Choose d p q)
    → Under ws d (number false) x r ⊎ Under ws q (number true) x r → Under ws c (number t) x r
caused_second ws c d p q x true r h k g =
    caused_arm ws c d p q q x false true r (λ sc a b. b) (λ v l i. second_tells (operand_value v d) (operand_value v p) (operand_value v q) l (number_is v p 0 h) i) k g
caused_second ws c d p q x false r h k g = absurd (let e : false ≡ true = h in cc)

caused_first : (ws : List Wire) (c d p q x : Operand) (t : Bool) (r : Right) → only_first t q ≡ true → Defines ws c (Choose d p q)
    → Under ws d (number true) x r ⊎ Under ws p (number false) x r → Under ws c (number t) x r
caused_first ws c d p q x false r h k g =
    caused_arm ws c d p q p x true false r (λ sc a b. a) (λ v l i. first_tells (operand_value v d) (operand_value v p) (operand_value v q) l (number_is v q 1 h) i) k g
caused_first ws c d p q x true r h k g = absurd (let e : false ≡ true = h in cc)

pub some_caused_second : (ws : List Wire) (c d p q x : Operand) (t : Bool) (m : Option Right) → only_second t p ≡ true
    → Defines ws c (Choose d p q) → IfSome m (λ r. Under ws d (number false) x r ⊎ Under ws q (number true) x r) → IfSome m (λ r. Under ws c (number t) x r)
some_caused_second ws c d p q x t None h k g = tt
some_caused_second ws c d p q x t (Some r) h k g = caused_second ws c d p q x t r h k g

pub some_caused_first : (ws : List Wire) (c d p q x : Operand) (t : Bool) (m : Option Right) → only_first t q ≡ true
    → Defines ws c (Choose d p q) → IfSome m (λ r. Under ws d (number true) x r ⊎ Under ws p (number false) x r) → IfSome m (λ r. Under ws c (number t) x r)
some_caused_first ws c d p q x t None h k g = tt
some_caused_first ws c d p q x t (Some r) h k g = caused_first ws c d p q x t r h k g
