-- Right sides that become others over the same wires and perhaps more.
use Rattle.sap_lemmas.proofs.Common.{◌≡◌, ℕ, ◌^◌, ◌<◌, ◌==◌, List, [], ◌++◌, Bool, false, sym, ap, ◌∙◌, subst, refl, inl, inr, arith, append_assoc, append-nil, bit_and, bit_or, and_zero_l, and_comm, or_comm, cases_Bool, positive_of_test, zero_of_test}
use Rattle.sap_bits.specs.Arithmetic.{value2}
use Rattle.sap_bits.specs.declared.Op2.{Op2}
use Rattle.sap_bits.specs.declared.Op2.TheVariants.{And, Or}
use Rattle.sap_maps.specs.Prelude.{Name, Scope, CountFits}
use Rattle.sap_net.specs.Prelude.{Shapes, AreWires, IsOperand, IsRight, readable_after, operand_value, operand_width}
use Rattle.sap_net.specs.declared.parts.Operand.{Operand}
use Rattle.sap_net.specs.declared.parts.Right.{Right}
use Rattle.sap_net.specs.declared.parts.Right.TheVariants.{Two, Choose}
use Rattle.sap_net.specs.declared.parts.Wire.{Wire}
use Rattle.sap_net.proofs.Within.{operand_below}
use Rattle.sap_net.proofs.RulesLemmas.{operand_grows}
use Rattle.sap_fold.specs.Equals.{Equals}
use Rattle.sap_fold.specs.Wires.{Provides}
use Rattle.sap_fold.specs.Gives.{Gives, Becomes, ArmGives, Stand, Numbers}
use Rattle.sap_fold.specs.Under.{number, is_and, IsBitwise, Under}
use Rattle.sap_fold.proofs.Provided.{provided, provided_value, grows_more, over_first}
use Rattle.sap_fold.proofs.Folds.{KeepsWidth, SameWidths, bit_cases, one_or}

behind : {taken : Name → Bool} {ms : Shapes} {sc : Scope} {ws mid : List Wire} {next nm u : ℕ} → Stand taken ms sc ws next u
    → Numbers taken mid nm → AreWires ms sc mid → Stand taken ms sc mid nm u
behind s named fits = record { apart = s.apart; named = named; fits = fits; wide = s.wide }

-- a right side that is provided gives its operand
pub gives_provided : (taken : Name → Bool) (ws : List Wire) (next u : ℕ) (r : Right) (o : Operand) (after : List Wire) (na : ℕ)
    → Provides taken ws next u r o after na → Gives taken ws next u r o after na
gives_provided taken ws next u r o after na a =
    record {
      fits = λ ms sc s h. provided taken ms sc ws next u r o after na s.apart s.named s.fits s.wide h a;
      same = λ ms sc widths v s h over. sym (provided_value taken widths v ws next u r o after na a over.holds);
    }

pub becomes_equal : (taken : Name → Bool) (ws : List Wire) (next u : ℕ) (a b : Right) → Equals ws u a b → Becomes taken ws next u a b ws next
becomes_equal taken ws next u a b e =
    record {
      grown = λ ms sc s h. record { fits = s.fits; named = s.named; more = []; wires = sym (append-nil ws) };
      fits = λ ms sc s h. e.fits ms sc s.fits h;
      same = λ ms sc widths v s h over. e.same ms sc widths v over h;
    }

pub becomes_both : (taken : Name → Bool) (ws : List Wire) (next u : ℕ) (a b c : Right) (mid : List Wire) (nm : ℕ) (after : List Wire) (na : ℕ)
    → Becomes taken ws next u a b mid nm → Becomes taken mid nm u b c after na → Becomes taken ws next u a c after na
becomes_both taken ws next u a b c mid nm after na d e =
    record {
      grown = λ ms sc s h.
          let g = d.grown ms sc s h in
          let k = e.grown ms sc (behind s g.named g.fits) (d.fits ms sc s h) in
          record {
            fits = k.fits;
            named = k.named;
            more = g.more ++ k.more;
            wires = k.wires ∙ ap (λ (ys : List Wire). ys ++ k.more) g.wires ∙ append_assoc ws g.more k.more;
          };
      fits = λ ms sc s h.
          let g = d.grown ms sc s h in
          e.fits ms sc (behind s g.named g.fits) (d.fits ms sc s h);
      same = λ ms sc widths v s h over.
          let g = d.grown ms sc s h in
          let i = d.fits ms sc s h in
          let k = e.grown ms sc (behind s g.named g.fits) i in
          d.same ms sc widths v s h (over_first ms sc mid after k.more widths v k.wires over)
          ∙ e.same ms sc widths v (behind s g.named g.fits) i over;
    }

pub gives_becoming : (taken : Name → Bool) (ws : List Wire) (next u : ℕ) (a b : Right) (o : Operand) (mid : List Wire) (nm : ℕ)
    (after : List Wire) (na : ℕ) → Becomes taken ws next u a b mid nm → Gives taken mid nm u b o after na → Gives taken ws next u a o after na
gives_becoming taken ws next u a b o mid nm after na d e =
    record {
      fits = λ ms sc s h.
          let g = d.grown ms sc s h in
          let k = e.fits ms sc (behind s g.named g.fits) (d.fits ms sc s h) in
          record {
            fits = k.fits;
            named = k.named;
            more = g.more ++ k.more;
            wires = k.wires ∙ ap (λ (ys : List Wire). ys ++ k.more) g.wires ∙ append_assoc ws g.more k.more;
            operand = k.operand;
          };
      same = λ ms sc widths v s h over.
          let g = d.grown ms sc s h in
          let i = d.fits ms sc s h in
          let k = e.fits ms sc (behind s g.named g.fits) i in
          d.same ms sc widths v s h (over_first ms sc mid after k.more widths v k.wires over)
          ∙ e.same ms sc widths v (behind s g.named g.fits) i over;
    }

-- arms

pub arm_itself : (taken : Name → Bool) (ws : List Wire) (next u : ℕ) (c : Operand) (n : ℕ) (a : Operand) → ArmGives taken ws next u c n a a ws next
arm_itself taken ws next u c n a =
    record {
      fits = λ ms sc s hc ha. record { fits = s.fits; named = s.named; more = []; wires = sym (append-nil ws); operand = ha };
      same = λ ms sc widths v s hc ha over i. refl;
    }

pub arm_known : (taken : Name → Bool) (ws : List Wire) (next u : ℕ) (c : Operand) (n : ℕ) (a : Operand) (r q : Right) (p : Operand)
    (after : List Wire) (na : ℕ) → Under ws c n a r → Equals ws u r q → Provides taken ws next u q p after na → ArmGives taken ws next u c n a p after na
arm_known taken ws next u c n a r q p after na k e g =
    record {
      fits = λ ms sc s hc ha. provided taken ms sc ws next u q p after na s.apart s.named s.fits s.wide (e.fits ms sc s.fits (k.fits ms sc u s.fits hc ha)) g;
      same = λ ms sc widths v s hc ha over i.
          let h = k.fits ms sc u s.fits hc ha in
          let d = provided taken ms sc ws next u q p after na s.apart s.named s.fits s.wide (e.fits ms sc s.fits h) g in
          let before = over_first ms sc ws after d.more widths v d.wires over in
          k.same ms sc widths v u before hc ha i ∙ e.same ms sc widths v before h ∙ sym (provided_value taken widths v ws next u q p after na g over.holds);
    }

is_one : (x : ℕ) → x < 2 ^ 1 → (x == 0) ≡ false → x ≡ 1
is_one x l h = let k = positive_of_test x h in omega (arith, k, l)

-- a choice where each arm was simplified, one after the other
pub arms_become : (taken : Name → Bool) (ws : List Wire) (next u : ℕ) (c a b p q : Operand) (mid : List Wire) (nm : ℕ) (after : List Wire)
    (na : ℕ) → ArmGives taken ws next u c 1 a p mid nm → ArmGives taken mid nm u c 0 b q after na → Becomes taken ws next u (Choose c a b) (Choose c p q) after na
arms_become taken ws next u c a b p q mid nm after na d e =
    record {
      grown = λ ms sc s h.
          let g = d.fits ms sc s h.0 h.1 in
          let m = grows_more ms sc ws mid g.more g.wires g.fits in
          let k = e.fits ms sc (behind s g.named g.fits) (operand_grows _ _ m 1 c h.0) (operand_grows _ _ m u b h.2) in
          record {
            fits = k.fits;
            named = k.named;
            more = g.more ++ k.more;
            wires = k.wires ∙ ap (λ (ys : List Wire). ys ++ k.more) g.wires ∙ append_assoc ws g.more k.more;
          };
      fits = λ ms sc s h.
          let g = d.fits ms sc s h.0 h.1 in
          let m = grows_more ms sc ws mid g.more g.wires g.fits in
          let hc = operand_grows _ _ m 1 c h.0 in
          let k = e.fits ms sc (behind s g.named g.fits) hc (operand_grows _ _ m u b h.2) in
          let n = grows_more ms sc mid after k.more k.wires k.fits in
          (operand_grows _ _ n 1 c hc, operand_grows _ _ n u p g.operand, k.operand);
      same = λ ms sc widths v s h over.
          let g = d.fits ms sc s h.0 h.1 in
          let m = grows_more ms sc ws mid g.more g.wires g.fits in
          let hc = operand_grows _ _ m 1 c h.0 in
          let hb = operand_grows _ _ m u b h.2 in
          let k = e.fits ms sc (behind s g.named g.fits) hc hb in
          let before = over_first ms sc mid after k.more widths v k.wires over in
          let first = over_first ms sc ws mid g.more widths v g.wires before in
          elim (cases_Bool (operand_value v c == 0)) [
            | inl t ↦ rw t (e.same ms sc widths v (behind s g.named g.fits) hc hb over (zero_of_test (operand_value v c) t))
            | inr i ↦
                let one = is_one (operand_value v c) (operand_below (readable_after sc ws) v first.below 1 c h.0) i in
                rw i (d.same ms sc widths v s h.0 h.1 before one)
          ];
    }

-- two bits, each simplified where the other has the number n, which decides nothing

and_first : (x y z : ℕ) → x < 2 ^ 1 → (x ≡ 1 → y ≡ z) → bit_and x y ≡ bit_and x z
and_first x y z h k =
    elim (bit_cases x h) [
      | inl e ↦ rw e (and_zero_l y ∙ sym (and_zero_l z))
      | inr e ↦ ap (bit_and x) (k e)
    ]

or_first : (x y z : ℕ) → x < 2 ^ 1 → y < 2 ^ 1 → z < 2 ^ 1 → (x ≡ 0 → y ≡ z) → bit_or x y ≡ bit_or x z
or_first x y z h i j k =
    elim (bit_cases x h) [
      | inl e ↦ ap (bit_or x) (k e)
      | inr e ↦ rw e (one_or y i ∙ sym (one_or z j))
    ]

abbrev Decides : (f : ℕ → ℕ → ℕ) (n : ℕ) → Type 0
Decides f n = (x y z : ℕ) → x < 2 ^ 1 → y < 2 ^ 1 → z < 2 ^ 1 → (x ≡ n → y ≡ z) → f x y ≡ f x z

both_bits : (taken : Name → Bool) (ws : List Wire) (next : ℕ) (op : Op2) (f : ℕ → ℕ → ℕ) (n : ℕ) (a b p q : Operand) (mid : List Wire)
    (nm : ℕ) (after : List Wire) (na : ℕ) → KeepsWidth op → SameWidths op → ((u : ℕ) → CountFits op u u)
    → ((u y z : ℕ) → value2 op u y z ≡ f y z) → ((y z : ℕ) → f y z ≡ f z y) → Decides f n → ArmGives taken ws next 1 a n b q mid nm
    → ArmGives taken mid nm 1 q n a p after na → Becomes taken ws next 1 (Two op a b) (Two op p q) after na
both_bits taken ws next op f n a b p q mid nm after na keeps same count is comm decides d e =
    let ha : (ms : Shapes) (sc : Scope) → IsRight ms sc 1 (Two op a b) → IsOperand sc 1 a = λ ms sc h. subst (λ (k : ℕ). IsOperand sc k a) (sym (h.7 ∙ keeps h.0)) h.4 in
    let hb : (ms : Shapes) (sc : Scope) → IsRight ms sc 1 (Two op a b) → IsOperand sc 1 b =
    λ ms sc h. subst (λ (k : ℕ). IsOperand sc k b) (same h.0 h.1 h.6 ∙ sym (h.7 ∙ keeps h.0)) h.5 in
    record {
      grown = λ ms sc s h.
          let x = d.fits ms sc s (ha ms _ h) (hb ms _ h) in
          let m = grows_more ms sc ws mid x.more x.wires x.fits in
          let k = e.fits ms sc (behind s x.named x.fits) x.operand (operand_grows _ _ m 1 a (ha ms _ h)) in
          record {
            fits = k.fits;
            named = k.named;
            more = x.more ++ k.more;
            wires = k.wires ∙ ap (λ (ys : List Wire). ys ++ k.more) x.wires ∙ append_assoc ws x.more k.more;
          };
      fits = λ ms sc s h.
          let x = d.fits ms sc s (ha ms _ h) (hb ms _ h) in
          let m = grows_more ms sc ws mid x.more x.wires x.fits in
          let k = e.fits ms sc (behind s x.named x.fits) x.operand (operand_grows _ _ m 1 a (ha ms _ h)) in
          let i = grows_more ms sc mid after k.more k.wires k.fits in
          (1, 1, s.wide, s.wide, k.operand, operand_grows _ _ i 1 q x.operand, count 1, sym (keeps 1));
      same = λ ms sc widths v s h over.
          let x = d.fits ms sc s (ha ms _ h) (hb ms _ h) in
          let m = grows_more ms sc ws mid x.more x.wires x.fits in
          let la = operand_grows _ _ m 1 a (ha ms _ h) in
          let k = e.fits ms sc (behind s x.named x.fits) x.operand la in
          let before = over_first ms sc mid after k.more widths v k.wires over in
          let first = over_first ms sc ws mid x.more widths v x.wires before in
          let va : operand_value v a < 2 ^ 1 = operand_below _ v first.below 1 a (ha ms _ h) in
          let vb : operand_value v b < 2 ^ 1 = operand_below _ v first.below 1 b (hb ms _ h) in
          let vq : operand_value v q < 2 ^ 1 = operand_below _ v before.below 1 q x.operand in
          let vp : operand_value v p < 2 ^ 1 = operand_below _ v over.below 1 p k.operand in
          is (operand_width widths a) (operand_value v a) (operand_value v b)
          ∙ decides (operand_value v a) (operand_value v b) (operand_value v q) va vb vq (d.same ms sc widths v s (ha ms _ h) (hb ms _ h) before)
          ∙ comm (operand_value v a) (operand_value v q)
          ∙ decides (operand_value v q) (operand_value v a) (operand_value v p) vq va vp (e.same ms sc widths v (behind s x.named x.fits) x.operand la over)
          ∙ comm (operand_value v q) (operand_value v p)
          ∙ sym (is (operand_width widths p) (operand_value v p) (operand_value v q));
    }

pub bits_become : (taken : Name → Bool) (ws : List Wire) (next : ℕ) (op : Op2) (a b p q : Operand) (mid : List Wire) (nm : ℕ)
    (after : List Wire) (na : ℕ) → (bits : IsBitwise op) → ArmGives taken ws next 1 a (number (is_and op)) b q mid nm
    → ArmGives taken mid nm 1 q (number (is_and op)) a p after na → Becomes taken ws next 1 (Two op a b) (Two op p q) after na
bits_become taken ws next And a b p q mid nm after na bits d e =
    both_bits taken ws next And bit_and 1 a b p q mid nm after na (λ u. refl) (λ u y z. z) (λ u. refl) (λ u y z. refl) and_comm (λ x y z h i j k. and_first x y z h k) d e
bits_become taken ws next Or a b p q mid nm after na bits d e =
    both_bits taken ws next Or bit_or 0 a b p q mid nm after na (λ u. refl) (λ u y z. z) (λ u. refl) (λ u y z. refl) or_comm or_first d e
bits_become taken ws next _ a b p q mid nm after na bits d e = absurd bits
