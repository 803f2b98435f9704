-- Names that have one number as long as a register has its start.
use Rattle.sap_lemmas.proofs.Common.{◌≡◌, ℕ, ◌==◌, List, [], ◌∷◌, ◌++◌, Option, Some, None, Bool, true, false, sym, ap, ◌∙◌, subst, refl, inl, inr, if◌then◌else◌, IfSome, bytes_eq, cases_Bool, and_parts, equal_of_test, equal_of_bytes_eq}
use Rattle.sap_maps.specs.Maps.{Name, Valuation}
use Rattle.sap_net.specs.Prelude.{operand_value, right_value, Holds, Puts}
use Rattle.sap_net.specs.declared.parts.Operand.{Operand}
use Rattle.sap_net.specs.declared.parts.Operand.TheVariants.{Named, Constant}
use Rattle.sap_net.specs.declared.parts.Right.{Right}
use Rattle.sap_net.specs.declared.parts.Right.TheVariants.{Copy, Choose}
use Rattle.sap_net.specs.declared.parts.Register.{Register}
use Rattle.sap_net.specs.declared.parts.Wire.{Wire}
use Rattle.sap_fold.proofs.Provided.{holds_both}
use Rattle.sap_trim.specs.declared.stays.Stay.{Stay}
use Rattle.sap_trim.specs.declared.stays.Stay.TheVariants.{Always, While}
use Rattle.sap_trim.specs.Stays.{number_of, Stays, NameStays, AllStay, operand_stay, agree, stronger, both, either, right_stay, is_at, KeepsStart}

-- what an operand stays at
abbrev OperandStays : List Wire → Operand → Stay → Type 0
OperandStays ws o s = (widths : Name → ℕ) (v : Valuation) → Holds widths v ws → Stays v s → operand_value v o ≡ number_of s

operand_stays : (ws : List Wire) (e : Name → Option Stay) (o : Operand) (s : Stay) → AllStay ws e → operand_stay e o ≡ Some s → OperandStays ws o s
operand_stays ws e (Named x) s a h = subst (λ (p : Option Stay). IfSome p (NameStays ws x)) h (a x)
operand_stays ws e (Constant w n) s a h = λ widths v k i. let g : Always n ≡ s = cc in ap number_of g

-- the stay of both
record Both (a b s : Stay) : Type 0 where
  first : number_of s ≡ number_of a
  second : number_of s ≡ number_of b
  one : (v : Valuation) → Stays v s → Stays v a
  other : (v : Valuation) → Stays v s → Stays v b

both_if : (a b r s : Stay) (t : Bool) → (t ≡ true → Both a b r) → (if t then Some r else None) ≡ Some s → Both a b s
both_if a b r s true h e = let g : r ≡ s = cc in subst (Both a b) g (h refl)
both_if a b r s false h e = absurd (let g : None ≡ Some s = e in cc)

both_good : (a b : Stay) → agree a b ≡ true → Both a b (stronger a b)
both_good (Always m) (Always n) t =
    let e = equal_of_test m n t in record { first = sym e; second = refl; one = λ v k. tt; other = λ v k. tt }
both_good (Always m) (While y n) t =
    let e = equal_of_test m n t in record { first = sym e; second = refl; one = λ v k. tt; other = λ v k. k }
both_good (While x m) (Always n) t =
    let e = equal_of_test m n t in record { first = refl; second = e; one = λ v k. k; other = λ v k. tt }
both_good (While x m) (While y n) t =
    let q = and_parts (m == n) (bytes_eq x y) t in
    let e = equal_of_test m n q.0 in
    record { first = refl; second = e; one = λ v k. k; other = λ v k. ap v.value (sym (equal_of_bytes_eq x y q.1)) ∙ k ∙ e }

both_are : (a b s : Stay) → both a b ≡ Some s → Both a b s
both_are a b s h = both_if a b (stronger a b) s (agree a b) (both_good a b) h

chosen_stays : (t : Bool) (x y n : ℕ) → x ≡ n → y ≡ n → (if t then y else x) ≡ n
chosen_stays true x y n e f = f
chosen_stays false x y n e f = e

choice_stays : (ws : List Wire) (c a b : Operand) (p q : Option Stay) (s : Stay) → ((r : Stay) → p ≡ Some r → OperandStays ws a r)
    → ((r : Stay) → q ≡ Some r → OperandStays ws b r) → either p q ≡ Some s → (widths : Name → ℕ) (v : Valuation) → Holds widths v ws
    → Stays v s → right_value widths v (Choose c a b) ≡ number_of s
choice_stays ws c a b None q s f g h widths v k i = absurd (let e : None ≡ Some s = h in cc)
choice_stays ws c a b (Some x) None s f g h widths v k i = absurd (let e : None ≡ Some s = h in cc)
choice_stays ws c a b (Some x) (Some y) s f g h widths v k i =
    let d = both_are x y s h in
    chosen_stays (operand_value v c == 0) (operand_value v a) (operand_value v b) (number_of s) (f x refl widths v k (d.one v i)
    ∙ sym d.first) (g y refl widths v k (d.other v i) ∙ sym d.second)

right_stays : (ws : List Wire) (e : Name → Option Stay) (r : Right) (s : Stay) → AllStay ws e → right_stay e r ≡ Some s
    → (widths : Name → ℕ) (v : Valuation) → Holds widths v ws → Stays v s → right_value widths v r ≡ number_of s
right_stays ws e (Copy a) s h k = operand_stays ws e a s h k
right_stays ws e (Choose c a b) s h k =
    choice_stays ws c a b (operand_stay e a) (operand_stay e b) s (λ r g. operand_stays ws e a r h g) (λ r g. operand_stays ws e b r h g) k
right_stays ws e _ s h k = absurd (let g : None ≡ Some s = k in cc)

-- more wires

stays_more : (ws xs : List Wire) (x : Name) (p : Option Stay) → IfSome p (NameStays ws x) → IfSome p (NameStays (ws ++ xs) x)
stays_more ws xs x None h = tt
stays_more ws xs x (Some s) h = λ widths v k i. h widths v (holds_both widths v ws xs k).0 i

pub all_stay_more : (ws xs : List Wire) (e : Name → Option Stay) → AllStay ws e → AllStay (ws ++ xs) e
all_stay_more ws xs e a x = stays_more ws xs x (e x) (a x)

pub wire_stays : (ws : List Wire) (w : Wire) (e f : Name → Option Stay) (s : Stay) → AllStay ws e → right_stay e w.right ≡ Some s → Puts e w.name s f → AllStay (ws ++ w ∷ []) f
wire_stays ws w e f s a h p x =
    elim (cases_Bool (bytes_eq w.name x)) [
      | inl t ↦
          let g : f x ≡ Some s = rw t at (p x) in
          subst (λ (o : Option Stay). IfSome o (NameStays (ws ++ w ∷ []) x)) (sym g)
          (λ widths v k i.
          let d = holds_both widths v ws (w ∷ []) k in
          ap v.value (sym (equal_of_bytes_eq w.name x t)) ∙ d.1.0 ∙ right_stays ws e w.right s a h widths v d.0 i)
      | inr n ↦
          let g : f x ≡ e x = rw n at (p x) in
          subst (λ (o : Option Stay). IfSome o (NameStays (ws ++ w ∷ []) x)) (sym g) (stays_more ws (w ∷ []) x (e x) (a x))
    ]

pub register_stays : (r : Register) (e f : Name → Option Stay) (y : Name) → y ≡ r.name → AllStay [] e → Puts e r.name (While y r.start) f → AllStay [] f
register_stays r e f y i a p x =
    elim (cases_Bool (bytes_eq r.name x)) [
      | inl t ↦
          let g : f x ≡ Some (While y r.start) = rw t at (p x) in
          subst (λ (o : Option Stay). IfSome o (NameStays [] x)) (sym g) (λ widths v k q. ap v.value (sym (i ∙ equal_of_bytes_eq r.name x t)) ∙ q)
      | inr m ↦
          let g : f x ≡ e x = rw m at (p x) in subst (λ (o : Option Stay). IfSome o (NameStays [] x)) (sym g) (a x)
    ]

-- a stay that a register's start answers
record IsAt (s : Stay) (x : Name) (n : ℕ) : Type 0 where
  number : number_of s ≡ n
  asked : (v : Valuation) → v.value x ≡ n → Stays v s

at_is : (s : Stay) (x : Name) (n : ℕ) → is_at s x n ≡ true → IsAt s x n
at_is (Always m) x n h = record { number = equal_of_test m n h; asked = λ v k. tt }
at_is (While r m) x n h =
    let q = and_parts (m == n) (bytes_eq r x) h in
    let e = equal_of_test m n q.0 in
    record { number = e; asked = λ v k. ap v.value (equal_of_bytes_eq r x q.1) ∙ k ∙ sym e }

pub keeps : (ws : List Wire) (e : Name → Option Stay) (r : Register) (s : Stay) → AllStay ws e → operand_stay e r.next ≡ Some s → is_at s r.name r.start ≡ true → KeepsStart ws r
keeps ws e r s a h t = λ widths v k i.
    let q = at_is s r.name r.start t in operand_stays ws e r.next s a h widths v k (q.asked v i) ∙ q.number
