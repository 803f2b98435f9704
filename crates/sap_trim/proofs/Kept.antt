-- The wires that are needed: they fit without the others, and what is read behind them is found.
use Rattle.sap_lemmas.proofs.Common.{◌≡◌, ℕ, List, [], ◌∷◌, ◌++◌, filter, Some, None, true, false, sym, ◌∙◌, subst, refl, inl, inr, append_assoc, bytes_eq, AllByRecursion, cases_Bool, or_parts, equal_of_bytes_eq}
use Rattle.sap_net.proofs.NamesLemmas.{among_behind, among_front, among_here}
use Rattle.sap_maps.specs.Prelude.{Name, Valuation, Scope, find}
use Rattle.sap_maps.proofs.Scopes.{not_behind, found_behind}
use Rattle.sap_net.specs.Prelude.{is_among, Shapes, IsOperand, AreOperands, IsRight, AreWires, readable_after, IsRegister, IsMemory, Holds}
use Rattle.sap_net.specs.declared.parts.Operand.{Operand}
use Rattle.sap_net.specs.declared.parts.Operand.TheVariants.{Named, Constant}
use Rattle.sap_net.specs.declared.parts.Right.{Right}
use Rattle.sap_net.specs.declared.parts.Right.TheVariants.{Copy, One, Two, Choose, Concat, Slice, Cell}
use Rattle.sap_net.specs.declared.parts.Register.{Register}
use Rattle.sap_net.specs.declared.parts.Memory.{Memory}
use Rattle.sap_net.specs.declared.parts.Wire.{Wire}
use Rattle.sap_net.proofs.RulesLemmas.{Grows}
use Rattle.sap_trim.specs.Reads.{operand_reads, operands_reads, right_reads, wire_reads, register_reads, memory_reads}
use Rattle.sap_trim.specs.Needed.{is_needed, needed}

-- the same is found of each name on the list
abbrev pub AgreeOn : List Name → (so sk : Scope) → Type 0
AgreeOn xs so sk = (x : Name) → is_among x xs ≡ true → find so x ≡ find sk x

on_front : (xs ys : List Name) (so sk : Scope) → AgreeOn (xs ++ ys) so sk → AgreeOn xs so sk
on_front xs ys so sk a x h = a x (among_front x xs ys h)

on_behind : (xs ys : List Name) (so sk : Scope) → AgreeOn (xs ++ ys) so sk → AgreeOn ys so sk
on_behind xs ys so sk a x h = a x (among_behind x xs ys h)

operand_kept : (so sk : Scope) (u : ℕ) (o : Operand) → AgreeOn (operand_reads o) so sk → IsOperand so u o → IsOperand sk u o
operand_kept so sk u (Named x) a h = sym (a x (among_here x [])) ∙ h
operand_kept so sk u (Constant w n) a h = h

operands_kept : (so sk : Scope) (u : ℕ) (os : List Operand) → AgreeOn (operands_reads os) so sk → AreOperands so u os → AreOperands sk u os
operands_kept so sk u [] a h = h
operands_kept so sk u (o ∷ os) a h = (
  h.0,
  h.1,
  h.2,
  operand_kept so sk h.0 o (on_front (operand_reads o) (operands_reads os) so sk a) h.3,
  operands_kept so sk h.1 os (on_behind (operand_reads o) (operands_reads os) so sk a) h.4,
  h.5,
)

right_kept : (ms : Shapes) (so sk : Scope) (u : ℕ) (r : Right) → AgreeOn (right_reads r) so sk → IsRight ms so u r → IsRight ms sk u r
right_kept ms so sk u (Copy o) a h = operand_kept so sk u o a h
right_kept ms so sk u (One op o) a h = (h.0, h.1, operand_kept so sk h.0 o a h.2, h.3)
right_kept ms so sk u (Two op o p) a h = (
  h.0,
  h.1,
  h.2,
  h.3,
  operand_kept so sk h.0 o (on_front (operand_reads o) (operand_reads p) so sk a) h.4,
  operand_kept so sk h.1 p (on_behind (operand_reads o) (operand_reads p) so sk a) h.5,
  h.6,
  h.7,
)
right_kept ms so sk u (Choose c o p) a h =
    let b = on_behind (operand_reads c) (operand_reads o ++ operand_reads p) so sk a in (
      operand_kept so sk 1 c (on_front (operand_reads c) (operand_reads o ++ operand_reads p) so sk a) h.0,
      operand_kept so sk u o (on_front (operand_reads o) (operand_reads p) so sk b) h.1,
      operand_kept so sk u p (on_behind (operand_reads o) (operand_reads p) so sk b) h.2,
    )
right_kept ms so sk u (Concat os) a h = (h.0, operands_kept so sk u os a h.1)
right_kept ms so sk u (Slice x hi lo) a h = (h.0, h.1, sym (a x (among_here x [])) ∙ h.2, h.3, h.4, h.5)
right_kept ms so sk u (Cell m i) a h = (h.0, h.1, operand_kept so sk h.0 i a h.2)

-- what the second scope finds the first finds, and the first may find more
abbrev pub Smaller : (so sk : Scope) → Type 0
Smaller so sk = (x : Name) → find so x ≡ None → find sk x ≡ None

agree_both_more : (xs : List Name) (so sk : Scope) (y : Name) (u : ℕ) → AgreeOn xs so sk → AgreeOn xs ((y, u) ∷ so) ((y, u) ∷ sk)
agree_both_more xs so sk y u a x h =
    elim (cases_Bool (bytes_eq y x)) [ inl t ↦ rw t refl | inr f ↦ rw f (a x h) ]

smaller_both_more : (so sk : Scope) (y : Name) (u : ℕ) → Smaller so sk → Smaller ((y, u) ∷ so) ((y, u) ∷ sk)
smaller_both_more so sk y u s x h =
    elim (cases_Bool (bytes_eq y x)) [
      | inl t ↦ absurd (let g : Some u ≡ None = rw t at h in cc)
      | inr f ↦ rw f (s x (rw f at h))
    ]

-- a name that is not on the list may be declared
agree_one_more : (xs : List Name) (so sk : Scope) (y : Name) (u : ℕ) → is_among y xs ≡ false → AgreeOn xs so sk → AgreeOn xs ((y, u) ∷ so) sk
agree_one_more xs so sk y u n a x h =
    elim (cases_Bool (bytes_eq y x)) [
      | inl t ↦ absurd (let g : is_among y xs ≡ true = subst (λ (z : Name). is_among z xs ≡ true) (sym (equal_of_bytes_eq y x t)) h in cc)
      | inr f ↦ rw f (a x h)
    ]

smaller_one_more : (so sk : Scope) (y : Name) (u : ℕ) → Smaller so sk → Smaller ((y, u) ∷ so) sk
smaller_one_more so sk y u s x h = s x (not_behind (y, u) so x h)

grows_both : (so sk : Scope) (y : Name) (u : ℕ) → Grows sk so → Grows ((y, u) ∷ sk) ((y, u) ∷ so)
grows_both so sk y u g x t h =
    elim (cases_Bool (bytes_eq y x)) [ inl q ↦ rw q (rw q at h) | inr f ↦ rw f (g x t (rw f at h)) ]

unread : (P E : List Name) (w : Wire) (ks : List Wire) → is_needed P E w ks ≡ false → is_among w.name (wire_reads ks ++ E) ≡ false
unread P E w ks f = (or_parts (is_among w.name P) (is_among w.name (wire_reads ks ++ E)) f).1

reads_of : (w : Wire) (ks : List Wire) (E : List Name) (so sk : Scope) → AgreeOn (wire_reads (w ∷ ks) ++ E) so sk
    → AgreeOn (right_reads w.right) so sk × AgreeOn (wire_reads ks ++ E) so sk
reads_of w ks E so sk a =
    let b : AgreeOn (right_reads w.right ++ (wire_reads ks ++ E)) so sk = subst (λ (xs : List Name). AgreeOn xs so sk) (append_assoc (right_reads w.right) (wire_reads ks) E) a in
    (on_front (right_reads w.right) (wire_reads ks ++ E) so sk b, on_behind (right_reads w.right) (wire_reads ks ++ E) so sk b)

pub needed_fits : (ms : Shapes) (P E : List Name) (ws : List Wire) (so sk : Scope) → AreWires ms so ws
    → AgreeOn (wire_reads (needed P E ws) ++ E) so sk → Smaller so sk → AreWires ms sk (needed P E ws)
needed_fits ms P E [] so sk f a s = tt
needed_fits ms P E (w ∷ ws) so sk f a s =
    let ks = needed P E ws in
    elim (cases_Bool (is_needed P E w ks)) [
      | inl t ↦
          let r = reads_of w ks E so sk (rw t at a) in
          rw t (
            f.0,
            s w.name f.1,
            f.2,
            right_kept ms so sk w.width w.right r.0 f.3,
            needed_fits ms P E ws ((w.name, w.width) ∷ so) ((w.name, w.width) ∷ sk) f.4 (agree_both_more _ so sk w.name w.width r.1) (smaller_both_more so sk w.name w.width s),
          )
      | inr e ↦
          rw e (needed_fits ms P E ws ((w.name, w.width) ∷ so) sk f.4
          (agree_one_more _ so sk w.name w.width (unread P E w ks e) (rw e at a)) (smaller_one_more so sk w.name w.width s))
    ]

-- what is read at the edge is found as before
pub needed_agree : (P E : List Name) (ws : List Wire) (so sk : Scope) → AgreeOn (wire_reads (needed P E ws) ++ E) so sk
    → AgreeOn E (readable_after so ws) (readable_after sk (needed P E ws))
needed_agree P E [] so sk a = a
needed_agree P E (w ∷ ws) so sk a =
    let ks = needed P E ws in
    elim (cases_Bool (is_needed P E w ks)) [
      | inl t ↦
          let r = reads_of w ks E so sk (rw t at a) in
          rw t (needed_agree P E ws ((w.name, w.width) ∷ so) ((w.name, w.width) ∷ sk) (agree_both_more _ so sk w.name w.width r.1))
      | inr e ↦
          rw e (needed_agree P E ws ((w.name, w.width) ∷ so) sk (agree_one_more _ so sk w.name w.width (unread P E w ks e) (rw e at a)))
    ]

pub needed_within : (ms : Shapes) (P E : List Name) (ws : List Wire) (so sk : Scope) → AreWires ms so ws → Grows sk so
    → Grows (readable_after sk (needed P E ws)) (readable_after so ws)
needed_within ms P E [] so sk f g = g
needed_within ms P E (w ∷ ws) so sk f g =
    let ks = needed P E ws in
    elim (cases_Bool (is_needed P E w ks)) [
      | inl t ↦ rw t (needed_within ms P E ws ((w.name, w.width) ∷ so) ((w.name, w.width) ∷ sk) f.4 (grows_both so sk w.name w.width g))
      | inr e ↦ rw e (needed_within ms P E ws ((w.name, w.width) ∷ so) sk f.4 (λ x u h. found_behind so w.name w.width f.1 x u (g x u h)))
    ]

pub needed_holds : (P E : List Name) (ws : List Wire) (widths : Name → ℕ) (v : Valuation) → Holds widths v ws → Holds widths v (needed P E ws)
needed_holds P E [] widths v h = tt
needed_holds P E (w ∷ ws) widths v h =
    let ks = needed P E ws in
    elim (cases_Bool (is_needed P E w ks)) [
      | inl t ↦ rw t (h.0, needed_holds P E ws widths v h.1)
      | inr e ↦ rw e (needed_holds P E ws widths v h.1)
    ]

-- each port wire is needed
pub shown_needed : (Q : Wire → Type 0) (P E : List Name) (ws : List Wire) → AllByRecursion Q (needed P E ws) → AllByRecursion Q (filter (λ w. is_among w.name P) ws)
shown_needed Q P E [] a = tt
shown_needed Q P E (w ∷ ws) a =
    let ks = needed P E ws in
    elim (cases_Bool (is_among w.name P)) [
      | inl t ↦
          let n : is_needed P E w ks ≡ true = rw t refl in
          let b : AllByRecursion Q (w ∷ ks) = rw n at a in
          rw t (b.0, shown_needed Q P E ws b.1)
      | inr e ↦
          rw e (
          elim (cases_Bool (is_needed P E w ks)) [
            | inl t ↦ let b : AllByRecursion Q (w ∷ ks) = rw t at a in shown_needed Q P E ws b.1
            | inr g ↦ shown_needed Q P E ws (rw g at a)
          ]
          )
    ]

nexts_kept : (so sk : Scope) (rs : List Register) → AgreeOn (register_reads rs) so sk → AllByRecursion (IsRegister so) rs → AllByRecursion (IsRegister sk) rs
nexts_kept so sk [] a h = tt
nexts_kept so sk (r ∷ rs) a h = (
  (h.0.0, operand_kept so sk r.width r.next (on_front (operand_reads r.next) (register_reads rs) so sk a) h.0.1),
  nexts_kept so sk rs (on_behind (operand_reads r.next) (register_reads rs) so sk a) h.1,
)

writes_kept : (so sk : Scope) (ms : List Memory) → AgreeOn (memory_reads ms) so sk → AllByRecursion (IsMemory so) ms → AllByRecursion (IsMemory sk) ms
writes_kept so sk [] a h = tt
writes_kept so sk (m ∷ ms) a h =
    let e = operand_reads m.enable in
    let i = operand_reads m.index in
    let v = operand_reads m.value in
    let b = on_behind e (i ++ (v ++ memory_reads ms)) so sk a in
    let c = on_behind i (v ++ memory_reads ms) so sk b in (
      record {
        bits = h.0.bits;
        depth = h.0.depth;
        start = h.0.start;
        enable = operand_kept so sk 1 m.enable (on_front e (i ++ (v ++ memory_reads ms)) so sk a) h.0.enable;
        index = operand_kept so sk h.0.bits m.index (on_front i (v ++ memory_reads ms) so sk b) h.0.index;
        value = operand_kept so sk m.width m.value (on_front v (memory_reads ms) so sk c) h.0.value;
      },
      writes_kept so sk ms (on_behind v (memory_reads ms) so sk c) h.1,
    )

pub edge_kept : (so sk : Scope) (rs : List Register) (ms : List Memory) → AgreeOn (register_reads rs ++ memory_reads ms) so sk
    → AllByRecursion (IsRegister so) rs → AllByRecursion (IsMemory so) ms → AllByRecursion (IsRegister sk) rs × AllByRecursion (IsMemory sk) ms
edge_kept so sk rs ms a h k =
    (nexts_kept so sk rs (on_front (register_reads rs) (memory_reads ms) so sk a) h, writes_kept so sk ms (on_behind (register_reads rs) (memory_reads ms) so sk a) k)
