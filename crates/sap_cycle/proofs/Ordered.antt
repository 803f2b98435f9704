-- Steps in an order in which each finds what it reads give the numbers that belong to their places.
use Rattle.sap_lemmas.proofs.Common.{◌≡◌, ℕ, ◌+◌, ◌<◌, List, [], ◌∷◌, ◌⊎◌, inl, inr, length, Some, sym, ap, ap₂, ◌∙◌, refl, arith, ⊎_elim, slice_get, slice_index, slice_range, slice_set, AllByRecursion, length-set, cases_eq, get_or-set_at, get_or-set_other}
use Rattle.std.proofs.lemmas.Grind.{same_number_lists}
use Rattle.sap_bits.specs.Arithmetic.{value1, value2, slice_of, joined}
use Rattle.sap_cycle.specs.declared.steps.Slot.{Slot}
use Rattle.sap_cycle.specs.declared.steps.Slot.TheVariants.{At, Number}
use Rattle.sap_cycle.specs.declared.steps.Part.{Part}
use Rattle.sap_cycle.specs.declared.steps.Step.{Step}
use Rattle.sap_cycle.specs.declared.steps.Step.TheVariants.{Copy, One, Two, Choose, Concat, Pair, Slice, Cell}
use Rattle.sap_cycle.specs.Steps.{slot_value, joined_from, step_value, SlotIn, ArePartsReady, IsReady, settled, AreReady}
use Rattle.sap_cycle.specs.Order.{SlotAmong, PartsAmong, ReadsAmong, IsOrder, IsOwn}
use Rattle.sap_cycle.proofs.Walked.{Also, InOrder, KnownAfter, Walked, reads_more, order_walked}

-- two arrays have the same number at a place
abbrev pub Agree : (a b : List ℕ) → ℕ → Type 0
Agree a b k = slice_index a k ≡ slice_index b k

same_slot : (a b : List ℕ) (s : Slot) → SlotAmong (Agree a b) s → slot_value a s ≡ slot_value b s
same_slot a b (At k) h = h
same_slot a b (Number x) h = refl

same_joined : (a b : List ℕ) (ps : List Part) (front : ℕ) → PartsAmong (Agree a b) ps → joined_from a front ps ≡ joined_from b front ps
same_joined a b [] front h = refl
same_joined a b (p ∷ ps) front h =
    ap (λ (x : ℕ). joined_from a (joined front p.width x) ps) (same_slot a b p.slot h.0)
    ∙ same_joined a b ps (joined front p.width (slot_value b p.slot)) h.1

-- a step gives the same over arrays that agree where it reads
same_number : (a b cells : List ℕ) (parts : List Part) (s : Step) → ReadsAmong (Agree a b) parts s → step_value a cells parts s ≡ step_value b cells parts s
same_number a b cells parts (Copy x) h = same_slot a b x h
same_number a b cells parts (One op w x) h = ap (value1 op w) (same_slot a b x h)
same_number a b cells parts (Two op w x y) h = ap₂ (value2 op w) (same_slot a b x h.0) (same_slot a b y h.1)
same_number a b cells parts (Choose c x y) h =
    let e = same_slot a b c h.0 in
    let f = same_slot a b x h.1 in
    let g = same_slot a b y h.2 in
    cc
same_number a b cells parts (Concat from to) h = same_joined a b (slice_range parts from to) 0 h
same_number a b cells parts (Pair w x y) h = ap₂ (λ (i j : ℕ). joined i w j) (same_slot a b x h.0) (same_slot a b y h.1)
same_number a b cells parts (Slice x hi lo) h = ap (λ (i : ℕ). slice_of i hi lo) (same_slot a b x h)
same_number a b cells parts (Cell base i) h = ap (λ (k : ℕ). slice_index cells (base + k)) (same_slot a b i h)

same_in : (a b : List ℕ) → length a ≡ length b → (s : Slot) → SlotIn b s → SlotIn a s
same_in a b e (At k) h = omega (arith, e, h)
same_in a b e (Number x) h = tt

same_parts_ready : (a b : List ℕ) → length a ≡ length b → (ps : List Part) (front : ℕ) → PartsAmong (Agree a b) ps → ArePartsReady b front ps → ArePartsReady a front ps
same_parts_ready a b e [] front h r = tt
same_parts_ready a b e (p ∷ ps) front h r =
    let q = same_slot a b p.slot h.0 in (
      same_in a b e p.slot r.0,
      r.1,
      r.2,
      r.3,
      rw q r.4,
      rw q (same_parts_ready a b e ps (joined front p.width (slot_value b p.slot)) h.1 r.5),
    )

same_ready : (a b cells : List ℕ) → length a ≡ length b → (parts : List Part) (s : Step) → ReadsAmong (Agree a b) parts s → IsReady b cells parts s → IsReady a cells parts s
same_ready a b cells e parts (Copy x) h r = same_in a b e x r
same_ready a b cells e parts (One op w x) h r = (r.0, r.1, same_in a b e x r.2, rw (same_slot a b x h) r.3)
same_ready a b cells e parts (Two op w x y) h r =
    (r.0, r.1, same_in a b e x r.2, same_in a b e y r.3, rw (same_slot a b x h.0) r.4, rw (same_slot a b y h.1) r.5)
same_ready a b cells e parts (Choose c x y) h r = (same_in a b e c r.0, same_in a b e x r.1, same_in a b e y r.2)
same_ready a b cells e parts (Concat from to) h r = (r.0, r.1, same_parts_ready a b e (slice_range parts from to) 0 h r.2)
same_ready a b cells e parts (Pair w x y) h r =
    (same_in a b e x r.0, same_in a b e y r.1, r.2, r.3, rw (same_slot a b x h.0) r.4, rw (same_slot a b y h.1) r.5)
same_ready a b cells e parts (Slice x hi lo) h r = (same_in a b e x r.0, r.1, r.2)
same_ready a b cells e parts (Cell base i) h r = (same_in a b e i r.0, rw (same_slot a b i h) r.1)

-- Over an array a step is ready, and gives what the array has at its place.
pub record HasNumber (values cells : List ℕ) (parts : List Part) (p : ℕ × Step) : Type 0 where
  pub within : p.0 < length values
  pub ready : IsReady values cells parts p.1
  pub number : step_value values cells parts p.1 ≡ slice_index values p.0

set_agrees : (a b : List ℕ) (t x k : ℕ) → t < length a → x ≡ slice_index b t → (Agree a b k ⊎ (k ≡ t)) → Agree (slice_set a t x) b k
set_agrees a b t x k lt e h =
    elim (cases_eq k t) [
      | inl q ↦ get_or-set_at a t k x 0 q lt ∙ e ∙ ap (slice_index b) (sym q)
      | inr n ↦ get_or-set_other a t k x 0 n ∙ ⊎_elim (λ (g : Agree a b k). g) (λ (q : k ≡ t). absurd (n q)) h
    ]

pub settled_long : (cells : List ℕ) (parts : List Part) (ps : List (ℕ × Step)) (values : List ℕ) → length (settled cells parts ps values) ≡ length values
settled_long cells parts [] values = refl
settled_long cells parts (p ∷ ps) values = settled_long cells parts ps _ ∙ length-set values p.0 _

-- the steps over an array that agrees with the last one where their numbers are known
agree_after : (cells last : List ℕ) (parts : List Part) (ps : List (ℕ × Step)) (known : ℕ → Type 0) (a : List ℕ) → length a ≡ length last
    → ((k : ℕ) → known k → Agree a last k) → InOrder parts known ps
    → AllByRecursion (HasNumber last cells parts) ps → AreReady cells parts ps a × ((k : ℕ) → KnownAfter known ps k → Agree (settled cells parts ps a) last k)
agree_after cells last parts [] known a le agree o n = (tt, agree)
agree_after cells last parts (p ∷ ps) known a le agree o n =
    let reads : ReadsAmong (Agree a last) parts p.1 = reads_more known (Agree a last) agree parts p.1 o.0 in
    let x = step_value a cells parts p.1 in
    let lt : p.0 < length a = omega (arith, le, n.0.within) in
    let e : x ≡ slice_index last p.0 = same_number a last cells parts p.1 reads ∙ n.0.number in
    let agree' : (k : ℕ) → Also known p.0 k → Agree (slice_set a p.0 x) last k = λ k h.
    set_agrees a last p.0 x k lt e (⊎_elim (λ (q : known k). inl (agree k q)) (λ (q : k ≡ p.0). inr q) h) in
    let go = agree_after cells last parts ps (Also known p.0) (slice_set a p.0 x) (length-set a p.0 x ∙ le) agree' o.1 n.1 in
    ((lt, same_ready a last cells le parts p.1 reads n.0.ready, go.0), go.1)

-- steps that have their numbers have them in any order
owned : (cells last : List ℕ) (parts : List Part) (base : ℕ) (steps : List Step) (ps : List (ℕ × Step))
    → ((k : ℕ) (s : Step) → slice_get steps k ≡ Some s → HasNumber last cells parts (base + k, s))
    → AllByRecursion (IsOwn base steps) ps → AllByRecursion (HasNumber last cells parts) ps
owned cells last parts base steps [] f h = tt
owned cells last parts base steps (p ∷ ps) f h =
    let n = f h.0.0 p.1 h.0.2 in
    let e : p.0 ≡ base + h.0.0 = h.0.1 in (
      record { within = rw e n.within; ready = n.ready; number = rw e n.number },
      owned cells last parts base steps ps f h.1,
    )

-- an order settles an array to the last one
pub order_settles : (cells last : List ℕ) (parts : List Part) (base : ℕ) (steps : List Step) (ps : List (ℕ × Step))
    → IsOrder base parts steps ps → ((k : ℕ) (s : Step) → slice_get steps k ≡ Some s → HasNumber last cells parts (base + k, s))
    → (a : List ℕ) → length a ≡ length last → length last ≡ base + length steps → ((k : ℕ) → k < base → Agree a last k)
    → AreReady cells parts ps a × (settled cells parts ps a ≡ last)
order_settles cells last parts base steps ps o f a le whole agree =
    let w : Walked base parts steps ps = order_walked base parts steps ps o in
    let go = agree_after cells last parts ps (λ k. k < base) a le agree w.finds (owned cells last parts base steps ps f o.own) in
    let l : length (settled cells parts ps a) ≡ length last = settled_long cells parts ps a ∙ le in
    (go.0, same_number_lists (settled cells parts ps a) last l (λ k lt. go.1 k (w.all k (omega (arith, lt, l, whole)))))
