-- What is known before each position of a list of steps, along a walk over the list.
use Rattle.sap_lemmas.proofs.Common.{◌≡◌, ℕ, zero, suc, ◌+◌, ◌<◌, List, [], ◌∷◌, ◌⊎◌, inl, inr, Some, length, sym, ap, subst, refl, arith, ⊎_elim, slice_get, slice_range, AllByRecursion}
use Rattle.sap_cycle.specs.declared.steps.Slot.{Slot}
use Rattle.sap_cycle.specs.declared.steps.Slot.TheVariants.{At, Number}
use Rattle.sap_cycle.specs.declared.steps.Part.{Part}
use Rattle.sap_cycle.specs.declared.steps.Step.{Step}
use Rattle.sap_cycle.specs.declared.steps.Step.TheVariants.{Copy, One, Two, Choose, Concat, Pair, Slice, Cell}
use Rattle.sap_cycle.specs.Order.{SlotAmong, PartsAmong, ReadsAmong, IsOrder, IsOwn}

-- what is known before is known where more is
slot_more : (P Q : ℕ → Type 0) → ((k : ℕ) → P k → Q k) → (s : Slot) → SlotAmong P s → SlotAmong Q s
slot_more P Q f (At k) h = f k h
slot_more P Q f (Number x) h = tt

parts_more : (P Q : ℕ → Type 0) → ((k : ℕ) → P k → Q k) → (ps : List Part) → PartsAmong P ps → PartsAmong Q ps
parts_more P Q f [] h = tt
parts_more P Q f (p ∷ ps) h = (slot_more P Q f p.slot h.0, parts_more P Q f ps h.1)

pub reads_more : (P Q : ℕ → Type 0) → ((k : ℕ) → P k → Q k) → (parts : List Part) (s : Step) → ReadsAmong P parts s → ReadsAmong Q parts s
reads_more P Q f parts (Copy a) h = slot_more P Q f a h
reads_more P Q f parts (One op w a) h = slot_more P Q f a h
reads_more P Q f parts (Two op w a b) h = (slot_more P Q f a h.0, slot_more P Q f b h.1)
reads_more P Q f parts (Choose c a b) h = (slot_more P Q f c h.0, slot_more P Q f a h.1, slot_more P Q f b h.2)
reads_more P Q f parts (Concat from to) h = parts_more P Q f (slice_range parts from to) h
reads_more P Q f parts (Pair w a b) h = (slot_more P Q f a h.0, slot_more P Q f b h.1)
reads_more P Q f parts (Slice a hi lo) h = slot_more P Q f a h
reads_more P Q f parts (Cell base i) h = slot_more P Q f i h

-- one place more
abbrev pub Also : (known : ℕ → Type 0) → (place : ℕ) → (ℕ → Type 0)
Also known t k = known k ⊎ (k ≡ t)

-- Each step reads places that are known before it, and its own place is known behind it.
abbrev pub InOrder : List Part → (known : ℕ → Type 0) → List (ℕ × Step) → Type 0
InOrder parts known [] = Unit {0}
InOrder parts known (p ∷ ps) = ReadsAmong known parts p.1 × InOrder parts (Also known p.0) ps

-- the places that are known behind all steps
abbrev pub KnownAfter : (known : ℕ → Type 0) → List (ℕ × Step) → ℕ → Type 0
KnownAfter known [] k = known k
KnownAfter known (p ∷ ps) k = KnownAfter (Also known p.0) ps k

-- an order, by the walk
pub record Walked (base : ℕ) (parts : List Part) (steps : List Step) (placed : List (ℕ × Step)) : Type 0 where
  pub own : AllByRecursion (IsOwn base steps) placed
  pub finds : InOrder parts (λ k. k < base) placed
  pub all : (k : ℕ) → k < base + length steps → KnownAfter (λ k. k < base) placed k

-- the place of a step before a position
abbrev IsEarlier : List (ℕ × Step) → (position place : ℕ) → Type 0
IsEarlier ps k place = (j : ℕ) × (s : Step) × (j < k) × (slice_get ps j ≡ Some (place, s))

abbrev Before : (known : ℕ → Type 0) → List (ℕ × Step) → (position place : ℕ) → Type 0
Before known ps k place = known place ⊎ IsEarlier ps k place

none_earlier : (ps : List (ℕ × Step)) (place : ℕ) → IsEarlier ps 0 place → ⊥
none_earlier ps place e = absurd (omega (arith, e.2))

before_first : (known : ℕ → Type 0) (ps : List (ℕ × Step)) (place : ℕ) → Before known ps 0 place → known place
before_first known ps place h = ⊎_elim (λ (l : known place). l) (λ (e : IsEarlier ps 0 place). absurd (none_earlier ps place e)) h

-- one position on
at_first : (p : ℕ × Step) (ps : List (ℕ × Step)) (k place : ℕ) → place ≡ p.0 → IsEarlier (p ∷ ps) (suc k) place
at_first p ps k place e = (0, p.1, omega arith, ap (λ (t : ℕ). Some (t, p.1)) (sym e))

later : (p : ℕ × Step) (ps : List (ℕ × Step)) (k place : ℕ) → IsEarlier ps k place → IsEarlier (p ∷ ps) (suc k) place
later p ps k place e = (suc e.0, e.1, omega (arith, e.2), e.3)

first_or_later : (p : ℕ × Step) (ps : List (ℕ × Step)) (k place j : ℕ) (s : Step) → j < suc k → slice_get (p ∷ ps) j ≡ Some (place, s)
    → (place ≡ p.0) ⊎ IsEarlier ps k place
first_or_later p ps k place zero s lt e = inl (cc)
first_or_later p ps k place (suc j) s lt e = inr (j, s, omega (arith, lt), e)

walk_on : (known : ℕ → Type 0) (p : ℕ × Step) (ps : List (ℕ × Step)) (k place : ℕ) → Before (Also known p.0) ps k place → Before known (p ∷ ps) (suc k) place
walk_on known p ps k place (inl (inl h)) = inl h
walk_on known p ps k place (inl (inr e)) = inr (at_first p ps k place e)
walk_on known p ps k place (inr e) = inr (later p ps k place e)

walk_back : (known : ℕ → Type 0) (p : ℕ × Step) (ps : List (ℕ × Step)) (k place : ℕ) → Before known (p ∷ ps) (suc k) place → Before (Also known p.0) ps k place
walk_back known p ps k place (inl h) = inl (inl h)
walk_back known p ps k place (inr e) =
    ⊎_elim (λ (q : place ≡ p.0). inl (inr q)) (λ (q : IsEarlier ps k place). inr q) (first_or_later p ps k place e.0 e.1 e.2 e.3)

-- what the walk knows behind all steps is what is known before the end, and the other way
known_before : (known : ℕ → Type 0) (ps : List (ℕ × Step)) (place : ℕ) → KnownAfter known ps place → Before known ps (length ps) place
known_before known [] place h = inl h
known_before known (p ∷ ps) place h = walk_on known p ps (length ps) place (known_before (Also known p.0) ps place h)

known_after : (known : ℕ → Type 0) (ps : List (ℕ × Step)) (place : ℕ) → Before known ps (length ps) place → KnownAfter known ps place
known_after known [] place h = before_first known [] place h
known_after known (p ∷ ps) place h = known_after (Also known p.0) ps place (walk_back known p ps (length ps) place h)

-- and each step finds along the walk what it finds by positions
abbrev Finds : (known : ℕ → Type 0) → List Part → List (ℕ × Step) → Type 0
Finds known parts ps = (k : ℕ) (p : ℕ × Step) → slice_get ps k ≡ Some p → ReadsAmong (Before known ps k) parts p.1

finds_by_position : (known : ℕ → Type 0) (parts : List Part) (ps : List (ℕ × Step)) → InOrder parts known ps → Finds known parts ps
finds_by_position known parts [] o k p e = absurd (cc)
finds_by_position known parts (q ∷ ps) o zero p e =
    let is : q ≡ p = cc in
    subst (λ (r : ℕ × Step). ReadsAmong (Before known (q ∷ ps) 0) parts r.1) is
    (reads_more known (Before known (q ∷ ps) 0) (λ k h. inl h) parts q.1 o.0)
finds_by_position known parts (q ∷ ps) o (suc k) p e =
    reads_more (Before (Also known q.0) ps k) (Before known (q ∷ ps) (suc k)) (walk_on known q ps k) parts p.1
    (finds_by_position (Also known q.0) parts ps o.1 k p e)

finds_along : (known : ℕ → Type 0) (parts : List Part) (ps : List (ℕ × Step)) → Finds known parts ps → InOrder parts known ps
finds_along known parts [] f = tt
finds_along known parts (q ∷ ps) f = (
  reads_more (Before known (q ∷ ps) 0) known (before_first known (q ∷ ps)) parts q.1 (f 0 q refl),
  finds_along (Also known q.0) parts ps
      (λ k p e. reads_more (Before known (q ∷ ps) (suc k)) (Before (Also known q.0) ps k) (walk_back known q ps k) parts p.1 (f (suc k) p e)),
)

pub walked_order : (base : ℕ) (parts : List Part) (steps : List Step) (ps : List (ℕ × Step)) → Walked base parts steps ps → IsOrder base parts steps ps
walked_order base parts steps ps w =
    record {
      own = w.own;
      finds = finds_by_position (λ k. k < base) parts ps w.finds;
      all = λ k lt. known_before (λ k. k < base) ps k (w.all k lt);
    }

pub order_walked : (base : ℕ) (parts : List Part) (steps : List Step) (ps : List (ℕ × Step)) → IsOrder base parts steps ps → Walked base parts steps ps
order_walked base parts steps ps o =
    record {
      own = o.own;
      finds = finds_along (λ k. k < base) parts ps o.finds;
      all = λ k lt. known_after (λ k. k < base) ps k (o.all k lt);
    }
