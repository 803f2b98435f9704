-- The wires' own order is one in which each step finds what it reads.
use Rattle.sap_lemmas.proofs.Common.{◌≡◌, ℕ, suc, ◌+◌, ◌<◌, ◌≤◌, List, [], ◌∷◌, ◌++◌, inl, inr, length, map, sym, ap, ◌∙◌, subst, refl, arith, length-append, ⊎_elim, AllByRecursion, cases_lt, length-map, all_follow}
use Rattle.sap_maps.specs.Maps.{Name}
use Rattle.sap_net.specs.Prelude.{Net, width_of, wire_names}
use Rattle.sap_net.specs.declared.parts.Wire.{Wire}
use Rattle.sap_net.specs.declared.parts.Memory.{Memory}
use Rattle.sap_cycle.specs.declared.known.Known.{Known}
use Rattle.sap_cycle.specs.declared.instructions.Instruction.{Instruction}
use Rattle.sap_cycle.specs.declared.steps.Part.{Part}
use Rattle.sap_cycle.specs.declared.steps.Step.{Step}
use Rattle.sap_cycle.specs.Instructions.{step_of_instruction, placed_step}
use Rattle.sap_cycle.specs.Known.{Knows}
use Rattle.sap_cycle.specs.Means.{StepsMean}
use Rattle.sap_cycle.specs.Running.{first_names, value_names}
use Rattle.sap_cycle.proofs.Cycle.{steps_long}
use Rattle.sap_cycle.specs.Order.{IsOrder, IsOwn, in_row}
use Rattle.sap_cycle.proofs.Walked.{Also, InOrder, KnownAfter, reads_more, walked_order}
use Rattle.sap_cycle.proofs.Settled.{reads_below}

row_own : (others : List Step) (base : ℕ) (is : List Instruction) → AllByRecursion (IsOwn base (map (step_of_instruction others) is)) (map (placed_step others) (in_row base is))
row_own others base [] = tt
row_own others base (i ∷ is) =
    let s = step_of_instruction others i in
    let ss = map (step_of_instruction others) is in (
      (0, omega arith, refl),
      all_follow (IsOwn (base + 1) ss) (IsOwn base (s ∷ ss)) (map (placed_step others) (in_row (base + 1) is)) (λ p o. (suc o.0, omega (arith, o.1), o.2))
          (row_own others (base + 1) is),
    )

one_more : (known : ℕ → Type 0) (base : ℕ) → ((k : ℕ) → k < base → known k) → (k : ℕ) → k < base + 1 → Also known base k
one_more known base f k lt =
    ⊎_elim (λ (less : k < base). inl (f k less)) (λ (past : base ≤ k). inr (let e : k ≡ base = omega (arith, lt, past) in e)) (cases_lt k base)

row_all : (others : List Step) (known : ℕ → Type 0) (base : ℕ) → ((k : ℕ) → k < base → known k) → (is : List Instruction) (k : ℕ)
    → k < base + length is → KnownAfter known (map (placed_step others) (in_row base is)) k
row_all others known base f [] k lt = f k (omega (arith, lt))
row_all others known base f (i ∷ is) k lt = row_all others (Also known base) (base + 1) (one_more known base f) is k (omega (arith, lt))

row_finds : (widths : Name → ℕ) (ms : List Memory) (parts : List Part) (others : List Step) (known : ℕ → Type 0) (names : List Name)
    → ((k : ℕ) → k < length names → known k) → (is : List Instruction) (ws : List Wire)
    → StepsMean widths ms parts names (map (step_of_instruction others) is) ws → InOrder parts known (map (placed_step others) (in_row (length names) is))
row_finds widths ms parts others known names f [] ws h = tt
row_finds widths ms parts others known names f (i ∷ is) [] h = absurd h
row_finds widths ms parts others known names f (i ∷ is) (w ∷ ws) h =
    let s = step_of_instruction others i in
    let base = length names in
    let l : length (names ++ w.name ∷ []) ≡ base + 1 = omega (arith, length-append names (w.name ∷ [])) in
    let f' : (k : ℕ) → k < length (names ++ w.name ∷ []) → Also known base k = λ k lt. one_more known base f k (omega (arith, lt, l)) in (
      reads_more (λ k. k < base) known f parts s (reads_below widths ms parts names s w.right h.0),
      subst (λ (b : ℕ). InOrder parts (Also known base) (map (placed_step others) (in_row b is))) l
          (row_finds widths ms parts others (Also known base) (names ++ w.name ∷ []) f' is ws h.1),
    )

pub row_is_order : (widths : Name → ℕ) (ms : List Memory) (parts : List Part) (others : List Step) (names : List Name) (is : List Instruction) (ws : List Wire)
    → StepsMean widths ms parts names (map (step_of_instruction others) is) ws
    → IsOrder (length names) parts (map (step_of_instruction others) is) (map (placed_step others) (in_row (length names) is))
row_is_order widths ms parts others names is ws h =
    let steps = map (step_of_instruction others) is in
    let l : length steps ≡ length is = length-map is (step_of_instruction others) in
    walked_order (length names) parts steps (map (placed_step others) (in_row (length names) is))
    (record {
      own = row_own others (length names) is;
      finds = row_finds widths ms parts others (λ k. k < length names) names (λ k lt. lt) is ws h;
      all = λ k lt. row_all others (λ k. k < length names) (length names) (λ k lt. lt) is k (omega (arith, lt, l));
    })

-- what is known grows by a place a wire
widths_long : (f : Name → ℕ) (ms : List Memory) (names : List Name) (k : Known) → Knows f ms names k → length k.widths.items ≡ length names
widths_long f ms names k knows = ap length knows.widths_are ∙ length-map names f

pub row_room : (n : Net) (parts : List Part) (others : List Step) (is : List Instruction) (old new : Known)
    → Knows (width_of n) n.memories (first_names n) old → Knows (width_of n) n.memories (value_names n) new
    → StepsMean (width_of n) n.memories parts (first_names n) (map (step_of_instruction others) is) n.wires → length old.widths.items + length is ≡ length new.widths.items
row_room n parts others is old new before after mean =
    let a = widths_long (width_of n) n.memories (first_names n) old before in
    let b = widths_long (width_of n) n.memories (value_names n) new after in
    let s = steps_long (width_of n) n.memories parts (first_names n) (map (step_of_instruction others) is) n.wires mean in
    omega (arith, a, b, s, length-map is (step_of_instruction others), length-append (first_names n) (wire_names n), length-map n.wires (λ (w : Wire). w.name))

pub row_there : (n : Net) (parts : List Part) (others : List Step) (is : List Instruction) (old : Known) → Knows (width_of n) n.memories (first_names n) old
    → StepsMean (width_of n) n.memories parts (first_names n) (map (step_of_instruction others) is) n.wires
    → IsOrder (length old.widths.items) parts (map (step_of_instruction others) is) (map (placed_step others) (in_row (length old.widths.items) is))
row_there n parts others is old before mean =
    subst (λ (b : ℕ). IsOrder b parts (map (step_of_instruction others) is) (map (placed_step others) (in_row b is)))
    (sym (widths_long (width_of n) n.memories (first_names n) old before))
    (row_is_order (width_of n) n.memories parts others (first_names n) is n.wires mean)

-- an order that was made where what is known ends is one behind the first names
pub order_behind : (n : Net) (parts : List Part) (ss : List Step) (ps : List (ℕ × Step)) (old : Known) (base : ℕ)
    → Knows (width_of n) n.memories (first_names n) old → base ≡ length old.widths.items
    → IsOrder base parts ss ps → IsOrder (length (first_names n)) parts ss ps
order_behind n parts ss ps old base before is o =
    subst (λ (b : ℕ). IsOrder b parts ss ps) (is ∙ widths_long (width_of n) n.memories (first_names n) old before) o
