-- A cycle on the arrays is a cycle of the netlist.
use Rattle.sap_lemmas.proofs.Common.{◌≡◌, ℕ, ◌+◌, ◌<◌, ◌≤◌, List, [], ◌∷◌, ◌++◌, map, Option, Some, None, length, take, drop, sym, ap, ◌∙◌, subst, arith, refl, length-append, append_assoc, slice_index, AllByRecursion, all_follow, take-append_seam, map-append, length-map, append-nil, get_or_append_left}
use Rattle.std.proofs.Math.Seq.{drop-append_seam, take-length, drop-length}
use Rattle.sap_maps.specs.Prelude.{Name, Valuation, Scope, find}
use Rattle.sap_net.specs.Prelude.{operand_value, IsMemory, Net, IsNetlist, width_of, first_readable, readable, shapes, input_names, register_names, wire_names, written, observed, InputsAre, IsCycle, ValuesBelow}
use Rattle.sap_net.specs.declared.parts.Input.{Input}
use Rattle.sap_net.specs.declared.parts.Register.{Register}
use Rattle.sap_net.specs.declared.parts.Wire.{Wire}
use Rattle.sap_net.specs.declared.parts.Memory.{Memory}
use Rattle.sap_net.proofs.Same.{all_found}
use Rattle.sap_net.proofs.Within.{operand_below, widths_are}
use Rattle.sap_net.proofs.Observed.{observed_inputs, observed_registers, observed_wires, observed_memories}
use Rattle.sap_cycle.specs.declared.steps.Slot.{Slot}
use Rattle.sap_cycle.specs.declared.steps.Step.{Step}
use Rattle.sap_cycle.specs.declared.steps.Part.{Part}
use Rattle.sap_cycle.specs.declared.program.Program.{Program}
use Rattle.sap_cycle.specs.Runs.{steps_of_runs}
use Rattle.sap_cycle.specs.Steps.{slot_value, AreIn, copied, stored, ArePortsReady}
use Rattle.sap_cycle.specs.Turned.{before_edge, values_turned, cells_turned, CanTurn}
use Rattle.sap_cycle.specs.Means.{StepsMean, NextsMean, Matches}
use Rattle.sap_cycle.specs.Running.{first_names, value_names, cells_of, seen}
use Rattle.sap_cycle.specs.Loaded.{IsProgram}
use Rattle.sap_cycle.proofs.Slots.{slot_is, slot_in}
use Rattle.sap_cycle.proofs.Cells.{cells_equal, all_stored}
use Rattle.sap_cycle.proofs.Settled.{Holding, step_numbers}
use Rattle.sap_cycle.proofs.Ordered.{Agree, order_settles}
use Rattle.sap_cycle.proofs.Distinct.{registers_found, memories_found}

inputs_are : (v : Valuation) (is : List Input) (xs : List ℕ) → InputsAre v is xs → xs ≡ map v.value (map (λ i. i.name) is)
inputs_are v [] [] h = refl
inputs_are v [] (x ∷ xs) h = absurd h
inputs_are v (i ∷ is) [] h = absurd h
inputs_are v (i ∷ is) (x ∷ xs) h = let e = h.0 in let r = inputs_are v is xs h.1 in cc

-- equal numbers at some names make equal lists
pub maps_equal : {A : Type 0} (key : A → Name) (f g : Name → ℕ) (xs : List A) → AllByRecursion (λ x. f (key x) ≡ g (key x)) xs → map f (map key xs) ≡ map g (map key xs)
maps_equal {A} key f g [] h = refl
maps_equal {A} key f g (x ∷ xs) h = let e = h.0 in let r = maps_equal key f g xs h.1 in cc

all_joined : {A : Type 0} (f g h : A → ℕ) (xs : List A) → AllByRecursion (λ x. f x ≡ g x) xs → AllByRecursion (λ x. h x ≡ g x) xs → AllByRecursion (λ x. f x ≡ h x) xs
all_joined {A} f g h [] a b = tt
all_joined {A} f g h (x ∷ xs) a b = (a.0 ∙ sym b.0, all_joined f g h xs a.1 b.1)

all_joined_at : {A : Type 0} (f g h : A → ℕ → ℕ) (xs : List A) → AllByRecursion (λ x. (i : ℕ) → f x i ≡ g x i) xs
    → AllByRecursion (λ x. (i : ℕ) → h x i ≡ g x i) xs → AllByRecursion (λ x. (i : ℕ) → h x i ≡ f x i) xs
all_joined_at {A} f g h [] a b = tt
all_joined_at {A} f g h (x ∷ xs) a b = (λ i. b.0 i ∙ sym (a.0 i), all_joined_at f g h xs a.1 b.1)

pub first_registers : (n : Net) → IsNetlist n → AllByRecursion (λ r. (seen n None).value r.name ≡ r.start) n.registers
first_registers n rules = all_follow (λ r. find (map (λ s. (s.name, s.start)) n.registers) r.name ≡ Some r.start) (λ r. (seen n None).value r.name ≡ r.start) n.registers
    (λ r e. rw e) (registers_found n rules (λ r. r.start))

pub first_memories : (n : Net) → IsNetlist n → AllByRecursion (λ m. (i : ℕ) → (seen n None).cell m.name i ≡ m.start) n.memories
first_memories n rules = all_follow (λ m. find (map (λ k. (k.name, k.start)) n.memories) m.name ≡ Some m.start) (λ m. (i : ℕ) → (seen n None).cell m.name i ≡ m.start) n.memories
    (λ m e i. rw e) (memories_found n rules (λ m. m.start))

-- a cycle begins with what was seen before it
registers_begin : (n : Net) → IsNetlist n → (before : Option Valuation) (xs : List ℕ) (v : Valuation) → IsCycle n before xs v
    → AllByRecursion (λ r. v.value r.name ≡ (seen n before).value r.name) n.registers
registers_begin n rules None xs v cycle =
    all_joined (λ r. v.value r.name) (λ r. r.start) (λ r. (seen n None).value r.name) n.registers cycle.begins.0 (first_registers n rules)
registers_begin n rules (Some p) xs v cycle =
    all_joined (λ r. v.value r.name) (λ r. operand_value p r.next) (λ r. (observed n p).value r.name) n.registers cycle.begins.0 (observed_registers n rules p)

memories_begin : (n : Net) → IsNetlist n → (before : Option Valuation) (xs : List ℕ) (v : Valuation) → IsCycle n before xs v
    → AllByRecursion (λ m. (i : ℕ) → (seen n before).cell m.name i ≡ v.cell m.name i) n.memories
memories_begin n rules None xs v cycle =
    all_joined_at (λ m. v.cell m.name) (λ m i. m.start) (λ m. (seen n None).cell m.name) n.memories cycle.begins.1 (first_memories n rules)
memories_begin n rules (Some p) xs v cycle =
    all_joined_at (λ m. v.cell m.name) (written p) (λ m. (observed n p).cell m.name) n.memories cycle.begins.1 (observed_memories n rules p)

pub steps_long : (widths : Name → ℕ) (ms : List Memory) (parts : List Part) (names : List Name) (ss : List Step) (ws : List Wire)
    → StepsMean widths ms parts names ss ws → length ss ≡ length ws
steps_long widths ms parts names [] [] h = refl
steps_long widths ms parts names [] (w ∷ ws) h = absurd h
steps_long widths ms parts names (s ∷ ss) [] h = absurd h
steps_long widths ms parts names (s ∷ ss) (w ∷ ws) h = let e = steps_long widths ms parts _ ss ws h.1 in cc

pub nexts_long : (names : List Name) (ss : List Slot) (rs : List Register) → NextsMean names ss rs → length ss ≡ length rs
nexts_long names [] [] h = refl
nexts_long names [] (r ∷ rs) h = absurd h
nexts_long names (s ∷ ss) [] h = absurd h
nexts_long names (s ∷ ss) (r ∷ rs) h = let e = nexts_long names ss rs h.1 in cc

-- what the registers take at the edge
nexts_are : (v : Valuation) (f : Name → ℕ) (names : List Name) (values : List ℕ) → Matches v names values
    → (ss : List Slot) (rs : List Register) → NextsMean names ss rs → AllByRecursion (λ r. f r.name ≡ operand_value v r.next) rs
    → map (slot_value values) ss ≡ map f (map (λ r. r.name) rs)
nexts_are v f names values m [] [] h a = refl
nexts_are v f names values m [] (r ∷ rs) h a = absurd h
nexts_are v f names values m (s ∷ ss) [] h a = absurd h
nexts_are v f names values m (s ∷ ss) (r ∷ rs) h a =
    let e = slot_is v names values m s r.next h.0 in
    let d = a.0 in
    let g = nexts_are v f names values m ss rs h.1 a.1 in
    cc

nexts_in : (names : List Name) (values : List ℕ) → length names ≤ length values → (ss : List Slot) (rs : List Register) → NextsMean names ss rs → AreIn values ss
nexts_in names values le [] rs h = tt
nexts_in names values le (s ∷ ss) [] h = absurd h
nexts_in names values le (s ∷ ss) (r ∷ rs) h = (slot_in names values le s r.next h.0, nexts_in names values le ss rs h.1)

-- a write's index lies in its memory
indices_in : (sc : Scope) (v : Valuation) → ValuesBelow sc v → (ms : List Memory) → AllByRecursion (IsMemory sc) ms → AllByRecursion (λ m. operand_value v m.index < m.depth) ms
indices_in sc v b ms h = all_follow (IsMemory sc) (λ m. operand_value v m.index < m.depth) ms (λ m is. rw is.depth.2 (operand_below sc v b is.bits m.index is.index)) h

-- other numbers in the middle
copied_middle : (a b c d : List ℕ) (k : ℕ) → k ≡ length a → length d ≡ length b → copied k d (a ++ (b ++ c)) ≡ a ++ (d ++ c)
copied_middle a b c d k e f =
    let g : length (a ++ b) ≡ k + length d = omega (arith, length-append a b) in
    let h : take k (a ++ (b ++ c)) ≡ a = rw e (take-append_seam a (b ++ c)) in
    let i : drop (k + length d) (a ++ (b ++ c)) ≡ c = rw (← append_assoc a b c, ← g) (drop-append_seam (a ++ b) c) in
    cc

-- the numbers of all names, in three parts
three : (f : Name → ℕ) (a b c : List Name) → map f ((a ++ b) ++ c) ≡ map f a ++ (map f b ++ map f c)
three f a b c = map-append f (a ++ b) c ∙ ap (λ l. l ++ map f c) (map-append f a b) ∙ append_assoc (map f a) (map f b) (map f c)

pub record IsTurn (n : Net) (p : Program) (inputs values cells : List ℕ) (v : Valuation) : Type 0 where
  pub can : CanTurn p inputs values cells
  pub values_are : values_turned p inputs values cells ≡ map (observed n v).value (value_names n)
  pub cells_are : cells_turned p inputs values cells ≡ cells_of (observed n v).cell n.memories

pub turn_is : (n : Net) → IsNetlist n → (p : Program) → IsProgram n p
    → (before : Option Valuation) (inputs values cells : List ℕ) (v : Valuation) → values ≡ map (seen n before).value (value_names n)
    → cells ≡ cells_of (seen n before).cell n.memories → IsCycle n before inputs v → IsTurn n p inputs values cells v
turn_is n rules p program before inputs values cells v ev ec cycle =
    let f = (seen n before).value in
    let o = (observed n v).value in
    let ins = input_names n in
    let regs = register_names n in
    let wires = wire_names n in
    let ex : inputs ≡ map v.value ins = inputs_are v n.inputs inputs cycle.given in
    let er : map v.value regs ≡ map f regs = maps_equal (λ r. r.name) v.value f n.registers (registers_begin n rules before inputs v cycle) in
    let lx : length inputs ≡ length ins = ap length ex ∙ length-map ins v.value in
    let lf : length (map f ins) ≡ length ins = length-map ins f in
    let lr : length regs ≡ length n.registers = length-map n.registers (λ r. r.name) in
    let lw : length wires ≡ length n.wires = length-map n.wires (λ w. w.name) in
    let ln : length p.nexts.items ≡ length n.registers = nexts_long _ p.nexts.items n.registers program.nexts in
    let ss = program.steps.0 in
    let ps = steps_of_runs p.others.items p.runs.items in
    let ls : length ss ≡ length n.wires = steps_long _ _ _ _ ss n.wires program.steps.1 in
    let first : map v.value (first_names n) ≡ inputs ++ map f regs = map-append v.value ins regs ∙ ap (λ l. l ++ map v.value regs) (sym ex) ∙ ap (λ l. inputs ++ l) er in
    let lfirst : length (first_names n) ≡ length inputs + length p.nexts.items = omega (arith, lx, lr, ln, length-append ins regs) in
    let start = copied 0 inputs values in
    let es : start ≡ map v.value (first_names n) ++ map f wires =
    ap (copied 0 inputs) (ev ∙ three f ins regs wires)
    ∙ copied_middle [] (map f ins) (map f regs ++ map f wires) inputs 0 refl (omega (arith, lx, lf))
    ∙ sym (append_assoc inputs (map f regs) (map f wires))
    ∙ ap (λ l. l ++ map f wires) (sym first) in
    let lstart : length start ≡ length (first_names n) + length wires =
    ap length es ∙ omega (arith, length-append (map v.value (first_names n)) (map f wires), length-map (first_names n) v.value, length-map wires f) in
    let lvalues : length values ≡ length (first_names n) + length wires = ap length ev ∙ omega (arith, length-map (value_names n) f, length-append (first_names n) wires) in
    let holding : Holding n.memories (shapes n) v cells = record {
      are = ec ∙ cells_equal (λ m. (seen n before).cell m.name) (λ m. v.cell m.name) n.memories (memories_begin n rules before inputs v cycle);
      found = all_found n.memories rules.memory_shapes;
    } in
    let last = map v.value (value_names n) in
    let llast : length last ≡ length (first_names n) + length wires = length-map (value_names n) v.value ∙ length-append (first_names n) wires in
    let agree : (k : ℕ) → k < length (first_names n) → Agree start last k = λ k lt.
    let known : k < length (map v.value (first_names n)) = omega (arith, lt, length-map (first_names n) v.value) in
    ap (λ l. slice_index l k) es
    ∙ get_or_append_left (map v.value (first_names n)) (map f wires) 0 k known
    ∙ sym (ap (λ l. slice_index l k) (map-append v.value (first_names n) wires) ∙ get_or_append_left (map v.value (first_names n)) (map v.value wires) 0 k known) in
    let numbers = step_numbers (width_of n) n.memories (shapes n) p.parts.items v cells holding ss n.wires (first_readable n)
    (first_names n) last program.steps.1 rules.assigns cycle.valuation.within.value (widths_are n) cycle.valuation.equations refl in
    let go = order_settles cells last p.parts.items (length (first_names n)) ss ps program.steps.2 numbers start
    (omega (arith, lstart, llast)) (omega (arith, llast, ls, lw)) agree in
    let b = before_edge p inputs values cells in
    let lb : length b ≡ length (value_names n) = ap length go.1 ∙ length-map (value_names n) v.value in
    let mb : Matches v (value_names n) b = ap (λ k. take k b) (sym lb) ∙ take-length b ∙ go.1 in
    let low : length (value_names n) ≤ length b = omega (arith, lb) in
    let eb : b ≡ map v.value ins ++ (map v.value regs ++ map v.value wires) = go.1 ∙ three v.value ins regs wires in
    let nexts = map (slot_value b) p.nexts.items in
    let en : nexts ≡ map o regs = nexts_are v o (value_names n) b mb p.nexts.items n.registers program.nexts (observed_registers n rules v) in
    let lnexts : length nexts ≡ length (map v.value regs) = omega (arith, length-map p.nexts.items (slot_value b), ln, lr, length-map regs v.value) in
    let ei : map o ins ≡ map v.value ins = maps_equal (λ i. i.name) o v.value n.inputs (observed_inputs n rules v) in
    let ew : map o wires ≡ map v.value wires = maps_equal (λ w. w.name) o v.value n.wires (observed_wires n rules v) in
    let within = indices_in (readable n) v cycle.valuation.within.value n.memories rules.writes in
    let ports = all_stored v (value_names n) b mb low p.ports.items n.memories 0 [] refl program.ports within in
    record {
      can = record {
        room = omega (arith, lvalues, lfirst);
        ready = go.0;
        nexts = nexts_in (value_names n) b low p.nexts.items n.registers program.nexts;
        ports = subst (ArePortsReady b p.ports.items) (sym holding.are) ports.1;
      };
      values_are =
          ap (copied (length inputs) nexts) eb
          ∙ copied_middle (map v.value ins) (map v.value regs) (map v.value wires) nexts (length inputs) (ap length ex) lnexts
          ∙ ap (λ l. map v.value ins ++ (l ++ map v.value wires)) en
          ∙ ap (λ l. l ++ (map o regs ++ map v.value wires)) (sym ei)
          ∙ ap (λ l. map o ins ++ (map o regs ++ l)) (sym ew)
          ∙ sym (three o ins regs wires);
      cells_are =
          ap (stored b p.ports.items) holding.are ∙ ports.0
          ∙ sym (cells_equal (λ m. (observed n v).cell m.name) (written v) n.memories (observed_memories n rules v));
    }

-- a slice that was lent from a vector, as the vector has it back
pub whole_back : (new items : List ℕ) (k : ℕ) → length new ≡ length items → k ≡ length items → take k (new ++ drop (length new) items) ≡ new
whole_back new items k e f =
    let g : drop (length new) items ≡ [] = rw e (drop-length items) in
    let h : k ≡ length new = omega arith in
    rw (g, append-nil, h) (take-length new)
