-- Cycles and runs of a copy, read through the names.
use Rattle.sap_lemmas.proofs.Common.{◌≡◌, ℕ, List, [], ◌∷◌, map, Option, Some, None, sym, ap, ◌∙◌, refl, unwrap_or, option_map, AllByRecursion}
use Rattle.sap_maps.specs.Prelude.{Name, Valuation, Scope, find}
use Rattle.sap_net.specs.Prelude.{Net, operand_value, operand_width, operands_value, operands_width, right_value, Holds, Shapes, IsOperand, AreOperands, IsRight, AreWires, readable_after, IsNetlist, first_readable, readable, shapes, width_of, written, Begins, InputsAre, IsCycle, IsRunAfter, value_after, cell_after, observed, AreSame}
use Rattle.sap_net.specs.declared.parts.Operand.{Operand}
use Rattle.sap_net.specs.declared.parts.Operand.TheVariants.{Named, Constant}
use Rattle.sap_net.specs.declared.parts.Right.{Right}
use Rattle.sap_net.specs.declared.parts.Right.TheVariants.{Copy, One, Two, Choose, Concat, Slice, Cell}
use Rattle.sap_net.specs.declared.parts.Input.{Input}
use Rattle.sap_net.specs.declared.parts.Wire.{Wire}
use Rattle.sap_net.specs.declared.parts.Register.{Register}
use Rattle.sap_net.specs.declared.parts.Memory.{Memory}
use Rattle.sap_net.proofs.RulesLemmas.{readable_kept}
use Rattle.sap_build.specs.Copies.{copy_operand, copy_right, copy_input, copy_wire, copy_register, copy_memory, copy_net, KeepsApart, through}
use Rattle.sap_build.proofs.Found.{find_copied, found_copied, found_declared, entries_declared, registers_among, memories_among, readable_declared, shapes_declared, readable_copied, shapes_copied, entries_copied}

pub operand_through : (f : Name → Name) (v : Valuation) (o : Operand) → operand_value v (copy_operand f o) ≡ operand_value (through f v) o
operand_through f v (Named x) = refl
operand_through f v (Constant w n) = refl

-- the names of a scope have in the copy the widths that they have
abbrev pub WidthsFollow : (Name → Name) → Scope → (Name → ℕ) → (Name → ℕ) → Type 0
WidthsFollow f sc copies widths = (x : Name) (u : ℕ) → find sc x ≡ Some u → copies (f x) ≡ widths x

width_through : (f : Name → Name) (sc : Scope) (copies widths : Name → ℕ) → WidthsFollow f sc copies widths → (u : ℕ) (o : Operand)
    → IsOperand sc u o → operand_width copies (copy_operand f o) ≡ operand_width widths o
width_through f sc copies widths w u (Named x) h = w x u h
width_through f sc copies widths w u (Constant k n) h = refl

operands_width_through : (f : Name → Name) (sc : Scope) (copies widths : Name → ℕ) → WidthsFollow f sc copies widths
    → (u : ℕ) (os : List Operand) → AreOperands sc u os → operands_width copies (map (copy_operand f) os) ≡ operands_width widths os
operands_width_through f sc copies widths w u [] h = refl
operands_width_through f sc copies widths w u (o ∷ os) h =
    let a = width_through f sc copies widths w h.0 o h.3 in
    let b = operands_width_through f sc copies widths w h.1 os h.4 in
    cc

operands_through : (f : Name → Name) (sc : Scope) (copies widths : Name → ℕ) (v : Valuation) → WidthsFollow f sc copies widths
    → (u : ℕ) (os : List Operand) → AreOperands sc u os → operands_value copies v (map (copy_operand f) os) ≡ operands_value widths (through f v) os
operands_through f sc copies widths v w u [] h = refl
operands_through f sc copies widths v w u (o ∷ os) h =
    let a = operand_through f v o in
    let b = operands_width_through f sc copies widths w h.1 os h.4 in
    let c = operands_through f sc copies widths v w h.1 os h.4 in
    cc

right_through : (f : Name → Name) (ms : Shapes) (sc : Scope) (copies widths : Name → ℕ) (v : Valuation) → WidthsFollow f sc copies widths
    → (u : ℕ) (r : Right) → IsRight ms sc u r → right_value copies v (copy_right f r) ≡ right_value widths (through f v) r
right_through f ms sc copies widths v w u (Copy a) h = operand_through f v a
right_through f ms sc copies widths v w u (One op a) h =
    let d = operand_through f v a in
    let e = width_through f sc copies widths w h.0 a h.2 in
    cc
right_through f ms sc copies widths v w u (Two op a b) h =
    let c = operand_through f v a in
    let d = operand_through f v b in
    let e = width_through f sc copies widths w h.0 a h.4 in
    cc
right_through f ms sc copies widths v w u (Choose c a b) h =
    let d = operand_through f v c in
    let e = operand_through f v a in
    let g = operand_through f v b in
    cc
right_through f ms sc copies widths v w u (Concat os) h = operands_through f sc copies widths v w u os h.1
right_through f ms sc copies widths v w u (Slice x hi lo) h = refl
right_through f ms sc copies widths v w u (Cell m i) h = ap (v.cell (f m)) (operand_through f v i)

pub wires_through : (f : Name → Name) (ms : Shapes) (ws : List Wire) (sc : Scope) (copies widths : Name → ℕ) (v : Valuation)
    → AreWires ms sc ws → WidthsFollow f (readable_after sc ws) copies widths → Holds copies v (map (copy_wire f) ws) → Holds widths (through f v) ws
wires_through f ms [] sc copies widths v rules w h = tt
wires_through f ms (x ∷ ws) sc copies widths v rules w h = (
  h.0 ∙ right_through f ms sc copies widths v (λ y u g. w y u (readable_kept ms (x ∷ ws) sc rules y u g)) x.width x.right rules.3,
  wires_through f ms ws ((x.name, x.width) ∷ sc) copies widths v rules.4 w h.1,
)

inputs_through : (f : Name → Name) (is : List Input) (xs : List ℕ) (v : Valuation) → InputsAre v (map (copy_input f) is) xs → InputsAre (through f v) is xs
inputs_through f [] [] v h = tt
inputs_through f [] (x ∷ xs) v h = h
inputs_through f (i ∷ is) [] v h = h
inputs_through f (i ∷ is) (x ∷ xs) v h = (h.0, inputs_through f is xs v h.1)

pub written_through : (f : Name → Name) (v : Valuation) (m : Memory) (i : ℕ) → written v (copy_memory f m) i ≡ written (through f v) m i
written_through f v m i =
    let a = operand_through f v m.enable in
    let b = operand_through f v m.index in
    let c = operand_through f v m.value in
    rw (a, b, c) refl

starts_through : (f : Name → Name) (rs : List Register) (v : Valuation)
    → AllByRecursion (λ r. v.value r.name ≡ r.start) (map (copy_register f) rs) → AllByRecursion (λ r. (through f v).value r.name ≡ r.start) rs
starts_through f [] v h = tt
starts_through f (r ∷ rs) v h = (h.0, starts_through f rs v h.1)

cells_start_through : (f : Name → Name) (ms : List Memory) (v : Valuation)
    → AllByRecursion (λ m. (i : ℕ) → v.cell m.name i ≡ m.start) (map (copy_memory f) ms) → AllByRecursion (λ m. (i : ℕ) → (through f v).cell m.name i ≡ m.start) ms
cells_start_through f [] v h = tt
cells_start_through f (m ∷ ms) v h = (h.0, cells_start_through f ms v h.1)

nexts_through : (f : Name → Name) (rs : List Register) (p v : Valuation)
    → AllByRecursion (λ r. v.value r.name ≡ operand_value p r.next) (map (copy_register f) rs)
    → AllByRecursion (λ r. (through f v).value r.name ≡ operand_value (through f p) r.next) rs
nexts_through f [] p v h = tt
nexts_through f (r ∷ rs) p v h = (h.0 ∙ operand_through f p r.next, nexts_through f rs p v h.1)

writes_through : (f : Name → Name) (ms : List Memory) (p v : Valuation)
    → AllByRecursion (λ m. (i : ℕ) → v.cell m.name i ≡ written p m i) (map (copy_memory f) ms)
    → AllByRecursion (λ m. (i : ℕ) → (through f v).cell m.name i ≡ written (through f p) m i) ms
writes_through f [] p v h = tt
writes_through f (m ∷ ms) p v h = ((λ i. h.0 i ∙ written_through f p m i), writes_through f ms p v h.1)

begins_through : (module_name : Name) (f : Name → Name) (n : Net) (p : Option Valuation) (v : Valuation)
    → Begins (copy_net module_name f n) p v → Begins n (option_map (through f) p) (through f v)
begins_through module_name f n None v h = (starts_through f n.registers v h.0, cells_start_through f n.memories v h.1)
begins_through module_name f n (Some p) v h = (nexts_through f n.registers p v h.0, writes_through f n.memories p v h.1)

pub readable_found : (module_name : Name) (f : Name → Name) (n : Net) → IsNetlist n → KeepsApart f n → (x : Name) (u : ℕ)
    → find (readable n) x ≡ Some u → find (readable (copy_net module_name f n)) (f x) ≡ Some u
readable_found module_name f n rules k x u h =
    ap (λ (sc : Scope). find sc (f x)) (readable_copied module_name f n) ∙ found_copied f (λ (w : ℕ). w) n.names k.apart (readable n) (readable_declared n rules) x u h

shape_found : (module_name : Name) (f : Name → Name) (n : Net) → IsNetlist n → KeepsApart f n → (m : Name) (s : ℕ × ℕ)
    → find (shapes n) m ≡ Some s → find (shapes (copy_net module_name f n)) (f m) ≡ Some s
shape_found module_name f n rules k m s h =
    ap (λ (ms : Shapes). find ms (f m)) (shapes_copied module_name f n) ∙ found_copied f (λ (t : ℕ × ℕ). t) n.names k.apart (shapes n) (shapes_declared n rules) m s h

widths_follow : (module_name : Name) (f : Name → Name) (n : Net) → IsNetlist n → KeepsApart f n → WidthsFollow f (readable n) (width_of (copy_net module_name f n)) (width_of n)
widths_follow module_name f n rules k x u h =
    ap (λ (o : Option ℕ). unwrap_or o 0) (readable_found module_name f n rules k x u h ∙ sym h)

pub cycle_through : (module_name : Name) (f : Name → Name) (n : Net) → IsNetlist n → KeepsApart f n
    → (p : Option Valuation) (xs : List ℕ) (v : Valuation) → IsCycle (copy_net module_name f n) p xs v → IsCycle n (option_map (through f) p) xs (through f v)
cycle_through module_name f n rules k p xs v c =
    record {
      begins = begins_through module_name f n p v c.begins;
      given = inputs_through f n.inputs xs v c.given;
      valuation = record {
        within = record {
          value = λ x u h. c.valuation.within.value (f x) u (readable_found module_name f n rules k x u h);
          cell = λ m s h. c.valuation.within.cell (f m) s (shape_found module_name f n rules k m s h);
        };
        equations = wires_through f (shapes n) n.wires (first_readable n) (width_of (copy_net module_name f n)) (width_of n) v rules.assigns
            (widths_follow module_name f n rules k) c.valuation.equations;
      };
    }

pub run_through : (module_name : Name) (f : Name → Name) (n : Net) → IsNetlist n → KeepsApart f n
    → (xss : List (List ℕ)) (p : Option Valuation) (us : List Valuation) → IsRunAfter (copy_net module_name f n) p xss us
    → IsRunAfter n (option_map (through f) p) xss (map (through f) us)
run_through module_name f n rules k [] p [] r = tt
run_through module_name f n rules k [] p (u ∷ us) r = r
run_through module_name f n rules k (xs ∷ xss) p [] r = r
run_through module_name f n rules k (xs ∷ xss) p (u ∷ us) r = (
  cycle_through module_name f n rules k p xs u r.0,
  run_through module_name f n rules k xss (Some u) us r.1,
)

-- what is seen

value_seen : (f : Name → Name) (v : Valuation) (x : Name) (o : Option Operand) → value_after (through f v) x o ≡ value_after v (f x) (option_map (copy_operand f) o)
value_seen f v x None = refl
value_seen f v x (Some o) = sym (operand_through f v o)

cell_seen : (f : Name → Name) (v : Valuation) (x : Name) (i : ℕ) (o : Option Memory) → cell_after (through f v) x i o ≡ cell_after v (f x) i (option_map (copy_memory f) o)
cell_seen f v x i None = refl
cell_seen f v x i (Some m) = sym (written_through f v m i)

pub observed_through : (module_name : Name) (f : Name → Name) (n : Net) → IsNetlist n → KeepsApart f n → (u : Valuation)
    → AreSame n (observed n (through f u)) (through f (observed (copy_net module_name f n) u))
observed_through module_name f n rules k u =
    record {
      value = λ x w h.
          let es : List (Name × Operand) = map (λ r. (r.name, r.next)) n.registers in
          let found : find {X = Operand} (map (λ r. (r.name, r.next)) (map (copy_register f) n.registers)) (f x) ≡ option_map (copy_operand f) (find es x) =
          ap (λ (ds : List (Name × Operand)). find ds (f x))
          (entries_copied f (copy_register f) (λ r. r.name) (λ r. r.next) (λ r. r.next) (copy_operand f) n.registers (λ r. refl) (λ r. refl))
          ∙ find_copied f (copy_operand f) n.names k.apart es
          (entries_declared (λ (r : Register). r.name) (λ r. r.next) n.names n.registers (registers_among n rules)) x
          (found_declared n.names (readable n) (readable_declared n rules) x w h) in
          value_seen f u x (find es x) ∙ ap (value_after u (f x)) (sym found);
      cell = λ m s h i.
          let es : List (Name × Memory) = map (λ m. (m.name, m)) n.memories in
          let found : find {X = Memory} (map (λ m. (m.name, m)) (map (copy_memory f) n.memories)) (f m) ≡ option_map (copy_memory f) (find es m) =
          ap (λ (ds : List (Name × Memory)). find ds (f m)) (entries_copied f (copy_memory f) (λ m. m.name) (λ m. m) (λ m. m) (copy_memory f) n.memories (λ m. refl) (λ m. refl))
          ∙ find_copied f (copy_memory f) n.names k.apart es
          (entries_declared (λ (m : Memory). m.name) (λ m. m) n.names n.memories (memories_among n rules)) m
          (found_declared n.names (shapes n) (shapes_declared n rules) m s h) in
          cell_seen f u m i (find es m) ∙ ap (cell_after u (f m) i) (sym found);
    }
