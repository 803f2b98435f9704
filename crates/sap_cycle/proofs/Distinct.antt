-- Names of a netlist are found where they are declared, and nowhere else.
use Rattle.sap_lemmas.proofs.Common.{◌≡◌, ℕ, List, [], ◌∷◌, ◌++◌, map, Some, None, refl, AllByRecursion, all_follow, all_of_map, all_parts, bytes_eq_apart_back}
use Rattle.sap_net.proofs.RulesLemmas.{readable_kept, values_found, values_past}
use Rattle.sap_net.proofs.InputLemmas.{past_inputs}
use Rattle.sap_maps.specs.Prelude.{Name, Scope, find}
use Rattle.sap_maps.proofs.Scopes.{found_here, not_first, not_behind}
use Rattle.sap_net.specs.Prelude.{Net, Shapes, AreWires, AreValues, AreMemories, readable_after, IsNetlist, shapes, first_readable, readable}
use Rattle.sap_net.specs.declared.parts.Input.{Input}
use Rattle.sap_net.specs.declared.parts.Wire.{Wire}
use Rattle.sap_net.specs.declared.parts.Register.{Register}
use Rattle.sap_net.specs.declared.parts.Memory.{Memory}

-- a list under its names, each with something of its own
abbrev pub listed : {A X : Type 0} → (key : A → Name) → (of : A → X) → List A → List (Name × X)
listed key of list = map (λ a. (key a, of a)) list

-- no name stands there twice
abbrev pub AreFresh : {A X : Type 0} → (key : A → Name) → (of : A → X) → List A → Type 0
AreFresh key of [] = Unit {0}
AreFresh key of (a ∷ list) = (find (listed key of list) (key a) ≡ None) × AreFresh key of list

-- what isn't found doesn't hang on what stands beside the names
pub none_listed : {A X Y : Type 0} (key : A → Name) (f : A → X) (g : A → Y) (list : List A) (x : Name) → find (listed key f list) x ≡ None → find (listed key g list) x ≡ None
none_listed {A} {X} {Y} key f g [] x h = refl
none_listed {A} {X} {Y} key f g (a ∷ list) x h =
    rw (bytes_eq_apart_back x (key a) (not_first (key a, f a) _ x h)) (none_listed key f g list x (not_behind (key a, f a) _ x h))

keep_listed : {A X Y : Type 0} (key : A → Name) (f : A → X) (g : A → Y) (a : A) (all list : List A) → find (listed key f list) (key a) ≡ None
    → AllByRecursion (λ b. find (listed key g all) (key b) ≡ Some (g b)) list → AllByRecursion (λ b. find (listed key g (a ∷ all)) (key b) ≡ Some (g b)) list
keep_listed {A} {X} {Y} key f g a all [] fresh h = tt
keep_listed {A} {X} {Y} key f g a all (b ∷ list) fresh h = (
  rw (not_first (key b, f b) _ (key a) fresh) h.0,
  keep_listed key f g a all list (not_behind (key b, f b) _ (key a) fresh) h.1,
)

pub found_listed : {A X Y : Type 0} (key : A → Name) (f : A → X) (g : A → Y) (list : List A) → AreFresh key f list
    → AllByRecursion (λ b. find (listed key g list) (key b) ≡ Some (g b)) list
found_listed {A} {X} {Y} key f g [] fresh = tt
found_listed {A} {X} {Y} key f g (a ∷ list) fresh = (
  found_here (key a) (g a) (listed key g list),
  keep_listed key f g a list list fresh.0 (found_listed key f g list fresh.1),
)

fresh_registers : (ms : Shapes) (rs : List Register) → AreValues ms (map (λ r. (r.name, r.width)) rs) → AreFresh (λ r. r.name) (λ r. r.width) rs
fresh_registers ms [] rules = tt
fresh_registers ms (r ∷ rs) rules = (rules.1, fresh_registers ms rs rules.3)

fresh_memories : (ms : List Memory) → AreMemories (map (λ m. (m.name, (m.width, m.depth))) ms) → AreFresh {X = ℕ × ℕ} (λ m. m.name) (λ m. (m.width, m.depth)) ms
fresh_memories [] rules = tt
fresh_memories (m ∷ ms) rules = (rules.1, fresh_memories ms rules.2)

pub registers_found : {Y : Type 0} (n : Net) → IsNetlist n → (g : Register → Y) → AllByRecursion (λ r. find (map (λ s. (s.name, g s)) n.registers) r.name ≡ Some (g r)) n.registers
registers_found {Y} n rules g =
    found_listed (λ r. r.name) (λ r. r.width) g n.registers (fresh_registers (shapes n) n.registers (values_past (shapes n) n.inputs _ rules.values))

pub memories_found : {Y : Type 0} (n : Net) → IsNetlist n → (g : Memory → Y) → AllByRecursion (λ m. find (map (λ k. (k.name, g k)) n.memories) m.name ≡ Some (g m)) n.memories
memories_found {Y} n rules g = found_listed {X = ℕ × ℕ} (λ m. m.name) (λ m. (m.width, m.depth)) g n.memories (fresh_memories n.memories rules.memory_shapes)

-- an input is no register
inputs_apart : {Y : Type 0} (ms : Shapes) (g : Register → Y) (rs : List Register) (is : List Input)
    → AreValues ms (map (λ i. (i.name, i.width)) is ++ map (λ r. (r.name, r.width)) rs)
    → AllByRecursion (λ i. find (map (λ s. (s.name, g s)) rs) i.name ≡ None) is
inputs_apart {Y} ms g rs [] rules = tt
inputs_apart {Y} ms g rs (i ∷ is) rules = (
  none_listed (λ r. r.name) (λ r. r.width) g rs i.name (past_inputs is _ i.name rules.1),
  inputs_apart ms g rs is rules.3,
)

pub inputs_no_registers : {Y : Type 0} (n : Net) → IsNetlist n → (g : Register → Y) → AllByRecursion (λ i. find (map (λ s. (s.name, g s)) n.registers) i.name ≡ None) n.inputs
inputs_no_registers {Y} n rules g = inputs_apart (shapes n) g n.registers n.inputs rules.values

-- a wire is no register
wires_apart : {Y : Type 0} (ms : Shapes) (g : Register → Y) (rs : List Register) (ws : List Wire) (sc : Scope) → AreWires ms sc ws
    → ((x : Name) → find sc x ≡ None → find (map (λ s. (s.name, g s)) rs) x ≡ None) → AllByRecursion (λ w. find (map (λ s. (s.name, g s)) rs) w.name ≡ None) ws
wires_apart {Y} ms g rs [] sc rules h = tt
wires_apart {Y} ms g rs (w ∷ ws) sc rules h = (
  h w.name rules.1,
  wires_apart ms g rs ws _ rules.4 (λ x e. h x (not_behind (w.name, w.width) sc x e)),
)

pub wires_no_registers : {Y : Type 0} (n : Net) → IsNetlist n → (g : Register → Y) → AllByRecursion (λ w. find (map (λ s. (s.name, g s)) n.registers) w.name ≡ None) n.wires
wires_no_registers {Y} n rules g =
    wires_apart (shapes n) g n.registers n.wires (first_readable n) rules.assigns
    (λ x h. none_listed (λ r. r.name) (λ r. r.width) g n.registers x (past_inputs n.inputs _ x h))

abbrev pub AreReadable : {A : Type 0} → Scope → (key : A → Name) → (width : A → ℕ) → List A → Type 0
AreReadable sc key width list = AllByRecursion (λ a. find sc (key a) ≡ Some (width a)) list

-- inputs and registers can be read before the wires
first_are_readable : (n : Net) → IsNetlist n → AreReadable (first_readable n) (λ i. i.name) (λ i. i.width) n.inputs
    × AreReadable (first_readable n) (λ r. r.name) (λ r. r.width) n.registers
first_are_readable n rules =
    let P : Name × ℕ → Type 0 = λ d. find (first_readable n) d.0 ≡ Some d.1 in
    let both = all_parts P (map (λ i. (i.name, i.width)) n.inputs) (map (λ r. (r.name, r.width)) n.registers) (values_found (shapes n) (first_readable n) rules.values) in
    (all_of_map P (λ i. (i.name, i.width)) n.inputs both.0, all_of_map P (λ r. (r.name, r.width)) n.registers both.1)

all_readable_after : {A : Type 0} (ms : Shapes) (sc : Scope) (ws : List Wire) → AreWires ms sc ws
    → (key : A → Name) (width : A → ℕ) (list : List A) → AreReadable sc key width list → AreReadable (readable_after sc ws) key width list
all_readable_after {A} ms sc ws rules key width list h =
    all_follow (λ a. find sc (key a) ≡ Some (width a)) (λ a. find (readable_after sc ws) (key a) ≡ Some (width a)) list (λ a e. readable_kept ms ws sc rules (key a) (width a) e) h

wires_readable_after : (ms : Shapes) (sc : Scope) (ws : List Wire) → AreWires ms sc ws → AreReadable (readable_after sc ws) (λ w. w.name) (λ w. w.width) ws
wires_readable_after ms sc [] rules = tt
wires_readable_after ms sc (w ∷ ws) rules = (
  readable_kept ms ws ((w.name, w.width) ∷ sc) rules.4 w.name w.width (found_here w.name w.width sc),
  wires_readable_after ms ((w.name, w.width) ∷ sc) ws rules.4,
)

pub inputs_readable : (n : Net) → IsNetlist n → AreReadable (readable n) (λ i. i.name) (λ i. i.width) n.inputs
inputs_readable n rules =
    all_readable_after (shapes n) (first_readable n) n.wires rules.assigns (λ i. i.name) (λ i. i.width) n.inputs
    (first_are_readable n rules).0

pub registers_readable : (n : Net) → IsNetlist n → AreReadable (readable n) (λ r. r.name) (λ r. r.width) n.registers
registers_readable n rules =
    all_readable_after (shapes n) (first_readable n) n.wires rules.assigns (λ r. r.name) (λ r. r.width) n.registers
    (first_are_readable n rules).1

pub wires_readable : (n : Net) → IsNetlist n → AreReadable (readable n) (λ w. w.name) (λ w. w.width) n.wires
wires_readable n rules = wires_readable_after (shapes n) (first_readable n) n.wires rules.assigns
