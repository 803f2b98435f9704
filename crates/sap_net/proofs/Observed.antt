-- What is seen of a cycle: inputs and wires as they are, registers and memories as they are after the edge.
use Rattle.sap_lemmas.proofs.Common.{◌≡◌, ℕ, List, [], ◌∷◌, ◌++◌, map, None, ap, refl, AllByRecursion, bytes_eq_apart_back}
use Rattle.sap_net.proofs.RulesLemmas.{values_past}
use Rattle.sap_net.proofs.InputLemmas.{past_inputs}
use Rattle.sap_maps.specs.Prelude.{Name, Valuation, Scope, find}
use Rattle.sap_maps.proofs.Scopes.{found_here, not_first, not_behind}
use Rattle.sap_net.specs.declared.parts.Operand.{Operand}
use Rattle.sap_net.specs.declared.parts.Input.{Input}
use Rattle.sap_net.specs.declared.parts.Wire.{Wire}
use Rattle.sap_net.specs.declared.parts.Register.{Register}
use Rattle.sap_net.specs.declared.parts.Memory.{Memory}
use Rattle.sap_net.specs.Net.{Net}
use Rattle.sap_net.specs.Values.{operand_value}
use Rattle.sap_net.specs.Rules.{Shapes, AreWires, AreValues, AreMemories}
use Rattle.sap_net.specs.IsNetlist.{shapes, IsNetlist}
use Rattle.sap_net.specs.Runs.{written, value_after, cell_after, observed}

abbrev nexts_of : List Register → List (Name × Operand)
nexts_of rs = map (λ r. (r.name, r.next)) rs

abbrev memories_of : List Memory → List (Name × Memory)
memories_of ms = map (λ m. (m.name, m)) ms

-- a name that no register has is none of those with a next
no_next : (rs : List Register) (x : Name) → find {X = ℕ} (map (λ r. (r.name, r.width)) rs) x ≡ None → find (nexts_of rs) x ≡ None
no_next [] x h = refl
no_next (r ∷ rs) x h =
    rw (bytes_eq_apart_back x r.name (not_first (r.name, r.width) _ x h)) (no_next rs x (not_behind (r.name, r.width) _ x h))

-- one register more in front, of another name, changes nothing
keep_nexts : (v : Valuation) (r : Register) (all rs : List Register) → find {X = ℕ} (map (λ r. (r.name, r.width)) rs) r.name ≡ None
    → AllByRecursion (λ s. value_after v s.name (find (nexts_of all) s.name) ≡ operand_value v s.next) rs
    → AllByRecursion (λ s. value_after v s.name (find (nexts_of (r ∷ all)) s.name) ≡ operand_value v s.next) rs
keep_nexts v r all [] fresh h = tt
keep_nexts v r all (s ∷ rs) fresh h = (
  rw (not_first (s.name, s.width) _ r.name fresh) h.0,
  keep_nexts v r all rs (not_behind (s.name, s.width) _ r.name fresh) h.1,
)

registers_after : (ms : Shapes) (v : Valuation) (rs : List Register) → AreValues ms (map (λ r. (r.name, r.width)) rs)
    → AllByRecursion (λ r. value_after v r.name (find (nexts_of rs) r.name) ≡ operand_value v r.next) rs
registers_after ms v [] rules = tt
registers_after ms v (r ∷ rs) rules = (
  ap (value_after v r.name) (found_here r.name r.next (nexts_of rs)),
  keep_nexts v r rs rs rules.1 (registers_after ms v rs rules.3),
)

pub observed_registers : (n : Net) → IsNetlist n → (v : Valuation) → AllByRecursion (λ r. (observed n v).value r.name ≡ operand_value v r.next) n.registers
observed_registers n rules v = registers_after (shapes n) v n.registers (values_past (shapes n) n.inputs _ rules.values)

-- an input is no register
inputs_stay : (ms : Shapes) (v : Valuation) (is : List Input) (rs : List Register) → AreValues ms (map (λ i. (i.name, i.width)) is ++ map (λ r. (r.name, r.width)) rs)
    → AllByRecursion (λ i. value_after v i.name (find (nexts_of rs) i.name) ≡ v.value i.name) is
inputs_stay ms v [] rs rules = tt
inputs_stay ms v (i ∷ is) rs rules = (
  ap (value_after v i.name) (no_next rs i.name (past_inputs is _ i.name rules.1)),
  inputs_stay ms v is rs rules.3,
)

pub observed_inputs : (n : Net) → IsNetlist n → (v : Valuation) → AllByRecursion (λ i. (observed n v).value i.name ≡ v.value i.name) n.inputs
observed_inputs n rules v = inputs_stay (shapes n) v n.inputs n.registers rules.values

-- no wire is a register
wires_stay : (ms : Shapes) (v : Valuation) (rs : List Register) (ws : List Wire) (sc : Scope) → AreWires ms sc ws → ((x : Name) → find sc x ≡ None → find (nexts_of rs) x ≡ None)
    → AllByRecursion (λ w. value_after v w.name (find (nexts_of rs) w.name) ≡ v.value w.name) ws
wires_stay ms v rs [] sc rules h = tt
wires_stay ms v rs (w ∷ ws) sc rules h = (
  ap (value_after v w.name) (h w.name rules.1),
  wires_stay ms v rs ws _ rules.4 (λ x g. h x (not_behind (w.name, w.width) sc x g)),
)

pub observed_wires : (n : Net) → IsNetlist n → (v : Valuation) → AllByRecursion (λ w. (observed n v).value w.name ≡ v.value w.name) n.wires
observed_wires n rules v =
    wires_stay (shapes n) v n.registers n.wires _ rules.assigns (λ x h. no_next n.registers x (past_inputs n.inputs _ x h))

keep_memories : (v : Valuation) (m : Memory) (all ms : List Memory) → find {X = ℕ × ℕ} (map (λ m. (m.name, (m.width, m.depth))) ms) m.name ≡ None
    → AllByRecursion (λ k. (i : ℕ) → cell_after v k.name i (find (memories_of all) k.name) ≡ written v k i) ms
    → AllByRecursion (λ k. (i : ℕ) → cell_after v k.name i (find (memories_of (m ∷ all)) k.name) ≡ written v k i) ms
keep_memories v m all [] fresh h = tt
keep_memories v m all (k ∷ ms) fresh h = (
  λ i. rw (not_first (k.name, (k.width, k.depth)) _ m.name fresh) (h.0 i),
  keep_memories v m all ms (not_behind (k.name, (k.width, k.depth)) _ m.name fresh) h.1,
)

memories_after : (v : Valuation) (ms : List Memory) → AreMemories (map (λ m. (m.name, (m.width, m.depth))) ms)
    → AllByRecursion (λ m. (i : ℕ) → cell_after v m.name i (find (memories_of ms) m.name) ≡ written v m i) ms
memories_after v [] rules = tt
memories_after v (m ∷ ms) rules = (
  λ i. ap (cell_after v m.name i) (found_here m.name m (memories_of ms)),
  keep_memories v m ms ms rules.1 (memories_after v ms rules.2),
)

pub observed_memories : (n : Net) → IsNetlist n → (v : Valuation) → AllByRecursion (λ m. (i : ℕ) → (observed n v).cell m.name i ≡ written v m i) n.memories
observed_memories n rules v = memories_after v n.memories rules.memory_shapes
