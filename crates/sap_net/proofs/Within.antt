-- The numbers of a cycle are within their widths.
use Rattle.sap_lemmas.proofs.Common.{◌≡◌, ℕ, ◌+◌, ◌^◌, ◌<◌, List, [], ◌∷◌, ◌++◌, map, Option, Some, None, sym, ap, subst, ⊎_elim, arith, unwrap_or, bytes_eq, AllByRecursion, pow_pos, mod-lt, cases_Bool, equal_of_bytes_eq}
use Rattle.sap_net.proofs.RulesLemmas.{readable_kept}
use Rattle.sap_bits.proofs.Within.{value1_below, value2_below}
use Rattle.sap_maps.specs.Prelude.{Name, Valuation, Scope, find}
use Rattle.sap_maps.proofs.Terms.{right_fits, below_both, joined_below}
use Rattle.sap_net.specs.declared.parts.Operand.{Operand}
use Rattle.sap_net.specs.declared.parts.Operand.TheVariants.{Named, Constant}
use Rattle.sap_net.specs.declared.parts.Right.{Right}
use Rattle.sap_net.specs.declared.parts.Right.TheVariants.{Copy, One, Two, Choose, Concat, Slice, Cell}
use Rattle.sap_net.specs.declared.parts.Wire.{Wire}
use Rattle.sap_net.specs.declared.parts.Input.{Input}
use Rattle.sap_net.specs.declared.parts.Register.{Register}
use Rattle.sap_net.specs.declared.parts.Memory.{Memory}
use Rattle.sap_net.specs.Net.{Net}
use Rattle.sap_net.specs.Values.{operand_value, operand_width, operands_width, operands_value, right_value, Holds, WidthsAre, ValuesBelow}
use Rattle.sap_net.specs.Rules.{Shapes, IsOperand, AreOperands, IsRight, AreWires, readable_after, IsRegister, IsMemory}
use Rattle.sap_net.specs.IsNetlist.{first_readable, readable, shapes, width_of, IsNetlist}
use Rattle.sap_net.specs.Runs.{IsWithin, written, Begins, InputsFit, InputsAre}
use Rattle.sap_net.specs.Laws.{WithinBefore}
use Rattle.sap_net.proofs.Same.{AreFound, all_found}

abbrev pub CellsBelow : Shapes → Valuation → Type 0
CellsBelow ms v = (m : Name) (s : ℕ × ℕ) → find ms m ≡ Some s → (i : ℕ) → v.cell m i < 2 ^ s.0

pub operand_below : (sc : Scope) (v : Valuation) → ValuesBelow sc v → (u : ℕ) (o : Operand) → IsOperand sc u o → operand_value v o < 2 ^ u
operand_below sc v b u (Named n) h = b n u h
operand_below sc v b u (Constant k x) h = h.1

pub operand_is_wide : (sc : Scope) (widths : Name → ℕ) → WidthsAre sc widths → (u : ℕ) (o : Operand) → IsOperand sc u o → operand_width widths o ≡ u
operand_is_wide sc widths w u (Named n) h = w n u h
operand_is_wide sc widths w u (Constant k x) h = h.0

pub operands_below : (sc : Scope) (v : Valuation) (widths : Name → ℕ) → ValuesBelow sc v → WidthsAre sc widths → (u : ℕ) (os : List Operand)
    → AreOperands sc u os → (operands_width widths os ≡ u) × (operands_value widths v os < 2 ^ u)
operands_below sc v widths b w u [] h = (sym h, subst (λ (k : ℕ). 0 < 2 ^ k) (sym h) (pow_pos 0))
operands_below sc v widths b w u (o ∷ os) h =
    let r = operands_below sc v widths b w h.1 os h.4 in
    let e = operand_is_wide sc widths w h.0 o h.3 in
    let f : operand_width widths o + operands_width widths os ≡ u = omega (arith, e, r.0, h.5) in
    let g : operands_value widths v os < 2 ^ operands_width widths os = subst (λ (k : ℕ). operands_value widths v os < 2 ^ k) (sym r.0) r.1 in
    let a : operand_value v o < 2 ^ operand_width widths o = subst (λ (k : ℕ). operand_value v o < 2 ^ k) (sym e) (operand_below sc v b h.0 o h.3) in (
      f,
      subst (λ (k : ℕ). operands_value widths v (o ∷ os) < 2 ^ k) f
          (joined_below (operand_value v o) (operands_value widths v os) (operand_width widths o) (operands_width widths os) a g),
    )

pub right_below : (ms : Shapes) (sc : Scope) (v : Valuation) (widths : Name → ℕ) → ValuesBelow sc v → CellsBelow ms v → WidthsAre sc widths
    → (u : ℕ) (r : Right) → IsRight ms sc u r → right_value widths v r < 2 ^ u
right_below ms sc v widths b c w u (Copy o) h = operand_below sc v b u o h
right_below ms sc v widths b c w u (One op o) h =
    let e = operand_is_wide sc widths w h.0 o h.2 in
    rw (e, h.3) (value1_below op h.0 _ (operand_below sc v b h.0 o h.2))
right_below ms sc v widths b c w u (Two op o p) h =
    let e = operand_is_wide sc widths w h.0 o h.4 in
    rw (e, h.7) (value2_below op h.0 _ _ (operand_below sc v b h.0 o h.4) (right_fits op h.0 h.1 _ h.6 (operand_below sc v b h.1 p h.5)))
right_below ms sc v widths b c w u (Choose t o p) h =
    below_both _ _ _ (2 ^ u) (operand_below sc v b u p h.2) (operand_below sc v b u o h.1)
right_below ms sc v widths b c w u (Concat os) h = (operands_below sc v widths b w u os h.1).1
right_below ms sc v widths b c w u (Slice n hi lo) h = rw h.5 (mod-lt _ (pow_pos _))
right_below ms sc v widths b c w u (Cell m i) h = c m _ h.1 (operand_value v i)

below_more : (sc : Scope) (v : Valuation) (m : Name) (k : ℕ) → v.value m < 2 ^ k → ValuesBelow sc v → ValuesBelow ((m, k) ∷ sc) v
below_more sc v m k h b n u g =
    ⊎_elim
    (λ t. let e : m ≡ n = equal_of_bytes_eq m n t in let q : Some k ≡ Some u = rw t at g in let j : k ≡ u = cc in
    subst (λ (x : Name). v.value x < 2 ^ u) e (subst (λ (x : ℕ). v.value m < 2 ^ x) j h))
    (λ f. b n u (rw f at g))
    (cases_Bool (bytes_eq m n))

pub wires_below : (ms : Shapes) (v : Valuation) (widths : Name → ℕ) (ws : List Wire) (sc : Scope) → AreWires ms sc ws
    → WidthsAre (readable_after sc ws) widths → CellsBelow ms v → Holds widths v ws → ValuesBelow sc v → ValuesBelow (readable_after sc ws) v
wires_below ms v widths [] sc rules w c holds b = b
wires_below ms v widths (x ∷ ws) sc rules w c holds b =
    let w' : WidthsAre sc widths = λ n u h. w n u (readable_kept ms (x ∷ ws) sc rules n u h) in
    let r = right_below ms sc v widths b c w' x.width x.right rules.3 in
    wires_below ms v widths ws _ rules.4 w c holds.1 (below_more sc v x.name x.width (rw holds.0 r) b)

pub widths_are : (n : Net) → WidthsAre (readable n) (width_of n)
widths_are n x u h = rw h

-- the inputs before what stands behind them
inputs_below : (is : List Input) (xs : List ℕ) (sd : Scope) (v : Valuation) → InputsFit is xs → InputsAre v is xs → ValuesBelow sd v
    → ValuesBelow (map (λ i. (i.name, i.width)) is ++ sd) v
inputs_below [] xs sd v fit a b = b
inputs_below (i ∷ is) [] sd v fit a b = absurd a
inputs_below (i ∷ is) (x ∷ xs) sd v fit a b =
    below_more _ v i.name i.width (rw a.0 fit.0) (inputs_below is xs sd v fit.1 a.1 b)

registers_below : (f : Register → ℕ) (rs : List Register) (v : Valuation) → AllByRecursion (λ r. f r < 2 ^ r.width) rs
    → AllByRecursion (λ r. v.value r.name ≡ f r) rs → ValuesBelow (map (λ r. (r.name, r.width)) rs) v
registers_below f [] v h a n u g = absurd (cc)
registers_below f (r ∷ rs) v h a n u g =
    below_more _ v r.name r.width (rw a.0 h.0) (registers_below f rs v h.1 a.1) n u g

cells_below : (f : Memory → ℕ → ℕ) (ms : List Memory) (v : Valuation) → AllByRecursion (λ m. (i : ℕ) → f m i < 2 ^ m.width) ms
    → AllByRecursion (λ m. (i : ℕ) → v.cell m.name i ≡ f m i) ms → CellsBelow (map (λ m. (m.name, (m.width, m.depth))) ms) v
cells_below f [] v h a n s g i = absurd (cc)
cells_below f (m ∷ ms) v h a n s g i =
    ⊎_elim
    (λ t. let e : m.name ≡ n = equal_of_bytes_eq m.name n t in
    let shape : ℕ × ℕ = (m.width, m.depth) in
    let q : Some shape ≡ Some s = rw t at g in
    let j : m.width ≡ s.0 = ap (λ (o : Option (ℕ × ℕ)). (unwrap_or o (0, 0)).0) q in
    subst (λ (x : Name). v.cell x i < 2 ^ s.0) e (subst (λ (k : ℕ). v.cell m.name i < 2 ^ k) j (rw (a.0 i) (h.0 i))))
    (λ q. cells_below f ms v h.1 a.1 n s (rw q at g) i)
    (cases_Bool (bytes_eq m.name n))

starts_below : (sc : Scope) (rs : List Register) → AllByRecursion (IsRegister sc) rs → AllByRecursion (λ r. r.start < 2 ^ r.width) rs
starts_below sc [] h = tt
starts_below sc (r ∷ rs) h = (h.0.0, starts_below sc rs h.1)

pub nexts_below : (sc : Scope) (p : Valuation) → ValuesBelow sc p → (rs : List Register) → AllByRecursion (IsRegister sc) rs
    → AllByRecursion (λ r. operand_value p r.next < 2 ^ r.width) rs
nexts_below sc p b [] h = tt
nexts_below sc p b (r ∷ rs) h = (operand_below sc p b r.width r.next h.0.1, nexts_below sc p b rs h.1)

fills_below : (sc : Scope) (ms : List Memory) → AllByRecursion (IsMemory sc) ms → AllByRecursion (λ m. (i : ℕ) → m.start < 2 ^ m.width) ms
fills_below sc [] h = tt
fills_below sc (m ∷ ms) h = (λ i. h.0.start, fills_below sc ms h.1)

pub written_below : (sc : Scope) (shapes : Shapes) (p : Valuation) → ValuesBelow sc p → CellsBelow shapes p → (ms : List Memory)
    → AllByRecursion (IsMemory sc) ms → AreFound shapes ms → AllByRecursion (λ m. (i : ℕ) → written p m i < 2 ^ m.width) ms
written_below sc shapes p b c [] h has = tt
written_below sc shapes p b c (m ∷ ms) h has = (
  λ i. below_both _ _ _ (2 ^ m.width) (operand_below sc p b m.width m.value h.0.value) (c m.name _ has.0 i),
  written_below sc shapes p b c ms h.1 has.1,
)

within_from : (n : Net) → IsNetlist n → (xs : List ℕ) (v : Valuation) (f : Register → ℕ) (c : Memory → ℕ → ℕ) → InputsFit n.inputs xs
    → InputsAre v n.inputs xs → Holds (width_of n) v n.wires
    → AllByRecursion (λ r. f r < 2 ^ r.width) n.registers → AllByRecursion (λ r. v.value r.name ≡ f r) n.registers
    → AllByRecursion (λ m. (i : ℕ) → c m i < 2 ^ m.width) n.memories → AllByRecursion (λ m. (i : ℕ) → v.cell m.name i ≡ c m i) n.memories
    → IsWithin n v
within_from n rules xs v f c fit given holds fb fv cb cv =
    let cells = cells_below c n.memories v cb cv in
    let registers = registers_below f n.registers v fb fv in
    record {
      value = wires_below (shapes n) v (width_of n) n.wires (first_readable n) rules.assigns (widths_are n) cells holds (inputs_below n.inputs xs _ v fit given registers);
      cell = cells;
    }

pub cycle_within : (n : Net) → IsNetlist n → (before : Option Valuation) (xs : List ℕ) (v : Valuation) → WithinBefore n before
    → InputsFit n.inputs xs → Begins n before v → InputsAre v n.inputs xs → Holds (width_of n) v n.wires → IsWithin n v
cycle_within n rules None xs v b fit begins given holds =
    within_from n rules xs v (λ r. r.start) (λ m i. m.start) fit given holds
    (starts_below (readable n) n.registers rules.nexts) begins.0 (fills_below (readable n) n.memories rules.writes) begins.1
cycle_within n rules (Some p) xs v b fit begins given holds =
    within_from n rules xs v (λ r. operand_value p r.next) (written p) fit given holds
    (nexts_below (readable n) p b.value n.registers rules.nexts) begins.0
    (written_below (readable n) (shapes n) p b.value b.cell n.memories rules.writes (all_found n.memories rules.memory_shapes)) begins.1
