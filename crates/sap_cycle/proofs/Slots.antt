-- Slots and parts have the operands' numbers.
use Rattle.sap_lemmas.proofs.Common.{◌≡◌, ℕ, ◌+◌, ◌-◌, ◌*◌, ◌^◌, ◌<◌, ◌≤◌, List, [], ◌∷◌, map, length, get_or, sym, ap, ◌∙◌, arith, get_or-take, Some, slice_get, option_map, pow-le-pow_right, pow-add, slice_get-map, slice_get_within, get_or_from_slice_get}
use Rattle.sap_bits.specs.Arithmetic.{joined}
use Rattle.sap_maps.specs.Prelude.{Name, Valuation, Scope}
use Rattle.sap_maps.proofs.Terms.{joined_below}
use Rattle.sap_net.specs.Prelude.{operand_value, operand_width, operands_width, operands_value, AreOperands, ValuesBelow, WidthsAre}
use Rattle.sap_net.specs.declared.parts.Operand.{Operand}
use Rattle.sap_net.specs.declared.parts.Operand.TheVariants.{Named, Constant}
use Rattle.sap_net.proofs.Within.{operand_below, operand_is_wide}
use Rattle.sap_cycle.specs.declared.steps.Slot.{Slot}
use Rattle.sap_cycle.specs.declared.steps.Slot.TheVariants.{At, Number}
use Rattle.sap_cycle.specs.declared.steps.Part.{Part}
use Rattle.sap_cycle.specs.Steps.{slot_value, joined_from, SlotIn, ArePartsReady}
use Rattle.sap_cycle.specs.Means.{SlotMeans, PartsMean, Matches}

pub slot_is : (v : Valuation) (names : List Name) (values : List ℕ) → Matches v names values → (s : Slot) (o : Operand)
    → SlotMeans names s o → slot_value values s ≡ operand_value v o
slot_is v names values m (At k) (Named x) h =
    let e : slice_get (map v.value names) k ≡ Some (v.value x) = slice_get-map v.value names k ∙ ap (option_map v.value) h in
    sym (get_or-take (length names) values k 0 (slice_get_within names k x h)) ∙ ap (λ l. get_or l k 0) m ∙ get_or_from_slice_get _ k _ 0 e
slot_is v names values m (Number n) (Constant w y) h = h
slot_is v names values m (At k) (Constant w y) h = absurd h
slot_is v names values m (Number n) (Named x) h = absurd h

pub slot_in : (names : List Name) (values : List ℕ) → length names ≤ length values → (s : Slot) (o : Operand) → SlotMeans names s o → SlotIn values s
slot_in names values le (At k) (Named x) h = omega (arith, slice_get_within names k x h)
slot_in names values le (Number n) o h = tt
slot_in names values le (At k) (Constant w y) h = absurd h

spread : (f a b x y v : ℕ) → (f * a + x) * b + v ≡ f * (a * b) + (x * b + v)
spread f a b x y v = omega arith

pub joined_is : (widths : Name → ℕ) (v : Valuation) (names : List Name) (values : List ℕ) → Matches v names values
    → (ps : List Part) (os : List Operand) → PartsMean widths names ps os → (front : ℕ)
    → joined_from values front ps ≡ front * 2 ^ operands_width widths os + operands_value widths v os
joined_is widths v names values m [] [] h front = omega arith
joined_is widths v names values m [] (o ∷ os) h front = absurd h
joined_is widths v names values m (p ∷ ps) [] h front = absurd h
joined_is widths v names values m (p ∷ ps) (o ∷ os) h front =
    let e : slot_value values p.slot ≡ operand_value v o = slot_is v names values m p.slot o h.0 in
    let w : p.width ≡ operand_width widths o = h.1 in
    let next : joined front p.width (slot_value values p.slot) ≡ front * 2 ^ operand_width widths o + operand_value v o = rw (e, w) in
    ap (λ k. joined_from values k ps) next
    ∙ joined_is widths v names values m ps os h.2 (front * 2 ^ operand_width widths o + operand_value v o)
    ∙ spread front (2 ^ operand_width widths o) (2 ^ operands_width widths os) (operand_value v o) 0 (operands_value widths v os)
    ∙ ap (λ k. front * k + (operand_value v o * 2 ^ operands_width widths os + operands_value widths v os)) (sym (pow-add 2 (operand_width widths o) (operands_width widths os)))

below_more : (x a b : ℕ) → x < 2 ^ a → a ≤ b → x < 2 ^ b
below_more x a b lt le = omega (arith, pow-le-pow_right {n = 2} (omega arith) {i = a} {j = b} le)

pub parts_ready : (widths : Name → ℕ) (sc : Scope) (v : Valuation) (names : List Name) (values : List ℕ) → ValuesBelow sc v
    → WidthsAre sc widths → Matches v names values → length names ≤ length values
    → (ps : List Part) (os : List Operand) → PartsMean widths names ps os → (u a front : ℕ) → AreOperands sc u os → front < 2 ^ a → a + u ≤ 64 → ArePartsReady values front ps
parts_ready widths sc v names values b w m le [] os h u a front rules lt room = tt
parts_ready widths sc v names values b w m le (p ∷ ps) [] h u a front rules lt room = absurd h
parts_ready widths sc v names values b w m le (p ∷ ps) (o ∷ os) h u a front rules lt room =
    let e : slot_value values p.slot ≡ operand_value v o = slot_is v names values m p.slot o h.0 in
    let k : p.width ≡ rules.0 = h.1 ∙ operand_is_wide sc widths w rules.0 o rules.3 in
    let x : slot_value values p.slot < 2 ^ p.width = rw (e, k) (operand_below sc v b rules.0 o rules.3) in (
      slot_in names values le p.slot o h.0,
      omega (arith, k, rules.2.0),
      omega (arith, k, rules.2.1),
      below_more front a (64 - p.width) lt (omega (arith, k, rules.5)),
      x,
      parts_ready widths sc v names values b w m le ps os h.2 rules.1 (a + p.width) (joined front p.width (slot_value values p.slot)) rules.4
          (joined_below front (slot_value values p.slot) a p.width lt x) (omega (arith, k, rules.5)),
    )
