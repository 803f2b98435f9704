-- Steps over places give the wires' numbers.
use Rattle.sap_lemmas.proofs.Common.{◌≡◌, ℕ, zero, suc, ◌+◌, ◌*◌, ◌^◌, ◌<◌, ◌≤◌, List, [], ◌∷◌, ◌++◌, map, Some, length, take, drop, sym, ap, ◌∙◌, subst, arith, refl, length-append, append_assoc, slice_get, slice_index, slice_range, ◌-◌, length-map, map-append, slice_get_within}
use Rattle.std.proofs.Math.Seq.{get_or-append_seam}
use Rattle.std.proofs.lemmas.List.{take_at, drop_at}
use Rattle.std.proofs.lemmas.Option.{some_pair_parts}
use Rattle.sap_net.proofs.RulesLemmas.{readable_kept}
use Rattle.sap_maps.specs.Prelude.{Name, Valuation, Scope, find}
use Rattle.sap_maps.proofs.Terms.{right_fits}
use Rattle.sap_net.specs.Prelude.{operand_value, operand_width, operands_width, operands_value, right_value, Holds, Shapes, AreOperands, IsRight, AreWires, readable_after, IsWidth, ValuesBelow, WidthsAre}
use Rattle.sap_net.specs.declared.parts.Operand.TheVariants.{Named}
use Rattle.sap_net.specs.declared.parts.Operand.{Operand}
use Rattle.sap_net.specs.declared.parts.Right.{Right}
use Rattle.sap_net.specs.declared.parts.Wire.{Wire}
use Rattle.sap_net.specs.declared.parts.Memory.{Memory}
use Rattle.sap_net.specs.declared.parts.Right.TheVariants as right
use Rattle.sap_bits.specs.Arithmetic.{joined}
use Rattle.sap_net.proofs.Same.{AreFound}
use Rattle.sap_net.proofs.Within.{operand_below, operand_is_wide}
use Rattle.sap_cycle.specs.declared.steps.Part.{Part}
use Rattle.sap_cycle.specs.declared.steps.Slot.{Slot}
use Rattle.sap_cycle.specs.declared.steps.Slot.TheVariants.{At, Number}
use Rattle.sap_cycle.specs.declared.steps.Step.{Step}
use Rattle.sap_cycle.specs.declared.steps.Step.TheVariants.{Copy, One, Two, Choose, Concat, Pair, Slice, Cell}
use Rattle.sap_cycle.specs.Steps.{joined_from, slot_value, SlotIn, ArePartsReady, step_value, IsReady}
use Rattle.sap_cycle.specs.Means.{PartsMean, SlotMeans, RangeMeans, PairMeans, BeginsAt, StepMeans, StepsMean, Matches}
use Rattle.sap_cycle.specs.Order.{SlotAmong, PartsAmong, ReadsAmong}
use Rattle.sap_cycle.specs.Running.{cells_of}
use Rattle.sap_cycle.proofs.Slots.{slot_is, slot_in, joined_is, parts_ready}
use Rattle.sap_cycle.proofs.Cells.{cells_long, cell_at, count_more}
use Rattle.sap_cycle.proofs.Ordered.{HasNumber}

-- the parts of a concatenation are those of its range
range_is : (widths : Name → ℕ) (names : List Name) (parts : List Part) (from to : ℕ) (os : List Operand)
    → (r : RangeMeans widths names parts from to os) → slice_range parts from to ≡ r.range
range_is widths names parts from to os r =
    let d : drop from parts ≡ r.range ++ r.behind = ap (drop from) r.whole ∙ drop_at r.before (r.range ++ r.behind) from (sym r.from_is) in
    let n : length r.range ≡ to - from = omega (arith, r.to_is) in
    ap (take (to - from)) d ∙ take_at r.range r.behind (to - from) n

front_zero : (x y : ℕ) → 0 * x + y ≡ y
front_zero x y = omega arith

-- two slots as parts
abbrev pair_parts : (widths : Name → ℕ) (w : ℕ) (s t : Slot) (a : Operand) → List Part
pair_parts widths w s t a = record { slot = s; width = operand_width widths a } ∷ (record { slot = t; width = w } ∷ [])

pair_mean : (widths : Name → ℕ) (names : List Name) (w : ℕ) (s t : Slot) (a b : Operand) → PairMeans widths names w s t (a ∷ (b ∷ []))
    → PartsMean widths names (pair_parts widths w s t a) (a ∷ (b ∷ []))
pair_mean widths names w s t a b h = (h.0, refl, (h.1, h.2, tt))

pair_is : (widths : Name → ℕ) (v : Valuation) (names : List Name) (values : List ℕ) → Matches v names values
    → (w : ℕ) (s t : Slot) (a b : Operand) → PairMeans widths names w s t (a ∷ (b ∷ []))
    → joined (slot_value values s) w (slot_value values t) ≡ operands_value widths v (a ∷ (b ∷ []))
pair_is widths v names values m w s t a b h =
    ap (λ x. joined x w (slot_value values t)) (sym (front_zero (2 ^ operand_width widths a) (slot_value values s)))
    ∙ joined_is widths v names values m (pair_parts widths w s t a) (a ∷ (b ∷ [])) (pair_mean widths names w s t a b h) 0
    ∙ front_zero (2 ^ operands_width widths (a ∷ (b ∷ []))) (operands_value widths v (a ∷ (b ∷ [])))

pair_ready : (widths : Name → ℕ) (sc : Scope) (v : Valuation) (names : List Name) (values : List ℕ) → ValuesBelow sc v → WidthsAre sc widths
    → Matches v names values → length names ≤ length values
    → (u : ℕ) → u ≤ 64 → (w : ℕ) (s t : Slot) (a b : Operand) → PairMeans widths names w s t (a ∷ (b ∷ [])) → AreOperands sc u (a ∷ (b ∷ []))
    → SlotIn values s × SlotIn values t × (1 ≤ w) × (w ≤ 64) × (slot_value values s < 2 ^ (64 - w)) × (slot_value values t < 2 ^ w)
pair_ready widths sc v names values below wide m le u narrow w s t a b h rules =
    let p : ArePartsReady values 0 (pair_parts widths w s t a) =
    parts_ready widths sc v names values below wide m le (pair_parts widths w s t a) (a ∷ (b ∷ [])) (pair_mean widths names w s t a b h) u 0
    0 rules (omega arith) (omega (arith, narrow)) in
    (p.0, p.5.0, p.5.1, p.5.2, subst (λ x. x < 2 ^ (64 - w)) (front_zero (2 ^ operand_width widths a) (slot_value values s)) p.5.3, p.5.4)

-- the cells that memories have
pub record Holding (ms : List Memory) (shapes : Shapes) (v : Valuation) (cells : List ℕ) : Type 0 where
  pub are : cells ≡ cells_of v.cell ms
  pub found : AreFound shapes ms

found_at : (shapes : Shapes) (before : List Memory) (m : Memory) (behind : List Memory) → AreFound shapes (before ++ m ∷ behind) → find shapes m.name ≡ Some (m.width, m.depth)
found_at shapes [] m behind h = h.0
found_at shapes (b ∷ before) m behind h = found_at shapes before m behind h.1

-- the depth of a memory where its cells begin
depth_is : (ms : List Memory) (shapes : Shapes) (x : Name) (base w d : ℕ) → AreFound shapes ms → (at : BeginsAt ms x base) → find shapes x ≡ Some (w, d) → at.memory.depth ≡ d
depth_is ms shapes x base w d found at h =
    let f = found_at shapes at.before at.memory at.behind (subst (AreFound shapes) at.whole found) in
    let g : find shapes x ≡ Some (at.memory.width, at.memory.depth) = subst (λ (y : Name). find shapes y ≡ Some (at.memory.width, at.memory.depth)) at.named f in
    (some_pair_parts at.memory.width w at.memory.depth d (sym g ∙ h)).1

cell_is : (ms : List Memory) (shapes : Shapes) (v : Valuation) (cells : List ℕ) → Holding ms shapes v cells → (x : Name) (base w d i : ℕ)
    → BeginsAt ms x base → find shapes x ≡ Some (w, d) → i < d
    → (slice_index cells (base + i) ≡ v.cell x i) × (base + i < length cells)
cell_is ms shapes v cells holding x base w d i at h lt =
    let deep = depth_is ms shapes x base w d holding.found at h in
    let e : cells ≡ cells_of v.cell (at.before ++ at.memory ∷ at.behind) = holding.are ∙ ap (cells_of v.cell) at.whole in
    let i_in : i < at.memory.depth = omega (arith, deep) in (
      ap (λ l. slice_index l (base + i)) e ∙ ap (λ k. slice_index (cells_of v.cell (at.before ++ at.memory ∷ at.behind)) (k + i)) at.base_is
          ∙ cell_at v.cell at.before at.memory at.behind i i_in ∙ ap (λ y. v.cell y i) at.named,
      omega (arith, ap length e, cells_long v.cell (at.before ++ at.memory ∷ at.behind), count_more at.before at.memory at.behind, at.base_is),
    )

step_is : (widths : Name → ℕ) (ms : List Memory) (shapes : Shapes) (sc : Scope) (parts : List Part) (v : Valuation) (names : List Name)
    (values cells : List ℕ) → ValuesBelow sc v → Matches v names values → Holding ms shapes v cells
    → (u : ℕ) (s : Step) (r : Right) → StepMeans widths ms parts names s r → IsRight shapes sc u r → step_value values cells parts s ≡ right_value widths v r
step_is widths ms shapes sc parts v names values cells b m c u (Copy s) (right.Copy a) h rules = slot_is v names values m s a h
step_is widths ms shapes sc parts v names values cells b m c u (One op w s) (right.One o a) h rules =
    let e = slot_is v names values m s a h.2 in
    let f = h.0 in
    let g = h.1 in
    cc
step_is widths ms shapes sc parts v names values cells b m c u (Two op w s t) (right.Two o a d) h rules =
    let e = slot_is v names values m s a h.2 in
    let f = slot_is v names values m t d h.3 in
    let g = h.0 in
    let i = h.1 in
    cc
step_is widths ms shapes sc parts v names values cells b m c u (Choose q s t) (right.Choose o a d) h rules =
    let e = slot_is v names values m q o h.0 in
    let f = slot_is v names values m s a h.1 in
    let g = slot_is v names values m t d h.2 in
    cc
step_is widths ms shapes sc parts v names values cells b m c u (Concat from to) (right.Concat os) h rules =
    ap (joined_from values 0) (range_is widths names parts from to os h)
    ∙ joined_is widths v names values m h.range os h.mean 0
    ∙ front_zero (2 ^ operands_width widths os) (operands_value widths v os)
step_is widths ms shapes sc parts v names values cells b m c u (Pair w s t) (right.Concat (a ∷ (d ∷ []))) h rules =
    pair_is widths v names values m w s t a d h
step_is widths ms shapes sc parts v names values cells b m c u (Slice s hi lo) (right.Slice x i j) h rules =
    let e = slot_is v names values m s (Named x) h.0 in
    let f = h.1 in
    let g = h.2 in
    cc
step_is widths ms shapes sc parts v names values cells b m c u (Cell base s) (right.Cell x i) h rules =
    let e = slot_is v names values m s i h.1 in
    ap (λ k. slice_index cells (base + k)) e
    ∙ (cell_is ms shapes v cells c x base u (2 ^ rules.0) (operand_value v i) h.0 rules.1 (operand_below sc v b rules.0 i rules.2)).0
step_is widths ms shapes sc parts v names values cells b m c u _ _ h rules = absurd h

ready : (widths : Name → ℕ) (ms : List Memory) (shapes : Shapes) (sc : Scope) (parts : List Part) (v : Valuation) (names : List Name)
    (values cells : List ℕ) → ValuesBelow sc v → WidthsAre sc widths → Matches v names values
    → length names ≤ length values → Holding ms shapes v cells → (u : ℕ) → IsWidth u → (s : Step) (r : Right)
    → StepMeans widths ms parts names s r → IsRight shapes sc u r → IsReady values cells parts s
ready widths ms shapes sc parts v names values cells b w m le c u wide (Copy s) (right.Copy a) h rules = slot_in names values le s a h
ready widths ms shapes sc parts v names values cells b w m le c u wide (One op k s) (right.One o a) h rules =
    let e : k ≡ rules.0 = h.1 ∙ operand_is_wide sc widths w rules.0 a rules.2 in
    let l = operand_below sc v b rules.0 a rules.2 in
    (omega (arith, e, rules.1.0), omega (arith, e, rules.1.1), slot_in names values le s a h.2, rw (e, slot_is v names values m s a h.2) l)
ready widths ms shapes sc parts v names values cells b w m le c u wide (Two op k s t) (right.Two o a d) h rules =
    let e : k ≡ rules.0 = h.1 ∙ operand_is_wide sc widths w rules.0 a rules.4 in
    let l = operand_below sc v b rules.0 a rules.4 in
    let second = right_fits o rules.0 rules.1 _ rules.6 (operand_below sc v b rules.1 d rules.5) in (
      omega (arith, e, rules.2.0),
      omega (arith, e, rules.2.1),
      slot_in names values le s a h.2,
      slot_in names values le t d h.3,
      rw (e, slot_is v names values m s a h.2) l,
      rw (h.0, e, slot_is v names values m t d h.3) second,
    )
ready widths ms shapes sc parts v names values cells b w m le c u wide (Choose q s t) (right.Choose o a d) h rules =
    (slot_in names values le q o h.0, slot_in names values le s a h.1, slot_in names values le t d h.2)
ready widths ms shapes sc parts v names values cells b w m le c u wide (Concat from to) (right.Concat os) h rules =
    let l : length parts ≡ length h.before + (length h.range + length h.behind) =
    ap length h.whole ∙ omega (arith, length-append h.before (h.range ++ h.behind), length-append h.range h.behind) in (
      omega (arith, h.to_is),
      omega (arith, h.from_is, h.to_is, l),
      rw (range_is widths names parts from to os h) (parts_ready widths sc v names values b w m le h.range os h.mean u 0 0 rules.1 (omega arith) (omega (arith, wide.1))),
    )
ready widths ms shapes sc parts v names values cells b w m le c u wide (Pair k s t) (right.Concat (a ∷ (d ∷ []))) h rules =
    pair_ready widths sc v names values b w m le u wide.1 k s t a d h rules.1
ready widths ms shapes sc parts v names values cells b w m le c u wide (Slice s hi lo) (right.Slice x i j) h rules =
    (slot_in names values le s (Named x) h.0, omega (arith, h.1, rules.1.1, rules.4), omega (arith, h.1, h.2, rules.3))
ready widths ms shapes sc parts v names values cells b w m le c u wide (Cell base s) (right.Cell x i) h rules =
    let e = slot_is v names values m s i h.1 in (
      slot_in names values le s i h.1,
      rw e (cell_is ms shapes v cells c x base u (2 ^ rules.0) (operand_value v i) h.0 rules.1 (operand_below sc v b rules.0 i rules.2)).1,
    )
ready widths ms shapes sc parts v names values cells b w m le c u wide _ _ h rules = absurd h

-- the places of the first names among all
prefix_matches : (v : Valuation) (names more : List Name) (values : List ℕ) → values ≡ map v.value (names ++ more) → Matches v names values
prefix_matches v names more values e =
    ap (take (length names)) (e ∙ map-append v.value names more)
    ∙ take_at (map v.value names) (map v.value more) (length names) (length-map names v.value)

seam_number : (v : Valuation) (names more : List Name) (x : Name) (values : List ℕ) → values ≡ map v.value (names ++ x ∷ more) → slice_index values (length names + 0) ≡ v.value x
seam_number v names more x values e =
    let l : length names + 0 ≡ length (map v.value names) = omega (arith, length-map names v.value) in
    ap (λ (k : ℕ). slice_index values k) l
    ∙ ap (λ (xs : List ℕ). slice_index xs (length (map v.value names))) (e ∙ map-append v.value names (x ∷ more))
    ∙ get_or-append_seam (map v.value names) (v.value x) (map v.value more) 0

-- Over the numbers of all names each wire's step gives the wire's number.
pub step_numbers : (widths : Name → ℕ) (ms : List Memory) (shapes : Shapes) (parts : List Part) (v : Valuation) (cells : List ℕ) → Holding ms shapes v cells
    → (ss : List Step) (ws : List Wire) (sc : Scope) (names : List Name) (values : List ℕ) → StepsMean widths ms parts names ss ws → AreWires shapes sc ws
    → ValuesBelow (readable_after sc ws) v → WidthsAre (readable_after sc ws) widths → Holds widths v ws → values ≡ map v.value (names ++ map (λ w. w.name) ws)
    → (k : ℕ) (s : Step) → slice_get ss k ≡ Some s → HasNumber values cells parts (length names + k, s)
step_numbers widths ms shapes parts v cells c [] ws sc names values mean rules b w holds e k s h = absurd (cc)
step_numbers widths ms shapes parts v cells c (t ∷ ss) [] sc names values mean rules b w holds e k s h = absurd mean
step_numbers widths ms shapes parts v cells c (t ∷ ss) (y ∷ ws) sc names values mean rules b w holds e zero s h =
    let b' : ValuesBelow sc v = λ n u g. b n u (readable_kept shapes (y ∷ ws) sc rules n u g) in
    let w' : WidthsAre sc widths = λ n u g. w n u (readable_kept shapes (y ∷ ws) sc rules n u g) in
    let more = map (λ (x : Wire). x.name) ws in
    let m : Matches v names values = prefix_matches v names (y.name ∷ more) values e in
    let long : length values ≡ length names + length (y.name ∷ more) = ap length e ∙ length-map (names ++ y.name ∷ more) v.value ∙ length-append names (y.name ∷ more) in
    let q : t ≡ s = cc in
    subst (λ (x : Step). HasNumber values cells parts (length names + 0, x)) q
    (record {
      within = omega (arith, long);
      ready = ready widths ms shapes sc parts v names values cells b' w' m (omega (arith, long)) c y.width rules.0 t y.right mean.0 rules.3;
      number =
          step_is widths ms shapes sc parts v names values cells b' m c y.width t y.right mean.0 rules.3
          ∙ sym holds.0
          ∙ sym (seam_number v names more y.name values e);
    })
step_numbers widths ms shapes parts v cells c (t ∷ ss) (y ∷ ws) sc names values mean rules b w holds e (suc k) s h =
    let l : length (names ++ y.name ∷ []) + k ≡ length names + suc k = omega (arith, length-append names (y.name ∷ [])) in
    let e' : values ≡ map v.value ((names ++ y.name ∷ []) ++ map (λ (x : Wire). x.name) ws) =
    e ∙ ap (map v.value) (sym (append_assoc names (y.name ∷ []) (map (λ (x : Wire). x.name) ws))) in
    subst (λ (i : ℕ). HasNumber values cells parts (i, s)) l
    (step_numbers widths ms shapes parts v cells c ss ws ((y.name, y.width) ∷ sc) (names ++ y.name ∷ []) values mean.1 rules.4 b w holds.1 e' k s h)

-- the places that the operands of a wire have are those of names before it
slot_below : (names : List Name) (s : Slot) (o : Operand) → SlotMeans names s o → SlotAmong (λ k. k < length names) s
slot_below names (At k) (Named x) h = slice_get_within names k x h
slot_below names (Number n) o h = tt
slot_below names _ _ h = absurd h

parts_below : (widths : Name → ℕ) (names : List Name) (ps : List Part) (os : List Operand) → PartsMean widths names ps os → PartsAmong (λ k. k < length names) ps
parts_below widths names [] os h = tt
parts_below widths names (p ∷ ps) [] h = absurd h
parts_below widths names (p ∷ ps) (o ∷ os) h = (slot_below names p.slot o h.0, parts_below widths names ps os h.2)

pub reads_below : (widths : Name → ℕ) (ms : List Memory) (parts : List Part) (names : List Name) (s : Step) (r : Right)
    → StepMeans widths ms parts names s r → ReadsAmong (λ k. k < length names) parts s
reads_below widths ms parts names (Copy s) (right.Copy a) h = slot_below names s a h
reads_below widths ms parts names (One op w s) (right.One o a) h = slot_below names s a h.2
reads_below widths ms parts names (Two op w s t) (right.Two o a b) h = (slot_below names s a h.2, slot_below names t b h.3)
reads_below widths ms parts names (Choose q s t) (right.Choose c a b) h = (slot_below names q c h.0, slot_below names s a h.1, slot_below names t b h.2)
reads_below widths ms parts names (Concat from to) (right.Concat os) h =
    subst (PartsAmong (λ k. k < length names)) (sym (range_is widths names parts from to os h)) (parts_below widths names h.range os h.mean)
reads_below widths ms parts names (Pair w s t) (right.Concat (a ∷ (b ∷ []))) h = (slot_below names s a h.0, slot_below names t b h.1)
reads_below widths ms parts names (Slice s hi lo) (right.Slice x i j) h = slot_below names s (Named x) h.0
reads_below widths ms parts names (Cell base s) (right.Cell x i) h = slot_below names s i h.1
reads_below widths ms parts names _ _ h = absurd h
