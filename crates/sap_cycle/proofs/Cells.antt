-- The cells of memories in one array.
use Rattle.sap_lemmas.proofs.Common.{◌≡◌, ℕ, ◌+◌, ◌<◌, ◌≤◌, ◌==◌, List, [], ◌∷◌, ◌++◌, Bool, true, false, zero, suc, ◌-◌, ◌&&◌, map, length, get_or, set, sym, ap, ◌∙◌, subst, refl, arith, length-append, append_assoc, ⊎_elim, get_or-set_other, if◌then◌else◌, range_with_len, flat_map, AllByRecursion, length-set, cases_eq, eq-eqb, ne_eqb, get_or_append_left, get_or-append-add}
use Rattle.std.proofs.Common.{get_or-set_same}
use Rattle.std.proofs.lemmas.List.{set-append_left, set-append_right}
use Rattle.std.proofs.lemmas.List.FromFn.{length-map-range_with_len, get_or-map-range_with_len, fill_by_all}
use Rattle.sap_maps.specs.Maps.{Name, Valuation}
use Rattle.sap_net.specs.Prelude.{operand_value, written}
use Rattle.sap_net.specs.declared.parts.Memory.{Memory}
use Rattle.sap_cycle.specs.declared.steps.WritePort.{WritePort}
use Rattle.sap_cycle.specs.Steps.{slot_value, stored, stored_one, ArePortsReady}
use Rattle.sap_cycle.specs.Means.{cell_count, PortsMean, Matches}
use Rattle.sap_cycle.specs.Running.{cells_of}
use Rattle.sap_cycle.proofs.Slots.{slot_is, slot_in}

abbrev pub block : (f : ℕ → ℕ) → (depth : ℕ) → List ℕ
block f depth = map f (range_with_len 0 depth)

pub cells_long : (f : Name → ℕ → ℕ) (ms : List Memory) → length (cells_of f ms) ≡ cell_count ms
cells_long f [] = refl
cells_long f (m ∷ ms) =
    omega (arith, length-append (block (f m.name) m.depth) (cells_of f ms), length-map-range_with_len (f m.name) 0 m.depth, cells_long f ms)

-- a cell in its place
pub cell_at : (f : Name → ℕ → ℕ) (before : List Memory) (m : Memory) (behind : List Memory) (i : ℕ) → i < m.depth
    → get_or (cells_of f (before ++ m ∷ behind)) (cell_count before + i) 0 ≡ f m.name i
cell_at f [] m behind i lt =
    let l : i < length (block (f m.name) m.depth) = omega (arith, length-map-range_with_len (f m.name) 0 m.depth) in
    ap (λ k. get_or (block (f m.name) m.depth ++ cells_of f behind) k 0) (let e : 0 + i ≡ i = omega arith in e)
    ∙ get_or_append_left (block (f m.name) m.depth) (cells_of f behind) 0 i l
    ∙ get_or-map-range_with_len (f m.name) 0 m.depth i i 0 lt (omega arith)
cell_at f (b ∷ before) m behind i lt =
    let e : (b.depth + cell_count before) + i ≡ length (block (f b.name) b.depth) + (cell_count before + i) = omega (arith, length-map-range_with_len (f b.name) 0 b.depth) in
    ap (λ k. get_or (block (f b.name) b.depth ++ cells_of f (before ++ m ∷ behind)) k 0) e
    ∙ get_or-append-add (block (f b.name) b.depth) (cells_of f (before ++ m ∷ behind)) (cell_count before + i) 0
    ∙ cell_at f before m behind i lt

pub count_more : (before : List Memory) (m : Memory) (behind : List Memory) → cell_count before + m.depth ≤ cell_count (before ++ m ∷ behind)
count_more [] m behind = omega arith
count_more (b ∷ before) m behind = omega (arith, count_more before m behind)

-- the cells, by memories
abbrev pub cells_with : (g : Memory → ℕ → ℕ) → List Memory → List ℕ
cells_with g ms = flat_map (λ m. block (g m) m.depth) ms

same_blocks : (f g : ℕ → ℕ) (from depth : ℕ) → ((i : ℕ) → f i ≡ g i) → map f (range_with_len from depth) ≡ map g (range_with_len from depth)
same_blocks f g from zero h = refl
same_blocks f g from (suc n) h =
    let e = h from in
    let r = same_blocks f g (from + 1) n h in
    cc

-- equal cells make equal arrays
pub cells_equal : (f g : Memory → ℕ → ℕ) (ms : List Memory) → AllByRecursion (λ m. (i : ℕ) → f m i ≡ g m i) ms → cells_with f ms ≡ cells_with g ms
cells_equal f g [] h = refl
cells_equal f g (m ∷ ms) h =
    let e : block (f m) m.depth ≡ block (g m) m.depth = same_blocks (f m) (g m) 0 m.depth h.0 in
    let r = cells_equal f g ms h.1 in
    cc

-- a block with one cell written
abbrev put_at : (f : ℕ → ℕ) → (k x : ℕ) → ℕ → ℕ
put_at f k x i = if k == i then x else f i

block_set : (f : ℕ → ℕ) (depth k x : ℕ) → k < depth → set (block f depth) k x ≡ block (put_at f k x) depth
block_set f depth k x lt =
    let l : length (block f depth) ≡ depth = length-map-range_with_len f 0 depth in
    let lt' : k < length (block f depth) = omega arith in
    fill_by_all (put_at f k x) (set (block f depth) k x) depth 0 (length-set (block f depth) k x ∙ l)
    (λ i h.
    ⊎_elim
    (λ (e : k ≡ i).
    let t : (k == i) ≡ true = eq-eqb k i e in
    subst (λ (j : ℕ). get_or (set (block f depth) k x) j 0 ≡ x) e (get_or-set_same (block f depth) k x 0 lt')
    ∙ sym (ap (λ (b : Bool). if b then x else f i) t))
    (λ (d : k ≡ i → ⊥).
    let t : (k == i) ≡ false = ne_eqb k i d in
    get_or-set_other (block f depth) k i x 0 (λ e. d (sym e)) ∙ get_or-map-range_with_len f 0 depth i i 0 h (omega arith)
    ∙ sym (ap (λ (b : Bool). if b then x else f i) t))
    (cases_eq k i))

block_stored : (b : Bool) (f : ℕ → ℕ) (depth k x : ℕ) → k < depth
    → (if b then set (block f depth) k x else block f depth) ≡ block (λ i. if b && (k == i) then x else f i) depth
block_stored true f depth k x lt = block_set f depth k x lt
block_stored false f depth k x lt = refl

-- a write in the middle
set_middle : (b : Bool) (front block behind : List ℕ) (base k x : ℕ) → length front ≡ base → k < length block
    → (if b then set (front ++ (block ++ behind)) (base + k) x else front ++ (block ++ behind)) ≡ front ++ ((if b then set block k x else block) ++ behind)
set_middle true front block behind base k x e lt =
    let d : base + k - base ≡ k = omega arith in
    set-append_right front (block ++ behind) base (base + k) x e (omega arith)
    ∙ ap (λ (i : ℕ). front ++ set (block ++ behind) i x) d
    ∙ ap (λ l. front ++ l) (set-append_left block behind k x lt)
set_middle false front block behind base k x e lt = refl

-- the cells after all writes
pub all_stored : (v : Valuation) (names : List Name) (values : List ℕ) → Matches v names values → length names ≤ length values
    → (ps : List WritePort) (ms : List Memory) (base : ℕ) (front : List ℕ)
    → length front ≡ base → PortsMean names base ps ms → AllByRecursion (λ m. operand_value v m.index < m.depth) ms
    → (stored values ps (front ++ cells_of v.cell ms) ≡ front ++ cells_with (written v) ms) × ArePortsReady values ps (front ++ cells_of v.cell ms)
all_stored v names values m le [] [] base front e mean h = (refl, tt)
all_stored v names values m le [] (k ∷ ms) base front e mean h = absurd mean
all_stored v names values m le (p ∷ ps) [] base front e mean h = absurd mean
all_stored v names values m le (p ∷ ps) (k ∷ ms) base front e mean h =
    let old = block (v.cell k.name) k.depth in
    let new = block (written v k) k.depth in
    let behind = cells_of v.cell ms in
    let long : length old ≡ k.depth = length-map-range_with_len (v.cell k.name) 0 k.depth in
    let long' : length new ≡ k.depth = length-map-range_with_len (written v k) 0 k.depth in
    let pe : slot_value values p.enable ≡ operand_value v k.enable = slot_is v names values m p.enable k.enable mean.0.1 in
    let pi : slot_value values p.index ≡ operand_value v k.index = slot_is v names values m p.index k.index mean.0.2 in
    let pv : slot_value values p.value ≡ operand_value v k.value = slot_is v names values m p.value k.value mean.0.3 in
    let pb : p.base ≡ base = mean.0.0 in
    let lt : operand_value v k.index < length old = omega (arith, h.0, long) in
    let one : stored_one values p (front ++ (old ++ behind)) ≡ (front ++ new) ++ behind =
    rw (pe, pi, pv, pb) (set_middle (operand_value v k.enable == 1) front old behind base (operand_value v k.index) (operand_value v k.value) e lt)
    ∙ ap (λ l. front ++ (l ++ behind)) (block_stored (operand_value v k.enable == 1) (v.cell k.name) k.depth (operand_value v k.index) (operand_value v k.value) h.0)
    ∙ sym (append_assoc front new behind) in
    let next : length (front ++ new) ≡ base + k.depth = omega (arith, length-append front new, long', e) in
    let rest = all_stored v names values m le ps ms (base + k.depth) (front ++ new) next mean.1 h.1 in (
      ap (stored values ps) one ∙ rest.0 ∙ append_assoc front new (cells_with (written v) ms),
      (
        (
          slot_in names values le p.enable k.enable mean.0.1,
          slot_in names values le p.index k.index mean.0.2,
          slot_in names values le p.value k.value mean.0.3,
          omega (arith, pb, pi, lt, e, length-append front (old ++ behind), length-append old behind),
        ),
        subst (ArePortsReady values ps) (sym one) rest.1,
      ),
    )
