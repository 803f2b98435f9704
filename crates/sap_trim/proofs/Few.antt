-- How many wires a pass leaves that folds each right side by itself.
use Rattle.sap_lemmas.proofs.Common.{◌≡◌, ℕ, ◌+◌, ◌≤◌, List, [], ◌∷◌, ◌++◌, map, length, Bool, false, ap, refl, inl, inr, arith, length-append, AllByRecursion, cases_Bool, length-map}
use Rattle.sap_maps.specs.Maps.{Name}
use Rattle.sap_net.specs.Prelude.{is_among, Net}
use Rattle.sap_net.specs.declared.parts.Operand.{Operand}
use Rattle.sap_net.specs.declared.parts.Right.{Right}
use Rattle.sap_net.specs.declared.parts.Right.TheVariants.{Copy, One, Two, Choose, Concat, Slice, Cell}
use Rattle.sap_net.specs.declared.parts.Wire.{Wire}
use Rattle.sap_trim.specs.Built.{built, wire_of}
use Rattle.sap_trim.specs.Few.{calculated, NeedsNoMore, most_left}
use Rattle.sap_trim.specs.Names.{port_names, shown_wires}
use Rattle.sap_trim.specs.Needed.{is_needed, needed, needed_wires}
use Rattle.sap_trim.specs.Reads.{edge_reads}
use Rattle.sap_trim.specs.Replaced.{Stands, replaced, standing}
use Rattle.sap_trim.specs.Walked.{State, Begins, Settles, Walked}
use Rattle.sap_fold.specs.Folding.{settled}
use Rattle.sap_fold.specs.Slices.{sliced}
use Rattle.sap_fold.specs.Wires.{Adds, Provides}
use Rattle.sap_trim.proofs.Numbered.{shown_are}

-- the wires that a right side needs: none if it is a copy

abbrev cost : Right → ℕ
cost (Copy a) = 0
cost (One op a) = 1
cost (Two op a b) = 1
cost (Choose c a b) = 1
cost (Concat os) = 1
cost (Slice x hi lo) = 1
cost (Cell m i) = 1

abbrev costs : List Wire → ℕ
costs [] = 0
costs (w ∷ ws) = cost w.right + costs ws

cost_most : (r : Right) → cost r ≤ 1
cost_most (Copy a) = omega arith
cost_most _ = omega arith

cost_calculated : (w : Wire) (r : Right) (ws : List Wire) → w.right ≡ r → length (calculated (w ∷ ws)) ≡ cost r + length (calculated ws)
cost_calculated w (Copy a) ws e = rw e (omega arith)
cost_calculated w (One op a) ws e = rw e (omega arith)
cost_calculated w (Two op a b) ws e = rw e (omega arith)
cost_calculated w (Choose c a b) ws e = rw e (omega arith)
cost_calculated w (Concat os) ws e = rw e (omega arith)
cost_calculated w (Slice x hi lo) ws e = rw e (omega arith)
cost_calculated w (Cell m i) ws e = rw e (omega arith)

costs_are : (ws : List Wire) → length (calculated ws) ≡ costs ws
costs_are [] = refl
costs_are (w ∷ ws) = let e = cost_calculated w w.right ws refl in let r = costs_are ws in omega (arith, e, r)

cost_replaced : (e : Stands) (r : Right) → cost (replaced e r) ≤ cost r
cost_replaced e (Slice x hi lo) = cost_most (sliced (standing e x) hi lo)
cost_replaced e _ = omega arith

cost_settled : (w : ℕ) (r : Right) → cost (settled w r) ≤ cost r
cost_settled w (One op a) = cost_most (settled w (One op a))
cost_settled w (Two op a b) = cost_most (settled w (Two op a b))
cost_settled w (Choose c a b) = cost_most (settled w (Choose c a b))
cost_settled w _ = omega arith

adds_one : (taken : Name → Bool) (ws : List Wire) (next u : ℕ) (r : Right) (n : Name) (after : List Wire) (next_after : ℕ)
    → Adds taken ws next u r n after next_after → length after ≤ length ws + 1
adds_one taken ws next u r n after next_after (inl t) = let e = ap length t.wires in omega (arith, e)
adds_one taken ws next u r n after next_after (inr a) =
    let e = ap length a.wires in
    let l = length-append ws (record { name = n; width = u; right = r } ∷ []) in
    omega (arith, e, l)

provides_few : (taken : Name → Bool) (ws : List Wire) (next u : ℕ) (r : Right) (o : Operand) (after : List Wire) (next_after : ℕ)
    → Provides taken ws next u r o after next_after → length after ≤ length ws + cost r
provides_few taken ws next u (Copy a) o after k p = let e = ap length p.1 in omega (arith, e)
provides_few taken ws next u (One op a) o after k p = adds_one taken ws next u (One op a) p.0 after k p.2
provides_few taken ws next u (Two op a b) o after k p = adds_one taken ws next u (Two op a b) p.0 after k p.2
provides_few taken ws next u (Choose c a b) o after k p = adds_one taken ws next u (Choose c a b) p.0 after k p.2
provides_few taken ws next u (Concat os) o after k p = adds_one taken ws next u (Concat os) p.0 after k p.2
provides_few taken ws next u (Slice x hi lo) o after k p = adds_one taken ws next u (Slice x hi lo) p.0 after k p.2
provides_few taken ws next u (Cell m i) o after k p = adds_one taken ws next u (Cell m i) p.0 after k p.2

-- all steps

settles_few : (taken : Name → Bool) (ws : List Wire) (s t : State) → Walked (Settles taken) s ws t → length t.wires ≤ length s.wires + costs ws
settles_few taken [] s t k = let e = ap (λ (z : State). length z.wires) k in omega (arith, e)
settles_few taken (w ∷ ws) s t k =
    let q = replaced s.stands w.right in
    let p = provides_few taken s.wires s.next w.width (settled w.width q) k.1.operand k.0.wires k.0.next k.1.provides in
    let f = cost_settled w.width q in
    let c = cost_replaced s.stands w.right in
    let r = settles_few taken ws k.0 t k.2 in
    omega (arith, p, f, c, r)

costs_needed : (P E : List Name) (ws : List Wire) → costs (needed P E ws) ≤ costs ws
costs_needed P E [] = omega arith
costs_needed P E (w ∷ ws) =
    let r = costs_needed P E ws in
    elim (cases_Bool (is_needed P E w (needed P E ws))) [ inl t ↦ rw t (omega (arith, r)) | inr g ↦ rw g (omega (arith, r)) ]

built_count : (n : Net) (ws : List Wire) (e : Stands) → length (built n ws e).wires ≡ length ws + length (shown_wires n)
built_count n ws e =
    let l = length-append ws (map (wire_of e) (shown_wires n)) in
    let m = length-map (shown_wires n) (wire_of e) in
    omega (arith, l, m)

begun : (n : Net) (s : State) → Begins n s → length s.wires ≡ 0
begun n s b = let e = ap length b.wires in omega (arith, e)

pub built_left : (n : Net) (taken : Name → Bool) (s t : State) → Begins n s → Walked (Settles taken) s (needed_wires n) t → length (built n t.wires t.stands).wires ≤ most_left n
built_left n taken s t b k =
    let few = settles_few taken (needed_wires n) s t k in
    let none = begun n s b in
    let same = costs_are (needed_wires n) in
    let count = built_count n t.wires t.stands in
    omega (arith, few, none, same, count)

pub left_most : (n : Net) → most_left n ≤ length (calculated n.wires) + length (shown_wires n)
left_most n =
    let some = costs_needed (port_names n) (edge_reads n) n.wires in
    let before = costs_are n.wires in
    let after = costs_are (needed_wires n) in
    omega (arith, some, before, after)

-- the new netlist needs no more

costs_both : (ws xs : List Wire) → costs (ws ++ xs) ≡ costs ws + costs xs
costs_both [] xs = omega arith
costs_both (w ∷ ws) xs = let r = costs_both ws xs in omega (arith, r)

costs_copies : (e : Stands) (ws : List Wire) → costs (map (wire_of e) ws) ≡ 0
costs_copies e [] = refl
costs_copies e (w ∷ ws) = let r = costs_copies e ws in omega (arith, r)

costs_most : (ws : List Wire) → costs ws ≤ length ws
costs_most [] = omega arith
costs_most (w ∷ ws) = let c = cost_most w.right in let r = costs_most ws in omega (arith, c, r)

pub built_few : (n : Net) (taken : Name → Bool) (s t : State) → Begins n s → Walked (Settles taken) s n.wires t
    → AllByRecursion (λ w. is_among w.name (port_names n) ≡ false) t.wires → NeedsNoMore n (built n t.wires t.stands)
built_few n taken s t b k a =
    let outs = map (wire_of t.stands) (shown_wires n) in
    let few = settles_few taken n.wires s t k in
    let none = begun n s b in
    let before = costs_are n.wires in
    let after = costs_are (t.wires ++ outs) in
    let both = costs_both t.wires outs in
    let copies = costs_copies t.stands (shown_wires n) in
    let most = costs_most t.wires in
    let shown = ap length (shown_are n t.wires t.stands a) in
    let same = length-map (shown_wires n) (wire_of t.stands) in
    omega (arith, few, none, before, after, both, copies, most, shown, same)
