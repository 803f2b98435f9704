-- How many items the netlist of a program has.
use Rattle.sap_lemmas.proofs.Common.{◌≡◌, ◌⊎◌, ℕ, ◌+◌, ◌-◌, ◌%◌, ◌≤◌, ◌||◌, List, [], ◌∷◌, ◌++◌, map, filter, length, Option, Some, None, Bool, true, false, sym, ap, ◌∙◌, subst, refl, arith, inl, inr, length-append, length-map, if◌then◌else◌, bytes_eq, cases_Bool, bytes_eq_apart_back, bytes_eq_same, equal_of_bytes_eq}
use Rattle.std.specs.Set.{remove_key}
use Rattle.std.proofs.lemmas.Map.Made.{length-remove_key}
use Rattle.sap_bits.specs.Arithmetic.{width1, width2, slice_of}
use Rattle.sap_bits.specs.declared.Op2.{Op2}
use Rattle.sap_maps.specs.Prelude.{Name, find, Term, constant, read, cell, one, two, choose, join, part}
use Rattle.sap_net.specs.Prelude.{is_among, AreDistinct, Shapes}
use Rattle.sap_net.specs.declared.parts.Operand.{Operand}
use Rattle.sap_net.specs.declared.parts.Operand.TheVariants.{Named, Constant}
use Rattle.sap_net.specs.declared.parts.Right.{Right}
use Rattle.sap_net.specs.declared.parts.Right.TheVariants.{One, Two, Choose, Concat, Slice, Cell}
use Rattle.sap_net.specs.declared.parts.Wire.{Wire}
use Rattle.sap_ir.specs.Prelude.{Action, set, put, Command, Source, shapes, variable_names, memory_names, IsGuarded}
use Rattle.sap_ir.specs.declared.guarded.Var.{Var}
use Rattle.sap_ir.proofs.Declared.{distinct_front, distinct_behind}
use Rattle.sap_size.specs.Terms.{same_term, operations_in, operations, term_size}
use Rattle.sap_size.proofs.Terms.{term_is, term_self, term_laws, has, has_both, has_front, has_behind, all_operations, all_has}
use Rattle.sap_size.specs.Flat.{action_weight, commands_weight, source_weight}
use Rattle.sap_size.specs.Items.{items}
use Rattle.sap_lower.specs.declared.parts.Part.{Part}
use Rattle.sap_lower.specs.declared.parts.WritePort.{WritePort}
use Rattle.sap_share.specs.Keys.{key}
use Rattle.sap_share.specs.Names.{helper}
use Rattle.sap_share.specs.Rights.{rights}
use Rattle.sap_lower.specs.Facts.{is_zero}
use Rattle.sap_fold.specs.Folding as folding
use Rattle.sap_fold.specs.Folding.{same_operand}
use Rattle.sap_lower.specs.Lowering.{nothing, present, Low, shared, plus, copied, placed, calculated, leaves_nothing, low_two, sliced, is_outside, low_slice, cell_width, low_join, low}
use Rattle.sap_lower.specs.declared.lowering.Lowering.{Lowering}
use Rattle.sap_lower.specs.Writes.{reads_cell, spared, low_write}
use Rattle.sap_lower.specs.Commands.{chosen_unless, entries_plain, entries_under, port_of, taken_over, low_chosen, merged_port, low_put, low_action, low_command, low_commands}
use Rattle.sap_lower.specs.Lowered.{first_lowering, last_lowering, out_wire, listed, unlisted, unported, picked, register_of, memory_of, registers_declared, lowered}
use Rattle.sap_lower.proofs.Adding.{OfEach, low_added}
use Rattle.sap_lower.proofs.Declares.{picked_names, unlisted_names}
use Rattle.sap_lower.proofs.Listed.{listed_names}
use Rattle.sap_share.proofs.RightMaps.{last_here}

-- Wires are only added: what was found by its right side is found again.

abbrev Keeps : List Wire → List Wire → Type 0
Keeps ws more = (k : List ℕ) (n : Name) → find (rights ws) k ≡ Some n → find (rights more) k ≡ Some n

behind_kept : (ws : List Wire) (w : Wire) → Keeps ws (ws ++ w ∷ [])
behind_kept [] w k n h = absurd (cc)
behind_kept (x ∷ ws) w k n h =
    elim (cases_Bool (bytes_eq (key x.width x.right) k)) [
      | inl t ↦ let e : Some x.name ≡ Some n = rw t at h in rw t e
      | inr f ↦ rw f (behind_kept ws w k n (rw f at h))
    ]

shared_keeps : (o : Option Name) (ws : List Wire) (w : ℕ) (r : Right) → Keeps ws (shared o ws w r).wires
shared_keeps (Some m) ws w r k n h = h
shared_keeps None ws w r k n h = behind_kept ws (record { name = helper (length ws); width = w; right = r }) k n h

plus_keeps : (ws : List Wire) (w : ℕ) (r : Right) → Keeps ws (plus ws w r).wires
plus_keeps ws w r = shared_keeps (find (rights ws) (key w r)) ws w r

shared_adds : (o : Option Name) (ws : List Wire) (w : ℕ) (r : Right) → length (shared o ws w r).wires ≤ length ws + 1
shared_adds (Some n) ws w r = omega arith
shared_adds None ws w r = omega (arith, length-append {A = Wire})

plus_adds : (ws : List Wire) (w : ℕ) (r : Right) → length (plus ws w r).wires ≤ length ws + 1
plus_adds ws w r = shared_adds (find (rights ws) (key w r)) ws w r

-- Behind a wire no second one of its right side is added.
shared_again : (o : Option Name) (ws more : List Wire) (w : ℕ) (r : Right) → find (rights ws) (key w r) ≡ o → Keeps (shared o ws w r).wires more
    → plus more w r ≡ record { wires = more; part = (shared o ws w r).part }
shared_again (Some n) ws more w r e k = ap (λ (o : Option Name). shared o more w r) (k (key w r) n e)
shared_again None ws more w r e k =
    ap (λ (o : Option Name). shared o more w r)
    (k (key w r) (helper (length ws)) (last_here ws (record { name = helper (length ws); width = w; right = r }) e))

-- A step that makes a wire: it keeps what is there, adds one at most, and adds none and gives the same once it was made.
record Step (make : List Wire → Low) : Type 0 where
  keeps : (ws : List Wire) → Keeps ws (make ws).wires
  adds : (ws : List Wire) → length (make ws).wires ≤ length ws + 1
  again : (ws more : List Wire) → Keeps (make ws).wires more → make more ≡ record { wires = more; part = (make ws).part }

plus_step : (w : ℕ) (r : Right) → Step (λ ws. plus ws w r)
plus_step w r = record {
  keeps = λ ws. plus_keeps ws w r;
  adds = λ ws. plus_adds ws w r;
  again = λ ws more k. shared_again (find (rights ws) (key w r)) ws more w r refl k;
}

-- one that gives an operand without a wire
free_step : (p : Part) → Step (λ ws. record { wires = ws; part = p })
free_step p = record { keeps = λ ws k n h. h; adds = λ ws. omega arith; again = λ ws more k. refl }

-- either of two
either_step : (b : Bool) (first second : List Wire → Low) → Step first → Step second → Step (λ ws. if b then first ws else second ws)
either_step true first second p q = p
either_step false first second p q = q

placed_step : (o : Option Operand) (w : ℕ) (r : Right) → Step (λ ws. placed o ws w r)
placed_step (Some o) w r = free_step (record { operand = o; width = w })
placed_step None w r = plus_step w r

calculated_step : (w : ℕ) (r : Right) → Step (λ ws. calculated ws w r)
unfolding calculated
calculated_step w r = placed_step (copied (folding.settled w r)) w r

two_step : (op : Op2) (x y : Part) → Step (low_two op x y)
two_step op x y =
    let none : Part = record { operand = Constant x.width 0; width = x.width } in
    either_step (leaves_nothing op x.width y.operand) (λ ws. record { wires = ws; part = none })
    (λ ws. calculated ws (width2 op x.width) (Two op x.operand y.operand)) (free_step none) (calculated_step (width2 op x.width) (Two op x.operand y.operand))

sliced_step : (o : Operand) (hi lo : ℕ) → Step (sliced o hi lo)
sliced_step (Named x) hi lo = plus_step (hi + 1 - lo) (Slice x hi lo)
sliced_step (Constant w n) hi lo = free_step (record { operand = Constant (hi + 1 - lo) (slice_of n hi lo); width = hi + 1 - lo })

slice_step : (o : Operand) (hi lo : ℕ) → Step (low_slice o hi lo)
slice_step o hi lo =
    either_step (is_outside hi lo) (λ ws. record { wires = ws; part = nothing }) (sliced o hi lo) (free_step nothing) (sliced_step o hi lo)

join_step : (x y : Part) → Step (low_join x y)
join_step x y = plus_step ((x.width + y.width) % 4294967296) (Concat (x.operand ∷ y.operand ∷ []))

-- expressions

keeping : OfEach Keeps
keeping = record { none = λ ws k n h. h; both = λ ws xs ys f g k n h. g k n (f k n h); wire = plus_keeps }

low_keeps : (ms : Shapes) (es : List (Name × Part)) (t : Term Name) (ws : List Wire) → Keeps ws (low ms es t ws).wires
low_keeps ms es t ws = low_added Keeps keeping ms es t ws

-- Once an expression has its wires it adds none, and gives the same.
low_again : (ms : Shapes) (es : List (Name × Part)) (t : Term Name) (ws more : List Wire) → Keeps (low ms es t ws).wires more
    → low ms es t more ≡ record { wires = more; part = (low ms es t ws).part }
low_again ms es (cell m i) ws more k =
    let y = low ms es i ws in
    let s = plus_step (cell_width ms m) (Cell m y.part.operand) in
    let a = low_again ms es i ws more (λ j n h. k j n (s.keeps y.wires j n h)) in
    rw a (s.again y.wires more k)
low_again ms es (one op a) ws more k =
    let x = low ms es a ws in
    let s = calculated_step (width1 op x.part.width) (One op x.part.operand) in
    let e = low_again ms es a ws more (λ j n h. k j n (s.keeps x.wires j n h)) in
    rw e (s.again x.wires more k)
low_again ms es (two op a b) ws more k =
    let x = low ms es a ws in
    let y = low ms es b x.wires in
    let s = two_step op x.part y.part in
    let f = low_again ms es b x.wires more (λ j n h. k j n (s.keeps y.wires j n h)) in
    let e = low_again ms es a ws more (λ j n h. k j n (s.keeps y.wires j n (low_keeps ms es b x.wires j n h))) in
    rw (e, f) (s.again y.wires more k)
low_again ms es (choose c a b) ws more k =
    let z = low ms es c ws in
    let x = low ms es a z.wires in
    let y = low ms es b x.wires in
    let s = calculated_step x.part.width (Choose z.part.operand x.part.operand y.part.operand) in
    let f = low_again ms es b x.wires more (λ j n h. k j n (s.keeps y.wires j n h)) in
    let e = low_again ms es a z.wires more (λ j n h. k j n (s.keeps y.wires j n (low_keeps ms es b x.wires j n h))) in
    let d = low_again ms es c ws more (λ j n h. k j n (s.keeps y.wires j n (low_keeps ms es b x.wires j n (low_keeps ms es a z.wires j n h)))) in
    rw (d, e, f) (s.again y.wires more k)
low_again ms es (join a b) ws more k =
    let x = low ms es a ws in
    let y = low ms es b x.wires in
    let s = join_step x.part y.part in
    let f = low_again ms es b x.wires more (λ j n h. k j n (s.keeps y.wires j n h)) in
    let e = low_again ms es a ws more (λ j n h. k j n (s.keeps y.wires j n (low_keeps ms es b x.wires j n h))) in
    rw (e, f) (s.again y.wires more k)
low_again ms es (part a hi lo) ws more k =
    let x = low ms es a ws in
    let s = slice_step x.part.operand hi lo in
    let e = low_again ms es a ws more (λ j n h. k j n (s.keeps x.wires j n h)) in
    rw e (s.again x.wires more k)
low_again ms es _ ws more k = refl

-- Operations that have their wires, or stand on a list of those that may have none.

abbrev Settled : Shapes → List (Name × Part) → List Wire → Term Name → Type 0
Settled ms es ws q = (more : List Wire) → Keeps ws more → (low ms es q more).wires ≡ more

abbrev Listed : Shapes → List (Name × Part) → List Wire → List (Term Name) → Term Name → Type 0
Listed ms es ws open_ones q = Settled ms es ws q ⊎ (has open_ones q ≡ true)

-- As wires are added the list gets shorter by as many.
record Counted (ms : Shapes) (es : List (Name × Part)) (ws more : List Wire) (open_ones : List (Term Name)) : Type 0 where
  left : List (Term Name)
  count : length more + length left ≤ length ws + length open_ones
  all : (q : Term Name) → Listed ms es ws open_ones q → Listed ms es more left q

settled : (ms : Shapes) (es : List (Name × Part)) (t : Term Name) (ws : List Wire) → Settled ms es (low ms es t ws).wires t
settled ms es t ws more k = ap (λ (l : Low). l.wires) (low_again ms es t ws more k)

others_stay : (t q : Term Name) (xs : List (Term Name)) → same_term t q ≡ false → has xs q ≡ true → has (remove_key (same_term t) xs) q ≡ true
others_stay t q [] n h = absurd (cc)
others_stay t q (x ∷ xs) n h =
    elim (cases_Bool (same_term t x)) [
      | inl a ↦
          let e : same_term q x ≡ false = term_laws.symm q x ∙ subst (λ (y : Term Name). same_term y q ≡ false) (term_is t x a) n in
          let g : has xs q ≡ true = rw e at h in
          rw a g
      | inr b ↦
          elim (cases_Bool (same_term q x)) [
            | inl c ↦ rw (b, c) refl
            | inr c ↦ rw (b, c) (others_stay t q xs n (rw c at h))
          ]
    ]

-- one operation, when its operands have their wires
made : (ms : Shapes) (es : List (Name × Part)) (t : Term Name) (ws more : List Wire) (open_ones : List (Term Name)) → Keeps ws more → length more ≤ length ws + 1
    → (low ms es t ws).wires ≡ more → Settled ms es more t → Listed ms es ws open_ones t → Counted ms es ws more open_ones
made ms es t ws more open_ones k l e s (inl h) =
    let same : more ≡ ws = sym e ∙ h ws (λ j n g. g) in
    record {
      left = open_ones;
      count = let c = ap length same in omega (arith, c);
      all = λ q g. subst (λ (xs : List Wire). Listed ms es xs open_ones q) (sym same) g;
    }
made ms es t ws more open_ones k l e s (inr h) = record {
  left = remove_key (same_term t) open_ones;
  count = let c = length-remove_key (same_term t) open_ones h in omega (arith, l, c);
  all = λ q g.
      elim g [
        | inl a ↦ inl (λ xs j. a xs (λ i n f. j i n (k i n f)))
        | inr b ↦
            elim (cases_Bool (same_term t q)) [
              | inl c ↦ inl (subst (λ (y : Term Name). Settled ms es more y) (term_is t q c) s)
              | inr d ↦ inr (others_stay t q open_ones d b)
            ]
      ];
}

then_made : (ms : Shapes) (es : List (Name × Part)) (t : Term Name) (ws more last : List Wire) (open_ones : List (Term Name)) → (c : Counted ms es ws more open_ones)
    → Counted ms es more last c.left → Counted ms es ws last open_ones
then_made ms es t ws more last open_ones c d = record {
  left = d.left;
  count = let a = c.count in let b = d.count in omega (arith, a, b);
  all = λ q g. d.all q (c.all q g);
}

has_here : (t : Term Name) (xs : List (Term Name)) → has (t ∷ xs) t ≡ true
has_here t xs = rw (term_self t) refl

abbrev AllListed : Shapes → List (Name × Part) → List Wire → List (Term Name) → Term Name → Type 0
AllListed ms es ws open_ones t = (q : Term Name) → has (operations_in t) q ≡ true → Listed ms es ws open_ones q

counted : (ms : Shapes) (es : List (Name × Part)) (t : Term Name) (ws : List Wire) (open_ones : List (Term Name)) → AllListed ms es ws open_ones t
    → Counted ms es ws (low ms es t ws).wires open_ones
counted ms es (constant w n) ws open_ones h = record { left = open_ones; count = omega arith; all = λ q g. g }
counted ms es (read x) ws open_ones h = record { left = open_ones; count = omega arith; all = λ q g. g }
counted ms es (cell m i) ws open_ones h =
    let t = cell m i in
    let x = low ms es i ws in
    let s = plus_step (cell_width ms m) (Cell m x.part.operand) in
    let c = counted ms es i ws open_ones (λ q g. h q (has_behind (t ∷ []) (operations_in i) q g)) in
    let e = low_again ms es i ws x.wires (λ k n g. g) in
    let same : (low ms es t x.wires).wires ≡ (low ms es t ws).wires = rw e refl in
    then_made ms es t ws x.wires (low ms es t ws).wires open_ones c
    (made ms es t x.wires (low ms es t ws).wires c.left (s.keeps x.wires) (s.adds x.wires) same (settled ms es t ws) (c.all t (h t (has_here t (operations_in i)))))
counted ms es (one op a) ws open_ones h =
    let t = one op a in
    let x = low ms es a ws in
    let s = calculated_step (width1 op x.part.width) (One op x.part.operand) in
    let c = counted ms es a ws open_ones (λ q g. h q (has_behind (t ∷ []) (operations_in a) q g)) in
    let e = low_again ms es a ws x.wires (λ k n g. g) in
    let same : (low ms es t x.wires).wires ≡ (low ms es t ws).wires = rw e refl in
    then_made ms es t ws x.wires (low ms es t ws).wires open_ones c
    (made ms es t x.wires (low ms es t ws).wires c.left (s.keeps x.wires) (s.adds x.wires) same (settled ms es t ws) (c.all t (h t (has_here t (operations_in a)))))
counted ms es (two op a b) ws open_ones h =
    let t = two op a b in
    let xs = operations_in a in
    let ys = operations_in b in
    let x = low ms es a ws in
    let y = low ms es b x.wires in
    let s = two_step op x.part y.part in
    let c = counted ms es a ws open_ones (λ q g. h q (has_behind (t ∷ []) (xs ++ ys) q (has_front xs ys q g))) in
    let d = counted ms es b x.wires c.left (λ q g. c.all q (h q (has_behind (t ∷ []) (xs ++ ys) q (has_behind xs ys q g)))) in
    let e = low_again ms es a ws y.wires (low_keeps ms es b x.wires) in
    let f = low_again ms es b x.wires y.wires (λ k n g. g) in
    let same : (low ms es t y.wires).wires ≡ (low ms es t ws).wires = rw (e, f) refl in
    let both = then_made ms es t ws x.wires y.wires open_ones c d in
    then_made ms es t ws y.wires (low ms es t ws).wires open_ones both
    (made ms es t y.wires (low ms es t ws).wires both.left (s.keeps y.wires) (s.adds y.wires) same (settled ms es t ws) (both.all t (h t (has_here t (xs ++ ys)))))
counted ms es (choose z a b) ws open_ones h =
    let t = choose z a b in
    let zs = operations_in z in
    let xs = operations_in a in
    let ys = operations_in b in
    let u = low ms es z ws in
    let x = low ms es a u.wires in
    let y = low ms es b x.wires in
    let s = calculated_step x.part.width (Choose u.part.operand x.part.operand y.part.operand) in
    let o = counted ms es z ws open_ones (λ q g. h q (has_behind (t ∷ []) (zs ++ (xs ++ ys)) q (has_front zs (xs ++ ys) q g))) in
    let c = counted ms es a u.wires o.left (λ q g. o.all q (h q (has_behind (t ∷ []) (zs ++ (xs ++ ys)) q (has_behind zs (xs ++ ys) q (has_front xs ys q g))))) in
    let oc = then_made ms es t ws u.wires x.wires open_ones o c in
    let d = counted ms es b x.wires oc.left (λ q g. oc.all q (h q (has_behind (t ∷ []) (zs ++ (xs ++ ys)) q (has_behind zs (xs ++ ys) q (has_behind xs ys q g))))) in
    let r = low_again ms es z ws y.wires (λ k n g. low_keeps ms es b x.wires k n (low_keeps ms es a u.wires k n g)) in
    let e = low_again ms es a u.wires y.wires (low_keeps ms es b x.wires) in
    let f = low_again ms es b x.wires y.wires (λ k n g. g) in
    let same : (low ms es t y.wires).wires ≡ (low ms es t ws).wires = rw (r, e, f) refl in
    let both = then_made ms es t ws x.wires y.wires open_ones oc d in
    then_made ms es t ws y.wires (low ms es t ws).wires open_ones both
    (made ms es t y.wires (low ms es t ws).wires both.left (s.keeps y.wires) (s.adds y.wires) same (settled ms es t ws) (both.all t (h t (has_here t (zs ++ (xs ++ ys))))))
counted ms es (join a b) ws open_ones h =
    let t = join a b in
    let xs = operations_in a in
    let ys = operations_in b in
    let x = low ms es a ws in
    let y = low ms es b x.wires in
    let s = join_step x.part y.part in
    let c = counted ms es a ws open_ones (λ q g. h q (has_behind (t ∷ []) (xs ++ ys) q (has_front xs ys q g))) in
    let d = counted ms es b x.wires c.left (λ q g. c.all q (h q (has_behind (t ∷ []) (xs ++ ys) q (has_behind xs ys q g)))) in
    let e = low_again ms es a ws y.wires (low_keeps ms es b x.wires) in
    let f = low_again ms es b x.wires y.wires (λ k n g. g) in
    let same : (low ms es t y.wires).wires ≡ (low ms es t ws).wires = rw (e, f) refl in
    let both = then_made ms es t ws x.wires y.wires open_ones c d in
    then_made ms es t ws y.wires (low ms es t ws).wires open_ones both
    (made ms es t y.wires (low ms es t ws).wires both.left (s.keeps y.wires) (s.adds y.wires) same (settled ms es t ws) (both.all t (h t (has_here t (xs ++ ys)))))
counted ms es (part a hi lo) ws open_ones h =
    let t = part a hi lo in
    let x = low ms es a ws in
    let s = slice_step x.part.operand hi lo in
    let c = counted ms es a ws open_ones (λ q g. h q (has_behind (t ∷ []) (operations_in a) q g)) in
    let e = low_again ms es a ws x.wires (λ k n g. g) in
    let same : (low ms es t x.wires).wires ≡ (low ms es t ws).wires = rw e refl in
    then_made ms es t ws x.wires (low ms es t ws).wires open_ones c
    (made ms es t x.wires (low ms es t ws).wires c.left (s.keeps x.wires) (s.adds x.wires) same (settled ms es t ws) (c.all t (h t (has_here t (operations_in a)))))

-- an expression has a wire for each of its different operations at most
low_adds : (ms : Shapes) (es : List (Name × Part)) (t : Term Name) (ws : List Wire) → length (low ms es t ws).wires ≤ length ws + operations t
low_adds ms es t ws =
    let c = counted ms es t ws (all_operations t) (λ q h. inr (all_has t q h)) in
    let l = c.count in
    omega (arith, l)

-- assignments and writes

unless_adds : (kept : Bool) (es : List (Name × Part)) (x : Name) (c a : Operand) (ws : List Wire) → length (chosen_unless kept es x c a ws).wires ≤ length ws + 1
unless_adds true es x c a ws = omega arith
unless_adds false es x c a ws = plus_adds ws (present es x).width (Choose c a (present es x).operand)

chosen_adds : (ms : Shapes) (es : List (Name × Part)) (ws : List Wire) (c : Term Name) (x : Name) (a : Term Name)
    → length (low_chosen ms es ws c x a).wires ≤ length ws + (1 + operations c + operations a)
chosen_adds ms es ws c x a =
    let plain = entries_plain es in
    let z = low ms plain c ws in
    let seen = entries_under z es in
    let y = low ms seen a z.wires in
    let p = low_adds ms plain c ws in
    let q = low_adds ms seen a z.wires in
    let r = unless_adds (same_operand y.part.operand (present seen x).operand) es x z.part.operand y.part.operand y.wires in
    omega (arith, p, q, r)

-- an operation of a term is no larger than the term

size_here : (t q : Term Name) (xs : List (Term Name)) → (has xs q ≡ true → term_size q ≤ term_size t) → has (t ∷ xs) q ≡ true → term_size q ≤ term_size t
size_here t q xs f h =
    elim (cases_Bool (same_term q t)) [
      | inl s ↦ subst (λ (u : Term Name). term_size u ≤ term_size t) (sym (term_is q t s)) (omega arith)
      | inr n ↦ f (rw n at h)
    ]

size_either : (xs ys : List (Term Name)) (q : Term Name) (n : ℕ) → (has xs q ≡ true → term_size q ≤ n) → (has ys q ≡ true → term_size q ≤ n)
    → has (xs ++ ys) q ≡ true → term_size q ≤ n
size_either xs ys q n f g h =
    elim (cases_Bool (has xs q)) [
      | inl t ↦ f t
      | inr d ↦ g (let k : (has xs q || has ys q) ≡ true = sym (has_both xs ys q) ∙ h in rw d at k)
    ]

size_within : (t q : Term Name) → has (operations_in t) q ≡ true → term_size q ≤ term_size t
size_within (constant w n) q h = absurd (cc)
size_within (read x) q h = absurd (cc)
size_within (cell m i) q h = size_here (cell m i) q (operations_in i) (λ g. let k = size_within i q g in omega (arith, k)) h
size_within (one op a) q h = size_here (one op a) q (operations_in a) (λ g. let k = size_within a q g in omega (arith, k)) h
size_within (two op a b) q h =
    size_here (two op a b) q (operations_in a ++ operations_in b)
    (size_either (operations_in a) (operations_in b) q (term_size (two op a b))
    (λ g. let k = size_within a q g in omega (arith, k)) (λ g. let k = size_within b q g in omega (arith, k))) h
size_within (choose c a b) q h =
    size_here (choose c a b) q (operations_in c ++ (operations_in a ++ operations_in b))
    (size_either (operations_in c) (operations_in a ++ operations_in b) q (term_size (choose c a b))
    (λ g. let k = size_within c q g in omega (arith, k))
    (size_either (operations_in a) (operations_in b) q (term_size (choose c a b))
    (λ g. let k = size_within a q g in omega (arith, k)) (λ g. let k = size_within b q g in omega (arith, k)))) h
size_within (join a b) q h =
    size_here (join a b) q (operations_in a ++ operations_in b)
    (size_either (operations_in a) (operations_in b) q (term_size (join a b))
    (λ g. let k = size_within a q g in omega (arith, k)) (λ g. let k = size_within b q g in omega (arith, k))) h
size_within (part a hi lo) q h = size_here (part a hi lo) q (operations_in a) (λ g. let k = size_within a q g in omega (arith, k)) h

-- a choice is none of the operations below it
not_itself : (c a b q : Term Name) → has (operations_in c ++ (operations_in a ++ operations_in b)) q ≡ true → same_term (choose c a b) q ≡ false
not_itself c a b q h =
    elim (cases_Bool (same_term (choose c a b) q)) [
      | inl s ↦
          let n = term_size c + term_size a + term_size b in
          let k : term_size q ≤ n = size_either (operations_in c) (operations_in a ++ operations_in b) q n
          (λ g. let k = size_within c q g in omega (arith, k))
          (size_either (operations_in a) (operations_in b) q n (λ g. let k = size_within a q g in omega (arith, k))
          (λ g. let k = size_within b q g in omega (arith, k))) h in
          let e : term_size (choose c a b) ≡ term_size q = ap term_size (term_is (choose c a b) q s) in
          absurd (omega (arith, k, e))
      | inr f ↦ f
    ]

-- the test and the two numbers of a choice leave room for its own wire
below_adds : (ms : Shapes) (es : List (Name × Part)) (z a b : Term Name) (ws : List Wire)
    → length (low ms es b (low ms es a (low ms es z ws).wires).wires).wires + 1 ≤ length ws + operations (choose z a b)
below_adds ms es z a b ws =
    let t = choose z a b in
    let zs = operations_in z in
    let xs = operations_in a in
    let ys = operations_in b in
    let all = all_operations t in
    let u = low ms es z ws in
    let x = low ms es a u.wires in
    let open_ones = remove_key (same_term t) all in
    let listed : (q : Term Name) → has (zs ++ (xs ++ ys)) q ≡ true → Listed ms es ws open_ones q =
    λ q h. inr (others_stay t q all (not_itself z a b q h) (all_has t q (has_behind (t ∷ []) (zs ++ (xs ++ ys)) q h))) in
    let o = counted ms es z ws open_ones (λ q g. listed q (has_front zs (xs ++ ys) q g)) in
    let c = counted ms es a u.wires o.left (λ q g. o.all q (listed q (has_behind zs (xs ++ ys) q (has_front xs ys q g)))) in
    let oc = then_made ms es t ws u.wires x.wires open_ones o c in
    let d = counted ms es b x.wires oc.left (λ q g. oc.all q (listed q (has_behind zs (xs ++ ys) q (has_behind xs ys q g)))) in
    let both = then_made ms es t ws x.wires (low ms es b x.wires).wires open_ones oc d in
    let n = both.count in
    let r = length-remove_key (same_term t) all (all_has t t (has_here t (zs ++ (xs ++ ys)))) in
    omega (arith, n, r)

spared_adds : (keeps : Bool) (c t : Operand) (a b : Part) (ws : List Wire) → length (spared keeps c t a b ws).wires ≤ length ws + 1
spared_adds true c t a b ws = plus_adds ws 1 (Choose t (Constant 1 0) c)
spared_adds false c t a b ws = (calculated_step a.width (Choose t a.operand b.operand)).adds ws

write_adds : (ms : Shapes) (es : List (Name × Part)) (m : Name) (c i : Operand) (t : Term Name) (ws : List Wire)
    → length (low_write ms es m c i t ws).wires ≤ length ws + operations t
write_adds ms es m c i (choose t a b) ws =
    let z = low ms es t ws in
    let x = low ms es a z.wires in
    let y = low ms es b x.wires in
    let p = spared_adds (reads_cell y.wires m i x.part.operand) c z.part.operand x.part y.part y.wires in
    let q = below_adds ms es t a b ws in
    omega (arith, p, q)
write_adds ms es m c i t ws = low_adds ms es t ws

over_adds : (first : Bool) (ws : List Wire) (w : ℕ) (c n o : Operand) → length (taken_over first ws w c n o).wires ≤ length ws + 1
over_adds true ws w c n o = omega arith
over_adds false ws w c n o = plus_adds ws w (Choose c n o)

port_adds : (p : WritePort) (c i a : Operand) (ws : List Wire) → length (merged_port p c i a ws).wires ≤ length ws + 3
port_adds p c i a ws =
    let e = plus ws 1 (Choose c (Constant 1 1) p.enable) in
    let first = is_zero p.enable in
    let j = taken_over first e.wires p.bits c i p.index in
    let q = plus_adds ws 1 (Choose c (Constant 1 1) p.enable) in
    let r = over_adds first e.wires p.bits c i p.index in
    let s = over_adds first j.wires p.width c a p.value in
    omega (arith, q, r, s)

put_adds : (ms : Shapes) (es : List (Name × Part)) (m : Name) (p : WritePort) (c i a : Term Name) (ws : List Wire)
    → length (low_put ms es m p c i a ws).wires ≤ length ws + (3 + operations c + operations i + operations a)
put_adds ms es m p c i a ws =
    let plain = entries_plain es in
    let z = low ms plain c ws in
    let seen = entries_under z es in
    let y = low ms seen i z.wires in
    let x = low_write ms seen m z.part.operand y.part.operand a y.wires in
    let k = low_adds ms plain c ws in
    let l = low_adds ms seen i z.wires in
    let n = write_adds ms seen m z.part.operand y.part.operand a y.wires in
    let r = port_adds p x.write.when y.part.operand x.write.value x.wires in
    omega (arith, k, l, n, r)

action_adds : (ms : Shapes) (s : Lowering) (c : Term Name) (a : Action) → length (low_action ms s c a).wires ≤ length s.wires + (operations c + action_weight a)
action_adds ms s c (set x a) = let p = chosen_adds ms s.entries s.wires c x a in omega (arith, p)
action_adds ms s c (put m i a) = let p = put_adds ms s.entries m (port_of s.ports m) c i a s.wires in omega (arith, p)

commands_add : (ms : Shapes) (s : Lowering) (cs : List Command) → length (low_commands ms s cs).wires ≤ length s.wires + commands_weight cs
commands_add ms s [] = omega arith
commands_add ms s (c ∷ cs) =
    let p = action_adds ms s c.when c.act in
    let q = commands_add ms (low_command ms s c) cs in
    omega (arith, p, q)

-- Of names without repetition those on a second list, and those of the second list that are none of them, are as many as the second list at most.

none_left : (ns : List Name) → length (unported [] ns) ≤ length ns
none_left [] = omega arith
none_left (n ∷ ns) = let r = none_left ns in omega (arith, r)

left_out : (p : Name) (ps ns : List Name) → length (unported (p ∷ ps) ns) ≤ length (unported ps ns)
left_out p ps [] = omega arith
left_out p ps (n ∷ ns) =
    let r = left_out p ps ns in
    elim (cases_Bool (bytes_eq n p)) [
      | inl t ↦ elim (cases_Bool (is_among n ps)) [ inl a ↦ rw (t, a) r | inr b ↦ rw (t, b) (omega (arith, r)) ]
      | inr f ↦ elim (cases_Bool (is_among n ps)) [ inl a ↦ rw (f, a) r | inr b ↦ rw (f, b) (omega (arith, r)) ]
    ]

one_left_out : (p : Name) (ps ns : List Name) → is_among p ps ≡ false → is_among p ns ≡ true → length (unported (p ∷ ps) ns) + 1 ≤ length (unported ps ns)
one_left_out p ps [] d h = absurd (cc)
one_left_out p ps (n ∷ ns) d h =
    elim (cases_Bool (bytes_eq p n)) [
      | inl t ↦
          let e : p ≡ n = equal_of_bytes_eq p n t in
          let u : bytes_eq n p ≡ true = subst (λ (m : Name). bytes_eq m p ≡ true) e (bytes_eq_same p) in
          let v : is_among n ps ≡ false = subst (λ (m : Name). is_among m ps ≡ false) e d in
          let r = left_out p ps ns in
          rw (u, v) (omega (arith, r))
      | inr f ↦
          let r = one_left_out p ps ns d (rw f at h) in
          rw (bytes_eq_apart_back p n f) (elim (cases_Bool (is_among n ps)) [ inl a ↦ rw a r | inr b ↦ rw b (omega (arith, r)) ])
    ]

among_or_left : (ps ns : List Name) → AreDistinct ps → length (filter (λ p. is_among p ns) ps) + length (unported ps ns) ≤ length ns
among_or_left [] ns d = let r = none_left ns in omega (arith, r)
among_or_left (p ∷ ps) ns d =
    let r = among_or_left ps ns d.1 in
    elim (cases_Bool (is_among p ns)) [
      | inl t ↦ let q = one_left_out p ps ns d.0 t in rw t (omega (arith, r, q))
      | inr f ↦ let q = left_out p ps ns in rw f (omega (arith, r, q))
    ]

names_count : (xs : List Var) → length (variable_names xs) ≡ length xs
names_count xs = length-map xs (λ (x : Var). x.name)

registers_count : (s : Source) → AreDistinct s.ports → length (registers_declared s) ≤ length s.registers
registers_count s d =
    let p = ap length (picked_names s.registers s.ports) ∙ names_count (picked s.registers s.ports) in
    let u = sym (ap length (unlisted_names s.ports s.registers)) ∙ names_count (unlisted s.ports s.registers) in
    let n = names_count s.registers in
    let r = among_or_left s.ports (variable_names s.registers) d in
    let l = length-append (picked s.registers s.ports) (unlisted s.ports s.registers) in
    omega (arith, p, u, n, r, l)

-- wires that are ports
shown_count : (s : Source) → AreDistinct (variable_names s.wires) → length (listed s.ports s.wires) ≤ length s.ports
shown_count s d =
    let p = sym (ap length (listed_names s.ports s.wires)) ∙ names_count (listed s.ports s.wires) in
    let r = among_or_left (variable_names s.wires) s.ports d in
    omega (arith, p, r)

pub lowered_small : (s : Source) → IsGuarded s → items (lowered s) ≤ source_weight s
lowered_small s g =
    let I = variable_names s.inputs in
    let R = variable_names s.registers in
    let W = variable_names s.wires in
    let M = memory_names s.memories in
    let t = last_lowering s in
    let d = distinct_front W M (distinct_behind R (W ++ M) (distinct_behind I (R ++ (W ++ M)) g.declared_once)) in
    let a = commands_add (shapes s) (first_lowering s) s.commands in
    let b = shown_count s d in
    let c = registers_count s g.ports_once in
    let e = length-append t.wires (map (out_wire t.entries) (listed s.ports s.wires)) in
    let h = length-map (listed s.ports s.wires) (out_wire t.entries) in
    let k = length-map (registers_declared s) (register_of t.entries) in
    let l = length-map s.memories (memory_of t.ports) in
    omega (arith, a, b, c, e, h, k, l)
