-- The netlist of the printed file is the netlist.
use Rattle.sap_lemmas.proofs.Common.{◌≡◌, ℕ, ◌+◌, ◌-◌, arith, List, [], ◌∷◌, ◌++◌, Bool, true, false, cond, Option, Some, None, refl, sym, ap, ◌∙◌, subst, inl, inr, ◌⊎◌, map, flat_map, filter, unwrap_or, AllByRecursion, bytes_eq, cases_Bool, or_parts, bytes_eq_same, bytes_eq_symmetric, equal_of_bytes_eq, flat_map-append, append-nil}
use Rattle.std.proofs.lemmas.Bool.{false_from_ne_true}
use Rattle.sap_maps.specs.Prelude.{Name, find}
use Rattle.sap_net.specs.Prelude.{is_among, AreDistinct, Net, IsNetlist, PortShows, is_input, register_names, memory_names}
use Rattle.sap_net.specs.declared.parts.Operand.{Operand}
use Rattle.sap_net.specs.declared.parts.Operand.TheVariants.{Named, Constant}
use Rattle.sap_net.specs.declared.parts.Right.{Right}
use Rattle.sap_net.specs.declared.parts.PortKind.{PortKind}
use Rattle.sap_net.specs.declared.parts.Port.{Port}
use Rattle.sap_net.specs.declared.parts.Input.{Input}
use Rattle.sap_net.specs.declared.parts.Wire.{Wire}
use Rattle.sap_net.specs.declared.parts.Register.{Register}
use Rattle.sap_net.specs.declared.parts.Memory.{Memory}
use Rattle.sap_net.specs.declared.parts.Right.TheVariants as right
use Rattle.sap_net.specs.declared.parts.PortKind.TheVariants as kind
use Rattle.sap_vtext.specs.Items as item
use Rattle.sap_text.specs.Best.{StandsIn}
use Rattle.sap_vtext.specs.Names.{Shape, input, register, memory, Declaration, declarations}
use Rattle.sap_vtext.specs.Modules.{net_operand, net_right, net_kind, net_port, net_input, port_input, declared_width, net_wires, first_of, first_given, when, initial_number, next_operand, Write, cell_write, nothing, net_register, written_memory, net_memory, shape_registers, shape_memories, netlist_of}
use Rattle.sap_vtext.proofs.BareNet.{net_same}
use Rattle.sap_vtext.proofs.NameLists.{found_all, named_among, among_name}
use Rattle.sap_vprint.specs.Printed.{entities, operand_of, right_of, direction_of, width_or_0, printed_port, declared_items, declarations_of, integer_of, assign_of, initial_of, initial_cells_of, always_of, always_cell_of, items_of, file_of}
use Rattle.sap_vprint.proofs.Entities.{names_apart, IsShape, entities_fit}
use Rattle.sap_vprint.proofs.Declared.{declare, or_input, shape_found, inner_names, input_found, register_found, wire_found, memory_found, found_named, port_found}
use Rattle.sap_vprint.proofs.Whole.{declared_names, of_none, of_integer, of_behind, whole_declared, no_register}

operand_back : (o : Operand) → net_operand (operand_of o) ≡ o
operand_back (Named x) = refl
operand_back (Constant w v) = refl

operands_back : (os : List Operand) → map net_operand (map operand_of os) ≡ os
operands_back [] = refl
operands_back (o ∷ os) = let a = operand_back o in let b = operands_back os in cc

right_back : (r : Right) → net_right (right_of r) ≡ r
right_back (right.Copy x) = ap right.Copy (operand_back x)
right_back (right.One op x) = ap (right.One op) (operand_back x)
right_back (right.Two op x y) = let a = operand_back x in let b = operand_back y in cc
right_back (right.Choose c x y) = let a = operand_back c in let b = operand_back x in let d = operand_back y in cc
right_back (right.Concat os) = ap right.Concat (operands_back os)
right_back (right.Slice x hi lo) = refl
right_back (right.Cell m i) = ap (right.Cell m) (operand_back i)

kind_back : (k : PortKind) → net_kind (direction_of k) ≡ k
kind_back kind.Input = refl
kind_back _ = refl

port_back : (n : Net) (ps : List Port) → map net_port (map (printed_port n) ps) ≡ ps
port_back n [] = refl
port_back n (p ∷ ps) =
    ap (λ k. (let q : Port = record { name = p.name; kind = k } in q) ∷ map net_port (map (printed_port n) ps)) (kind_back p.kind) ∙ ap (λ z. p ∷ z) (port_back n ps)

-- what is given by a list of items that are made alike
module _ {A B : Type 0} (f : A → item.Item) (give : item.Item → Option B) where
  pub gives_none : ((y : A) → give (f y) ≡ None) → (ys : List A) → first_given give (map f ys) ≡ None
  gives_none e [] = refl
  gives_none e (y ∷ ys) = ap (λ o. first_of o (first_given give (map f ys))) (e y) ∙ gives_none e ys

  -- the one that has the name
  pub gives_one : (name : A → Name) (x : Name) (value : A → B) → ((y : A) → give (f y) ≡ when (name y) x (value y)) → (ys : List A) → AreDistinct (map name ys)
      → (y : A) → StandsIn y ys → name y ≡ x → first_given give (map f ys) ≡ Some (value y)
  gives_one name x value e [] d y m p = absurd m
  gives_one name x value e (z ∷ zs) d y (inl q) p =
      let same : bytes_eq (name z) x ≡ true = subst (λ v. bytes_eq v x ≡ true) (sym p ∙ ap name q) (bytes_eq_same x) in
      ap (λ o. first_of o (first_given give (map f zs))) (e z ∙ ap (λ b. cond b (Some (value z)) None) same) ∙ ap (λ v. Some (value v)) (sym q)
  gives_one name x value e (z ∷ zs) d y (inr m) p =
      let other : bytes_eq (name z) x ≡ false = apart zs d.0 m (cases_Bool (bytes_eq (name z) x)) in
      ap (λ o. first_of o (first_given give (map f zs))) (e z ∙ ap (λ b. cond b (Some (value z)) None) other) ∙ gives_one name x value e zs d.1 y m p where
        apart : (us : List A) → is_among (name z) (map name us) ≡ false → StandsIn y us → (bytes_eq (name z) x ≡ true) ⊎ (bytes_eq (name z) x ≡ false) → bytes_eq (name z) x ≡ false
        apart us g a (inr t) = t
        apart us g a (inl t) =
            let q : is_among (name z) (map name us) ≡ true = subst (λ v. is_among v (map name us) ≡ true) (p ∙ sym (equal_of_bytes_eq (name z) x t)) (among_name name y us a) in
            absurd (cc)

  -- none of them has the name
  pub gives_other : (name : A → Name) (x : Name) (value : A → B) → ((y : A) → give (f y) ≡ when (name y) x (value y)) → (ys : List A) → is_among x (map name ys) ≡ false
      → first_given give (map f ys) ≡ None
  gives_other name x value e [] d = refl
  gives_other name x value e (z ∷ zs) d =
      let w = or_parts (bytes_eq x (name z)) (is_among x (map name zs)) d in
      ap (λ o. first_of o (first_given give (map f zs))) (e z ∙ ap (λ b. cond b (Some (value z)) None) (bytes_eq_symmetric (name z) x ∙ w.0)) ∙ gives_other name x value e zs w.1

module _ {B : Type 0} (give : item.Item → Option B) where
  -- what gives nothing, or something, in front
  given_behind : (xs ys : List item.Item) → first_given give xs ≡ None → first_given give (xs ++ ys) ≡ first_given give ys
  given_behind [] ys e = refl
  given_behind (x ∷ xs) ys e =
      let w = first_parts (give x) (first_given give xs) e in
      ap (λ o. first_of o (first_given give (xs ++ ys))) w.0 ∙ given_behind xs ys w.1 where
        first_parts : (o p : Option B) → first_of o p ≡ None → (o ≡ None) × (p ≡ None)
        first_parts None p q = (refl, q)
        first_parts (Some v) p q = absurd (cc)

  given_front : (xs ys : List item.Item) (v : B) → first_given give xs ≡ Some v → first_given give (xs ++ ys) ≡ Some v
  given_front [] ys v e = absurd (cc)
  given_front (x ∷ xs) ys v e = by_first (give x) (given_front xs ys v) e where
    by_first : (o : Option B) → (first_given give xs ≡ Some v → first_given give (xs ++ ys) ≡ Some v)
        → first_of o (first_given give xs) ≡ Some v → first_of o (first_given give (xs ++ ys)) ≡ Some v
    by_first None f q = f q
    by_first (Some u) f q = q

  -- items that give nothing, whatever they name
  given_declared : ((x : Name) (o : Option Shape) → first_given give (declared_items x o) ≡ None) → (n : Net) (xs : List Name) → first_given give (declarations_of n xs) ≡ None
  given_declared e n [] = refl
  given_declared e n (x ∷ xs) = given_behind (declared_items x (find (entities n) x)) (declarations_of n xs) (e x (find (entities n) x)) ∙ given_declared e n xs

  given_integer : give (item.integer 0) ≡ None → (ms : List Memory) → first_given give (integer_of ms) ≡ None
  given_integer e [] = refl
  given_integer e (m ∷ ms) = ap (λ o. first_of o None) e

initial_declared : (z x : Name) (o : Option Shape) → first_given (initial_number z) (declared_items x o) ≡ None
initial_declared z x (Some (input w)) = refl
initial_declared z x _ = refl

next_declared : (z x : Name) (o : Option Shape) → first_given (next_operand z) (declared_items x o) ≡ None
next_declared z x (Some (input w)) = refl
next_declared z x _ = refl

write_declared : (z x : Name) (o : Option Shape) → first_given (cell_write z) (declared_items x o) ≡ None
write_declared z x (Some (input w)) = refl
write_declared z x _ = refl

register_same : (n : Name) (width : ℕ) {s t : ℕ} {o p : Operand} → s ≡ t → o ≡ p
    → (let q : Register = record { name = n; width = width; start = s; next = o } in q) ≡ (let q : Register = record { name = n; width = width; start = t; next = p } in q)
register_same n width {s} {t} {o} {p} e f =
    ap (λ z. let q : Register = record { name = n; width = width; start = z; next = o } in q) e
    ∙ ap (λ z. let q : Register = record { name = n; width = width; start = t; next = z } in q) f

abbrev write_of : Memory → Write
write_of m = record { enable = net_operand (operand_of m.enable); index = net_operand (operand_of m.index); value = net_operand (operand_of m.value) }

memory_same : (m : Memory) → written_memory m.name m.width m.depth m.start (write_of m) ≡ m
memory_same m =
    let a = operand_back m.enable in let b = operand_back m.index in let c = operand_back m.value in
    ap (λ z. written_memory m.name m.width m.depth m.start (record { enable = z; index = net_operand (operand_of m.index); value = net_operand (operand_of m.value) })) a
    ∙ ap (λ z. written_memory m.name m.width m.depth m.start (record { enable = m.enable; index = z; value = net_operand (operand_of m.value) })) b
    ∙ ap (λ z. written_memory m.name m.width m.depth m.start (record { enable = m.enable; index = m.index; value = z })) c

module _ (n : Net) (h : IsNetlist n) where
  abbrev declared : List item.Item
  declared = declarations_of n (inner_names n h)

  -- behind the declarations and the integer
  start_of : (r : Register) → StandsIn r n.registers → first_given (initial_number r.name) (items_of n) ≡ Some r.start
  start_of r m =
      let give = initial_number r.name in
      given_behind give declared _ (given_declared give (initial_declared r.name) n (inner_names n h))
      ∙ given_behind give (integer_of n.memories) _ (given_integer give refl n.memories)
      ∙ given_behind give (map assign_of n.wires) _ (gives_none assign_of give (λ y. refl) n.wires)
      ∙ given_front give (map initial_of n.registers) _ r.start
      (gives_one initial_of give (λ z. z.name) r.name (λ z. z.start) (λ y. refl) n.registers (names_apart n h).registers r m refl)

  next_of : (r : Register) → StandsIn r n.registers → first_given (next_operand r.name) (items_of n) ≡ Some (net_operand (operand_of r.next))
  next_of r m =
      let give = next_operand r.name in
      given_behind give declared _ (given_declared give (next_declared r.name) n (inner_names n h))
      ∙ given_behind give (integer_of n.memories) _ (given_integer give refl n.memories)
      ∙ given_behind give (map assign_of n.wires) _ (gives_none assign_of give (λ y. refl) n.wires)
      ∙ given_behind give (map initial_of n.registers) _ (gives_none initial_of give (λ y. refl) n.registers)
      ∙ given_behind give (map initial_cells_of n.memories) _ (gives_none initial_cells_of give (λ y. refl) n.memories)
      ∙ given_front give (map always_of n.registers) _ (net_operand (operand_of r.next))
      (gives_one always_of give (λ z. z.name) r.name (λ z. net_operand (operand_of z.next)) (λ y. refl) n.registers (names_apart n h).registers r m refl)

  filled_of : (m : Memory) → StandsIn m n.memories → first_given (initial_number m.name) (items_of n) ≡ Some m.start
  filled_of m a =
      let give = initial_number m.name in
      given_behind give declared _ (given_declared give (initial_declared m.name) n (inner_names n h))
      ∙ given_behind give (integer_of n.memories) _ (given_integer give refl n.memories)
      ∙ given_behind give (map assign_of n.wires) _ (gives_none assign_of give (λ y. refl) n.wires)
      ∙ given_behind give (map initial_of n.registers) _ (gives_other initial_of give (λ z. z.name) m.name (λ z. z.start) (λ y. refl) n.registers (no_register n h m a))
      ∙ given_front give (map initial_cells_of n.memories) _ m.start
      (gives_one initial_cells_of give (λ z. z.name) m.name (λ z. z.start) (λ y. refl) n.memories (names_apart n h).memories m a refl)

  written_of : (m : Memory) → StandsIn m n.memories → first_given (cell_write m.name) (items_of n) ≡ Some (write_of m)
  written_of m a =
      let give = cell_write m.name in
      given_behind give declared _ (given_declared give (write_declared m.name) n (inner_names n h))
      ∙ given_behind give (integer_of n.memories) _ (given_integer give refl n.memories)
      ∙ given_behind give (map assign_of n.wires) _ (gives_none assign_of give (λ y. refl) n.wires)
      ∙ given_behind give (map initial_of n.registers) _ (gives_none initial_of give (λ y. refl) n.registers)
      ∙ given_behind give (map initial_cells_of n.memories) _ (gives_none initial_cells_of give (λ y. refl) n.memories)
      ∙ given_behind give (map always_of n.registers) _ (gives_none always_of give (λ y. refl) n.registers)
      ∙ gives_one always_cell_of give (λ z. z.name) m.name write_of (λ y. refl) n.memories (names_apart n h).memories m a refl

  abbrev register_at : Name → Register
  register_at x = net_register x (width_or_0 (find (entities n) x)) (items_of n)

  register_back : (r : Register) → StandsIn r n.registers → register_at r.name ≡ r
  register_back r m =
      ap (λ o. net_register r.name (width_or_0 o) (items_of n)) (register_found n h r m)
      ∙ register_same r.name r.width (ap (λ o. unwrap_or o 0) (start_of r m)) (ap (λ o. unwrap_or o nothing) (next_of r m) ∙ operand_back r.next)

  abbrev depth_or_0 : Option Shape → ℕ
  depth_or_0 (Some (memory w d)) = d
  depth_or_0 _ = 0

  abbrev memory_at : Name → Memory
  memory_at x = net_memory x (width_or_0 (find (entities n) x)) (depth_or_0 (find (entities n) x)) (items_of n)

  memory_back : (m : Memory) → StandsIn m n.memories → memory_at m.name ≡ m
  memory_back m a =
      ap (λ o. net_memory m.name (width_or_0 o) (depth_or_0 o) (items_of n)) (memory_found n h m a)
      ∙ ap (λ o. written_memory m.name m.width m.depth (unwrap_or o 0)
      (unwrap_or (first_given (cell_write m.name) (items_of n)) (record { enable = nothing; index = nothing; value = nothing }))) (filled_of m a)
      ∙ ap (λ o. written_memory m.name m.width m.depth m.start (unwrap_or o (record { enable = nothing; index = nothing; value = nothing }))) (written_of m a)
      ∙ memory_same m

  -- a name of the list of registers, or of memories, is found as one
  is_register : (x : Name) → is_among x (register_names n) ≡ true → (w : ℕ) × (find (entities n) x ≡ Some (register w))
  is_register x m =
      let r = named_among (λ (y : Register). y.name) n.registers x m in
      (r.0.width, subst (λ z. find (entities n) z ≡ Some (register r.0.width)) r.2 (register_found n h r.0 r.1))

  is_memory : (x : Name) → is_among x (memory_names n) ≡ true → (w : ℕ) × (d : ℕ) × (find (entities n) x ≡ Some (memory w d))
  is_memory x m =
      let r = named_among (λ (y : Memory). y.name) n.memories x m in
      (r.0.width, r.0.depth, subst (λ z. find (entities n) z ≡ Some (memory r.0.width r.0.depth)) r.2 (memory_found n h r.0 r.1))

  one_register : (x : Name) (o : Option Shape) → find (entities n) x ≡ o
      → shape_registers x (or_input o) (items_of n) ≡ cond (is_among x (register_names n)) (register_at x ∷ []) []
  one_register x (Some (register w)) f =
      ap (λ z. net_register x (width_or_0 z) (items_of n) ∷ []) (sym f) ∙ ap (λ b. cond b (register_at x ∷ []) []) (sym (found_named n h x (register w) f))
  one_register x _ f = ap (λ b. cond b (register_at x ∷ []) []) (sym (false_from_ne_true (is_among x (register_names n)) (λ m. let r = (is_register x m).1 in cc)))

  one_memory : (x : Name) (o : Option Shape) → find (entities n) x ≡ o
      → shape_memories x (or_input o) (items_of n) ≡ cond (is_among x (memory_names n)) (memory_at x ∷ []) []
  one_memory x (Some (memory w d)) f =
      ap (λ z. net_memory x (width_or_0 z) (depth_or_0 z) (items_of n) ∷ []) (sym f) ∙ ap (λ b. cond b (memory_at x ∷ []) []) (sym (found_named n h x (memory w d) f))
  one_memory x _ f = ap (λ b. cond b (memory_at x ∷ []) []) (sym (false_from_ne_true (is_among x (memory_names n)) (λ m. let r = (is_memory x m).2 in cc)))

  kept : {A : Type 0} (p : Name → Bool) (g : Name → A) (f : Name → List A) → ((x : Name) → f x ≡ cond (p x) (g x ∷ []) []) → (xs : List Name)
      → flat_map (λ x. f x) xs ≡ map g (filter p xs)
  kept p g f e [] = refl
  kept {A} p g f e (x ∷ xs) = ap (λ z. z ++ flat_map f xs) (e x) ∙ by_test (p x) (kept p g f e xs) where
    by_test : (b : Bool) → flat_map f xs ≡ map g (filter p xs) → cond b (g x ∷ []) [] ++ flat_map f xs ≡ map g (cond b (x ∷ filter p xs) (filter p xs))
    by_test true q = ap (λ z. g x ∷ z) q
    by_test false q = q

  over_declared : {A : Type 0} (f : Name → Shape → List A) (xs : List Name)
      → flat_map (λ d. f d.name.name d.shape) (map (declare n) xs) ≡ flat_map (λ x. f x (or_input (find (entities n) x))) xs
  over_declared f [] = refl
  over_declared f (x ∷ xs) = ap (λ z. f x (or_input (find (entities n) x)) ++ z) (over_declared f xs)

  backs : {A : Type 0} (name : A → Name) (g : Name → A) (xs : List A) → ((x : A) → StandsIn x xs → g (name x) ≡ x) → map g (map name xs) ≡ xs
  backs name g [] e = refl
  backs name g (x ∷ xs) e = ap (λ z. z ∷ map g (map name xs)) (e x (inl refl)) ∙ ap (λ z. x ∷ z) (backs name g xs (λ y m. e y (inr m)))

  registers_back : flat_map (λ d. shape_registers d.name.name d.shape (items_of n)) (declarations (map (printed_port n) n.ports) (items_of n)) ≡ n.registers
  registers_back =
      ap (flat_map (λ d. shape_registers d.name.name d.shape (items_of n))) (whole_declared n h)
      ∙ over_declared (λ x s. shape_registers x s (items_of n)) n.names
      ∙ kept (λ x. is_among x (register_names n)) register_at (λ x. shape_registers x (or_input (find (entities n) x)) (items_of n))
      (λ x. one_register x (find (entities n) x) refl) n.names
      ∙ ap (map register_at) h.registers_in_order
      ∙ backs (λ r. r.name) register_at n.registers register_back

  memories_back : flat_map (λ d. shape_memories d.name.name d.shape (items_of n)) (declarations (map (printed_port n) n.ports) (items_of n)) ≡ n.memories
  memories_back =
      ap (flat_map (λ d. shape_memories d.name.name d.shape (items_of n))) (whole_declared n h)
      ∙ over_declared (λ x s. shape_memories x s (items_of n)) n.names
      ∙ kept (λ x. is_among x (memory_names n)) memory_at (λ x. shape_memories x (or_input (find (entities n) x)) (items_of n))
      (λ x. one_memory x (find (entities n) x) refl) n.names
      ∙ ap (map memory_at) h.memories_in_order
      ∙ backs (λ m. m.name) memory_at n.memories memory_back

  -- inputs
  abbrev input_at : Name → Input
  input_at x = record { name = x; width = width_or_0 (find (entities n) x) }

  input_back : (i : Input) → StandsIn i n.inputs → input_at i.name ≡ i
  input_back i m = ap (λ o. let j : Input = record { name = i.name; width = width_or_0 o } in j) (input_found n h i m)

  port_inputs : (k : PortKind) (x : Name) → PortShows n k x
      → net_input (direction_of k) x (width_or_0 (find (entities n) x) - 1 + 1) ≡ cond (is_input k) (input_at x ∷ []) []
  port_inputs kind.Input x m =
      let f = port_found n h kind.Input x m in
      let g = found_all IsShape (entities n) x (input f.0) (entities_fit n h) f.1 in
      let low = g.0 in
      let e : width_or_0 (find (entities n) x) ≡ f.0 = ap width_or_0 f.1 in
      let back : width_or_0 (find (entities n) x) - 1 + 1 ≡ width_or_0 (find (entities n) x) = omega arith in
      ap (λ w. (let j : Input = record { name = x; width = w } in j) ∷ []) back
  port_inputs _ x m = refl

  inputs_kept : (ps : List Port) → AllByRecursion (λ p. PortShows n p.kind p.name) ps
      → flat_map port_input (map (printed_port n) ps) ≡ map input_at (map (λ p. p.name) (filter (λ p. is_input p.kind) ps))
  inputs_kept [] m = refl
  inputs_kept (p ∷ ps) m =
      ap (λ z. z ++ flat_map port_input (map (printed_port n) ps)) (port_inputs p.kind p.name m.0) ∙ by_test (is_input p.kind) (inputs_kept ps m.1) where
        by_test : (b : Bool) → flat_map port_input (map (printed_port n) ps) ≡ map input_at (map (λ q. q.name) (filter (λ q. is_input q.kind) ps))
            → cond b (input_at p.name ∷ []) [] ++ flat_map port_input (map (printed_port n) ps)
            ≡ map input_at (map (λ q. q.name) (cond b (p ∷ filter (λ q. is_input q.kind) ps) (filter (λ q. is_input q.kind) ps)))
        by_test true q = ap (λ z. input_at p.name ∷ z) q
        by_test false q = q

  inputs_back : flat_map port_input (map (printed_port n) n.ports) ≡ n.inputs
  inputs_back = inputs_kept n.ports h.ports_show ∙ ap (map input_at) h.inputs_are_ports ∙ backs (λ i. i.name) input_at n.inputs input_back

  -- wires
  abbrev all : List Declaration
  all = map (declare n) n.names

  wire_back : (w : Wire) → StandsIn w n.wires → net_wires all (assign_of w) ≡ w ∷ []
  wire_back w m =
      ap (λ s. (let v : Wire = record { name = w.name; width = declared_width s; right = net_right (right_of w.right) } in v) ∷ []) (shape_found n h w.name ∙ wire_found n h w m)
      ∙ ap (λ r. (let v : Wire = record { name = w.name; width = w.width; right = r } in v) ∷ []) (right_back w.right)

  assigns_back : (ws : List Wire) → ((w : Wire) → StandsIn w ws → net_wires all (assign_of w) ≡ w ∷ []) → flat_map (net_wires all) (map assign_of ws) ≡ ws
  assigns_back [] e = refl
  assigns_back (w ∷ ws) e = ap (λ z. z ++ flat_map (net_wires all) (map assign_of ws)) (e w (inl refl)) ∙ ap (λ z. w ∷ z) (assigns_back ws (λ y m. e y (inr m)))

  declared_wires : (x : Name) (o : Option Shape) → flat_map (net_wires all) (declared_items x o) ≡ []
  declared_wires x (Some (input w)) = refl
  declared_wires x _ = refl

  declarations_wires : (xs : List Name) → flat_map (net_wires all) (declarations_of n xs) ≡ []
  declarations_wires [] = refl
  declarations_wires (x ∷ xs) =
      flat_map-append (net_wires all) (declared_items x (find (entities n) x)) (declarations_of n xs)
      ∙ ap (λ z. z ++ flat_map (net_wires all) (declarations_of n xs)) (declared_wires x (find (entities n) x)) ∙ declarations_wires xs

  edges_wires : flat_map (net_wires all) (map initial_of n.registers ++ (map initial_cells_of n.memories ++ (map always_of n.registers ++ map always_cell_of n.memories))) ≡ []
  edges_wires =
      of_behind (net_wires all) (map initial_of n.registers) _ (of_none (net_wires all) initial_of (λ x. refl) n.registers)
      ∙ of_behind (net_wires all) (map initial_cells_of n.memories) _ (of_none (net_wires all) initial_cells_of (λ x. refl) n.memories)
      ∙ of_behind (net_wires all) (map always_of n.registers) _ (of_none (net_wires all) always_of (λ x. refl) n.registers)
      ∙ of_none (net_wires all) always_cell_of (λ x. refl) n.memories

  wires_back : flat_map (net_wires (declarations (map (printed_port n) n.ports) (items_of n))) (items_of n) ≡ n.wires
  wires_back =
      ap (λ ds. flat_map (net_wires ds) (items_of n)) (whole_declared n h)
      ∙ of_behind (net_wires all) declared _ (declarations_wires (inner_names n h))
      ∙ of_behind (net_wires all) (integer_of n.memories) _ (of_integer (net_wires all) refl n.memories)
      ∙ flat_map-append (net_wires all) (map assign_of n.wires) _
      ∙ ap (λ z. flat_map (net_wires all) (map assign_of n.wires) ++ z) edges_wires
      ∙ append-nil _
      ∙ assigns_back n.wires wire_back

  pub netlist_back : netlist_of (file_of n) ≡ n
  netlist_back = net_same n.module_name (ap (map (λ d. d.name.name)) (whole_declared n h) ∙ declared_names n h n.names) (port_back n n.ports)
      inputs_back wires_back registers_back memories_back
