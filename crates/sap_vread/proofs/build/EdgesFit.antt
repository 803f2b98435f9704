-- What registers and memories begin with, and what they take at an edge.
use Rattle.sap_lemmas.proofs.Common.{◌≡◌, ℕ, ◌^◌, ◌<◌, List, [], ◌∷◌, ◌++◌, Bool, true, cond, Option, Some, None, refl, sym, ap, ◌∙◌, subst, inl, inr, ⊎_elim, ◌||◌, flat_map, is_some, unwrap_or, AllByRecursion, list_any, bytes_eq, cases_Bool, all_parts, all_append, equal_of_bytes_eq}
use Rattle.sap_maps.specs.Prelude.{Name, Scope}
use Rattle.sap_net.specs.declared.parts.Operand as net
use Rattle.sap_net.specs.Prelude.{IsOperand, IsRegister, IsMemory, readable}
use Rattle.sap_vtext.specs.Items.{Mention, Operand, Item, File}
use Rattle.sap_vtext.specs.Items as item
use Rattle.sap_text.specs.Best.{StandsIn}
use Rattle.sap_vtext.specs.Names.{Shape, input, register, memory, Declaration, declarations, shape_in, shape_above, Setting, initial, always, target_of, is_target, is_set, known_above}
use Rattle.sap_vtext.specs.Widths.{shape_width, operand_width, constant_width, memory_width, register_width, constant_fits}
use Rattle.sap_vtext.specs.Faults.{Use, as_register, as_memory, suits, needs, uses, operand_uses, operand_constants, IsFaultless}
use Rattle.sap_vtext.specs.Modules.{netlist_of, net_operand, first_of, first_given, when, initial_number, next_operand, cell_write, Write, nothing, shape_registers, shape_memories}
use Rattle.sap_vtext.proofs.NameLists.{among_right}
use Rattle.sap_vtext.proofs.Good.{IsGoodUse, above_of}
use Rattle.sap_vread.proofs.build.Entries.{own_shape}
use Rattle.sap_vread.proofs.build.Sound.{names_distinct, good_use, good_uses, good_constants, good_pairs, good_index, all_set, Part}
use Rattle.sap_vread.proofs.build.Parts.{all_declared, item_in, shape_below}
use Rattle.sap_vread.proofs.build.Readable.{small_constant, fine_shape, operand_is, operand_wide}
use Rattle.sap_vread.proofs.build.WiresFit.{equal, HasParts, last_reads, more_below}

-- The first item that gives something.

record Given {A : Type 0} (g : Item → Option A) (xs : List Item) : Type 0 where
  item : Item
  part : Part item xs
  value : A
  gives : g item ≡ Some value
  first : first_given g xs ≡ Some value

given_here : {A : Type 0} (g : Item → Option A) (x : Item) (xs : List Item) (o : Option A) → g x ≡ o → (o ≡ None → Given g xs) → Given g (x ∷ xs)
given_here g x xs (Some v) e later =
    record { item = x; part = record { before = []; after = xs; is = refl }; value = v; gives = e; first = ap (λ p. first_of p (first_given g xs)) e }
given_here g x xs None e later =
    let r = later refl in
    record {
      item = r.item;
      part = record { before = x ∷ r.part.before; after = r.part.after; is = ap (λ z. x ∷ z) r.part.is };
      value = r.value;
      gives = r.gives;
      first = ap (λ p. first_of p (first_given g xs)) e ∙ r.first;
    }

given : {A : Type 0} (p : Item → Bool) (g : Item → Option A) (xs : List Item) → ((x : Item) → Part x xs → p x ≡ true → is_some (g x) ≡ true) → list_any p xs ≡ true
    → Given g xs
given p g [] k e = absurd (cc)
given p g (x ∷ xs) k e =
    given_here g x xs (g x) refl
    (λ none.
    let no : p x ≡ true → ⊥ = λ t. (let q = k x (record { before = []; after = xs; is = refl }) t in let s = ap is_some none in absurd (cc)) in
    let rest : list_any p xs ≡ true =
    ⊎_elim (λ t. absurd (no t)) (λ t. ap (λ b. b || list_any p xs) (sym t) ∙ e) (cases_Bool (p x)) in
    given p g xs (λ y q t. k y (record { before = x ∷ q.before; after = q.after; is = ap (λ z. x ∷ z) q.is }) t) rest)

when_there : {A : Type 0} (x n : Name) (a : A) → bytes_eq x n ≡ true → is_some (when x n a) ≡ true
when_there x n a t = ap (λ b. is_some (cond b (Some a) None)) t

-- what is given under a name is given by an item of this name
when_given : {A : Type 0} (x n : Name) (a b : A) → when x n a ≡ Some b → (x ≡ n) × (a ≡ b)
when_given x n a b e =
    ⊎_elim
    (λ t. let q : Some a ≡ Some b = rw t at e in let p : a ≡ b = cc in (equal_of_bytes_eq x n t, p))
    (λ t. let q : None ≡ Some b = rw t at e in absurd (cc))
    (cases_Bool (bytes_eq x n))

all_flat : {A B : Type 0} (P : B → Type 0) (g : A → List B) (xs : List A) → ((x : A) → StandsIn x xs → AllByRecursion P (g x)) → AllByRecursion P (flat_map g xs)
all_flat P g [] k = tt
all_flat P g (x ∷ xs) k = all_append P (g x) (flat_map g xs) (k x (inl refl)) (all_flat P g xs (λ y m. k y (inr m)))

initial_there : (n : Name) (x : Item) → is_target initial n (target_of x) ≡ true → is_some (initial_number n x) ≡ true
initial_there n (item.initial x value) t = when_there x.name n value.value t
initial_there n (item.initial_cells place bound x value) t = when_there x.name n value.value t
initial_there n _ t = absurd (cc)

abbrev depth_of : Shape → ℕ
depth_of (memory width depth) = depth
depth_of _ = 0

module _ (f : File) (h : IsFaultless f) where
  -- an item whose name is used as a register, or as a memory, is that of one
  as_declared_register : (x : Item) (p : Part x f.items) (m : Mention) → StandsIn (let u : Use = record { manner = as_register; name = m } in u) (uses x)
      → (w : ℕ) × (shape_in (declarations f.ports p.before) m.name ≡ Some (register w)) × (shape_in (all_declared f) m.name ≡ Some (register w))
  as_declared_register x p m among =
      let g = good_use f h (above_of f.ports p.before) x (item_in f x p) (record { manner = as_register; name = m }) among in
      by_shape g.shape g.declared g.suits where
        by_shape : (s : Shape) → shape_in (declarations f.ports p.before) m.name ≡ Some s → suits as_register s ≡ true
            → (w : ℕ) × (shape_in (declarations f.ports p.before) m.name ≡ Some (register w)) × (shape_in (all_declared f) m.name ≡ Some (register w))
        by_shape (register w) d k = (w, d, shape_below f p.before (x ∷ p.after) m.name (register w) p.is d)
        by_shape _ d k = absurd (cc)

  as_declared_memory : (x : Item) (p : Part x f.items) (m : Mention) → StandsIn (let u : Use = record { manner = as_memory; name = m } in u) (uses x)
      → (w : ℕ) × (depth : ℕ) × (shape_in (declarations f.ports p.before) m.name ≡ Some (memory w depth)) × (shape_in (all_declared f) m.name ≡ Some (memory w depth))
  as_declared_memory x p m among =
      let g = good_use f h (above_of f.ports p.before) x (item_in f x p) (record { manner = as_memory; name = m }) among in
      by_shape g.shape g.declared g.suits where
        by_shape : (s : Shape) → shape_in (declarations f.ports p.before) m.name ≡ Some s → suits as_memory s ≡ true
            → (w : ℕ) × (depth : ℕ) × (shape_in (declarations f.ports p.before) m.name ≡ Some (memory w depth)) × (shape_in (all_declared f) m.name ≡ Some (memory w depth))
        by_shape (memory w depth) d k = (w, depth, d, shape_below f p.before (x ∷ p.after) m.name (memory w depth) p.is d)
        by_shape _ d k = absurd (cc)

  -- The first numbers.

  same_shape : (n : Name) (s t : Shape) → shape_in (all_declared f) n ≡ Some s → shape_in (all_declared f) n ≡ Some t → s ≡ t
  same_shape n s t d e = let q : Some s ≡ Some t = sym d ∙ e in cc

  start_fits : (n : Name) (s : Shape) → shape_in (all_declared f) n ≡ Some s → (x : Item) → Part x f.items → (v : ℕ) → initial_number n x ≡ Some v → v < 2 ^ shape_width s
  start_fits n s d (item.initial x value) p v e =
      let a = above_of f.ports p.before in
      let i = item_in f (item.initial x value) p in
      let g = when_given x.name n value.value v e in
      let r = as_declared_register (item.initial x value) p x (inl refl) in
      let c = small_constant value (good_constants f h a (item.initial x value) i).0 in
      let ps = good_pairs f h a (item.initial x value) (record { setting = initial; name = x }) i refl in
      let same = equal (register_width (shape_above a x.name)) (constant_width value) r.0 value.width (ap register_width r.1) c.is ps.0 in
      let shape = same_shape n s (register r.0) d (subst (λ z. shape_in (all_declared f) z ≡ Some (register r.0)) g.0 r.2) in
      subst (λ z. z < 2 ^ shape_width s) g.1 (subst (λ z. value.value < 2 ^ z) (sym (ap shape_width shape ∙ same)) c.value)
  start_fits n s d (item.initial_cells place bound x value) p v e =
      let a = above_of f.ports p.before in
      let i = item_in f (item.initial_cells place bound x value) p in
      let g = when_given x.name n value.value v e in
      let r = as_declared_memory (item.initial_cells place bound x value) p x (inl refl) in
      let c = small_constant value (good_constants f h a (item.initial_cells place bound x value) i).0 in
      let ps = good_pairs f h a (item.initial_cells place bound x value) (record { setting = initial; name = x }) i refl in
      let same = equal (memory_width (shape_above a x.name)) (constant_width value) r.0 value.width (ap memory_width r.2) c.is ps.0 in
      let shape = same_shape n s (memory r.0 r.1) d (subst (λ z. shape_in (all_declared f) z ≡ Some (memory r.0 r.1)) g.0 r.3) in
      subst (λ z. z < 2 ^ shape_width s) g.1 (subst (λ z. value.value < 2 ^ z) (sym (ap shape_width shape ∙ same)) c.value)
  start_fits n s d (item.wire range x) p v e = absurd (cc)
  start_fits n s d _ p v e = absurd (cc)

  first_start : (n : Name) (s : Shape) → shape_in (all_declared f) n ≡ Some s → is_set initial n f.items ≡ true
      → unwrap_or (first_given (initial_number n) f.items) 0 < 2 ^ shape_width s
  first_start n s d t =
      let g = given (λ x. is_target initial n (target_of x)) (initial_number n) f.items (λ x p q. initial_there n x q) t in
      subst (λ o. unwrap_or o 0 < 2 ^ shape_width s) (sym g.first) (start_fits n s d g.item g.part g.value g.gives)

  -- What a register takes.

  next_there : (n : Name) (w : ℕ) → shape_in (all_declared f) n ≡ Some (register w) → (x : Item) → Part x f.items → is_target always n (target_of x) ≡ true
      → is_some (next_operand n x) ≡ true
  next_there n w d (item.always x next) p t = when_there x.name n (net_operand next) t
  next_there n w d (item.always_cell condition x index value) p t =
      let r = as_declared_memory (item.always_cell condition x index value) p x
      (among_right (let u : Use = record { manner = as_memory; name = x } in u) (operand_uses condition)
      ((let u : Use = record { manner = as_memory; name = x } in u) ∷ (operand_uses index ++ operand_uses value)) (inl refl)) in
      let q = same_shape n (register w) (memory r.0 r.1) d (subst (λ z. shape_in (all_declared f) z ≡ Some (memory r.0 r.1)) (equal_of_bytes_eq x.name n t) r.3) in
      absurd (cc)
  next_there n w d (item.wire range x) p t = absurd (cc)
  next_there n w d _ p t = absurd (cc)

  abbrev last_scope : Scope
  last_scope = readable (netlist_of f)

  -- an operand of an item is one at the end
  operand_last : AllByRecursion HasParts f.items → (x : Item) (p : Part x f.items) (o : Operand) (w : ℕ) → operand_width (known_above (above_of f.ports p.before)) o ≡ Some w
      → AllByRecursion (λ c. constant_fits c ≡ true) (operand_constants o) → IsOperand last_scope w (net_operand o)
  operand_last two x p o w e c =
      operand_is f h p.before (x ∷ p.after) f.items last_scope p.is (more_below f h p.before (x ∷ p.after) p.is) (last_reads f h two) o w e c

  next_fits : AllByRecursion HasParts f.items → (n : Name) (w : ℕ) → shape_in (all_declared f) n ≡ Some (register w) → (x : Item) (p : Part x f.items) (v : net.Operand)
      → next_operand n x ≡ Some v → IsOperand last_scope w v
  next_fits two n w d (item.always x next) p v e =
      let a = above_of f.ports p.before in
      let i = item_in f (item.always x next) p in
      let g = when_given x.name n (net_operand next) v e in
      let r = as_declared_register (item.always x next) p x (inl refl) in
      let us = good_uses f h a (item.always x next) i in
      let cs = good_constants f h a (item.always x next) i in
      let ps = good_pairs f h a (item.always x next) (record { setting = always; name = x }) i refl in
      let y = operand_wide f h p.before (item.always x next ∷ p.after) p.is next us.1 cs in
      let same : r.0 ≡ y.width = equal (register_width (shape_above a x.name)) (operand_width (known_above a) next) r.0 y.width (ap register_width r.1) y.is ps.0 in
      let q = same_shape n (register w) (register r.0) d (subst (λ z. shape_in (all_declared f) z ≡ Some (register r.0)) g.0 r.2) in
      let wide : w ≡ y.width = ap shape_width q ∙ same in
      subst (λ z. IsOperand last_scope w z) g.1 (operand_last two (item.always x next) p next w (y.is ∙ ap (λ z. Some z) (sym wide)) cs)
  next_fits two n w d (item.always_cell condition x index value) p v e = absurd (cc)
  next_fits two n w d _ p v e = absurd (cc)

  first_next : AllByRecursion HasParts f.items → (n : Name) (w : ℕ) → shape_in (all_declared f) n ≡ Some (register w) → is_set always n f.items ≡ true
      → IsOperand last_scope w (unwrap_or (first_given (next_operand n) f.items) nothing)
  first_next two n w d t =
      let g = given (λ x. is_target always n (target_of x)) (next_operand n) f.items (next_there n w d) t in
      subst (λ o. IsOperand last_scope w (unwrap_or o nothing)) (sym g.first) (next_fits two n w d g.item g.part g.value g.gives)

  abbrev declared_shape : Declaration → Shape → Type 0
  declared_shape d s = (d.shape ≡ s) × StandsIn d (all_declared f)

  shape_there : (d : Declaration) (s : Shape) → declared_shape d s → shape_in (all_declared f) d.name.name ≡ Some s
  shape_there d s m = own_shape (all_declared f) (names_distinct f h) d m.1 ∙ ap (λ z. Some z) m.0

  set_there : (d : Declaration) (s : Shape) (setting : Setting) → declared_shape d s → needs s setting ≡ true → is_set setting d.name.name f.items ≡ true
  set_there d s setting m n = all_set f h d setting m.1 (ap (λ z. needs z setting) m.0 ∙ n)

  registers_fit : AllByRecursion HasParts f.items → (d : Declaration) (s : Shape) → declared_shape d s
      → AllByRecursion (IsRegister last_scope) (shape_registers d.name.name s f.items)
  registers_fit two d (register w) m =
      let s = shape_there d (register w) m in
      ((first_start d.name.name (register w) s (set_there d (register w) initial m refl), first_next two d.name.name w s (set_there d (register w) always m refl)), tt)
  registers_fit two d (input w) m = tt
  registers_fit two d _ m = tt

  pub nexts_are : AllByRecursion HasParts f.items → AllByRecursion (IsRegister last_scope) (netlist_of f).registers
  nexts_are two =
      all_flat (IsRegister last_scope) (λ d. shape_registers d.name.name d.shape f.items) (all_declared f) (λ d m. registers_fit two d d.shape (refl, m))

  -- What is written to a memory.

  write_there : (n : Name) (w depth : ℕ) → shape_in (all_declared f) n ≡ Some (memory w depth) → (x : Item) → Part x f.items → is_target always n (target_of x) ≡ true
      → is_some (cell_write n x) ≡ true
  write_there n w depth d (item.always_cell condition x index value) p t =
      when_there x.name n (let r : Write = record { enable = net_operand condition; index = net_operand index; value = net_operand value } in r) t
  write_there n w depth d (item.always x next) p t =
      let r = as_declared_register (item.always x next) p x (inl refl) in
      let q = same_shape n (memory w depth) (register r.0) d (subst (λ z. shape_in (all_declared f) z ≡ Some (register r.0)) (equal_of_bytes_eq x.name n t) r.2) in
      absurd (cc)
  write_there n w depth d (item.wire range x) p t = absurd (cc)
  write_there n w depth d _ p t = absurd (cc)

  -- the operands of a write to a memory of this width, with an index of this many bits
  record WriteFits (w bits : ℕ) (r : Write) : Type 0 where
    enable : IsOperand last_scope 1 r.enable
    index : IsOperand last_scope bits r.index
    value : IsOperand last_scope w r.value

  write_fits : AllByRecursion HasParts f.items → (n : Name) (w depth b : ℕ) → shape_in (all_declared f) n ≡ Some (memory w depth) → depth ≡ 2 ^ b → (x : Item) (p : Part x f.items)
      (v : Write) → cell_write n x ≡ Some v → WriteFits w b v
  write_fits two n w depth b d power (item.always_cell condition x index value) p v e =
      let a = above_of f.ports p.before in
      let y = item.always_cell condition x index value in
      let i = item_in f y p in
      let u : Use = record { manner = as_memory; name = x } in
      let written : Write = record { enable = net_operand condition; index = net_operand index; value = net_operand value } in
      let g = when_given x.name n written v e in
      let r = as_declared_memory (item.always_cell condition x index value) p x
      (among_right u (operand_uses condition) (u ∷ (operand_uses index ++ operand_uses value)) (inl refl)) in
      let us = all_parts (IsGoodUse a) (operand_uses condition) (u ∷ (operand_uses index ++ operand_uses value)) (good_uses f h a (item.always_cell condition x index value) i) in
      let vs = all_parts (IsGoodUse a) (operand_uses index) (operand_uses value) us.1.1 in
      let cs = all_parts (λ c. constant_fits c ≡ true) (operand_constants condition) (operand_constants index ++ operand_constants value)
      (good_constants f h a (item.always_cell condition x index value) i) in
      let ds = all_parts (λ c. constant_fits c ≡ true) (operand_constants index) (operand_constants value) cs.1 in
      let ps = good_pairs f h a (item.always_cell condition x index value) (record { setting = always; name = x }) i refl in
      let c = operand_wide f h p.before (item.always_cell condition x index value ∷ p.after) p.is condition us.0 cs.0 in
      let k = operand_wide f h p.before (item.always_cell condition x index value ∷ p.after) p.is index vs.0 ds.0 in
      let z = operand_wide f h p.before (item.always_cell condition x index value ∷ p.after) p.is value vs.1 ds.1 in
      let q = same_shape n (memory w depth) (memory r.0 r.1) d (subst (λ m. shape_in (all_declared f) m ≡ Some (memory r.0 r.1)) g.0 r.3) in
      let deep : r.1 ≡ 2 ^ b = sym (ap depth_of q) ∙ power in
      let above : shape_above a x.name ≡ Some (memory r.0 (2 ^ b)) = r.2 ∙ ap (λ m. Some (memory r.0 m)) deep in
      let one : c.width ≡ 1 = equal (operand_width (known_above a) condition) (Some 1) c.width 1 c.is refl ps.0 in
      let wide : r.0 ≡ z.width = equal (memory_width (shape_above a x.name)) (operand_width (known_above a) value) r.0 z.width (ap memory_width r.2) z.is ps.1.0 in
      let bits : k.width ≡ b = good_index f h a (item.always_cell condition x index value) i x index (inl refl) r.0 b k.width above k.is in
      let width : w ≡ z.width = ap shape_width q ∙ wide in
      subst (λ m. WriteFits w b m) g.1
      (record {
        enable = operand_last two (item.always_cell condition x index value) p condition 1 (c.is ∙ ap (λ m. Some m) one) cs.0;
        index = operand_last two (item.always_cell condition x index value) p index b (k.is ∙ ap (λ m. Some m) bits) ds.0;
        value = operand_last two (item.always_cell condition x index value) p value w (z.is ∙ ap (λ m. Some m) (sym width)) ds.1;
      })
  write_fits two n w depth b d power (item.always x next) p v e = absurd (cc)
  write_fits two n w depth b d power _ p v e = absurd (cc)

  abbrev no_write : Write
  no_write = record { enable = nothing; index = nothing; value = nothing }

  first_write : AllByRecursion HasParts f.items → (n : Name) (w depth b : ℕ) → shape_in (all_declared f) n ≡ Some (memory w depth) → depth ≡ 2 ^ b → is_set always n f.items ≡ true
      → WriteFits w b (unwrap_or (first_given (cell_write n) f.items) no_write)
  first_write two n w depth b d power t =
      let g = given (λ x. is_target always n (target_of x)) (cell_write n) f.items (write_there n w depth d) t in
      subst (λ o. WriteFits w b (unwrap_or o no_write)) (sym g.first) (write_fits two n w depth b d power g.item g.part g.value g.gives)

  memories_fit : AllByRecursion HasParts f.items → (d : Declaration) (s : Shape) → declared_shape d s
      → AllByRecursion (IsMemory last_scope) (shape_memories d.name.name s f.items)
  memories_fit two d (memory w depth) m =
      let s = shape_there d (memory w depth) m in
      let fine = fine_shape f h d.name.name (memory w depth) s in
      let b = fine.1.0 in
      let r = first_write two d.name.name w depth b s fine.1.1.2 (set_there d (memory w depth) always m refl) in (
        record {
          bits = b;
          depth = fine.1.1;
          start = first_start d.name.name (memory w depth) s (set_there d (memory w depth) initial m refl);
          enable = r.enable;
          index = r.index;
          value = r.value;
        },
        tt,
      )
  memories_fit two d (input w) m = tt
  memories_fit two d _ m = tt

  pub writes_are : AllByRecursion HasParts f.items → AllByRecursion (IsMemory last_scope) (netlist_of f).memories
  writes_are two =
      all_flat (IsMemory last_scope) (λ d. shape_memories d.name.name d.shape f.items) (all_declared f) (λ d m. memories_fit two d d.shape (refl, m))
