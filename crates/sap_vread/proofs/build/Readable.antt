-- What can be read above an item: the inputs, the registers and the wires that are assigned there.
use Rattle.sap_lemmas.proofs.Common.{◌≡◌, ℕ, ◌+◌, ◌^◌, ◌<◌, ◌≤◌, List, [], ◌∷◌, ◌++◌, Bool, true, false, cond, Option, Some, None, refl, sym, ap, ◌∙◌, subst, inl, inr, ⊎_elim, arith, ◌&&◌, map, flat_map, is_some, nat_lt, nat_le, AllByRecursion, bytes_eq, and_parts, ltb-true, leb-true}
use Rattle.sap_vtext.proofs.FaultsLemmas.{all_alike}
use Rattle.sap_maps.specs.Prelude.{Name, Scope, find}
use Rattle.sap_net.specs.Prelude.{AreDistinct, Shapes, IsWidth, IsOperand, AreValues, AreMemories, first_readable, shapes}
use Rattle.sap_vtext.specs.Items.{Constant, Operand, Port, Item, File}
use Rattle.sap_vtext.specs.Items as item
use Rattle.sap_text.specs.Best.{StandsIn}
use Rattle.sap_vtext.specs.Names.{Shape, input, wire, register, memory, port_shape, port_declaration, item_declarations, Declaration, declarations, shape_in, assign, is_set, known_above}
use Rattle.sap_vtext.specs.Widths.{shape_width, operand_width, constant_fits, constant_width, value_width}
use Rattle.sap_vtext.specs.Faults.{as_value, suits, operand_uses, operand_constants, HasIndex, IsFaultless}
use Rattle.sap_vtext.specs.Modules.{netlist_of, net_operand, first_of}
use Rattle.sap_vtext.proofs.NameLists.{keys, keys_append, key_none, new_keys, found_among, distinct_append, among_cases}
use Rattle.sap_vtext.proofs.Good.{IsGoodUse, above_of}
use Rattle.sap_vread.proofs.build.Entries.{entries, picked, found_entry, distinct_entries, entries_apart, declared_by}
use Rattle.sap_vread.proofs.build.Sound.{names_distinct, small_port, small_range, good_depth, Part, part_of}
use Rattle.sap_vread.proofs.build.Parts.{all_declared, register_entries, input_width, register_width, memory_shape, inputs_are, registers_are, memories_are, item_in, shape_below}

-- Lists.

among_map_back : {A B : Type 0} (g : A → B) (y : B) (xs : List A) → StandsIn y (map g xs) → (x : A) × StandsIn x xs × (y ≡ g x)
among_map_back g y [] m = absurd m
among_map_back g y (x ∷ xs) (inl e) = (x, inl refl, e)
among_map_back g y (x ∷ xs) (inr m) = let r = among_map_back g y xs m in (r.0, inr r.1, r.2)

among_flat : {A B : Type 0} (g : A → List B) (y : B) (xs : List A) → StandsIn y (flat_map g xs) → (x : A) × StandsIn x xs × StandsIn y (g x)
among_flat g y [] m = absurd m
among_flat g y (x ∷ xs) m =
    ⊎_elim (λ p. (x, inl refl, p)) (λ p. let r = among_flat g y xs p in (r.0, inr r.1, r.2)) (among_cases y (g x) (flat_map g xs) m)

found_either : {X : Type 0} (es ds : List (Name × X)) (n : Name) → find (es ++ ds) n ≡ first_of (find es n) (find ds n)
found_either [] ds n = refl
found_either {X = X} (e ∷ es) ds n = by_test (bytes_eq e.0 n) (found_either es ds n) where
  by_test : (b : Bool) → find (es ++ ds) n ≡ first_of (find es n) (find ds n) → cond b (Some e.1) (find (es ++ ds) n) ≡ first_of (cond b (Some e.1) (find es n)) (find ds n)
  by_test true r = refl
  by_test false r = r

-- Values.

-- what can be read has a shape, and is no memory
pub record IsValue (o : Option Shape) (w : ℕ) : Type 0 where
  pub shape : Shape
  pub is : o ≡ Some shape
  pub width : shape_width shape ≡ w
  pub no_memory : picked memory_shape o ≡ None

pub value_of : (o : Option Shape) (b : Bool) (w : ℕ) → value_width o b ≡ Some w → IsValue o w
value_of (Some (input u)) b w e = record { shape = input u; is = refl; width = cc; no_memory = refl }
value_of (Some (register u)) b w e = record { shape = register u; is = refl; width = cc; no_memory = refl }
value_of (Some (wire u)) true w e = record { shape = wire u; is = refl; width = cc; no_memory = refl }
value_of _ b w e = absurd (cc)

value_grows : (o : Option Shape) (b c : Bool) (w : ℕ) → (b ≡ true → c ≡ true) → value_width o b ≡ Some w → value_width o c ≡ Some w
value_grows (Some (input u)) b c w g e = e
value_grows (Some (register u)) b c w g e = e
value_grows (Some (wire u)) true c w g e = ap (value_width (Some (wire u))) (g refl) ∙ e
value_grows _ b c w g e = absurd (cc)

-- a width, and for a memory a depth
abbrev pub IsFine : Shape → Type 0
IsFine (input width) = IsWidth width
IsFine (wire width) = IsWidth width
IsFine (register width) = IsWidth width
IsFine (memory width depth) = IsWidth width × HasIndex depth

pub fine_width : (s : Shape) → IsFine s → IsWidth (shape_width s)
fine_width (memory width depth) h = h.0
fine_width _ h = h

width_of_range : (v : ℕ) → v ≤ 63 → IsWidth (v + 1)
width_of_range v h = (omega arith, omega arith)

-- a constant that fits
pub record IsSmall (c : Constant) : Type 0 where
  pub is : constant_width c ≡ Some c.width
  pub width : IsWidth c.width
  pub value : c.value < 2 ^ c.width

pub small_constant : (c : Constant) → constant_fits c ≡ true → IsSmall c
small_constant c h =
    let p = and_parts (nat_le 1 c.width) (nat_le c.width 64 && nat_lt c.value (2 ^ c.width)) h in
    let q = and_parts (nat_le c.width 64) (nat_lt c.value (2 ^ c.width)) p.1 in
    record {
      is = ap (λ b. cond b (Some c.width) None) h;
      width = (leb-true 1 c.width p.0, leb-true c.width 64 q.0);
      value = ltb-true c.value (2 ^ c.width) q.1;
    }

module _ (f : File) (h : IsFaultless f) where
  fine_port : (p : Port) → StandsIn p f.ports → IsFine (port_shape p.direction (p.range.value + 1))
  fine_port p m = by_direction p.direction where
    by_direction : (d : item.Direction) → IsFine (port_shape d (p.range.value + 1))
    by_direction item.input = width_of_range p.range.value (small_port f h p m)
    by_direction _ = width_of_range p.range.value (small_port f h p m)

  fine_item : (x : Item) → Part x f.items → (d : Declaration) → StandsIn d (item_declarations x) → IsFine d.shape
  fine_item (item.wire range x) p d (inl e) =
      subst (λ z. IsFine z.shape) (sym e) (width_of_range range.value
      (small_range f h (above_of f.ports p.before) (item.wire range x) (item_in f (item.wire range x) p) range (inl refl)))
  fine_item (item.wire range x) p d (inr m) = absurd m
  fine_item (item.register range x) p d (inl e) =
      subst (λ z. IsFine z.shape) (sym e) (width_of_range range.value
      (small_range f h (above_of f.ports p.before) (item.register range x) (item_in f (item.register range x) p) range (inl refl)))
  fine_item (item.register range x) p d (inr m) = absurd m
  fine_item (item.memory range x last) p d (inl e) =
      let a = above_of f.ports p.before in
      let i = item_in f (item.memory range x last) p in
      subst (λ z. IsFine z.shape) (sym e)
      (width_of_range range.value (small_range f h a (item.memory range x last) i range (inl refl)), good_depth f h a range last x i)
  fine_item (item.memory range x last) p d (inr m) = absurd m
  fine_item _ p d m = absurd m

  pub fine_declared : (d : Declaration) → StandsIn d (all_declared f) → IsFine d.shape
  fine_declared d m =
      ⊎_elim
      (λ p. let r = among_map_back port_declaration d f.ports p in subst (λ z. IsFine z.shape) (sym r.2) (fine_port r.0 r.1))
      (λ p. let r = among_flat item_declarations d f.items p in fine_item r.0 (part_of r.0 f.items r.1) d r.2)
      (among_cases d (map port_declaration f.ports) (flat_map item_declarations f.items) m)

  pub fine_shape : (n : Name) (s : Shape) → shape_in (all_declared f) n ≡ Some s → IsFine s
  fine_shape n s e = let r = declared_by (all_declared f) n s e in subst IsFine r.shape (fine_declared r.declaration r.among)

  -- The first names that can be read, and the memories.

  pub memory_found : (n : Name) → find (shapes (netlist_of f)) n ≡ picked memory_shape (shape_in (all_declared f) n)
  memory_found n = ap (λ es. find es n) (memories_are f) ∙ found_entry memory_shape (all_declared f) (names_distinct f h) n

  first_same : first_readable (netlist_of f) ≡ entries input_width (all_declared f) ++ entries register_width (all_declared f)
  first_same =
      ap (λ z. z ++ register_entries (netlist_of f).registers) (inputs_are f) ∙ ap (λ z. entries input_width (all_declared f) ++ z) (registers_are f)

  first_value : (o : Option Shape) → first_of (picked input_width o) (picked register_width o) ≡ value_width o false
  first_value (Some (input w)) = refl
  first_value _ = refl

  pub first_found : (n : Name) → find (first_readable (netlist_of f)) n ≡ value_width (shape_in (all_declared f) n) false
  first_found n =
      let ds = all_declared f in
      let distinct = names_distinct f h in
      ap (λ es. find es n) first_same ∙ found_either (entries input_width ds) (entries register_width ds) n
      ∙ ap (λ o. first_of o (find (entries register_width ds) n)) (found_entry input_width ds distinct n)
      ∙ ap (first_of (picked input_width (shape_in ds n))) (found_entry register_width ds distinct n)
      ∙ first_value (shape_in ds n)

  inputs_apart : (s : Shape) → is_some (input_width s) ≡ true → is_some (register_width s) ≡ false
  inputs_apart (register w) e = absurd (cc)
  inputs_apart _ e = refl

  first_distinct : AreDistinct (keys (first_readable (netlist_of f)))
  first_distinct =
      let ds = all_declared f in
      let distinct = names_distinct f h in
      subst (λ es. AreDistinct (keys es)) (sym first_same)
      (subst (λ ns. AreDistinct ns) (sym (keys_append (entries input_width ds) (entries register_width ds)))
      (distinct_append (keys (entries input_width ds)) (keys (entries register_width ds)) (distinct_entries input_width ds distinct)
      (distinct_entries register_width ds distinct) (entries_apart input_width register_width inputs_apart ds distinct)))

  are_values : (ms : Shapes) (es : Scope) → AreDistinct (keys es) → AllByRecursion (λ e. IsWidth e.1 × (find ms e.0 ≡ None)) es → AreValues ms es
  are_values ms [] d a = tt
  are_values ms (e ∷ es) d a = (a.0.0, key_none es e.0 d.0, a.0.1, are_values ms es d.1 a.1)

  pub values_are : AreValues (shapes (netlist_of f)) (first_readable (netlist_of f))
  values_are =
      let es = first_readable (netlist_of f) in
      are_values (shapes (netlist_of f)) es first_distinct
      (all_alike (λ e. IsWidth e.1 × (find (shapes (netlist_of f)) e.0 ≡ None)) es (λ e m. one e (found_among es (new_keys es first_distinct) e.0 e.1 m))) where
        one : (e : Name × ℕ) → find (first_readable (netlist_of f)) e.0 ≡ Some e.1 → IsWidth e.1 × (find (shapes (netlist_of f)) e.0 ≡ None)
        one e g =
            let v = value_of (shape_in (all_declared f) e.0) false e.1 (sym (first_found e.0) ∙ g) in
            (subst IsWidth v.width (fine_width v.shape (fine_shape e.0 v.shape v.is)), memory_found e.0 ∙ v.no_memory)

  are_memories : (es : Shapes) → AreDistinct (keys es) → AllByRecursion (λ e. IsWidth e.1.0) es → AreMemories es
  are_memories [] d a = tt
  are_memories (e ∷ es) d a = (a.0, key_none es e.0 d.0, are_memories es d.1 a.1)

  memories_distinct : AreDistinct (keys (shapes (netlist_of f)))
  memories_distinct = subst (λ es. AreDistinct (keys es)) (sym (memories_are f)) (distinct_entries memory_shape (all_declared f) (names_distinct f h))

  pub memories_sized : AreMemories (shapes (netlist_of f))
  memories_sized =
      let es = shapes (netlist_of f) in
      are_memories es memories_distinct (all_alike (λ e. IsWidth e.1.0) es (λ e m. one e (found_among es (new_keys es memories_distinct) e.0 e.1 m))) where
        by_shape : (e : Name × (ℕ × ℕ)) (o : Option Shape) → shape_in (all_declared f) e.0 ≡ o → picked memory_shape o ≡ Some e.1 → IsWidth e.1.0
        by_shape e (Some (memory w depth)) s g = let q : w ≡ e.1.0 = pair_first w depth e.1 g in subst IsWidth q (fine_shape e.0 (memory w depth) s).0 where
          pair_first : (w depth : ℕ) (p : ℕ × ℕ) → (let q : ℕ × ℕ = (w, depth) in Some q) ≡ Some p → w ≡ p.0
          pair_first w depth p g = let q : (let r : ℕ × ℕ = (w, depth) in r) ≡ p = cc in ap (λ (z : ℕ × ℕ). z.0) q
        by_shape e _ s g = absurd (cc)

        one : (e : Name × (ℕ × ℕ)) → find (shapes (netlist_of f)) e.0 ≡ Some e.1 → IsWidth e.1.0
        one e g = by_shape e (shape_in (all_declared f) e.0) refl (sym (memory_found e.0) ∙ g)

  -- Operands.

  -- the scope has what can be read where these items stand above
  abbrev pub IsReadable : Scope → List Item → Type 0
  IsReadable sc items = (n : Name) → find sc n ≡ value_width (shape_in (all_declared f) n) (is_set assign n items)

  -- what is assigned in the first items is assigned in the others
  abbrev pub AssignsMore : List Item → List Item → Type 0
  AssignsMore before items = (n : Name) → is_set assign n before ≡ true → is_set assign n items ≡ true

  pub value_below : (before after : List Item) (n : Name) (b : Bool) (w : ℕ) → f.items ≡ before ++ after → value_width (shape_in (declarations f.ports before) n) b ≡ Some w
      → value_width (shape_in (all_declared f) n) b ≡ Some w
  value_below before after n b w e g =
      let v = value_of (shape_in (declarations f.ports before) n) b w g in
      ap (λ o. value_width o b) (shape_below f before after n v.shape e v.is ∙ sym v.is) ∙ g

  pub operand_is : (before after items : List Item) (sc : Scope) → f.items ≡ before ++ after → AssignsMore before items → IsReadable sc items → (o : Operand) (w : ℕ)
      → operand_width (known_above (above_of f.ports before)) o ≡ Some w → AllByRecursion (λ c. constant_fits c ≡ true) (operand_constants o) → IsOperand sc w (net_operand o)
  operand_is before after items sc e more r (item.named x) w g c =
      r x.name
      ∙ value_grows (shape_in (all_declared f) x.name) (is_set assign x.name before) (is_set assign x.name items) w (more x.name)
      (value_below before after x.name (is_set assign x.name before) w e g)
  operand_is before after items sc e more r (item.constant k) w g c =
      let s = small_constant k c.0 in
      let same : Some k.width ≡ Some w = sym s.is ∙ g in
      let q : k.width ≡ w = cc in
      (q, subst (λ z. k.value < 2 ^ z) q s.value)

  pub record IsWide (before : List Item) (o : Operand) : Type 0 where
    pub width : ℕ
    pub is : operand_width (known_above (above_of f.ports before)) o ≡ Some width
    pub fits : IsWidth width

  pub operand_wide : (before after : List Item) → f.items ≡ before ++ after → (o : Operand) → AllByRecursion (IsGoodUse (above_of f.ports before)) (operand_uses o)
      → AllByRecursion (λ c. constant_fits c ≡ true) (operand_constants o) → IsWide before o
  operand_wide before after e (item.constant k) us cs = let s = small_constant k cs.0 in record { width = k.width; is = s.is; fits = s.width }
  operand_wide before after e (item.named x) us cs = by_shape us.0.shape us.0.declared us.0.suits us.0.assigned where
    by_shape : (s : Shape) → shape_in (declarations f.ports before) x.name ≡ Some s → suits as_value s ≡ true
        → ((width : ℕ) → as_value ≡ as_value → s ≡ wire width → is_set assign x.name before ≡ true) → IsWide before (item.named x)
    by_shape (input w) d s g = record {
      width = w;
      is = ap (λ o. value_width o (is_set assign x.name before)) d;
      fits =
          fine_shape x.name (input w) (shape_below f before after x.name (input w) e d);
    }
    by_shape (register w) d s g = record {
      width = w;
      is = ap (λ o. value_width o (is_set assign x.name before)) d;
      fits =
          fine_shape x.name (register w) (shape_below f before after x.name (register w) e d);
    }
    by_shape (wire w) d s g = record {
      width = w;
      is = ap (λ o. value_width o (is_set assign x.name before)) d ∙ ap (value_width (Some (wire w))) (g w refl refl);
      fits = fine_shape x.name (wire w) (shape_below f before after x.name (wire w) e d);
    }
    by_shape (memory w depth) d s g = absurd (cc)
