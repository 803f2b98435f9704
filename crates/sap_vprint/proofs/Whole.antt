-- The printed file is good.
use Rattle.sap_lemmas.proofs.Common.{◌≡◌, ℕ, ◌-◌, ◌^◌, ◌≤◌, arith, List, [], ◌∷◌, ◌++◌, Bool, true, false, Option, Some, None, refl, sym, ap, ◌∙◌, subst, inl, inr, ⊎_elim, append_assoc, ◌⊎◌, ◌||◌, map, flat_map, AllByRecursion, bytes_eq, cases_Bool, or_left, or_right, same_power, bytes_eq_symmetric, equal_of_bytes_eq, flat_map-append, append-nil}
use Rattle.std.proofs.lemmas.Bool.{false_from_ne_true}
use Rattle.sap_vtext.proofs.FaultsLemmas.{all_alike, set_append}
use Rattle.sap_maps.specs.Prelude.{Name, find}
use Rattle.sap_net.specs.Prelude.{is_among, AreDistinct, Net, IsWidth, IsRegister, IsMemory, IsNetlist, PortShows, register_names, wire_names, memory_names, first_readable, readable, shapes}
use Rattle.sap_net.specs.declared.parts.Port.{Port}
use Rattle.sap_net.specs.declared.parts.Input.{Input}
use Rattle.sap_net.specs.declared.parts.Register.{Register}
use Rattle.sap_net.specs.declared.parts.Memory.{Memory}
use Rattle.sap_vtext.specs.Items as item
use Rattle.sap_text.specs.Best.{StandsIn}
use Rattle.sap_vtext.specs.Names.{Shape, input, wire, register, memory, port_shape, declarations, item_declarations, shape_in, Setting, assign, initial, always, target_of, is_target, is_set, has_integer}
use Rattle.sap_vtext.specs.Widths.{value_width}
use Rattle.sap_vtext.specs.Faults.{needs}
use Rattle.sap_vtext.proofs.Good.{above_of, AreGood, IsSet, IsGood}
use Rattle.sap_vtext.proofs.NameLists.{found_all, among_name, not_among, all_from}
use Rattle.sap_vprint.specs.Printed.{entities, width_or_0, direction_of, printed_port, declarations_of, integer_of, assign_of, initial_of, initial_cells_of, always_of, always_cell_of, items_of, file_of}
use Rattle.sap_vprint.proofs.Entities.{IsShape, names_apart, entities_fit}
use Rattle.sap_vprint.proofs.Declared.{declare, or_input, all_declared, shape_found, inner_names, inner_is, IsInner, register_found, wire_found, memory_found, found_named, port_found, width_of_port}
use Rattle.sap_vprint.proofs.Operands.{Sees}
use Rattle.sap_vprint.proofs.Stages.{integer_append, good_append, declares_nothing, ports, declarations_good, declarations_set, declarations_integer, integer_good, assigns_good, assigns_seen}
use Rattle.sap_vprint.proofs.Edges.{IsQuiet, Stage, stage_more, AreRegisters, AreStores, initials_good, initial_cells_good, always_good, always_cells_good}

-- what a list of items that are made alike sets
module _ {A : Type 0} (s : Setting) (x : Name) (f : A → item.Item) where
  pub sets_none : ((y : A) → is_target s x (target_of (f y)) ≡ false) → (ys : List A) → is_set s x (map f ys) ≡ false
  sets_none e [] = refl
  sets_none e (y ∷ ys) = ap (λ b. b || is_set s x (map f ys)) (e y) ∙ sets_none e ys

  pub sets_named : (name : A → Name) → ((y : A) → is_target s x (target_of (f y)) ≡ bytes_eq (name y) x) → (ys : List A) → is_set s x (map f ys) ≡ is_among x (map name ys)
  sets_named name e [] = refl
  sets_named name e (y ∷ ys) =
      ap (λ b. b || is_set s x (map f ys)) (e y ∙ bytes_eq_symmetric (name y) x) ∙ ap (λ b. bytes_eq x (name y) || b) (sets_named name e ys)

-- what items that have nothing, as declarations or wires, have together
module _ {B : Type 0} (of : item.Item → List B) where
  pub of_none : {A : Type 0} (f : A → item.Item) → ((y : A) → of (f y) ≡ []) → (ys : List A) → flat_map of (map f ys) ≡ []
  of_none f e [] = refl
  of_none f e (y ∷ ys) = ap (λ z. z ++ flat_map of (map f ys)) (e y) ∙ of_none f e ys

  pub of_integer : of (item.integer 0) ≡ [] → (ms : List Memory) → flat_map of (integer_of ms) ≡ []
  of_integer e [] = refl
  of_integer e (m ∷ ms) = ap (λ z. z ++ []) e

  pub of_behind : (xs ys : List item.Item) → flat_map of xs ≡ [] → flat_map of (xs ++ ys) ≡ flat_map of ys
  of_behind xs ys e = flat_map-append of xs ys ∙ ap (λ z. z ++ flat_map of ys) e

integer_set : (s : Setting) (x : Name) (ms : List Memory) → is_set s x (integer_of ms) ≡ false
integer_set s x [] = refl
integer_set s x (m ∷ ms) = refl

all_pairs : {A : Type 0} (P Q R : A → Type 0) (xs : List A) → AllByRecursion P xs → AllByRecursion Q xs → AllByRecursion R xs → AllByRecursion (λ x. P x × Q x × R x) xs
all_pairs P Q R [] p q r = tt
all_pairs P Q R (x ∷ xs) p q r = ((p.0, q.0, r.0), all_pairs P Q R xs p.1 q.1 r.1)

module _ (n : Net) (h : IsNetlist n) where
  abbrev inner : List Name
  inner = inner_names n h

  abbrev declared : List item.Item
  declared = declarations_of n inner

  abbrev first_items : List item.Item
  first_items = declared ++ integer_of n.memories

  -- inputs and registers are found as such
  inputs_first : (is : List Input) (rs : List Register) (es : List (Name × Shape)) (x : Name) (w : ℕ)
      → find (map (λ i. (i.name, i.width)) is ++ map (λ r. (r.name, r.width)) rs) x ≡ Some w
      → (find (map (λ i. (i.name, input i.width)) is ++ (map (λ r. (r.name, register r.width)) rs ++ es)) x ≡ Some (input w))
      ⊎ (find (map (λ i. (i.name, input i.width)) is ++ (map (λ r. (r.name, register r.width)) rs ++ es)) x ≡ Some (register w))
  inputs_first [] [] es x w f = absurd (cc)
  inputs_first [] (r ∷ rs) es x w f =
      ⊎_elim
      (λ t. let g : Some r.width ≡ Some w = rw t at f in inr (rw t (some_register r.width w g)))
      (λ t. rw t (inputs_first [] rs es x w (rw t at f)))
      (cases_Bool (bytes_eq r.name x)) where
        some_register : (a b : ℕ) → Some a ≡ Some b → Some (register a) ≡ Some (register b)
        some_register a b e = cc
  inputs_first (i ∷ is) rs es x w f =
      ⊎_elim
      (λ t. let g : Some i.width ≡ Some w = rw t at f in inl (rw t (some_input i.width w g)))
      (λ t. rw t (inputs_first is rs es x w (rw t at f)))
      (cases_Bool (bytes_eq i.name x)) where
        some_input : (a b : ℕ) → Some a ≡ Some b → Some (input a) ≡ Some (input b)
        some_input a b e = cc

  pub first_found : (x : Name) (w : ℕ) → find (first_readable n) x ≡ Some w → (b : Bool) → value_width (find (entities n) x) b ≡ Some w
  first_found x w f b =
      ⊎_elim
      (λ e. ap (λ o. value_width o b) e)
      (λ e. ap (λ o. value_width o b) e)
      (inputs_first n.inputs n.registers (map (λ z. (z.name, wire z.width)) n.wires ++ map (λ z. (z.name, memory z.width z.depth)) n.memories) x w f)

  -- memories are found as such
  cell_found : (ms : List Memory) (x : Name) (w d : ℕ) → ◌≡◌ {A = Option (ℕ × ℕ)} (find {X = ℕ × ℕ} (map (λ m. (m.name, (m.width, m.depth))) ms) x) (Some (w, d))
      → (m : Memory) × StandsIn m ms × (m.name ≡ x) × (m.width ≡ w) × (m.depth ≡ d)
  cell_found [] x w d f = absurd (cc)
  cell_found (m ∷ ms) x w d f =
      ⊎_elim
      (λ t. let g : ◌≡◌ {A = Option (ℕ × ℕ)} (Some (m.width, m.depth)) (Some (w, d)) = rw t at f in
      (m, inl refl, equal_of_bytes_eq m.name x t, (some_pair m.width m.depth w d g).0, (some_pair m.width m.depth w d g).1))
      (λ t. let r = cell_found ms x w d (rw t at f) in (r.0, inr r.1, r.2, r.3, r.4))
      (cases_Bool (bytes_eq m.name x)) where
        first_or : Option (ℕ × ℕ) → ℕ
        first_or None = 0
        first_or (Some p) = p.0

        second_or : Option (ℕ × ℕ) → ℕ
        second_or None = 0
        second_or (Some p) = p.1

        some_pair : (a b c e : ℕ) → ◌≡◌ {A = Option (ℕ × ℕ)} (Some (a, b)) (Some (c, e)) → (a ≡ c) × (b ≡ e)
        some_pair a b c e q = (ap first_or q, ap second_or q)

  pub cells_found : (x : Name) (w d : ℕ) → ◌≡◌ {A = Option (ℕ × ℕ)} (find (shapes n) x) (Some (w, d)) → find (entities n) x ≡ Some (memory w d)
  cells_found x w d f =
      let r = cell_found n.memories x w d f in
      subst (λ z. find (entities n) z ≡ Some (memory w d)) r.2
      (memory_found n h r.0 r.1 ∙ ap (λ z. Some (memory z r.0.depth)) r.3 ∙ ap (λ z. Some (memory w z)) r.4)

  pub cells_deep : (x : Name) (w b : ℕ) → ◌≡◌ {A = Option (ℕ × ℕ)} (find (shapes n) x) (Some (w, 2 ^ b)) → IsWidth b
  cells_deep x w b f =
      let s = found_all IsShape (entities n) x (memory w (2 ^ b)) (entities_fit n h) (cells_found x w (2 ^ b) f) in
      let d = s.1 in
      let same = same_power b d.0 d.1.2 in
      let low = d.1.0 in let top = d.1.1 in
      (omega arith, omega arith)

  -- behind the declarations all names are declared
  declared_all : (xs : List item.Item) → flat_map item_declarations xs ≡ [] → declarations (ports n h) (declared ++ xs) ≡ map (declare n) n.names
  declared_all xs e = declares_nothing (ports n h) declared xs e ∙ all_declared n h

  -- what each list sets
  declared_sets : (s : Setting) (x : Name) → is_set s x first_items ≡ false
  declared_sets s x = set_append s x declared (integer_of n.memories)
      ∙ ap (λ b. b || is_set s x (integer_of n.memories)) (declarations_set n h s x inner) ∙ integer_set s x n.memories

  first_seen : Sees n (above_of (ports n h) first_items) (first_readable n)
  first_seen = record {
    found = λ x. ap (λ ds. shape_in ds x) (declared_all (integer_of n.memories) (of_integer item_declarations refl n.memories)) ∙ shape_found n h x;
    values = λ x w f. first_found x w f (is_set assign x first_items);
    cells = cells_found;
    deep = cells_deep;
  }

  pub wires_found : AllByRecursion (λ w. find (entities n) w.name ≡ Some (wire w.width)) n.wires
  wires_found = all_alike (λ w. find (entities n) w.name ≡ Some (wire w.width)) n.wires (wire_found n h)

  abbrev assigned_items : List item.Item
  assigned_items = first_items ++ map assign_of n.wires

  integer_there : (m : Memory) (ms : List Memory) → n.memories ≡ m ∷ ms → has_integer assigned_items ≡ true
  integer_there m ms e =
      integer_append first_items (map assign_of n.wires)
      ∙ or_left (has_integer first_items) _
      (integer_append declared (integer_of n.memories) ∙ or_right (has_integer declared) _ (ap (λ z. has_integer (integer_of z)) e))

  assigned_stage : Stage n h assigned_items
  assigned_stage = record { sees = assigns_seen n h n.wires (first_readable n) first_items first_seen wires_found; integer = integer_there }

  stage_list : {A : Type 0} (f : A → item.Item) → ((x : A) → IsQuiet (f x)) → (xs : List A) (before : List item.Item) → Stage n h before → Stage n h (before ++ map f xs)
  stage_list f q [] before g = subst (Stage n h) (sym (append-nil before)) g
  stage_list f q (x ∷ xs) before g = subst (Stage n h) (append_assoc before (f x ∷ []) (map f xs)) (stage_list f q xs (before ++ (f x ∷ [])) (stage_more n h before (f x) (q x) g))

  abbrev started_items : List item.Item
  started_items = assigned_items ++ map initial_of n.registers

  abbrev filled_items : List item.Item
  filled_items = started_items ++ map initial_cells_of n.memories

  abbrev stepped_items : List item.Item
  stepped_items = filled_items ++ map always_of n.registers

  started_stage : Stage n h started_items
  started_stage = stage_list initial_of (λ r. record { declares = refl; assigns = λ x. refl }) n.registers assigned_items assigned_stage

  filled_stage : Stage n h filled_items
  filled_stage = stage_list initial_cells_of (λ r. record { declares = refl; assigns = λ x. refl }) n.memories started_items started_stage

  stepped_stage : Stage n h stepped_items
  stepped_stage = stage_list always_of (λ r. record { declares = refl; assigns = λ x. refl }) n.registers filled_items filled_stage

  -- what is set at each stage
  assigned_initial : (x : Name) → is_set initial x assigned_items ≡ false
  assigned_initial x = set_append initial x first_items (map assign_of n.wires)
      ∙ ap (λ b. b || is_set initial x (map assign_of n.wires)) (declared_sets initial x) ∙ sets_none initial x assign_of (λ y. refl) n.wires

  started_initial : (x : Name) → is_set initial x started_items ≡ is_among x (register_names n)
  started_initial x =
      set_append initial x assigned_items (map initial_of n.registers) ∙ ap (λ b. b || is_set initial x (map initial_of n.registers)) (assigned_initial x)
      ∙ sets_named initial x initial_of (λ r. r.name) (λ y. refl) n.registers

  filled_always : (x : Name) → is_set always x filled_items ≡ false
  filled_always x =
      set_append always x started_items (map initial_cells_of n.memories)
      ∙ ap (λ b. b || is_set always x (map initial_cells_of n.memories))
      (set_append always x assigned_items (map initial_of n.registers)
      ∙ ap (λ b. b || is_set always x (map initial_of n.registers))
      (set_append always x first_items (map assign_of n.wires)
      ∙ ap (λ b. b || is_set always x (map assign_of n.wires)) (declared_sets always x) ∙ sets_none always x assign_of (λ y. refl) n.wires)
      ∙ sets_none always x initial_of (λ y. refl) n.registers)
      ∙ sets_none always x initial_cells_of (λ y. refl) n.memories

  stepped_always : (x : Name) → is_set always x stepped_items ≡ is_among x (register_names n)
  stepped_always x =
      set_append always x filled_items (map always_of n.registers) ∙ ap (λ b. b || is_set always x (map always_of n.registers)) (filled_always x)
      ∙ sets_named always x always_of (λ r. r.name) (λ y. refl) n.registers

  pub no_register : (m : Memory) → StandsIn m n.memories → is_among m.name (register_names n) ≡ false
  no_register m a = false_from_ne_true (is_among m.name (register_names n))
      (λ t. not_among (register_names n) (memory_names n) m.name (names_apart n h).registers_memories (among_name (λ (z : Memory). z.name) m n.memories a) t)

  pub registers_are : AreRegisters n h n.registers
  registers_are =
      all_pairs (λ r. find (entities n) r.name ≡ Some (register r.width)) (λ r. IsWidth r.width) (IsRegister (readable n)) n.registers
      (all_alike (λ r. find (entities n) r.name ≡ Some (register r.width)) n.registers (register_found n h))
      (all_alike (λ r. IsWidth r.width) n.registers (λ r m. found_all IsShape (entities n) r.name (register r.width) (entities_fit n h) (register_found n h r m)))
      h.nexts

  pub stores_are : AreStores n h n.memories
  stores_are =
      all_pairs (λ m. find (entities n) m.name ≡ Some (memory m.width m.depth)) (λ m. IsWidth m.width) (IsMemory (readable n)) n.memories
      (all_alike (λ m. find (entities n) m.name ≡ Some (memory m.width m.depth)) n.memories (memory_found n h))
      (all_alike (λ m. IsWidth m.width) n.memories (λ m a. (found_all IsShape (entities n) m.name (memory m.width m.depth) (entities_fit n h) (memory_found n h m a)).0))
      h.writes

  pub inner_all : AllByRecursion (IsInner n h) inner
  inner_all = all_from (IsInner n h) inner inner (inner_is n h) (λ x m. m)

  items_good : AreGood (ports n h) [] (items_of n)
  items_good =
      let apart = names_apart n h in
      good_append (ports n h) [] declared _ (declarations_good n h inner [] inner_all)
      (good_append (ports n h) declared (integer_of n.memories) _ (integer_good n h n.memories declared (declarations_integer n h inner))
      (good_append (ports n h) first_items (map assign_of n.wires)
      _ (assigns_good n h n.wires (first_readable n) first_items first_seen (λ x f. declared_sets assign x) h.assigns wires_found)
      (good_append (ports n h) assigned_items (map initial_of n.registers) _
      (initials_good n h n.registers assigned_items assigned_stage
      (all_alike (λ r. is_set initial r.name assigned_items ≡ false) n.registers (λ r m. assigned_initial r.name)) apart.registers registers_are)
      (good_append (ports n h) started_items (map initial_cells_of n.memories) _
      (initial_cells_good n h n.memories [] started_items refl started_stage
      (all_alike (λ m. is_set initial m.name started_items ≡ false) n.memories (λ m a. started_initial m.name ∙ no_register m a)) apart.memories stores_are)
      (good_append (ports n h) filled_items (map always_of n.registers) _
      (always_good n h n.registers filled_items filled_stage
      (all_alike (λ r. is_set always r.name filled_items ≡ false) n.registers (λ r m. filled_always r.name)) apart.registers registers_are)
      (always_cells_good n h n.memories stepped_items stepped_stage
      (all_alike (λ m. is_set always m.name stepped_items ≡ false) n.memories (λ m a. stepped_always m.name ∙ no_register m a)) apart.memories stores_are))))))

  -- everything is set
  behind : (s : Setting) (x : Name) (xs ys : List item.Item) → is_set s x ys ≡ true → is_set s x (xs ++ ys) ≡ true
  behind s x xs ys e = set_append s x xs ys ∙ or_right (is_set s x xs) (is_set s x ys) e

  in_front : (s : Setting) (x : Name) (xs ys : List item.Item) → is_set s x xs ≡ true → is_set s x (xs ++ ys) ≡ true
  in_front s x xs ys e = set_append s x xs ys ∙ or_left (is_set s x xs) (is_set s x ys) e

  behind_integer : (s : Setting) (x : Name) (ys : List item.Item) → is_set s x ys ≡ true → is_set s x (declared ++ (integer_of n.memories ++ ys)) ≡ true
  behind_integer s x ys e = behind s x declared _ (behind s x (integer_of n.memories) ys e)

  assigns_set : (x : Name) → is_among x (wire_names n) ≡ true → is_set assign x (items_of n) ≡ true
  assigns_set x m = behind_integer assign x _ (in_front assign x (map assign_of n.wires) _ (sets_named assign x assign_of (λ w. w.name) (λ y. refl) n.wires ∙ m))

  register_started : (x : Name) → is_among x (register_names n) ≡ true → is_set initial x (items_of n) ≡ true
  register_started x m =
      behind_integer initial x _ (behind initial x (map assign_of n.wires) _
      (in_front initial x (map initial_of n.registers) _ (sets_named initial x initial_of (λ r. r.name) (λ y. refl) n.registers ∙ m)))

  memory_started : (x : Name) → is_among x (memory_names n) ≡ true → is_set initial x (items_of n) ≡ true
  memory_started x m =
      behind_integer initial x _ (behind initial x (map assign_of n.wires) _ (behind initial x (map initial_of n.registers) _
      (in_front initial x (map initial_cells_of n.memories) _ (sets_named initial x initial_cells_of (λ r. r.name) (λ y. refl) n.memories ∙ m))))

  behind_starts : (x : Name) (ys : List item.Item) → is_set always x ys ≡ true
      → is_set always x (declared ++ (integer_of n.memories ++ (map assign_of n.wires ++ (map initial_of n.registers ++ (map initial_cells_of n.memories ++ ys))))) ≡ true
  behind_starts x ys e =
      behind_integer always x _ (behind always x (map assign_of n.wires) _ (behind always x (map initial_of n.registers) _
      (behind always x (map initial_cells_of n.memories) ys e)))

  register_stepped : (x : Name) → is_among x (register_names n) ≡ true → is_set always x (items_of n) ≡ true
  register_stepped x m = behind_starts x _ (in_front always x (map always_of n.registers) _ (sets_named always x always_of (λ r. r.name) (λ y. refl) n.registers ∙ m))

  memory_stepped : (x : Name) → is_among x (memory_names n) ≡ true → is_set always x (items_of n) ≡ true
  memory_stepped x m = behind_starts x _ (behind always x (map always_of n.registers) _ (sets_named always x always_cell_of (λ r. r.name) (λ y. refl) n.memories ∙ m))

  shape_set : (x : Name) (o : Option Shape) → find (entities n) x ≡ o → (s : Setting) → needs (or_input o) s ≡ true → is_set s x (items_of n) ≡ true
  shape_set x (Some (wire w)) f assign e = assigns_set x (found_named n h x (wire w) f)
  shape_set x (Some (register w)) f initial e = register_started x (found_named n h x (register w) f)
  shape_set x (Some (register w)) f always e = register_stepped x (found_named n h x (register w) f)
  shape_set x (Some (memory w d)) f initial e = memory_started x (found_named n h x (memory w d) f)
  shape_set x (Some (memory w d)) f always e = memory_stepped x (found_named n h x (memory w d) f)
  shape_set x _ f s e = absurd (cc)

  names_set : (xs : List Name) → AllByRecursion (IsSet (items_of n)) (map (declare n) xs)
  names_set [] = tt
  names_set (x ∷ xs) = (λ s e. shape_set x (find (entities n) x) refl s e, names_set xs)

  others_declare : flat_map item_declarations
      (integer_of n.memories ++ (map assign_of n.wires
      ++ (map initial_of n.registers ++ (map initial_cells_of n.memories ++ (map always_of n.registers ++ map always_cell_of n.memories))))) ≡ []
  others_declare =
      let ds = item_declarations in
      of_behind ds (integer_of n.memories) _ (of_integer ds refl n.memories)
      ∙ of_behind ds (map assign_of n.wires) _ (of_none ds assign_of (λ y. refl) n.wires)
      ∙ of_behind ds (map initial_of n.registers) _ (of_none ds initial_of (λ y. refl) n.registers)
      ∙ of_behind ds (map initial_cells_of n.memories) _ (of_none ds initial_cells_of (λ y. refl) n.memories)
      ∙ of_behind ds (map always_of n.registers) _ (of_none ds always_of (λ y. refl) n.registers)
      ∙ of_none ds always_cell_of (λ y. refl) n.memories

  pub whole_declared : declarations (ports n h) (items_of n) ≡ map (declare n) n.names
  whole_declared = declared_all _ others_declare

  pub declared_names : (xs : List Name) → map (λ d. d.name.name) (map (declare n) xs) ≡ xs
  declared_names [] = refl
  declared_names (x ∷ xs) = ap (λ z. x ∷ z) (declared_names xs)

  pub port_small : (p : Port) → PortShows n p.kind p.name → width_or_0 (find (entities n) p.name) - 1 ≤ 63
  port_small p m =
      let f = port_found n h p.kind p.name m in
      let shape = port_shape (direction_of p.kind) f.0 in
      let fits = found_all IsShape (entities n) p.name shape (entities_fit n h) f.1 in
      let e : width_or_0 (find (entities n) p.name) ≡ f.0 = ap width_or_0 f.1 ∙ width_of_port n h p.kind f.0 in
      let top = port_top (direction_of p.kind) f.0 fits in
      omega arith where
        port_top : (d : item.Direction) (w : ℕ) → IsShape (port_shape d w) → w ≤ 64
        port_top item.input w g = g.1
        port_top _ w g = g.1

  ports_small : (ps : List Port) → AllByRecursion (λ p. PortShows n p.kind p.name) ps → AllByRecursion (λ p. p.range.value ≤ 63) (map (printed_port n) ps)
  ports_small [] m = tt
  ports_small (p ∷ ps) m = (port_small p m.0, ports_small ps m.1)

  pub printed_good : IsGood (file_of n)
  printed_good = record {
    names = subst (λ ds. AreDistinct (map (λ d. d.name.name) ds)) (sym whole_declared) (subst AreDistinct (sym (declared_names n.names)) h.declared_once);
    ports = ports_small n.ports h.ports_show;
    items = items_good;
    set = subst (AllByRecursion (IsSet (items_of n))) (sym whole_declared) (names_set n.names);
  }
