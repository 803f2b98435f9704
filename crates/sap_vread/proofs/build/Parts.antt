-- The names of a netlist's parts are those that are declared as such.
use Rattle.sap_lemmas.proofs.Common.{◌≡◌, ℕ, ◌+◌, List, [], ◌∷◌, ◌++◌, length, take, Bool, true, false, cond, Option, Some, None, refl, sym, ap, ◌∙◌, subst, inl, inr, ⊎_elim, append-nil, append_assoc, ◌||◌, map, flat_map, filter, is_some, AllByRecursion, list_any, bytes_eq, cases_Bool, bytes_eq_symmetric, equal_of_bytes_eq, flat_map-append}
use Rattle.sap_net.proofs.NamesLemmas.{among_append}
use Rattle.sap_maps.specs.Prelude.{Name, Scope}
use Rattle.sap_net.specs.Prelude.{is_among, Shapes, input_names, wire_names, register_names, memory_names, shapes, PortShows, is_input}
use Rattle.sap_net.specs.declared.parts.Input.{Input}
use Rattle.sap_net.specs.declared.parts.Wire.{Wire}
use Rattle.sap_net.specs.declared.parts.Register.{Register}
use Rattle.sap_net.specs.declared.parts.Memory.{Memory}
use Rattle.sap_vtext.specs.Items.{Direction, Port, Item, File}
use Rattle.sap_vtext.specs.Items as item
use Rattle.sap_text.specs.Best.{StandsIn}
use Rattle.sap_vtext.specs.Names.{Shape, input, wire, register, memory, port_shape, port_declaration, item_declarations, Declaration, declarations, shape_in, IsItemOf, assign, is_target, target_of, is_set}
use Rattle.sap_vtext.specs.Faults.{as_wire, suits, needs, Use, IsFaultless}
use Rattle.sap_vtext.specs.Modules.{net_kind, net_port, net_input, port_input, net_wires, shape_registers, shape_memories, netlist_of}
use Rattle.sap_vtext.proofs.NameLists.{keys, keys_map, among_left, among_mapped}
use Rattle.sap_vtext.proofs.Good.{above_of}
use Rattle.sap_vread.proofs.build.Entries.{declared_names, add_entry, entries, entries_append, picked, key_picked, in_order, own_shape, shape_known, shape_kept, declared_by}
use Rattle.sap_vread.proofs.build.Sound.{names_distinct, good_use, all_set, Part}

abbrev pub input_width : Shape → Option ℕ
input_width (input width) = Some width
input_width _ = None

abbrev pub wire_width : Shape → Option ℕ
wire_width (wire width) = Some width
wire_width _ = None

abbrev pub register_width : Shape → Option ℕ
register_width (register width) = Some width
register_width _ = None

abbrev pub memory_shape : Shape → Option (ℕ × ℕ)
memory_shape (memory width depth) = Some (width, depth)
memory_shape _ = None

abbrev pub all_declared : File → List Declaration
all_declared f = declarations f.ports f.items

-- Inputs, registers and memories as entries.

abbrev pub input_entries : List Input → Scope
input_entries xs = map (λ x. (x.name, x.width)) xs

abbrev pub register_entries : List Register → Scope
register_entries xs = map (λ x. (x.name, x.width)) xs

abbrev pub memory_entries : List Memory → Shapes
memory_entries xs = map (λ x. (x.name, (x.width, x.depth))) xs

one_input : (d : Direction) (n : Name) (width : ℕ) (xs : List Input) (ds : List Declaration) → input_entries xs ≡ entries input_width ds
    → input_entries (net_input d n width ++ xs) ≡ add_entry n (input_width (port_shape d width)) (entries input_width ds)
one_input item.input n width xs ds e = ap (λ z. (n, width) ∷ z) e
one_input _ n width xs ds e = e

inputs_of_ports : (ps : List Port) → input_entries (flat_map port_input ps) ≡ entries input_width (map port_declaration ps)
inputs_of_ports [] = refl
inputs_of_ports (p ∷ ps) = one_input p.direction p.name.name (p.range.value + 1) (flat_map port_input ps) (map port_declaration ps) (inputs_of_ports ps)

no_input : (x : Item) (ds : List Declaration) → entries input_width (item_declarations x ++ ds) ≡ entries input_width ds
no_input (item.wire range x) ds = refl
no_input _ ds = refl

no_inputs : (xs : List Item) → entries input_width (flat_map item_declarations xs) ≡ []
no_inputs [] = refl
no_inputs (x ∷ xs) = no_input x (flat_map item_declarations xs) ∙ no_inputs xs

pub inputs_are : (f : File) → input_entries (netlist_of f).inputs ≡ entries input_width (all_declared f)
inputs_are f =
    inputs_of_ports f.ports ∙ sym (append-nil (entries input_width (map port_declaration f.ports)))
    ∙ ap (λ z. entries input_width (map port_declaration f.ports) ++ z) (sym (no_inputs f.items))
    ∙ sym (entries_append input_width (map port_declaration f.ports) (flat_map item_declarations f.items))

one_register : (n : Name) (s : Shape) (items : List Item) (rs : List Register) (ds : List Declaration) → register_entries rs ≡ entries register_width ds
    → register_entries (shape_registers n s items ++ rs) ≡ add_entry n (register_width s) (entries register_width ds)
one_register n (register w) items rs ds e = ap (λ z. (n, w) ∷ z) e
one_register n _ items rs ds e = e

registers_of : (items : List Item) (ds : List Declaration) → register_entries (flat_map (λ d. shape_registers d.name.name d.shape items) ds) ≡ entries register_width ds
registers_of items [] = refl
registers_of items (d ∷ ds) =
    one_register d.name.name d.shape items (flat_map (λ c. shape_registers c.name.name c.shape items) ds) ds (registers_of items ds)

pub registers_are : (f : File) → register_entries (netlist_of f).registers ≡ entries register_width (all_declared f)
registers_are f = registers_of f.items (all_declared f)

one_memory : (n : Name) (s : Shape) (items : List Item) (ms : List Memory) (ds : List Declaration) → memory_entries ms ≡ entries memory_shape ds
    → memory_entries (shape_memories n s items ++ ms) ≡ add_entry n (memory_shape s) (entries memory_shape ds)
one_memory n (memory w depth) items ms ds e = ap (λ z. (n, (w, depth)) ∷ z) e
one_memory n _ items ms ds e = e

memories_of : (items : List Item) (ds : List Declaration) → memory_entries (flat_map (λ d. shape_memories d.name.name d.shape items) ds) ≡ entries memory_shape ds
memories_of items [] = refl
memories_of items (d ∷ ds) =
    one_memory d.name.name d.shape items (flat_map (λ c. shape_memories c.name.name c.shape items) ds) ds (memories_of items ds)

pub memories_are : (f : File) → shapes (netlist_of f) ≡ entries memory_shape (all_declared f)
memories_are f = memories_of f.items (all_declared f)

-- Their names.

pub input_names_are : (f : File) → input_names (netlist_of f) ≡ keys (entries input_width (all_declared f))
input_names_are f = sym (keys_map (λ (x : Input). x.name) (λ (x : Input). x.width) (netlist_of f).inputs) ∙ ap keys (inputs_are f)

pub register_names_are : (f : File) → register_names (netlist_of f) ≡ keys (entries register_width (all_declared f))
register_names_are f = sym (keys_map (λ (x : Register). x.name) (λ (x : Register). x.width) (netlist_of f).registers) ∙ ap keys (registers_are f)

pub memory_names_are : (f : File) → memory_names (netlist_of f) ≡ keys (entries memory_shape (all_declared f))
memory_names_are f =
    sym (keys_map (λ (x : Memory). x.name) (λ (x : Memory). let p : ℕ × ℕ = (x.width, x.depth) in p) (netlist_of f).memories) ∙ ap keys (memories_are f)

one_wire : (ds : List Declaration) (x : Item) (n : Name) (ws : List Wire) (set : Bool) → is_among n (map (λ w. w.name) ws) ≡ set
    → is_among n (map (λ w. w.name) (net_wires ds x ++ ws)) ≡ (is_target assign n (target_of x) || set)
one_wire ds (item.assign x right) n ws set e = ap (λ b. b || is_among n (map (λ w. w.name) ws)) (bytes_eq_symmetric n x.name) ∙ ap (λ b. bytes_eq x.name n || b) e
one_wire ds _ n ws set e = e

pub wires_set : (ds : List Declaration) (xs : List Item) (n : Name) → is_among n (map (λ w. w.name) (flat_map (net_wires ds) xs)) ≡ is_set assign n xs
wires_set ds [] n = refl
wires_set ds (x ∷ xs) n = one_wire ds x n (flat_map (net_wires ds) xs) (is_set assign n xs) (wires_set ds xs n)

-- Items.

pub first_such : (p : Item → Bool) (xs : List Item) → list_any p xs ≡ true → (x : Item) × Part x xs × (p x ≡ true)
first_such p [] e = absurd (cc)
first_such p (x ∷ xs) e =
    ⊎_elim
    (λ t. (x, record { before = []; after = xs; is = refl }, t))
    (λ t.
    let r = first_such p xs (ap (λ b. b || list_any p xs) (sym t) ∙ e) in
    (r.0, record { before = x ∷ r.1.before; after = r.1.after; is = ap (λ z. x ∷ z) r.1.is }, r.2))
    (cases_Bool (p x))

pub item_in : (f : File) (x : Item) (p : Part x f.items) → IsItemOf f (above_of f.ports p.before) x
item_in f x p = record { below = p.after; ports = refl; items = p.is }

map_flat_append : (xs ys : List Item) → flat_map item_declarations (xs ++ ys) ≡ flat_map item_declarations xs ++ flat_map item_declarations ys
map_flat_append xs ys = flat_map-append item_declarations xs ys

-- what is declared above an item is declared in the file
pub shape_below : (f : File) (before after : List Item) (n : Name) (s : Shape) → f.items ≡ before ++ after → shape_in (declarations f.ports before) n ≡ Some s
    → shape_in (all_declared f) n ≡ Some s
shape_below f before after n s e g =
    let all : all_declared f ≡ declarations f.ports before ++ flat_map item_declarations after =
    ap (λ z. map port_declaration f.ports ++ flat_map item_declarations z) e
    ∙ ap (λ z. map port_declaration f.ports ++ z) (map_flat_append before after)
    ∙ sym (append_assoc (map port_declaration f.ports) (flat_map item_declarations before) (flat_map item_declarations after)) in
    ap (λ ds. shape_in ds n) all ∙ shape_kept (declarations f.ports before) (flat_map item_declarations after) n s g

module _ (f : File) (h : IsFaultless f) where
  -- an `assign` is that of a wire
  assigned_wire : (n : Name) (x : Item) → Part x f.items → is_target assign n (target_of x) ≡ true → (width : ℕ) × (shape_in (all_declared f) n ≡ Some (wire width))
  assigned_wire n (item.assign x right) p t =
      let u : Use = record { manner = as_wire; name = x } in
      let g = good_use f h (above_of f.ports p.before) (item.assign x right) (item_in f (item.assign x right) p) u (inl refl) in
      let r = of_shape g.shape g.suits in (
        r.0,
        shape_below f p.before (item.assign x right ∷ p.after) n (wire r.0) p.is
            (subst (λ z. shape_in (declarations f.ports p.before) z ≡ Some (wire r.0)) (equal_of_bytes_eq x.name n t) (g.declared ∙ ap (λ z. Some z) r.1)),
      ) where
        of_shape : (s : Shape) → suits as_wire s ≡ true → (width : ℕ) × (s ≡ wire width)
        of_shape (wire w) e = (w, refl)
        of_shape _ e = absurd (cc)
  assigned_wire n (item.wire range x) p t = absurd (cc)
  assigned_wire n _ p t = absurd (cc)

  -- exactly the wires are assigned
  pub set_wire : (n : Name) → is_set assign n f.items ≡ is_some (picked wire_width (shape_in (all_declared f) n))
  set_wire n =
      ⊎_elim
      (λ t.
      let r = first_such (λ x. is_target assign n (target_of x)) f.items t in
      let w = assigned_wire n r.0 r.1 r.2 in
      t ∙ sym (ap (λ o. is_some (picked wire_width o)) w.1))
      (λ t. t ∙ sym (by_shape (shape_in (all_declared f) n) refl t))
      (cases_Bool (is_set assign n f.items)) where
        by_shape : (o : Option Shape) → shape_in (all_declared f) n ≡ o → is_set assign n f.items ≡ false → is_some (picked wire_width o) ≡ false
        by_shape (Some (wire w)) e t =
            let r = declared_by (all_declared f) n (wire w) e in
            let s = all_set f h r.declaration assign r.among (ap (λ z. needs z assign) r.shape) in
            let q : is_set assign n f.items ≡ true = subst (λ z. is_set assign z f.items ≡ true) r.name s in
            absurd (cc)
        by_shape _ e t = refl

  pub wire_known : (n : Name) → is_among n (wire_names (netlist_of f)) ≡ is_some (picked wire_width (shape_in (all_declared f) n))
  wire_known n = wires_set (all_declared f) f.items n ∙ set_wire n

  pub input_known : (n : Name) → is_among n (input_names (netlist_of f)) ≡ is_some (picked input_width (shape_in (all_declared f) n))
  input_known n = ap (is_among n) (input_names_are f) ∙ key_picked input_width (all_declared f) (names_distinct f h) n

  pub register_known : (n : Name) → is_among n (register_names (netlist_of f)) ≡ is_some (picked register_width (shape_in (all_declared f) n))
  register_known n = ap (is_among n) (register_names_are f) ∙ key_picked register_width (all_declared f) (names_distinct f h) n

  pub memory_known : (n : Name) → is_among n (memory_names (netlist_of f)) ≡ is_some (picked memory_shape (shape_in (all_declared f) n))
  memory_known n = ap (is_among n) (memory_names_are f) ∙ key_picked memory_shape (all_declared f) (names_distinct f h) n

  some_kind : (o : Option Shape)
      → is_some o ≡ (((is_some (picked input_width o) || is_some (picked wire_width o)) || is_some (picked register_width o)) || is_some (picked memory_shape o))
  some_kind (Some (input w)) = refl
  some_kind _ = refl

  four_among : (n : Name) (a b c d : List Name) (p q r s : Bool) → is_among n a ≡ p → is_among n b ≡ q → is_among n c ≡ r → is_among n d ≡ s
      → is_among n (a ++ b ++ c ++ d) ≡ (((p || q) || r) || s)
  four_among n a b c d p q r s i w g m =
      among_append n (a ++ b ++ c) d ∙ ap (λ z. z || is_among n d) (among_append n (a ++ b) c ∙ ap (λ z. z || is_among n c) (among_append n a b))
      ∙ ap (λ z. ((z || is_among n b) || is_among n c) || is_among n d) i
      ∙ ap (λ z. ((p || z) || is_among n c) || is_among n d) w
      ∙ ap (λ z. ((p || q) || z) || is_among n d) g
      ∙ ap (λ z. ((p || q) || r) || z) m

  pub declared_are : (n : Name) → is_among n (netlist_of f).names
      ≡ is_among n (input_names (netlist_of f) ++ wire_names (netlist_of f) ++ register_names (netlist_of f) ++ memory_names (netlist_of f))
  declared_are n =
      sym (shape_known (all_declared f) n) ∙ some_kind (shape_in (all_declared f) n)
      ∙ sym
      (four_among n (input_names (netlist_of f)) (wire_names (netlist_of f)) (register_names (netlist_of f)) (memory_names (netlist_of f)) _ _ _ _
      (input_known n) (wire_known n) (register_known n) (memory_known n))

  pub registers_ordered : filter (λ x. is_among x (register_names (netlist_of f))) (netlist_of f).names ≡ register_names (netlist_of f)
  registers_ordered =
      subst (λ ns. filter (λ x. is_among x ns) (netlist_of f).names ≡ ns) (sym (register_names_are f)) (in_order register_width (all_declared f) (names_distinct f h))

  pub memories_ordered : filter (λ x. is_among x (memory_names (netlist_of f))) (netlist_of f).names ≡ memory_names (netlist_of f)
  memories_ordered =
      subst (λ ns. filter (λ x. is_among x ns) (netlist_of f).names ≡ ns) (sym (memory_names_are f)) (in_order memory_shape (all_declared f) (names_distinct f h))

  -- Ports.

  port_shows : (d : Direction) (n : Name) (width : ℕ) → shape_in (all_declared f) n ≡ Some (port_shape d width) → PortShows (netlist_of f) (net_kind d) n
  port_shows item.input n width e = input_known n ∙ ap (λ o. is_some (picked input_width o)) e
  port_shows item.output_register n width e = register_known n ∙ ap (λ o. is_some (picked register_width o)) e
  port_shows item.output_wire n width e = wire_known n ∙ ap (λ o. is_some (picked wire_width o)) e

  all_mapped : (ps : List Port) → ((p : Port) → StandsIn p ps → PortShows (netlist_of f) (net_kind p.direction) p.name.name)
      → AllByRecursion (λ p. PortShows (netlist_of f) p.kind p.name) (map net_port ps)
  all_mapped [] g = tt
  all_mapped (p ∷ ps) g = (g p (inl refl), all_mapped ps (λ q m. g q (inr m)))

  pub ports_shown : AllByRecursion (λ p. PortShows (netlist_of f) p.kind p.name) (netlist_of f).ports
  ports_shown =
      all_mapped f.ports
      (λ p m. port_shows p.direction p.name.name (p.range.value + 1)
      (own_shape (all_declared f) (names_distinct f h) (port_declaration p)
      (among_left (port_declaration p) (map port_declaration f.ports) (flat_map item_declarations f.items) (among_mapped port_declaration p f.ports m))))

pub ports_are_first : (ps : List Port) (ds : List Declaration)
    → map (λ p. p.name) (map net_port ps) ≡ take (length (map net_port ps)) (declared_names (map port_declaration ps ++ ds))
ports_are_first [] ds = refl
ports_are_first (p ∷ ps) ds = ap (λ z. p.name.name ∷ z) (ports_are_first ps ds)

one_shown : (d : Direction) (n : Name) (width : ℕ) (ps : List Port) (is : List Input)
    → map (λ p. p.name) (filter (λ p. is_input p.kind) (map net_port ps)) ≡ map (λ x. x.name) is
    → cond (is_input (net_kind d)) (n ∷ map (λ p. p.name) (filter (λ p. is_input p.kind) (map net_port ps))) (map (λ p. p.name) (filter (λ p. is_input p.kind) (map net_port ps)))
    ≡ map (λ x. x.name) (net_input d n width ++ is)
one_shown item.input n width ps is e = ap (λ z. n ∷ z) e
one_shown _ n width ps is e = e

shown_name : {A : Type 0} (name : A → Name) (b : Bool) (x : A) (xs : List A) → map name (cond b (x ∷ xs) xs) ≡ cond b (name x ∷ map name xs) (map name xs)
shown_name name true x xs = refl
shown_name name false x xs = refl

pub inputs_are_shown : (ps : List Port) → map (λ p. p.name) (filter (λ p. is_input p.kind) (map net_port ps)) ≡ map (λ x. x.name) (flat_map port_input ps)
inputs_are_shown [] = refl
inputs_are_shown (p ∷ ps) =
    shown_name (λ q. q.name) (is_input (net_kind p.direction)) (net_port p) (filter (λ q. is_input q.kind) (map net_port ps))
    ∙ one_shown p.direction p.name.name (p.range.value + 1) ps (flat_map port_input ps) (inputs_are_shown ps)
