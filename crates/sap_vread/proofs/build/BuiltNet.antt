-- The lists that are built are those of the file's netlist.
use Rattle.sap_lemmas.proofs.Common.{◌≡◌, ◌∙◌, ℕ, zero, suc, ◌+◌, List, [], ◌∷◌, ◌++◌, length, Bool, true, false, cond, Option, Some, None, refl, sym, ap, ⊎_elim, arith, append_assoc, ◌⊎◌, map, flat_map, unwrap_or, slice_get, bytes_eq, inl, inr, cases_Bool, flat_map-append, map-append}
use Rattle.std.proofs.lemmas.List.{length_push}
use Rattle.sap_maps.specs.Maps.{Name}
use Rattle.sap_net.specs.Net.{net_of}
use Rattle.sap_net.specs.declared.parts.Parts.{Parts}
use Rattle.sap_net.specs.declared.parts.Wire.{Wire}
use Rattle.sap_net.specs.declared.parts.Register.{Register}
use Rattle.sap_net.specs.declared.parts.Memory.{Memory}
use Rattle.sap_vtext.specs.Items as item
use Rattle.sap_vtext.specs.Names.{Shape, wire, register, memory, port_shape, Declaration, port_declaration, item_declarations, declarations, shape_in}
use Rattle.sap_vtext.specs.Widths.{shape_width}
use Rattle.sap_vtext.specs.Modules.{netlist_of, net_operand, net_right, net_port, port_input, net_wires, declared_width, first_of, first_given, when, initial_number, next_operand, cell_write, nothing, net_register, net_memory, written_memory, shape_registers, shape_memories}
use Rattle.sap_vparse.specs.declared.items.File.{File}
use Rattle.sap_vparse.specs.declared.items.Item.{Item}
use Rattle.sap_vparse.specs.declared.items.Port.{Port}
use Rattle.sap_vparse.specs.Views.{direction_of, port_of, ports_of, item_of, items_of, file_of}
use Rattle.sap_vread.specs.Build.Narrow.{narrow, narrow_operand, narrow_right, narrow_port, narrow_item, narrow_file}
use Rattle.sap_vread.specs.Build.Noted.{range_noted, noted, all_noted, ports_noted}
use Rattle.sap_vread.specs.declared.build.noting.Noting.TheVariants.{Range, Start, Next, Write as Writes}
use Rattle.sap_vread.specs.declared.build.noting.Noting.{Noting}
use Rattle.sap_vread.specs.declared.build.tables.Tables.{Tables}
use Rattle.sap_vread.specs.Build.Firsts.{number_of}
use Rattle.sap_vread.specs.Build.Tables.{AreNoted}
use Rattle.sap_vread.specs.Build.Built as b
use Rattle.sap_vread.proofs.build.Entries.{declared_names}
use Rattle.sap_vread.proofs.build.NotedLists.{all_noted-none, all_noted-cons, ports_noted-none, ports_noted-cons}

-- Lists.

abbrev narrow_ports : List Port → List item.Port
narrow_ports ps = map narrow_port (ports_of ps)

abbrev narrow_items : List Item → List item.Item
narrow_items xs = map narrow_item (items_of xs)

-- Names, ports and inputs.

port_names : (ps : List Port) → map (λ p. p.name.name) ps ≡ declared_names (map port_declaration (narrow_ports ps))
port_names [] = refl
port_names (p ∷ ps) = ap (λ z. p.name.name ∷ z) (port_names ps)

item_names : (x : item.Item) → map (λ (d : Declaration). d.name.name) (item_declarations (narrow_item x)) ≡ map (λ (d : Declaration). d.name.name) (item_declarations x)
item_names (item.wire range x) = refl
item_names _ = refl

all_item_names : (xs : List Item) → flat_map (λ x. map (λ (d : Declaration). d.name.name) (item_declarations (item_of x))) xs
    ≡ declared_names (flat_map item_declarations (narrow_items xs))
all_item_names [] = refl
all_item_names (x ∷ xs) =
    ap (λ z. z ++ flat_map (λ y. map (λ (d : Declaration). d.name.name) (item_declarations (item_of y))) xs) (sym (item_names (item_of x)))
    ∙ ap (λ z. map (λ (d : Declaration). d.name.name) (item_declarations (narrow_item (item_of x))) ++ z) (all_item_names xs)
    ∙ sym (map-append (λ (d : Declaration). d.name.name) (item_declarations (narrow_item (item_of x))) (flat_map item_declarations (narrow_items xs)))

pub names_built : (f : File) → map (λ p. p.name.name) f.ports.items ++ flat_map (λ x. map (λ (d : Declaration). d.name.name) (item_declarations (item_of x))) f.items.items
    ≡ (netlist_of (narrow_file (file_of f))).names
names_built f =
    let ps = f.ports.items in
    let xs = f.items.items in
    ap (λ z. z ++ flat_map (λ x. map (λ (d : Declaration). d.name.name) (item_declarations (item_of x))) xs) (port_names ps)
    ∙ ap (λ z. declared_names (map port_declaration (narrow_ports ps)) ++ z) (all_item_names xs)
    ∙ sym (map-append (λ (d : Declaration). d.name.name) (map port_declaration (narrow_ports ps)) (flat_map item_declarations (narrow_items xs)))

ports_built : (ps : List Port) → map (λ p. net_port (narrow_port (port_of p))) ps ≡ map net_port (narrow_ports ps)
ports_built [] = refl
ports_built (p ∷ ps) = ap (λ z. net_port (narrow_port (port_of p)) ∷ z) (ports_built ps)

inputs_built : (ps : List Port) → flat_map (λ p. port_input (narrow_port (port_of p))) ps ≡ flat_map port_input (narrow_ports ps)
inputs_built [] = refl
inputs_built (p ∷ ps) = ap (λ z. port_input (narrow_port (port_of p)) ++ z) (inputs_built ps)

-- Widths.

abbrev range_width : Option ℕ → Option ℕ
range_width None = None
range_width (Some range) = Some (narrow range + 1)

abbrev as_width : Option Shape → Option ℕ
as_width None = None
as_width (Some s) = Some (shape_width s)

range_first : (a c : Option ℕ) → range_width (first_of a c) ≡ first_of (range_width a) (range_width c)
range_first None c = refl
range_first (Some r) c = refl

shape_first : (ds es : List Declaration) (n : Name) → as_width (shape_in (ds ++ es) n) ≡ first_of (as_width (shape_in ds n)) (as_width (shape_in es n))
shape_first [] es n = refl
shape_first (d ∷ ds) es n = by_test (bytes_eq d.name.name n) (shape_first ds es n) where
  by_test : (t : Bool) → as_width (shape_in (ds ++ es) n) ≡ first_of (as_width (shape_in ds n)) (as_width (shape_in es n))
      → as_width (cond t (Some d.shape) (shape_in (ds ++ es) n)) ≡ first_of (as_width (cond t (Some d.shape) (shape_in ds n))) (as_width (shape_in es n))
  by_test true e = refl
  by_test false e = e

-- one declaration more in front
one_more : (t : Bool) (r w : ℕ) (s : Shape) (o : Option ℕ) (p : Option Shape) → w ≡ narrow r + 1 → shape_width s ≡ w → range_width o ≡ as_width p
    → range_width (first_of (cond t (Some r) None) o) ≡ as_width (cond t (Some s) p)
one_more true r w s o p e g h = ap (λ z. Some z) (sym e ∙ sym g)
one_more false r w s o p e g h = h

port_width : (d : item.Direction) (w : ℕ) → shape_width (port_shape d w) ≡ w
port_width item.input w = refl
port_width _ w = refl

ports_wide : (ps : List Port) (n : Name) → range_width (ports_noted n (ports_of ps)) ≡ as_width (shape_in (map port_declaration (narrow_ports ps)) n)
ports_wide [] n = ap range_width (ports_noted-none n)
ports_wide (p ∷ ps) n =
    ap range_width (ports_noted-cons n (port_of p) (ports_of ps))
    ∙ one_more (bytes_eq p.name.name n) p.range.value (narrow p.range.value + 1) (port_shape (direction_of p.direction) (narrow p.range.value + 1)) (ports_noted n (ports_of ps))
    (shape_in (map port_declaration (narrow_ports ps)) n) refl (port_width (direction_of p.direction) (narrow p.range.value + 1)) (ports_wide ps n)

item_wide : (x : item.Item) (n : Name) (o : Option ℕ) (ds : List Declaration) → range_width o ≡ as_width (shape_in ds n)
    → range_width (first_of (range_noted n x) o) ≡ as_width (shape_in (item_declarations (narrow_item x) ++ ds) n)
item_wide (item.wire range x) n o ds e = one_more (bytes_eq x.name n) range.value (narrow range.value + 1) (wire (narrow range.value + 1)) o (shape_in ds n) refl refl e
item_wide (item.register range x) n o ds e = one_more (bytes_eq x.name n) range.value (narrow range.value + 1) (register (narrow range.value + 1)) o (shape_in ds n) refl refl e
item_wide (item.memory range x last) n o ds e =
    one_more (bytes_eq x.name n) range.value (narrow range.value + 1) (memory (narrow range.value + 1) (narrow last.value + 1)) o (shape_in ds n) refl refl e
item_wide (item.integer place) n o ds e = e
item_wide _ n o ds e = e

items_wide : (xs : List Item) (n : Name) (place : ℕ) → range_width (all_noted Range n place (items_of xs)) ≡ as_width (shape_in (flat_map item_declarations (narrow_items xs)) n)
items_wide [] n place = ap range_width (all_noted-none Range n place)
items_wide (x ∷ xs) n place =
    ap range_width (all_noted-cons Range n place (item_of x) (items_of xs))
    ∙ item_wide (item_of x) n (all_noted Range n (place + 1) (items_of xs)) (flat_map item_declarations (narrow_items xs)) (items_wide xs n (place + 1))

abbrev all_ds : File → List Declaration
all_ds f = declarations (narrow_ports f.ports.items) (narrow_items f.items.items)

known_width : (o : Option ℕ) → b.width_of_range o ≡ unwrap_or (range_width o) 0
known_width None = refl
known_width (Some r) = refl

shown_width : (o : Option Shape) → unwrap_or (as_width o) 0 ≡ declared_width o
shown_width None = refl
shown_width (Some s) = refl

width_built : (f : File) (t : Tables) → AreNoted t (file_of f) → (n : Name) → b.width_of_range (number_of t.ranges n) ≡ declared_width (shape_in (all_ds f) n)
width_built f t h n =
    let ps = ports_noted n (ports_of f.ports.items) in
    let xs = all_noted Range n 0 (items_of f.items.items) in
    let pd = map port_declaration (narrow_ports f.ports.items) in
    let xd = flat_map item_declarations (narrow_items f.items.items) in
    ap b.width_of_range (h.ranges n) ∙ known_width (first_of ps xs)
    ∙ ap (λ o. unwrap_or o 0)
    (range_first ps xs ∙ ap (λ o. first_of o (range_width xs)) (ports_wide f.ports.items n) ∙ ap (first_of (as_width (shape_in pd n))) (items_wide f.items.items n 0)
    ∙ sym (shape_first pd xd n))
    ∙ shown_width (shape_in (pd ++ xd) n)

wire_built : (ranges : Name → Option ℕ) (ds : List Declaration) → ((n : Name) → b.width_of_range (ranges n) ≡ declared_width (shape_in ds n)) → (x : item.Item)
    → b.built_wires ranges x ≡ net_wires ds (narrow_item x)
wire_built ranges ds h (item.assign x right) =
    ap (λ w. (let z : Wire = record { name = x.name; width = w; right = net_right (narrow_right right) } in z) ∷ []) (h x.name)
wire_built ranges ds h (item.wire range x) = refl
wire_built ranges ds h _ = refl

wires_built : (ranges : Name → Option ℕ) (ds : List Declaration) → ((n : Name) → b.width_of_range (ranges n) ≡ declared_width (shape_in ds n)) → (xs : List Item)
    → flat_map (λ x. b.built_wires ranges (item_of x)) xs ≡ flat_map (net_wires ds) (narrow_items xs)
wires_built ranges ds h [] = refl
wires_built ranges ds h (x ∷ xs) =
    ap (λ z. z ++ flat_map (λ y. b.built_wires ranges (item_of y)) xs) (wire_built ranges ds h (item_of x))
    ∙ ap (λ z. net_wires ds (narrow_item (item_of x)) ++ z) (wires_built ranges ds h xs)

-- First numbers.

start_same : (n : Name) (x : item.Item) → initial_number n x ≡ initial_number n (narrow_item x)
start_same n (item.wire range x) = refl
start_same n _ = refl

starts_built : (n : Name) (place : ℕ) (xs : List Item) → all_noted Start n place (items_of xs) ≡ first_given (initial_number n) (narrow_items xs)
starts_built n place [] = all_noted-none Start n place
starts_built n place (x ∷ xs) =
    all_noted-cons Start n place (item_of x) (items_of xs)
    ∙ ap (λ o. first_of o (all_noted Start n (place + 1) (items_of xs))) (start_same n (item_of x))
    ∙ ap (first_of (initial_number n (narrow_item (item_of x)))) (starts_built n (place + 1) xs)

-- What stands at a place.

at_length : {A : Type 0} (before : List A) (x : A) (after : List A) (place : ℕ) → length before ≡ place → slice_get (before ++ x ∷ after) place ≡ Some x
at_length [] x after zero e = refl
at_length [] x after (suc place) e = absurd (omega arith)
at_length (y ∷ before) x after zero e = absurd (omega arith)
at_length (y ∷ before) x after (suc place) e = at_length before x after place (omega arith)

-- both say nothing, or one gives the place, and the other what the item says
abbrev Says : {A : Type 0} → (item.Item → A) → Option ℕ → Option A → ℕ → item.Item → Type 0
Says h q g place x = ((q ≡ None) × (g ≡ None)) ⊎ ((q ≡ Some place) × (g ≡ Some (h x)))

module _ {A : Type 0} (noting : Noting) (h : item.Item → A) (other : A) (g : item.Item → Option A) (n : Name)
    (says : (x : item.Item) (place : ℕ) → Says h (noted noting n place x) (g (narrow_item x)) place x) where
  found_at : (before rest : List Item) (place : ℕ) → length before ≡ place
      → b.at_place h other (before ++ rest) (all_noted noting n place (items_of rest)) ≡ unwrap_or (first_given g (narrow_items rest)) other
  found_at before [] place e = ap (b.at_place h other (before ++ [])) (all_noted-none noting n place)
  found_at before (x ∷ rest) place e =
      let later = found_at (before ++ x ∷ []) rest (place + 1) (length_push before x ∙ ap (λ k. k + 1) e) in
      let all = before ++ x ∷ rest in
      let others = all_noted noting n (place + 1) (items_of rest) in
      ap (b.at_place h other all) (all_noted-cons noting n place (item_of x) (items_of rest))
      ∙ ⊎_elim
      (λ p. ap (λ o. b.at_place h other all (first_of o others)) p.0
      ∙ ap (λ z. b.at_place h other z others) (sym (append_assoc before (x ∷ []) rest)) ∙ later
      ∙ sym (ap (λ o. unwrap_or (first_of o (first_given g (narrow_items rest))) other) p.1))
      (λ p. ap (λ o. b.at_place h other all (first_of o others)) p.0 ∙ ap (b.of_item h other) (at_length before x rest place e)
      ∙ sym (ap (λ o. unwrap_or (first_of o (first_given g (narrow_items rest))) other) p.1))
      (says (item_of x) place)

when_says : {A : Type 0} (x n : Name) (place : ℕ) (a : A) → ((when x n place ≡ None) × (when x n a ≡ None)) ⊎ ((when x n place ≡ Some place) × (when x n a ≡ Some a))
when_says x n place a =
    ⊎_elim
    (λ t. inr (ap (λ c. cond c (Some place) None) t, ap (λ c. cond c (Some a) None) t))
    (λ t. inl (ap (λ c. cond c (Some place) None) t, ap (λ c. cond c (Some a) None) t))
    (cases_Bool (bytes_eq x n))

next_says : (n : Name) (x : item.Item) (place : ℕ) → Says b.next_of (noted Next n place x) (next_operand n (narrow_item x)) place x
next_says n (item.always x next) place = when_says x.name n place (net_operand (narrow_operand next))
next_says n _ place = inl (refl, refl)

write_says : (n : Name) (x : item.Item) (place : ℕ) → Says b.write_of (noted Writes n place x) (cell_write n (narrow_item x)) place x
write_says n (item.always_cell condition x index value) place = when_says x.name n place (b.write_of (item.always_cell condition x index value))
write_says n _ place = inl (refl, refl)

module _ (f : File) (t : Tables) (h : AreNoted t (file_of f)) where
  register_built : (n : Name) (range : ℕ) → b.built_register (number_of t.starts) (number_of t.nexts) f.items.items n range
      ≡ net_register n (narrow range + 1) (narrow_items f.items.items)
  register_built n range =
      let xs = f.items.items in
      let start : unwrap_or (number_of t.starts n) 0 ≡ unwrap_or (first_given (initial_number n) (narrow_items xs)) 0 =
      ap (λ o. unwrap_or o 0) (h.starts n ∙ starts_built n 0 xs) in
      let next : b.at_place b.next_of nothing xs (number_of t.nexts n) ≡ unwrap_or (first_given (next_operand n) (narrow_items xs)) nothing =
      ap (b.at_place b.next_of nothing xs) (h.nexts n) ∙ found_at Next b.next_of nothing (next_operand n) n (next_says n) [] xs 0 refl in
      ap (λ s. let r : Register = record { name = n; width = narrow range + 1; start = s; next = b.at_place b.next_of nothing xs (number_of t.nexts n) } in r) start
      ∙ ap (λ o. let r : Register = record { name = n; width = narrow range + 1; start = unwrap_or (first_given (initial_number n) (narrow_items xs)) 0; next = o } in r) next

  memory_built : (n : Name) (range last : ℕ) → b.built_memory (number_of t.starts) (number_of t.writes) f.items.items n range last
      ≡ net_memory n (narrow range + 1) (narrow last + 1) (narrow_items f.items.items)
  memory_built n range last =
      let xs = f.items.items in
      let start : unwrap_or (number_of t.starts n) 0 ≡ unwrap_or (first_given (initial_number n) (narrow_items xs)) 0 =
      ap (λ o. unwrap_or o 0) (h.starts n ∙ starts_built n 0 xs) in
      let write : b.at_place b.write_of b.no_write xs (number_of t.writes n) ≡ unwrap_or (first_given (cell_write n) (narrow_items xs)) b.no_write =
      ap (b.at_place b.write_of b.no_write xs) (h.writes n) ∙ found_at Writes b.write_of b.no_write (cell_write n) n (write_says n) [] xs 0 refl in
      ap (λ s. written_memory n (narrow range + 1) (narrow last + 1) s (b.at_place b.write_of b.no_write xs (number_of t.writes n))) start
      ∙ ap (written_memory n (narrow range + 1) (narrow last + 1) (unwrap_or (first_given (initial_number n) (narrow_items xs)) 0)) write

  port_register : (d : item.Direction) (n : Name) (range : ℕ) → b.port_registers (number_of t.starts) (number_of t.nexts) f.items.items d n range
      ≡ shape_registers n (port_shape d (narrow range + 1)) (narrow_items f.items.items)
  port_register item.input n range = refl
  port_register item.output_wire n range = refl
  port_register item.output_register n range = ap (λ r. r ∷ []) (register_built n range)

  port_registers_built : (ps : List Port) → flat_map
      (λ p. b.port_registers (number_of t.starts) (number_of t.nexts) f.items.items (direction_of p.direction) p.name.name p.range.value) ps
      ≡ flat_map (λ d. shape_registers d.name.name d.shape (narrow_items f.items.items)) (map port_declaration (narrow_ports ps))
  port_registers_built [] = refl
  port_registers_built (p ∷ ps) =
      ap (λ z. z ++ flat_map (λ q. b.port_registers (number_of t.starts) (number_of t.nexts) f.items.items (direction_of q.direction) q.name.name q.range.value) ps)
      (port_register (direction_of p.direction) p.name.name p.range.value)
      ∙ ap (λ z. shape_registers p.name.name (port_shape (direction_of p.direction) (narrow p.range.value + 1)) (narrow_items f.items.items) ++ z) (port_registers_built ps)

  item_register : (x : item.Item) (ds : List Declaration) (rs : List Register) → rs ≡ flat_map (λ d. shape_registers d.name.name d.shape (narrow_items f.items.items)) ds
      → b.item_registers (number_of t.starts) (number_of t.nexts) f.items.items x ++ rs
      ≡ flat_map (λ d. shape_registers d.name.name d.shape (narrow_items f.items.items)) (item_declarations (narrow_item x) ++ ds)
  item_register (item.register range x) ds rs e =
      ap (λ r. r ∷ rs) (register_built x.name range.value) ∙ ap (λ z. net_register x.name (narrow range.value + 1) (narrow_items f.items.items) ∷ z) e
  item_register (item.wire range x) ds rs e = e
  item_register _ ds rs e = e

  item_registers_built : (xs : List Item) → flat_map (λ x. b.item_registers (number_of t.starts) (number_of t.nexts) f.items.items (item_of x)) xs
      ≡ flat_map (λ d. shape_registers d.name.name d.shape (narrow_items f.items.items)) (flat_map item_declarations (narrow_items xs))
  item_registers_built [] = refl
  item_registers_built (x ∷ xs) =
      item_register (item_of x) (flat_map item_declarations (narrow_items xs))
      (flat_map (λ y. b.item_registers (number_of t.starts) (number_of t.nexts) f.items.items (item_of y)) xs) (item_registers_built xs)

  pub registers_built : flat_map (λ p. b.port_registers (number_of t.starts) (number_of t.nexts) f.items.items (direction_of p.direction) p.name.name p.range.value) f.ports.items
      ++ flat_map (λ x. b.item_registers (number_of t.starts) (number_of t.nexts) f.items.items (item_of x)) f.items.items
      ≡ (netlist_of (narrow_file (file_of f))).registers
  registers_built =
      let ps = f.ports.items in
      let xs = f.items.items in
      let g = λ (d : Declaration). shape_registers d.name.name d.shape (narrow_items f.items.items) in
      ap (λ z. z ++ flat_map (λ x. b.item_registers (number_of t.starts) (number_of t.nexts) f.items.items (item_of x)) xs) (port_registers_built ps)
      ∙ ap (λ z. flat_map (λ d. shape_registers d.name.name d.shape (narrow_items f.items.items)) (map port_declaration (narrow_ports ps)) ++ z) (item_registers_built xs)
      ∙ sym (flat_map-append (λ (d : Declaration). shape_registers d.name.name d.shape (narrow_items f.items.items))
      (map port_declaration (narrow_ports ps)) (flat_map item_declarations (narrow_items xs)))

  no_memory : (d : item.Direction) (n : Name) (w : ℕ) (items : List item.Item) (ms : List Memory) → shape_memories n (port_shape d w) items ++ ms ≡ ms
  no_memory item.input n w items ms = refl
  no_memory _ n w items ms = refl

  no_memories : (ps : List Port) (ms : List Memory)
      → flat_map (λ d. shape_memories d.name.name d.shape (narrow_items f.items.items)) (map port_declaration (narrow_ports ps)) ++ ms ≡ ms
  no_memories [] ms = refl
  no_memories (p ∷ ps) ms =
      ap (λ z. z ++ ms) (no_memory (direction_of p.direction) p.name.name (narrow p.range.value + 1) (narrow_items f.items.items)
      (flat_map (λ d. shape_memories d.name.name d.shape (narrow_items f.items.items)) (map port_declaration (narrow_ports ps)))) ∙ no_memories ps ms

  item_memory : (x : item.Item) (ds : List Declaration) (ms : List Memory) → ms ≡ flat_map (λ d. shape_memories d.name.name d.shape (narrow_items f.items.items)) ds
      → b.item_memories (number_of t.starts) (number_of t.writes) f.items.items x ++ ms
      ≡ flat_map (λ d. shape_memories d.name.name d.shape (narrow_items f.items.items)) (item_declarations (narrow_item x) ++ ds)
  item_memory (item.memory range x last) ds ms e =
      ap (λ r. r ∷ ms) (memory_built x.name range.value last.value)
      ∙ ap (λ z. net_memory x.name (narrow range.value + 1) (narrow last.value + 1) (narrow_items f.items.items) ∷ z) e
  item_memory (item.register range x) ds ms e = e
  item_memory _ ds ms e = e

  item_memories_built : (xs : List Item) → flat_map (λ x. b.item_memories (number_of t.starts) (number_of t.writes) f.items.items (item_of x)) xs
      ≡ flat_map (λ d. shape_memories d.name.name d.shape (narrow_items f.items.items)) (flat_map item_declarations (narrow_items xs))
  item_memories_built [] = refl
  item_memories_built (x ∷ xs) =
      item_memory (item_of x) (flat_map item_declarations (narrow_items xs))
      (flat_map (λ y. b.item_memories (number_of t.starts) (number_of t.writes) f.items.items (item_of y)) xs) (item_memories_built xs)

  pub memories_built : flat_map (λ x. b.item_memories (number_of t.starts) (number_of t.writes) f.items.items (item_of x)) f.items.items
      ≡ (netlist_of (narrow_file (file_of f))).memories
  memories_built =
      item_memories_built f.items.items
      ∙ sym (no_memories f.ports.items (flat_map (λ d. shape_memories d.name.name d.shape (narrow_items f.items.items)) (flat_map item_declarations (narrow_items f.items.items))))
      ∙ sym (flat_map-append (λ (d : Declaration). shape_memories d.name.name d.shape (narrow_items f.items.items))
      (map port_declaration (narrow_ports f.ports.items)) (flat_map item_declarations (narrow_items f.items.items)))

  pub net_wires_built : flat_map (λ x. b.built_wires (number_of t.ranges) (item_of x)) f.items.items ≡ (netlist_of (narrow_file (file_of f))).wires
  net_wires_built = wires_built (number_of t.ranges) (all_ds f) (width_built f t h) f.items.items

pub net_built : (f : File) (p : Parts) → p.module_name ≡ f.module_name → p.names.items ≡ (netlist_of (narrow_file (file_of f))).names
    → p.ports.items ≡ map (λ q. net_port (narrow_port (port_of q))) f.ports.items → p.inputs.items ≡ flat_map (λ q. port_input (narrow_port (port_of q))) f.ports.items
    → p.wires.items ≡ (netlist_of (narrow_file (file_of f))).wires
    → p.registers.items ≡ (netlist_of (narrow_file (file_of f))).registers
    → p.memories.items ≡ (netlist_of (narrow_file (file_of f))).memories
    → net_of p ≡ netlist_of (narrow_file (file_of f))
net_built f p a c d e g i j =
    let ports = d ∙ ports_built f.ports.items in
    let inputs = e ∙ inputs_built f.ports.items in
    cc

-- The same through slices of the file's lists.
pub names_whole : (f : File) (ps : List Port) (xs : List Item) (old first last : List (List ℕ)) → ps ≡ f.ports.items → xs ≡ f.items.items → old ≡ []
    → first ≡ old ++ map (λ p. p.name.name) ps → last ≡ first ++ flat_map (λ x. map (λ (d : Declaration). d.name.name) (item_declarations (item_of x))) xs
    → last ≡ (netlist_of (narrow_file (file_of f))).names
names_whole f ps xs old first last p q e a c =
    c ∙ ap (λ z. z ++ flat_map (λ x. map (λ (d : Declaration). d.name.name) (item_declarations (item_of x))) xs)
    (a ∙ ap (λ z. z ++ map (λ r. r.name.name) ps) e ∙ ap (λ z. map (λ r. r.name.name) z) p)
    ∙ ap (λ z. map (λ r. r.name.name) f.ports.items ++ flat_map (λ x. map (λ (d : Declaration). d.name.name) (item_declarations (item_of x))) z) q
    ∙ names_built f

pub registers_whole : (f : File) (t : Tables) → AreNoted t (file_of f) → (ps : List Port) (xs : List Item) (old first last : List Register)
    → ps ≡ f.ports.items → xs ≡ f.items.items
    → old ≡ []
    → first ≡ old ++ flat_map (λ p. b.port_registers (number_of t.starts) (number_of t.nexts) xs (direction_of p.direction) p.name.name p.range.value) ps
    → last ≡ first ++ flat_map (λ x. b.item_registers (number_of t.starts) (number_of t.nexts) xs (item_of x)) xs
    → last ≡ (netlist_of (narrow_file (file_of f))).registers
registers_whole f t h ps xs old first last p q e a c =
    c ∙ ap (λ z. z ++ flat_map (λ x. b.item_registers (number_of t.starts) (number_of t.nexts) xs (item_of x)) xs)
    (a ∙ ap (λ z. z ++ flat_map (λ r. b.port_registers (number_of t.starts) (number_of t.nexts) xs (direction_of r.direction) r.name.name r.range.value) ps) e
    ∙ ap (λ z. flat_map (λ r. b.port_registers (number_of t.starts) (number_of t.nexts) xs (direction_of r.direction) r.name.name r.range.value) z) p)
    ∙ ap (λ ys. flat_map (λ r. b.port_registers (number_of t.starts) (number_of t.nexts) ys (direction_of r.direction) r.name.name r.range.value) f.ports.items
    ++ flat_map (λ x. b.item_registers (number_of t.starts) (number_of t.nexts) ys (item_of x)) ys) q
    ∙ registers_built f t h
