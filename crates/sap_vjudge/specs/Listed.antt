-- The faults of a module, listed in the order in which they are looked for: each item's faults by what is known where
-- it stands.
use Rattle.std.specs.Prelude.{ℕ, ◌+◌, ◌^◌, List, [], ◌∷◌, ◌++◌, Bool, true, false, not, ◌&&◌, ◌||◌, ◌==◌, nat_lt, nat_le, Option, Some, None, is_some, map, flat_map}
use Rattle.std.specs.List.{list_any}
use Rattle.std.specs.Int.{is_power_of_two}
use Rattle.sap_vtext.specs.Items.{Mention, Number, Constant, Operand, Right, Port, Item, File}
use Rattle.sap_vtext.specs.Items as item
use Rattle.sap_vtext.specs.Names.{Shape, wire, memory, Declaration, port_declaration, item_declarations, Setting, assign, initial, always, Target, target_of, Known}
use Rattle.sap_vtext.specs.Widths.{shape_width, constant_fits, operand_width, parts_width, pairs}
use Rattle.sap_vtext.specs.Faults.{is_settable, needs, Manner, as_value, Use, uses, suits, constants, ranges, indexes, operand_place}
use Rattle.sap_vjudge.specs.declared.code.Code.TheVariants.{V3, V4, V5, V6, V7}
use Rattle.sap_vjudge.specs.Best.{Fault, fault_if}
use Rattle.sap_vjudge.specs.Known.{nothing_known, after_port, after_ports, after_item, after_items}

-- What is declared or set a second time, and the `integer` of a `for`.

-- V3 where the name is declared already.
abbrev pub twice_faults : Known → Declaration → List Fault
twice_faults k d = fault_if (is_some (k.shape d.name.name)) V3 d.name.place

-- V3 where the name is set already in this way.
abbrev pub target_faults : Known → Option Target → List Fault
target_faults k None = []
target_faults k (Some t) = fault_if (is_settable (k.shape t.name.name) && k.set t.setting t.name.name) V3 t.name.place

-- The faults of declarations.
unfoldable pub declarations_faults : Known → List Declaration → List Fault
declarations_faults k ds = flat_map (twice_faults k) ds

-- V3 where the integer is declared twice, V4 where a loop stands before it.
abbrev pub integer_faults : Known → Item → List Fault
integer_faults k (item.integer place) = fault_if k.integer V3 place
integer_faults k (item.initial_cells place bound x value) = fault_if (not k.integer) V4 place
integer_faults k _ = []

-- What is used.

-- An operand that is a wire not assigned before.
abbrev pub is_unassigned : Manner → Shape → Bool → Bool
is_unassigned as_value (wire width) assigned = not assigned
is_unassigned _ _ assigned = false

-- V4 where the name isn't declared or not yet assigned, V7 where its shape doesn't suit the use.
abbrev pub shape_faults : Manner → Option Shape → Bool → ℕ → List Fault
shape_faults manner None assigned place = fault_if true V4 place
shape_faults manner (Some shape) assigned place =
    fault_if (is_unassigned manner shape assigned) V4 place ++ fault_if (not (suits manner shape)) V7 place

-- The faults of a use.
abbrev pub use_faults : Known → Use → List Fault
use_faults k u = shape_faults u.manner (k.shape u.name.name) (k.set assign u.name.name) u.name.place

-- The use of a name in a manner.
abbrev pub used : Manner → Mention → Use
used manner x = record { manner = manner; name = x }

-- The faults of uses.
unfoldable pub uses_faults : Known → List Use → List Fault
uses_faults k us = flat_map (use_faults k) us

-- Numbers and widths.

-- V5 where a range is wider than 64 bits.
abbrev pub range_faults : Number → List Fault
range_faults n = fault_if (nat_lt 63 n.value) V5 n.place

-- The faults of ranges.
unfoldable pub ranges_faults : List Number → List Fault
ranges_faults ns = flat_map range_faults ns

-- V5 where a constant doesn't fit its width.
abbrev pub constant_faults : Constant → List Fault
constant_faults c = fault_if (not (constant_fits c)) V5 c.place

-- The faults of constants.
unfoldable pub constants_faults : List Constant → List Fault
constants_faults cs = flat_map constant_faults cs

-- Both widths are there, and they differ.
abbrev pub differ : Option ℕ × Option ℕ → Bool
differ (Some u, Some w) = not (u == w)
differ _ = false

-- The width is known and above 64.
abbrev pub too_wide : Option ℕ → Bool
too_wide (Some width) = nat_lt 64 width
too_wide None = false

-- The right side is a concatenation above 64 bits.
abbrev pub right_too_wide : Known → Right → Bool
right_too_wide k (item.concat parts) = too_wide (parts_width k parts)
right_too_wide k _ = false

-- The item assigns a concatenation above 64 bits.
abbrev pub item_too_wide : Known → Item → Bool
item_too_wide k (item.assign x right) = right_too_wide k right
item_too_wide k _ = false

-- V5 at the name that is set, where the test holds.
abbrev pub at_target : Bool → Option Target → List Fault
at_target test None = []
at_target test (Some t) = fault_if test V5 t.name.place

-- Two widths differ that have to be equal, or a `{}` is too wide.
abbrev pub item_differs : Known → Item → Bool
item_differs k x = list_any differ (pairs k x) || item_too_wide k x

-- V5 at the name that is set, where the widths of the item differ.
abbrev pub target_width_faults : Known → Item → List Fault
target_width_faults k x = at_target (item_differs k x) (target_of x)

-- V5 where a slice lies outside its name's width.
abbrev pub past_shape : Option Shape → ℕ → ℕ → ℕ → List Fault
past_shape None high low place = []
past_shape (Some shape) high low place = fault_if (not (nat_le low high && nat_lt high (shape_width shape))) V5 place

-- V5 where the right side is a slice outside its name's width.
abbrev pub right_slice_faults : Known → Right → List Fault
right_slice_faults k (item.slice x high low) = past_shape (k.shape x.name) high low x.place
right_slice_faults k _ = []

-- V5 where the item assigns such a slice.
abbrev pub slice_faults : Known → Item → List Fault
slice_faults k (item.assign x right) = right_slice_faults k right
slice_faults k _ = []

-- The width faults of an item.
abbrev pub widths_faults : Known → Item → List Fault
widths_faults k x = target_width_faults k x ++ slice_faults k x

-- Memories.

-- The depth is a power of two from 2 to 4096.
abbrev pub is_depth : ℕ → Bool
is_depth depth = is_power_of_two depth && (nat_le 2 depth && nat_le depth 4096)

-- V7 where a memory's depth is none.
abbrev pub depth_faults : Item → List Fault
depth_faults (item.memory range x last) = fault_if (not (is_depth (last.value + 1))) V7 last.place
depth_faults _ = []

-- V7 where the bound of a loop isn't the memory's depth.
abbrev pub other_bound : Option Shape → Number → List Fault
other_bound (Some (memory width depth)) bound = fault_if (not (bound.value == depth)) V7 bound.place
other_bound _ bound = []

-- V7 where an item's loop has another bound.
abbrev pub bound_faults : Known → Item → List Fault
bound_faults k (item.initial_cells place bound x value) = other_bound (k.shape x.name) bound
bound_faults k _ = []

-- A width of an index that isn't that of a depth.
abbrev pub is_other : ℕ → ℕ → Bool
is_other depth width = is_power_of_two depth && not (depth == 2 ^ width)

-- V7 where an index isn't as wide as the depth asks.
abbrev pub depth_index : ℕ → Option ℕ → ℕ → List Fault
depth_index depth (Some width) place = fault_if (is_other depth width) V7 place
depth_index depth None place = []

-- V7 where the index of a memory isn't as wide as its depth asks.
abbrev pub other_index : Option Shape → Option ℕ → ℕ → List Fault
other_index (Some (memory width depth)) given place = depth_index depth given place
other_index _ given place = []

-- The faults of an index.
abbrev pub index_faults : Known → Mention × Operand → List Fault
index_faults k p = other_index (k.shape p.0.name) (operand_width k p.1) (operand_place p.1)

-- The faults of indexes.
unfoldable pub indexes_faults : Known → List (Mention × Operand) → List Fault
indexes_faults k ps = flat_map (index_faults k) ps

-- All of them.

-- An item's faults of declaring and setting.
abbrev pub declared_faults : Known → Item → List Fault
declared_faults k x = declarations_faults k (item_declarations x)
    ++ (target_faults k (target_of x) ++ integer_faults k x)

-- An item's faults of widths.
abbrev pub sized_faults : Known → Item → List Fault
sized_faults k x = ranges_faults (ranges x) ++ (constants_faults (constants x) ++ widths_faults k x)

-- An item's faults of memories.
abbrev pub memory_faults : Known → Item → List Fault
memory_faults k x = depth_faults x ++ (bound_faults k x ++ indexes_faults k (indexes x))

-- The faults of an item.
unfoldable pub item_faults : Known → Item → List Fault
item_faults k x = declared_faults k x ++ (uses_faults k (uses x) ++ (sized_faults k x ++ memory_faults k x))

-- The faults of a port.
unfoldable pub port_faults : Known → Port → List Fault
port_faults k p = twice_faults k (port_declaration p) ++ range_faults p.range

-- The faults of ports, each after those before it.
unfoldable pub ports_faults : Known → List Port → List Fault
ports_faults k [] = []
ports_faults k (p ∷ ps) = port_faults k p ++ ports_faults (after_port k p) ps

-- The faults of items, each after those before it.
unfoldable pub items_faults : Known → List Item → List Fault
items_faults k [] = []
items_faults k (x ∷ xs) = item_faults k x ++ items_faults (after_item k x) xs

-- A declaration's setting that isn't there.
abbrev pub lacks : Known → Declaration → Setting → Bool
lacks k d s = needs d.shape s && not (k.set s d.name.name)

-- V6 where a name isn't set in each way that its shape asks for.
abbrev pub unset_faults : Known → Declaration → List Fault
unset_faults k d = fault_if (lacks k d assign || (lacks k d initial || lacks k d always)) V6 d.name.place

-- The declaration of a name and a shape.
abbrev pub declaration_of : Mention → Shape → Declaration
declaration_of x shape = record { name = x; shape = shape }

-- The faults of names that aren't set.
unfoldable pub unsets_faults : Known → List Declaration → List Fault
unsets_faults k ds = flat_map (unset_faults k) ds

-- The faults of ports that aren't set.
unfoldable pub ports_unset : Known → List Port → List Fault
ports_unset k ps = unsets_faults k (map port_declaration ps)

-- The faults of items' names that aren't set.
unfoldable pub items_unset : Known → List Item → List Fault
items_unset k xs = unsets_faults k (flat_map item_declarations xs)

-- What is known at the end of a module.
abbrev pub known_at_end : File → Known
known_at_end f = after_items (after_ports nothing_known f.ports) f.items

-- The faults of a module.
unfoldable pub file_faults : File → List Fault
file_faults f =
    ports_faults nothing_known f.ports
    ++ (items_faults (after_ports nothing_known f.ports) f.items
    ++ (ports_unset (known_at_end f) f.ports ++ items_unset (known_at_end f) f.items))
