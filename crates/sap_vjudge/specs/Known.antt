-- What is known of a module's names when its ports and items have been read down to a place.
use Rattle.std.specs.Prelude.{ℕ, ◌+◌, List, [], ◌∷◌, true, false, ◌&&◌, ◌||◌, if◌then◌else◌, Some, None}
use Rattle.std.specs.Option.{option_or}
use Rattle.std.specs.Str.{bytes_eq}
use Rattle.sap_vtext.specs.Items.{Port, Item}
use Rattle.sap_vtext.specs.Items as item
use Rattle.sap_vtext.specs.Names.{Shape, wire, register, memory, port_shape, Setting, assign, initial, always, same_setting, Known}

-- Nothing is declared or set.
abbrev pub nothing_known : Known
nothing_known = record { shape = λ n. None; set = λ s n. false; integer = false }

-- After a declaration.
abbrev pub with_shape : Known → List ℕ → Shape → Known
with_shape k x shape = record {
  shape = λ n. option_or (k.shape n) (if bytes_eq x n then Some shape
      else None);
  set = k.set;
  integer = k.integer;
}

-- After an `assign`, `initial` or `always`.
abbrev pub with_setting : Known → Setting → List ℕ → Known
with_setting k setting x = record {
  shape = k.shape;
  set = λ s n. k.set s n || (same_setting s setting && bytes_eq x n);
  integer = k.integer;
}

-- The same, and the integer is declared.
abbrev pub with_integer : Known → Known
with_integer k = record { shape = k.shape; set = k.set; integer = true }

-- What is known after a port.
abbrev pub after_port : Known → Port → Known
after_port k p = with_shape k p.name.name (port_shape p.direction (p.range.value + 1))

-- What is known after an item.
abbrev pub after_item : Known → Item → Known
after_item k (item.wire range x) = with_shape k x.name (wire (range.value + 1))
after_item k (item.register range x) = with_shape k x.name (register (range.value + 1))
after_item k (item.memory range x last) = with_shape k x.name (memory (range.value + 1) (last.value + 1))
after_item k (item.integer place) = with_integer k
after_item k (item.assign x right) = with_setting k assign x.name
after_item k (item.initial x value) = with_setting k initial x.name
after_item k (item.initial_cells place bound x value) = with_setting k initial x.name
after_item k (item.always x next) = with_setting k always x.name
after_item k (item.always_cell condition x index value) = with_setting k always x.name

-- What is known after ports.
unfoldable pub after_ports : Known → List Port → Known
after_ports k [] = k
after_ports k (p ∷ ps) = after_ports (after_port k p) ps

-- What is known after items.
unfoldable pub after_items : Known → List Item → Known
after_items k [] = k
after_items k (x ∷ xs) = after_items (after_item k x) xs
