-- What the names of a module are declared as and what sets them, and what is known of them at a place.
use Rattle.std.specs.Prelude.{◌≡◌, ℕ, ◌+◌, List, [], ◌∷◌, ◌++◌, Bool, true, false, ◌&&◌, if◌then◌else◌, Option, Some, None, map, flat_map}
use Rattle.std.specs.List.{list_any}
use Rattle.std.specs.Str.{bytes_eq}
use Rattle.sap_vtext.specs.Items.{Mention, Direction, Port, Item, File}
use Rattle.sap_vtext.specs.Items as item

-- What is declared.

-- A name is declared as an input, a wire or a register with its width, or as a memory with its width and depth.
pub data Shape : Type 0 where
  input wire register : (width : ℕ) → Shape
  memory : (width depth : ℕ) → Shape

-- A declared name and its shape.
pub record Declaration : Type 0 where
  pub name : Mention
  pub shape : Shape

-- The shape that a port declares.
abbrev pub port_shape : Direction → ℕ → Shape
port_shape item.input width = input width
port_shape item.output_register width = register width
port_shape item.output_wire width = wire width

-- The declaration of a port.
abbrev pub port_declaration : Port → Declaration
port_declaration p = record { name = p.name; shape = port_shape p.direction (p.range.value + 1) }

-- The declaration of an item, if it is one.
abbrev pub item_declarations : Item → List Declaration
item_declarations (item.wire range x) = record { name = x; shape = wire (range.value + 1) } ∷ []
item_declarations (item.register range x) = record { name = x; shape = register (range.value + 1) } ∷ []
item_declarations (item.memory range x last) =
    record { name = x; shape = memory (range.value + 1) (last.value + 1) } ∷ []
item_declarations _ = []

-- The declarations of a module, in the order of its text.
abbrev pub declarations : List Port → List Item → List Declaration
declarations ps xs = map port_declaration ps ++ flat_map item_declarations xs

-- `shape_in` is what the first of these declarations that has the name declares it as.
abbrev pub shape_in : List Declaration → List ℕ → Option Shape
shape_in [] n = None
shape_in (d ∷ ds) n = if bytes_eq d.name.name n then Some d.shape else shape_in ds n

-- What comes before an item: all ports, and the items above it.
pub record Above : Type 0 where
  pub ports : List Port
  pub items : List Item

-- `x` is an item of the file, and `above` is what comes before it.
pub record IsItemOf (f : File) (above : Above) (x : Item) : Type 0 where
  pub below : List Item
  pub ports : above.ports ≡ f.ports
  pub items : f.items ≡ above.items ++ x ∷ below

-- The shape of a name that is declared above.
abbrev pub shape_above : Above → List ℕ → Option Shape
shape_above above n = shape_in (declarations above.ports above.items) n

-- What is set.

-- Three kinds of items set what they name.
pub data Setting : Type 0 where
  assign initial always : Setting

-- A name that is set, and how.
pub record Target : Type 0 where
  pub setting : Setting
  pub name : Mention

-- The name that an item sets.
abbrev pub target_of : Item → Option Target
target_of (item.assign x right) = Some (record { setting = assign; name = x })
target_of (item.initial x value) = Some (record { setting = initial; name = x })
target_of (item.initial_cells place bound x value) = Some (record { setting = initial; name = x })
target_of (item.always x next) = Some (record { setting = always; name = x })
target_of (item.always_cell condition x index value) = Some (record { setting = always; name = x })
target_of _ = None

-- The two ways of setting are the same.
abbrev pub same_setting : Setting → Setting → Bool
same_setting assign assign = true
same_setting initial initial = true
same_setting always always = true
same_setting _ _ = false

-- The target is this name, set in this way.
abbrev pub is_target : Setting → List ℕ → Option Target → Bool
is_target s n None = false
is_target s n (Some t) = same_setting s t.setting && bytes_eq t.name.name n

-- One of the items is an `assign`, `initial` or `always` of the name.
abbrev pub is_set : Setting → List ℕ → List Item → Bool
is_set s n xs = list_any (λ x. is_target s n (target_of x)) xs

-- The item declares the integer.
abbrev pub is_integer : Item → Bool
is_integer (item.integer place) = true
is_integer _ = false

-- One of the items declares the integer.
abbrev pub has_integer : List Item → Bool
has_integer xs = list_any is_integer xs

-- What is known.

-- It is known what a name is first declared as, whether it is set, and whether `integer i` is there.
pub record Known : Type 0 where
  pub shape : List ℕ → Option Shape
  pub set : Setting → List ℕ → Bool
  pub integer : Bool

-- `known_above` is what is known where this stands above.
abbrev pub known_above : Above → Known
known_above above = record {
  shape = shape_above above;
  set = λ s n. is_set s n above.items;
  integer = has_integer above.items;
}
