-- The faults of a module, V3 to V7, each with the place where it stands.
use Rattle.std.specs.Prelude.{◌≡◌, ◌≢◌, ℕ, ◌+◌, ◌^◌, ◌<◌, ◌≤◌, List, [], ◌∷◌, ◌++◌, Bool, true, false, Option, Some, None, IsSome, flat_map}
use Rattle.sap_maps.specs.Ranges.{IsDepth}
use Rattle.sap_text.specs.Best.{StandsIn}
use Rattle.sap_vtext.specs.Items.{Mention, Number, Constant, Operand, Right, Item, Port, File}
use Rattle.sap_vtext.specs.Items as item
use Rattle.sap_vtext.specs.Names.{Shape, wire, register, memory, Declaration, declarations, shape_in, Above, IsItemOf, shape_above, Setting, assign, initial, always, Target, target_of, is_set, has_integer, known_above}
use Rattle.sap_vtext.specs.Widths.{constant_fits, shape_width, operand_width, parts_width, pairs, Differ}

-- What an item uses.

-- How an item uses a name: as a value, sliced or not, as a memory that it reads, or as the wire, register or memory
-- that it sets.
pub data Manner : Type 0 where
  as_value as_cell as_wire as_register as_memory : Manner

-- A use of a name and the manner in which it is used.
pub record Use : Type 0 where
  pub manner : Manner
  pub name : Mention

-- The uses in an operand.
abbrev pub operand_uses : Operand → List Use
operand_uses (item.named x) = record { manner = as_value; name = x } ∷ []
operand_uses (item.constant c) = []

-- The uses in a right side.
abbrev pub right_uses : Right → List Use
right_uses (item.copy x) = operand_uses x
right_uses (item.one op x) = operand_uses x
right_uses (item.two op x y) = operand_uses x ++ operand_uses y
right_uses (item.choose c x y) = operand_uses c ++ (operand_uses x ++ operand_uses y)
right_uses (item.concat xs) = flat_map operand_uses xs
right_uses (item.slice x high low) = record { manner = as_value; name = x } ∷ []
right_uses (item.cell m index) = record { manner = as_cell; name = m } ∷ operand_uses index

-- The uses in an item, in the order of the text.
abbrev pub uses : Item → List Use
uses (item.assign x right) = record { manner = as_wire; name = x } ∷ right_uses right
uses (item.initial x value) = record { manner = as_register; name = x } ∷ []
uses (item.initial_cells place bound x value) = record { manner = as_memory; name = x } ∷ []
uses (item.always x next) = record { manner = as_register; name = x } ∷ operand_uses next
uses (item.always_cell condition x index value) =
    operand_uses condition ++ (record { manner = as_memory; name = x } ∷ (operand_uses index ++ operand_uses value))
uses _ = []

-- A name of this shape may be used in this manner.
abbrev pub suits : Manner → Shape → Bool
suits as_value (memory width depth) = false
suits as_value _ = true
suits as_cell (memory width depth) = true
suits as_wire (wire width) = true
suits as_register (register width) = true
suits as_memory (memory width depth) = true
suits _ _ = false

-- The constant in an operand.
abbrev pub operand_constants : Operand → List Constant
operand_constants (item.named x) = []
operand_constants (item.constant c) = c ∷ []

-- The constants in a right side.
abbrev pub right_constants : Right → List Constant
right_constants (item.copy x) = operand_constants x
right_constants (item.one op x) = operand_constants x
right_constants (item.two op x y) = operand_constants x ++ operand_constants y
right_constants (item.choose c x y) = operand_constants c ++ (operand_constants x ++ operand_constants y)
right_constants (item.concat xs) = flat_map operand_constants xs
right_constants (item.slice x high low) = []
right_constants (item.cell m index) = operand_constants index

-- The constants in an item, in the order of the text.
abbrev pub constants : Item → List Constant
constants (item.assign x right) = right_constants right
constants (item.initial x value) = value ∷ []
constants (item.initial_cells place bound x value) = value ∷ []
constants (item.always x next) = operand_constants next
constants (item.always_cell condition x index value) =
    operand_constants condition ++ (operand_constants index ++ operand_constants value)
constants _ = []

-- The range that an item declares.
abbrev pub ranges : Item → List Number
ranges (item.wire range x) = range ∷ []
ranges (item.register range x) = range ∷ []
ranges (item.memory range x last) = range ∷ []
ranges _ = []

-- `right_indexes` has the memories that are indexed, each with its index operand.
abbrev pub right_indexes : Right → List (Mention × Operand)
right_indexes (item.cell m index) = (m, index) ∷ []
right_indexes _ = []

-- The memories that an item reads or writes, each with its index.
abbrev pub indexes : Item → List (Mention × Operand)
indexes (item.assign x right) = right_indexes right
indexes (item.always_cell condition x index value) = (x, index) ∷ []
indexes _ = []

-- The place of an operand.
abbrev pub operand_place : Operand → ℕ
operand_place (item.named x) = x.place
operand_place (item.constant c) = c.place

-- The faults.

-- A depth that an index has bits for is a power of two from 2 to 4096.
abbrev pub HasIndex : ℕ → Type 0
HasIndex depth = (b : ℕ) × IsDepth depth b

-- Wires, registers and memories can be set.
abbrev pub is_settable : Option Shape → Bool
is_settable (Some (wire width)) = true
is_settable (Some (register width)) = true
is_settable (Some (memory width depth)) = true
is_settable _ = false

-- A wire needs its `assign`; a register or memory needs its `initial` and its `always`.
abbrev pub needs : Shape → Setting → Bool
needs (wire width) assign = true
needs (register width) initial = true
needs (register width) always = true
needs (memory width depth) initial = true
needs (memory width depth) always = true
needs _ _ = false

-- V3 is at a declared name that is declared before; a second `integer`; the name in a second `assign`, `initial` or
-- `always` of one wire, register or memory.
pub data V3 (f : File) : ℕ → Type 0 where
  declared_before : (before after : List Declaration) (d : Declaration)
      → declarations f.ports f.items ≡ before ++ d ∷ after
      → IsSome (shape_in before d.name.name) → V3 f d.name.place
  second_integer : {above : Above} {place : ℕ} → IsItemOf f above (item.integer place)
      → has_integer above.items ≡ true → V3 f place
  set_before : {above : Above} {x : Item} (t : Target) → IsItemOf f above x → target_of x ≡ Some t
      → is_settable (shape_above above t.name.name) ≡ true
      → is_set t.setting t.name.name above.items ≡ true → V3 f t.name.place

-- V4 is at a used name that isn't declared before; an operand that is a wire not assigned before; the first `i` of a
-- `for` without `integer i` before.
pub data V4 (f : File) : ℕ → Type 0 where
  undeclared : {above : Above} {x : Item} (u : Use) → IsItemOf f above x → StandsIn u (uses x)
      → shape_above above u.name.name ≡ None → V4 f u.name.place
  unassigned : {above : Above} {x : Item} (u : Use) {width : ℕ} → IsItemOf f above x
      → StandsIn u (uses x) → u.manner ≡ as_value
      → shape_above above u.name.name ≡ Some (wire width)
      → is_set assign u.name.name above.items ≡ false → V4 f u.name.place
  no_integer : {above : Above} {place : ℕ} {bound : Number} {x : Mention} {value : Constant}
      → IsItemOf f above (item.initial_cells place bound x value)
      → has_integer above.items ≡ false → V4 f place

-- V5 is at a range's number over 63; a constant whose width isn't 1 to 64 or whose number doesn't fit; the target's
-- name where two widths differ that have to be equal, or where a `{}` is wider than 64; a slice's name where it is
-- out of range.
pub data V5 (f : File) : ℕ → Type 0 where
  wide_port : (p : Port) → StandsIn p f.ports → 63 < p.range.value → V5 f p.range.place
  wide_range : {above : Above} {x : Item} (n : Number) → IsItemOf f above x → StandsIn n (ranges x)
      → 63 < n.value → V5 f n.place
  unfit : {above : Above} {x : Item} (c : Constant) → IsItemOf f above x → StandsIn c (constants x)
      → constant_fits c ≡ false → V5 f c.place
  widths_differ : {above : Above} {x : Item} (t : Target) (p : Option ℕ × Option ℕ) → IsItemOf f above x
      → target_of x ≡ Some t
      → StandsIn p (pairs (known_above above) x) → Differ p → V5 f t.name.place
  wide_concat : {above : Above} {x : Mention} {parts : List Operand} {width : ℕ}
      → IsItemOf f above (item.assign x (item.concat parts))
      → parts_width (known_above above) parts ≡ Some width → 64 < width → V5 f x.place
  out_of_range : {above : Above} {x y : Mention} {high low : ℕ} {shape : Shape}
      → IsItemOf f above (item.assign x (item.slice y high low))
      → shape_above above y.name ≡ Some shape → (low ≤ high → high < shape_width shape → ⊥) → V5 f y.place

-- V6 is at the declared name of a wire without `assign`, or of a register or memory without `initial` or without
-- `always`.
pub data V6 (f : File) : ℕ → Type 0 where
  unset : (d : Declaration) (s : Setting) → StandsIn d (declarations f.ports f.items)
      → needs d.shape s ≡ true → is_set s d.name.name f.items ≡ false
      → V6 f d.name.place

-- V7 is at a memory's number whose depth isn't a power of two from 2 to 4096; the number of a `for` that isn't the
-- memory's depth; an index operand whose width isn't the memory's index width; a declared name used as another kind.
pub data V7 (f : File) : ℕ → Type 0 where
  no_depth : {above : Above} {range last : Number} {x : Mention}
      → IsItemOf f above (item.memory range x last) → (HasIndex (last.value + 1) → ⊥)
      → V7 f last.place
  other_bound : {above : Above} {place : ℕ} {bound : Number} {x : Mention} {value : Constant} {width depth : ℕ}
      → IsItemOf f above (item.initial_cells place bound x value)
      → shape_above above x.name ≡ Some (memory width depth) → bound.value ≢ depth
      → V7 f bound.place
  other_index : {above : Above} {x : Item} (m : Mention) (index : Operand) {width b u : ℕ}
      → IsItemOf f above x → StandsIn (m, index) (indexes x)
      → shape_above above m.name ≡ Some (memory width (2 ^ b))
      → operand_width (known_above above) index ≡ Some u → u ≢ b → V7 f (operand_place index)
  other_kind : {above : Above} {x : Item} (u : Use) {shape : Shape} → IsItemOf f above x
      → StandsIn u (uses x) → shape_above above u.name.name ≡ Some shape
      → suits u.manner shape ≡ false → V7 f u.name.place

-- None of V3 to V7 stands anywhere.
pub record IsFaultless (f : File) : Type 0 where
  pub v3 : (place : ℕ) → V3 f place → ⊥
  pub v4 : (place : ℕ) → V4 f place → ⊥
  pub v5 : (place : ℕ) → V5 f place → ⊥
  pub v6 : (place : ℕ) → V6 f place → ⊥
  pub v7 : (place : ℕ) → V7 f place → ⊥
