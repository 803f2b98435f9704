-- What items say of a name: the number of its range, its initial number, and where among the items its `always` stands.
use Rattle.std.specs.Prelude.{ℕ, ◌+◌, List, [], ◌∷◌, Option, None}
use Rattle.sap_vtext.specs.Items.{Port, Item}
use Rattle.sap_vtext.specs.Items as item
use Rattle.sap_vtext.specs.Modules.{first_of, when, initial_number}
use Rattle.sap_vread.specs.declared.build.noting.Noting.{Noting}
use Rattle.sap_vread.specs.declared.build.noting.Noting.TheVariants.{Range, Start, Next, Write}

-- The range that an item notes for a name.
abbrev pub range_noted : List ℕ → Item → Option ℕ
range_noted n (item.wire range x) = when x.name n range.value
range_noted n (item.register range x) = when x.name n range.value
range_noted n (item.memory range x last) = when x.name n range.value
range_noted n _ = None

-- The start that an item notes for a name.
abbrev pub start_noted : List ℕ → Item → Option ℕ
start_noted n x = initial_number n x

-- The place of the item that gives a register its next operand.
abbrev pub next_noted : List ℕ → ℕ → Item → Option ℕ
next_noted n place (item.always x next) = when x.name n place
next_noted n place _ = None

-- The place of the item that writes a memory.
abbrev pub write_noted : List ℕ → ℕ → Item → Option ℕ
write_noted n place (item.always_cell condition x index value) = when x.name n place
write_noted n place _ = None

-- What an item notes for a name.
abbrev pub noted : Noting → List ℕ → ℕ → Item → Option ℕ
noted Range n place x = range_noted n x
noted Start n place x = start_noted n x
noted Next n place x = next_noted n place x
noted Write n place x = write_noted n place x

-- What the first of the items says, the first of which has this place.
unfoldable pub all_noted : Noting → List ℕ → ℕ → List Item → Option ℕ
all_noted noting n place [] = None
all_noted noting n place (x ∷ xs) = first_of (noted noting n place x) (all_noted noting n (place + 1) xs)

-- The range that the ports note for a name.
unfoldable pub ports_noted : List ℕ → List Port → Option ℕ
ports_noted n [] = None
ports_noted n (p ∷ ps) = first_of (when p.name.name n p.range.value) (ports_noted n ps)
