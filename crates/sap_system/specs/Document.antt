-- The parts and the wires that a document lists.
use Rattle.std.specs.Prelude.{◌≡◌, ℕ, List, [], ◌∷◌, codes, Option, Some, None, option_and_then}
use Rattle.toml.specs.Data.{Data, Items, Members, as_array}
use Rattle.sap_latfile.specs.Document.{key_count, each_of, texts_of, array_at}
use Rattle.sap_system.specs.Listing.{Listing}
use Rattle.sap_system.specs.declared.file.Part.{Part}
use Rattle.sap_system.specs.declared.file.WireText.{WireText}

-- Two texts: a part's name, and its file's.
abbrev pub part_in : List (List ℕ) → Option Part
part_in (name ∷ file ∷ []) = Some (record { name = name; file = file })
part_in _ = None

-- Two texts, or three: what a wire leads from, what it leads to, and its level.
abbrev pub wire_in : List (List ℕ) → Option WireText
wire_in (from ∷ to ∷ []) = Some (record { from = from; to = to; level = None })
wire_in (from ∷ to ∷ level ∷ []) = Some (record { from = from; to = to; level = Some level })
wire_in _ = None

-- The strings of an array that has nothing else.
abbrev pub texts_in : Data → Option (List (List ℕ))
texts_in value = option_and_then texts_of (as_array value)

-- The part that a value of the document describes.
abbrev pub part_of : Data → Option Part
part_of value = option_and_then part_in (texts_in value)

-- The wire that a value of the document describes.
abbrev pub wire_of : Data → Option WireText
wire_of value = option_and_then wire_in (texts_in value)

-- The parts, and the wires, of an array that has nothing else.
abbrev pub parts_of : Items → Option (List Part)
parts_of = each_of part_of

-- The wires that the values of a list describe.
abbrev pub wires_of : Items → Option (List WireText)
wires_of = each_of wire_of

-- The document has exactly two keys: `parts`, an array of arrays of two strings, and `wires`, an array of arrays of two
-- or three strings.
pub record Lists (document : Members) (s : Listing) : Type 0 where
  pub two_keys : key_count document ≡ 2
  pub parts : option_and_then parts_of (array_at (codes "parts") document) ≡ Some s.parts
  pub wires : option_and_then wires_of (array_at (codes "wires") document) ≡ Some s.wires
