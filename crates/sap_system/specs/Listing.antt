-- What a system file lists.
use Rattle.std.specs.Prelude.{List}
use Rattle.sap_system.specs.declared.file.Part.{Part}
use Rattle.sap_system.specs.declared.file.WireText.{WireText}

-- Parts with their files, and the texts of wires.
pub record Listing : Type 0 where
  pub parts : List Part
  pub wires : List WireText

-- A system of parts and wires.
abbrev pub listing : List Part → List WireText → Listing
listing parts wires = record { parts = parts; wires = wires }
