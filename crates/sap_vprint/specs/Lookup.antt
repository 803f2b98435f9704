-- What a netlist has under a name, as the code has it.
use Rattle.std.specs.Prelude.{Option, Some, None}
use Rattle.sap_vtext.specs.Names.{Shape, input, wire, register, memory}
use Rattle.sap_vprint.specs.declared.lookup.Entity.{Entity}
use Rattle.sap_vprint.specs.declared.lookup.Entity.TheVariants as e

-- The shape of an entry.
abbrev pub shape_of : Entity → Shape
shape_of (e.Input width) = input width
shape_of (e.Wire width) = wire width
shape_of (e.Register width) = register width
shape_of (e.Memory width depth) = memory width depth

-- The shape of the entry that was found.
abbrev pub shape_found : Option Entity → Option Shape
shape_found (Some x) = Some (shape_of x)
shape_found None = None
