-- The shapes of a list of memories.
use Rattle.std.specs.Prelude.{List, map}
use Rattle.sap_net.specs.Rules.{Shapes}
use Rattle.sap_ir.specs.declared.guarded.MemoryVariable.{MemoryVariable}

-- The widths and depths of memories, by their names.
abbrev pub shapes_of : List MemoryVariable → Shapes
shapes_of ms = map (λ m. (m.name, (m.width, m.depth))) ms
