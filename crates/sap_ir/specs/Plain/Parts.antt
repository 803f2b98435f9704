-- What the parts of a program of nested states are seen as.
use Rattle.sap_ir.specs.declared.plain.nested.PlainParts.{PlainParts}
use Rattle.sap_ir.specs.Plain.Nested.{Nested}
use Rattle.sap_ir.specs.Plain.Views.{forest_of}

-- The program of nested states that its stored parts stand for.
abbrev pub parts_nested : PlainParts → Nested
parts_nested p =
    record {
      inputs = p.inputs.items;
      wires = p.wires.items;
      registers = p.registers.items;
      memories = p.memories.items;
      ports = p.ports.items;
      states = forest_of p.states.items;
    }
