-- What the parts of a flat program are seen as.
use Rattle.sap_ir.specs.declared.guarded.GuardedParts.{GuardedParts}
use Rattle.sap_ir.specs.Calcs.{commands_of}
use Rattle.sap_ir.specs.Source.{Source}

-- The list of guarded commands that its stored parts stand for.
abbrev pub parts_source : GuardedParts → Source
parts_source p =
    record {
      inputs = p.inputs.items;
      wires = p.wires.items;
      registers = p.registers.items;
      memories = p.memories.items;
      ports = p.ports.items;
      commands = commands_of p.cmds.items;
    }
