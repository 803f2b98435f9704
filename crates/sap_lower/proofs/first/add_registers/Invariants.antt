use Rattle.std.proofs.Common.{◌≡◌, ◌++◌, map, drop}
use Rattle.sap_lower.specs.Lowered.{register_entry}
use Rattle.sap_lower.proofs.first.add_registers.Given as goal

abbrev pub invariant-loop-register : goal.invariant-loop-register
invariant-loop-register l =
    l.entries.items ++ map (register_entry l.assigned) (drop l.register-index l.registers) ≡ l.fn.entries.items ++ map (register_entry l.assigned) l.registers
