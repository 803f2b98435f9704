use Rattle.std.proofs.Common.{◌≡◌, ◌++◌, map, drop}
use Rattle.sap_lower.specs.Lowered.{register_of, unlisted}
use Rattle.sap_lower.proofs.declare.other_registers.Given as goal

abbrev pub invariant-loop-variable : goal.invariant-loop-variable
invariant-loop-variable l =
    l.made.items ++ map (register_of l.entries) (unlisted l.ports (drop l.variable-index l.registers)) ≡ l.fn.made.items
    ++ map (register_of l.entries) (unlisted l.ports l.registers)
