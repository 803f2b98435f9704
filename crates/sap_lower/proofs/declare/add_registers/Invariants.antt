use Rattle.std.proofs.Common.{◌≡◌, ◌++◌, drop}
use Rattle.sap_ir.specs.IsGuarded.{variable_names}
use Rattle.sap_lower.specs.Lowered.{unported}
use Rattle.sap_lower.proofs.declare.add_registers.Given as goal

abbrev pub invariant-loop-variable : goal.invariant-loop-variable
invariant-loop-variable l =
    l.made.items ++ unported l.ports (variable_names (drop l.variable-index l.registers)) ≡ l.fn.made.items ++ unported l.ports (variable_names l.registers)
