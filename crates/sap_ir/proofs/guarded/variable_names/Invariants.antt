use Rattle.std.proofs.Common.{◌≡◌, take}
use Rattle.sap_ir.specs.IsGuarded.{variable_names}
use Rattle.sap_ir.proofs.guarded.variable_names.Given as goal

abbrev pub invariant-loop-variable : goal.invariant-loop-variable
invariant-loop-variable l = l.names.items ≡ variable_names (take l.variable-index l.variables)
