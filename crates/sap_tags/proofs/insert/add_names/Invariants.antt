use Rattle.std.proofs.Common.{◌≡◌, ◌++◌, take}
use Rattle.sap_tags.proofs.insert.add_names.Given as goal
use Rattle.sap_ir.specs.IsGuarded.{variable_names}

abbrev pub invariant-loop-variable : goal.invariant-loop-variable
invariant-loop-variable l = l.names.items ≡ l.initial.names.items ++ variable_names (take l.variable-index l.variables)
