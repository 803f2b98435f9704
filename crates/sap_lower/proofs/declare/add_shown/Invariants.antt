use Rattle.std.proofs.Common.{◌≡◌, ◌++◌, map, drop}
use Rattle.sap_lower.specs.Lowered.{listed, out_wire}
use Rattle.sap_lower.proofs.declare.add_shown.Given as goal

abbrev pub invariant-loop-variable : goal.invariant-loop-variable
invariant-loop-variable l =
    l.wires.items ++ map (out_wire l.entries) (listed l.ports (drop l.variable-index l.variables)) ≡ l.fn.wires.items ++ map (out_wire l.entries) (listed l.ports l.variables)
