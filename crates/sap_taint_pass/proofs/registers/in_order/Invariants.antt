use Rattle.std.proofs.Common.{◌≡◌, ◌++◌, drop}
use Rattle.sap_taint_pass.specs.Tainted as spec
use Rattle.sap_taint_pass.proofs.registers.in_order.Given as goal

abbrev pub invariant-loop-name : goal.invariant-loop-name
invariant-loop-name l = l.made.items ++ spec.in_order (drop l.name-index l.names) l.registers ≡ spec.in_order l.names l.registers
