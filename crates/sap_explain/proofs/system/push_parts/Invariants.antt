use Rattle.std.proofs.Common.{◌≡◌, ◌++◌, drop}
use Rattle.sap_explain.proofs.PartLines.{all_parts}
use Rattle.sap_explain.proofs.system.push_parts.Given as goal

-- with the parts that are left
abbrev pub invariant-loop-part : goal.invariant-loop-part
invariant-loop-part l = l.out.items ++ all_parts (drop l.part-index l.parts) ≡ l.fn.out.items ++ all_parts l.parts
