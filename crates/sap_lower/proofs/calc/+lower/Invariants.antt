use Rattle.std.proofs.Common.{◌≡◌, ◌≤◌, ◌++◌, map, drop, take, length}
use Rattle.sap_ir.specs.Calcs.{term_of}
use Rattle.sap_lower.specs.Parts.{low_all}
use Rattle.sap_lower.specs.Reads.{entries_seen}
use Rattle.sap_lower.proofs.calc.+lower.Given as goal

abbrev pub invariant-lower_all-loop-calc : goal.invariant-lower_all-loop-calc
invariant-lower_all-loop-calc l =
    let es = entries_seen (take l.before l.fn.wires) l.facts l.entries in
    let rest = map term_of (drop l.calc-index l.calcs) in
    let behind = low_all l.memories es rest l.wires in
    let all = low_all l.memories es (map term_of l.calcs) l.fn.wires in
    (behind.wires ≡ all.wires) × (l.parts.items ++ behind.parts ≡ all.parts) × (take l.before l.wires ≡ take l.before l.fn.wires)
    × (l.before ≤ length l.wires)
