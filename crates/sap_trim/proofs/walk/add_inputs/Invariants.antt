use Rattle.std.proofs.Common.{◌≡◌, ◌++◌, map, drop}
use Rattle.sap_trim.specs.Walked.{itself}
use Rattle.sap_trim.proofs.walk.add_inputs.Given as goal

abbrev pub invariant-loop-input : goal.invariant-loop-input
invariant-loop-input l =
    l.entries.items ++ map itself (map (λ y. y.name) (drop l.input-index l.inputs)) ≡ l.fn.entries.items ++ map itself (map (λ y. y.name) l.inputs)
