use Rattle.std.proofs.Common.{◌≡◌, ◌++◌, drop, filter, map}
use Rattle.sap_share.specs.Sets.{holds}
use Rattle.sap_build.specs.Copies as copies
use Rattle.sap_linked.specs.Parts as parts
use Rattle.sap_joined.specs.Joined as spec
use Rattle.sap_joined.proofs.ports.add_inputs_of.Given as goal

abbrev pub invariant-loop-input : goal.invariant-loop-input
invariant-loop-input l = l.made.items ++ filter (spec.is_free_input (holds l.fed))
    (map (copies.copy_input (parts.in_part l.part)) (drop l.input-index l.inputs)) ≡ l.fn.made.items
    ++ filter (spec.is_free_input (holds l.fed)) (map (copies.copy_input (parts.in_part l.part)) l.inputs)
