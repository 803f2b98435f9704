use Rattle.std.proofs.Common.{◌≡◌, ◌++◌, drop, filter, map}
use Rattle.sap_share.specs.Sets.{holds}
use Rattle.sap_joined.specs.Joined as spec
use Rattle.sap_joined.specs.Seen as seen
use Rattle.sap_joined.proofs.ports.free_inputs.Given as goal

abbrev pub invariant-loop-part : goal.invariant-loop-part
invariant-loop-part l = l.made.items ++ filter (spec.is_free_input (holds l.fed))
    (spec.part_inputs (map seen.named_net (drop l.part-index l.parts))) ≡ filter (spec.is_free_input (holds l.fed)) (spec.part_inputs (map seen.named_net l.parts))
