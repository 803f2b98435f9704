use Rattle.std.proofs.Common.{◌≡◌, ◌++◌, drop, filter, map}
use Rattle.sap_share.specs.Sets.{holds}
use Rattle.sap_joined.specs.Joined as spec
use Rattle.sap_joined.proofs.whole.add_wire_names.Given as goal

abbrev pub invariant-loop-wire : goal.invariant-loop-wire
invariant-loop-wire l = l.made.items ++ filter (spec.is_hidden (holds l.shown)) (map (λ w. w.name) (drop l.wire-index l.wires))
    ≡ l.fn.made.items ++ filter (spec.is_hidden (holds l.shown)) (map (λ w. w.name) (l.wires))
