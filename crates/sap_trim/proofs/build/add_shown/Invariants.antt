use Rattle.std.proofs.Common.{◌≡◌, ◌++◌, drop, map, filter}
use Rattle.sap_share.specs.Sets.{holds}
use Rattle.sap_trim.specs.Built.{wire_of}
use Rattle.sap_trim.proofs.build.add_shown.Given as goal
use Rattle.sap_maps.specs.Scope.{find}

abbrev pub invariant-loop-shown : goal.invariant-loop-shown
invariant-loop-shown l = l.made.items ++ map (wire_of (find l.stands)) (filter (λ w. holds l.ports w.name) (drop l.shown-index l.wires))
    ≡ l.fn.made.items ++ map (wire_of (find l.stands)) (filter (λ w. holds l.ports w.name) l.wires)
