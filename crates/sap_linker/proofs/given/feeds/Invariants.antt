use Rattle.std.proofs.Common.{◌≡◌, ◌++◌, [], drop, map}
use Rattle.sap_linked.specs.Designs.{named_system}
use Rattle.sap_joined.specs.Seen as seen
use Rattle.sap_joined.specs.Systems.{feed_of}
use Rattle.sap_linker.specs.Given.{designs_of}
use Rattle.sap_linker.proofs.given.feeds.Given as goal

abbrev pub invariant-loop-wire : goal.invariant-loop-wire
invariant-loop-wire l =
    map seen.feed l.made.items ++ map (feed_of (named_system l.lattice (designs_of l.parts) [])) (drop l.wire-index l.wires)
    ≡ map (feed_of (named_system l.lattice (designs_of l.parts) [])) l.wires
