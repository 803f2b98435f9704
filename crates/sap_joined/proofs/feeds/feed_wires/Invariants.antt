use Rattle.std.proofs.Common.{◌≡◌, ◌++◌, drop, map}
use Rattle.sap_joined.specs.Joined as spec
use Rattle.sap_joined.specs.Seen as seen
use Rattle.sap_joined.proofs.feeds.feed_wires.Given as goal

abbrev pub invariant-loop-feed : goal.invariant-loop-feed
invariant-loop-feed l = l.made.items ++ spec.feed_wires l.tag (map seen.feed (drop l.feed-index l.feeds)) ≡ spec.feed_wires l.tag (map seen.feed l.feeds)
