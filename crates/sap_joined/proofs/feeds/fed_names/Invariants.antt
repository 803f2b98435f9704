use Rattle.std.proofs.Common.{◌≡◌, ◌++◌, drop, map}
use Rattle.sap_joined.specs.Joined as spec
use Rattle.sap_joined.specs.Seen as seen
use Rattle.sap_joined.proofs.feeds.fed_names.Given as goal

abbrev pub invariant-loop-feed : goal.invariant-loop-feed
invariant-loop-feed l = l.names.items ++ spec.fed_names (map seen.feed (drop l.feed-index l.feeds)) ≡ spec.fed_names (map seen.feed l.feeds)
