use Rattle.std.proofs.Common.{◌≡◌, drop}
use Rattle.toml.specs.View.{items_view}
use Rattle.sap_latfile.specs.Document.{pairs_of}
use Rattle.sap_latfile.proofs.Items.{with_front}
use Rattle.sap_latfile.proofs.listing.pairs_of.Given as goal

abbrev pub invariant-loop-value : goal.invariant-loop-value
invariant-loop-value l = pairs_of (items_view l.values) ≡ with_front l.pairs.items (pairs_of (items_view (drop l.value-index l.values)))
