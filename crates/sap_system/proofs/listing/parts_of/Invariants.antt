use Rattle.std.proofs.Common.{◌≡◌, drop}
use Rattle.toml.specs.View.{items_view}
use Rattle.sap_system.specs.Document.{parts_of}
use Rattle.sap_latfile.proofs.Items.{with_front}
use Rattle.sap_system.proofs.listing.parts_of.Given as goal

abbrev pub invariant-loop-value : goal.invariant-loop-value
invariant-loop-value l = parts_of (items_view l.values) ≡ with_front l.parts.items (parts_of (items_view (drop l.value-index l.values)))
