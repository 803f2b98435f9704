use Rattle.std.proofs.Common.{◌≡◌, drop}
use Rattle.toml.specs.View.{items_view}
use Rattle.sap_latfile.specs.Document.{texts_of}
use Rattle.sap_latfile.proofs.Items.{with_front}
use Rattle.sap_latfile.proofs.document.texts_of.Given as goal

abbrev pub invariant-loop-value : goal.invariant-loop-value
invariant-loop-value l = texts_of (items_view l.values) ≡ with_front l.names.items (texts_of (items_view (drop l.value-index l.values)))
