use Rattle.std.proofs.Common.{sym}
use Rattle.sap_latfile.proofs.Items.{not_two}
use Rattle.sap_latfile.proofs.listing.pair_in.Goals as goal

pub returns-then-parts-ne2 : goal.returns-then-parts-ne2
returns-then-parts-ne2 c = sym (not_two c.args.parts.now c.if-parts-ne2.true)
