use Rattle.std.proofs.Common.{map}
use Rattle.sap_linker.specs.Given.{design_with_net}
use Rattle.sap_linker.proofs.Adding.{all_made}
use Rattle.sap_linker.proofs.named.under_names.Goals as goal

pub returns : goal.returns
returns c =
    all_made (map design_with_net c.loop-place.made.items) c.args.listed.now c.args.added.now c.loop-place.place c.loop-place-test.false c.loop-place.invariant
