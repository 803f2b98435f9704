use Rattle.sap_resolved.proofs.sized.RangedPrograms.{widths_in_range_law}
use Rattle.sap_resolved.proofs.sized.widths_in_range.Goals as goal

pub returns : goal.returns
returns c = widths_in_range_law
