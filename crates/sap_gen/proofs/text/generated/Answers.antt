use Rattle.std.proofs.Common.{◌∙◌}
use Rattle.sap_gen.proofs.text.generated.Goals as goal

pub returns : goal.returns
returns c = c.new.ensures ∙ c.in_ok-text.ensures
