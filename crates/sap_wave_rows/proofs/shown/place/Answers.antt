use Rattle.std.proofs.Common.{◌∙◌}
use Rattle.sap_wave_rows.proofs.Finding.{place_is}
use Rattle.sap_wave_rows.proofs.shown.place.Goals as goal

pub returns : goal.returns
returns c = c.unwrap_or.ensures ∙ place_is c.args.variables.now c.args.name.now c.at_name.result (c.at_name.ensures ∙ c.requires c.args.name.now)
