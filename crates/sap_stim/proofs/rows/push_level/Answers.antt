use Rattle.std.proofs.Common.{◌∙◌}
use Rattle.sap_stim.proofs.RowTexts.{level_written}
use Rattle.sap_stim.proofs.rows.push_level.Goals as goal

pub returns-in-Some-clause-text : goal.returns-in-Some-clause-text
returns-in-Some-clause-text c =
    level_written c.args.lattice.now c.args.tag c.in-Some.level c.as_bytes.result.now c.args.out.now.items
    c.extend_from_slice.new.self.items c.extend_from_slice.result c.in-Some.ensures.coded c.in-Some.ensures.level (c.as_bytes.ensures
    ∙ c.name.ensures) c.extend_from_slice.ensures.items
