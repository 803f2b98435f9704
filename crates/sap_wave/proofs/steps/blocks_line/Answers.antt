use Rattle.std.proofs.Common.{refl}
use Rattle.sap_wave.specs.Prelude.{block, before_blocks}
use Rattle.sap_wave.proofs.Stepping.{form_read, not_first_block, refused}
use Rattle.sap_wave.proofs.steps.blocks_line.Goals as goal

pub returns-in-Some : goal.returns-in-Some
returns-in-Some c =
    form_read (before_blocks c.args.variables.items) (block c.in-Some.digits.now) c.args.text.now c.first_block.result c.in-Some.ensures.some refl c.first_block.ensures

pub returns-in-None : goal.returns-in-None
returns-in-None c =
    let xs = c.args.variables.items in
    refused (before_blocks xs) c.args.text.now (not_first_block xs c.args.text.now c.in-None.ensures.none)
