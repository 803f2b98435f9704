use Rattle.std.proofs.Common.{refl}
use Rattle.sap_wave.specs.Prelude.{block, in_block, open_of}
use Rattle.sap_wave.proofs.Stepping.{form_read, not_in_block, refused}
use Rattle.sap_wave.proofs.steps.block_line.Goals as goal

pub returns-in-Some : goal.returns-in-Some
returns-in-Some c =
    form_read (in_block c.args.variables.items (open_of c.args.reached)) (block c.in-Some.digits.now) c.args.text.now c.next_block.result
    c.in-Some.ensures.some refl c.next_block.ensures

pub returns-in-None : goal.returns-in-None
returns-in-None c =
    let xs = c.args.variables.items in
    let o = open_of c.args.reached in
    refused (in_block xs o) c.args.text.now (not_in_block xs o c.args.text.now c.in-None.ensures.none c.requires)
