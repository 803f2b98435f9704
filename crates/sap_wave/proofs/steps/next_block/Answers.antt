use Rattle.std.proofs.Common.{ap}
use Rattle.sap_wave.specs.Reading.{in_block}
use Rattle.sap_wave.proofs.steps.next_block.Goals as goal

pub returns-in-Some : goal.returns-in-Some
returns-in-Some c = c.in-Some.ensures.some c.args.variables.items

pub returns : goal.returns
returns c = (c.in_default.ensures.none, ap (in_block c.args.variables.items) c.in_ok-next.ensures, tt)
