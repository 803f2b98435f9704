use Rattle.std.proofs.Common.{◌∙◌, map}
use Rattle.clap.specs.Words.{first_value, found_of}
use Rattle.sap_words.proofs.Headings.{found_is}
use Rattle.sap_words.proofs.read.with_operands.Goals as goal

pub returns : goal.returns
returns c =
    c.made.ensures
    ∙ found_is c.args.name.now (first_value (found_of c.args.matches.now)) (map (λ o. o.now) c.args.operands.now) c.value-first.result.now
    c.value-second.result.now c.value-third.result.now c.value-fourth.result.now c.value-fifth.result.now
    c.requires c.value-first.ensures c.value-second.ensures c.value-third.ensures c.value-fourth.ensures c.value-fifth.ensures
