use Rattle.sap_lemmas.proofs.Common.{◌∙◌, ap, option_map}
use Rattle.sap_words.specs.Headings.{texts}
use Rattle.sap_words.proofs.Headings.{operands_are}
use Rattle.sap_words.proofs.table.operands_in.Goals as goal

pub returns : goal.returns
returns c = ap (option_map texts) c.row_in.ensures ∙ operands_are c.args.name.now c.args.rows.now c.requires
