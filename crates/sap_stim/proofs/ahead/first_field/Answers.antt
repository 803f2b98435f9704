use Rattle.sap_lemmas.proofs.Common.{◌∙◌, length-take-le}
use Rattle.sap_stim.proofs.Marks.{field_taken}
use Rattle.sap_stim.proofs.ahead.first_field.Goals as goal

pub returns-clause-field : goal.returns-clause-field
returns-clause-field c = field_taken c.args.text.now c.field_len-size.result c.field_len-size.ensures.end

pub returns-clause-end : goal.returns-clause-end
returns-clause-end c = length-take-le c.field_len-size.result c.args.text.now c.field_len-size.ensures.within ∙ c.field_len-size.ensures.end
