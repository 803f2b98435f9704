use Rattle.sap_words.proofs.Digits.{no_error}
use Rattle.sap_words.proofs.number.value.Goals as goal

pub unreachable-requires : goal.unreachable-requires
unreachable-requires c = no_error c.args.digits.now c.parse.result c.in-Err.field-0 c.parse.ensures.value.0 c.requires c.in-Err.is
