use Rattle.sap_text.proofs.NamesLemmas.{inner_text}
use Rattle.sap_text.proofs.name.Name.spelled.Goals as goal

pub unreachable-requires : goal.unreachable-requires
unreachable-requires c = c.in_default.ensures.cases.0 (inner_text c.args.bytes.now c.requires)
