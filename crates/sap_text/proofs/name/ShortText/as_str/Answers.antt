use Rattle.sap_text.proofs.name.ShortText.as_str.Goals as goal

pub unreachable-requires : goal.unreachable-requires
unreachable-requires c = c.in_default.ensures.cases.0 c.as_bytes.ensures.text
