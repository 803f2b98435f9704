use Rattle.std.proofs.Common.{◌∙◌}
use Rattle.sap_gen.proofs.Texts.{summary_written}
use Rattle.sap_gen.proofs.text.push_summary.Goals as goal

pub returns : goal.returns
returns c =
    summary_written c.push_count-5.result c.args.n c.from.result c.from-2.result c.from-3.result c.from-4.result c.args.refusals c.args.out.now.items _ _ _ _ _ _
    c.from.ensures (c.from-2.ensures ∙ c.requires.registers) (c.from-3.ensures ∙ c.requires.states) c.from-4.ensures
    c.in_ok-extend_from_slice.ensures.items c.in_ok-push_count.ensures c.in_ok-push_count-2.ensures c.in_ok-push_count-3.ensures c.in_ok-push_count-4.ensures c.push_count-5.ensures
