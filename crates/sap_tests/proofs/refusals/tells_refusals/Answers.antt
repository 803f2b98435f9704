use Rattle.std.proofs.Common.{get_or, sym, ap, ◌∙◌, subst}
use Rattle.sap_check.specs.Checked.{levels_in, tree_in}
use Rattle.sap_meaning.specs.Prelude.{World, InputsFit}
use Rattle.sap_resolved.specs.Worlds.{world_of}
use Rattle.sap_stream.specs.Spans.{Span}
use Rattle.sap_tests.proofs.Steps.{lines_fit, read_fits}
use Rattle.sap_tests.proofs.refusals.tells_refusals.Goals as goal
use Rattle.sap_tests.proofs.refusals.tells_refusals.Goals.{After-inputs}

abbrev world : After-inputs → World
world c = world_of (levels_in c.args.checked.now) (tree_in c.args.checked.now)

-- both lines fit
both : (c : After-inputs) (s t : Span) → InputsFit (world c) (get_or c.spans-lines.result.now 0 s).inputs × InputsFit (world c) (get_or c.spans-lines.result.now 1 t).inputs
both c s t =
    lines_fit (world c) c.spans-lines.result.now c.index-lines-0.result c.index-lines-1.result s t c.if-lines-ne2.false
    (ap (λ (x : Span). x.count) (sym c.index-lines-0.is) ∙ sym c.count.ensures.number ∙ c.if-count-ne1.false)
    (ap (λ (x : Span). x.count) (sym c.index-lines-1.is) ∙ sym c.count-else-count-ne1.ensures.number ∙ c.if-count-ne1-2.false)
    (read_fits (levels_in c.args.checked.now) (tree_in c.args.checked.now) c.args.netlist c.args.stimulus.now c.in_ok-parsed.parsed
    c.spans-lines.result.now c.steps_show_refused.ensures c.in_ok-parsed.ensures c.spans-lines.ensures)

pub refuses-requires-clause-fits : goal.refuses-requires-clause-fits
refuses-requires-clause-fits c =
    let b = (goal.at.refuses-requires-clause-fits c).After-inputs in
    subst (InputsFit (world b)) (sym (c.inputs.ensures ∙ ap (λ (x : Span). x.inputs) c.index-lines-0-2.is)) (both b c.index-lines-0-2.result c.index-lines-0-2.result).0

pub refuses-requires-2-clause-fits : goal.refuses-requires-2-clause-fits
refuses-requires-2-clause-fits c =
    let b = (goal.at.refuses-requires-2-clause-fits c).After-inputs in
    subst (InputsFit (world b)) (sym (c.inputs-2.ensures ∙ ap (λ (x : Span). x.inputs) c.index-lines-1-2.is)) (both b c.index-lines-1-2.result c.index-lines-1-2.result).1
