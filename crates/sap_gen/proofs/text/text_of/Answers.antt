use Rattle.std.proofs.Common.{◌*◌, ◌++◌, ◌∙◌, List, ℕ, ap}
use Rattle.sap_check.specs.Checked.{levels_in, tree_in}
use Rattle.sap_interface.specs.Designs.{named_of}
use Rattle.sap_sim.specs.Labelled.LabelledRows.{labelled_row}
use Rattle.sap_sem.specs.Machine.{state_of}
use Rattle.sap_gen.specs.Text.{summary}
use Rattle.sap_gen.proofs.text.text_of.Goals as goal

pub returns : goal.returns
returns c =
    let m = c.args.checked.now in
    c.in_ok-push_row.ensures
    ∙ ap (λ (text : List ℕ). text ++ labelled_row (levels_in m) (named_of (levels_in m) (tree_in m)) (4 * c.args.n) (state_of c.args.machine.now))
    (c.in_ok-push_summary.ensures ∙ ap (λ (text : List ℕ). text ++ summary c.args.n c.args.refusals) c.new-out.ensures.items)
