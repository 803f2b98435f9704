use Rattle.sap_lemmas.proofs.Common.{◌<◌, ◌+◌, ◌++◌, length, length-append, arith, vec_capacity}
use Rattle.sap_desk.proofs.Steps.{on_err}
use Rattle.sap_stim.specs.Rows.{all_shown, shown_of}
use Rattle.sap_stim.proofs.RowTexts.{row_full, shown_from}
use Rattle.sap_stim.proofs.rows.push_all_labelled.Goals as goal

pub returns-in_err-push_labelled-clause-full : goal.returns-in_err-push_labelled-clause-full
returns-in_err-push_labelled-clause-full c =
    let ls = c.args.lattice.now in
    let names = c.args.labels.now in
    let values = c.args.values.now in
    let tags = c.args.tags.now in
    let full : vec_capacity c.loop-i.out < length (c.args.out.now.items ++ shown_from c.args.lattice.now c.args.labels.now c.args.values.now c.args.tags.now 0) =
    row_full ls names values tags c.loop-i.i _ c.loop-i.out.items _ (vec_capacity c.loop-i.out) c.loop-i-test.true c.requires.values
    c.requires.tags c.index-labels-i.is c.loop-i.invariant.text c.in_err-push_labelled.ensures.full in
    let size = length-append c.args.out.now.items (shown_from ls names values tags 0) in
    let p : vec_capacity c.args.out.now < length c.args.out.now.items + length (all_shown (shown_of c.args.lattice.now c.args.labels.now c.args.values.now c.args.tags.now)) =
    omega (arith, full, size, c.loop-i.invariant.room) in
    on_err c.from_residual.result p
