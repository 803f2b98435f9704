use Rattle.sap_lemmas.proofs.Common.{◌<◌, ◌^◌, arith, All}
use Rattle.std.proofs.lemmas.List.Elements.{All-from_get_or}
use Rattle.sap_stim.specs.Rows.{row_text, shown_of}
use Rattle.sap_stim.proofs.RowTexts.{row_fits}
use Rattle.sap_sim.proofs.simulation.push_held.Goals as goal

pub labelled_row_into-requires-clause-fits : goal.labelled_row_into-requires-clause-fits
labelled_row_into-requires-clause-fits c =
    let values : All (λ n. n < 2 ^ 64) c.args.values.now = All-from_get_or (λ n. n < 2 ^ 64) c.args.values.now 0 (λ k h. (c.type_inv.values k).fits) in
    let tags : All (λ n. n < 2 ^ 64) c.args.tags.now = All-from_get_or (λ n. n < 2 ^ 64) c.args.tags.now 0 (λ k h. (c.type_inv.tags k).fits) in
    let held = c.requires.room.1 c.args.values.now c.args.tags.now values tags in
    omega (arith, held, c.requires.room.2)

pub returns-clause-more : goal.returns-clause-more
returns-clause-more c = λ room holds.
    let values : All (λ n. n < 2 ^ 64) c.args.values.now = All-from_get_or (λ n. n < 2 ^ 64) c.args.values.now 0 (λ k h. (c.type_inv.values k).fits) in
    let tags : All (λ n. n < 2 ^ 64) c.args.tags.now = All-from_get_or (λ n. n < 2 ^ 64) c.args.tags.now 0 (λ k h. (c.type_inv.tags k).fits) in
    let ss = shown_of c.args.lattice.now c.args.labels.now c.args.values.now c.args.tags.now in
    let fits = row_fits c.args.cycle ss c.ranges.cycle.fits in
    let held = holds c.args.values.now c.args.tags.now values tags in
    (row_text c.args.cycle ss, c.labelled_row_into.ensures.text, omega (arith, fits, held))
