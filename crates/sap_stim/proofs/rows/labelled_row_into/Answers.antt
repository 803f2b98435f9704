use Rattle.sap_lemmas.proofs.Common.{◌≡◌, ◌<◌, ◌+◌, length, ap, subst, arith, OnErr, vec_capacity}
use Rattle.sap_stim.specs.Rows.{row_text, shown_of}
use Rattle.sap_stim.proofs.RowTexts.{row_fits, ok_with_room}
use Rattle.sap_stim.proofs.rows.labelled_row_into.Goals as goal

pub unwrap-requires : goal.unwrap-requires
unwrap-requires c =
    let ss = shown_of c.args.lattice.now c.args.labels.now c.args.values.now c.args.tags.now in
    let fits = row_fits c.args.cycle ss c.ranges.cycle.fits in
    let size : length c.take-bytes.result.items ≡ length c.args.out.now.bytes = ap length c.take-bytes.ensures.bytes in
    ok_with_room c.push_row_by.result (vec_capacity c.take-bytes.result) (length c.take-bytes.result.items + length (row_text c.args.cycle ss))
    (subst (λ cycle. OnErr c.push_row_by.result (vec_capacity c.take-bytes.result < length c.take-bytes.result.items
    + length (row_text cycle ss))) c.turn_to.ensures c.push_row_by.ensures.full)
    (omega (arith, fits, size, c.requires.fits, c.take-bytes.ensures.room))
