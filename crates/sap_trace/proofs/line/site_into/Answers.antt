use Rattle.sap_lemmas.proofs.Common.{◌≡◌, ◌+◌, length, ap, arith, vec_capacity}
use Rattle.sap_check.specs.Checked.{levels_in, tree_in}
use Rattle.sap_sim.specs.Labelled.LabelledRows.{level_name}
use Rattle.sap_stim.proofs.RowTexts.{ok_with_room}
use Rattle.sap_trace.specs.Lines.{site_line}
use Rattle.sap_trace.proofs.Rooms.{line_fits}
use Rattle.sap_trace.proofs.line.site_into.Goals as goal

pub unwrap-requires : goal.unwrap-requires
unwrap-requires c =
    let d = tree_in c.args.checked.now in
    let name = level_name (levels_in c.args.checked.now) c.args.at in
    let fits = line_fits d c.args.cycle c.args.site name c.ranges.cycle.fits in
    let size : length c.take-bytes.result.items ≡ length c.args.out.now.bytes = ap length c.take-bytes.ensures.bytes in
    ok_with_room c.push_refusal.result (vec_capacity c.take-bytes.result)
    (length c.take-bytes.result.items + length (site_line d c.args.cycle c.args.site name)) c.push_refusal.ensures.full
    (omega (arith, fits, size, c.requires.fits, c.take-bytes.ensures.room))
