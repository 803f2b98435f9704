use Rattle.sap_lemmas.proofs.Common.{◌<◌, ◌^◌, length, ap, arith, All}
use Rattle.std.proofs.lemmas.List.Elements.{All-from_get_or}
use Rattle.sap_desk.specs.Row.{Row}
use Rattle.sap_wave_rows.proofs.rows.write_row.Goals as goal

pub labelled_row_into-requires-clause-fits : goal.labelled_row_into-requires-clause-fits
labelled_row_into-requires-clause-fits c =
    let values : All (λ n. n < 2 ^ 64) c.args.values.now = All-from_get_or (λ n. n < 2 ^ 64) c.args.values.now 0 (λ k h. (c.type_inv.values k).fits) in
    let tags : All (λ n. n < 2 ^ 64) c.args.tags.now = All-from_get_or (λ n. n < 2 ^ 64) c.args.tags.now 0 (λ k h. (c.type_inv.tags k).fits) in
    let held = c.requires.room c.args.values.now c.args.tags.now values tags in
    let room = ap (λ (r : Row). r.room) c.clear.ensures in
    let bytes = ap (λ (r : Row). length r.bytes) c.clear.ensures in
    omega (arith, held, room, bytes)
