use Rattle.std.proofs.Common.{◌≡◌, ◌≤◌, Ok, length, sym, ap, ◌∙◌, arith}
use Rattle.sap_stim.specs.Line.{count_in, count_of, fields_of, pieces_of}
use Rattle.sap_stim.proofs.Fitting.{given_fits, line_given}
use Rattle.sap_stim.proofs.LastPiece.{count_found}
use Rattle.sap_stim.proofs.Marks.{front_length, line}
use Rattle.sap_stim.proofs.line.fast_line.Goals as goal

pub returns-in-Ok-clause-given : goal.returns-in-Ok-clause-given
returns-in-Ok-clause-given c =
    let s = c.args.text.now in
    let number : Ok c.in-Ok.count ≡ count_of (count_in (pieces_of (line s))) =
    c.in-Ok.ensures.number ∙ sym (ap count_of (count_found (line s) _ c.in_ok-start.ensures.last)) in
    let short : length (line s) ≤ 65536 = omega (arith, front_length 10 s, c.in_ok-start.ensures.end, c.if-end-gt-MOST_LINE_BYTES.false) in
    line_given c.args.lattice.now c.args.fields.now (line s) c.read_ahead.new.inputs c.in-Ok.count short c.in_ok-start.ensures.count c.in_ok-start.ensures.given number

pub returns-in-Ok-clause-fits : goal.returns-in-Ok-clause-fits
returns-in-Ok-clause-fits c =
    given_fits c.args.lattice.now c.lawful.ensures.order.bottom_is_level c.args.fields.now (fields_of (line c.args.text.now)) c.read_ahead.new.inputs c.in_ok-start.ensures.given
    (Ok c.in-Ok.count)
