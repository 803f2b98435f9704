use Rattle.std.proofs.Common.{rules, ◌≡◌, sym, ap, ◌∙◌}
use Rattle.sap_stim.specs.Line.{count_in, count_of, fields_of, pieces_of}
use Rattle.sap_stim.proofs.Fitting.{given_fits}
use Rattle.sap_stim.proofs.LastPiece.{count_found}
use Rattle.sap_stim.proofs.line.read_line_into.Goals as goal

pub returns-in-Some-clause-given : goal.returns-in-Some-clause-given
returns-in-Some-clause-given c =
    let number : c.read_count.result ≡ count_of (count_in (pieces_of c.args.line.now)) =
    c.read_count.ensures.number ∙ sym (ap count_of (count_found c.args.line.now c.in-Some.last.now c.in-Some.ensures.last)) in
    search rules

pub returns-in-Some-clause-fits : goal.returns-in-Some-clause-fits
returns-in-Some-clause-fits c =
    given_fits c.args.lattice.now c.lawful.ensures.order.bottom_is_level c.args.fields.now (fields_of c.args.line.now) c.read_along.new.inputs c.in-Some.ensures.given _

pub returns-clause-given : goal.returns-clause-given
returns-clause-given c =
    let number : c.read_count-2.result ≡ count_of (count_in (pieces_of c.args.line.now)) =
    c.read_count-2.ensures.number ∙ sym (ap count_of (count_found c.args.line.now c.last_piece-piece.result.now c.last_piece-piece.ensures.last)) in
    search rules

pub returns-clause-fits : goal.returns-clause-fits
returns-clause-fits c =
    given_fits c.args.lattice.now c.lawful.ensures.order.bottom_is_level c.args.fields.now (fields_of c.args.line.now) c.read_fields.new.inputs c.in_ok-read_fields.ensures _
