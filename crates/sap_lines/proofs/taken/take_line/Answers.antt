use Rattle.std.proofs.Common.{sym, ap, ◌∙◌, arith}
use Rattle.sap_stim.proofs.Pieces.{non_empty}
use Rattle.sap_lines.proofs.FirstLine.{before, begins_by, nothing_held, none_left, taken_of, refused_of, decided_by, end_there, shorter_by}
use Rattle.sap_lines.proofs.taken.take_line.Goals as goal

pub returns-then-is_empty-clause-tells : goal.returns-then-is_empty-clause-tells
returns-then-is_empty-clause-tells c = λ rest decided small.
    none_left c.args.lattice.now c.args.fields.now _ c.args.held.now rest
    (nothing_held c.args.held.now c.as_slice-bytes.result.now _ c.is_empty.ensures c.if-is_empty.true c.as_slice-bytes.ensures) decided

pub skip-requires : goal.skip-requires
skip-requires c = end_there c.args.lattice.now c.args.fields.now c.args.held.now c.as_slice-bytes.result.now c.line-text.result.now _ c.as_slice-bytes.ensures c.in-Ok.ensures.given

pub returns-in-Ok-clause-tells : goal.returns-in-Ok-clause-tells
returns-in-Ok-clause-tells c = λ rest decided small.
    taken_of c.args.lattice.now c.args.fields.now c.args.count c.args.held.now c.as_slice-bytes.result.now rest c.line-text.result.now
    _ _ c.as_slice-bytes.ensures (non_empty c.as_slice-bytes.result.now c.if-is_empty.ensures) decided (c.line-text.ensures
    ∙ ap before (sym c.as_slice-bytes.ensures)) c.in-Ok.ensures.given c.skip.ensures

pub returns-in-Ok-clause-takes : goal.returns-in-Ok-clause-takes
returns-in-Ok-clause-takes c = λ _.
    begins_by c.args.lattice.now c.args.fields.now c.args.held.now c.as_slice-bytes.result.now c.line-text.result.now _
    _ c.as_slice-bytes.ensures (c.line-text.ensures ∙ ap before (sym c.as_slice-bytes.ensures)) c.in-Ok.ensures.given c.skip.ensures

pub returns-in-Ok-clause-decided : goal.returns-in-Ok-clause-decided
returns-in-Ok-clause-decided c = λ _.
    decided_by c.args.lattice.now c.args.fields.now c.args.held.now c.as_slice-bytes.result.now c.line-text.result.now
    _ c.as_slice-bytes.ensures (c.line-text.ensures ∙ ap before (sym c.as_slice-bytes.ensures)) c.in-Ok.ensures.given

pub returns-in-Ok-clause-shorter : goal.returns-in-Ok-clause-shorter
returns-in-Ok-clause-shorter c =
    shorter_by c.args.held.now _ _ (end_there c.args.lattice.now c.args.fields.now c.args.held.now c.as_slice-bytes.result.now
    c.line-text.result.now _ c.as_slice-bytes.ensures c.in-Ok.ensures.given) c.skip.ensures

pub returns-in-Err-clause-tells : goal.returns-in-Err-clause-tells
returns-in-Err-clause-tells c = λ rest decided small.
    refused_of c.args.lattice.now c.args.fields.now c.args.count _ c.args.held.now c.as_slice-bytes.result.now rest c.line-text.result.now
    c.in-Err.code c.as_slice-bytes.ensures (non_empty c.as_slice-bytes.result.now c.if-is_empty.ensures) decided (c.line-text.ensures
    ∙ ap before (sym c.as_slice-bytes.ensures)) c.in-Err.ensures.given (omega (arith, c.saturating_add.ensures, small))
