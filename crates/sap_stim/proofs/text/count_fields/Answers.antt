use Rattle.std.proofs.Common.{◌∙◌}
use Rattle.sap_stim.proofs.Pieces.{non_empty}
use Rattle.sap_stim.proofs.LastPiece.{fields_beside, fields_whole}
use Rattle.sap_stim.proofs.text.count_fields.Goals as goal

pub returns-then-is_starred : goal.returns-then-is_starred
returns-then-is_starred c =
    fields_beside c.args.line.now c.args.piece.now c.count_spaces-spaces.result c.is_starred.result
    (non_empty c.args.line.now c.if-is_empty.ensures) c.requires.last (c.count_spaces-spaces.ensures ∙ c.requires.spaces) c.is_starred.ensures c.if-is_starred.true

pub returns : goal.returns
returns c =
    fields_whole c.args.line.now c.args.piece.now c.count_spaces-spaces.result c.is_starred.result
    (non_empty c.args.line.now c.if-is_empty.ensures) c.requires.last (c.count_spaces-spaces.ensures ∙ c.requires.spaces) c.is_starred.ensures c.if-is_starred.false
