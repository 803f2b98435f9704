use Rattle.sap_lemmas.proofs.Common.{◌++◌, ap, ◌∙◌, [], ◌∷◌, joined_on_last}
use Rattle.sap_vprint.specs.Printed.{initial_cells_of}
use Rattle.sap_vprint.specs.Text.{item_text}
use Rattle.sap_vprint.proofs.Texts.{cells_grow}
use Rattle.sap_vprint.proofs.lines.initial_cell.Goals as goal

pub returns : goal.returns
returns c =
    let name = c.in_ok-extend_from_slice-2.ensures.items ∙ ap (λ z. c.loop_head.new.out.items ++ z) c.as_bytes.ensures in
    let whole = cells_grow c.args.memory.now c.args.out.now.items c.extend_from_slice.new.self.items c.loop_head.new.out.items
    c.extend_from_slice-2.new.self.items c.extend_from_slice-3.new.self.items
    c.constant.new.out.items c.in_ok-extend_from_slice.ensures.items c.in_ok-loop_head.ensures name c.in_ok-extend_from_slice-3.ensures.items c.in_ok-constant.ensures in
    joined_on_last c.extend_from_slice-4.result c.extend_from_slice-4.new.self.items c.constant.new.out.items (59 ∷ 10 ∷ [])
    (c.args.out.now.items ++ item_text (initial_cells_of c.args.memory.now))
    c.extend_from_slice-4.ensures.items whole
