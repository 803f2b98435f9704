use Rattle.sap_lemmas.proofs.Common.{◌++◌, [], ◌∷◌, joined_on_last}
use Rattle.sap_vprint.specs.Printed.{always_cell_of}
use Rattle.sap_vprint.specs.Text.{item_text}
use Rattle.sap_vprint.proofs.Texts.{write_grows}
use Rattle.sap_vprint.proofs.lines.write.Goals as goal

pub returns : goal.returns
returns c =
    let whole = write_grows c.args.memory.now c.args.out.now.items c.clocked.new.out.items c.extend_from_slice.new.self.items
    c.operand.new.out.items c.extend_from_slice-2.new.self.items
    c.cell.new.out.items c.extend_from_slice-3.new.self.items c.operand-2.new.out.items c.in_ok-clocked.ensures c.in_ok-extend_from_slice.ensures.items c.in_ok-operand.ensures
    c.in_ok-extend_from_slice-2.ensures.items c.in_ok-cell.ensures c.in_ok-extend_from_slice-3.ensures.items c.in_ok-operand-2.ensures in
    joined_on_last c.extend_from_slice-4.result c.extend_from_slice-4.new.self.items c.operand-2.new.out.items (59 ∷ 10 ∷ [])
    (c.args.out.now.items ++ item_text (always_cell_of c.args.memory.now))
    c.extend_from_slice-4.ensures.items whole
