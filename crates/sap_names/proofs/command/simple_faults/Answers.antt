use Rattle.sap_names.specs.Entities.{what_is}
use Rattle.sap_names.proofs.Commands.{write_noted, set_cell_tag_noted}
use Rattle.sap_names.proofs.command.simple_faults.Goals as goal

pub returns-in-Write : goal.returns-in-Write
returns-in-Write c =
    write_noted c.args.lattice.now.names (what_is c.args.names.now) _ c.in-Write.target c.in-Write.index c.in-Write.e
    c.look-what-in-Write.result c.index_width.result c.cell_width.result _ _ _ _
    c.in-Write.is c.look-what-in-Write.ensures c.index_width.ensures c.cell_width.ensures c.note_use-in-Write.ensures c.expression_faults-in-Write.ensures
    c.expression_faults-in-Write-2.ensures

pub returns-in-SetCellTag : goal.returns-in-SetCellTag
returns-in-SetCellTag c =
    set_cell_tag_noted c.args.lattice.now.names (what_is c.args.names.now) _ c.in-SetCellTag.field-0 c.in-SetCellTag.target
    c.in-SetCellTag.index c.in-SetCellTag.tag c.look-what-in-SetCellTag.result
    c.index_width-in-SetCellTag.result _ _ _ _ c.in-SetCellTag.is c.look-what-in-SetCellTag.ensures c.index_width-in-SetCellTag.ensures c.note_use-in-SetCellTag.ensures
    c.expression_faults-in-SetCellTag.ensures c.tag_faults-in-SetCellTag.ensures
