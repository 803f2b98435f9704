use Rattle.sap_hang.proofs.Tables.{table_whole}
use Rattle.sap_hang.proofs.hang.hang.Goals as goal

pub returns : goal.returns
returns c =
    table_whole c.args.design.now.version c.args.design.now.declarations.items c.args.design.now.states.items
    c.as_slice-declarations.result.now c.as_slice.result.now c.args.names.now
    c.in_ok-firsts.firsts.items c.requires c.as_slice-declarations.ensures.value c.as_slice.ensures.value c.in_ok-firsts.ensures
    c.new-rows.result.items c.add_states.new.rows.items _ _ c.new-rows.ensures.items c.reverse.ensures.items c.in_ok-below.ensures.rows c.in_ok-below.ensures.falls
