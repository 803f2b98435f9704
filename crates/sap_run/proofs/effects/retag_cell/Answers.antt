use Rattle.sap_program.specs.Views.{term_of}
use Rattle.sap_store.specs.Code.{world_in}
use Rattle.sap_store.proofs.Widths.{index_within}
use Rattle.sap_run.proofs.effects.retag_cell.Goals as goal

pub put_cell_number-requires-clause-below : goal.put_cell_number-requires-clause-below
put_cell_number-requires-clause-below c =
    index_within (world_in c.args.environment.now) c.args.memory (term_of c.args.index.now) c.args.store.now c.see-index.result.number
    c.requires.index c.requires.ready c.see-index.ensures.number

pub put_cell_level-requires-clause-below : goal.put_cell_level-requires-clause-below
put_cell_level-requires-clause-below c =
    index_within (world_in c.args.environment.now) c.args.memory (term_of c.args.index.now) c.args.store.now c.see-index.result.number
    c.requires.index c.requires.ready c.see-index.ensures.number
