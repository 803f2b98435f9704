use Rattle.sap_program.specs.Views.{term_of}
use Rattle.sap_store.specs.Code.{world_in}
use Rattle.sap_store.proofs.Widths.{value_fits}
use Rattle.sap_run.proofs.effects.set.Goals as goal

pub put_number-requires-clause-fits : goal.put_number-requires-clause-fits
put_number-requires-clause-fits c = value_fits (world_in c.args.environment.now) c.args.register (term_of c.args.value.now) c.args.store.now
    c.see-seen.result.number c.requires.able c.requires.ready c.see-seen.ensures.number
