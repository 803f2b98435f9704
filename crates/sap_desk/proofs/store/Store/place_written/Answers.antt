use Rattle.sap_desk.proofs.Added.{writer_found}
use Rattle.sap_desk.proofs.store.Store.place_written.Goals as goal

pub returns-clause-none : goal.returns-clause-none
returns-clause-none c =
    writer_found c.args.self.now.room c.args.self.now.files.items c.args.self.now.channels.items c.args.k c.in_ok-name.name.now
    c.place_of.result c.args.self.now.stands c.in_ok-name.ensures.writes c.place_of.ensures
