use Rattle.sap_desk.proofs.Told.{told_closed, given_closed, names_closed, stands_closed}
use Rattle.sap_desk.proofs.store.Store.close.Goals as goal

pub invariant_of-self : goal.invariant_of-self
invariant_of-self c = record { stands = stands_closed c.args.k _ _ c.close.ensures c.args.self.now.room c.args.self.now.files.items c.args.self.now.stands }

pub returns-clause-told : goal.returns-clause-told
returns-clause-told c = told_closed c.args.k _ _ c.close.ensures c.args.self.now.files.items c.args.self.now.room

pub returns-clause-given : goal.returns-clause-given
returns-clause-given c = given_closed c.args.k _ _ c.close.ensures

pub returns-clause-names : goal.returns-clause-names
returns-clause-names c = names_closed c.args.k _ _ c.close.ensures
