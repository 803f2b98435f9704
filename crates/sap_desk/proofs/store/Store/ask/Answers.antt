use Rattle.std.proofs.Common.{refl}
use Rattle.sap_desk.proofs.Steps.{moved-unread}
use Rattle.sap_desk.proofs.Told.{told_moved, given_noted, names_moved, noted, stands_moved}
use Rattle.sap_desk.specs.Store.{told_in}
use Rattle.sap_desk.proofs.store.Store.ask.Goals as goal

pub invariant_of-self : goal.invariant_of-self
invariant_of-self c = record {
  stands = stands_moved c.args.k c.in-Some.position 0 _ _ (noted c.args.k c.in-Some.position _ _ c.note.ensures) c.args.self.now.room c.args.self.now.files.items
      c.args.self.now.stands;
}

pub returns-in-Some-clause-told : goal.returns-in-Some-clause-told
returns-in-Some-clause-told c = λ blame. told_moved c.args.k c.in-Some.position 0 _ _ (noted c.args.k c.in-Some.position _ _ c.note.ensures)
    c.args.self.now.files.items c.args.self.now.room blame _ refl c.in-Some.ensures.reads

pub returns-in-Some-clause-given : goal.returns-in-Some-clause-given
returns-in-Some-clause-given c = given_noted c.args.k c.in-Some.position _ _ c.note.ensures

pub returns-in-Some-clause-names : goal.returns-in-Some-clause-names
returns-in-Some-clause-names c = names_moved c.args.k c.in-Some.position 0 _ _ (noted c.args.k c.in-Some.position _ _ c.note.ensures)

pub returns-in-None-clause-told : goal.returns-in-None-clause-told
returns-in-None-clause-told c = λ blame. moved-unread c.args.k (told_in c.args.self.now blame) c.in-None.ensures.none
