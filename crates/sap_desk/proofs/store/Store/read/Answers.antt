use Rattle.std.proofs.Common.{arith, refl, []}
use Rattle.sap_desk.proofs.Steps.{number-at}
use Rattle.sap_desk.specs.Memory.{given_of}
use Rattle.sap_desk.proofs.Told.{told_moved, given_moved, names_moved, stands_moved}
use Rattle.sap_desk.proofs.store.Store.read.Goals as goal

pub invariant_of-self-2 : goal.invariant_of-self-2
invariant_of-self-2 c = record {
  stands =
      stands_moved c.args.k c.in_ok-position.position c.in_ok-position.count _ _ c.advance.ensures c.args.self.now.room c.args.self.now.files.items c.args.self.now.stands;
}

pub returns-clause-within : goal.returns-clause-within
returns-clause-within c = omega (arith, c.in_ok-position.ensures.most 0 [])

pub returns-clause-told : goal.returns-clause-told
returns-clause-told c = λ blame. told_moved c.args.k c.in_ok-position.position c.in_ok-position.count _ _ c.advance.ensures
    c.args.self.now.files.items c.args.self.now.room blame _ refl c.in_ok-position.ensures.reads

pub returns-clause-given : goal.returns-clause-given
returns-clause-given c = given_moved c.args.k c.in_ok-position.position c.in_ok-position.count _ _ c.advance.ensures

pub returns-clause-bounded : goal.returns-clause-bounded
returns-clause-bounded c =
    let given = given_moved c.args.k c.in_ok-position.position c.in_ok-position.count c.args.self.now.channels.items c.advance.new.channels.items c.advance.ensures in
    rw (number-at c.args.k _ (given_of c.args.self.now.channels.items) (given_of c.advance.new.channels.items) given) c.in_ok-position.ensures.bounded

pub returns-clause-names : goal.returns-clause-names
returns-clause-names c = names_moved c.args.k c.in_ok-position.position c.in_ok-position.count _ _ c.advance.ensures
