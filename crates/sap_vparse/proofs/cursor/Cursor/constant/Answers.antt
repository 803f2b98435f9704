use Rattle.std.proofs.Common.{◌≡◌, Some, rules}
use Rattle.sap_vparse.specs.Reading.{front_constant}
use Rattle.sap_vparse.proofs.Single.{constant_is, constant_read, constant_refused, some_constant}
use Rattle.sap_vparse.proofs.cursor.Cursor.constant.Goals as goal

pub pass-place-requires : goal.pass-place-requires
pass-place-requires c = some_constant c.args.self.now (c.in-Some.width, c.in-Some.value) (search rules)

pub returns-in-Some-clause-goes : goal.returns-in-Some-clause-goes
returns-in-Some-clause-goes c =
    let front : front_constant c.args.self.now ≡ Some (c.in-Some.width, c.in-Some.value) = search rules in
    constant_read c.args.self.now c.pass-place.new.self c.pass-place.result _ front c.pass-place.ensures

pub returns-in-Some-clause-tree : goal.returns-in-Some-clause-tree
returns-in-Some-clause-tree c =
    let front : front_constant c.args.self.now ≡ Some (c.in-Some.width, c.in-Some.value) = search rules in
    constant_is c.args.self.now c.pass-place.new.self c.pass-place.result _ front c.pass-place.ensures

pub returns-in-None-clause-goes : goal.returns-in-None-clause-goes
returns-in-None-clause-goes c = λ known. constant_refused c.args.self.now (search rules)
