use Rattle.std.proofs.Common.{◌≡◌, Some, rules}
use Rattle.sap_vparse.specs.Reading.{front_number}
use Rattle.sap_vparse.proofs.Single.{number_is, number_read, number_refused, some_number}
use Rattle.sap_vparse.proofs.cursor.Cursor.number.Goals as goal

pub pass-place-requires : goal.pass-place-requires
pass-place-requires c = some_number c.args.self.now (c.in-Some.value, c.in-Some.field-0-1) (search rules)

pub returns-in-Some-clause-goes : goal.returns-in-Some-clause-goes
returns-in-Some-clause-goes c =
    let front : front_number c.args.self.now ≡ Some (c.in-Some.value, c.in-Some.field-0-1) = search rules in
    number_read c.args.self.now c.pass-place.new.self c.pass-place.result _ front c.pass-place.ensures

pub returns-in-Some-clause-tree : goal.returns-in-Some-clause-tree
returns-in-Some-clause-tree c =
    let front : front_number c.args.self.now ≡ Some (c.in-Some.value, c.in-Some.field-0-1) = search rules in
    record { digits = c.in-Some.field-0-1; is = number_is c.args.self.now c.pass-place.new.self c.pass-place.result _ front c.pass-place.ensures }

pub returns-in-None-clause-goes : goal.returns-in-None-clause-goes
returns-in-None-clause-goes c = λ known. number_refused c.args.self.now (search rules)
