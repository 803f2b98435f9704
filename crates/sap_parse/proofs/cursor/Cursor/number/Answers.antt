use Rattle.std.proofs.Common.{◌≡◌, Err, rules, sym, subst}
use Rattle.sap_parse.specs.Reading.{Goes}
use Rattle.sap_parse.specs.Table as s
use Rattle.sap_parse.proofs.Single.{number_goes, number_read}
use Rattle.sap_parse.proofs.cursor.Cursor.number.Goals as goal

pub returns-in_err-place-in-Some-clause-goes : goal.returns-in_err-place-in-Some-clause-goes
returns-in_err-place-in-Some-clause-goes c =
    let goes = number_goes c.pass.result c.args.self.now c.pass.new.self c.args.role c.in-Some.value (sym c.in-Some.ensures) c.pass.ensures.passes c.pass.ensures.breaks in
    let same : c.from_residual.result ≡ Err c.in_err-place-in-Some.field-0.0 = search rules in
    subst (λ r. Goes (s.number c.args.role) c.args.self.now r c.pass.new.self) (sym same)
    (subst (λ r. Goes (s.number c.args.role) c.args.self.now r c.pass.new.self) c.in_err-place-in-Some.was goes)

pub returns-in_ok-place-in-Some-clause-goes : goal.returns-in_ok-place-in-Some-clause-goes
returns-in_ok-place-in-Some-clause-goes c =
    let passes = c.in_ok-place-in-Some.ensures.passes in
    number_read c.args.self.now c.pass.new.self c.args.role c.in-Some.value passes.0 (sym c.in-Some.ensures) passes.1
