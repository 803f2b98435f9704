use Rattle.std.proofs.Common.{◌≡◌, ◌∙◌, Err, Some, rules, sym, subst}
use Rattle.sap_parse.specs.Reading.{Goes, front_name}
use Rattle.sap_parse.specs.Table as s
use Rattle.sap_parse.proofs.Single.{name_goes, name_read}
use Rattle.sap_parse.proofs.cursor.Cursor.name.Goals as goal

pub returns-in_err-place-in-Some-clause-goes : goal.returns-in_err-place-in-Some-clause-goes
returns-in_err-place-in-Some-clause-goes c =
    let front : front_name c.args.self.now.left ≡ Some c.in-Some.name = sym c.in_ok-name.ensures ∙ c.in-Some.is in
    let goes = name_goes c.pass.result c.args.self.now c.pass.new.self c.args.role c.in-Some.name front c.pass.ensures.passes c.pass.ensures.breaks in
    let same : c.from_residual-in_err-place-in-Some.result ≡ Err c.in_err-place-in-Some.field-0.0 = search rules in
    subst (λ r. Goes (s.any_name c.args.role) c.args.self.now r c.pass.new.self) (sym same)
    (subst (λ r. Goes (s.any_name c.args.role) c.args.self.now r c.pass.new.self) c.in_err-place-in-Some.was goes)

pub returns-in_ok-place-in-Some-clause-goes : goal.returns-in_ok-place-in-Some-clause-goes
returns-in_ok-place-in-Some-clause-goes c =
    let front : front_name c.args.self.now.left ≡ Some c.in-Some.name = sym c.in_ok-name.ensures ∙ c.in-Some.is in
    let passes = c.in_ok-place-in-Some.ensures.passes in
    name_read c.args.self.now c.pass.new.self c.args.role c.in-Some.name passes.0 front passes.1
