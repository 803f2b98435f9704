use Rattle.std.proofs.Common.{◌≡◌, Err, rules, sym, subst}
use Rattle.sap_parse.specs.Reading.{Goes}
use Rattle.sap_parse.specs.Table as s
use Rattle.sap_parse.proofs.Single.{sized_goes, sized_read}
use Rattle.sap_parse.proofs.cursor.Cursor.sized.Goals as goal

pub returns-in_err-pass-in-Some-clause-goes : goal.returns-in_err-pass-in-Some-clause-goes
returns-in_err-pass-in-Some-clause-goes c =
    let goes = sized_goes c.pass.result c.args.self.now c.pass.new.self c.args.role c.in-Some.sized (sym c.in-Some.ensures) c.pass.ensures.passes c.pass.ensures.breaks in
    let same : c.from_residual.result ≡ Err c.in_err-pass-in-Some.field-0.0 = search rules in
    subst (λ r. Goes (s.sized c.args.role) c.args.self.now r c.pass.new.self) (sym same)
    (subst (λ r. Goes (s.sized c.args.role) c.args.self.now r c.pass.new.self) c.in_err-pass-in-Some.was goes)

pub returns-in_ok-pass-in-Some-clause-goes : goal.returns-in_ok-pass-in-Some-clause-goes
returns-in_ok-pass-in-Some-clause-goes c =
    let passes = c.in_ok-pass-in-Some.ensures.passes in
    sized_read c.args.self.now c.pass.new.self c.args.role c.in-Some.sized passes.0 (sym c.in-Some.ensures) passes.1
