use Rattle.sap_lemmas.proofs.Common.{◌≡◌, ◌<◌, ◌+◌, ◌/◌, length, length-append, refl, ap, ◌∙◌, arith, vec_capacity}
use Rattle.sap_desk.proofs.Steps.{on_err}
use Rattle.sap_wave.specs.Digits.{identifier}
use Rattle.sap_wave.proofs.Written.{identifier_grows, identifier_longer}
use Rattle.sap_wave.proofs.digits.+push_identifier.Goals as goal

pub returns-in_err-push-2-clause-full : goal.returns-in_err-push-2-clause-full
returns-in_err-push-2-clause-full t c =
    let old = c.args.out.now.items in
    let n = c.args.number in
    let mid : length c.push_identifier.new.out.items ≡ length old + length (identifier (n / 94)) =
    ap length c.in_ok-push_identifier.ensures.text ∙ length-append old (identifier (n / 94)) in
    let longer = identifier_longer n c.if-number-lt-IDENTIFIER_BASE.false in
    let p : vec_capacity c.args.out.now < length c.args.out.now.items + length (identifier c.args.number) =
    omega (arith, mid, longer, c.in_err-push-2.ensures.full, c.in_ok-push_identifier.ensures.room) in
    on_err c.from_residual-in_err-push-2.result p

pub returns-clause-text : goal.returns-clause-text
returns-clause-text t c =
    identifier_grows c.args.out.now.items c.push_identifier.new.out.items c.push-2.new.self.items c.args.number
    _ c.if-number-lt-IDENTIFIER_BASE.false c.in_ok-push_identifier.ensures.text c.in_ok-push-2.ensures.items refl
