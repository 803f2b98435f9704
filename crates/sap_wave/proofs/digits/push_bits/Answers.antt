use Rattle.sap_lemmas.proofs.Common.{◌<◌, ◌+◌, ◌++◌, ℕ, List, length, sym, ap, ◌∙◌, arith, vec_capacity}
use Rattle.sap_desk.proofs.Steps.{on_err}
use Rattle.sap_wave.specs.Digits.{bits}
use Rattle.sap_wave.proofs.DigitsLemmas.{bits_read_back}
use Rattle.sap_wave.proofs.Quads.{one_bit}
use Rattle.sap_wave.proofs.digits.push_bits.Goals as goal

pub returns-in_err-push-clause-full : goal.returns-in_err-push-clause-full
returns-in_err-push-clause-full c =
    let size = bits_read_back.width c.args.width c.args.number in
    let p : vec_capacity c.args.out.now < length c.args.out.now.items + length (bits c.args.width c.args.number) =
    omega (arith, size, c.if-width-eq1.true, c.in_err-push.ensures.full) in
    on_err c.from_residual.result p

pub returns-then-width-eq1-clause-text : goal.returns-then-width-eq1-clause-text
returns-then-width-eq1-clause-text c =
    c.in_ok-push.ensures.items
    ∙ ap (λ (xs : List ℕ). c.args.out.now.items ++ xs) (sym (one_bit c.args.number) ∙ ap (λ (w : ℕ). bits w c.args.number) (sym c.if-width-eq1.true))
