use Rattle.std.proofs.Common.{◌∙◌, arith}
use Rattle.sap_wave.proofs.EightDigits.{eight_digits}
use Rattle.sap_wave.proofs.eights.eight_at.Goals as goal

pub returns-then-word-word_of-clause-digits : goal.returns-then-word-word_of-clause-digits
returns-then-word-word_of-clause-digits c =
    let word = c.from_le_bytes-word in
    eight_digits c.args.text.now c.args.at _ word.result (omega (arith, c.if-text-at-lt8.false, c.if-at-text.false)) (λ k. omega (arith, (c.type_inv.text k).fits)) word.ensures
    (c.if-word-word_of.true ∙ c.word_of.ensures)
