use Rattle.std.proofs.Common.{arith, ◌∙◌, sym, take}
use Rattle.sap_wave.proofs.Fronts.{all_more, bits_below, bits_spell, few_taken, number_more}
use Rattle.sap_wave.proofs.numbers.bits_at.Goals as goal

pub digits-preserved : goal.digits-preserved
digits-preserved c =
    let ds = c.args.text.now in
    let i = c.digits.count in
    let within = c.digits-test.true in
    let all = all_more 48 2 ds i within c.digits.invariant.digits (sym c.is_digit.ensures ∙ c.if-is_digit.true) in
    record {
      within = omega (arith, within);
      digits = all;
      number = λ few.
          number_more 48 2 ds i c.digits.number c.from.result within (bits_below ds i within all few) (c.digits.invariant.number (omega (arith, few))) c.from.ensures;
    }

pub returns-clause-number : goal.returns-clause-number
returns-clause-number c = λ few.
    let ds = c.args.text.now in
    let i = c.digits.count in
    c.digits.invariant.number (few_taken 64 ds i c.digits.invariant.within few) ∙ bits_spell (take i ds)
