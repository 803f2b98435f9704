use Rattle.sap_lemmas.proofs.Common.{◌≡◌, arith, decimal}
use Rattle.sap_wave.specs.Digits.{numeral}
use Rattle.sap_wave.proofs.Formed.{numeral_is_decimal}
use Rattle.sap_wave.proofs.digits.push_numeral.Goals as goal

pub returns-clause-text : goal.returns-clause-text
returns-clause-text c =
    let printed : numeral c.args.number ≡ decimal c.args.number = numeral_is_decimal c.args.number (omega arith) in
    rw printed c.push_number.ensures.text

pub returns-clause-full : goal.returns-clause-full
returns-clause-full c =
    let printed : numeral c.args.number ≡ decimal c.args.number = numeral_is_decimal c.args.number (omega arith) in
    rw printed c.push_number.ensures.full
