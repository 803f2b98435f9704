use Rattle.std.proofs.Common.{arith}
use Rattle.sap_wave.proofs.EightDigits.{all_eight_more, number_eight_more}
use Rattle.sap_wave.proofs.eights.eights_at.Goals as goal

pub eights-preserved : goal.eights-preserved
eights-preserved c =
    let ds = c.args.text.now in
    let i = c.eights.count in
    let read = c.in-Some.ensures in
    let all = all_eight_more ds i c.in-Some.eight c.eights.invariant.digits read.digits in
    record {
      within = read.within;
      digits = all;
      number =
          λ few.
          number_eight_more ds i c.eights.number c.in-Some.eight read.within read.small all few (c.eights.invariant.number (omega (arith, few))) read.digits;
    }
