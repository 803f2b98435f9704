use Rattle.sap_lemmas.proofs.Common.{[], ◌≡◌, drop, refl, arith, append-nil, drop_all}
use Rattle.sap_wave.specs.Digits.{digits_of}
use Rattle.sap_wave.proofs.Quads.{bits_behind, four_more}
use Rattle.sap_wave.proofs.digits.write_bits.Goals as goal

pub loop-start-init : goal.loop-start-init
loop-start-init c =
    let none : drop 64 c.args.bytes.now ≡ [] = drop_all 64 c.args.bytes.now (omega arith) in
    record {
      text = rw (none, append-nil (digits_of 48 2 64 c.args.number)) refl;
      within = omega arith;
      four = refl;
    }

pub loop-start-preserved : goal.loop-start-preserved
loop-start-preserved c =
    let l = c.loop-start in
    record {
      text = four_more (digits_of 48 2 64 c.args.number) l.bytes c.write_four.new.bytes l.start l.left
          (omega (arith, c.loop-start-test.true, l.invariant.four)) l.invariant.text c.write_four.ensures;
      within = omega (arith, l.invariant.within);
      four = omega (arith, l.invariant.four);
    }

pub returns : goal.returns
returns c =
    let l = c.loop-start in
    bits_behind c.args.width c.args.number l.start l.left l.bytes c.requires (omega (arith, c.loop-start-test.false)) l.invariant.text
