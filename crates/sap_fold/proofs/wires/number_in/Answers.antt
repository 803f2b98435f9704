use Rattle.std.proofs.Common.{◌+◌, sym, ◌∙◌, subst, arith}
use Rattle.sap_fold.proofs.Numerals.{Makes, begun, ended, passed, taken}
use Rattle.sap_fold.proofs.wires.number_in.Goals as goal
use Rattle.sap_fold.proofs.wires.number_in.Goals.{then-is_ascii_digit, else-is_ascii_digit}

pub loop-byte-init : goal.loop-byte-init
loop-byte-init c = λ k small is. begun k small

pub loop-byte-preserved : goal.loop-byte-preserved
loop-byte-preserved c = λ k small is.
    let name = c.as_bytes-byte-items.ensures ∙ is in
    elim c.if-is_ascii_digit.branch [
      | then-is_ascii_digit w ↦
          taken k c.loop-byte.byte-index c.loop-byte.number c.if-is_ascii_digit.number c.as_bytes-byte-items.result.now small name
          c.loop-byte-test.true (sym c.is_ascii_digit.ensures.value ∙ w.if-is_ascii_digit.true)
          (omega (arith, w.number-is, w.from.ensures)) (c.loop-byte.invariant k small is)
      | else-is_ascii_digit w ↦
          subst (Makes k (c.loop-byte.byte-index + 1)) (sym w.number-is)
          (passed k c.loop-byte.byte-index c.loop-byte.number c.as_bytes-byte-items.result.now small name c.loop-byte-test.true
          (sym c.is_ascii_digit.ensures.value ∙ w.if-is_ascii_digit.false) (c.loop-byte.invariant k small is))
    ]

pub returns : goal.returns
returns c = λ k small is. ended k c.loop-byte.byte-index c.loop-byte.number c.as_bytes-byte-items.result.now (c.as_bytes-byte-items.ensures
    ∙ is) c.loop-byte-test.false (c.loop-byte.invariant k small is)
