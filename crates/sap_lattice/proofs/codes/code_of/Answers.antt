use Rattle.std.proofs.Common.{ap, sym, ◌∙◌, ℕ, Bool, not, List, arith}
use Rattle.sap_lattice.specs.Codes.{is_in_code}
use Rattle.sap_lattice.specs.Rows.{order_in}
use Rattle.sap_lattice.proofs.Binary.{counted_set, counted_clear}
use Rattle.sap_lattice.proofs.codes.code_of.Goals as goal
use Rattle.sap_lattice.proofs.codes.code_of.Goals.{then-not-le, else-not-le}

pub loop-i-preserved : goal.loop-i-preserved
loop-i-preserved c =
    let f : ℕ → Bool = is_in_code (order_in c.args.order.now) c.args.x in
    let ms : List ℕ = c.args.irreducibles.now in
    elim c.if-not-le.branch [
      | then-not-le w ↦
          w.code-is
          ∙ counted_set f ms c.loop-i.i c.loop-i-test.true c.loop-i.code c.loop-i.invariant (omega arith) (ap not (sym c.le.ensures ∙ w.if-not-le.true))
      | else-not-le w ↦
          w.code-is
          ∙ counted_clear f ms c.loop-i.i c.loop-i-test.true c.loop-i.code c.loop-i.invariant (ap not (sym c.le.ensures ∙ w.if-not-le.false))
    ]
