use Rattle.sap_lemmas.proofs.Common.{◌∙◌, ℕ, ap, sym, arith, count_ones, Some, Decides-eqb}
use Rattle.sap_names.proofs.Depths.{depth_bits, no_depth}
use Rattle.sap_names.proofs.width.index_bits.Goals as goal
use Rattle.sap_names.proofs.width.index_bits.Goals.{else-is_power_of_two-via-then-is_power_of_two+then-depth-ge2+else-depth-le4096, else-is_power_of_two-via-then-is_power_of_two+else-depth-ge2, else-is_power_of_two-via-else-is_power_of_two}

pub returns-then-depth-le4096 : goal.returns-then-depth-le4096
returns-then-depth-le4096 c =
    let one = (Decides-eqb (count_ones c.args.depth) 1).0 (sym c.is_power_of_two.ensures ∙ c.if-is_power_of_two.true) in
    ap (λ (n : ℕ). Some n) c.from.ensures
    ∙ depth_bits c.args.depth c.ilog2.result one c.if-depth-ge2.true c.if-depth-le4096.true c.ilog2.ensures.power_le c.ilog2.ensures.next_power_gt

pub returns-else-is_power_of_two : goal.returns-else-is_power_of_two
returns-else-is_power_of_two c = no_depth c.args.depth (λ one small large. elim c.else-is_power_of_two.branch [
  | else-is_power_of_two-via-then-is_power_of_two+then-depth-ge2+else-depth-le4096 w ↦ omega (arith, large, w.if-depth-le4096.false)
  | else-is_power_of_two-via-then-is_power_of_two+else-depth-ge2 w ↦ omega (arith, small, w.if-depth-ge2.false)
  | else-is_power_of_two-via-else-is_power_of_two w ↦
      let is = c.is_power_of_two.ensures ∙ (Decides-eqb (count_ones c.args.depth) 1).1 one in
      let not = w.if-is_power_of_two.false in
      cc
])
