use Rattle.std.proofs.Common.{◌≡◌, [], ◌∷◌, length, arith}
use Rattle.sap_trim.specs.Few.{calculated}
use Rattle.sap_trim.specs.Needed.{is_marked, marked}
use Rattle.sap_trim.proofs.Counts.{calculated_next}
use Rattle.sap_trim.proofs.left.count_calculated.Goals as goal

pub loop-k-preserved : goal.loop-k-preserved
loop-k-preserved c =
    let bs = c.args.kept.now in
    let k = c.loop-k.k in
    let w = c.index-wires-k.result in
    let e = calculated_next bs c.args.wires.now k w c.requires (omega arith) c.index-wires-k.is in
    let s = c.calculates-count.ensures in
    let same : c.calculates-count.result ≡ length (calculated (marked (is_marked bs k ∷ []) (w ∷ []))) = s.same in
    let i = c.loop-k.invariant in
    record {
      same = omega (arith, e, same, i.same);
      most = omega (arith, s.most, i.most);
    }
