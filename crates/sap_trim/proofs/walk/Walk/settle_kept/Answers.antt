use Rattle.std.proofs.Common.{[], ◌∷◌, List, take, sym, subst, arith}
use Rattle.sap_net.specs.declared.parts.Wire.{Wire}
use Rattle.sap_share.specs.Sets.{holds}
use Rattle.sap_trim.specs.Needed.{is_marked, marked}
use Rattle.sap_trim.specs.Walked.{Settles, Walked, state_of}
use Rattle.sap_trim.proofs.Loops.{walked_both}
use Rattle.sap_trim.proofs.Marked.{marked_push}
use Rattle.sap_trim.proofs.walk.Walk.settle_kept.Goals as goal

pub loop-k-preserved : goal.loop-k-preserved
loop-k-preserved c =
    let bs = c.args.kept.now in
    let ws = c.args.wires.now in
    let k = c.loop-k.k in
    let w = c.index-wires-k.result in
    let g = marked_push bs ws k w c.requires.long (omega arith) c.index-wires-k.is in
    let step = Settles (holds c.args.taken.now) in
    let s = state_of c.args.self.now in
    let u = state_of c.settle_if_kept.new.self in
    record {
      orderly = c.in_ok-settle_if_kept.ensures.orderly;
      walked = subst (λ (zs : List Wire). Walked step s zs u) (sym g)
          (walked_both step (marked bs (take k ws)) (marked (is_marked bs k ∷ []) (w ∷ [])) s (state_of c.loop-k.self) u
          c.loop-k.invariant.walked c.in_ok-settle_if_kept.ensures.walked);
    }

pub settle_if_kept-requires-clause-place : goal.settle_if_kept-requires-clause-place
settle_if_kept-requires-clause-place c = let long = c.requires.long in omega (arith, long)
