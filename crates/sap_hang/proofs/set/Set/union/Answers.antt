use Rattle.sap_lemmas.proofs.Common.{◌≡◌, ◌<◌, ◌∙◌, refl, arith, length, bit_or, get_or, get_or_default, length-set}
use Rattle.sap_hang.proofs.Sets.{united, all_words, or_step, or_behind}
use Rattle.sap_hang.proofs.set.Set.union.Goals as goal

pub returns : goal.returns
returns c =
    united c.args.self.now c.args.other.now c.loop-i.self
    (all_words c.args.self.now.words.items c.reach.new.self.words.items c.loop-i.self.words.items c.args.other.now.words.items c.loop-i.i (omega arith)
    c.in_ok-reach.ensures.same c.loop-i.invariant.0 c.loop-i.invariant.1)

pub loop-i-preserved : goal.loop-i-preserved
loop-i-preserved c =
    let words = c.loop-i.self.words.items in
    let within : c.loop-i.i < length words = omega (arith, c.loop-i.invariant.2) in
    let its : c.index.result.now ≡ get_or c.args.other.now.words.items c.loop-i.i 0 =
    c.index.ensures ∙ get_or_default c.args.other.now.words.items c.loop-i.i c.index.result.now 0 (omega arith) in
    let mine : c.index_mut.result.now ≡ get_or words c.loop-i.i 0 = c.index_mut.ensures.value ∙ get_or_default words c.loop-i.i c.index_mut.result.now 0 within in (
      λ k h. or_step c.reach.new.self.words.items c.args.other.now.words.items words _ c.loop-i.i c.index.result.now c.index_mut.result.now
          k within its mine refl c.loop-i.invariant.0 c.loop-i.invariant.1 h,
      λ k h. or_behind c.reach.new.self.words.items words _ c.loop-i.i (bit_or c.index_mut.result.now c.index.result.now) k refl c.loop-i.invariant.1 h,
      omega (arith, c.loop-i.invariant.2, length-set words c.loop-i.i (bit_or c.index_mut.result.now c.index.result.now)),
    )
