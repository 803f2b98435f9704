use Rattle.std.proofs.Common.{◌≡◌, ℕ, ◌+◌, List, suc, ap, arith, ◌∙◌}
use Rattle.sap_wave.specs.BlockLists.{parts_of}
use Rattle.sap_wave.proofs.Flat.{one_more_part}
use Rattle.sap_wave.proofs.block_list.BlockList.push.Goals as goal

pub returns-clause-blocks : goal.returns-clause-blocks
returns-clause-blocks c =
    let b = c.args.self.now in
    let one : b.count + 1 ≡ suc b.count = omega arith in
    ap (λ (n : ℕ). parts_of b.width n c.extend_from_slice.new.self.items) one
    ∙ ap (λ (ns : List ℕ). parts_of b.width (suc b.count) ns) c.in_ok-extend_from_slice.ensures.items
    ∙ one_more_part b.width b.count b.numbers.items c.args.block.now b.filled c.requires
