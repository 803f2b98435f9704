use Rattle.std.proofs.Common.{ℕ, List, ◌+◌, ◌*◌, ◌-◌, Some, ap, arith, drop, length, sym, take, ◌∙◌}
use Rattle.sap_wave.proofs.Flat.{part_there, part_within}
use Rattle.sap_wave.proofs.block_list.BlockList.block.Goals as goal

pub overflow_mul-start : goal.overflow_mul-start
overflow_mul-start c =
    let b = c.args.self.now in
    omega (arith, part_within b.width b.count c.args.number b.numbers.items b.filled c.requires, ap length c.as_slice-numbers.ensures.value, c.as_slice-numbers.type_inv)

pub overflow_add-result : goal.overflow_add-result
overflow_add-result c =
    let b = c.args.self.now in
    omega (arith, part_within b.width b.count c.args.number b.numbers.items b.filled c.requires, ap length c.as_slice-numbers.ensures.value, c.as_slice-numbers.type_inv)

pub offset_bounds-numbers-start : goal.offset_bounds-numbers-start
offset_bounds-numbers-start c =
    let b = c.args.self.now in
    omega (arith, part_within b.width b.count c.args.number b.numbers.items b.filled c.requires, ap length c.as_slice-numbers.ensures.value, c.as_slice-numbers.type_inv)

pub slice_bounds-result-end : goal.slice_bounds-result-end
slice_bounds-result-end c =
    let b = c.args.self.now in
    omega (arith, part_within b.width b.count c.args.number b.numbers.items b.filled c.requires, ap length c.as_slice-numbers.ensures.value)

pub returns : goal.returns
returns c =
    let b = c.args.self.now in
    let k = c.args.number in
    let w = b.width in
    part_there w b.count b.numbers.items k c.requires ∙ ap (λ (ns : List ℕ). Some (take (k * w + w - k * w) (drop (k * w) ns)))
    (sym c.as_slice-numbers.ensures.value)
