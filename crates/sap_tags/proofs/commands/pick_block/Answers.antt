use Rattle.std.proofs.Common.{◌≡◌, ◌+◌, OnOk, length, map, subst, arith}
use Rattle.sap_ir.specs.Prelude.{Body, body_of}
use Rattle.sap_ir.proofs.plain.SeatWidths.{seat_least}
use Rattle.sap_tags_terms.specs.Code.{entities_in, setting_in}
use Rattle.sap_tags_effects.proofs.Picked.{block_picked}
use Rattle.sap_tags.proofs.commands.pick_block.Goals as goal

pub decide_block-requires : goal.decide_block-requires
decide_block-requires c =
    let l = seat_least (length c.args.arms.now + 1) 63 (omega arith) (omega (arith, c.requires.arms)) in
    omega (arith, l, c.width.ensures)

pub returns : goal.returns
returns c =
    let s = c.args.setting.now in
    subst (λ (b : Body). OnOk c.decide_block.result (body_of c.decide_block.new.out.items ≡ b))
    (block_picked (setting_in s) _ _ c.width.result (entities_in s) c.args.k c.args.arms.now
    (map (λ b. body_of b.items) c.args.blocks.items) (body_of c.args.out.now.items) (body_of c.pick.new.out.items)
    c.width_of.ensures c.width.ensures c.in_ok-pick.ensures)
    c.decide_block.ensures
