use Rattle.std.proofs.Common.{◌≡◌, length, sym, ap, ◌∙◌, subst, arith}
use Rattle.sap_cycle.specs.Known.{IsKnownPort}
use Rattle.sap_cycle.proofs.Learned.{all_get_or, bases_long}
use Rattle.sap_cycle.proofs.First.{ports_more}
use Rattle.sap_cycle.proofs.load.write_ports.Goals as goal

pub index-base-requires : goal.index-base-requires
index-base-requires c =
    let l : length c.args.known.now.bases.items ≡ length c.args.memories.now = ap length c.requires.bases ∙ bases_long 0 c.args.memories.now in
    let k = c.args.known.now.bases.ok.0 in
    omega arith

pub slot_of-enable-requires : goal.slot_of-enable-requires
slot_of-enable-requires c =
    let m = c.index-memories-i.result in
    (subst (IsKnownPort c.args.known.now) (sym c.index-memories-i.is)
    (all_get_or (IsKnownPort c.args.known.now) c.args.memories.now c.loop-i.i m c.requires.operands (omega arith))).0

pub slot_of-index-requires : goal.slot_of-index-requires
slot_of-index-requires c =
    let m = c.index-memories-i.result in
    (subst (IsKnownPort c.args.known.now) (sym c.index-memories-i.is)
    (all_get_or (IsKnownPort c.args.known.now) c.args.memories.now c.loop-i.i m c.requires.operands (omega arith))).1

pub slot_of-value-requires : goal.slot_of-value-requires
slot_of-value-requires c =
    let m = c.index-memories-i.result in
    (subst (IsKnownPort c.args.known.now) (sym c.index-memories-i.is)
    (all_get_or (IsKnownPort c.args.known.now) c.args.memories.now c.loop-i.i m c.requires.operands (omega arith))).2

pub loop-i-preserved : goal.loop-i-preserved
loop-i-preserved c =
    ports_more c.args.known.now c.args.memories.now c.loop-i.i c.index-memories-i.result c.loop-i.list.items _ _ c.requires.bases (omega arith) c.index-memories-i.is
    c.loop-i.invariant c.in_ok-push.ensures.items c.index-base.ensures c.slot_of-enable.ensures c.slot_of-index.ensures c.slot_of-value.ensures
