use Rattle.std.proofs.Common.{rules, false, ◌<◌, length}
use Rattle.sap_desk.specs.Host.{is_open}
use Rattle.sap_desk.proofs.Places.{placed_set, placed_set_same, placed_is}
use Rattle.sap_desk.proofs.slot.close.Goals as goal

pub returns-clause-closed : goal.returns-clause-closed
returns-clause-closed g c =
    let there : c.args.channel < length c.args.slots.now.items = search rules in
    placed_set (λ slot. is_open slot.handle) false c.args.slots.now.items c.args.channel _ there

pub returns-clause-given : goal.returns-clause-given
returns-clause-given g c =
    let there : c.args.channel < length c.args.slots.now.items = search rules in
    placed_set_same (λ slot. slot.given) 0 c.args.slots.now.items c.args.channel _ there
    (placed_is (λ slot. slot.given) 0 c.args.slots.now.items c.args.channel c.index_mut.result.now there c.index_mut.ensures.value)
