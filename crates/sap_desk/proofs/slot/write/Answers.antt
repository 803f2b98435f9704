use Rattle.std.proofs.Common.{rules, false, ◌<◌, ◌∙◌, sym, length}
use Rattle.sap_desk.specs.Host.{is_open}
use Rattle.sap_desk.proofs.Places.{placed_set_same, placed_is}
use Rattle.sap_desk.proofs.slot.write.Goals as goal

pub returns-clause-open_stands : goal.returns-clause-open_stands
returns-clause-open_stands g c =
    let there : c.args.channel < length c.args.slots.now.items = search rules in
    placed_set_same (λ slot. is_open slot.handle) false c.args.slots.now.items c.args.channel _ there
    (placed_is (λ slot. is_open slot.handle) false c.args.slots.now.items c.args.channel c.index_mut.result.now there c.index_mut.ensures.value
    ∙ sym c.write_to.ensures.open_stands)

pub returns-clause-given : goal.returns-clause-given
returns-clause-given g c =
    let there : c.args.channel < length c.args.slots.now.items = search rules in
    placed_set_same (λ slot. slot.given) 0 c.args.slots.now.items c.args.channel _ there
    (placed_is (λ slot. slot.given) 0 c.args.slots.now.items c.args.channel c.index_mut.result.now there c.index_mut.ensures.value)
