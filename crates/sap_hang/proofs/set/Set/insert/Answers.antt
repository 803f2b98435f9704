use Rattle.sap_lemmas.proofs.Common.{◌<◌, ◌/◌, ◌∙◌, refl, arith, length, get_or_default}
use Rattle.sap_hang.proofs.Sets.{inserted}
use Rattle.sap_hang.proofs.set.Set.insert.Goals as goal

pub returns : goal.returns
returns c =
    let room : c.args.number / 64 < length c.reach.new.self.words.items = omega (arith, c.in_ok-reach.ensures.room) in
    inserted c.args.self.now c.reach.new.self _ c.args.number c.index_mut.result.now c.in_ok-reach.ensures.same room
    (c.index_mut.ensures.value ∙ get_or_default c.reach.new.self.words.items (c.args.number / 64) _ 0 room) refl
