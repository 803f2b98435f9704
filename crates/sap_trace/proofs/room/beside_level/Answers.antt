use Rattle.std.proofs.Common.{length, ap, arith}
use Rattle.sap_check.specs.Checked.{tree_in}
use Rattle.sap_check.proofs.SiteEntities.{site-within}
use Rattle.sap_trace.proofs.Rooms.{beside_level}
use Rattle.sap_trace.proofs.room.beside_level.Goals as goal

pub entity-requires : goal.entity-requires
entity-requires c = site-within (tree_in c.args.checked.now) _ _ c.site-at.ensures

pub returns : goal.returns
returns c =
    beside_level (tree_in c.args.checked.now) c.args.site _ c.site-at.result.now c.entity.result.now c.site-at.ensures c.entity.ensures
    (omega (arith, ap length c.as_bytes-name.ensures, c.word.ensures.size, c.digits.ensures.count))
