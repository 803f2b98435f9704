use Rattle.std.proofs.Common.{◌≡◌, drop}
use Rattle.sap_ir.specs.Prelude.{stop, body_of, follow}
use Rattle.sap_tags_terms.specs.Code.{entities_in, setting_in}
use Rattle.sap_tagged.specs.Commands.{picks}
use Rattle.sap_tags_terms.proofs.Alone.{alone}
use Rattle.sap_tags_effects.proofs.arms.pick.Given as goal

-- those from the block on
abbrev pub invariant-loop-block : goal.invariant-loop-block
invariant-loop-block l =
    body_of l.out.items
    ≡ follow (body_of l.fn.out.items) (picks (setting_in l.setting) l.number.width l.number.wire l.pick.width l.pick.wire l.block
    (alone (entities_in l.setting) (drop l.block l.arms)) stop)
