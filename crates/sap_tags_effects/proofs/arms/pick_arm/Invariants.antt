use Rattle.std.proofs.Common.{◌≡◌, drop}
use Rattle.sap_ir.specs.Prelude.{stop, body_of, follow}
use Rattle.sap_tags_terms.specs.Code.{setting_in}
use Rattle.sap_tagged.specs.Commands.{picks_arm}
use Rattle.sap_tags_effects.proofs.arms.pick_arm.Given as goal

-- with those of what is left
abbrev pub invariant-loop-constant : goal.invariant-loop-constant
invariant-loop-constant l =
    follow (body_of l.out.items) (picks_arm (setting_in l.setting) l.number.width l.number.wire l.pick.width l.pick.wire l.block (drop l.constant-index l.constants) stop)
    ≡ follow (body_of l.initial.out.items) (picks_arm (setting_in l.setting) l.number.width l.number.wire l.pick.width l.pick.wire l.block l.constants stop)
