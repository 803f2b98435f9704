use Rattle.std.proofs.Common.{◌≡◌, ◌-◌}
use Rattle.sap_ir.specs.Prelude.{stop, body_of, follow}
use Rattle.sap_tags_terms.specs.Code.{entities_in, setting_in, world_in}
use Rattle.sap_tagged.specs.Prelude.{sweep, for_each, resets, tag_key, bits}
use Rattle.sap_tags_effects.proofs.raises.reset_below.Given as goal

abbrev pub invariant-loop-x : goal.invariant-loop-x
invariant-loop-x l =
    follow (body_of l.out.items) (sweep (setting_in l.setting) tag_key (resets (world_in l.setting) l.target)
    (λ x. bits (setting_in l.setting) (world_in l.setting).order.bottom) l.x (entities_in l.setting - l.x) stop)
    ≡ follow (body_of l.initial.out.items) (for_each (setting_in l.setting) tag_key (resets (world_in l.setting) l.target)
    (λ x. bits (setting_in l.setting) (world_in l.setting).order.bottom) stop)
