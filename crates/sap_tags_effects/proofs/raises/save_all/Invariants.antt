use Rattle.std.proofs.Common.{◌≡◌, ◌-◌}
use Rattle.sap_ir.specs.Prelude.{stop, body_of, follow}
use Rattle.sap_tags_terms.specs.Code.{entities_in, setting_in, world_in}
use Rattle.sap_tagged.specs.Prelude.{sweep, first_key, tag_key, var, saved, saves}
use Rattle.sap_tags_effects.proofs.raises.save_all.Given as goal

abbrev pub invariant-loop-x : goal.invariant-loop-x
invariant-loop-x l =
    follow (body_of l.out.items) (sweep (setting_in l.setting) first_key (saved (world_in l.setting))
    (λ m. var (setting_in l.setting) (tag_key m)) l.x (entities_in l.setting - l.x) stop)
    ≡ follow (body_of l.initial.out.items) (saves (setting_in l.setting) stop)
