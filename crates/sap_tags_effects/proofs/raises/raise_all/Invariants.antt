use Rattle.std.proofs.Common.{◌≡◌, drop}
use Rattle.sap_ir.specs.Plain.Views.{body_of, follow}
use Rattle.sap_tags_terms.specs.Code.{entities_in, setting_in}
use Rattle.sap_tagged.specs.Keys.{tag_key}
use Rattle.sap_tags_effects.proofs.Raised.{walk, raised}
use Rattle.sap_tags_effects.proofs.raises.raise_all.Given as goal

abbrev pub invariant-loop-x : goal.invariant-loop-x
invariant-loop-x l =
    follow (body_of l.out.items) (walk (setting_in l.setting) tag_key (raised (setting_in l.setting) l.wire) (entities_in l.setting) (drop l.x-index l.hang))
    ≡ follow (body_of l.initial.out.items) (walk (setting_in l.setting) tag_key (raised (setting_in l.setting) l.wire) (entities_in l.setting) l.hang)
