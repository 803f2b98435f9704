use Rattle.std.proofs.Common.{option_map, refl, ap, ◌∙◌}
use Rattle.sap_lattice.specs.Prelude.{order_of, code_of}
use Rattle.sap_link.specs.Systems.{Endpoint}
use Rattle.sap_linker.specs.declared.parts.LinkedPart.{LinkedPart}
use Rattle.sap_linker.specs.Given.{designs_of, named_design}
use Rattle.sap_linker.proofs.Meeting.{feed_is, name_at, placed, width_at_number}
use Rattle.sap_linker.proofs.given.feed.Goals as goal

pub returns : goal.returns
returns c =
    let ls = c.args.lattice.now in
    let parts = c.args.parts.now in
    let w = c.args.wire in
    let source : LinkedPart = c.index-parts-part.result in
    let target : LinkedPart = c.index-parts-part-2.result in
    let from_part = c.part.ensures ∙ ap (λ (e : Endpoint). e.part) c.from-from.ensures in
    let to_part = c.part-2.ensures ∙ ap (λ (e : Endpoint). e.part) c.to-to.ensures in
    let from_entity = c.entity.ensures ∙ ap (λ (e : Endpoint). e.entity) c.from-from.ensures in
    let to_entity = c.entity-2.ensures ∙ ap (λ (e : Endpoint). e.entity) c.to-to.ensures in
    let width_entity = c.entity-3.ensures ∙ ap (λ (e : Endpoint). e.entity) c.to-to.ensures in
    feed_is ls (designs_of parts) w _ (named_design source) (named_design target)
    (placed parts c.part.result w.from.part source c.requires.from.design c.requires.from.is_design from_part c.index-parts-part.is)
    (placed parts c.part-2.result w.to.part target c.requires.to.design c.requires.to.is_design to_part c.index-parts-part-2.is)
    refl
    (name_at _ _ _ _ _ c.names.ensures from_entity c.name.ensures)
    refl
    (name_at _ _ _ _ _ c.names-2.ensures to_entity c.name-2.ensures)
    (width_at_number _ _ _ _ _ c.names-3.ensures width_entity c.width.ensures)
    (c.code_at.ensures ∙ ap (option_map (code_of (order_of ls))) c.level.ensures)
