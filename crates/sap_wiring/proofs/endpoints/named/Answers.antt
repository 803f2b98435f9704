use Rattle.std.proofs.Common.{sym, ◌∙◌, get_or}
use Rattle.sap_names.proofs.Numbers.{number_of-within}
use Rattle.sap_wiring.specs.Wiring.{seen, named_part}
use Rattle.sap_wiring.proofs.Parts.{part_cases, part_found}
use Rattle.sap_wiring.proofs.Naming.{none_is, uncut, cut, unnumbered, numbered}
use Rattle.sap_wiring.proofs.endpoints.named.Goals as goal

pub returns-in_err-part_name : goal.returns-in_err-part_name
returns-in_err-part_name c = none_is _ _ _ c.from_residual.ensures (uncut (seen c.args.around.now) c.requires c.args.text.now c.in_err-part_name.ensures.cases)

pub returns-in_err-part : goal.returns-in_err-part
returns-in_err-part c = none_is _ _ _ c.from_residual-in_err-part.ensures (λ i e d n.
    let parts = cut (seen c.args.around.now) c.requires c.args.text.now (c.in_ok-part_name.part_name, c.in_ok-part_name.entity_name) c.in_ok-part_name.ensures.cases i e d n in
    part_cases c.args.around.now.parts.now c.as_bytes.result.now _ c.in_err-part.ensures i n.part n.is_part (sym parts.0 ∙ sym c.as_bytes.ensures.value))

pub returns-in_err-entity : goal.returns-in_err-entity
returns-in_err-entity c =
    let found = part_found c.args.around.now.parts.now c.as_bytes.result.now c.in_ok-part.part c.index-around-part.result c.in_ok-part.ensures in
    none_is _ _ _ c.from_residual-in_err-entity.ensures (
    unnumbered (seen c.args.around.now) c.requires c.args.text.now (c.in_ok-part_name.part_name, c.in_ok-part_name.entity_name) c.in_ok-part_name.ensures.cases c.in_ok-part.part
    (named_part (get_or c.args.around.now.parts.now c.in_ok-part.part c.index-around-part.result)) found.0 (found.1 ∙ c.as_bytes.ensures.value) c.in_err-entity.ensures
    )

pub entity-requires : goal.entity-requires
entity-requires c =
    number_of-within (get_or c.args.around.now.parts.now c.in_ok-part.part c.index-around-part.result).names.now
    c.in_ok-part_name.entity_name.now c.in_ok-entity.entity c.in_ok-entity.ensures

pub returns : goal.returns
returns c =
    let found = part_found c.args.around.now.parts.now c.as_bytes.result.now c.in_ok-part.part c.index-around-part.result c.in_ok-part.ensures in
    numbered (seen c.args.around.now) c.args.text.now (c.in_ok-part_name.part_name, c.in_ok-part_name.entity_name) c.in_ok-part_name.ensures.cases c.in_ok-part.part
    (named_part (get_or c.args.around.now.parts.now c.in_ok-part.part c.index-around-part.result)) found.0 (found.1
    ∙ c.as_bytes.ensures.value) c.in_ok-entity.entity c.in_ok-entity.ensures
    c.entity.result.now c.entity.ensures c.new.result c.new.ensures.part c.new.ensures.entity
