use Rattle.sap_lemmas.proofs.Common.{◌≡◌, length, arith, vec_capacity}
use Rattle.std.specs.Vec.{vec_len}
use Rattle.sap_check.specs.Checked.{tree_in}
use Rattle.sap_names.specs.Entities.{entities_of}
use Rattle.sap_check.proofs.EntityNames.{entity_full, entity_written}
use Rattle.sap_check.proofs.site_text.push_entity.Goals as goal

pub returns-clause-text : goal.returns-clause-text
returns-clause-text c =
    entity_written (entities_of (tree_in c.args.checked.now)) c.args.entity _ _ c.args.out.now.items c.extend_from_slice.new.self.items
    c.extend_from_slice.result c.entity.ensures c.as_bytes.ensures
    c.extend_from_slice.ensures.items

pub returns-clause-full : goal.returns-clause-full
returns-clause-full c =
    let same : vec_len c.args.out.now ≡ length c.args.out.now.items = omega arith in
    entity_full (entities_of (tree_in c.args.checked.now)) c.args.entity (vec_capacity c.args.out.now) (vec_len c.args.out.now)
    (length c.args.out.now.items) _ _ c.extend_from_slice.result c.entity.ensures c.as_bytes.ensures same
    c.extend_from_slice.ensures.full
