use Rattle.std.proofs.Common.{◌∙◌, arith}
use Rattle.sap_names.specs.Entities.{what_is}
use Rattle.sap_names.proofs.Lists.{tags_step}
use Rattle.sap_names.proofs.command.+tags.Goals as goal

pub tags_faults-loop-tag-preserved : goal.tags_faults-loop-tag-preserved
tags_faults-loop-tag-preserved t c =
    tags_step c.args.lattice.now.names (what_is c.args.names.now) c.args.parts.now c.loop-tag.tag-index c.tag-item.result _ _ (omega arith) c.tag-item.is
    c.tag_faults.ensures ∙ c.loop-tag.invariant
