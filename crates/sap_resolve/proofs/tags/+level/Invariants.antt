use Rattle.sap_tree.specs.Trees.{tag_of, tags_of}
use Rattle.sap_tree.proofs.Weights.{tag_weight, tags_weight}
use Rattle.sap_resolve.proofs.tags.+level.Given as goal

abbrev pub decreases-tag : goal.decreases-tag
decreases-tag l = tag_weight (tag_of l.t.now)

abbrev pub decreases-tags : goal.decreases-tags
decreases-tags l = tags_weight (tags_of l.parts.now)
