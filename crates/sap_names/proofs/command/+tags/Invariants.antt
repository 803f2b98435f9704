use Rattle.std.proofs.Common.{◌≡◌, drop}
use Rattle.sap_tree.specs.Trees.{tag_of, tags_of}
use Rattle.sap_names.specs.Best.{best_of}
use Rattle.sap_names.specs.Lists.{tags_faults}
use Rattle.sap_names.specs.Entities.{what_is}
use Rattle.sap_tree.proofs.Weights.{tag_weight, tags_weight}
use Rattle.sap_names.proofs.command.+tags.Given as goal

abbrev pub decreases-tag_faults : goal.decreases-tag_faults
decreases-tag_faults l = tag_weight (tag_of l.tag.now)

abbrev pub decreases-tags_faults : goal.decreases-tags_faults
decreases-tags_faults l = tags_weight (tags_of l.parts.now)

-- what is left gives the first of all
abbrev pub invariant-tags_faults-loop-tag : goal.invariant-tags_faults-loop-tag
invariant-tags_faults-loop-tag l =
    best_of l.best (tags_faults l.lattice.names (what_is l.names) (drop l.tag-index l.parts)) ≡ best_of l.initial.best (tags_faults l.lattice.names (what_is l.names) l.parts)
