use Rattle.std.proofs.Common.{◌≡◌, true, subst}
use Rattle.sap_tree.specs.Designs.{design_of}
use Rattle.sap_tree.specs.Whole.{is_whole}
use Rattle.sap_tree.specs.declared.design.Design.{Design}
use Rattle.sap_check.specs.Checked.{tree_in}
use Rattle.sap_explain.proofs.CommentLines.{design_are}
use Rattle.sap_explain.proofs.laws.design_is_comments.Goals as goal

pub returns : goal.returns
returns c =
    design_are c.args.part.now c.requires (tree_in c.args.checked.now)
    (subst (λ (d : Design). is_whole (design_of d) ≡ true) c.design.ensures c.design_is_whole.ensures)
