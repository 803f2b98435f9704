use Rattle.std.proofs.Common.{◌∙◌}
use Rattle.sap_vparse.specs.Table as s
use Rattle.sap_vparse.proofs.Faults.{ends_with, if_ok}
use Rattle.sap_vparse.proofs.ItemLaws.{item_initial}
use Rattle.sap_walk.proofs.Walking.{bind_ok, bind_pure}
use Rattle.sap_vparse.proofs.item.initial.Goals as goal

pub returns-clause-goes : goal.returns-clause-goes
returns-clause-goes c = ends_with s.item s.after_initial c.args.tokens.now c.word.new.self c.contents.new.tokens c.contents.result
    (item_initial c.args.tokens.now c.requires ∙ bind_ok _ _ _ c.in_ok-word.ensures.goes ∙ bind_pure _) c.contents.ensures.goes

pub returns-clause-tree : goal.returns-clause-tree
returns-clause-tree c = if_ok c.contents.result (λ x h. h c.args.tokens.now c.in_ok-word.ensures.tree) c.contents.ensures.tree
