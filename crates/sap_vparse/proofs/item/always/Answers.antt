use Rattle.std.proofs.Common.{◌∙◌}
use Rattle.sap_vparse.specs.Table as s
use Rattle.sap_vparse.proofs.Faults.{ends_with, if_ok}
use Rattle.sap_vparse.proofs.Makes.{clocked_tree}
use Rattle.sap_vparse.proofs.Turns.{always_turns}
use Rattle.sap_walk.proofs.Walking.{bind_ok, bind_pure}
use Rattle.sap_vparse.proofs.item.always.Goals as goal

pub returns-clause-goes : goal.returns-clause-goes
returns-clause-goes c = ends_with s.item s.after_clock c.args.tokens.now c.row.new.tokens c.next_contents.new.tokens c.next_contents.result
    (always_turns c.args.tokens.now c.requires ∙ bind_ok _ _ _ c.in_ok-row.ensures.goes ∙ bind_pure _) c.next_contents.ensures.goes

pub returns-clause-tree : goal.returns-clause-tree
returns-clause-tree c = if_ok c.next_contents.result (λ x h. h c.args.tokens.now (clocked_tree c.in_ok-row.ensures.tree)) c.next_contents.ensures.tree
