use Rattle.std.proofs.Common.{◌∙◌}
use Rattle.sap_vparse.specs.Table as s
use Rattle.sap_vparse.specs.Views.{number_of}
use Rattle.sap_vparse.proofs.Faults.{ends_with_row, if_ok}
use Rattle.sap_vparse.proofs.Makes.{range_tree}
use Rattle.sap_vparse.proofs.Turns.{range_turns}
use Rattle.sap_walk.proofs.Walking.{bind_ok, bind_pure}
use Rattle.sap_vparse.proofs.port.range.Goals as goal

pub returns-clause-goes : goal.returns-clause-goes
returns-clause-goes c = ends_with_row s.range _ c.args.tokens.now c.sign.new.self c.number_then.new.tokens c.number_then.result
    (range_turns c.args.tokens.now ∙ bind_ok _ _ _ c.in_ok-sign.ensures.goes ∙ bind_pure _) c.number_then.ensures.goes

pub returns-clause-tree : goal.returns-clause-tree
returns-clause-tree c = if_ok c.number_then.result (λ n h. range_tree (number_of n) c.in_ok-sign.ensures.tree h) c.number_then.ensures.tree
