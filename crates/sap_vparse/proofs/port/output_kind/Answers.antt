use Rattle.sap_vparse.specs.Parts as p
use Rattle.sap_vparse.proofs.port.output_kind.Goals as goal

pub returns-then-at_word-clause-tree : goal.returns-then-at_word-clause-tree
returns-then-at_word-clause-tree c = p.register c.in_ok-word.ensures.tree

pub returns-clause-tree : goal.returns-clause-tree
returns-clause-tree c = p.wire c.in_ok-word-2.ensures.tree
