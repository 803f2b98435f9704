use Rattle.sap_lemmas.proofs.Common.{◌∙◌, ◌∷◌, [], List, refl, subst, arith, append-nil}
use Rattle.sap_vtext.specs.Grammar as g
use Rattle.sap_vtext.specs.Grammar.{ArePorts}
use Rattle.sap_vtext.specs.Items as item
use Rattle.sap_vparse.specs.Views.{port_of, ports_of}
use Rattle.sap_vparse.proofs.Laws.{ports_more}
use Rattle.sap_vparse.proofs.Lists.{pushed}
use Rattle.sap_walk.proofs.Walking.{bind_ok, bind_pure}
use Rattle.sap_vparse.proofs.port.ports.Goals as goal

pub ports-preserved : goal.ports-preserved
ports-preserved c = record {
  goes = c.ports.invariant.goes ∙ ports_more c.ports.tokens (c.ports-test.ensures.yes refl) ∙ bind_ok _ _ _ c.in_ok-sign.ensures.goes
      ∙ bind_ok _ _ _ c.in_ok-next.ensures.goes ∙ bind_pure _;
  tree = λ ps m rest.
      subst (λ (xs : List item.Port). ArePorts c.args.tokens.now xs m) (pushed port_of c.ports.list.items c.in_ok-next.next c.push.new.self.items ps c.in_ok-push.ensures.items)
      (c.ports.invariant.tree (port_of c.in_ok-next.next ∷ ps) m (g.next_port c.in_ok-sign.ensures.tree c.in_ok-next.ensures.tree rest));
  no_longer = omega (arith, c.ports.invariant.no_longer, c.in_ok-sign.ensures.shorter, c.in_ok-next.ensures.shorter);
}

pub returns-clause-tree : goal.returns-clause-tree
returns-clause-tree c = record {
  last = c.ports.tokens;
  ports = subst (λ (xs : List item.Port). ArePorts c.args.tokens.now xs c.ports.tokens) (append-nil (ports_of c.ports.list.items))
      (c.ports.invariant.tree [] c.ports.tokens g.no_port);
  close = c.in_ok-sign-2.ensures.tree;
}
