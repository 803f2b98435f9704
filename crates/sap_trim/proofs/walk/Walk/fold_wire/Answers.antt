use Rattle.sap_lemmas.proofs.Common.{subst, on_ok_weaker}
use Rattle.sap_net.specs.declared.parts.Right.{Right}
use Rattle.sap_fold.specs.Gives.{Gives}
use Rattle.sap_share.specs.Sets.{holds}
use Rattle.sap_trim.proofs.walk.Walk.fold_wire.Goals as goal

pub returns-clause-folds : goal.returns-clause-folds
returns-clause-folds c =
    let s = c.args.self.now.wires in
    let t = c.fold_into.new.wires in
    on_ok_weaker c.put.result (λ b. record {
      operand = c.in_ok-operand.operand;
      gives = subst (λ (r : Right). Gives (holds c.args.taken.now) s.list.items s.next c.args.wire.now.width r c.in_ok-operand.operand
          t.list.items t.next) (c.in_ok-replaced.ensures {u = tt}) c.in_ok-operand.ensures.gives;
      binds = b;
    }) c.put.ensures
