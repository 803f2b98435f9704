use Rattle.sap_lemmas.proofs.Common.{refl, inl, on_ok_weaker}
use Rattle.sap_maps.specs.Scope.{find}
use Rattle.sap_trim.proofs.Loops.{start_bound}
use Rattle.sap_trim.proofs.walk.bind_start.Goals as goal

pub returns-then-not-branch : goal.returns-then-not-branch
returns-then-not-branch c = λ ws h x. inl refl

pub returns : goal.returns
returns c =
    on_ok_weaker c.put.result
    (λ b ws h. start_bound ws (find c.args.stands.now) (find c.put.new.self) c.args.register.now (c.in_ok-keeps_start.ensures {u = tt} ws h c.if-not-branch.false) b)
    c.put.ensures
