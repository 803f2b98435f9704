use Rattle.std.proofs.Common.{sym, ap, subst, inl}
use Rattle.sap_maps.specs.Scope.{find}
use Rattle.sap_fold.specs.Settled.{Orderly}
use Rattle.sap_trim.proofs.walk.Walk.new.Goals as goal

pub returns-clause-begins : goal.returns-clause-begins
returns-clause-begins c =
    record {
      wires = c.new-wires.ensures.list;
      next = c.new-wires.ensures.next;
      stands = λ x. inl (ap (λ es. find es x) (c.in_ok-stands.ensures {u = tt}));
    }

pub returns-clause-themselves : goal.returns-clause-themselves
returns-clause-themselves c = λ x. ap (λ es. find es x) (c.in_ok-stands.ensures {u = tt})

pub returns-clause-orderly : goal.returns-clause-orderly
returns-clause-orderly c =
    let w = c.new-wires.result in
    subst (Orderly w.numbers) (sym c.new-wires.ensures.list) (record { names = c.new-wires.ensures.names; differ = tt; settled = tt; calculated = tt })
