use Rattle.std.proofs.Common.{sym, ap, subst}
use Rattle.sap_maps.specs.Scope.{find}
use Rattle.sap_fold.specs.Settled.{Orderly}
use Rattle.sap_trim.proofs.Loops.{starts_over}
use Rattle.sap_trim.proofs.walk.Walk.with_starts.Goals as goal

pub returns-clause-begins : goal.returns-clause-begins
returns-clause-begins c =
    let n = c.args.netlist.now in
    record {
      wires = c.new-wires.ensures.list;
      next = c.new-wires.ensures.next;
      stands = λ x. starts_over n.wires c.registers.result.now n.registers x _ _ _ c.registers.ensures
          (c.in_ok-bind_starts.ensures {u = tt} n.wires c.requires x) (ap (λ es. find es x) (c.in_ok-stands.ensures {u = tt}));
    }

pub returns-clause-orderly : goal.returns-clause-orderly
returns-clause-orderly c =
    let w = c.new-wires.result in
    subst (Orderly w.numbers) (sym c.new-wires.ensures.list) (record { names = c.new-wires.ensures.names; differ = tt; settled = tt; calculated = tt })
