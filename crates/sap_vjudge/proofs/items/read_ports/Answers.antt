use Rattle.std.proofs.Common.{◌∙◌, List, arith}
use Rattle.sap_vtext.specs.Names.{Known}
use Rattle.sap_vparse.specs.declared.items.Port.{Port}
use Rattle.sap_vparse.specs.Views.{port_of, ports_of}
use Rattle.sap_vjudge.specs.Known.{after_port, after_ports}
use Rattle.sap_vjudge.specs.Listed.{port_faults, ports_faults}
use Rattle.sap_vjudge.proofs.Lists.{ports_faults-none, ports_faults-cons, after_ports-none, after_ports-cons}
use Rattle.sap_vjudge.proofs.Loops.{loop_step, loop_end, after_step, after_end}
use Rattle.sap_vjudge.proofs.items.read_ports.Goals as goal

pub loop-port-preserved : goal.loop-port-preserved
loop-port-preserved c = (
  loop_step (λ (k : Known) (xs : List Port). ports_faults k (ports_of xs)) (λ k x. port_faults k (port_of x)) (λ k x. after_port k (port_of x)) (λ k. ports_faults-none k)
      (λ k x xs. ports_faults-cons k (port_of x) (ports_of xs)) c.args.ports.now c.loop-port.port-index _ _ _ _ _ (omega arith)
      c.port-item.is c.note_port.ensures c.in_ok-add_port.ensures
      ∙ c.loop-port.invariant.0,
  after_step (λ (k : Known) (xs : List Port). after_ports k (ports_of xs)) (λ k x. after_port k (port_of x)) (λ k. after_ports-none k)
      (λ k x xs. after_ports-cons k (port_of x) (ports_of xs)) c.args.ports.now c.loop-port.port-index _ _ _ (omega arith) c.port-item.is c.in_ok-add_port.ensures
      ∙ c.loop-port.invariant.1,
)

pub returns-clause-best : goal.returns-clause-best
returns-clause-best c =
    loop_end (λ (k : Known) (xs : List Port). ports_faults k (ports_of xs)) (λ k x. port_faults k (port_of x)) (λ k x. after_port k (port_of x)) (λ k. ports_faults-none k)
    (λ k x xs. ports_faults-cons k (port_of x) (ports_of xs)) c.args.ports.now c.loop-port.port-index _ _ _ (omega arith) c.loop-port.invariant.0

pub returns-clause-known : goal.returns-clause-known
returns-clause-known c =
    after_end (λ (k : Known) (xs : List Port). after_ports k (ports_of xs)) (λ k x. after_port k (port_of x)) (λ k. after_ports-none k)
    (λ k x xs. after_ports-cons k (port_of x) (ports_of xs)) c.args.ports.now c.loop-port.port-index _ _ (omega arith) c.loop-port.invariant.1
