use Rattle.std.proofs.Common.{◌∙◌, List, refl, arith}
use Rattle.sap_vtext.specs.Names.{port_declaration, Known}
use Rattle.sap_vparse.specs.declared.items.Port.{Port}
use Rattle.sap_vparse.specs.Views.{port_of, ports_of}
use Rattle.sap_vjudge.specs.Listed.{unset_faults, ports_unset}
use Rattle.sap_vjudge.specs.Tables.{known_of}
use Rattle.sap_vjudge.proofs.Lists.{ports_unset-none, ports_unset-cons}
use Rattle.sap_vjudge.proofs.Loops.{loop_step, loop_end}
use Rattle.sap_vjudge.proofs.unset.note_unset_ports.Goals as goal

pub loop-port-preserved : goal.loop-port-preserved
loop-port-preserved c =
    loop_step (λ (k : Known) (xs : List Port). ports_unset k (ports_of xs)) (λ k x. unset_faults k (port_declaration (port_of x))) (λ k x. k) (λ k. ports_unset-none k)
    (λ k x xs. ports_unset-cons k (port_of x) (ports_of xs)) c.args.ports.now c.loop-port.port-index _ (known_of c.args.table.now)
    (known_of c.args.table.now) _ _ (omega arith) c.port-item.is c.note_unset_port.ensures refl
    ∙ c.loop-port.invariant

pub returns : goal.returns
returns c =
    loop_end (λ (k : Known) (xs : List Port). ports_unset k (ports_of xs)) (λ k x. unset_faults k (port_declaration (port_of x))) (λ k x. k) (λ k. ports_unset-none k)
    (λ k x xs. ports_unset-cons k (port_of x) (ports_of xs)) c.args.ports.now c.loop-port.port-index (known_of c.args.table.now) _ _ (omega arith) c.loop-port.invariant
