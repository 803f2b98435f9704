use Rattle.std.proofs.Common.{ℕ, List, arith}
use Rattle.sap_vtext.specs.Modules.{when}
use Rattle.sap_vparse.specs.declared.items.Port.{Port}
use Rattle.sap_vparse.specs.Views.{port_of, ports_of}
use Rattle.sap_vread.specs.Build.Noted.{ports_noted}
use Rattle.sap_vread.proofs.build.NotedLists.{ports_noted-none, ports_noted-cons}
use Rattle.sap_vread.proofs.build.Tabled.{noted_step, noted_end}
use Rattle.sap_vread.proofs.build.noting.note_ports.Goals as goal

pub loop-port-preserved : goal.loop-port-preserved
loop-port-preserved c = λ n.
    noted_step (λ (k : ℕ) (ps : List Port). ports_noted n (ports_of ps)) (λ k p. when p.name.name n p.range.value) (λ k p ps. ports_noted-cons n (port_of p) (ports_of ps))
    c.args.ports.now c.loop-port.port-index 0 _ _ _ _ (omega arith) c.port-item.is (c.in_ok-note.ensures n) (c.loop-port.invariant n)

pub returns : goal.returns
returns c = λ n.
    noted_end (λ (ps : List Port). ports_noted n (ports_of ps)) (ports_noted-none n) c.args.ports.now c.loop-port.port-index _ _ (omega arith) (c.loop-port.invariant n)
