use Rattle.std.proofs.Common.{◌≡◌, false, Some, ap, sym, ◌∙◌}
use Rattle.sap_net.specs.Prelude.{is_among, memory_names}
use Rattle.sap_net.specs.declared.parts.Memory.{Memory}
use Rattle.sap_vtext.specs.Names.{memory}
use Rattle.sap_vprint.proofs.LookedUp.{if_none, not_listed_in, memory_at}
use Rattle.sap_vprint.proofs.lookup.memory.Goals as goal

pub returns-in_err-i-clause-absent : goal.returns-in_err-i-clause-absent
returns-in_err-i-clause-absent c =
    if_none c.from_residual.result (is_among c.args.name.now (memory_names c.args.netlist.now) ≡ false)
    (not_listed_in (λ (x : Memory). x.name) c.memories-memories.result.now c.args.netlist.now.memories c.args.name.now c.memories-memories.ensures c.in_err-i.ensures.absent)

pub returns-clause-found : goal.returns-clause-found
returns-clause-found c =
    memory_at c.args.netlist.now c.rules.ensures c.memories-memories.result.now c.in_ok-i.i c.index-memories-i.result c.args.name.now
    c.memories-memories.ensures c.in_ok-i.ensures.found.0
    (c.in_ok-i.ensures.found.1 c.index-memories-i.result)
    ∙ ap (λ (m : Memory). Some (memory m.width m.depth)) (sym c.index-memories-i.is)
