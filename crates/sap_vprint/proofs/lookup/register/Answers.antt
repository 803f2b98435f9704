use Rattle.std.proofs.Common.{◌≡◌, false}
use Rattle.sap_net.specs.Prelude.{is_among, register_names}
use Rattle.sap_net.specs.declared.parts.Register.{Register}
use Rattle.sap_vprint.proofs.LookedUp.{if_none, not_listed_in, register_at}
use Rattle.sap_vprint.proofs.lookup.register.Goals as goal

pub returns-in_err-i-clause-absent : goal.returns-in_err-i-clause-absent
returns-in_err-i-clause-absent c =
    if_none c.from_residual.result (is_among c.args.name.now (register_names c.args.netlist.now) ≡ false)
    (not_listed_in (λ (x : Register). x.name) c.registers-registers.result.now c.args.netlist.now.registers c.args.name.now c.registers-registers.ensures c.in_err-i.ensures.absent)

pub returns-clause-found : goal.returns-clause-found
returns-clause-found c =
    register_at c.args.netlist.now c.rules.ensures c.registers-registers.result.now c.in_ok-i.i c.index-registers-i.result c.args.name.now
    c.registers-registers.ensures c.in_ok-i.ensures.found.0
    (c.in_ok-i.ensures.found.1 c.index-registers-i.result)
