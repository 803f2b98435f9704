use Rattle.std.proofs.Common.{◌≡◌, false}
use Rattle.sap_net.specs.Prelude.{is_among, input_names}
use Rattle.sap_net.specs.declared.parts.Input.{Input}
use Rattle.sap_vprint.proofs.LookedUp.{if_none, not_listed_in, input_at}
use Rattle.sap_vprint.proofs.lookup.input.Goals as goal

pub returns-in_err-i-clause-absent : goal.returns-in_err-i-clause-absent
returns-in_err-i-clause-absent c =
    if_none c.from_residual.result (is_among c.args.name.now (input_names c.args.netlist.now) ≡ false)
    (not_listed_in (λ (x : Input). x.name) c.inputs-inputs.result.now c.args.netlist.now.inputs c.args.name.now c.inputs-inputs.ensures c.in_err-i.ensures.absent)

pub returns-clause-found : goal.returns-clause-found
returns-clause-found c =
    input_at c.args.netlist.now c.rules.ensures c.inputs-inputs.result.now c.in_ok-i.i c.index-inputs-i.result c.args.name.now c.inputs-inputs.ensures c.in_ok-i.ensures.found.0
    (c.in_ok-i.ensures.found.1 c.index-inputs-i.result)
