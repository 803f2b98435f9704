use Rattle.sap_names.specs.declared.kind.Declared.TheVariants.{Register}
use Rattle.sap_wiring.specs.Wiring.{seen}
use Rattle.sap_wiring.proofs.Naming.{none_is, same_none, other_kind}
use Rattle.sap_wiring.proofs.endpoints.source.Goals as goal

pub returns-in_err-endpoint : goal.returns-in_err-endpoint
returns-in_err-endpoint c = none_is _ _ _ c.from_residual.ensures (λ i e n.
    same_none (seen c.args.around.now) c.as_str.result.now c.args.text.now.from c.as_str.ensures c.in_err-endpoint.ensures i e (Register n))

pub returns-in_default : goal.returns-in_default
returns-in_default c = λ i e n.
    other_kind (seen c.args.around.now) c.requires c.as_str.result.now c.args.text.now.from c.as_str.ensures c.in_ok-endpoint.declared
    c.in_ok-endpoint.endpoint c.in_ok-endpoint.ensures i e (Register n)
    (c.in_default.not-Register n)
