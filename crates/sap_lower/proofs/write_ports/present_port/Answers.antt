use Rattle.sap_lemmas.proofs.Common.{◌≡◌, Option, Some, None, ap, subst, IfOk, unwrap_or}
use Rattle.sap_maps.specs.Scope.{find}
use Rattle.sap_lower.specs.declared.parts.WritePort.{WritePort}
use Rattle.sap_lower.specs.Commands.{no_port}
use Rattle.sap_lower.proofs.write_ports.present_port.Goals as goal

pub returns-in-Some : goal.returns-in-Some
returns-in-Some c =
    let f : Some c.in-Some.port.now ≡ find c.args.ports.now c.args.memory.now = rw c.in-Some.is at c.get.ensures in
    subst (λ (q : WritePort). IfOk c.copy.result (λ p. p ≡ q)) (ap (λ (o : Option WritePort). unwrap_or o no_port) f) c.copy.ensures

pub returns-in-None : goal.returns-in-None
returns-in-None c =
    let f : None ≡ find c.args.ports.now c.args.memory.now = rw c.in-None.is at c.get.ensures in
    ap (λ (o : Option WritePort). unwrap_or o no_port) f
