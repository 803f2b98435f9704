use Rattle.std.proofs.Common.{ℕ, List, [], ◌∷◌, ◌++◌, subst, ap, ◌∙◌}
use Rattle.sap_net.specs.declared.parts.Register.{Register}
use Rattle.sap_wave.specs.declared.variable.Variable.{Variable}
use Rattle.sap_wave.specs.Shown.{StandsIn}
use Rattle.sap_wave.proofs.Shown.{variable_added, first_added}
use Rattle.sap_wave.proofs.registers.push_shown.Goals as goal

pub returns-in_ok-push-in-Register-2-clause-variables : goal.returns-in_ok-push-in-Register-2-clause-variables
returns-in_ok-push-in-Register-2-clause-variables c =
    let n = c.args.netlist.now in
    let r = c.named-register.result.now in
    let there : StandsIn n.registers r = subst (λ (rs : List Register). StandsIn rs r) c.registers.ensures c.named-register.ensures.there in
    let named = c.named-register.ensures.named ∙ c.as_bytes.ensures in
    variable_added n c.rules.ensures r there c.args.port.now c.in-Register.is named c.args.shown.now.variables.items c.push.new.self.items
    (c.in_ok-push-in-Register.ensures.items ∙ ap (λ (x : List ℕ). let v : Variable = record { name = x; width = r.width } in
    c.args.shown.now.variables.items ++ (v ∷ [])) c.in_ok-name-in-Register.ensures)

pub returns-in_ok-push-in-Register-2-clause-first : goal.returns-in_ok-push-in-Register-2-clause-first
returns-in_ok-push-in-Register-2-clause-first c =
    let n = c.args.netlist.now in
    let r = c.named-register.result.now in
    let there : StandsIn n.registers r = subst (λ (rs : List Register). StandsIn rs r) c.registers.ensures c.named-register.ensures.there in
    let named = c.named-register.ensures.named ∙ c.as_bytes.ensures in
    first_added n c.rules.ensures r there c.args.port.now c.in-Register.is named c.args.shown.now.first.items
    c.push-in-Register.new.self.items c.in_ok-push-in-Register-2.ensures.items
