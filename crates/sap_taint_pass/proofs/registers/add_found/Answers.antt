use Rattle.std.proofs.Common.{◌≡◌, ◌∙◌, ◌++◌, ◌∷◌, [], Some, None, ap, sym, rules, append-nil}
use Rattle.sap_maps.specs.Scope.{find}
use Rattle.sap_net.specs.declared.parts.Register.{Register}
use Rattle.sap_taint_pass.specs.Tainted.{found_first}
use Rattle.sap_taint_pass.proofs.registers.add_found.Goals as goal

pub returns-in_default : goal.returns-in_default
returns-in_default c =
    let made = c.args.made.now.items in
    let none : c.get.result ≡ None = search rules in
    let found : None ≡ find c.args.registers.now c.args.name.now = rw none at c.get.ensures in
    sym (ap (λ o. made ++ found_first o []) (sym found) ∙ append-nil made)

pub returns : goal.returns
returns c =
    let made = c.args.made.now.items in
    let r = c.in-Some.register.now in
    let some : c.get.result ≡ Some c.in-Some.register = search rules in
    let found : Some r ≡ find c.args.registers.now c.args.name.now = rw some at c.get.ensures in
    let copied : c.in_ok-copy_register.field-0 ≡ r = search rules in
    let items : c.push.new.self.items ≡ made ++ c.in_ok-copy_register.field-0 ∷ [] = search rules in
    items ∙ ap (λ (q : Register). made ++ q ∷ []) copied ∙ ap (λ o. made ++ found_first o []) found
