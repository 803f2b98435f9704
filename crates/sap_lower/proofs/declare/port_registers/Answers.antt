use Rattle.std.proofs.Common.{◌≡◌, ◌∙◌, ◌+◌, ◌<◌, ℕ, suc, List, [], ◌∷◌, ◌++◌, map, drop, length, sym, ap, arith, add-one, drop-cons}
use Rattle.sap_maps.specs.Maps.{Name}
use Rattle.sap_lower.specs.Lowered.{register_of, picked}
use Rattle.sap_lower.proofs.Order.{picked_step}
use Rattle.sap_lower.proofs.declare.port_registers.Goals as goal

pub loop-port-preserved : goal.loop-port-preserved
loop-port-preserved c =
    let rs = c.args.registers.now in
    let ports = c.args.ports.now in
    let i = c.loop-port.port-index in
    let made = c.loop-port.made.items in
    let f = register_of c.args.entries.now in
    let port = c.port-item.result in
    let l : i < length ports = omega arith in
    let d : drop i ports ≡ port ∷ drop (i + 1) ports =
    drop-cons ports i port l ∙ ap (λ (x : Name). x ∷ drop (suc i) ports) (sym c.port-item.is) ∙ ap (λ (j : ℕ). port ∷ drop j ports) (sym (add-one i)) in
    let m : c.port_register.new.made.items ≡ made ++ map f (picked rs (port ∷ [])) = c.in_ok-port_register.ensures in
    let g : c.port_register.new.made.items ++ map f (picked rs (drop (i + 1) ports)) ≡ c.args.made.now.items ++ map f (picked rs ports) =
    rw m (picked_step f rs port (drop (i + 1) ports) made ∙ sym (ap (λ (ps : List Name). made ++ map f (picked rs ps)) d) ∙ c.loop-port.invariant) in
    g
