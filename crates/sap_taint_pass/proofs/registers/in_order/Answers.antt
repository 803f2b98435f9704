use Rattle.std.proofs.Common.{◌≡◌, ◌∙◌, ◌++◌, [], List, subst, arith}
use Rattle.sap_maps.specs.Prelude.{Name, find}
use Rattle.sap_net.specs.declared.parts.Register.{Register}
use Rattle.sap_taint_pass.specs.Tainted.{found_first}
use Rattle.sap_taint_pass.proofs.Placed.{one_ordered}
use Rattle.sap_taint_pass.proofs.registers.in_order.Goals as goal

pub loop-name-preserved : goal.loop-name-preserved
loop-name-preserved c =
    let rs = c.args.registers.now in
    let old = c.loop-name.made.items in
    let new = c.add_found.new.made.items in
    let x = c.name-item.result in
    let found = subst (λ (t : List (Name × Register)). new ≡ old ++ found_first (find t x) []) (c.in_ok-table.ensures {u = tt}) (c.in_ok-add_found.ensures {u = tt}) in
    one_ordered c.args.names.now rs old new c.loop-name.name-index x (omega arith) c.name-item.is found ∙ c.loop-name.invariant
