use Rattle.std.proofs.Common.{◌≡◌, ◌<◌, ◌^◌, ◌∙◌, length, sym, ap, subst, refl, arith}
use Rattle.sap_lattice.specs.Prelude.{width_of, order_of}
use Rattle.sap_net.specs.Net.{Net, net_of}
use Rattle.sap_net.specs.IsNetlist.{IsNetlist}
use Rattle.sap_taint.specs.Carries.{CarriesTaint}
use Rattle.sap_taint_pass.specs.Helping.{tainted}
use Rattle.sap_taint_pass.specs.Small.{HasFewItems}
use Rattle.sap_taint_pass.proofs.Kept.{kept}
use Rattle.sap_taint_pass.proofs.Small.{is_small}
use Rattle.sap_taint_pass.proofs.taint.taint.Goals as goal
use Rattle.sap_taint_pass.proofs.taint.taint.Goals.{In_ok-parts}

same : (c : In_ok-parts) → net_of c.in_ok-parts.parts ≡ tainted (width_of (order_of c.args.lattice.now)) c.args.netlist.now
same c = c.in_ok-parts.ensures {u = tt} ∙ ap (λ w. tainted w c.args.netlist.now) c.width.ensures

made : (c : In_ok-parts) → IsNetlist (net_of c.in_ok-parts.parts) × CarriesTaint (width_of (order_of c.args.lattice.now)) c.args.netlist.now (net_of c.in_ok-parts.parts)
made c =
    let p = c.in_ok-parts.parts in
    let held = p.names.ok in
    let small = p.names.small in
    let few : length p.names.items < 2 ^ 63 = omega (arith, held, small) in
    kept c.args.lattice.now c.args.netlist.now (net_of p) p.names.items c.lawful.ensures.names c.lawful.ensures.narrow c.rules.ensures c.in_ok-index_tags.ensures.room
    few refl (same c)

pub new-made-requires : goal.new-made-requires
new-made-requires c = (made (goal.at.new-made-requires c).In_ok-parts).0

pub carried-requires : goal.carried-requires
carried-requires c =
    subst (CarriesTaint (width_of (order_of c.args.lattice.now)) c.args.netlist.now) (sym c.new-made.ensures) (made (goal.at.carried-requires c).In_ok-parts).1

pub returns-clause-form : goal.returns-clause-form
returns-clause-form c =
    (subst (CarriesTaint (width_of (order_of c.args.lattice.now)) c.args.netlist.now) (sym c.new-made.ensures) (made (goal.at.returns-clause-form c).In_ok-parts).1).form

pub returns-clause-carries : goal.returns-clause-carries
returns-clause-carries c =
    subst (CarriesTaint (width_of (order_of c.args.lattice.now)) c.args.netlist.now) (sym c.new-made.ensures) (made (goal.at.returns-clause-carries c).In_ok-parts).1

pub returns-clause-small : goal.returns-clause-small
returns-clause-small c =
    let n = c.args.netlist.now in
    subst (λ (m : Net). HasFewItems n m) (sym (c.new-made.ensures ∙ same (goal.at.returns-clause-small c).In_ok-parts))
    (is_small (width_of (order_of c.args.lattice.now)) n c.in_ok-index_tags.ensures.room)
