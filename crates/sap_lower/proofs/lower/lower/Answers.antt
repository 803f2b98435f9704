use Rattle.std.proofs.Common.{◌∙◌, ◌^◌, ◌<◌, ◌≤◌, List, length, sym, ap, subst, arith}
use Rattle.sap_net.specs.Prelude.{Net, IsNetlist}
use Rattle.sap_net.specs.declared.parts.Wire.{Wire}
use Rattle.sap_ir.specs.Program.{source_of}
use Rattle.sap_size.specs.Flat.{source_weight}
use Rattle.sap_size.specs.Items.{items}
use Rattle.sap_lower.specs.Lowered.{all_wires}
use Rattle.sap_share.specs.Copying.{CopiesPorts}
use Rattle.sap_lower.specs.Same.{Declares, RunsAlike, SharesWires}
use Rattle.sap_lower.proofs.Copied.{copies_ports}
use Rattle.sap_lower.proofs.Cycle.{runs_alike}
use Rattle.sap_lower.proofs.Final.{lowered_rules}
use Rattle.sap_lower.proofs.Made.{known_of, declares_all}
use Rattle.sap_lower.proofs.Sharing.{shares_wires}
use Rattle.sap_lower.proofs.Small.{lowered_small}
use Rattle.sap_lower.proofs.lower.lower.Goals as goal
use Rattle.sap_lower.proofs.lower.lower.Goals.{In_ok-parts}

few_wires : (c : In_ok-parts) → length (all_wires (source_of c.args.source.now)) < 2 ^ 64
few_wires c =
    let fits = c.in_ok-parts.parts.wires.ok in
    let small = c.in_ok-parts.parts.wires.small in
    let few : length c.in_ok-parts.parts.wires.items < 2 ^ 64 = omega (arith, fits, small) in
    subst (λ (ws : List Wire). length ws < 2 ^ 64) (ap (λ (n : Net). n.wires) (c.in_ok-parts.ensures {u = tt})) few

pub new-requires : goal.new-requires
new-requires c =
    let d = (goal.at.new-requires c).In_ok-parts in
    subst IsNetlist (sym (c.in_ok-parts.ensures {u = tt})) (lowered_rules (source_of c.args.source.now) c.rules.ensures (few_wires d))

pub returns-clause-declares : goal.returns-clause-declares
returns-clause-declares c =
    let s = source_of c.args.source.now in
    let d = (goal.at.returns-clause-declares c).In_ok-parts in
    subst (λ (n : Net). Declares s n) (sym (c.new.ensures ∙ c.in_ok-parts.ensures {u = tt})) (declares_all s c.rules.ensures (few_wires d))

pub returns-clause-same : goal.returns-clause-same
returns-clause-same c =
    let s = source_of c.args.source.now in
    let d = (goal.at.returns-clause-same c).In_ok-parts in
    subst (λ (n : Net). RunsAlike s n) (sym (c.new.ensures ∙ c.in_ok-parts.ensures {u = tt})) (runs_alike s (known_of s c.rules.ensures (few_wires d)) c.requires)

pub returns-clause-shared : goal.returns-clause-shared
returns-clause-shared c =
    let s = source_of c.args.source.now in
    let d = (goal.at.returns-clause-shared c).In_ok-parts in
    subst (λ (n : Net). SharesWires s n) (sym (c.new.ensures ∙ c.in_ok-parts.ensures {u = tt})) (shares_wires s c.rules.ensures (few_wires d))

pub returns-clause-copies : goal.returns-clause-copies
returns-clause-copies c =
    let s = source_of c.args.source.now in
    let d = (goal.at.returns-clause-copies c).In_ok-parts in
    subst (λ (n : Net). CopiesPorts n) (sym (c.new.ensures ∙ c.in_ok-parts.ensures {u = tt})) (copies_ports s c.rules.ensures (few_wires d))

pub returns-clause-small : goal.returns-clause-small
returns-clause-small c =
    let s = source_of c.args.source.now in
    subst (λ (n : Net). items n ≤ source_weight s) (sym (c.new.ensures ∙ c.in_ok-parts.ensures {u = tt})) (lowered_small s c.rules.ensures)
