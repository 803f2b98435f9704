use Rattle.sap_lemmas.proofs.Common.{◌≡◌, ◌∙◌, List, None, false, sym, ap, ap₂, unwrap_or}
use Rattle.sap_maps.specs.Prelude.{Name, find}
use Rattle.sap_net.specs.declared.parts.Right.TheVariants.{Choose}
use Rattle.sap_net.specs.declared.parts.Wire.{Wire}
use Rattle.sap_share.proofs.Lookups.{entry_missing, missing_replaced}
use Rattle.sap_lower.specs.declared.lowering.Lowering.{Lowering}
use Rattle.sap_lower.specs.declared.parts.Part.{Part}
use Rattle.sap_lower.specs.Commands.{chosen_unless}
use Rattle.sap_lower.specs.Lowering.{nothing, plus, present}
use Rattle.sap_share.specs.Tables.{replaced}
use Rattle.sap_lower.proofs.lowering.Lowering.set_none.Goals as goal

pub returns : goal.returns
returns c n p =
    let l = c.args.self.now in
    let after = chosen_unless false l.entries n c.args.when c.args.value l.wires in
    let missing : find l.entries n ≡ None = entry_missing l.entries n p in
    let old : present l.entries n ≡ nothing = ap (λ o. unwrap_or o nothing) missing in
    let wires : c.add.new.self ≡ after.wires =
    c.in_ok-add.ensures.wires
    ∙ ap (λ (o : Part). (plus l.wires o.width (Choose c.args.when c.args.value o.operand)).wires) (c.nothing_yet-old.ensures ∙ sym old) in
    let entries : l.entries ≡ replaced l.entries n after.part = sym (missing_replaced l.entries n after.part p) in
    let made : List Wire → List (Name × Part) → Lowering = λ ws es. record { wires = ws; entries = es; ports = l.ports } in
    ap₂ made wires entries
