use Rattle.sap_lemmas.proofs.Common.{◌≡◌, ◌∙◌, Option, Some, None, take, sym, ap, unwrap_or}
use Rattle.sap_maps.specs.Scope.{find}
use Rattle.sap_net.specs.declared.parts.Operand.{Operand}
use Rattle.sap_lower.specs.declared.parts.Part.{Part}
use Rattle.sap_lower.specs.Lowering.{nothing, present}
use Rattle.sap_lower.specs.Reads.{seen_part}
use Rattle.sap_lower.proofs.Entries.{present_seen}
use Rattle.sap_lower.proofs.calc.seen_part.Goals as goal

pub returns-in_ok-operand-in-Some : goal.returns-in_ok-operand-in-Some
returns-in_ok-operand-in-Some c =
    let ws = take c.args.before c.args.wires.now in
    let p = c.in-Some.part.now in
    let f : Some p ≡ find c.args.entries.now c.args.name.now = rw c.in-Some.is at c.get.ensures in
    let there : p ≡ present c.args.entries.now c.args.name.now = ap (λ (o : Option Part). unwrap_or o nothing) f in
    let operand = c.in_ok-operand-in-Some.ensures ∙ c.seen-operand.ensures in
    ap (λ (o : Operand). let q : Part = record { operand = o; width = p.width } in q) operand
    ∙ ap (λ (q : Part). seen_part ws c.args.facts.now q) there ∙ sym (present_seen ws c.args.facts.now c.args.entries.now c.args.name.now)

pub returns-in-None : goal.returns-in-None
returns-in-None c =
    let ws = take c.args.before c.args.wires.now in
    let f : None ≡ find c.args.entries.now c.args.name.now = rw c.in-None.is at c.get.ensures in
    let there : nothing ≡ present c.args.entries.now c.args.name.now = ap (λ (o : Option Part). unwrap_or o nothing) f in
    c.nothing_yet.ensures ∙ ap (λ (q : Part). seen_part ws c.args.facts.now q) there ∙ sym (present_seen ws c.args.facts.now c.args.entries.now c.args.name.now)
