use Rattle.sap_lemmas.proofs.Common.{◌∙◌, ◌++◌, ℕ, List, length, take, take_all, ap, arith}
use Rattle.sap_net.specs.declared.parts.Wire.{Wire}
use Rattle.sap_lower.specs.declared.facts.Fact.{Fact}
use Rattle.sap_lower.specs.Facts.{gate_facts, gates}
use Rattle.sap_lower.proofs.facts.facts_of.Goals as goal

pub returns : goal.returns
returns c =
    let ws = c.args.wires.now in
    let gate = c.args.gate.now in
    c.in_ok-add_gate.ensures
    ∙ ap (λ (fs : List Fact). fs ++ gate_facts gates (take c.len.result ws) gate) c.in_ok-facts.ensures.items
    ∙ ap (λ (k : ℕ). gate_facts gates (take k ws) gate) c.len.ensures
    ∙ ap (λ (u : List Wire). gate_facts gates u gate) (take_all (length ws) ws (omega arith))
