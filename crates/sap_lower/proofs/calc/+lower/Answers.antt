use Rattle.std.proofs.Common.{◌≡◌, ◌∙◌, List, map, take, sym, ap, ap₂, subst, OnOk, IfOk}
use Rattle.sap_maps.specs.Prelude.{Name, Term, two}
use Rattle.sap_net.specs.declared.parts.Wire.{Wire}
use Rattle.sap_ir.specs.Calcs.{term_of, joined_terms}
use Rattle.sap_ir.specs.declared.guarded.Calc.{Calc}
use Rattle.sap_ir.proofs.Views.{concat_term}
use Rattle.sap_lower.specs.declared.parts.Part.{Part}
use Rattle.sap_lower.specs.Lowering.{Low, low}
use Rattle.sap_lower.specs.Parts.{glued, low_all}
use Rattle.sap_lower.specs.Reads.{entries_seen}
use Rattle.sap_lower.proofs.Front.{calculated_front_ok, calculated_longer_ok, front_ok, longer_ok, two_lowered}
use Rattle.sap_lower.proofs.Glue.{low_joined}
use Rattle.sap_lower.proofs.calc.+lower.Goals as goal

pub lower_calc-returns-in_ok-parts-in-Concat-clause-wires :
    goal.lower_calc-returns-in_ok-parts-in-Concat-clause-wires
lower_calc-returns-in_ok-parts-in-Concat-clause-wires t c =
    let cs : List Calc = c.deref-in-Concat.result.now in
    let ms = c.args.memories.now in
    let es = entries_seen (take c.args.before c.args.wires.now) c.args.facts.now c.args.entries.now in
    let ws = c.args.wires.now in
    let ew : c.lower_all.new.wires ≡ (low_all ms es (map term_of cs) ws).wires = c.in_ok-parts-in-Concat.ensures.wires in
    let ep : c.in_ok-parts-in-Concat.parts.items ≡ (low_all ms es (map term_of cs) ws).parts = c.in_ok-parts-in-Concat.ensures.parts in
    let k : joined_terms (map term_of cs) ≡ term_of c.args.calc.now =
    ap (λ (xs : List Calc). joined_terms (map term_of xs)) c.deref-in-Concat.ensures.value ∙ sym (concat_term c.in-Concat.parts) ∙ sym (ap term_of c.in-Concat.is) in
    let e : glued c.lower_all.new.wires c.in_ok-parts-in-Concat.parts.items ≡ low ms es (term_of c.args.calc.now) ws =
    ap₂ (λ (w : List Wire) (p : List Part). glued w p) ew ep ∙ sym (low_joined ms es (map term_of cs) ws) ∙ ap (λ (u : Term Name). low ms es u ws) k in
    subst (λ (l : Low). OnOk c.glue.result (c.glue.new.wires ≡ l.wires)) e c.glue.ensures.wires

pub lower_calc-returns-in_ok-parts-in-Concat-clause-part :
    goal.lower_calc-returns-in_ok-parts-in-Concat-clause-part
lower_calc-returns-in_ok-parts-in-Concat-clause-part t c =
    let cs : List Calc = c.deref-in-Concat.result.now in
    let ms = c.args.memories.now in
    let es = entries_seen (take c.args.before c.args.wires.now) c.args.facts.now c.args.entries.now in
    let ws = c.args.wires.now in
    let ew : c.lower_all.new.wires ≡ (low_all ms es (map term_of cs) ws).wires = c.in_ok-parts-in-Concat.ensures.wires in
    let ep : c.in_ok-parts-in-Concat.parts.items ≡ (low_all ms es (map term_of cs) ws).parts = c.in_ok-parts-in-Concat.ensures.parts in
    let k : joined_terms (map term_of cs) ≡ term_of c.args.calc.now =
    ap (λ (xs : List Calc). joined_terms (map term_of xs)) c.deref-in-Concat.ensures.value ∙ sym (concat_term c.in-Concat.parts) ∙ sym (ap term_of c.in-Concat.is) in
    let e : glued c.lower_all.new.wires c.in_ok-parts-in-Concat.parts.items ≡ low ms es (term_of c.args.calc.now) ws =
    ap₂ (λ (w : List Wire) (p : List Part). glued w p) ew ep ∙ sym (low_joined ms es (map term_of cs) ws) ∙ ap (λ (u : Term Name). low ms es u ws) k in
    subst (λ (l : Low). IfOk c.glue.result (λ p. p ≡ l.part)) e c.glue.ensures.part

pub lower_calc-returns-in_ok-b-in-Two-clause-wires :
    goal.lower_calc-returns-in_ok-b-in-Two-clause-wires
lower_calc-returns-in_ok-b-in-Two-clause-wires q c =
    let ms = c.args.memories.now in
    let es = entries_seen (take c.args.before c.args.wires.now) c.args.facts.now c.args.entries.now in
    let s = term_of c.deref-in-Two.result.now in
    let t = term_of c.deref-in-Two-2.result.now in
    let op = c.in-Two.op in
    let k : two op s t ≡ term_of c.args.calc.now =
    ap₂ (λ (x y : Calc). two op (term_of x) (term_of y)) c.deref-in-Two.ensures c.deref-in-Two-2.ensures ∙ sym (ap term_of c.in-Two.is) in
    let a = c.in_ok-a-in-Two.ensures in
    let b = c.in_ok-b-in-Two.ensures in
    let e =
    two_lowered ms c.args.entries.now c.args.facts.now c.args.before c.args.wires.now c.lower_calc-in-Two.new.wires c.lower_calc-in-Two-2.new.wires op s t
    c.in_ok-a-in-Two.a c.in_ok-b-in-Two.b a.wires a.part a.front b.wires b.part ∙ ap (λ (u : Term Name). low ms es u c.args.wires.now) k in
    subst (λ (l : Low). OnOk c.lower_two.result (c.lower_two.new.wires ≡ l.wires)) e c.lower_two.ensures.wires

pub lower_calc-returns-in_ok-b-in-Two-clause-part :
    goal.lower_calc-returns-in_ok-b-in-Two-clause-part
lower_calc-returns-in_ok-b-in-Two-clause-part q c =
    let ms = c.args.memories.now in
    let es = entries_seen (take c.args.before c.args.wires.now) c.args.facts.now c.args.entries.now in
    let s = term_of c.deref-in-Two.result.now in
    let t = term_of c.deref-in-Two-2.result.now in
    let op = c.in-Two.op in
    let k : two op s t ≡ term_of c.args.calc.now =
    ap₂ (λ (x y : Calc). two op (term_of x) (term_of y)) c.deref-in-Two.ensures c.deref-in-Two-2.ensures ∙ sym (ap term_of c.in-Two.is) in
    let a = c.in_ok-a-in-Two.ensures in
    let b = c.in_ok-b-in-Two.ensures in
    let e =
    two_lowered ms c.args.entries.now c.args.facts.now c.args.before c.args.wires.now c.lower_calc-in-Two.new.wires c.lower_calc-in-Two-2.new.wires op s t
    c.in_ok-a-in-Two.a c.in_ok-b-in-Two.b a.wires a.part a.front b.wires b.part ∙ ap (λ (u : Term Name). low ms es u c.args.wires.now) k in
    subst (λ (l : Low). IfOk c.lower_two.result (λ p. p ≡ l.part)) e c.lower_two.ensures.part

pub lower_calc-returns-in_ok-b-in-Two-clause-front :
    goal.lower_calc-returns-in_ok-b-in-Two-clause-front
lower_calc-returns-in_ok-b-in-Two-clause-front q c =
    front_ok c.lower_two.result c.args.before c.args.memories.now (entries_seen (take c.args.before c.args.wires.now) c.args.facts.now c.args.entries.now)
    (term_of c.args.calc.now) c.args.wires.now c.lower_two.new.wires c.requires (lower_calc-returns-in_ok-b-in-Two-clause-wires q c)

pub lower_calc-returns-in_ok-b-in-Two-clause-longer :
    goal.lower_calc-returns-in_ok-b-in-Two-clause-longer
lower_calc-returns-in_ok-b-in-Two-clause-longer q c =
    longer_ok c.lower_two.result c.args.before c.args.memories.now (entries_seen (take c.args.before c.args.wires.now) c.args.facts.now c.args.entries.now)
    (term_of c.args.calc.now) c.args.wires.now c.lower_two.new.wires c.requires (lower_calc-returns-in_ok-b-in-Two-clause-wires q c)

pub lower_calc-returns-in_ok-parts-in-Concat-clause-front :
    goal.lower_calc-returns-in_ok-parts-in-Concat-clause-front
lower_calc-returns-in_ok-parts-in-Concat-clause-front t c =
    front_ok c.glue.result c.args.before c.args.memories.now (entries_seen (take c.args.before c.args.wires.now) c.args.facts.now c.args.entries.now)
    (term_of c.args.calc.now) c.args.wires.now c.glue.new.wires c.requires (lower_calc-returns-in_ok-parts-in-Concat-clause-wires t c)

pub lower_calc-returns-in_ok-parts-in-Concat-clause-longer :
    goal.lower_calc-returns-in_ok-parts-in-Concat-clause-longer
lower_calc-returns-in_ok-parts-in-Concat-clause-longer t c =
    longer_ok c.glue.result c.args.before c.args.memories.now (entries_seen (take c.args.before c.args.wires.now) c.args.facts.now c.args.entries.now)
    (term_of c.args.calc.now) c.args.wires.now c.glue.new.wires c.requires (lower_calc-returns-in_ok-parts-in-Concat-clause-wires t c)

pub lower_calc-returns-in_ok-a-in-One-clause-front :
    goal.lower_calc-returns-in_ok-a-in-One-clause-front
lower_calc-returns-in_ok-a-in-One-clause-front t c =
    let a = c.in_ok-a-in-One.ensures in
    calculated_front_ok c.calculate.result c.args.before c.args.wires.now c.lower_calc-in-One.new.wires c.calculate.new.wires _ _ a.longer a.front c.calculate.ensures.wires

pub lower_calc-returns-in_ok-a-in-One-clause-longer :
    goal.lower_calc-returns-in_ok-a-in-One-clause-longer
lower_calc-returns-in_ok-a-in-One-clause-longer t c =
    let a = c.in_ok-a-in-One.ensures in
    calculated_longer_ok c.calculate.result c.args.before c.lower_calc-in-One.new.wires c.calculate.new.wires _ _ a.longer c.calculate.ensures.wires

pub lower_calc-returns-in_ok-b-in-Choose-clause-front :
    goal.lower_calc-returns-in_ok-b-in-Choose-clause-front
lower_calc-returns-in_ok-b-in-Choose-clause-front t c =
    let z = c.in_ok-c-in-Choose.ensures in
    let a = c.in_ok-a-in-Choose.ensures in
    let b = c.in_ok-b-in-Choose.ensures in
    calculated_front_ok c.calculate-in-Choose.result c.args.before c.args.wires.now c.lower_calc-in-Choose-3.new.wires c.calculate-in-Choose.new.wires _ _ b.longer
    (b.front ∙ a.front ∙ z.front) c.calculate-in-Choose.ensures.wires

pub lower_calc-returns-in_ok-b-in-Choose-clause-longer :
    goal.lower_calc-returns-in_ok-b-in-Choose-clause-longer
lower_calc-returns-in_ok-b-in-Choose-clause-longer t c =
    let b = c.in_ok-b-in-Choose.ensures in
    calculated_longer_ok c.calculate-in-Choose.result c.args.before c.lower_calc-in-Choose-3.new.wires c.calculate-in-Choose.new.wires _ _ b.longer
    c.calculate-in-Choose.ensures.wires
