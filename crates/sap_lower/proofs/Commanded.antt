-- One assignment or write, lowered step by step.
use Rattle.sap_lemmas.proofs.Common.{◌≡◌, ℕ, List, length, take, take_all, ap, ◌∙◌, arith}
use Rattle.sap_maps.specs.Prelude.{Name, Term}
use Rattle.sap_net.specs.Rules.{Shapes}
use Rattle.sap_net.specs.declared.parts.Wire.{Wire}
use Rattle.sap_ir.specs.Prelude.{set, put}
use Rattle.sap_lower.specs.declared.facts.Fact.{Fact}
use Rattle.sap_lower.specs.declared.lowering.Lowering.{Lowering}
use Rattle.sap_lower.specs.declared.parts.Part.{Part}
use Rattle.sap_lower.specs.Facts.{facts_of}
use Rattle.sap_lower.specs.declared.writes.Write.{Write}
use Rattle.sap_lower.specs.Writes.{LowWrite, low_write}
use Rattle.sap_lower.specs.Commands.{assigned, chosen, entries_plain, entries_under, low_action, merged_port, port_of, written}
use Rattle.sap_lower.specs.Lowering.{Low, low}
use Rattle.sap_lower.specs.Reads.{entries_seen}

module _ (ms : Shapes) (l : Lowering) (c : Term Name) (w1 : List Wire) (z : Part) (b : ℕ) (fs : List Fact)
    (gate_wires : w1 ≡ (low ms (entries_plain l.entries) c l.wires).wires) (gate_part : z ≡ (low ms (entries_plain l.entries) c l.wires).part)
    (count : b ≡ length w1) (facts : fs ≡ facts_of w1 z.operand) where
  abbrev gate : Low
  gate = low ms (entries_plain l.entries) c l.wires

  abbrev seen : List (Name × Part)
  seen = entries_under gate l.entries

  known : entries_seen (take b w1) fs l.entries ≡ seen
  known =
      ap (λ (k : ℕ). entries_seen (take k w1) fs l.entries) count
      ∙ ap (λ (u : List Wire). entries_seen u fs l.entries) (take_all (length w1) w1 (omega arith))
      ∙ ap (λ (f : List Fact). entries_seen w1 f l.entries) facts
      ∙ ap (λ (u : List Wire). entries_seen u (facts_of u z.operand) l.entries) gate_wires
      ∙ ap (λ (p : Part). entries_seen gate.wires (facts_of gate.wires p.operand) l.entries) gate_part

  pub set_lowered : (x : Name) (a : Term Name) (w2 : List Wire) (y : Part)
      → w2 ≡ (low ms (entries_seen (take b w1) fs l.entries) a w1).wires → y ≡ (low ms (entries_seen (take b w1) fs l.entries) a w1).part
      → take b w2 ≡ take b w1
      → assigned l x (chosen (entries_seen (take b w2) fs l.entries) l.entries x z.operand y.operand w2) ≡ low_action ms l c (set x a)
  set_lowered x a w2 y e f front =
      let value = low ms seen a gate.wires in
      let wires : w2 ≡ value.wires =
      e ∙ ap (λ (q : List (Name × Part)). (low ms q a w1).wires) known ∙ ap (λ (u : List Wire). (low ms seen a u).wires) gate_wires in
      let part : y ≡ value.part =
      f ∙ ap (λ (q : List (Name × Part)). (low ms q a w1).part) known ∙ ap (λ (u : List Wire). (low ms seen a u).part) gate_wires in
      let known2 : entries_seen (take b w2) fs l.entries ≡ seen = ap (λ (u : List Wire). entries_seen u fs l.entries) front ∙ known in
      ap (λ (q : List (Name × Part)). assigned l x (chosen q l.entries x z.operand y.operand w2)) known2
      ∙ ap (λ (p : Part). assigned l x (chosen seen l.entries x p.operand y.operand w2)) gate_part
      ∙ ap (λ (p : Part). assigned l x (chosen seen l.entries x gate.part.operand p.operand w2)) part
      ∙ ap (λ (u : List Wire). assigned l x (chosen seen l.entries x gate.part.operand value.part.operand u)) wires

  pub put_lowered : (m : Name) (i a : Term Name) (w2 w3 : List Wire) (j : Part) (y : Write)
      → w2 ≡ (low ms (entries_seen (take b w1) fs l.entries) i w1).wires → j ≡ (low ms (entries_seen (take b w1) fs l.entries) i w1).part
      → take b w2 ≡ take b w1
      → w3 ≡ (low_write ms (entries_seen (take b w2) fs l.entries) m z.operand j.operand a w2).wires
      → y ≡ (low_write ms (entries_seen (take b w2) fs l.entries) m z.operand j.operand a w2).write
      → written l m (merged_port (port_of l.ports m) y.when j.operand y.value w3) ≡ low_action ms l c (put m i a)
  put_lowered m i a w2 w3 j y e f front g h =
      let index = low ms seen i gate.wires in
      let write = low_write ms seen m gate.part.operand index.part.operand a index.wires in
      let port = port_of l.ports m in
      let behind : w2 ≡ index.wires =
      e ∙ ap (λ (q : List (Name × Part)). (low ms q i w1).wires) known ∙ ap (λ (u : List Wire). (low ms seen i u).wires) gate_wires in
      let at : j ≡ index.part =
      f ∙ ap (λ (q : List (Name × Part)). (low ms q i w1).part) known ∙ ap (λ (u : List Wire). (low ms seen i u).part) gate_wires in
      let known2 : entries_seen (take b w2) fs l.entries ≡ seen = ap (λ (u : List Wire). entries_seen u fs l.entries) front ∙ known in
      let made : low_write ms (entries_seen (take b w2) fs l.entries) m z.operand j.operand a w2 ≡ write =
      ap (λ (q : List (Name × Part)). low_write ms q m z.operand j.operand a w2) known2
      ∙ ap (λ (p : Part). low_write ms seen m p.operand j.operand a w2) gate_part
      ∙ ap (λ (p : Part). low_write ms seen m gate.part.operand p.operand a w2) at
      ∙ ap (λ (u : List Wire). low_write ms seen m gate.part.operand index.part.operand a u) behind in
      let wires : w3 ≡ write.wires = g ∙ ap (λ (q : LowWrite). q.wires) made in
      let same : y ≡ write.write = h ∙ ap (λ (q : LowWrite). q.write) made in
      ap (λ (q : Write). written l m (merged_port port q.when j.operand q.value w3)) same
      ∙ ap (λ (p : Part). written l m (merged_port port write.write.when p.operand write.write.value w3)) at
      ∙ ap (λ (u : List Wire). written l m (merged_port port write.write.when index.part.operand write.write.value u)) wires
