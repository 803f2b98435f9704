-- The small netlist has no more items than the given one.
use Rattle.sap_lemmas.proofs.Common.{◌≡◌, ◌+◌, ◌≤◌, List, [], ◌∷◌, filter, length, true, ap, inl, inr, arith, AllByRecursion, cases_Bool, length-map}
use Rattle.sap_maps.specs.Maps.{Name}
use Rattle.sap_net.specs.Prelude.{is_among, Net}
use Rattle.sap_net.specs.declared.parts.Operand.{Operand}
use Rattle.sap_net.specs.declared.parts.Right.TheVariants.{Copy}
use Rattle.sap_net.specs.declared.parts.Wire.{Wire}
use Rattle.sap_net.specs.declared.parts.Register.{Register}
use Rattle.sap_net.specs.declared.parts.Memory.{Memory}
use Rattle.sap_size.specs.Items.{items}
use Rattle.sap_share.specs.Copying.{CopiesPorts}
use Rattle.sap_trim.specs.Alike.{DeclaresAlike}
use Rattle.sap_trim.specs.Few.{is_copy, calculated, HasFewWires}
use Rattle.sap_trim.specs.Names.{port_names}
use Rattle.sap_compile.proofs.stages.Declared.{same_registers, same_memories}

-- Where ports are copies, no wire is both a port and no copy.
apart : (ps : List Name) (ws : List Wire) → AllByRecursion (λ w. is_among w.name ps ≡ true → (a : Operand) × (w.right ≡ Copy a)) ws
    → length (calculated ws) + length (filter (λ w. is_among w.name ps) ws) ≤ length ws
apart ps [] c = omega arith
apart ps (w ∷ ws) c =
    let r = apart ps ws c.1 in
    elim (cases_Bool (is_among w.name ps)) [
      | inl t ↦ let e = (c.0 t).1 in rw (t, e) (omega (arith, r))
      | inr f ↦ elim (cases_Bool (is_copy w.right)) [ inl t ↦ rw (f, t) (omega (arith, r)) | inr g ↦ rw (f, g) (omega (arith, r)) ]
    ]

pub stays_small : (given result : Net) → CopiesPorts given → DeclaresAlike given result → HasFewWires given result → items result ≤ items given
stays_small given result copies declares few =
    let wires = apart (port_names given) given.wires copies in
    let registers = ap length (same_registers given.registers result.registers declares.registers) in
    let memories = ap length (same_memories given.memories result.memories declares.memories) in
    let a = length-map result.registers (λ (r : Register). r.name) in
    let b = length-map given.registers (λ (r : Register). r.name) in
    let c = length-map result.memories (λ (m : Memory). m.name) in
    let d = length-map given.memories (λ (m : Memory). m.name) in
    omega (arith, few, wires, registers, memories, a, b, c, d)
