-- What is found of the names of a part.
use Rattle.sap_lemmas.proofs.Common.{◌≡◌, ℕ, List, [], ◌∷◌, map, Some, sym, ap, ◌∙◌, subst, inl, inr, unwrap_or, bytes_eq, AllByRecursion, cases_Bool, all_append, all_follow, all_of_map, all_second, map_of_all, equal_of_bytes_eq}
use Rattle.sap_maps.specs.Prelude.{Name, Scope, find}
use Rattle.sap_maps.proofs.Scopes.{found_here}
use Rattle.sap_net.specs.Prelude.{Net, Shapes, AreWires, readable_after, IsNetlist, first_readable, readable, shapes, width_of}
use Rattle.sap_net.specs.declared.parts.Input.{Input}
use Rattle.sap_net.specs.declared.parts.Wire.{Wire}
use Rattle.sap_net.specs.declared.parts.Register.{Register}
use Rattle.sap_net.specs.declared.parts.Memory.{Memory}
use Rattle.sap_net.proofs.RulesLemmas.{readable_kept, values_found}
use Rattle.sap_net.proofs.Same.{all_found}
use Rattle.sap_build.specs.Copies.{copy_wire, copy_register, copy_memory}
use Rattle.sap_build.specs.Parts.{IsPart, Feeds}
use Rattle.sap_build.proofs.Through.{WidthsFollow}

-- what holds of each thing of a list holds of the one that a name finds
at_found : {Y : Type 0} (name : Y → Name) (P : Y → Type 0) (ys : List Y) (x : Name) (y : Y) → AllByRecursion P ys → find (map (λ y. (name y, y)) ys) x ≡ Some y → P y
at_found name P [] x y a h = absurd (cc)
at_found {Y} name P (z ∷ ys) x y a h =
    elim (cases_Bool (bytes_eq (name z) x)) [
      | inl t ↦ let g : Some z ≡ Some y = rw t at h in subst P (cc) a.0
      | inr q ↦ at_found name P ys x y a.1 (rw q at h)
    ]

pub each_found : {Y Z : Type 0} (name : Y → Name) (at : Z → Name) (copy : Z → Y) (P : Y → Type 0) (ys : List Y) (zs : List Z) → AllByRecursion P ys
    → AllByRecursion (λ z. find (map (λ y. (name y, y)) ys) (at z) ≡ Some (copy z)) zs → AllByRecursion (λ z. P (copy z)) zs
each_found {Y} {Z} name at copy P ys zs a h =
    all_follow (λ (z : Z). find (map (λ y. (name y, y)) ys) (at z) ≡ Some (copy z)) (λ z. P (copy z)) zs (λ z g. at_found name P ys (at z) (copy z) a g) h

-- what holds of each entry holds of each that is found
pub of_entries : {X : Type 0} (P : Name → X → Type 0) (es : List (Name × X)) → AllByRecursion (λ e. P e.0 e.1) es → (x : Name) (u : X) → find es x ≡ Some u → P x u
of_entries P [] a x u h = absurd (cc)
of_entries {X} P (e ∷ es) a x u h =
    elim (cases_Bool (bytes_eq e.0 x)) [
      | inl t ↦ let g : Some e.1 ≡ Some u = rw t at h in subst (λ (y : X). P x y) (cc) (subst (λ (y : Name). P y e.1) (equal_of_bytes_eq e.0 x t) a.0)
      | inr q ↦ of_entries P es a.1 x u (rw q at h)
    ]

pub after_each : (P : Name → ℕ → Type 0) (ws : List Wire) (sc : Scope) → AllByRecursion (λ e. P e.0 e.1) sc
    → AllByRecursion (λ w. P w.name w.width) ws → AllByRecursion (λ e. P e.0 e.1) (readable_after sc ws)
after_each P [] sc a b = a
after_each P (w ∷ ws) sc a b = after_each P ws ((w.name, w.width) ∷ sc) (b.0, a) b.1

-- what holds of inputs, registers and wires holds of all that can be read
pub of_readable : (P : Name → ℕ → Type 0) (n : Net) → AllByRecursion (λ i. P i.name i.width) n.inputs → AllByRecursion (λ r. P r.name r.width) n.registers
    → AllByRecursion (λ w. P w.name w.width) n.wires → (x : Name) (u : ℕ) → find (readable n) x ≡ Some u → P x u
of_readable P n is rs ws =
    of_entries P (readable n) (after_each P n.wires (first_readable n)
    (all_append {A = Name × ℕ} (λ e. P e.0 e.1) (map (λ (i : Input). (i.name, i.width)) n.inputs) (map (λ (r : Register). (r.name, r.width)) n.registers)
    (map_of_all (λ (e : Name × ℕ). P e.0 e.1) (λ (i : Input). (i.name, i.width)) n.inputs is)
    (map_of_all (λ (e : Name × ℕ). P e.0 e.1) (λ (r : Register). (r.name, r.width)) n.registers rs)) ws)

pub of_shapes : (P : Name → ℕ × ℕ → Type 0) (n : Net) → AllByRecursion (λ m. P m.name (m.width, m.depth)) n.memories → (x : Name) (s : ℕ × ℕ) → find (shapes n) x ≡ Some s → P x s
of_shapes P n ms = of_entries P (shapes n) (map_of_all (λ (e : Name × (ℕ × ℕ)). P e.0 e.1) (λ (m : Memory). (m.name, (m.width, m.depth))) n.memories ms)

-- each wire of a netlist can be read behind all, each register and memory is there

wires_read : (ms : Shapes) (ws : List Wire) (sc : Scope) → AreWires ms sc ws → AllByRecursion (λ w. find (readable_after sc ws) w.name ≡ Some w.width) ws
wires_read ms [] sc a = tt
wires_read ms (w ∷ ws) sc a = (
  readable_kept ms ws ((w.name, w.width) ∷ sc) a.4 w.name w.width (found_here w.name w.width sc),
  wires_read ms ws ((w.name, w.width) ∷ sc) a.4,
)

registers_read : (n : Net) → IsNetlist n → AllByRecursion (λ r. find (readable n) r.name ≡ Some r.width) n.registers
registers_read n rules =
    all_follow (λ (r : Register). find (first_readable n) r.name ≡ Some r.width) (λ r. find (readable n) r.name ≡ Some r.width) n.registers
    (λ r h. readable_kept (shapes n) n.wires (first_readable n) rules.assigns r.name r.width h)
    (all_of_map (λ (e : Name × ℕ). find (first_readable n) e.0 ≡ Some e.1) (λ (r : Register). (r.name, r.width)) n.registers
    (all_second {X = Name × ℕ} (λ (e : Name × ℕ). find (first_readable n) e.0 ≡ Some e.1)
    (map {B = Name × ℕ} (λ i. (i.name, i.width)) n.inputs) (map {B = Name × ℕ} (λ r. (r.name, r.width)) n.registers) (values_found (shapes n) (first_readable n) rules.values)))

-- what is read in a part is read in the whole, under its name there

pub part_reads : (f : Name → Name) (p n : Net) → IsNetlist n → IsPart f p n → (x : Name) (u : ℕ) → find (readable p) x ≡ Some u → find (readable n) (f x) ≡ Some u
part_reads f p n rules s =
    of_readable (λ x u. find (readable n) (f x) ≡ Some u) p
    (all_follow (λ (i : Input). Feeds n (f i.name) i.width) (λ i. find (readable n) (f i.name) ≡ Some i.width) p.inputs (λ i h. h.width) s.fed)
    (each_found (λ (r : Register). r.name) (λ (r : Register). f r.name) (copy_register f) (λ r. find (readable n) r.name ≡ Some r.width)
    n.registers p.registers (registers_read n rules) s.registers)
    (each_found (λ (w : Wire). w.name) (λ (w : Wire). f w.name) (copy_wire f) (λ w. find (readable n) w.name ≡ Some w.width) n.wires p.wires
    (wires_read (shapes n) n.wires (first_readable n) rules.assigns) s.wires)

pub part_shapes : (f : Name → Name) (p n : Net) → IsNetlist n → IsPart f p n → (m : Name) (t : ℕ × ℕ) → find (shapes p) m ≡ Some t → find (shapes n) (f m) ≡ Some t
part_shapes f p n rules s =
    of_shapes (λ m t. find (shapes n) (f m) ≡ Some t) p
    (each_found (λ (m : Memory). m.name) (λ (m : Memory). f m.name) (copy_memory f) (λ m. find (shapes n) m.name ≡ Some (m.width, m.depth))
    n.memories p.memories (all_found n.memories rules.memory_shapes) s.memories)

pub part_widths : (f : Name → Name) (p n : Net) → IsNetlist n → IsPart f p n → WidthsFollow f (readable p) (width_of n) (width_of p)
part_widths f p n rules s x u h = ap (λ o. unwrap_or o 0) (part_reads f p n rules s x u h ∙ sym h)
