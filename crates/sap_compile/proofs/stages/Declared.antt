-- What is declared under a name in one of two netlists that declare alike.
use Rattle.sap_lemmas.proofs.Common.{◌≡◌, ℕ, List, [], ◌∷◌, map, true, Some, inl, inr, refl, sym, ap, ◌∙◌, subst, bytes_eq, AllByRecursion, cases_Bool, equal_of_bytes_eq}
use Rattle.sap_net.proofs.RulesLemmas.{readable_kept}
use Rattle.sap_maps.specs.Prelude.{Name, Scope, find}
use Rattle.sap_maps.proofs.Scopes.{found_here}
use Rattle.sap_net.specs.Prelude.{is_among, Shapes, AreWires, readable_after}
use Rattle.sap_net.specs.declared.parts.PortKind.{PortKind}
use Rattle.sap_net.specs.declared.parts.Port.{Port}
use Rattle.sap_net.specs.declared.parts.Wire.{Wire}
use Rattle.sap_net.specs.declared.parts.Register.{Register}
use Rattle.sap_net.specs.declared.parts.Memory.{Memory}
use Rattle.sap_interface.specs.Interface.{Shown}
use Rattle.sap_tagged.proofs.Members.{In}
use Rattle.sap_compile.proofs.stages.Found.{Shape, Stored, memory_stored, wire_widths}

-- the width and the start of a register, under its name
abbrev pub Kept : Type 0
Kept = Name × Shape

abbrev pub register_kept : Register → Kept
register_kept r = (r.name, (r.width, r.start))

-- what holds of all, of one under its name

pub of_port : (P : PortKind → Name → Type 0) (ps : List Port) (n : Name) (k : PortKind) → AllByRecursion (λ p. P p.kind p.name) ps
    → In (map {B = Shown} (λ p. (p.name, p.kind)) ps) (n, k) → P k n
of_port P [] n k a h = absurd h
of_port P (p ∷ ps) n k a (inl e) = subst (λ (q : Shown). P q.1 q.0) e a.0
of_port P (p ∷ ps) n k a (inr h) = of_port P ps n k a.1 h

pub of_port_name : (P : Name → Type 0) (ps : List Port) → AllByRecursion (λ p. P p.name) ps → (n : Name) → is_among n (map (λ p. p.name) ps) ≡ true → P n
of_port_name P [] a n h = absurd (cc)
of_port_name P (p ∷ ps) a n h =
    elim (cases_Bool (bytes_eq n p.name)) [ inl t ↦ subst P (sym (equal_of_bytes_eq n p.name t)) a.0 | inr f ↦ of_port_name P ps a.1 n (rw f at h) ]

pub of_wire_name : (P : Name → Type 0) (ws : List Wire) → AllByRecursion (λ w. P w.name) ws → (n : Name) → is_among n (map (λ w. w.name) ws) ≡ true → P n
of_wire_name P [] a n h = absurd (cc)
of_wire_name P (w ∷ ws) a n h =
    elim (cases_Bool (bytes_eq n w.name)) [ inl t ↦ subst P (sym (equal_of_bytes_eq n w.name t)) a.0 | inr f ↦ of_wire_name P ws a.1 n (rw f at h) ]

-- registers and memories

registers_named : (rs : List Register) → map (λ (q : Kept). q.0) (map register_kept rs) ≡ map (λ (r : Register). r.name) rs
registers_named [] = refl
registers_named (r ∷ rs) = ap (λ (ns : List Name). r.name ∷ ns) (registers_named rs)

pub same_registers : (rs qs : List Register) → map register_kept qs ≡ map register_kept rs → map (λ (r : Register). r.name) qs ≡ map (λ (r : Register). r.name) rs
same_registers rs qs e = sym (registers_named qs) ∙ ap (λ (ks : List Kept). map (λ (q : Kept). q.0) ks) e ∙ registers_named rs

pub memories_named : (ms : List Memory) → map (λ (q : Stored). q.0) (map memory_stored ms) ≡ map (λ (m : Memory). m.name) ms
memories_named [] = refl
memories_named (m ∷ ms) = ap (λ (ns : List Name). m.name ∷ ns) (memories_named ms)

pub same_memories : (ms ks : List Memory) → map memory_stored ks ≡ map memory_stored ms → map (λ (m : Memory). m.name) ks ≡ map (λ (m : Memory). m.name) ms
same_memories ms ks e = sym (memories_named ks) ∙ ap (λ (qs : List Stored). map (λ (q : Stored). q.0) qs) e ∙ memories_named ms

-- wires

pub wire_read : (shapes : Shapes) (ws : List Wire) (sc : Scope) → AreWires shapes sc ws → (n : Name) (u : ℕ)
    → find (wire_widths ws) n ≡ Some u → find (readable_after sc ws) n ≡ Some u
wire_read shapes [] sc a n u h = absurd (cc)
wire_read shapes (w ∷ ws) sc a n u h = elim (cases_Bool (bytes_eq w.name n)) [
  | inl t ↦ (
      let e : Some w.width ≡ Some u = rw t at h in
      readable_kept shapes ws ((w.name, w.width) ∷ sc) a.4 n u
      (subst (λ (m : Name). find ((w.name, w.width) ∷ sc) m ≡ Some u) (equal_of_bytes_eq w.name n t) (found_here w.name w.width sc ∙ e))
      )
  | inr f ↦ wire_read shapes ws ((w.name, w.width) ∷ sc) a.4 n u (rw f at h)
]
