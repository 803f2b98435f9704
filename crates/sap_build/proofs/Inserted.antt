-- Scopes with one more entry, and what reads them.
use Rattle.sap_lemmas.proofs.Common.{◌≡◌, ℕ, true, false, List, [], ◌∷◌, ◌++◌, Some, None, refl, ◌∙◌, subst, inl, inr, bytes_eq, cases_Bool, or_right, bytes_eq_apart_back, bytes_eq_same, equal_of_bytes_eq}
use Rattle.sap_maps.specs.Prelude.{Name, Scope, find}
use Rattle.sap_maps.proofs.Scopes.{not_behind, not_first}
use Rattle.sap_net.specs.Prelude.{is_among, Shapes, AreOperands, IsRight, AreWires, IsRegister, IsMemory, AreValues, AreMemories, IsWidth, readable_after, names_of}
use Rattle.sap_net.specs.declared.parts.Operand.{Operand}
use Rattle.sap_net.specs.declared.parts.Right.{Right}
use Rattle.sap_net.specs.declared.parts.Right.TheVariants.{Copy, One, Two, Choose, Concat, Slice, Cell}
use Rattle.sap_net.specs.declared.parts.Wire.{Wire}
use Rattle.sap_net.specs.declared.parts.Register.{Register}
use Rattle.sap_net.specs.declared.parts.Memory.{Memory}
use Rattle.sap_net.proofs.NamesLemmas.{among_here}
use Rattle.sap_net.proofs.RulesLemmas.{Grows, operand_grows, wires_new}
use Rattle.sap_build.proofs.Found.{AreDeclared}

-- what isn't declared isn't found
pub undeclared_not_found : {X : Type 0} (ns : List Name) (es : List (Name × X)) → AreDeclared ns es → (x : Name) → is_among x ns ≡ false → find es x ≡ None
undeclared_not_found ns [] d x h = refl
undeclared_not_found ns (e ∷ es) d x h =
    elim (cases_Bool (bytes_eq e.0 x)) [
      | inl t ↦ absurd (let s : is_among x ns ≡ true = subst (λ (y : Name). is_among y ns ≡ true) (equal_of_bytes_eq e.0 x t) d.0 in cc)
      | inr q ↦ rw q (undeclared_not_found ns es d.1 x h)
    ]

-- another name is found as before
pub find_other : {X : Type 0} (es fs : List (Name × X)) (x : Name) (u : X) (y : Name) → bytes_eq x y ≡ false → find (es ++ (x, u) ∷ fs) y ≡ find (es ++ fs) y
find_other [] fs x u y q = rw q refl
find_other (e ∷ es) fs x u y q =
    elim (cases_Bool (bytes_eq e.0 y)) [ inl t ↦ rw t refl | inr f ↦ rw f (find_other es fs x u y q) ]

-- and this one for the first time
pub find_inserted : {X : Type 0} (es fs : List (Name × X)) (x : Name) (u : X) → find (es ++ fs) x ≡ None → find (es ++ (x, u) ∷ fs) x ≡ Some u
find_inserted [] fs x u h = rw (bytes_eq_same x) refl
find_inserted (e ∷ es) fs x u h =
    elim (cases_Bool (bytes_eq e.0 x)) [
      | inl t ↦ absurd (let g = rw t at h in cc)
      | inr f ↦ rw f (find_inserted es fs x u (rw f at h))
    ]

-- what is found stays
pub inserted_grows : {X : Type 0} (es fs : List (Name × X)) (x : Name) (u : X) → find (es ++ fs) x ≡ None → (y : Name) (v : X)
    → find (es ++ fs) y ≡ Some v → find (es ++ (x, u) ∷ fs) y ≡ Some v
inserted_grows {X} es fs x u h y v g =
    elim (cases_Bool (bytes_eq x y)) [
      | inl t ↦ absurd (let n : find (es ++ fs) y ≡ None = subst (λ (z : Name). find (es ++ fs) z ≡ None) (equal_of_bytes_eq x y t) h in cc)
      | inr f ↦ find_other es fs x u y f ∙ g
    ]

pub values_inserted : (ms : Shapes) (es fs : Scope) (x : Name) (u : ℕ) → IsWidth u → find ms x ≡ None → find (es ++ fs) x ≡ None
    → AreValues ms (es ++ fs) → AreValues ms (es ++ (x, u) ∷ fs)
values_inserted ms [] fs x u w m h a = (w, h, m, a)
values_inserted ms (e ∷ es) fs x u w m h a = (
  a.0,
  find_other es fs x u e.0 (not_first e (es ++ fs) x h) ∙ a.1,
  a.2,
  values_inserted ms es fs x u w m (not_behind e (es ++ fs) x h) a.3,
)

-- with one more memory
pub values_past_memory : (gs hs : Shapes) (x : Name) (s : ℕ × ℕ) (es : Scope) → find es x ≡ None → AreValues (gs ++ hs) es → AreValues (gs ++ (x, s) ∷ hs) es
values_past_memory gs hs x s [] h a = tt
values_past_memory gs hs x s (e ∷ es) h a = (
  a.0,
  a.1,
  find_other gs hs x s e.0 (not_first e es x h) ∙ a.2,
  values_past_memory gs hs x s es (not_behind e es x h) a.3,
)

pub memories_inserted : (es fs : Shapes) (x : Name) (s : ℕ × ℕ) → IsWidth s.0 → find (es ++ fs) x ≡ None → AreMemories (es ++ fs) → AreMemories (es ++ (x, s) ∷ fs)
memories_inserted [] fs x s w h a = (w, h, a)
memories_inserted (e ∷ es) fs x s w h a = (
  a.0,
  find_other es fs x s e.0 (not_first e (es ++ fs) x h) ∙ a.1,
  memories_inserted es fs x s w (not_behind e (es ++ fs) x h) a.2,
)

-- ---- what reads more than it needs

abbrev pub GrowsIn : Shapes → Shapes → Type 0
GrowsIn ms ns = (m : Name) (t : ℕ × ℕ) → find ms m ≡ Some t → find ns m ≡ Some t

operands_grow : (sc sd : Scope) → Grows sc sd → (u : ℕ) (os : List Operand) → AreOperands sc u os → AreOperands sd u os
operands_grow sc sd g u [] h = h
operands_grow sc sd g u (o ∷ os) h = (h.0, h.1, h.2, operand_grows sc sd g h.0 o h.3, operands_grow sc sd g h.1 os h.4, h.5)

pub right_grows : (ms ns : Shapes) → GrowsIn ms ns → (sc sd : Scope) → Grows sc sd → (u : ℕ) (r : Right) → IsRight ms sc u r → IsRight ns sd u r
right_grows ms ns more sc sd g u (Copy a) h = operand_grows sc sd g u a h
right_grows ms ns more sc sd g u (One op a) h = (h.0, h.1, operand_grows sc sd g h.0 a h.2, h.3)
right_grows ms ns more sc sd g u (Two op a b) h = (h.0, h.1, h.2, h.3, operand_grows sc sd g h.0 a h.4, operand_grows sc sd g h.1 b h.5, h.6, h.7)
right_grows ms ns more sc sd g u (Choose c a b) h = (operand_grows sc sd g 1 c h.0, operand_grows sc sd g u a h.1, operand_grows sc sd g u b h.2)
right_grows ms ns more sc sd g u (Concat os) h = (h.0, operands_grow sc sd g u os h.1)
right_grows ms ns more sc sd g u (Slice x hi lo) h = (h.0, h.1, g x h.0 h.2, h.3, h.4, h.5)
right_grows ms ns more sc sd g u (Cell m i) h = (h.0, more m _ h.1, operand_grows sc sd g h.0 i h.2)

pub register_grows : (sc sd : Scope) → Grows sc sd → (r : Register) → IsRegister sc r → IsRegister sd r
register_grows sc sd g r h = (h.0, operand_grows sc sd g r.width r.next h.1)

pub memory_grows : (sc sd : Scope) → Grows sc sd → (m : Memory) → IsMemory sc m → IsMemory sd m
memory_grows sc sd g m h =
    record {
      bits = h.bits;
      depth = h.depth;
      start = h.start;
      enable = operand_grows sc sd g 1 m.enable h.enable;
      index = operand_grows sc sd g h.bits m.index h.index;
      value = operand_grows sc sd g m.width m.value h.value;
    }

grows_behind : (e : Name × ℕ) (sc sd : Scope) → Grows sc sd → Grows (e ∷ sc) (e ∷ sd)
grows_behind e sc sd g n u h = elim (cases_Bool (bytes_eq e.0 n)) [ inl t ↦ rw t (rw t at h) | inr q ↦ rw q (g n u (rw q at h)) ]

pub grows_after : (ws : List Wire) (sc sd : Scope) → Grows sc sd → Grows (readable_after sc ws) (readable_after sd ws)
grows_after [] sc sd g = g
grows_after (w ∷ ws) sc sd g = grows_after ws ((w.name, w.width) ∷ sc) ((w.name, w.width) ∷ sd) (grows_behind (w.name, w.width) sc sd g)

abbrev pub AreFresh : Shapes → Scope → List Wire → Type 0
AreFresh ns sd ws = (x : Name) → is_among x (names_of ws) ≡ true → (find sd x ≡ None) × (find ns x ≡ None)

behind_other : (n : Name) (u : ℕ) (sd : Scope) (x : Name) → bytes_eq n x ≡ false → find sd x ≡ None → find ((n, u) ∷ sd) x ≡ None
behind_other n u sd x q h = rw q h

fresh_rest : (ms ns : Shapes) (w : Wire) (ws : List Wire) (sc sd : Scope) → AreFresh ns sd (w ∷ ws) → AreWires ms sc (w ∷ ws) → AreFresh ns ((w.name, w.width) ∷ sd) ws
fresh_rest ms ns w ws sc sd fresh a x h =
    let f = fresh x (or_right (bytes_eq x w.name) (is_among x (names_of ws)) h) in
    let other = bytes_eq_apart_back x w.name (not_first (w.name, w.width) sc x (wires_new ms ws ((w.name, w.width) ∷ sc) a.4 x h).0) in
    (behind_other w.name w.width sd x other f.0, f.1)

pub wires_grow : (ms ns : Shapes) → GrowsIn ms ns → (ws : List Wire) (sc sd : Scope) → Grows sc sd → AreFresh ns sd ws → AreWires ms sc ws → AreWires ns sd ws
wires_grow ms ns more [] sc sd g fresh a = tt
wires_grow ms ns more (w ∷ ws) sc sd g fresh a =
    let here = fresh w.name (among_here w.name (names_of ws)) in (
      a.0,
      here.0,
      here.1,
      right_grows ms ns more sc sd g w.width w.right a.3,
      wires_grow ms ns more ws ((w.name, w.width) ∷ sc) ((w.name, w.width) ∷ sd) (grows_behind (w.name, w.width) sc sd g) (fresh_rest ms ns w ws sc sd fresh a) a.4,
    )
