-- What two netlists that declare alike have under their names.
use Rattle.sap_lemmas.proofs.Common.{◌≡◌, ℕ, List, [], ◌∷◌, map, refl, sym, ◌∙◌, ap, unwrap_or}
use Rattle.sap_maps.specs.Prelude.{Name, Scope, find}
use Rattle.sap_net.specs.Prelude.{Net, Shapes, memory_names, register_names, shapes, initial_cell, initial_number}
use Rattle.sap_net.specs.declared.parts.Register.{Register}
use Rattle.sap_net.specs.declared.parts.Memory.{Memory}
use Rattle.sap_trim.specs.Alike.{DeclaresAlike}
use Rattle.sap_linked.proofs.Parted.{entry_names}

abbrev Kept : Type 0
Kept = Name × (ℕ × ℕ)

abbrev Stored : Type 0
Stored = Name × (ℕ × (ℕ × ℕ))

register_widths : (rs : List Register) → map {B =
    Name × ℕ} (λ (e : Kept). (e.0, e.1.0)) (map {B = Kept} (λ r. (r.name, (r.width, r.start))) rs) ≡ map {B = Name × ℕ} (λ r. (r.name, r.width)) rs
register_widths [] = refl
register_widths (r ∷ rs) = ap (λ (es : Scope). (r.name, r.width) ∷ es) (register_widths rs)

memory_shapes : (ms : List Memory) → map {B =
    Name × (ℕ × ℕ)} (λ (e : Stored). (e.0, (e.1.0, e.1.1.0))) (map {B = Stored} (λ m. (m.name, (m.width, (m.depth, m.start)))) ms)
    ≡ map {B = Name × (ℕ × ℕ)} (λ m. (m.name, (m.width, m.depth))) ms
memory_shapes [] = refl
memory_shapes (m ∷ ms) = ap (λ (es : Shapes). (m.name, (m.width, m.depth)) ∷ es) (memory_shapes ms)

register_starts : (rs : List Register) → map {B =
    Name × ℕ} (λ (e : Kept). (e.0, e.1.1)) (map {B = Kept} (λ r. (r.name, (r.width, r.start))) rs) ≡ map {B = Name × ℕ} (λ r. (r.name, r.start)) rs
register_starts [] = refl
register_starts (r ∷ rs) = ap (λ (es : Scope). (r.name, r.start) ∷ es) (register_starts rs)

memory_starts : (ms : List Memory) → map {B =
    Name × ℕ} (λ (e : Stored). (e.0, e.1.1.1)) (map {B = Stored} (λ m. (m.name, (m.width, (m.depth, m.start)))) ms) ≡ map {B = Name × ℕ} (λ m. (m.name, m.start)) ms
memory_starts [] = refl
memory_starts (m ∷ ms) = ap (λ (es : Scope). (m.name, m.start) ∷ es) (memory_starts ms)

module _ (given small : Net) (declares : DeclaresAlike given small) where
  pub same_registers : map {B = Name × ℕ} (λ (r : Register). (r.name, r.width)) small.registers ≡ map {B = Name × ℕ} (λ (r : Register). (r.name, r.width)) given.registers
  same_registers =
      sym (register_widths small.registers) ∙ ap (λ (es : List Kept). map {B = Name × ℕ} (λ (e : Kept). (e.0, e.1.0)) es) declares.registers ∙ register_widths given.registers

  pub same_memories : shapes small ≡ shapes given
  same_memories =
      sym (memory_shapes small.memories) ∙ ap (λ (es : List Stored). map {B = Name × (ℕ × ℕ)} (λ (e : Stored). (e.0, (e.1.0, e.1.1.0))) es)
      declares.memories ∙ memory_shapes given.memories

  pub same_register_names : register_names small ≡ register_names given
  same_register_names =
      sym (entry_names (λ (r : Register). r.name) (λ r. r.width) small.registers) ∙ ap (λ (es : Scope). map (λ (e : Name × ℕ). e.0) es) same_registers
      ∙ entry_names (λ (r : Register). r.name) (λ r. r.width) given.registers

  pub same_memory_names : memory_names small ≡ memory_names given
  same_memory_names =
      sym (entry_names (λ (m : Memory). m.name) (λ m. (m.width, m.depth)) small.memories) ∙ ap (λ (es : Shapes). map (λ (e : Name × (ℕ × ℕ)). e.0) es) same_memories
      ∙ entry_names (λ (m : Memory). m.name) (λ m. (m.width, m.depth)) given.memories

  same_register_starts : map {B = Name × ℕ} (λ (r : Register). (r.name, r.start)) small.registers ≡ map {B = Name × ℕ} (λ (r : Register). (r.name, r.start)) given.registers
  same_register_starts =
      sym (register_starts small.registers) ∙ ap (λ (es : List Kept). map {B = Name × ℕ} (λ (e : Kept). (e.0, e.1.1)) es) declares.registers ∙ register_starts given.registers

  same_memory_starts : map {B = Name × ℕ} (λ (m : Memory). (m.name, m.start)) small.memories ≡ map {B = Name × ℕ} (λ (m : Memory). (m.name, m.start)) given.memories
  same_memory_starts =
      sym (memory_starts small.memories) ∙ ap (λ (es : List Stored). map {B = Name × ℕ} (λ (e : Stored). (e.0, e.1.1.1)) es) declares.memories ∙ memory_starts given.memories

  pub same_number : (x : Name) → initial_number small x ≡ initial_number given x
  same_number x = ap (λ (es : Scope). unwrap_or (find es x) 0) same_register_starts

  pub same_cell : (x : Name) → initial_cell small x ≡ initial_cell given x
  same_cell x = ap (λ (es : Scope). unwrap_or (find es x) 0) same_memory_starts
