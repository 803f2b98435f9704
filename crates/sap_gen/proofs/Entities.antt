-- The entities of the generated design: each name is declared once, and what it stands for.
use Rattle.sap_lemmas.proofs.Common.{◌≡◌, ℕ, zero, suc, ◌+◌, ◌<◌, ◌≤◌, List, [], ◌∷◌, ◌++◌, Bool, true, false, Some, map, refl, sym, ap, ◌∙◌, inl, inr, arith, append_assoc, if◌then◌else◌, option_map, range_with_len, bytes_eq, cases_eq, append-nil, bytes_eq_same}
use Rattle.sap_text.specs.declared.place.Place.{Place}
use Rattle.sap_names.specs.Prelude.{declared_in, entities_of, entity_of, find, group_entities, what_is, fault_if, is_declared, twice}
use Rattle.sap_names.specs.declared.fault.Fault.{Fault}
use Rattle.sap_names.specs.declared.kind.Code.{Code}
use Rattle.sap_names.specs.declared.kind.Code.TheVariants.{E3}
use Rattle.sap_names.specs.declared.entity.Entity.{Entity}
use Rattle.sap_names.specs.declared.kind.Declared.TheVariants as what
use Rattle.sap_gen.specs.Design.{declared_input, declared_register, design_of_counts, input_name, register_name, state, state_name}
use Rattle.sap_tree.specs.Making.{named, states}
use Rattle.sap_gen.proofs.Words.{registers_differ, states_differ}

-- those of k registers from the a-th on, and of k states
abbrev pub registers_from : (a k : ℕ) → List Entity
registers_from a k = declared_in (map declared_register (range_with_len a k))

abbrev pub states_from : (r t a k : ℕ) → List Entity
states_from r t a k = group_entities (states (map (state r t) (range_with_len a k)))

abbrev pub input_entity : Entity
input_entity = entity_of declared_input

abbrev pub register_entity : ℕ → Entity
register_entity i = entity_of (declared_register i)

abbrev pub state_entity : ℕ → Entity
state_entity j = record { name = named (state_name j); what = what.State; dynamic = false }

-- a name among entities

found_here : (e : Entity) (es : List Entity) (name : List ℕ) → bytes_eq e.name.name name ≡ true → find (e ∷ es) name ≡ Some e
found_here e es name t = rw t refl

found_later : (e : Entity) (es : List Entity) (name : List ℕ) → bytes_eq e.name.name name ≡ false → find (e ∷ es) name ≡ find es name
found_later e es name f = rw f refl

find_register : (a k i : ℕ) (rest : List Entity) → a ≤ i → i < a + k → a + k ≤ 64 → find (registers_from a k ++ rest) (register_name i) ≡ Some (register_entity i)
find_register a zero i rest l h b = absurd (omega arith)
find_register a (suc k) i rest l h b = elim (cases_eq a i) [
  | inl e ↦ found_here (register_entity a) (registers_from (a + 1) k ++ rest) (register_name i)
      (ap (λ (z : ℕ). bytes_eq (register_name z) (register_name i)) e ∙ bytes_eq_same (register_name i))
      ∙ ap (λ (z : ℕ). Some (register_entity z)) e
  | inr ne ↦ found_later (register_entity a) (registers_from (a + 1) k ++ rest) (register_name i) (registers_differ a i (omega arith) (omega arith) ne)
      ∙ find_register (a + 1) k i rest (omega arith) (omega arith) (omega arith)
]

no_register : (a k j : ℕ) (rest : List Entity) → find (registers_from a k ++ rest) (state_name j) ≡ find rest (state_name j)
no_register a zero j rest = refl
no_register a (suc k) j rest = found_later (register_entity a) (registers_from (a + 1) k ++ rest) (state_name j) refl ∙ no_register (a + 1) k j rest

find_state : (r t a k j : ℕ) → a ≤ j → j < a + k → a + k ≤ 64 → find (states_from r t a k) (state_name j) ≡ Some (state_entity j)
find_state r t a zero j l h b = absurd (omega arith)
find_state r t a (suc k) j l h b = elim (cases_eq a j) [
  | inl e ↦ found_here (state_entity a) (states_from r t (a + 1) k) (state_name j) (ap (λ (z : ℕ). bytes_eq (state_name z) (state_name j)) e ∙ bytes_eq_same (state_name j))
      ∙ ap (λ (z : ℕ). Some (state_entity z)) e
  | inr ne ↦ found_later (state_entity a) (states_from r t (a + 1) k) (state_name j) (states_differ a j (omega arith) (omega arith) ne)
      ∙ find_state r t (a + 1) k j (omega arith) (omega arith) (omega arith)
]

module _ (r t : ℕ) (few : r ≤ 64) (short : t ≤ 64) where
  pub what_input : what_is (entities_of (design_of_counts r t)) input_name ≡ Some (what.Input 8)
  what_input = refl

  pub what_register : (i : ℕ) → i < r → what_is (entities_of (design_of_counts r t)) (register_name i) ≡ Some (what.Register 8)
  what_register i h =
      ap (option_map (λ (e : Entity). e.what))
      (found_later input_entity (registers_from 0 r ++ states_from r t 0 t) (register_name i) refl
      ∙ find_register 0 r i (states_from r t 0 t) (omega arith) (omega arith) (omega arith))

  pub what_state : (j : ℕ) → j < t → what_is (entities_of (design_of_counts r t)) (state_name j) ≡ Some what.State
  what_state j h =
      ap (option_map (λ (e : Entity). e.what))
      (found_later input_entity (registers_from 0 r ++ states_from r t 0 t) (state_name j) refl
      ∙ no_register 0 r j (states_from r t 0 t)
      ∙ find_state r t 0 t j (omega arith) (omega arith) (omega arith))

-- no name is declared twice

pub no_fault : (b : Bool) (code : Code) (place : Place) → b ≡ false → fault_if b code place ≡ []
no_fault b code place f = rw f refl

either_way : (x p q : Bool) → (if x then true else p) ≡ false → (p ≡ false → q ≡ false) → (if x then true else q) ≡ false
either_way true p q h f = h
either_way false p q h f = f h

declared_more : (before : List Entity) (e : Entity) (name : List ℕ) → is_declared before name ≡ false → bytes_eq e.name.name name ≡ false
    → is_declared (before ++ e ∷ []) name ≡ false
declared_more [] e name h f = rw f refl
declared_more (b ∷ before) e name h f =
    either_way (bytes_eq b.name.name name) (is_declared before name) (is_declared (before ++ e ∷ []) name) h (λ g. declared_more before e name g f)

one_more : (before es : List Entity) (e : Entity) → is_declared before e.name.name ≡ false → twice before (e ∷ es) ≡ twice (before ++ e ∷ []) es
one_more before es e h = ap (λ (fs : List Fault). fs ++ twice (before ++ e ∷ []) es) (no_fault (is_declared before e.name.name) E3 e.name.place h)

twice_registers : (before rest : List Entity) (a k : ℕ) → a + k ≤ 64 → ((i : ℕ) → a ≤ i → i < a + k → is_declared before (register_name i) ≡ false)
    → twice before (registers_from a k ++ rest) ≡ twice (before ++ registers_from a k) rest
twice_registers before rest a zero b new = ap (λ (es : List Entity). twice es rest) (sym (append-nil before))
twice_registers before rest a (suc k) b new =
    one_more before (registers_from (a + 1) k ++ rest) (register_entity a) (new a (omega arith) (omega arith))
    ∙ twice_registers (before ++ register_entity a ∷ []) rest (a + 1) k (omega arith)
    (λ i l h. declared_more before (register_entity a) (register_name i) (new i (omega arith) (omega arith)) (registers_differ a i (omega arith) (omega arith) (λ e. omega arith)))
    ∙ ap (λ (es : List Entity). twice es rest) (append_assoc before (register_entity a ∷ []) (registers_from (a + 1) k))

twice_states : (r t : ℕ) (before : List Entity) (a k : ℕ) → a + k ≤ 64 → ((j : ℕ) → a ≤ j → j < a + k → is_declared before (state_name j) ≡ false)
    → twice before (states_from r t a k) ≡ []
twice_states r t before a zero b new = refl
twice_states r t before a (suc k) b new =
    one_more before (states_from r t (a + 1) k) (state_entity a) (new a (omega arith) (omega arith))
    ∙ twice_states r t (before ++ state_entity a ∷ []) (a + 1) k (omega arith)
    (λ j l h. declared_more before (state_entity a) (state_name j) (new j (omega arith) (omega arith)) (states_differ a j (omega arith) (omega arith) (λ e. omega arith)))

registers_new : (a k j : ℕ) → is_declared (registers_from a k) (state_name j) ≡ false
registers_new a zero j = refl
registers_new a (suc k) j = registers_new (a + 1) k j

pub each_once : (r t : ℕ) → r ≤ 64 → t ≤ 64 → twice [] (entities_of (design_of_counts r t)) ≡ []
each_once r t few short =
    twice_registers (input_entity ∷ []) (states_from r t 0 t) 0 r (omega arith) (λ i l h. refl)
    ∙ twice_states r t (input_entity ∷ registers_from 0 r) 0 t (omega arith) (λ j l h. registers_new 0 r j)
