-- The registers and memories of a plain program have names of the interface.
use Rattle.sap_lemmas.proofs.Common.{◌≡◌, ℕ, ◌+◌, ◌<◌, ◌≤◌, List, [], ◌∷◌, ◌++◌, length, Bool, true, inl, inr, sym, subst, if◌then◌else◌, arith, nat_lt, AllByRecursion, cases_Bool, lt-ltb, or_left, or_right, common_steps, all_append}
use Rattle.sap_maps.specs.Maps.{Name}
use Rattle.sap_meaning.specs.Program.{World, Entity, root, children, is_input, is_register, is_memory, is_state, is_dynamic}
use Rattle.sap_ir.specs.declared.guarded.Var.{Var}
use Rattle.sap_ir.specs.declared.guarded.MemoryVariable.{MemoryVariable}
use Rattle.sap_interface.specs.Prelude.{Named, world, holds_numbers, IsInterfaceName, value_of, tag_of, state_tag_of, child_of, child_of_root}
use Rattle.sap_tagged.specs.Prelude.{value_key, tag_key, seat_key, key_name, for_entities, tag_var, seat_var, level_at_start, shown_registers, has_own_tag, tag_registers, seat_registers, registers_of, memory_of, tags_of, memories_of}
use Rattle.sap_tagged.proofs.Cycle.{value_known, tag_known, seat_known, root_known}
use Rattle.sap_tagged.proofs.Distinct.{if_every}
use Rattle.sap_tagged.proofs.Premises.{Design}

-- what is declared for each entity below a bound
entities_all : {X : Type 0} (P : X → Type 0) (picks : ℕ → Bool) (of : ℕ → List X) (bound : ℕ) → ((x : ℕ) → x < bound → picks x ≡ true → AllByRecursion P (of x))
    → (x : ℕ) (es : List Entity) → x + length es ≤ bound → AllByRecursion P (for_entities picks of x es)
entities_all P picks of bound f x [] l = tt
entities_all P picks of bound f x (e ∷ es) l =
    all_append P (if picks x then of x else []) (for_entities picks of (x + 1) es) (if_every P (picks x) (of x) (λ h. f x (omega (arith, l)) h))
    (entities_all P picks of bound f (x + 1) es (omega (arith, l)))

above_zero : (n : ℕ) → nat_lt 0 n ≡ true → 0 < n
above_zero n h = grind (arith, common_steps)

module _ (d : Named) (tag sites : ℕ) (design : Design d tag sites) where
  abbrev w : World
  w = world d

  abbrev IsNamed : Name → Type 0
  IsNamed n = IsInterfaceName d sites n

  value_named : (x : ℕ) → x < root w → holds_numbers w x ≡ true → IsNamed (key_name d (value_key x))
  value_named x l h = subst (λ (n : Name). IsNamed n) (sym (value_known d x (lt-ltb x (root w) l))) (value_of x h)

  tag_named : (x : ℕ) → x < root w → holds_numbers w x ≡ true → IsNamed (key_name d (tag_key x))
  tag_named x l h = subst (λ (n : Name). IsNamed n) (sym (tag_known d x (lt-ltb x (root w) l))) (tag_of x h)

  state_tag_named : (x : ℕ) → x < root w → is_state w x ≡ true → IsNamed (key_name d (tag_key x))
  state_tag_named x l h = subst (λ (n : Name). IsNamed n) (sym (tag_known d x (lt-ltb x (root w) l))) (state_tag_of x h l)

  child_named : (p : ℕ) → p < root w → 0 < children w p → IsNamed (key_name d (seat_key p))
  child_named p l h = subst (λ (n : Name). IsNamed n) (sym (seat_known d p (lt-ltb p (root w) l))) (child_of p l h)

  root_named : IsNamed (key_name d (seat_key (root w)))
  root_named = subst (λ (n : Name). IsNamed n) (sym (root_known d)) child_of_root

  register_holds : (x : ℕ) → is_register w x ≡ true → holds_numbers w x ≡ true
  register_holds x h = or_right (is_input w x) _ (or_left (is_register w x) (is_memory w x) h)

  memory_holds : (x : ℕ) → is_memory w x ≡ true → holds_numbers w x ≡ true
  memory_holds x h = or_right (is_input w x) _ (or_right (is_register w x) (is_memory w x) h)

  own_tag_named : (x : ℕ) → x < root w → has_own_tag d x ≡ true → IsNamed (key_name d (tag_key x))
  own_tag_named x l h = elim (cases_Bool (is_memory w x)) [
    | inl t ↦ tag_named x l (memory_holds x t)
    | inr f ↦ state_tag_named x l (rw f at h)
  ]

  abbrev IsNamedVariable : Var → Type 0
  IsNamedVariable v = IsInterfaceName d sites v.name

  abbrev IsNamedStore : MemoryVariable → Type 0
  IsNamedStore m = IsInterfaceName d sites m.name

  shown_named : AllByRecursion IsNamedVariable (shown_registers d tag)
  shown_named =
      entities_all IsNamedVariable (is_register w) _ (root w) (λ x l h. (value_named x l (register_holds x h), (tag_named x l (register_holds x h), tt))) 0 w.entities (omega arith)

  tags_named : AllByRecursion IsNamedVariable (tag_registers d tag)
  tags_named =
      entities_all IsNamedVariable (has_own_tag d) (λ x. tag_var d tag x (level_at_start d x) ∷ []) (root w) (λ x l h. (own_tag_named x l h, tt)) 0 w.entities (omega arith)

  seats_named : AllByRecursion IsNamedVariable (seat_registers d)
  seats_named =
      all_append IsNamedVariable _ (seat_var d (root w) ∷ [])
      (entities_all IsNamedVariable (λ p. nat_lt 0 (children w p)) (λ p. seat_var d p ∷ []) (root w)
      (λ p l h. (child_named p l (above_zero (children w p) h), tt)) 0 w.entities (omega arith))
      (root_named, tt)

  pub registers_named : AllByRecursion (λ x. IsInterfaceName d sites x.name) (registers_of d tag)
  registers_named =
      all_append IsNamedVariable (shown_registers d tag) (tag_registers d tag ++ seat_registers d) shown_named
      (all_append IsNamedVariable (tag_registers d tag) (seat_registers d) tags_named seats_named)

  cell_tags_named : (m : ℕ) → m < root w → is_memory w m ≡ true → AllByRecursion IsNamedStore (tags_of d tag m)
  cell_tags_named m l h = elim (cases_Bool (is_dynamic w m)) [
    | inl t ↦ rw t tt
    | inr f ↦ rw f (tag_named m l (memory_holds m h), tt)
  ]

  pub memories_named : AllByRecursion (λ m. IsInterfaceName d sites m.name) (memories_of d tag)
  memories_named =
      entities_all IsNamedStore (is_memory w) (λ m. memory_of d m ∷ tags_of d tag m) (root w)
      (λ m l h. (value_named m l (memory_holds m h), cell_tags_named m l h)) 0 w.entities (omega arith)
