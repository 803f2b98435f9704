-- Tests, and what they decide.
use Rattle.sap_lemmas.proofs.Common.{◌≡◌, ℕ, Bool, true, false, not, ◌||◌, List, length, get_or, refl, sym, ap, ◌∙◌, arith, nat_lt, inl, inr, cases_Bool, and_parts, or_right, common_steps, true_is_not_false}
use Rattle.sap_meaning.specs.Program.{World, Entity, Kind, entity, nothing, root, is_dynamic, is_register, is_memory, is_state, kind_is_input, kind_is_register, kind_is_memory, kind_is_state}
use Rattle.sap_meaning.specs.Program as program
use Rattle.sap_tagged.specs.Stands.{is_value, has_tag}

-- what has a kind other than a state's is declared
module _ (w : World) where
  past : (es : List Entity) (x : ℕ) → nat_lt x (length es) ≡ false → get_or es x nothing ≡ nothing
  past es x h = grind (arith, common_steps)

  within : (f : Entity → Bool) → f nothing ≡ false → (x : ℕ) → f (entity w x) ≡ true → nat_lt x (root w) ≡ true
  within f n x h = elim (cases_Bool (nat_lt x (root w))) [
    | inl t ↦ t
    | inr t ↦ absurd (true_is_not_false (sym h ∙ ap f (past w.entities x t) ∙ n))
  ]

  pub memory_within : (x : ℕ) → is_memory w x ≡ true → nat_lt x (root w) ≡ true
  memory_within x h = within (λ e. kind_is_memory e.kind) refl x h

  pub register_within : (x : ℕ) → is_register w x ≡ true → nat_lt x (root w) ≡ true
  register_within x h = within (λ e. kind_is_register e.kind) refl x h

  pub value_within : (x : ℕ) → is_value w x ≡ true → nat_lt x (root w) ≡ true
  value_within x h = within (λ e. kind_is_input e.kind || kind_is_register e.kind) refl x h

  pub enforced_within : (x : ℕ) → is_dynamic w x ≡ false → nat_lt x (root w) ≡ true
  enforced_within x h = within (λ e. not e.dynamic) refl x (ap not h)

  value_kind : (k : Kind) → (kind_is_input k || kind_is_register k) ≡ true → kind_is_memory k ≡ false
  value_kind (program.memory depth) h = absurd (true_is_not_false (sym h))
  value_kind _ h = refl

  kept_kind : (k : Kind) → (kind_is_register k || kind_is_state k) ≡ true → kind_is_memory k ≡ false
  kept_kind (program.memory depth) h = absurd (true_is_not_false (sym h))
  kept_kind _ h = refl

  pub value_no_memory : (x : ℕ) → is_value w x ≡ true → is_memory w x ≡ false
  value_no_memory x h = value_kind (entity w x).kind h

  pub kept_no_memory : (x : ℕ) → (is_register w x || is_state w x) ≡ true → is_memory w x ≡ false
  kept_no_memory x h = kept_kind (entity w x).kind h

  pub tagged : (x : ℕ) → nat_lt x (root w) ≡ true → is_memory w x ≡ false → has_tag w x ≡ true
  tagged x l m = rw (l, m) refl

  pub tagged_memory : (x : ℕ) → is_memory w x ≡ true → is_dynamic w x ≡ true → has_tag w x ≡ true
  tagged_memory x m t = rw (memory_within x m, t) (or_right (not (is_memory w x)) true refl)

  pub tagged_within : (x : ℕ) → has_tag w x ≡ true → nat_lt x (root w) ≡ true
  tagged_within x h = (and_parts (nat_lt x (root w)) (not (is_memory w x) || is_dynamic w x) h).0
