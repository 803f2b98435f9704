-- What is declared for the first entities of a program.
use Rattle.sap_lemmas.proofs.Common.{◌≡◌, ℕ, zero, suc, ◌+◌, ◌<◌, ◌≤◌, nat_lt, List, [], ◌∷◌, ◌++◌, length, take, Bool, true, false, refl, sym, ap, ◌∙◌, subst, arith, add-one, append_assoc, if◌then◌else◌, take_all, append-nil, common_steps, length_map}
use Rattle.sap_meaning.proofs.ProgramLemmas.{memory_no_state, register_no_state}
use Rattle.sap_ir.specs.declared.guarded.Var.{Var}
use Rattle.sap_ir.specs.declared.guarded.MemoryVariable.{MemoryVariable}
use Rattle.sap_meaning.specs.Program as program
use Rattle.sap_meaning.specs.Prelude.{Program, Kind, Entity, children, width, is_input, is_register, is_memory, kind_is_input, kind_is_state, depth}
use Rattle.sap_program.specs.Views.{entity_of}
use Rattle.sap_resolved.specs.Sized.Ranges.{IsWidth, RangedProgram}
use Rattle.sap_tags_terms.specs.declared.setting.Setting.{Setting}
use Rattle.sap_tags_terms.specs.Code.{named_in, tag_width, world_in, entities_in}
use Rattle.sap_tagged.specs.Prelude.{first_key, inner_key, key_name, variable, value_var, tag_var, seat_var, level_at_start, seat_registers, memory_of, tags_of, for_entities, all_entities}

-- of one entity more
for_more : {A : Type 0} (picks : ℕ → Bool) (of : ℕ → List A) (x : ℕ) (es : List Entity) (n : ℕ) → n < length es
    → for_entities picks of x (take (suc n) es) ≡ for_entities picks of x (take n es) ++ (if picks (x + n) then of (x + n) else [])
for_more picks of x [] n l = absurd (omega arith)
for_more picks of x (e ∷ es) zero l =
    let z : x + 0 ≡ x = omega arith in append-nil (if picks x then of x else []) ∙ rw z refl
for_more picks of x (e ∷ es) (suc n) l =
    let z : x + 1 + n ≡ x + suc n = omega arith in
    ap (λ r. (if picks x then of x else []) ++ r) (for_more picks of (x + 1) es n (omega arith))
    ∙ sym (append_assoc (if picks x then of x else []) (for_entities picks of (x + 1) (take n es)) (if picks (x + 1 + n) then of (x + 1 + n) else []))
    ∙ ap (λ m. ((if picks x then of x else []) ++ for_entities picks of (x + 1) (take n es)) ++ (if picks m then of m else [])) z

-- what is declared for the first n entities
abbrev pub of_first : {A : Type 0} → Setting → (picks : ℕ → Bool) → (of : ℕ → List A) → (n : ℕ) → List A
of_first s picks of n = for_entities picks of 0 (take n (world_in s).entities)

module _ {A : Type 0} (s : Setting) (picks : ℕ → Bool) (of : ℕ → List A) where
  one_more : (n : ℕ) → n < entities_in s → of_first s picks of (n + 1) ≡ of_first s picks of n ++ (if picks n then of n else [])
  one_more n l =
      let es = (world_in s).entities in
      let z : 0 + n ≡ n = omega arith in
      let m : n < length es = subst (λ k. n < k) (sym (length_map entity_of s.program.now.entities.items)) l in
      ap (λ k. for_entities picks of 0 (take k es)) (add-one n) ∙ for_more picks of 0 es n m ∙ ap (λ k. for_entities picks of 0 (take n es) ++ (if picks k then of k else [])) z

  -- an entity that is picked, behind the others
  pub picked : (n : ℕ) (front old new : List A) → n < entities_in s → picks n ≡ true → old ≡ front ++ of_first s picks of n → new ≡ old ++ of n
      → new ≡ front ++ of_first s picks of (n + 1)
  picked n front old new l p e f =
      f ∙ ap (λ r. r ++ of n) e ∙ append_assoc front (of_first s picks of n) (of n)
      ∙ ap (λ b. front ++ (of_first s picks of n ++ (if b then of n else []))) (sym p)
      ∙ ap (λ r. front ++ r) (sym (one_more n l))

  pub passed : (n : ℕ) (front old : List A) → n < entities_in s → picks n ≡ false → old ≡ front ++ of_first s picks of n
      → old ≡ front ++ of_first s picks of (n + 1)
  passed n front old l p e =
      e ∙ ap (λ r. front ++ r) (sym (append-nil (of_first s picks of n)))
      ∙ ap (λ b. front ++ (of_first s picks of n ++ (if b then of n else []))) (sym p)
      ∙ ap (λ r. front ++ r) (sym (one_more n l))

  -- of all entities
  pub whole : (n : ℕ) (front old : List A) → entities_in s ≤ n → old ≡ front ++ of_first s picks of n → old ≡ front ++ all_entities (named_in s) picks of
  whole n front old l e =
      let es = (world_in s).entities in
      let m : length es ≤ n = subst (λ k. k ≤ n) (sym (length_map entity_of s.program.now.entities.items)) l in
      e ∙ ap (λ r. front ++ for_entities picks of 0 r) (take_all n es m)

-- what each list has of an entity

abbrev pub of_input : Setting → ℕ → List Var
of_input s x = value_var (named_in s) x 0 ∷ tag_var (named_in s) (tag_width s) x 0 ∷ []

abbrev pub of_register : Setting → ℕ → List Var
of_register s x =
    value_var (named_in s) x (program.entity (world_in s) x).initial ∷ tag_var (named_in s) (tag_width s) x (level_at_start (named_in s) x) ∷ []

abbrev pub of_tagged : Setting → ℕ → List Var
of_tagged s x = tag_var (named_in s) (tag_width s) x (level_at_start (named_in s) x) ∷ []

abbrev pub has_children : Setting → ℕ → Bool
has_children s p = nat_lt 0 (children (world_in s) p)

abbrev pub of_parent : Setting → ℕ → List Var
of_parent s p = seat_var (named_in s) p ∷ []

abbrev pub of_saved : Setting → ℕ → List Var
of_saved s m = variable (key_name (named_in s) (first_key m)) (tag_width s) 0 ∷ []

abbrev pub of_inner : Setting → ℕ → List Var
of_inner s p = variable (key_name (named_in s) (inner_key p)) (tag_width s) 0 ∷ []

abbrev pub of_memory : Setting → ℕ → List MemoryVariable
of_memory s m = memory_of (named_in s) m ∷ tags_of (named_in s) (tag_width s) m

pub two_more : {A : Type 0} (x y : A) (old mid new : List A) → mid ≡ old ++ x ∷ [] → new ≡ mid ++ y ∷ [] → new ≡ old ++ x ∷ y ∷ []
two_more x y old mid new e f = f ∙ ap (λ r. r ++ y ∷ []) e ∙ append_assoc old (x ∷ []) (y ∷ [])

pub none : (n : ℕ) → n ≤ 0 → nat_lt 0 n ≡ false
none n h = grind (arith, common_steps)

-- the root's behind all others
pub with_root : (s : Setting) (n r : ℕ) (front old new : List Var) → r ≡ entities_in s → r ≤ n → old ≡ front ++ of_first s (has_children s) (of_parent s) n
    → new ≡ old ++ seat_var (named_in s) r ∷ [] → new ≡ front ++ seat_registers (named_in s)
with_root s n r front old new q l e f =
    let k : r ≡ length (world_in s).entities = q ∙ sym (length_map entity_of s.program.now.entities.items) in
    let a = whole s (has_children s) (of_parent s) n front old (subst (λ m. m ≤ n) q l) e in
    let all = all_entities (named_in s) (has_children s) (of_parent s) in
    f ∙ ap (λ x. x ++ seat_var (named_in s) r ∷ []) a ∙ append_assoc front all (seat_var (named_in s) r ∷ [])
    ∙ ap (λ m. front ++ (all ++ seat_var (named_in s) m ∷ [])) k

-- what has a number has a width

input_is_no_state : (k : Kind) → kind_is_input k ≡ true → kind_is_state k ≡ false
input_is_no_state program.input h = refl
input_is_no_state program.register h = cc
input_is_no_state (program.memory depth) h = cc
input_is_no_state (program.state place last) h = cc

module _ (p : Program) (ranged : RangedProgram p) (x : ℕ) where
  pub input_width : is_input p.world x ≡ true → IsWidth (width p.world x)
  input_width h = ranged.widths x (input_is_no_state (program.entity p.world x).kind h)

  pub register_width : is_register p.world x ≡ true → IsWidth (width p.world x)
  register_width h = ranged.widths x (register_no_state (program.entity p.world x).kind h)

  pub memory_width : is_memory p.world x ≡ true → IsWidth (width p.world x)
  memory_width h = ranged.widths x (memory_no_state (program.entity p.world x).kind h)
