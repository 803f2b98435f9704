-- How large plain programs are.
use Rattle.sap_lemmas.proofs.Common.{◌≡◌, ℕ, zero, suc, ◌+◌, ◌*◌, ◌≤◌, List, [], ◌∷◌, ◌++◌, length, Bool, refl, arith, inl, inr, length-append, nat_lt, cases_Bool, length-map}
use Rattle.sap_meaning.specs.Program as program
use Rattle.sap_meaning.specs.Program.{Entity, root, children, is_register, is_memory, is_dynamic, listed}
use Rattle.sap_ir.specs.IsGuarded.{variable_names}
use Rattle.sap_ir.specs.declared.guarded.Var.{Var}
use Rattle.sap_size.specs.Nested.{nested_weight}
use Rattle.sap_size.specs.Programs.{group_size, states_below}
use Rattle.sap_interface.specs.StandsFor.{Named, world}
use Rattle.sap_tagged.specs.Prelude.{setting_of, FewGroup, value_var, tag_var, seat_var, level_at_start, for_entities, has_own_tag, shown_registers, tag_registers, seat_registers, registers_of, site_wires, memory_of, tags_of, memories_of, plain_of}
use Rattle.sap_tagged.proofs.small.Tags.{Roomy}
use Rattle.sap_tagged.proofs.small.States.{program_weighs}

-- what is declared for entities that are picked, at most so many for each
for_each_short : {A : Type 0} (picks : ℕ → Bool) (f : ℕ → List A) (most : ℕ) → ((x : ℕ) → length (f x) ≤ most) → (x : ℕ) (es : List Entity)
    → length (for_entities picks f x es) ≤ length es * most
for_each_short picks f most h x [] = omega arith
for_each_short picks f most h x (e ∷ es) =
    let r = for_each_short picks f most h (x + 1) es in
    let n = h x in
    let l = length-append (f x) (for_entities picks f (x + 1) es) in
    elim (cases_Bool (picks x)) [ inl t ↦ rw t (omega (arith, r, n, l)) | inr s ↦ rw s (omega (arith, r)) ]

module _ (d : Named) (tag sites : ℕ) where
  shown_short : length (shown_registers d tag) ≤ root (world d) * 2
  shown_short =
      for_each_short (is_register (world d)) (λ x. value_var d x (program.entity (world d) x).initial ∷ tag_var d tag x (level_at_start d x)
      ∷ []) 2 (λ x. omega arith) 0 (world d).entities

  tags_short : length (tag_registers d tag) ≤ root (world d) * 1
  tags_short = for_each_short (has_own_tag d) (λ x. tag_var d tag x (level_at_start d x) ∷ []) 1 (λ x. omega arith) 0 (world d).entities

  seats_short : length (seat_registers d) ≤ root (world d) * 1 + 1
  seats_short =
      let own = for_entities (λ p. nat_lt 0 (children (world d) p)) (λ p. seat_var d p ∷ []) 0 (world d).entities in
      let s = for_each_short (λ p. nat_lt 0 (children (world d) p)) (λ p. seat_var d p ∷ []) 1 (λ x. omega arith) 0 (world d).entities in
      let l = length-append own (seat_var d (root (world d)) ∷ []) in
      omega (arith, s, l)

  pair_short : (m : ℕ) → length (memory_of d m ∷ tags_of d tag m) ≤ 2
  pair_short m = elim (cases_Bool (is_dynamic (world d) m)) [ inl t ↦ rw t (omega arith) | inr f ↦ rw f (omega arith) ]

  memories_short : length (memories_of d tag) ≤ root (world d) * 2
  memories_short = for_each_short (is_memory (world d)) (λ m. memory_of d m ∷ tags_of d tag m) 2 pair_short 0 (world d).entities

  sites_long : (k n : ℕ) → length (site_wires d tag k n) ≡ 2 * n
  sites_long k zero = refl
  sites_long k (suc n) = let r = sites_long (k + 1) n in omega (arith, r)

  registers_short : length (registers_of d tag) ≤ 4 * root (world d) + 1
  registers_short =
      let a = shown_short in
      let b = tags_short in
      let c = seats_short in
      let l = length-append (shown_registers d tag) (tag_registers d tag ++ seat_registers d) in
      let m = length-append (tag_registers d tag) (seat_registers d) in
      omega (arith, a, b, c, l, m)

  ports_short : length (plain_of d tag sites).ports ≤ 2 * root (world d) + 2 * sites
  ports_short =
      let a = shown_short in
      let b = sites_long 1 sites in
      let l = length-append (variable_names (shown_registers d tag)) (variable_names (site_wires d tag 1 sites)) in
      let m = length-map (shown_registers d tag) (λ (x : Var). x.name) in
      let n = length-map (site_wires d tag 1 sites) (λ (x : Var). x.name) in
      omega (arith, a, b, l, m, n)

  -- The plain program of a design over a lattice, whose states are among its entities.
  pub plain_weighs : 2 ≤ (world d).order.count → states_below d.program.states ≤ root (world d) → FewGroup d.program.states
      → nested_weight (plain_of d tag sites) ≤ (8 * (root (world d) + (world d).order.count) + 6) * group_size d.program.states + (8 * root (world d) + 1 + 2 * sites)
  plain_weighs levels few arms =
      let room = 8 * (root (world d) + (world d).order.count) + 6 in
      let r : Roomy (setting_of d tag) room = record { wide = omega arith; levels = levels } in
      let p = program_weighs (setting_of d tag) room r (listed d.program.hang) d.program.states few arms in
      let a = registers_short in
      let b = memories_short in
      let c = ports_short in
      omega (arith, p, a, b, c)
