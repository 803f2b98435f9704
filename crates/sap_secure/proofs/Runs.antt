-- Whole cycles, with inputs and the edge, and runs.
use Rattle.sap_lemmas.proofs.Common.{◌≡◌, ℕ, zero, suc, true, false, List, [], ◌∷◌, get_or, refl, sym, ◌∙◌, subst, inl, inr, ◌⊎◌, cases_Bool}
use Rattle.sap_meaning.proofs.ProgramLemmas.{memory_no_input, state_no_input}
use Rattle.sap_lattice.specs.Order.{Order, Laws}
use Rattle.sap_meaning.specs.Prelude.{World, Program, entity, is_dynamic, is_input, root, Slot, own, start, next, start_whole, next_whole, Store, owner, home, number, level, child, source, settle, Resting, first, Tagged, given, inputs_before, at_inputs, set_inputs, cycle, InputsAgree, active_path, StatesAgree, RefusalsAgree, FineProgram}
use Rattle.sap_meaning.specs.State.{Rests}
use Rattle.sap_meaning.proofs.Slots.{level_settle, number_settle, child_settle, owner_source, held_source}
use Rattle.sap_meaning.proofs.Keeps.{holds_inputs, inputs_keep}
use Rattle.sap_meaning.proofs.Holding.{cycle_rests, first_rests}
use Rattle.sap_secure.specs.Laws.{OneCycle, LaterRunsAgree, LabelledRunsAgree}
use Rattle.sap_secure.proofs.Levels.{Same, same_self}
use Rattle.sap_secure.proofs.Agreeing.{compared, Agree, agree_self}
use Rattle.sap_secure.proofs.Apart.{inside_state}
use Rattle.sap_secure.proofs.Concerns.{group_concerns}
use Rattle.sap_secure.proofs.Sites.{Around, around_root}
use Rattle.sap_secure.proofs.Confined.{Even}
use Rattle.sap_secure.proofs.Walks.{path, from_same}
use Rattle.sap_secure.proofs.Cycles.{fall_pair}
use Rattle.sap_secure.proofs.Relations.{same_of, slots_same, states_agree, same_path, paths_alike, path_itself}

input_same : (o : Order) (laws : Laws o) (l : ℕ) (a b : List Tagged) (d : Tagged) → InputsAgree o l a b → (n : ℕ)
    → Same o l (get_or a n d).number (get_or a n d).level (get_or b n d).number (get_or b n d).level
input_same o laws l [] (b ∷ bs) d same n = absurd same
input_same o laws l (a ∷ as') [] d same n = absurd same
input_same o laws l (a ∷ as') (b ∷ bs) d same zero = same_of o l _ _ _ _ same.0
input_same o laws l (a ∷ as') (b ∷ bs) d same (suc n) = input_same o laws l as' bs d same.1 n
input_same o laws l [] [] d same _ = same_self o laws l _ _

module _ (w : World) where
  level_as : (inputs : List Tagged) (s : Store) (y z : Slot) → y ≡ z → at_inputs w (λ x. (given w inputs x).level) s.level z ≡ s.level z
      → at_inputs w (λ x. (given w inputs x).level) s.level y ≡ s.level y
  level_as inputs s y z e f = subst (λ v. at_inputs w (λ x. (given w inputs x).level) s.level v ≡ s.level v) (sym e) f

  -- inputs change nothing else
  pub inputs_level : (inputs : List Tagged) (s : Store) (z : Slot) → is_input w (owner z) ≡ false → level w z (set_inputs w inputs s) ≡ level w z s
  unfolding set_inputs
  inputs_level inputs s (own x) n = rw n refl
  inputs_level inputs s (start m i) n = elim (cases_Bool (is_dynamic w m)) [
    | inl d ↦ level_as inputs s (home w (start m i)) (start_whole m) (rw d refl) refl
    | inr d ↦ level_as inputs s (home w (start m i)) (start m i) (rw d refl) refl
  ]
  inputs_level inputs s (next m i) n = elim (cases_Bool (is_dynamic w m)) [
    | inl d ↦ level_as inputs s (home w (next m i)) (next_whole m) (rw d refl) refl
    | inr d ↦ level_as inputs s (home w (next m i)) (next m i) (rw d refl) refl
  ]
  inputs_level inputs s _ n = refl

  pub inputs_number : (inputs : List Tagged) (s : Store) (z : Slot) → is_input w (owner z) ≡ false → number z (set_inputs w inputs s) ≡ number z s
  unfolding set_inputs
  inputs_number inputs s (own x) n = rw n refl
  inputs_number inputs s _ n = refl

  pub inputs_child : (inputs : List Tagged) (s : Store) (p : ℕ) → child p (set_inputs w inputs s) ≡ child p s
  unfolding set_inputs
  inputs_child inputs s p = refl

  given_number : (inputs : List Tagged) (s : Store) (x : ℕ) → is_input w x ≡ true → number (own x) (set_inputs w inputs s) ≡ (given w inputs x).number
  unfolding set_inputs
  given_number inputs s x i = rw i refl

  given_level : (inputs : List Tagged) (s : Store) (x : ℕ) → is_input w x ≡ true → level w (own x) (set_inputs w inputs s) ≡ (given w inputs x).level
  unfolding set_inputs
  given_level inputs s x i = rw i refl

module _ (p : Program) (fine : FineProgram p) (l : ℕ) where
  abbrev W : World
  W = p.world

  around : Around p.world (root p.world) p.states
  around = around_root p.world p.states fine.states fine.count

  -- what is compared and belongs to no input, or is an input
  agree_inputs : (s t : Store) (a b : List Tagged) → StatesAgree p l s t → InputsAgree p.world.order l a b → Agree p.world l (set_inputs p.world a s) (set_inputs p.world b t)
  agree_inputs s t a b r same = record {
    cells = λ z g. part z g (cases_Bool (is_input p.world (owner z)));
    tags = λ z g d low. inputs_keep p.world s a fine.inputs z d ∙ r.enforced_levels z g d low ∙ sym (inputs_keep p.world t b fine.inputs z d);
  }
    where
      given_same : (x : ℕ) → is_input p.world x ≡ true
          → Same p.world.order l (number (own x) (set_inputs p.world a s)) (level p.world (own x) (set_inputs p.world a s))
          (number (own x) (set_inputs p.world b t)) (level p.world (own x) (set_inputs p.world b t))
      given_same x i = rw (given_number p.world a s x i, given_level p.world a s x i, given_number p.world b t x i, given_level p.world b t x i)
          (input_same p.world.order fine.order l a b (record { number = 0; level = p.world.order.bottom }) same (inputs_before p.world.entities x))

      other : (z : Slot) → compared p.world z ≡ true → is_input p.world (owner z) ≡ false
          → Same p.world.order l (number z (set_inputs p.world a s)) (level p.world z (set_inputs p.world a s))
          (number z (set_inputs p.world b t)) (level p.world z (set_inputs p.world b t))
      other z g n = rw (
        inputs_number p.world a s z n,
        inputs_level p.world a s z n,
        inputs_number p.world b t z n,
        inputs_level p.world b t z n,
      ) (slots_same p fine.order l s t r z g n)

      part : (z : Slot) → compared p.world z ≡ true → ((is_input p.world (owner z) ≡ true) ⊎ (is_input p.world (owner z) ≡ false))
          → Same p.world.order l (number z (set_inputs p.world a s)) (level p.world z (set_inputs p.world a s))
          (number z (set_inputs p.world b t)) (level p.world z (set_inputs p.world b t))
      part z g (inr n) = other z g n
      part (own x) g (inl i) = given_same x i
      part (start m j) g (inl i) = let no = memory_no_input (entity p.world m).kind g in cc
      part (next m j) g (inl i) = let no = memory_no_input (entity p.world m).kind g in cc
      part _ g (inl i) = cc

  path_inputs : (s : Store) (a : List Tagged) → path p.world l (root p.world) p.states (set_inputs p.world a s) ≡ path p.world l (root p.world) p.states s
  path_inputs s a =
      rw (inputs_child p.world a s (root p.world)) (from_same p.world l p.states (child (root p.world) s) (child (root p.world) s) (set_inputs p.world a s) s
      (λ x h. (inputs_level p.world a s (own x) (state_no_input (entity p.world x).kind (inside_state p.world p.states 0 p.states fine.states x h)), inputs_child p.world a s x)))

  even_inputs : (s : Store) (a : List Tagged) → Rests p.world s → Even p.world (group_concerns p.world p.states) (set_inputs p.world a s)
  even_inputs s a rests (next m i) g d h = inputs_keep p.world s a fine.inputs (start m i) d ∙ rests.levels m i ∙ sym (inputs_keep p.world s a fine.inputs (next m i) d)
  even_inputs s a rests _ g d h = refl

  source_compared : (z : Slot) → compared p.world z ≡ true → compared p.world (source z) ≡ true
  source_compared (own x) g = g
  source_compared _ g = g

  agree_settle : (s t : Store) → Agree p.world l s t → Agree p.world l (settle s) (settle t)
  agree_settle s t r = record {
    cells = λ z g. rw (number_settle z s, level_settle p.world z s, number_settle z t, level_settle p.world z t) (r.cells (source z) (source_compared z g));
    tags = λ z g d low. level_settle p.world z s ∙ r.tags (source z) (held_source p.world z g) (rw (owner_source z) d) (rw (owner_source z) low) ∙ sym (level_settle p.world z t);
  }

  path_settle : (s : Store) → path p.world l (root p.world) p.states (settle s) ≡ path p.world l (root p.world) p.states s
  path_settle s = rw (child_settle (root p.world) s)
      (from_same p.world l p.states (child (root p.world) s) (child (root p.world) s) (settle s) s (λ x h. (level_settle p.world (own x) s, child_settle x s)))

  pub cycle_pair : (s t : Store) → Resting p.world s → Resting p.world t → StatesAgree p l s t → (a b : List Tagged)
      → InputsAgree p.world.order l a b → StatesAgree p l (cycle p a s).store (cycle p b t).store × RefusalsAgree p.world.order l (cycle p a s).refused (cycle p b t).refused
  unfolding cycle
  cycle_pair s t rs rt r a b same =
      let s' = set_inputs p.world a s in
      let t' = set_inputs p.world b t in
      let like = agree_inputs s t a b r same in
      let e = path_inputs s a ∙ same_path p.world fine.order l (root p.world) p.states around.fine s t r.paths ∙ sym (path_inputs t b) in
      let f = fall_pair p.world fine.order l (root p.world) p.states around fine.once s' t' (holds_inputs p.world s a fine.inputs rs.holds)
      (holds_inputs p.world t b fine.inputs rt.holds) like (even_inputs s a rs.rests) (even_inputs t b rt.rests) e in
      let alike = paths_alike p.world fine.order l (cycle p a s).store (cycle p b t).store (cycle_rests p fine a s rs).holds (cycle_rests p fine b t rt).holds
      (root p.world) p.states fine.states fine.count (path_settle _ ∙ f.path ∙ sym (path_settle _)) in
      (states_agree p fine.order l _ _ (agree_settle _ _ f.twin.same) alike, f.twin.refused)

pub one_cycle_law : OneCycle
one_cycle_law p fine l s t rs rt r a b same = cycle_pair p fine l s t rs rt r a b same

pub later_law : LaterRunsAgree
later_law p fine l s t rs rt r [] [] same = tt
later_law p fine l s t rs rt r [] (b ∷ bs) same = absurd same
later_law p fine l s t rs rt r (a ∷ as') [] same = absurd same
later_law p fine l s t rs rt r (a ∷ as') (b ∷ bs) same =
    let f = cycle_pair p fine l s t rs rt r a b same.0 in
    (f, later_law p fine l (cycle p a s).store (cycle p b t).store (cycle_rests p fine a s rs) (cycle_rests p fine b t rt) f.0 as' bs same.1)

-- a state agrees with itself
pub agrees_itself : (p : Program) → FineProgram p → (l : ℕ) (s : Store) → StatesAgree p l s s
agrees_itself p fine l s = states_agree p fine.order l s s (agree_self p.world fine.order l s) (path_itself p.world fine.order l (active_path p s))

pub labelled_law : LabelledRunsAgree
labelled_law p fine l a b same = later_law p fine l (first p.world) (first p.world) (first_rests p fine) (first_rests p fine) (agrees_itself p fine l (first p.world)) a b same
