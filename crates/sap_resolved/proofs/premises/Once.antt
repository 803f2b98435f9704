-- Where no path writes a memory twice, no memory is written after it was written, with numbers for names.
use Rattle.sap_lemmas.proofs.Common.{◌≡◌, ℕ, ◌+◌, Option, Bool, true, false, ◌&&◌, List, [], ◌∷◌, ◌++◌, if◌then◌else◌, refl, ap, ◌∙◌, subst, nat_eq, inl, inr, bytes_eq, length, bytes_eq_same, eqb-true, false_from_ne_true, or_cases, or_from, or_left, or_right}
use Rattle.sap_lemmas.proofs.Bools.{either_follows}
use Rattle.sap_names.proofs.NameFaultsLemmas.{no_fault}
use Rattle.sap_names.proofs.FaultLemmas.{nil_left, nil_right}
use Rattle.sap_tree.specs.Syntax.{SimpleCommand, write, set_cell_tag, fall_to_child, Command, lone, try, if_else, try_then, case_of, Arms, last_arm, and_arm, CommandBlock, command_block, ElseBlock, no_else, with_else, CommandList, no_command, and_command, StateTree, state_node, StateList, no_state, and_state}
use Rattle.sap_tree.specs.declared.name.Mention.{Mention}
use Rattle.sap_text.specs.declared.place.Place.{Place}
use Rattle.sap_lattice.specs.Levels.{Levels}
use Rattle.sap_names.specs.Prelude.{Lookup, what_is, own, name_faults, fault_if, simple_faults, command_faults, block_faults, arms_faults, else_faults, commands_faults, state_faults, states_faults}
use Rattle.sap_names.specs.declared.fault.Fault.{Fault}
use Rattle.sap_names.specs.declared.kind.Code.TheVariants.{E14}
use Rattle.sap_names.specs.declared.entity.Entity.{Entity}
use Rattle.sap_names.specs.declared.kind.Use.TheVariants.{Indexed as indexed}
use Rattle.sap_shape.specs.Closing.{transfer_faults, open_faults, open_block_faults, open_arms_faults, open_else_faults, open_list_faults, closing_faults}
use Rattle.sap_shape.specs.Walk.{Written, writing, past_simple, found, found_in_block, found_in_arms, found_in_else, found_in_list, is_fall, falls, falls_block, falls_arms, falls_else, falls_list, entering_simple, second_simple, second_state, second_states}
use Rattle.sap_shape.proofs.Tracks.{past_before}
use Rattle.sap_shape.proofs.Followed.{of_command, of_block, of_list, command_follows, block_follows, list_follows, kept, enters}
use Rattle.sap_shape.specs.ShapeFaults.{state_shape, states_shape}
use Rattle.sap_meaning.specs.Prelude.{World, Group, step_writes, step_reaching, reaching, arms_reaching, block_reaching, state_reaches, group_reaches, OnceStep, Once, OnceArms, OnceBlock, OnceState, OnceGroup}
use Rattle.sap_resolved.specs.Worlds.{states_in}
use Rattle.sap_shape.specs.Sites.{Surroundings, simple_sites, block_sites, command_sites, state_sites}
use Rattle.sap_resolved.specs.Resolve.{site_number, step_of, command_of, arms_of, block_of, else_of, list_of, state_of, group_of}
use Rattle.sap_resolved.specs.Terms.{entity_number}
use Rattle.sap_resolved.proofs.Lookup.{AllMatch}
use Rattle.sap_resolved.proofs.premises.Places.{name_at}
use Rattle.sap_resolved.proofs.premises.Lookups.{named}
use Rattle.sap_resolved.proofs.premises.Shut.{Ended, Shut, ShutArms, ShutElse, ShutList, shut_list, shut_else, shut_first, shut_rest, shut_handler, shut_branch, shut_other, then_parts, no_transfer, shut_accepted, shut_refused, shut_arms, shut_arm, shut_later}

module _ (ls : Levels) (levels : List (List ℕ)) (h : Surroundings) (w : World) (match : AllMatch h.entities w.entities) where
  abbrev What : Lookup
  What = what_is h.entities

  abbrev Fits : CommandBlock → Type 0
  Fits b = block_faults levels What b ≡ []

  -- a memory's number and its name
  target_of : (target : Mention) (m : ℕ) → name_faults indexed What target ≡ [] → nat_eq m (entity_number h.entities target.name) ≡ true
      → name_at h.entities m ≡ target.name
  target_of target m f e = ap (λ n. name_at h.entities n) (eqb-true m (entity_number h.entities target.name) e) ∙ named h.entities w match indexed target f

  writes_target : (target : Mention) (m : ℕ) (p : Written) → name_faults indexed What target ≡ [] → nat_eq m (entity_number h.entities target.name) ≡ true
      → writing target.name p (name_at h.entities m) ≡ true
  writes_target target m p f e =
      or_left (bytes_eq target.name (name_at h.entities m)) (p (name_at h.entities m)) (rw (target_of target m f e) (bytes_eq_same target.name))

  -- what a step writes, is written behind it
  step_written : (n : ℕ) (c : SimpleCommand) → simple_faults levels What c ≡ [] → (m : ℕ) (p : Written) → step_writes (step_of ls h n c) m ≡ true
      → past_simple c p (name_at h.entities m) ≡ true
  step_written n (write target index e) f m p i = writes_target target m p (nil_left _ _ (nil_left _ _ f)) i
  step_written n (set_cell_tag place target index tag) f m p i = writes_target target m p (nil_left _ _ (nil_left _ _ f)) i
  step_written n _ f m p i = cc

  module _ (falls : ℕ → Bool) where
    open_written : (n : ℕ) (c : SimpleCommand) → simple_faults levels What c ≡ [] → transfer_faults c ≡ [] → (m : ℕ) (p : Written)
        → step_reaching falls (step_of ls h n c) m ≡ true → past_simple c p (name_at h.entities m) ≡ true
    open_written n (write target index e) f o m p i = writes_target target m p (nil_left _ _ (nil_left _ _ f)) i
    open_written n (set_cell_tag place target index tag) f o m p i = writes_target target m p (nil_left _ _ (nil_left _ _ f)) i
    open_written n _ f o m p i = cc

    -- what an open command reaches, is written behind it
    mutual
      command_written : (k : ℕ) (c : Command) → command_faults levels What c ≡ [] → open_faults c ≡ [] → (m : ℕ) (p : Written)
          → reaching falls (command_of ls h k c) m ≡ true → (found c p).past (name_at h.entities m) ≡ true
      command_written k (lone c) f o m p i = open_written (site_number h k c) c f o m p i
      command_written k (try c place b) f o m p i =
          either_follows _ _ _ _ (open_written (site_number h k c) c (nil_left _ _ f) (nil_left _ _ o) m p)
          (block_written (k + length (simple_sites h c)) b (nil_right _ _ f) (nil_right _ _ o) m (past_simple c p)) i
      command_written k (if_else place e b other) f o m p i =
          either_follows _ _ _ _ (block_written k b (nil_right _ _ (nil_left _ _ f)) (nil_left _ _ o) m p)
          (else_written (k + length (block_sites h b)) other (nil_right _ _ f) (nil_right _ _ o) m p) i
      command_written k (try_then c place a b) f o m p i =
          let q = past_simple c p in
          let x = k + length (simple_sites h c) in
          let opened = then_parts c place (open_block_faults a ++ open_block_faults b) o in
          elim (or_cases _ _ i) [
            | inl j ↦ or_left _ _ (kept (of_block a) (block_follows a) (name_at h.entities m) q (open_written (site_number h k c) c (nil_left _ _ (nil_left _ _ f)) opened.0 m p j))
            | inr j ↦ either_follows _ _ _ _ (block_written x a (nil_right _ _ (nil_left _ _ f)) (nil_left _ _ opened.1) m q)
                (block_written (x + length (block_sites h a)) b (nil_right _ _ f) (nil_right _ _ opened.1) m q) j
          ]
      command_written k (case_of place e arms) f o m p i = arms_written (own What e) k arms (nil_right _ _ f) o m p i

      arms_written : (asked : Option ℕ) (k : ℕ) (arms : Arms) → arms_faults levels What asked arms ≡ [] → open_arms_faults arms ≡ [] → (m : ℕ) (p : Written)
          → arms_reaching falls (arms_of ls h k arms) m ≡ true → (found_in_arms arms p).past (name_at h.entities m) ≡ true
      arms_written asked k (last_arm b) f o m p i = block_written k b f o m p i
      arms_written asked k (and_arm constants b arms) f o m p i =
          either_follows _ _ _ _ (block_written k b (nil_right _ _ (nil_left _ _ f)) (nil_left _ _ o) m p)
          (arms_written asked (k + length (block_sites h b)) arms (nil_right _ _ f) (nil_right _ _ o) m p) i

      block_written : (k : ℕ) (b : CommandBlock) → Fits b → open_block_faults b ≡ [] → (m : ℕ) (p : Written)
          → block_reaching falls (block_of ls h k b) m ≡ true → (found_in_block b p).past (name_at h.entities m) ≡ true
      block_written k (command_block cs after) f o m p i = list_written k cs f o m p i

      else_written : (k : ℕ) (b : ElseBlock) → else_faults levels What b ≡ [] → open_else_faults b ≡ [] → (m : ℕ) (p : Written)
          → block_reaching falls (else_of ls h k b) m ≡ true → (found_in_else b p).past (name_at h.entities m) ≡ true
      else_written k no_else f o m p i = cc
      else_written k (with_else b) f o m p i = block_written k b f o m p i

      list_written : (k : ℕ) (cs : CommandList) → commands_faults levels What cs ≡ [] → open_list_faults cs ≡ [] → (m : ℕ) (p : Written)
          → block_reaching falls (list_of ls h k cs) m ≡ true → (found_in_list cs p).past (name_at h.entities m) ≡ true
      list_written k no_command f o m p i = cc
      list_written k (and_command c cs) f o m p i =
          elim (or_cases _ _ i) [
            | inl j ↦ kept (of_list cs) (list_follows cs) (name_at h.entities m) (found c p).past
                (command_written k c (nil_left _ _ f) (nil_left _ _ o) m p j)
            | inr j ↦ list_written (k + length (command_sites h c)) cs (nil_right _ _ f) (nil_right _ _ o) m (found c p).past j
          ]

    -- what was written before is reached no more, unless a fall leads to it
    module _ (m : ℕ) where
      abbrev Safe : Bool → Type 0
      Safe entered = entered ≡ true → falls m ≡ false

      target_unwritten : (target : Mention) (place : Place) → name_faults indexed What target ≡ [] → (p : Written) → p (name_at h.entities m) ≡ true
          → fault_if (p target.name) E14 place ≡ [] → nat_eq m (entity_number h.entities target.name) ≡ false
      target_unwritten target place f p i s = false_from_ne_true (nat_eq m (entity_number h.entities target.name)) (λ j.
          let e : name_at h.entities m ≡ target.name = target_of target m f j in
          let no : p target.name ≡ false = no_fault (p target.name) E14 place s in
          let yes : p target.name ≡ true = subst (λ a. p a ≡ true) e i in
          cc)

      step_unreached : (n : ℕ) (c : SimpleCommand) → simple_faults levels What c ≡ [] → (p : Written) → p (name_at h.entities m) ≡ true
          → second_simple c p ≡ [] → Safe (entering_simple c p (name_at h.entities m)) → step_reaching falls (step_of ls h n c) m ≡ false
      step_unreached n (write target index e) f p i s d = target_unwritten target target.place (nil_left _ _ (nil_left _ _ f)) p i s
      step_unreached n (set_cell_tag place target index tag) f p i s d = target_unwritten target place (nil_left _ _ (nil_left _ _ f)) p i s
      step_unreached n (fall_to_child place) f p i s d = d i
      step_unreached n _ f p i s d = refl

      mutual
        command_unreached : (k : ℕ) (c : Command) → command_faults levels What c ≡ [] → (p : Written) → p (name_at h.entities m) ≡ true → (found c p).again ≡ []
            → Safe ((found c p).entering (name_at h.entities m)) → reaching falls (command_of ls h k c) m ≡ false
        command_unreached k (lone c) f p i s d = step_unreached (site_number h k c) c f p i s d
        command_unreached k (try c place b) f p i s d =
            or_from _ _ (step_unreached (site_number h k c) c (nil_left _ _ f) p i (nil_left _ _ s)
            (λ j. d (or_left _ _ j)))
            (body_unreached (k + length (simple_sites h c)) b (nil_right _ _ f) (past_simple c p) (past_before c p (name_at h.entities m) i)
            (nil_right _ _ s) (λ j. d (or_right _ _ j)))
        command_unreached k (if_else place e b other) f p i s d =
            or_from _ _ (body_unreached k b (nil_right _ _ (nil_left _ _ f)) p i (nil_left _ _ s) (λ j. d (or_left _ _ j)))
            (else_unreached (k + length (block_sites h b)) other (nil_right _ _ f) p i (nil_right _ _ s) (λ j. d (or_right _ _ j)))
        command_unreached k (try_then c place a b) f p i s d =
            let q = past_simple c p in
            let behind = past_before c p (name_at h.entities m) i in
            let blocks : (found_in_block a q).again ++ (found_in_block b q).again ≡ [] = nil_right (second_simple c p) _ s in
            let x = k + length (simple_sites h c) in
            let y = x + length (block_sites h a) in
            or_from _ _ (step_unreached (site_number h k c) c (nil_left _ _ (nil_left _ _ f)) p i (nil_left _ _ s) (λ j. d (or_left _ _ j)))
            (or_from _ _ (body_unreached x a (nil_right _ _ (nil_left _ _ f)) q behind (nil_left _ _ blocks) (λ j. d (or_right _ _ (or_left _ _ j))))
            (body_unreached y b (nil_right _ _ f) q behind (nil_right _ _ blocks) (λ j. d (or_right _ _ (or_right _ _ j)))))
        command_unreached k (case_of place e arms) f p i s d = arms_unreached (own What e) k arms (nil_right _ _ f) p i s d

        arms_unreached : (asked : Option ℕ) (k : ℕ) (arms : Arms) → arms_faults levels What asked arms ≡ [] → (p : Written) → p (name_at h.entities m) ≡ true
            → (found_in_arms arms p).again ≡ [] → Safe ((found_in_arms arms p).entering (name_at h.entities m)) → arms_reaching falls (arms_of ls h k arms) m ≡ false
        arms_unreached asked k (last_arm b) f p i s d = body_unreached k b f p i s d
        arms_unreached asked k (and_arm constants b arms) f p i s d =
            or_from _ _ (body_unreached k b (nil_right _ _ (nil_left _ _ f)) p i (nil_left _ _ s) (λ j. d (or_left _ _ j)))
            (arms_unreached asked (k + length (block_sites h b)) arms (nil_right _ _ f) p i (nil_right _ _ s) (λ j. d (or_right _ _ j)))

        pub body_unreached : (k : ℕ) (b : CommandBlock) → Fits b → (p : Written) → p (name_at h.entities m) ≡ true → (found_in_block b p).again ≡ []
            → Safe ((found_in_block b p).entering (name_at h.entities m)) → block_reaching falls (block_of ls h k b) m ≡ false
        body_unreached k (command_block cs after) f p i s d = list_unreached k cs f p i s d

        else_unreached : (k : ℕ) (b : ElseBlock) → else_faults levels What b ≡ [] → (p : Written) → p (name_at h.entities m) ≡ true → (found_in_else b p).again ≡ []
            → Safe ((found_in_else b p).entering (name_at h.entities m)) → block_reaching falls (else_of ls h k b) m ≡ false
        else_unreached k no_else f p i s d = refl
        else_unreached k (with_else b) f p i s d = body_unreached k b f p i s d

        list_unreached : (k : ℕ) (cs : CommandList) → commands_faults levels What cs ≡ [] → (p : Written) → p (name_at h.entities m) ≡ true
            → (found_in_list cs p).again ≡ [] → Safe ((found_in_list cs p).entering (name_at h.entities m)) → block_reaching falls (list_of ls h k cs) m ≡ false
        list_unreached k no_command f p i s d = refl
        list_unreached k (and_command c cs) f p i s d =
            or_from _ _ (command_unreached k c (nil_left _ _ f) p i (nil_left _ _ s)
            (λ j. d (or_left _ _ j)))
            (list_unreached (k + length (command_sites h c)) cs (nil_right _ _ f) (found c p).past (kept (of_command c) (command_follows c) (name_at h.entities m) p i)
            (nil_right _ _ s) (λ j. d (or_right _ _ j)))

  and_if : (a b : Bool) → (a ≡ true → b ≡ false) → (a && b) ≡ false
  and_if true b f = f refl
  and_if false b f = refl

  module _ (g : Group) (below : Type 0) where
    -- what holds where a fall leads
    once_step : (n : ℕ) (c : SimpleCommand) → (is_fall c ≡ true → below) → OnceStep below (step_of ls h n c)
    once_step n (fall_to_child place) f = f refl
    once_step n _ f = tt

    -- where each fall leads to nothing that was written
    abbrev Free : Written → Type 0
    Free entered = (m : ℕ) → entered (name_at h.entities m) ≡ true → group_reaches g m ≡ false

    mutual
      once_command : (k : ℕ) (c : Command) → command_faults levels What c ≡ [] → Ended c → (p : Written) → (found c p).again ≡ [] → Free (found c p).entering
          → (falls c ≡ true → below) → Once g below (command_of ls h k c)
      once_command k (lone c) f o p s d i = once_step (site_number h k c) c i
      once_command k (try c place b) f o p s d i = (
        once_step (site_number h k c) c (λ j. i (or_left _ _ j)),
        once_body (k + length (simple_sites h c)) b (nil_right _ _ f)
            (shut_handler c place b o) (past_simple c p) (nil_right _ _ s)
            (λ m j. d m (or_right _ _ j)) (λ j. i (or_right _ _ j)),
        λ m. and_if (step_writes (step_of ls h (site_number h k c) c) m) (block_reaching (group_reaches g) (block_of ls h (k + length (simple_sites h c)) b) m) (λ w.
            body_unreached (group_reaches g) m (k + length (simple_sites h c)) b (nil_right _ _ f) (past_simple c p)
            (step_written (site_number h k c) c (nil_left _ _ f) m p w)
            (nil_right _ _ s)
            (λ j. d m (or_right _ _ j))),
      )
      once_command k (if_else place e b other) f o p s d i = (
        once_body k b (nil_right _ _ (nil_left _ _ f))
            (shut_branch place e b other o) p (nil_left _ _ s) (λ m j. d m (or_left _ _ j)) (λ j. i (or_left _ _ j)),
        once_else (k + length (block_sites h b)) other (nil_right _ _ f)
            (shut_other place e b other o) p (nil_right _ _ s) (λ m j. d m (or_right _ _ j)) (λ j. i (or_right _ _ j)),
      )
      once_command k (try_then c place a b) f o p s d i =
          let q = past_simple c p in
          let x = k + length (simple_sites h c) in
          let y = x + length (block_sites h a) in
          let first : simple_faults levels What c ≡ [] = nil_left _ _ (nil_left _ _ f) in
          let accepted : Fits a = nil_right _ _ (nil_left _ _ f) in
          let refused : Fits b = nil_right _ _ f in
          let blocks : (found_in_block a q).again ++ (found_in_block b q).again ≡ [] = nil_right (second_simple c p) _ s in
          let here : (found_in_block a q).again ≡ [] = nil_left _ _ blocks in
          let there : (found_in_block b q).again ≡ [] = nil_right _ _ blocks in
          let opened : transfer_faults c ≡ [] = no_transfer c place a b o in (
            once_step (site_number h k c) c (λ j. i (or_left _ _ j)),
            once_body x a accepted (shut_accepted c place a b o)
                q here (λ m j. d m (or_right _ _ (or_left _ _ j))) (λ j. i (or_right _ _ (or_left _ _ j))),
            once_body y b refused (shut_refused c place a b o)
                q there (λ m j. d m (or_right _ _ (or_right _ _ j))) (λ j. i (or_right _ _ (or_right _ _ j))),
            λ m. and_if (step_reaching (group_reaches g) (step_of ls h (site_number h k c) c) m) (block_reaching (group_reaches g) (block_of ls h x a) m) (λ w.
                body_unreached (group_reaches g) m x a accepted q (open_written (group_reaches g) (site_number h k c) c first opened m p w) here
                (λ j. d m (or_right _ _ (or_left _ _ j)))),
            λ m. and_if (step_writes (step_of ls h (site_number h k c) c) m) (block_reaching (group_reaches g) (block_of ls h y b) m) (λ w.
                body_unreached (group_reaches g) m y b refused q (step_written (site_number h k c) c first m p w) there
                (λ j. d m (or_right _ _ (or_right _ _ j)))),
          )
      once_command k (case_of place e arms) f o p s d i =
          once_arms (own What e) k arms (nil_right _ _ f) (shut_arms place e arms o) p s d i

      once_arms : (asked : Option ℕ) (k : ℕ) (arms : Arms) → arms_faults levels What asked arms ≡ [] → ShutArms arms → (p : Written) → (found_in_arms arms p).again ≡ []
          → Free (found_in_arms arms p).entering → (falls_arms arms ≡ true → below) → OnceArms g below (arms_of ls h k arms)
      once_arms asked k (last_arm b) f o p s d i = once_body k b f o p s d i
      once_arms asked k (and_arm constants b arms) f o p s d i = (
        once_body k b (nil_right _ _ (nil_left _ _ f))
            (shut_arm constants b arms o) p (nil_left _ _ s) (λ m j. d m (or_left _ _ j)) (λ j. i (or_left _ _ j)),
        once_arms asked (k + length (block_sites h b)) arms (nil_right _ _ f)
            (shut_later constants b arms o) p (nil_right _ _ s) (λ m j. d m (or_right _ _ j)) (λ j. i (or_right _ _ j)),
      )

      pub once_body : (k : ℕ) (b : CommandBlock) → Fits b → Shut b → (p : Written) → (found_in_block b p).again ≡ [] → Free (found_in_block b p).entering
          → (falls_block b ≡ true → below) → OnceBlock g below (block_of ls h k b)
      once_body k (command_block cs after) f o p s d i = once_list k cs f (shut_list cs after o) p s d i

      once_else : (k : ℕ) (b : ElseBlock) → else_faults levels What b ≡ [] → ShutElse b → (p : Written) → (found_in_else b p).again ≡ [] → Free (found_in_else b p).entering
          → (falls_else b ≡ true → below) → OnceBlock g below (else_of ls h k b)
      once_else k no_else f o p s d i = tt
      once_else k (with_else b) f o p s d i = once_body k b f (shut_else b o) p s d i

      once_list : (k : ℕ) (cs : CommandList) → commands_faults levels What cs ≡ [] → ShutList cs → (p : Written) → (found_in_list cs p).again ≡ []
          → Free (found_in_list cs p).entering → (falls_list cs ≡ true → below) → OnceBlock g below (list_of ls h k cs)
      once_list k no_command f o p s d i = tt
      once_list k (and_command c no_command) f o p s d i = (
        once_command k c (nil_left _ _ f)
            (shut_first c no_command o) p (nil_left _ _ s) (λ m j. d m (or_left _ _ j)) (λ j. i (or_left _ _ j)),
        tt,
        λ m. and_if (reaching (group_reaches g) (command_of ls h k c) m) false (λ i. refl),
      )
      once_list k (and_command c (and_command e es)) f o p s d i =
          let cs : CommandList = and_command e es in
          let opened : open_faults c ≡ [] = elim o [ inl i ↦ nil_left _ _ i | inr i ↦ nil_left _ _ i.1 ] in
          let first = nil_left _ _ f in
          let rest = nil_right _ _ f in
          let later = nil_right _ _ s in (
            once_command k c first (inl opened) p (nil_left _ _ s)
                (λ m j. d m (or_left _ _ j)) (λ j. i (or_left _ _ j)),
            once_list (k + length (command_sites h c)) (and_command e es) rest
                (shut_rest c cs o) (found c p).past later (λ m j. d m (or_right _ _ j)) (λ j. i (or_right _ _ j)),
            λ m. and_if (reaching (group_reaches g) (command_of ls h k c) m) (block_reaching (group_reaches g) (list_of ls h (k + length (command_sites h c)) cs) m)
                (λ w.
                list_unreached (group_reaches g) m (k + length (command_sites h c)) cs rest (found c p).past (command_written (group_reaches g) k c first opened m p w) later
                (λ j. d m (or_right _ _ j))),
          )

-- the faults below a body that falls
nil_below : (test : Bool) (fs : List Fault) → (if test then fs else []) ≡ [] → test ≡ true → fs ≡ []
nil_below true fs h e = h
nil_below false fs h e = cc

module _ (body : CommandBlock) (children : StateList) (p : Written)
    (once : (found_in_block body p).again ++ (if falls_block body then second_states children (found_in_block body p).entering else []) ≡ []) where
  once_within : (found_in_block body p).again ≡ []
  once_within = nil_left _ _ once

  once_down : falls_block body ≡ true → second_states children (found_in_block body p).entering ≡ []
  once_down e = nil_below (falls_block body) (second_states children (found_in_block body p).entering) (nil_right (found_in_block body p).again _ once) e

-- the same of states that are entered after a memory was written
module _ (ls : Levels) (levels : List (List ℕ)) (le : ℕ → ℕ → Bool) (es : List Entity) (w : World) (match : AllMatch es w.entities) (m : ℕ) where
  mutual
    state_unreached : (k x : ℕ) (s : StateTree) → state_faults levels le (what_is es) s ≡ [] → (p : Written) → p (name_at es m) ≡ true → second_state s p ≡ []
        → state_reaches (state_of ls es k x s) m ≡ false
    state_unreached k x (state_node place name kind body children) f p i s =
        let h : Surroundings = record { entities = es; home = record { name = name.name; kind = kind; children = children } } in
        let g : Group = group_of ls es (k + length (block_sites h body)) (x + 1) children in
        body_unreached ls levels h w match (group_reaches g) m k body
        (nil_right _ _ (nil_left _ _ f))
        p i (once_within body children p s)
        (λ j. group_unreached (k + length (block_sites h body)) (x + 1) children (nil_right _ _ f)
        (found_in_block body p).entering j (once_down body children p s (enters (of_block body) (block_follows body) (name_at es m) p j)))

    pub group_unreached : (k x : ℕ) (g : StateList) → states_faults levels le (what_is es) g ≡ [] → (p : Written) → p (name_at es m) ≡ true
        → second_states g p ≡ [] → group_reaches (group_of ls es k x g) m ≡ false
    group_unreached k x no_state f p i s = refl
    group_unreached k x (and_state t rest) f p i s =
        or_from _ _ (state_unreached k x t (nil_left _ _ f) p i (nil_left _ _ s))
        (group_unreached (k + length (state_sites es t)) (x + states_in t) rest (nil_right _ _ f) p i (nil_right _ _ s))

-- Where no path writes a memory twice, no body that a path comes to writes one after it was written.
module _ (ls : Levels) (levels : List (List ℕ)) (le : ℕ → ℕ → Bool) (es : List Entity) (w : World) (match : AllMatch es w.entities) where
  mutual
    once_state : (k x : ℕ) (group : StateList) (above : List (List ℕ)) (s : StateTree) → state_faults levels le (what_is es) s ≡ [] → state_shape es group above s ≡ []
        → (p : Written) → second_state s p ≡ [] → OnceState (state_of ls es k x s)
    once_state k x group above (state_node place name kind body children) f s p once =
        let h : Surroundings = record { entities = es; home = record { name = name.name; kind = kind; children = children } } in
        let g : Group = group_of ls es (k + length (block_sites h body)) (x + 1) children in
        let fitting : states_faults levels le (what_is es) children ≡ [] = nil_right _ _ f in
        let closing : closing_faults body ≡ [] = nil_left _ _ (nil_left _ _ s) in
        once_body ls levels h w match g (OnceGroup g) k body (nil_right _ _ (nil_left _ _ f)) (inr closing) p
        (once_within body children p once)
        (λ m j. group_unreached ls levels le es w match m (k + length (block_sites h body)) (x + 1) children fitting (found_in_block body p).entering j
        (once_down body children p once (enters (of_block body) (block_follows body) (name_at es m) p j)))
        (λ i. once_group (k + length (block_sites h body)) (x + 1) children (name.name ∷ above) children fitting (nil_right _ _ s) (found_in_block body p).entering
        (once_down body children p once i))

    pub once_group : (k x : ℕ) (group : StateList) (above : List (List ℕ)) (g : StateList) → states_faults levels le (what_is es) g ≡ []
        → states_shape es group above g ≡ [] → (p : Written) → second_states g p ≡ [] → OnceGroup (group_of ls es k x g)
    once_group k x group above no_state f s p once = tt
    once_group k x group above (and_state t rest) f s p once = (
      once_state k x group above t (nil_left _ _ f)
          (nil_left _ _ s) p (nil_left _ _ once),
      once_group (k + length (state_sites es t)) (x + states_in t) group above rest (nil_right _ _ f)
          (nil_right _ _ s) p (nil_right _ _ once),
    )
