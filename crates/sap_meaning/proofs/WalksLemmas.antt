-- On what stands in Walks: what several crates cite.
use Rattle.sap_lemmas.proofs.Common.{◌≡◌, ℕ, Bool, true, false, ◌||◌, List, ◌∷◌, inl, inr, refl, sym, ap, ap₂, ◌∙◌, or_cases, or_from, true_is_not_false}
use Rattle.sap_lemmas.proofs.Bools.{either_follows}
use Rattle.sap_maps.specs.Term.{Term}
use Rattle.sap_meaning.specs.Program.{Step, Command, lone, try, if_else, try_then, case_of, Arms, last_arm, and_arm, Block, end_block, command_then}
use Rattle.sap_meaning.specs.Walks.{Every, EveryInArms, EveryInBlock, Asks, folded, folded_in_arms, folded_in_block, with_step, gathered, gathered_in_block, some, some_in_block, mapped, mapped_arms, mapped_block, arm_constants}

-- What is asked of each command follows from what is asked of it there, and of all that stands in it.
module _ (P R S : Command → Type 0) (follows : (c : Command) → Every P c → R c → S c) where
  mutual
    pub every_with : (c : Command) → Every P c → Every R c → Every S c
    every_with (lone k) p r = follows (lone k) p r
    every_with (try k hang b) p r = (follows (try k hang b) p r.0, every_with_in_block b p.1 r.1)
    every_with (if_else hang e a b) p r = (follows (if_else hang e a b) p r.0, every_with_in_block a p.1 r.1, every_with_in_block b p.2 r.2)
    every_with (try_then k hang a b) p r = (follows (try_then k hang a b) p r.0, every_with_in_block a p.1 r.1, every_with_in_block b p.2 r.2)
    every_with (case_of hang e arms) p r = (follows (case_of hang e arms) p r.0, every_with_in_arms arms p.1 r.1)

    pub every_with_in_arms : (arms : Arms) → EveryInArms P arms → EveryInArms R arms → EveryInArms S arms
    every_with_in_arms (last_arm b) p r = every_with_in_block b p r
    every_with_in_arms (and_arm constants b arms) p r = (every_with_in_block b p.0 r.0, every_with_in_arms arms p.1 r.1)

    pub every_with_in_block : (b : Block) → EveryInBlock P b → EveryInBlock R b → EveryInBlock S b
    every_with_in_block end_block p r = tt
    every_with_in_block (command_then c cs) p r = (every_with c p.0 r.0, every_with_in_block cs p.1 r.1)

module _ (P R : Command → Type 0) (follows : (c : Command) → P c → R c) where
  pub every_follows : (c : Command) → Every P c → Every R c
  every_follows c h = every_with P P R (λ d whole own. follows d own) c h h

  pub every_follows_in_arms : (arms : Arms) → EveryInArms P arms → EveryInArms R arms
  every_follows_in_arms arms h = every_with_in_arms P P R (λ d whole own. follows d own) arms h h

  pub every_follows_in_block : (b : Block) → EveryInBlock P b → EveryInBlock R b
  every_follows_in_block b h = every_with_in_block P P R (λ d whole own. follows d own) b h h

module _ (P R : Step → Type 0) (Q S : Term ℕ → Type 0) (step_follows : (k : Step) → P k → R k) (term_follows : (e : Term ℕ) → Q e → S e) where
  pub asks_follows : (c : Command) → Asks P Q c → Asks R S c
  asks_follows (lone k) h = step_follows k h
  asks_follows (try k hang b) h = step_follows k h
  asks_follows (if_else hang e a b) h = term_follows e h
  asks_follows (try_then k hang a b) h = step_follows k h
  asks_follows (case_of hang e arms) h = term_follows e h

-- two together give a third
module _ (P R S : Step → Type 0) (Q T U : Term ℕ → Type 0) (step_gives : (k : Step) → P k → R k → S k) (term_gives : (e : Term ℕ) → Q e → T e → U e) where
  asks_both : (c : Command) → Every (Asks P Q) c → Asks R T c → Asks S U c
  asks_both (lone k) p r = step_gives k p r
  asks_both (try k hang b) p r = step_gives k p.0 r
  asks_both (if_else hang e a b) p r = term_gives e p.0 r
  asks_both (try_then k hang a b) p r = step_gives k p.0 r
  asks_both (case_of hang e arms) p r = term_gives e p.0 r

  pub every_both_in_block : (b : Block) → EveryInBlock (Asks P Q) b → EveryInBlock (Asks R T) b → EveryInBlock (Asks S U) b
  every_both_in_block b p r = every_with_in_block (Asks P Q) (Asks R T) (Asks S U) asks_both b p r

-- Two folds are related where they are so at each command of which P holds, if its blocks' are, and joining keeps it.
module _ {A B : Type 0} (none : A) (join : A → A → A) (least : B) (meet : B → B → B) (Rel : A → B → Type 0) (at_none : Rel none least)
    (at_join : (a b : A) (c d : B) → Rel a c → Rel b d → Rel (join a b) (meet c d)) where
  module _ (P : Command → Type 0) (f : Command → A → A) (g : Command → B → B)
      (here : (c : Command) → P c → (a : A) (b : B) → Rel a b → Rel (f c a) (g c b)) where
    abbrev of_block : Block → A
    of_block b = folded_in_block none join f b

    abbrev to_block : Block → B
    to_block b = folded_in_block least meet g b

    mutual
      pub folded_related : (c : Command) → Every P c → Rel (folded none join f c) (folded least meet g c)
      folded_related (lone k) h = here (lone k) h none least at_none
      folded_related (try k hang b) h = here (try k hang b) h.0 (of_block b) (to_block b) (folded_in_block_related b h.1)
      folded_related (if_else hang e a b) h =
          here (if_else hang e a b) h.0 (join (of_block a) (of_block b)) (meet (to_block a) (to_block b))
          (at_join (of_block a) (of_block b) (to_block a) (to_block b) (folded_in_block_related a h.1) (folded_in_block_related b h.2))
      folded_related (try_then k hang a b) h =
          here (try_then k hang a b) h.0 (join (of_block a) (of_block b)) (meet (to_block a) (to_block b))
          (at_join (of_block a) (of_block b) (to_block a) (to_block b) (folded_in_block_related a h.1) (folded_in_block_related b h.2))
      folded_related (case_of hang e arms) h =
          here (case_of hang e arms) h.0 (folded_in_arms none join f arms) (folded_in_arms least meet g arms) (folded_in_arms_related arms h.1)

      folded_in_arms_related : (arms : Arms) → EveryInArms P arms → Rel (folded_in_arms none join f arms) (folded_in_arms least meet g arms)
      folded_in_arms_related (last_arm b) h = folded_in_block_related b h
      folded_in_arms_related (and_arm constants b arms) h =
          at_join (of_block b) (folded_in_arms none join f arms) (to_block b) (folded_in_arms least meet g arms) (folded_in_block_related b h.0)
          (folded_in_arms_related arms h.1)

      pub folded_in_block_related : (b : Block) → EveryInBlock P b → Rel (of_block b) (to_block b)
      folded_in_block_related end_block h = at_none
      folded_in_block_related (command_then c cs) h =
          at_join (folded none join f c) (of_block cs) (folded least meet g c) (to_block cs) (folded_related c h.0) (folded_in_block_related cs h.1)

  -- So are two things that are gathered, where they are at each step of which P holds.
  module _ (P : Step → Type 0) (Q : Term ℕ → Type 0) (f : Step → A) (g : Step → B) (at_step : (k : Step) → P k → Rel (f k) (g k)) where
    with_step_related : (c : Command) → Asks P Q c → (a : A) (b : B) → Rel a b → Rel (with_step none join f c a) (with_step least meet g c b)
    with_step_related (lone k) h a b r = at_step k h
    with_step_related (try k hang i) h a b r = at_join (f k) a (g k) b (at_step k h) r
    with_step_related (try_then k hang i j) h a b r = at_join (f k) a (g k) b (at_step k h) r
    with_step_related _ h a b r = r

    pub gathered_related : (c : Command) → Every (Asks P Q) c → Rel (gathered none join f c) (gathered least meet g c)
    gathered_related c h = folded_related (Asks P Q) (with_step none join f) (with_step least meet g) with_step_related c h

    pub gathered_in_block_related : (b : Block) → EveryInBlock (Asks P Q) b → Rel (gathered_in_block none join f b) (gathered_in_block least meet g b)
    gathered_in_block_related b h = folded_in_block_related (Asks P Q) (with_step none join f) (with_step least meet g) with_step_related b h

-- where no step of which P holds passes p, none does
module _ (P : Step → Type 0) (Q : Term ℕ → Type 0) (p : Step → Bool) (fails : (k : Step) → P k → p k ≡ false) where
  pub none_passes : (c : Command) → Every (Asks P Q) c → some p c ≡ false
  none_passes c h = gathered_related false ◌||◌ false ◌||◌ (λ a b. a ≡ false) refl (λ a b c' d i j. or_from a b i j) P Q p p fails c h

  pub none_passes_in_block : (b : Block) → EveryInBlock (Asks P Q) b → some_in_block p b ≡ false
  none_passes_in_block b h = gathered_in_block_related false ◌||◌ false ◌||◌ (λ a b'. a ≡ false) refl (λ a b' c d i j. or_from a b' i j) P Q p p fails b h

-- Where a step of which P holds, and which passes p, gives C, some step that passes p gives it.
module _ (P : Step → Type 0) (Q : Term ℕ → Type 0) (p : Step → Bool) (C : Type 0) (gives : (k : Step) → P k → p k ≡ true → C) where
  abbrev Gives : Bool → Bool → Type 0
  Gives a b = a ≡ true → C

  either : (a b c d : Bool) → Gives a c → Gives b d → Gives (a || b) (c || d)
  either a b c d f g h = elim (or_cases a b h) [ inl i ↦ f i | inr i ↦ g i ]

  never : Gives false false
  never h = absurd (true_is_not_false (sym h))

  pub some_gives : (c : Command) → Every (Asks P Q) c → some p c ≡ true → C
  some_gives c h = gathered_related false ◌||◌ false ◌||◌ Gives never either P Q p p gives c h

  pub some_in_block_gives : (b : Block) → EveryInBlock (Asks P Q) b → some_in_block p b ≡ true → C
  some_in_block_gives b h = gathered_in_block_related false ◌||◌ false ◌||◌ Gives never either P Q p p gives b h

-- Where a step of which P holds, and which passes p, passes q, some step passes q where some step passes p.
module _ (P : Step → Type 0) (Q : Term ℕ → Type 0) (p q : Step → Bool) (passes : (k : Step) → P k → p k ≡ true → q k ≡ true) where
  abbrev Then : Bool → Bool → Type 0
  Then a b = a ≡ true → b ≡ true

  either_then : (a b c d : Bool) → Then a c → Then b d → Then (a || b) (c || d)
  either_then a b c d f g h = either_follows a b c d f g h

  pub some_follows : (c : Command) → Every (Asks P Q) c → some p c ≡ true → some q c ≡ true
  some_follows c h = gathered_related false ◌||◌ false ◌||◌ Then (λ e. e) either_then P Q p q passes c h

  pub some_follows_in_block : (b : Block) → EveryInBlock (Asks P Q) b → some_in_block p b ≡ true → some_in_block q b ≡ true
  some_follows_in_block b h = gathered_in_block_related false ◌||◌ false ◌||◌ Then (λ e. e) either_then P Q p q passes b h

-- what holds of each command
module _ (P : Command → Type 0) (holds : (c : Command) → P c) where
  mutual
    pub every_holds : (c : Command) → Every P c
    every_holds (lone k) = holds (lone k)
    every_holds (try k hang h) = (holds (try k hang h), every_holds_in_block h)
    every_holds (if_else hang e a b) = (holds (if_else hang e a b), every_holds_in_block a, every_holds_in_block b)
    every_holds (try_then k hang a b) = (holds (try_then k hang a b), every_holds_in_block a, every_holds_in_block b)
    every_holds (case_of hang e arms) = (holds (case_of hang e arms), every_holds_in_arms arms)

    every_holds_in_arms : (arms : Arms) → EveryInArms P arms
    every_holds_in_arms (last_arm b) = every_holds_in_block b
    every_holds_in_arms (and_arm constants b arms) = (every_holds_in_block b, every_holds_in_arms arms)

    pub every_holds_in_block : (b : Block) → EveryInBlock P b
    every_holds_in_block end_block = tt
    every_holds_in_block (command_then c cs) = (every_holds c, every_holds_in_block cs)

-- nothing is asked
abbrev Nothing : Command → Type 0
Nothing c = Asks (λ k. Unit {0}) (λ e. Unit {0}) c

asks_nothing : (c : Command) → Nothing c
asks_nothing (lone k) = tt
asks_nothing _ = tt

-- of each step alone
module _ {A B : Type 0} (none : A) (join : A → A → A) (least : B) (meet : B → B → B) (Rel : A → B → Type 0) (at_none : Rel none least)
    (at_join : (a b : A) (c d : B) → Rel a c → Rel b d → Rel (join a b) (meet c d)) (f : Step → A) (g : Step → B) (at_step : (k : Step) → Rel (f k) (g k)) where
  pub gathered_alike : (c : Command) → Rel (gathered none join f c) (gathered least meet g c)
  gathered_alike c =
      gathered_related none join least meet Rel at_none at_join (λ k. Unit {0}) (λ e. Unit {0}) f g (λ k u. at_step k) c (every_holds Nothing asks_nothing c)

  pub gathered_in_block_alike : (b : Block) → Rel (gathered_in_block none join f b) (gathered_in_block least meet g b)
  gathered_in_block_alike b =
      gathered_in_block_related none join least meet Rel at_none at_join (λ k. Unit {0}) (λ e. Unit {0}) f g (λ k u. at_step k) b
      (every_holds_in_block Nothing asks_nothing b)

-- a step that passes p passes q, and so it is with commands
pub passes_follow : (p q : Step → Bool) → ((k : Step) → p k ≡ true → q k ≡ true) → (c : Command) → some p c ≡ true → some q c ≡ true
passes_follow p q f c h =
    gathered_alike false ◌||◌ false ◌||◌ (λ (a b : Bool). a ≡ true → b ≡ true) (λ e. e) (λ a b x y i j. either_follows a b x y i j) p q f c h

-- A map of what is gathered is gathered from the maps.
module _ {A B : Type 0} (none : A) (join : A → A → A) (least : B) (meet : B → B → B) (through : A → B) (at_none : through none ≡ least)
    (at_join : (a b : A) → through (join a b) ≡ meet (through a) (through b)) (f : Step → A) where
  joins : (a b : A) (c d : B) → through a ≡ c → through b ≡ d → through (join a b) ≡ meet c d
  joins a b c d p q = at_join a b ∙ ap₂ meet p q

  pub gathered_in_block_through : (b : Block) → through (gathered_in_block none join f b) ≡ gathered_in_block least meet (λ k. through (f k)) b
  gathered_in_block_through b =
      gathered_in_block_alike none join least meet (λ x y. through x ≡ y) at_none joins f (λ k. through (f k)) (λ k. refl) b

-- With other steps and other lists of what hangs: ..
module _ (step : Step → Step) (list : Command → List Bool) where
  -- .. a fold is one over the other commands;
  module _ {A : Type 0} (none : A) (join : A → A → A) where
    module _ (f g : Command → A → A) (same : (c : Command) (a : A) → f (mapped step list c) a ≡ g c a) where
      here : (c : Command) (a b : A) → a ≡ b → f (mapped step list c) a ≡ g c b
      here c a b e = same c a ∙ ap (g c) e

      mutual
        pub folded_mapped : (c : Command) → folded none join f (mapped step list c) ≡ folded none join g c
        folded_mapped (lone k) = same (lone k) none
        folded_mapped (try k hang h) = here (try k hang h) _ _ (folded_mapped_block h)
        folded_mapped (if_else hang e a b) = here (if_else hang e a b) _ _ (λ i. join (folded_mapped_block a i) (folded_mapped_block b i))
        folded_mapped (try_then k hang a b) = here (try_then k hang a b) _ _ (λ i. join (folded_mapped_block a i) (folded_mapped_block b i))
        folded_mapped (case_of hang e arms) = here (case_of hang e arms) _ _ (folded_mapped_arms arms)

        folded_mapped_arms : (arms : Arms) → folded_in_arms none join f (mapped_arms step list arms) ≡ folded_in_arms none join g arms
        folded_mapped_arms (last_arm b) = folded_mapped_block b
        folded_mapped_arms (and_arm constants b arms) = λ i. join (folded_mapped_block b i) (folded_mapped_arms arms i)

        pub folded_mapped_block : (b : Block) → folded_in_block none join f (mapped_block step list b) ≡ folded_in_block none join g b
        folded_mapped_block end_block = refl
        folded_mapped_block (command_then c cs) = λ i. join (folded_mapped c i) (folded_mapped_block cs i)

    module _ (f g : Step → A) (same : (k : Step) → f (step k) ≡ g k) where
      with_step_mapped : (c : Command) (a : A) → with_step none join f (mapped step list c) a ≡ with_step none join g c a
      with_step_mapped (lone k) a = same k
      with_step_mapped (try k hang h) a = λ i. join (same k i) a
      with_step_mapped (try_then k hang b d) a = λ i. join (same k i) a
      with_step_mapped _ a = refl

      pub gathered_mapped : (c : Command) → gathered none join f (mapped step list c) ≡ gathered none join g c
      gathered_mapped c = folded_mapped (with_step none join f) (with_step none join g) with_step_mapped c

      pub gathered_mapped_block : (b : Block) → gathered_in_block none join f (mapped_block step list b) ≡ gathered_in_block none join g b
      gathered_mapped_block b = folded_mapped_block (with_step none join f) (with_step none join g) with_step_mapped b

  -- .. the constants of arms stay,
  pub constants_mapped : (arms : Arms) → arm_constants (mapped_arms step list arms) ≡ arm_constants arms
  constants_mapped (last_arm b) = refl
  constants_mapped (and_arm constants b arms) = λ i. constants ∷ constants_mapped arms i

  -- .. what is asked of each command follows from what was asked of it, ..
  module _ (P R : Command → Type 0) (follows : (c : Command) → P c → R (mapped step list c)) where
    mutual
      pub every_mapped : (c : Command) → Every P c → Every R (mapped step list c)
      every_mapped (lone k) h = follows (lone k) h
      every_mapped (try k hang b) h = (follows (try k hang b) h.0, every_mapped_block b h.1)
      every_mapped (if_else hang e a b) h = (follows (if_else hang e a b) h.0, every_mapped_block a h.1, every_mapped_block b h.2)
      every_mapped (try_then k hang a b) h = (follows (try_then k hang a b) h.0, every_mapped_block a h.1, every_mapped_block b h.2)
      every_mapped (case_of hang e arms) h = (follows (case_of hang e arms) h.0, every_mapped_arms arms h.1)

      every_mapped_arms : (arms : Arms) → EveryInArms P arms → EveryInArms R (mapped_arms step list arms)
      every_mapped_arms (last_arm b) h = every_mapped_block b h
      every_mapped_arms (and_arm constants b arms) h = (every_mapped_block b h.0, every_mapped_arms arms h.1)

      pub every_mapped_block : (b : Block) → EveryInBlock P b → EveryInBlock R (mapped_block step list b)
      every_mapped_block end_block h = h
      every_mapped_block (command_then c cs) h = (every_mapped c h.0, every_mapped_block cs h.1)

  -- .. and the other way round.
  module _ (P R : Command → Type 0) (follows : (c : Command) → R (mapped step list c) → P c) where
    mutual
      pub every_unmapped : (c : Command) → Every R (mapped step list c) → Every P c
      every_unmapped (lone k) h = follows (lone k) h
      every_unmapped (try k hang b) h = (follows (try k hang b) h.0, every_unmapped_block b h.1)
      every_unmapped (if_else hang e a b) h = (follows (if_else hang e a b) h.0, every_unmapped_block a h.1, every_unmapped_block b h.2)
      every_unmapped (try_then k hang a b) h = (follows (try_then k hang a b) h.0, every_unmapped_block a h.1, every_unmapped_block b h.2)
      every_unmapped (case_of hang e arms) h = (follows (case_of hang e arms) h.0, every_unmapped_arms arms h.1)

      every_unmapped_arms : (arms : Arms) → EveryInArms R (mapped_arms step list arms) → EveryInArms P arms
      every_unmapped_arms (last_arm b) h = every_unmapped_block b h
      every_unmapped_arms (and_arm constants b arms) h = (every_unmapped_block b h.0, every_unmapped_arms arms h.1)

      pub every_unmapped_block : (b : Block) → EveryInBlock R (mapped_block step list b) → EveryInBlock P b
      every_unmapped_block end_block h = h
      every_unmapped_block (command_then c cs) h = (every_unmapped c h.0, every_unmapped_block cs h.1)

  module _ (P R : Step → Type 0) (Q S : Term ℕ → Type 0) where
    pub asks_mapped : ((k : Step) → P k → R (step k)) → ((e : Term ℕ) → Q e → S e) → (c : Command) → Asks P Q c → Asks R S (mapped step list c)
    asks_mapped f g (lone k) h = f k h
    asks_mapped f g (try k hang b) h = f k h
    asks_mapped f g (if_else hang e a b) h = g e h
    asks_mapped f g (try_then k hang a b) h = f k h
    asks_mapped f g (case_of hang e arms) h = g e h

    pub asks_unmapped : ((k : Step) → R (step k) → P k) → ((e : Term ℕ) → S e → Q e) → (c : Command) → Asks R S (mapped step list c) → Asks P Q c
    asks_unmapped f g (lone k) h = f k h
    asks_unmapped f g (try k hang b) h = f k h
    asks_unmapped f g (if_else hang e a b) h = g e h
    asks_unmapped f g (try_then k hang a b) h = f k h
    asks_unmapped f g (case_of hang e arms) h = g e h
