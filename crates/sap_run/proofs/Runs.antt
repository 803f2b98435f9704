-- What the code's commands and states do, one at a time.
use Rattle.std.proofs.Common.{◌≡◌, ℕ, zero, suc, ◌+◌, ◌<◌, ◌≤◌, Bool, List, [], ◌∷◌, length, get_or, drop, refl, sym, ap, ◌∙◌, arith, add-one, inl, inr}
use Rattle.std.proofs.lemmas.Bool.{cases_Bool}
use Rattle.std.specs.declared.vec.Vec.{Vec}
use Rattle.std.specs.declared.alloc.Global.{Global}
use Rattle.sap_meaning.proofs.StoreLemmas.{and_stay}
use Rattle.sap_meaning.specs.Prelude.{within, World, last_arm, root, listed, test, Store, After, stay, and_then, attempt, attempt_then, select, is_constant, listed_alone, run, run_arms, run_block, run_state, run_child}
use Rattle.sap_meaning.specs.Program as program
use Rattle.sap_meaning.specs.Checks as checks
use Rattle.sap_program.specs.Prelude.{flags, term_of, step_of, block_of, arms_before, constants_of, group_of}
use Rattle.sap_program.specs.declared.program.Number.{Number}
use Rattle.sap_program.specs.declared.program.Step.{Step}
use Rattle.sap_program.specs.declared.program.Arm.{Arm}
use Rattle.sap_program.specs.declared.program.Command.{Command}
use Rattle.sap_program.specs.declared.program.State.{State, out-State}
use Rattle.sap_program.specs.declared.home.Home.{Home}
use Rattle.sap_program.specs.declared.program.Command.TheVariants as command
use Rattle.sap_program.specs.declared.program.Command.TheViews as shown
use Rattle.sap_store.specs.declared.environment.Environment.{Environment}
use Rattle.sap_store.specs.Able.{AbleStep, AbleTerm, AbleCommand, AbleArms, AbleBlock, AbleState, AbleGroup}
use Rattle.sap_store.specs.Code.{world_in, entities_in, home_in}
use Rattle.sap_run.specs.Runs.{entered, block_run, command_run, attempt_run, select_run, picked_in, choose_run, state_run, CommandAble, BlockAble, ArmsAble, StateAble, GroupAble}
use Rattle.sap_program.proofs.Shown.{command_of-do, command_of-try, command_of-if, command_of-then, command_of-case, state_of-out}

-- a step with nothing behind where it is accepted

nothing_behind : (w : World) (at : checks.Home) (enter : ℕ → ℕ → Store → After) (k : program.Step) (hangs : ℕ → Bool) (h : ℕ → Store → After) (pc : ℕ) (s : Store)
    → attempt (within w at enter) k hangs h pc s ≡ attempt_then (within w at enter) k hangs (λ p t. stay t) h pc s
unfolding attempt attempt_then
nothing_behind w at enter k hangs h pc s = elim (cases_Bool (test w at k pc s)) [ inl e ↦ rw e (sym (and_stay _)) | inr e ↦ rw e refl ]

module _ (d : Environment) (at : Home) (pc : ℕ) (s : Store) where
  pub run-do : (k : Step) (hang : List ℕ) → ((x : ℕ) → listed (flags (entities_in d) hang) x ≡ listed_alone (world_in d) (home_in d at) (step_of (entities_in d) k) x)
      → command_run d at (command.Do k) pc s ≡ attempt_run d at hang k [] [] pc s
  unfolding run command_run attempt_run block_run run_block block_of
  run-do k hang e =
      let same : listed (flags (entities_in d) hang) ≡ listed_alone (world_in d) (home_in d at) (step_of (entities_in d) k) = λ i x. e x i in
      rw (command_of-do (entities_in d) k)
      (ap (λ (h : ℕ → Bool). attempt (within (world_in d) (home_in d at) (entered d at.state at.children.now)) (step_of (entities_in d) k) h (λ p t. stay t) pc s) (sym same)
      ∙ nothing_behind (world_in d) (home_in d at) (entered d at.state at.children.now) (step_of (entities_in d) k) (listed (flags (entities_in d) hang)) (λ p t. stay t) pc s)

  pub run-try : (k : Step) (hang : List ℕ) (h : Vec Command Global) → command_run d at (shown.Try k hang h) pc s ≡ attempt_run d at hang k [] h.items pc s
  unfolding run command_run attempt_run block_run run_block block_of
  run-try k hang h =
      rw (command_of-try (entities_in d) k hang h)
      (nothing_behind (world_in d) (home_in d at) (entered d at.state at.children.now) (step_of (entities_in d) k) (listed (flags (entities_in d) hang))
      (run_block (within (world_in d) (home_in d at) (entered d at.state at.children.now)) (block_of (entities_in d) h.items)) pc s)

  pub run-then : (k : Step) (hang : List ℕ) (a b : Vec Command Global) → command_run d at (shown.TryThen k hang a b) pc s ≡ attempt_run d at hang k a.items b.items pc s
  unfolding run command_run attempt_run block_run
  run-then k hang a b = rw (command_of-then (entities_in d) k hang a b) refl

  pub run-if : (hang : List ℕ) (e : Number) (a b : Vec Command Global) → command_run d at (shown.If hang e a b) pc s ≡ select_run d at hang e a.items b.items pc s
  unfolding run command_run select_run block_run
  run-if hang e a b = rw (command_of-if (entities_in d) hang e a b) refl

  picked-run : (arms : List Arm) (last : List Command) (n p : ℕ) (t : Store)
      → run_arms (within (world_in d) (home_in d at) (entered d at.state at.children.now)) (arms_before (entities_in d) arms (last_arm (block_of (entities_in d) last))) n p t
      ≡ block_run d at (picked_in arms last n) p t
  unfolding run_arms arms_before block_run
  picked-run [] last n p t = refl
  picked-run (arm ∷ arms) last n p t = elim (cases_Bool (is_constant (constants_of arm) n)) [ inl e ↦ rw e refl | inr e ↦ rw e (picked-run arms last n p t) ]

  pub run-case : (hang : List ℕ) (e : Number) (arms : Vec Arm Global) (last : Vec Command Global)
      → command_run d at (shown.Case hang e arms last) pc s ≡ choose_run d at hang e arms.items last.items pc s
  unfolding run command_run choose_run select
  run-case hang e arms last = rw (command_of-case (entities_in d) hang e arms last) (picked-run arms.items last.items _ _ _)

  pub run-none : block_run d at [] pc s ≡ stay s
  unfolding run_block block_run block_of
  run-none = refl

  pub run-drop : (cs : List Command) (n : ℕ) (c : Command) → n < length cs
      → block_run d at (drop n cs) pc s ≡ and_then (command_run d at (get_or cs n c) pc s) (block_run d at (drop (n + 1) cs) pc)
  unfolding run_block block_run command_run block_of
  run-drop [] n c h = absurd (omega (arith, h))
  run-drop (b ∷ cs) zero c h = refl
  run-drop (b ∷ cs) (suc n) c h = let r = run-drop cs n c (omega (arith, h)) in simp (add-one) (simp (add-one) at r)

  pub run-past : (cs : List Command) (n : ℕ) → length cs ≤ n → block_run d at (drop n cs) pc s ≡ stay s
  unfolding run_block block_run block_of
  run-past [] zero h = refl
  run-past [] (suc n) h = refl
  run-past (c ∷ cs) zero h = absurd (omega (arith, h))
  run-past (c ∷ cs) (suc n) h = run-past cs n (omega (arith, h))

module _ (d : Environment) (p : ℕ) where
  pub entered-at : (kids : List State) (n pc : ℕ) (s : Store) (k : State) → n < length kids → entered d p kids n pc s ≡ state_run d p (get_or kids n k) pc s
  unfolding run_child entered state_run group_of
  entered-at [] n pc s k h = absurd (omega (arith, h))
  entered-at (j ∷ kids) zero pc s k h = refl
  entered-at (j ∷ kids) (suc n) pc s k h = entered-at kids n pc s k (omega (arith, h))

  pub entered-past : (kids : List State) (n pc : ℕ) (s : Store) → length kids ≤ n → entered d p kids n pc s ≡ stay s
  unfolding run_child entered group_of
  entered-past [] n pc s h = refl
  entered-past (j ∷ kids) zero pc s h = absurd (omega (arith, h))
  entered-past (j ∷ kids) (suc n) pc s h = entered-past kids n pc s (omega (arith, h))

  pub state_run-out : (k : State) (at : Home) (pc : ℕ) (s : Store) → at.state ≡ (out-State k).number → at.parent ≡ p → at.children.now ≡ (out-State k).children.items
      → state_run d p k pc s ≡ block_run d at (out-State k).body.items pc s
  unfolding run_state entered state_run block_run
  state_run-out k at pc s i j l = rw (state_of-out (entities_in d) k, i, j, l) refl

-- what they need

module _ (d : Environment) where
  pub able-do : (k : Step) → CommandAble d (command.Do k) → AbleStep (world_in d) (step_of (entities_in d) k)
  unfolding CommandAble AbleCommand
  able-do k h = rw (command_of-do (entities_in d) k) at h

  pub able-try : (k : Step) (hang : List ℕ) (h : Vec Command Global) → CommandAble d (shown.Try k hang h) → AbleStep (world_in d) (step_of (entities_in d) k) × BlockAble d h.items
  unfolding CommandAble AbleCommand BlockAble AbleBlock
  able-try k hang h a = rw (command_of-try (entities_in d) k hang h) at a

  pub able-if : (hang : List ℕ) (e : Number) (a b : Vec Command Global) → CommandAble d (shown.If hang e a b)
      → AbleTerm (world_in d) (term_of e) × BlockAble d a.items × BlockAble d b.items
  unfolding CommandAble AbleCommand BlockAble AbleBlock
  able-if hang e a b h = rw (command_of-if (entities_in d) hang e a b) at h

  pub able-then : (k : Step) (hang : List ℕ) (a b : Vec Command Global) → CommandAble d (shown.TryThen k hang a b)
      → AbleStep (world_in d) (step_of (entities_in d) k) × BlockAble d a.items × BlockAble d b.items
  unfolding CommandAble AbleCommand BlockAble AbleBlock
  able-then k hang a b h = rw (command_of-then (entities_in d) k hang a b) at h

  pub able-case : (hang : List ℕ) (e : Number) (arms : Vec Arm Global) (last : Vec Command Global) → CommandAble d (shown.Case hang e arms last)
      → AbleTerm (world_in d) (term_of e) × ArmsAble d arms.items last.items
  unfolding CommandAble AbleCommand ArmsAble AbleArms
  able-case hang e arms last h = rw (command_of-case (entities_in d) hang e arms last) at h

  pub able-picked : (arms : List Arm) (last : List Command) (n : ℕ) → ArmsAble d arms last → BlockAble d (picked_in arms last n)
  unfolding ArmsAble AbleArms BlockAble AbleBlock arms_before
  able-picked [] last n a = a
  able-picked (arm ∷ arms) last n a = elim (cases_Bool (is_constant (constants_of arm) n)) [ inl e ↦ rw e a.0 | inr e ↦ rw e (able-picked arms last n a.1) ]

  pub able-none : BlockAble d []
  unfolding BlockAble AbleBlock block_of
  able-none = tt

  pub able-in : (cs : List Command) (n : ℕ) (c : Command) → n < length cs → BlockAble d cs → CommandAble d (get_or cs n c)
  unfolding BlockAble AbleBlock CommandAble AbleCommand block_of
  able-in [] n c h a = absurd (omega (arith, h))
  able-in (b ∷ cs) zero c h a = a.0
  able-in (b ∷ cs) (suc n) c h a = able-in cs n c (omega (arith, h)) a.1

  pub able-child : (kids : List State) (n : ℕ) (k : State) → n < length kids → GroupAble d kids → StateAble d (get_or kids n k)
  unfolding GroupAble AbleGroup StateAble group_of
  able-child [] n k h a = absurd (omega (arith, h))
  able-child (j ∷ kids) zero k h a = a.0
  able-child (j ∷ kids) (suc n) k h a = able-child kids n k (omega (arith, h)) a.1

  pub able-state : (k : State) → StateAble d k → ((out-State k).number < root (world_in d)) × BlockAble d (out-State k).body.items × GroupAble d (out-State k).children.items
  unfolding StateAble AbleState BlockAble GroupAble
  able-state k h = rw (state_of-out (entities_in d) k) at h

pub ruleset commands = (run-do, run-try, run-if, run-then, run-case)

pub ruleset blocks = (run-none, run-drop, run-past)

pub ruleset states = (entered-at, entered-past, state_run-out)
