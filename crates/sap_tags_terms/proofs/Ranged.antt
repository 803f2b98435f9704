-- The parts of commands and states whose widths are in range have their widths in range too.
use Rattle.sap_lemmas.proofs.Common.{◌≡◌, ℕ, zero, suc, ◌<◌, List, [], ◌∷◌, length, get_or, sym, ap, ◌∙◌, subst, arith, Vec, Global}
use Rattle.sap_meaning.specs.Program.{Arms, last_arm, end_block}
use Rattle.sap_program.specs.Views.{term_of, step_of, commands_in, arms_before, command_of, block_of, group_of}
use Rattle.sap_program.specs.declared.program.Number.{Number}
use Rattle.sap_program.specs.declared.program.Step.{Step}
use Rattle.sap_program.specs.declared.program.Arm.{Arm}
use Rattle.sap_program.specs.declared.program.Command.{Command}
use Rattle.sap_program.specs.declared.program.State.{State as StateCode, out-State}
use Rattle.sap_program.specs.declared.program.Command.TheVariants as command
use Rattle.sap_program.specs.declared.program.Command.TheViews as shown
use Rattle.sap_resolved.specs.Sized.Ranges.{Ranged, RangedArms, RangedBlock, RangedStep, RangedTerm, RangedState, RangedGroup}
use Rattle.sap_tags_terms.specs.Parts.{ArmsRanged, CommandRanged, CommandsRanged, StateRanged, StatesRanged}
use Rattle.sap_tags_terms.specs.Code.{entities_in, world_in}
use Rattle.sap_tags_terms.specs.declared.setting.Setting.{Setting}
use Rattle.sap_program.proofs.Shown.{command_of-do, command_of-try, command_of-if, command_of-then, command_of-case, state_of-out}

module _ (s : Setting) where
  -- commands

  pub ranged_do : (c : Command) (st : Step) → c ≡ command.Do st → CommandRanged s c → RangedStep (world_in s) (step_of (entities_in s) st)
  unfolding CommandRanged
  ranged_do c st e r = subst (Ranged (world_in s)) (ap (command_of (entities_in s)) e ∙ command_of-do (entities_in s) st) r

  ranged_try : (c : Command) (st : Step) (hang : List ℕ) (hs : Vec Command Global) → c ≡ shown.Try st hang hs → CommandRanged s c
      → RangedStep (world_in s) (step_of (entities_in s) st) × RangedBlock (world_in s) (block_of (entities_in s) hs.items)
  unfolding CommandRanged
  ranged_try c st hang hs e r = subst (Ranged (world_in s)) (ap (command_of (entities_in s)) e ∙ command_of-try (entities_in s) st hang hs) r

  pub ranged_try_step : (c : Command) (st : Step) (hang : List ℕ) (hs : Vec Command Global) → c ≡ shown.Try st hang hs → CommandRanged s c
      → RangedStep (world_in s) (step_of (entities_in s) st)
  ranged_try_step c st hang hs e r = (ranged_try c st hang hs e r).0

  pub ranged_handler : (c : Command) (st : Step) (hang : List ℕ) (hs : Vec Command Global) (hl : List Command) → c ≡ shown.Try st hang hs
      → hl ≡ hs.items → CommandRanged s c → CommandsRanged s hl
  unfolding CommandsRanged
  ranged_handler c st hang hs hl e f r = subst (λ (l : List Command). RangedBlock (world_in s) (block_of (entities_in s) l)) (sym f) (ranged_try c st hang hs e r).1

  ranged_if : (c : Command) (hang : List ℕ) (e : Number) (ys ns : Vec Command Global) → c ≡ shown.If hang e ys ns → CommandRanged s c
      → RangedTerm (world_in s) (term_of e) × RangedBlock (world_in s) (block_of (entities_in s) ys.items) × RangedBlock (world_in s) (block_of (entities_in s) ns.items)
  unfolding CommandRanged
  ranged_if c hang e ys ns i r = subst (Ranged (world_in s)) (ap (command_of (entities_in s)) i ∙ command_of-if (entities_in s) hang e ys ns) r

  pub ranged_condition : (c : Command) (hang : List ℕ) (e : Number) (ys ns : Vec Command Global) → c ≡ shown.If hang e ys ns
      → CommandRanged s c → RangedTerm (world_in s) (term_of e)
  ranged_condition c hang e ys ns i r = (ranged_if c hang e ys ns i r).0

  pub ranged_yes : (c : Command) (hang : List ℕ) (e : Number) (ys ns : Vec Command Global) (l : List Command) → c ≡ shown.If hang e ys ns
      → l ≡ ys.items → CommandRanged s c → CommandsRanged s l
  unfolding CommandsRanged
  ranged_yes c hang e ys ns l i f r = subst (λ (l : List Command). RangedBlock (world_in s) (block_of (entities_in s) l)) (sym f) (ranged_if c hang e ys ns i r).1

  pub ranged_no : (c : Command) (hang : List ℕ) (e : Number) (ys ns : Vec Command Global) (l : List Command) → c ≡ shown.If hang e ys ns
      → l ≡ ns.items → CommandRanged s c → CommandsRanged s l
  unfolding CommandsRanged
  ranged_no c hang e ys ns l i f r = subst (λ (l : List Command). RangedBlock (world_in s) (block_of (entities_in s) l)) (sym f) (ranged_if c hang e ys ns i r).2

  ranged_then : (c : Command) (st : Step) (hang : List ℕ) (ys ns : Vec Command Global) → c ≡ shown.TryThen st hang ys ns → CommandRanged s c
      → RangedStep (world_in s) (step_of (entities_in s) st) × RangedBlock (world_in s) (block_of (entities_in s) ys.items)
      × RangedBlock (world_in s) (block_of (entities_in s) ns.items)
  unfolding CommandRanged
  ranged_then c st hang ys ns i r = subst (Ranged (world_in s)) (ap (command_of (entities_in s)) i ∙ command_of-then (entities_in s) st hang ys ns) r

  pub ranged_then_step : (c : Command) (st : Step) (hang : List ℕ) (ys ns : Vec Command Global) → c ≡ shown.TryThen st hang ys ns
      → CommandRanged s c → RangedStep (world_in s) (step_of (entities_in s) st)
  ranged_then_step c st hang ys ns i r = (ranged_then c st hang ys ns i r).0

  pub ranged_accepted : (c : Command) (st : Step) (hang : List ℕ) (ys ns : Vec Command Global) (l : List Command)
      → c ≡ shown.TryThen st hang ys ns → l ≡ ys.items → CommandRanged s c → CommandsRanged s l
  unfolding CommandsRanged
  ranged_accepted c st hang ys ns l i f r = subst (λ (l : List Command). RangedBlock (world_in s) (block_of (entities_in s) l)) (sym f) (ranged_then c st hang ys ns i r).1

  pub ranged_refused : (c : Command) (st : Step) (hang : List ℕ) (ys ns : Vec Command Global) (l : List Command)
      → c ≡ shown.TryThen st hang ys ns → l ≡ ns.items → CommandRanged s c → CommandsRanged s l
  unfolding CommandsRanged
  ranged_refused c st hang ys ns l i f r = subst (λ (l : List Command). RangedBlock (world_in s) (block_of (entities_in s) l)) (sym f) (ranged_then c st hang ys ns i r).2

  ranged_before : (arms : List Arm) (others : Arms) → RangedArms (world_in s) (arms_before (entities_in s) arms others)
      → RangedArms (world_in s) (arms_before (entities_in s) arms (last_arm end_block)) × RangedArms (world_in s) others
  unfolding arms_before
  ranged_before [] others r = (tt, r)
  ranged_before (a ∷ arms) others r = let q = ranged_before arms others r.1 in ((r.0, q.0), q.1)

  ranged_case : (c : Command) (hang : List ℕ) (e : Number) (arms : Vec Arm Global) (cs : Vec Command Global) → c ≡ shown.Case hang e arms cs → CommandRanged s c
      → RangedTerm (world_in s) (term_of e) × RangedArms (world_in s) (arms_before (entities_in s) arms.items (last_arm (block_of (entities_in s) cs.items)))
  unfolding CommandRanged
  ranged_case c hang e arms cs i r = subst (Ranged (world_in s)) (ap (command_of (entities_in s)) i ∙ command_of-case (entities_in s) hang e arms cs) r

  pub ranged_number : (c : Command) (hang : List ℕ) (e : Number) (arms : Vec Arm Global) (cs : Vec Command Global)
      → c ≡ shown.Case hang e arms cs → CommandRanged s c → RangedTerm (world_in s) (term_of e)
  ranged_number c hang e arms cs i r = (ranged_case c hang e arms cs i r).0

  pub ranged_arms : (c : Command) (hang : List ℕ) (e : Number) (arms : Vec Arm Global) (cs : Vec Command Global) (l : List Arm)
      → c ≡ shown.Case hang e arms cs → l ≡ arms.items → CommandRanged s c → ArmsRanged s l
  unfolding ArmsRanged
  ranged_arms c hang e arms cs l i f r =
      subst (λ (l : List Arm). RangedArms (world_in s) (arms_before (entities_in s) l (last_arm end_block))) (sym f)
      (ranged_before arms.items (last_arm (block_of (entities_in s) cs.items)) (ranged_case c hang e arms cs i r).1).0

  pub ranged_last : (c : Command) (hang : List ℕ) (e : Number) (arms : Vec Arm Global) (cs : Vec Command Global) (l : List Command)
      → c ≡ shown.Case hang e arms cs → l ≡ cs.items → CommandRanged s c → CommandsRanged s l
  unfolding CommandsRanged
  ranged_last c hang e arms cs l i f r =
      subst (λ (l : List Command). RangedBlock (world_in s) (block_of (entities_in s) l)) (sym f)
      (ranged_before arms.items (last_arm (block_of (entities_in s) cs.items)) (ranged_case c hang e arms cs i r).1).1

  pub ranged_arm : (arms : List Arm) (i : ℕ) (e : Arm) → i < length arms → ArmsRanged s arms → CommandsRanged s (commands_in (get_or arms i e))
  unfolding ArmsRanged CommandsRanged arms_before
  ranged_arm [] i e l r = absurd (omega arith)
  ranged_arm (a ∷ arms) zero e l r = r.0
  ranged_arm (a ∷ arms) (suc i) e l r = ranged_arm arms i e (omega arith) r.1

  pub ranged_in : (cs : List Command) (i : ℕ) (e : Command) → i < length cs → CommandsRanged s cs → CommandRanged s (get_or cs i e)
  unfolding CommandsRanged CommandRanged block_of
  ranged_in [] i e l r = absurd (omega arith)
  ranged_in (c ∷ cs) zero e l r = r.0
  ranged_in (c ∷ cs) (suc i) e l r = ranged_in cs i e (omega arith) r.1

  -- states

  ranged_state : (t : StateCode) → StateRanged s t → RangedBlock (world_in s) (block_of (entities_in s) (out-State t).body.items)
      × RangedGroup (world_in s) (group_of (entities_in s) (out-State t).children.items)
  unfolding StateRanged
  ranged_state t r = subst (RangedState (world_in s)) (state_of-out (entities_in s) t) r

  pub ranged_body : (t : StateCode) (l : List Command) → l ≡ (out-State t).body.items → StateRanged s t → CommandsRanged s l
  unfolding CommandsRanged
  ranged_body t l e r = subst (λ (l : List Command). RangedBlock (world_in s) (block_of (entities_in s) l)) (sym e) (ranged_state t r).0

  pub ranged_children : (t : StateCode) (l : List StateCode) → l ≡ (out-State t).children.items → StateRanged s t → StatesRanged s l
  unfolding StatesRanged
  ranged_children t l e r = subst (λ (l : List StateCode). RangedGroup (world_in s) (group_of (entities_in s) l)) (sym e) (ranged_state t r).1

  pub ranged_one : (ts : List StateCode) (i : ℕ) (e : StateCode) → i < length ts → StatesRanged s ts → StateRanged s (get_or ts i e)
  unfolding StatesRanged StateRanged group_of
  ranged_one [] i e l r = absurd (omega arith)
  ranged_one (t ∷ ts) zero e l r = r.0
  ranged_one (t ∷ ts) (suc i) e l r = ranged_one ts i e (omega arith) r.1

  pub ranged_all : (ts : List StateCode) → RangedGroup (world_in s) (group_of (entities_in s) ts) → StatesRanged s ts
  unfolding StatesRanged
  ranged_all ts r = r
