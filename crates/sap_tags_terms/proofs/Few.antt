-- The parts of commands and states whose cases have few arms have few arms too.
use Rattle.sap_lemmas.proofs.Common.{◌≡◌, ℕ, zero, suc, ◌<◌, ◌≤◌, List, [], ◌∷◌, length, get_or, sym, ap, ◌∙◌, subst, arith, Vec, Global}
use Rattle.sap_tree.specs.Limits.{most_arms}
use Rattle.sap_meaning.specs.Program.{Arms, last_arm, end_block}
use Rattle.sap_program.specs.Views.{commands_in, arms_before, command_of, block_of, group_of}
use Rattle.sap_program.specs.declared.program.Number.{Number}
use Rattle.sap_program.specs.declared.program.Step.{Step}
use Rattle.sap_program.specs.declared.program.Arm.{Arm}
use Rattle.sap_program.specs.declared.program.Command.{Command}
use Rattle.sap_program.specs.declared.program.State.{State as StateCode, out-State}
use Rattle.sap_program.specs.declared.program.Command.TheViews as shown
use Rattle.sap_tags_terms.specs.Parts.{ArmsFew, CommandFew, CommandsFew, StateFew, StatesFew}
use Rattle.sap_tagged.specs.Prelude.{arm_count, Few, FewArms, FewBlock, FewState, FewGroup}
use Rattle.sap_program.proofs.Shown.{command_of-try, command_of-if, command_of-then, command_of-case, state_of-out}
use Rattle.sap_tags_terms.proofs.Alone.{counted}

-- commands

pub few_handler : (c : Command) (st : Step) (hang : List ℕ) (hs : Vec Command Global) (l : List Command) → c ≡ shown.Try st hang hs → l ≡ hs.items → CommandFew c → CommandsFew l
unfolding CommandFew CommandsFew
few_handler c st hang hs l i f r = subst (λ (l : List Command). FewBlock (block_of 0 l)) (sym f) (subst Few (ap (command_of 0) i ∙ command_of-try 0 st hang hs) r).1

few_if : (c : Command) (hang : List ℕ) (e : Number) (ys ns : Vec Command Global) → c ≡ shown.If hang e ys ns → CommandFew c
    → FewBlock (block_of 0 ys.items) × FewBlock (block_of 0 ns.items)
unfolding CommandFew
few_if c hang e ys ns i r = let q = subst Few (ap (command_of 0) i ∙ command_of-if 0 hang e ys ns) r in (q.1, q.2)

pub few_yes : (c : Command) (hang : List ℕ) (e : Number) (ys ns : Vec Command Global) (l : List Command) → c ≡ shown.If hang e ys ns → l ≡ ys.items → CommandFew c → CommandsFew l
unfolding CommandsFew
few_yes c hang e ys ns l i f r = subst (λ (l : List Command). FewBlock (block_of 0 l)) (sym f) (few_if c hang e ys ns i r).0

pub few_no : (c : Command) (hang : List ℕ) (e : Number) (ys ns : Vec Command Global) (l : List Command) → c ≡ shown.If hang e ys ns → l ≡ ns.items → CommandFew c → CommandsFew l
unfolding CommandsFew
few_no c hang e ys ns l i f r = subst (λ (l : List Command). FewBlock (block_of 0 l)) (sym f) (few_if c hang e ys ns i r).1

few_then : (c : Command) (st : Step) (hang : List ℕ) (ys ns : Vec Command Global) → c ≡ shown.TryThen st hang ys ns → CommandFew c
    → FewBlock (block_of 0 ys.items) × FewBlock (block_of 0 ns.items)
unfolding CommandFew
few_then c st hang ys ns i r = let q = subst Few (ap (command_of 0) i ∙ command_of-then 0 st hang ys ns) r in (q.1, q.2)

pub few_accepted : (c : Command) (st : Step) (hang : List ℕ) (ys ns : Vec Command Global) (l : List Command)
    → c ≡ shown.TryThen st hang ys ns → l ≡ ys.items → CommandFew c → CommandsFew l
unfolding CommandsFew
few_accepted c st hang ys ns l i f r = subst (λ (l : List Command). FewBlock (block_of 0 l)) (sym f) (few_then c st hang ys ns i r).0

pub few_refused : (c : Command) (st : Step) (hang : List ℕ) (ys ns : Vec Command Global) (l : List Command)
    → c ≡ shown.TryThen st hang ys ns → l ≡ ns.items → CommandFew c → CommandsFew l
unfolding CommandsFew
few_refused c st hang ys ns l i f r = subst (λ (l : List Command). FewBlock (block_of 0 l)) (sym f) (few_then c st hang ys ns i r).1

few_before : (n : ℕ) (arms : List Arm) (others : Arms) → FewArms (arms_before n arms others) → FewArms (arms_before n arms (last_arm end_block)) × FewArms others
unfolding arms_before
few_before n [] others r = (tt, r)
few_before n (a ∷ arms) others r = let q = few_before n arms others r.1 in ((r.0, q.0), q.1)

few_case : (c : Command) (hang : List ℕ) (e : Number) (arms : Vec Arm Global) (cs : Vec Command Global) → c ≡ shown.Case hang e arms cs → CommandFew c
    → (let all = arms_before 0 arms.items (last_arm (block_of 0 cs.items)) in (arm_count all ≤ most_arms) × FewArms all)
unfolding CommandFew
few_case c hang e arms cs i r = let q = subst Few (ap (command_of 0) i ∙ command_of-case 0 hang e arms cs) r in (q.0.0, q.1)

pub few_arms : (c : Command) (hang : List ℕ) (e : Number) (arms : Vec Arm Global) (cs : Vec Command Global) (l : List Arm)
    → c ≡ shown.Case hang e arms cs → l ≡ arms.items → CommandFew c → ArmsFew l
unfolding ArmsFew
few_arms c hang e arms cs l i f r =
    subst (λ (l : List Arm). FewArms (arms_before 0 l (last_arm end_block))) (sym f) (few_before 0 arms.items (last_arm (block_of 0 cs.items)) (few_case c hang e arms cs i r).1).0

pub few_count : (c : Command) (hang : List ℕ) (e : Number) (arms : Vec Arm Global) (cs : Vec Command Global) (l : List Arm)
    → c ≡ shown.Case hang e arms cs → l ≡ arms.items → CommandFew c → length l ≤ most_arms
few_count c hang e arms cs l i f r =
    subst (λ (l : List Arm). length l ≤ most_arms) (sym f) (subst (λ (m : ℕ). m ≤ most_arms) (counted 0 arms.items (block_of 0 cs.items)) (few_case c hang e arms cs i r).0)

pub few_last : (c : Command) (hang : List ℕ) (e : Number) (arms : Vec Arm Global) (cs : Vec Command Global) (l : List Command)
    → c ≡ shown.Case hang e arms cs → l ≡ cs.items → CommandFew c → CommandsFew l
unfolding CommandsFew
few_last c hang e arms cs l i f r =
    subst (λ (l : List Command). FewBlock (block_of 0 l)) (sym f) (few_before 0 arms.items (last_arm (block_of 0 cs.items)) (few_case c hang e arms cs i r).1).1

pub few_arm : (arms : List Arm) (i : ℕ) (e : Arm) → i < length arms → ArmsFew arms → CommandsFew (commands_in (get_or arms i e))
unfolding ArmsFew CommandsFew arms_before
few_arm [] i e l r = absurd (omega arith)
few_arm (a ∷ arms) zero e l r = r.0
few_arm (a ∷ arms) (suc i) e l r = few_arm arms i e (omega arith) r.1

pub few_in : (cs : List Command) (i : ℕ) (e : Command) → i < length cs → CommandsFew cs → CommandFew (get_or cs i e)
unfolding CommandsFew CommandFew block_of
few_in [] i e l r = absurd (omega arith)
few_in (c ∷ cs) zero e l r = r.0
few_in (c ∷ cs) (suc i) e l r = few_in cs i e (omega arith) r.1

-- states

few_state : (t : StateCode) → StateFew t → FewBlock (block_of 0 (out-State t).body.items) × FewGroup (group_of 0 (out-State t).children.items)
unfolding StateFew
few_state t r = subst FewState (state_of-out 0 t) r

pub few_body : (t : StateCode) (l : List Command) → l ≡ (out-State t).body.items → StateFew t → CommandsFew l
unfolding CommandsFew
few_body t l e r = subst (λ (l : List Command). FewBlock (block_of 0 l)) (sym e) (few_state t r).0

pub few_children : (t : StateCode) (l : List StateCode) → l ≡ (out-State t).children.items → StateFew t → StatesFew l
unfolding StatesFew
few_children t l e r = subst (λ (l : List StateCode). FewGroup (group_of 0 l)) (sym e) (few_state t r).1

pub few_one : (ts : List StateCode) (i : ℕ) (e : StateCode) → i < length ts → StatesFew ts → StateFew (get_or ts i e)
unfolding StatesFew StateFew group_of
few_one [] i e l r = absurd (omega arith)
few_one (t ∷ ts) zero e l r = r.0
few_one (t ∷ ts) (suc i) e l r = few_one ts i e (omega arith) r.1
