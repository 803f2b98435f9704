-- What is found in lists of commands, from a place on.
use Rattle.sap_lemmas.proofs.Common.{◌≡◌, ℕ, ◌+◌, ◌<◌, ◌≤◌, List, [], ◌∷◌, length, get_or, drop, append_assoc, refl, sym, ap, ap₂, ◌∙◌, at_drop_all, at_drop_more, Some, Option}
use Rattle.sap_tree.specs.Prelude.{Expression, Command, case_of, command_of, block_of, arm_block_of, arms_of, else_of}
use Rattle.sap_tree.specs.declared.syntax.Arm.{Arm}
use Rattle.sap_tree.specs.declared.syntax.Cmd.{Cmd}
use Rattle.sap_tree.specs.declared.syntax.Block.{Block}
use Rattle.sap_text.specs.declared.place.Place.{Place}
use Rattle.sap_names.specs.Best.{best_of}
use Rattle.sap_names.specs.declared.fault.Fault.{Fault}
use Rattle.sap_names.proofs.Faults.{both}
use Rattle.sap_shape.specs.Walk.{Written, Found, Part, either, fresh, nothing, behind, branch, found, found_in_block, found_in_else}
use Rattle.sap_shape.specs.Walk as walk
use Rattle.sap_shape.specs.Lists.{no_path, found_in_list, found_in_arms}
use Rattle.sap_shape.proofs.Sets.{either_assoc}

found_list-drop : (p : Written) (cs : List Cmd) (n : ℕ) (d : Cmd) → n < length cs → d ≡ get_or cs n d
    → found_in_list (drop n cs) p ≡ behind (found (command_of d)) (found_in_list (drop (n + 1) cs)) p
unfolding found_in_list
found_list-drop p cs n d h e =
    at_drop_more (λ (l : List Cmd). found_in_list l p) cs n d h ∙ ap (λ (x : Cmd). behind (found (command_of x)) (found_in_list (drop (n + 1) cs)) p) (sym e)

pub found_list-past : (p : Written) (cs : List Cmd) (n : ℕ) → length cs ≤ n → found_in_list (drop n cs) p ≡ nothing p
unfolding found_in_list
found_list-past p cs n h = at_drop_all (λ (l : List Cmd). found_in_list l p) cs n h

-- one command, and those behind it
module _ (cs : List Cmd) (n : ℕ) (d : Cmd) (p q : Written) (h : n < length cs) (e : d ≡ get_or cs n d) (k : q ≡ (found (command_of d) p).past) where
  abbrev here : Found
  here = found (command_of d) p

  abbrev rest : Part
  rest = found_in_list (drop (n + 1) cs)

  pub past_step : (rest q).past ≡ (found_in_list (drop n cs) p).past
  past_step = ap (λ (x : Written). (rest x).past) k ∙ ap (λ (x : Found). x.past) (sym (found_list-drop p cs n d h e))

  pub entering_step : (a b : Written) → b ≡ either a here.entering → either b (rest q).entering ≡ either a (found_in_list (drop n cs) p).entering
  entering_step a b s =
      ap₂ (λ (x y : Written). either x (rest y).entering) s k ∙ either_assoc a here.entering (rest here.past).entering
      ∙ ap (λ (x : Found). either a x.entering) (sym (found_list-drop p cs n d h e))

  pub again_step : (o m : Option Fault) → m ≡ best_of o here.again → best_of m (rest q).again ≡ best_of o (found_in_list (drop n cs) p).again
  again_step o m s =
      ap (λ (x : Written). best_of m (rest x).again) k
      ∙ both o m _ here.again (rest here.past).again _ s refl (ap (λ (x : Found). x.again) (found_list-drop p cs n d h e))

pub found_block-is : (b : Block) (p : Written) → found_in_block (block_of b) p ≡ found_in_list b.commands.items p
unfolding found_in_list
found_block-is b p = refl

pub found_else-is : (b : Block) (p : Written) → found_in_else (else_of (Some b)) p ≡ found_in_list b.commands.items p
unfolding found_in_list
found_else-is b p = refl

-- arms, all of which begin at p

module _ (p : Written) where
  found_arms-drop : (arms : List Arm) (n : ℕ) (d : Arm) → n < length arms → d ≡ get_or arms n d
      → found_in_arms (drop n arms) p ≡ branch (found_in_block (arm_block_of d)) (found_in_arms (drop (n + 1) arms)) p
  unfolding found_in_arms
  found_arms-drop arms n d h e =
      at_drop_more (λ (l : List Arm). found_in_arms l p) arms n d h ∙ ap (λ (x : Arm). branch (found_in_block (arm_block_of x)) (found_in_arms (drop (n + 1) arms)) p) (sym e)

  pub found_arms-past : (arms : List Arm) (n : ℕ) → length arms ≤ n → found_in_arms (drop n arms) p ≡ no_path p
  unfolding found_in_arms
  found_arms-past arms n h = at_drop_all (λ (l : List Arm). found_in_arms l p) arms n h

  -- one arm, and those behind it: a set that takes in what they give
  module _ (arms : List Arm) (n : ℕ) (d : Arm) (h : n < length arms) (e : d ≡ get_or arms n d) where
    abbrev one : Found
    one = found_in_block (arm_block_of d) p

    abbrev others : Found
    others = found_in_arms (drop (n + 1) arms) p

    pub past_arms_step : (a b : Written) → b ≡ either a one.past → either b others.past ≡ either a (found_in_arms (drop n arms) p).past
    past_arms_step a b s =
        ap (λ (x : Written). either x others.past) s ∙ either_assoc a one.past others.past
        ∙ ap (λ (x : Found). either a x.past) (sym (found_arms-drop arms n d h e))

    pub entering_arms_step : (a b : Written) → b ≡ either a one.entering → either b others.entering ≡ either a (found_in_arms (drop n arms) p).entering
    entering_arms_step a b s =
        ap (λ (x : Written). either x others.entering) s ∙ either_assoc a one.entering others.entering
        ∙ ap (λ (x : Found). either a x.entering) (sym (found_arms-drop arms n d h e))

    pub again_arms_step : (o m : Option Fault) → m ≡ best_of o one.again → best_of m others.again ≡ best_of o (found_in_arms (drop n arms) p).again
    again_arms_step o m s = both o m _ one.again others.again _ s refl (ap (λ (x : Found). x.again) (found_arms-drop arms n d h e))

branch_assoc : (f g h : Part) (p : Written) → branch (branch f g) h p ≡ branch f (branch g h) p
branch_assoc f g h p =
    rw (either_assoc (f p).past (g p).past (h p).past, either_assoc (f p).entering (g p).entering (h p).entering, append_assoc (f p).again (g p).again (h p).again) refl

pub found_arms-of : (arms : List Arm) (last : Block) (p : Written)
    → walk.found_in_arms (arms_of arms (block_of last)) p ≡ branch (found_in_arms arms) (found_in_block (block_of last)) p
unfolding found_in_arms
found_arms-of [] last p = refl
found_arms-of (arm ∷ arms) last p =
    ap (λ (x : Found). branch (found_in_block (arm_block_of arm)) (λ q. x) p) (found_arms-of arms last p)
    ∙ sym (branch_assoc (found_in_block (arm_block_of arm)) (found_in_arms arms) (found_in_block (block_of last)) p)

-- a `case`, whose blocks all begin at p

module _ (c : Command) (place : Place) (e : Expression) (arms xs : List Arm) (last : Block) (p start : Written) (is : c ≡ case_of place e (arms_of arms (block_of last)))
    (same : xs ≡ arms) (from : start ≡ p) where
  whole : branch (found_in_arms xs) (found_in_block (block_of last)) p ≡ found c p
  whole =
      ap (λ (l : List Arm). branch (found_in_arms l) (found_in_block (block_of last)) p) same ∙ sym (found_arms-of arms last p)
      ∙ ap (λ (x : Command). found x p) (sym is)

  pub case_past : (none past_all taken new : Written) → none ≡ fresh → past_all ≡ either none (found_in_arms xs p).past → taken ≡ past_all
      → new ≡ either taken (found_in_block (block_of last) start).past → new ≡ (found c p).past
  case_past none past_all taken new n a t j =
      j ∙ ap₂ (λ (x y : Written). either x (found_in_block (block_of last) y).past) (t ∙ a ∙ ap (λ (x : Written). either x (found_in_arms xs p).past) n) from
      ∙ ap (λ (x : Found). x.past) whole

  pub case_entering : (old mid new : Written) → mid ≡ either old (found_in_arms xs p).entering → new ≡ either mid (found_in_block (block_of last) start).entering
      → new ≡ either old (found c p).entering
  case_entering old mid new a b =
      b ∙ ap₂ (λ (x y : Written). either x (found_in_block (block_of last) y).entering) a from
      ∙ either_assoc old (found_in_arms xs p).entering (found_in_block (block_of last) p).entering ∙ ap (λ (x : Found). either old x.entering) whole

  pub case_again : (old mid new : Option Fault) → mid ≡ best_of old (found_in_arms xs p).again → new ≡ best_of mid (found_in_block (block_of last) start).again
      → new ≡ best_of old (found c p).again
  case_again old mid new a b =
      both old mid new (found_in_arms xs p).again (found_in_block (block_of last) p).again (found c p).again a
      (b ∙ ap (λ (x : Written). best_of mid (found_in_block (block_of last) x).again) from) (ap (λ (x : Found). x.again) (sym whole))

pub ruleset walks = (found_list-past, found_arms-past)

pub ruleset blocks = (found_arms-of, found_block-is, found_else-is)
