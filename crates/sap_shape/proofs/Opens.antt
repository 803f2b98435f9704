-- The faults of lists that must be open or must close.
use Rattle.sap_lemmas.proofs.Common.{◌≡◌, ℕ, zero, suc, ◌+◌, ◌-◌, ◌<◌, ◌≤◌, List, [], ◌∷◌, ◌++◌, length, get_or, take, drop, refl, sym, ap, ◌∙◌, arith, at_drop_all, at_drop_more, Some, true, append_assoc, Option}
use Rattle.sap_text.specs.declared.place.Place.{Place}
use Rattle.sap_tree.specs.Prelude.{Expression, Command, if_else, ElseBlock, command_of, block_of, arm_block_of, arms_of, else_of}
use Rattle.sap_tree.specs.declared.syntax.Arm.{Arm}
use Rattle.sap_tree.specs.declared.syntax.Cmd.{Cmd}
use Rattle.sap_tree.specs.declared.syntax.Block.{Block}
use Rattle.sap_names.specs.Prelude.{fault_if, best_of}
use Rattle.sap_names.specs.declared.fault.Fault.{Fault}
use Rattle.sap_names.specs.declared.kind.Code.TheVariants.{E10}
use Rattle.sap_names.proofs.Faults.{both}
use Rattle.sap_shape.specs.Closing.{open_faults, open_block_faults, open_else_faults, closing_faults, closing_else_faults, last_faults}
use Rattle.sap_shape.specs.Closing as closing
use Rattle.sap_shape.specs.Lists.{open_list, closing_list, open_arms, closing_arms}

pub open_list-drop : (cs : List Cmd) (n : ℕ) (d : Cmd) → n < length cs
    → open_list (drop n cs) ≡ open_faults (command_of (get_or cs n d)) ++ open_list (drop (n + 1) cs)
unfolding open_list
open_list-drop cs n d h = at_drop_more open_list cs n d h

pub open_list-past : (cs : List Cmd) (n : ℕ) → length cs ≤ n → open_list (drop n cs) ≡ []
unfolding open_list
open_list-past cs n h = at_drop_all open_list cs n h

pub open_step : (cs : List Cmd) (n : ℕ) (d : Cmd) (o m : Option Fault) → n < length cs → d ≡ get_or cs n d
    → m ≡ best_of o (open_faults (command_of d)) → best_of m (open_list (drop (n + 1) cs)) ≡ best_of o (open_list (drop n cs))
open_step cs n d o m h e k =
    both o m _ (open_faults (command_of d)) (open_list (drop (n + 1) cs)) _ k refl
    (open_list-drop cs n d h ∙ ap (λ (c : Cmd). open_faults (command_of c) ++ open_list (drop (n + 1) cs)) (sym e))

pub open_block-is : (b : Block) → open_block_faults (block_of b) ≡ open_list b.commands.items
unfolding open_list
open_block-is b = refl

pub open_else-is : (b : Block) → open_else_faults (else_of (Some b)) ≡ open_list b.commands.items
unfolding open_list
open_else-is b = refl

pub closing_block-is : (b : Block) → closing_faults (block_of b) ≡ closing_list b.commands.items b.after
unfolding closing_list
closing_block-is b = refl

pub closing_else-is : (b : Block) (place : Place) → closing_else_faults (else_of (Some b)) place ≡ closing_list b.commands.items b.after
unfolding closing_list
closing_else-is b place = refl

pub closing_none : (cs : List Cmd) (after : Place) → length cs < 1 → closing_list cs after ≡ fault_if true E10 after
unfolding closing_list
closing_none [] after h = refl
closing_none (c ∷ cs) after h = absurd (omega arith)

closing_at : (cs : List Cmd) (n : ℕ) (d : Cmd) (after : Place) → length cs ≡ suc n → d ≡ get_or cs n d
    → closing_list cs after ≡ open_list (take n cs) ++ last_faults (command_of d) after
unfolding closing_list open_list
closing_at (c ∷ []) zero d after h e = ap (λ (x : Cmd). last_faults (command_of x) after) (sym e)
closing_at (c ∷ x ∷ cs) (suc n) d after h e =
    ap (λ (l : List Fault). open_faults (command_of c) ++ l) (closing_at (x ∷ cs) n d after (omega arith) e)
    ∙ sym (append_assoc (open_faults (command_of c)) (open_list (take n (x ∷ cs))) (last_faults (command_of d) after))
closing_at _ _ d after h e = absurd (omega arith)

-- all but the last must be open
pub closing_last : (cs : List Cmd) (d : Cmd) (after : Place) → 1 ≤ length cs → d ≡ get_or cs (length cs - 1) d
    → closing_list cs after ≡ open_list (take (length cs - 1) cs) ++ last_faults (command_of d) after
closing_last cs d after h e = closing_at cs (length cs - 1) d after (omega arith) e

pub closing_if : (c : Command) (x : Expression) (place after : Place) (one : Block) (list : List Cmd) (other : ElseBlock)
    → c ≡ if_else place x (block_of one) other → list ≡ one.commands.items
    → last_faults c after ≡ closing_list list one.after ++ closing_else_faults other place
unfolding closing_list
closing_if c x place after one list other h e =
    ap (λ (k : Command). last_faults k after) h ∙ ap (λ (l : List Cmd). closing_list l one.after ++ closing_else_faults other place) (sym e)

-- arms

open_arms-drop : (arms : List Arm) (n : ℕ) (d : Arm) (cs : List Cmd) → n < length arms → d ≡ get_or arms n d → cs ≡ d.block.commands.items
    → open_arms (drop n arms) ≡ open_list cs ++ open_arms (drop (n + 1) arms)
unfolding open_arms open_list
open_arms-drop arms n d cs h e f =
    at_drop_more open_arms arms n d h ∙ ap (λ (a : Arm). open_block_faults (arm_block_of a) ++ open_arms (drop (n + 1) arms)) (sym e)
    ∙ ap (λ (l : List Cmd). open_list l ++ open_arms (drop (n + 1) arms)) (sym f)

pub open_arms-past : (arms : List Arm) (n : ℕ) → length arms ≤ n → open_arms (drop n arms) ≡ []
unfolding open_arms
open_arms-past arms n h = at_drop_all open_arms arms n h

pub open_arms_step : (arms : List Arm) (n : ℕ) (d : Arm) (cs : List Cmd) (o m : Option Fault) → n < length arms → d ≡ get_or arms n d → cs ≡ d.block.commands.items
    → m ≡ best_of o (open_list cs) → best_of m (open_arms (drop (n + 1) arms)) ≡ best_of o (open_arms (drop n arms))
open_arms_step arms n d cs o m h e f k = both o m _ (open_list cs) (open_arms (drop (n + 1) arms)) _ k refl (open_arms-drop arms n d cs h e f)

pub open_arms-of : (arms : List Arm) (last : Block) → closing.open_arms_faults (arms_of arms (block_of last)) ≡ open_arms arms ++ open_list last.commands.items
unfolding open_arms open_list
open_arms-of [] last = refl
open_arms-of (arm ∷ arms) last =
    ap (λ (l : List Fault). open_block_faults (arm_block_of arm) ++ l) (open_arms-of arms last)
    ∙ sym (append_assoc (open_block_faults (arm_block_of arm)) (open_arms arms) (open_list last.commands.items))

closing_arms-drop : (arms : List Arm) (n : ℕ) (d : Arm) (cs : List Cmd) → n < length arms → d ≡ get_or arms n d → cs ≡ d.block.commands.items
    → closing_arms (drop n arms) ≡ closing_list cs d.block.after ++ closing_arms (drop (n + 1) arms)
unfolding closing_arms closing_list
closing_arms-drop arms n d cs h e f =
    at_drop_more closing_arms arms n d h ∙ ap (λ (a : Arm). closing_faults (arm_block_of a) ++ closing_arms (drop (n + 1) arms)) (sym e)
    ∙ ap (λ (l : List Cmd). closing_list l d.block.after ++ closing_arms (drop (n + 1) arms)) (sym f)

pub closing_arms-past : (arms : List Arm) (n : ℕ) → length arms ≤ n → closing_arms (drop n arms) ≡ []
unfolding closing_arms
closing_arms-past arms n h = at_drop_all closing_arms arms n h

pub closing_arms_step : (arms : List Arm) (n : ℕ) (d : Arm) (cs : List Cmd) (o m : Option Fault) → n < length arms → d ≡ get_or arms n d → cs ≡ d.block.commands.items
    → m ≡ best_of o (closing_list cs d.block.after) → best_of m (closing_arms (drop (n + 1) arms)) ≡ best_of o (closing_arms (drop n arms))
closing_arms_step arms n d cs o m h e f k = both o m _ (closing_list cs d.block.after) (closing_arms (drop (n + 1) arms)) _ k refl (closing_arms-drop arms n d cs h e f)

pub closing_arms-of : (arms : List Arm) (last : Block) → closing.closing_arms_faults (arms_of arms (block_of last)) ≡ closing_arms arms
    ++ closing_list last.commands.items last.after
unfolding closing_arms closing_list
closing_arms-of [] last = refl
closing_arms-of (arm ∷ arms) last =
    ap (λ (l : List Fault). closing_faults (arm_block_of arm) ++ l) (closing_arms-of arms last)
    ∙ sym (append_assoc (closing_faults (arm_block_of arm)) (closing_arms arms) (closing_list last.commands.items last.after))

pub ruleset opens = (open_list-drop, open_list-past, open_arms-past, closing_arms-past, closing_none)

pub ruleset blocks = (open_block-is, open_else-is, open_arms-of, closing_block-is, closing_else-is, closing_arms-of)
