-- Whether a list of commands falls, from a place on.
use Rattle.sap_lemmas.proofs.Common.{◌≡◌, ℕ, ◌+◌, ◌<◌, ◌≤◌, List, [], ◌∷◌, ◌||◌, Bool, false, length, get_or, drop, refl, sym, ap, ◌∙◌, at_drop_all, at_drop_more, Some, or_assoc}
use Rattle.sap_tree.specs.Trees.{command_of, block_of, arm_block_of, arms_of, else_of}
use Rattle.sap_tree.specs.declared.syntax.Arm.{Arm}
use Rattle.sap_tree.specs.declared.syntax.Cmd.{Cmd}
use Rattle.sap_tree.specs.declared.syntax.Block.{Block}
use Rattle.sap_shape.specs.Walk.{falls, falls_block, falls_else}
use Rattle.sap_shape.specs.Walk as walk
use Rattle.sap_shape.specs.Lists.{falls_list, falls_arms}

falls_list-drop : (cs : List Cmd) (n : ℕ) (d : Cmd) → n < length cs → falls_list (drop n cs) ≡ (falls (command_of (get_or cs n d)) || falls_list (drop (n + 1) cs))
unfolding falls_list
falls_list-drop cs n d h = at_drop_more falls_list cs n d h

pub falls_list-past : (cs : List Cmd) (n : ℕ) → length cs ≤ n → falls_list (drop n cs) ≡ false
unfolding falls_list
falls_list-past cs n h = at_drop_all falls_list cs n h

-- one command, and those behind it
pub falls_here : (cs : List Cmd) (n : ℕ) (d : Cmd) (b : Bool) → n < length cs → d ≡ get_or cs n d → b ≡ falls (command_of d)
    → falls_list (drop n cs) ≡ (b || falls_list (drop (n + 1) cs))
falls_here cs n d b h e t =
    falls_list-drop cs n d h
    ∙ ap (λ (x : Bool). x || falls_list (drop (n + 1) cs)) (ap (λ (c : Cmd). falls (command_of c)) (sym e) ∙ sym t)

pub falls_block-is : (b : Block) → falls_block (block_of b) ≡ falls_list b.commands.items
unfolding falls_list
falls_block-is b = refl

pub falls_else-is : (b : Block) → falls_else (else_of (Some b)) ≡ falls_list b.commands.items
unfolding falls_list
falls_else-is b = refl

-- arms

pub arms_here : (arms : List Arm) (n : ℕ) (d : Arm) (cs : List Cmd) (b : Bool) → n < length arms → d ≡ get_or arms n d → cs ≡ d.block.commands.items → b ≡ falls_list cs
    → falls_arms (drop n arms) ≡ (b || falls_arms (drop (n + 1) arms))
unfolding falls_arms falls_list
arms_here arms n d cs b h e f t =
    at_drop_more falls_arms arms n d h ∙ ap (λ (a : Arm). falls_block (arm_block_of a) || falls_arms (drop (n + 1) arms)) (sym e)
    ∙ ap (λ (x : Bool). x || falls_arms (drop (n + 1) arms)) (sym (t ∙ ap (λ (l : List Cmd). falls_list l) f))

pub falls_arms-past : (arms : List Arm) (n : ℕ) → length arms ≤ n → falls_arms (drop n arms) ≡ false
unfolding falls_arms
falls_arms-past arms n h = at_drop_all falls_arms arms n h

pub falls_arms-of : (arms : List Arm) (last : Block) → walk.falls_arms (arms_of arms (block_of last)) ≡ (falls_arms arms || falls_list last.commands.items)
unfolding falls_arms falls_list
falls_arms-of [] last = refl
falls_arms-of (arm ∷ arms) last =
    ap (λ (b : Bool). falls_block (arm_block_of arm) || b) (falls_arms-of arms last) ∙ or_assoc (falls_block (arm_block_of arm)) (falls_arms arms) (falls_list last.commands.items)

pub ruleset falling = (falls_list-past, falls_arms-past, falls_block-is, falls_else-is, falls_arms-of)
