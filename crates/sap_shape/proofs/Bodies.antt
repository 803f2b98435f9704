-- The faults of the commands of a body, from a place on.
use Rattle.sap_lemmas.proofs.Common.{◌≡◌, ℕ, ◌+◌, ◌<◌, ◌≤◌, List, [], ◌∷◌, ◌++◌, length, get_or, drop, append_assoc, refl, sym, ap, ◌∙◌, at_drop_all, at_drop_more, Some, Option}
use Rattle.sap_tree.specs.Trees.{command_of, block_of, arm_block_of, arms_of, else_of}
use Rattle.sap_tree.specs.declared.syntax.Arm.{Arm}
use Rattle.sap_tree.specs.declared.syntax.Cmd.{Cmd}
use Rattle.sap_tree.specs.declared.syntax.Block.{Block}
use Rattle.sap_names.specs.Best.{best_of}
use Rattle.sap_names.specs.declared.fault.Fault.{Fault}
use Rattle.sap_names.specs.declared.entity.Entity.{Entity}
use Rattle.sap_names.proofs.Faults.{both}
use Rattle.sap_shape.specs.ShapeFaults.{Body, command_shape, block_shape, else_shape}
use Rattle.sap_shape.specs.ShapeFaults as shape
use Rattle.sap_shape.specs.Lists.{list_shape, arms_shape}

pub list_shape-drop : (es : List Entity) (at : Body) (cs : List Cmd) (n : ℕ) (d : Cmd) → n < length cs
    → list_shape es at (drop n cs) ≡ command_shape es at (command_of (get_or cs n d)) ++ list_shape es at (drop (n + 1) cs)
unfolding list_shape
list_shape-drop es at cs n d h = at_drop_more (list_shape es at) cs n d h

pub list_shape-past : (es : List Entity) (at : Body) (cs : List Cmd) (n : ℕ) → length cs ≤ n → list_shape es at (drop n cs) ≡ []
unfolding list_shape
list_shape-past es at cs n h = at_drop_all (list_shape es at) cs n h

pub shape_step : (es : List Entity) (at : Body) (cs : List Cmd) (n : ℕ) (d : Cmd) (o m : Option Fault) → n < length cs → d ≡ get_or cs n d
    → m ≡ best_of o (command_shape es at (command_of d)) → best_of m (list_shape es at (drop (n + 1) cs)) ≡ best_of o (list_shape es at (drop n cs))
shape_step es at cs n d o m h e k =
    both o m _ (command_shape es at (command_of d)) (list_shape es at (drop (n + 1) cs)) _ k refl
    (list_shape-drop es at cs n d h ∙ ap (λ (c : Cmd). command_shape es at (command_of c) ++ list_shape es at (drop (n + 1) cs)) (sym e))

pub block_shape-is : (es : List Entity) (at : Body) (b : Block) → block_shape es at (block_of b) ≡ list_shape es at b.commands.items
unfolding list_shape
block_shape-is es at b = refl

pub else_shape-is : (es : List Entity) (at : Body) (b : Block) → else_shape es at (else_of (Some b)) ≡ list_shape es at b.commands.items
unfolding list_shape
else_shape-is es at b = refl

-- arms

pub arms_shape-drop : (es : List Entity) (at : Body) (arms : List Arm) (n : ℕ) (d : Arm) (cs : List Cmd) → n < length arms → d ≡ get_or arms n d → cs ≡ d.block.commands.items
    → arms_shape es at (drop n arms) ≡ list_shape es at cs ++ arms_shape es at (drop (n + 1) arms)
unfolding arms_shape list_shape
arms_shape-drop es at arms n d cs h e f =
    at_drop_more (arms_shape es at) arms n d h ∙ ap (λ (a : Arm). block_shape es at (arm_block_of a) ++ arms_shape es at (drop (n + 1) arms)) (sym e)
    ∙ ap (λ (l : List Cmd). list_shape es at l ++ arms_shape es at (drop (n + 1) arms)) (sym f)

pub arms_shape-past : (es : List Entity) (at : Body) (arms : List Arm) (n : ℕ) → length arms ≤ n → arms_shape es at (drop n arms) ≡ []
unfolding arms_shape
arms_shape-past es at arms n h = at_drop_all (arms_shape es at) arms n h

pub arms_step : (es : List Entity) (at : Body) (arms : List Arm) (n : ℕ) (d : Arm) (cs : List Cmd) (o m : Option Fault) → n < length arms
    → d ≡ get_or arms n d → cs ≡ d.block.commands.items
    → m ≡ best_of o (list_shape es at cs) → best_of m (arms_shape es at (drop (n + 1) arms)) ≡ best_of o (arms_shape es at (drop n arms))
arms_step es at arms n d cs o m h e f k = both o m _ (list_shape es at cs) (arms_shape es at (drop (n + 1) arms)) _ k refl (arms_shape-drop es at arms n d cs h e f)

pub arms_shape-of : (es : List Entity) (at : Body) (arms : List Arm) (last : Block)
    → shape.arms_shape es at (arms_of arms (block_of last)) ≡ arms_shape es at arms ++ list_shape es at last.commands.items
unfolding arms_shape list_shape
arms_shape-of es at [] last = refl
arms_shape-of es at (arm ∷ arms) last =
    ap (λ (l : List Fault). block_shape es at (arm_block_of arm) ++ l) (arms_shape-of es at arms last)
    ∙ sym (append_assoc (block_shape es at (arm_block_of arm)) (arms_shape es at arms) (list_shape es at last.commands.items))

pub ruleset bodies = (list_shape-drop, list_shape-past, arms_shape-past)

pub ruleset blocks = (block_shape-is, else_shape-is, arms_shape-of)
