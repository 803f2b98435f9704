-- The faults of lists, from a place on.
use Rattle.sap_lemmas.proofs.Common.{◌≡◌, ℕ, Bool, ◌+◌, ◌<◌, ◌≤◌, List, [], ◌∷◌, ◌++◌, append_assoc, length, get_or, drop, refl, sym, ap, ap₂, ◌∙◌, at_drop_all, at_drop_more, Some, Option}
use Rattle.sap_names.specs.declared.fault.Fault.{Fault}
use Rattle.sap_names.specs.Best.{best_of}
use Rattle.sap_names.proofs.Faults.{both, three}
use Rattle.sap_tree.specs.Prelude.{CommandBlock, expression_of, tag_of, tags_of, command_of, block_of, constants_of, arm_block_of, arms_of, else_of, state_of, states_of}
use Rattle.sap_tree.specs.declared.syntax.Arm.{Arm}
use Rattle.sap_tree.specs.declared.syntax.Cmd.{Cmd}
use Rattle.sap_tree.specs.declared.syntax.Expr.{Expr}
use Rattle.sap_tree.specs.declared.syntax.Block.{Block}
use Rattle.sap_tree.specs.declared.syntax.Decl.{Decl}
use Rattle.sap_tree.specs.declared.syntax.State.{State}
use Rattle.sap_tree.specs.declared.syntax.TagExpr.{TagExpr}
use Rattle.sap_names.specs.Entities.{Lookup}
use Rattle.sap_names.specs.NameFaults.{expression_faults, tag_faults, command_faults, block_faults, else_faults, declaration_faults, declarations_faults, state_faults}
use Rattle.sap_names.specs.NameFaults as faults
use Rattle.sap_names.specs.Lists.{tags_faults, commands_faults, constants_faults, arms_faults, states_faults}

pub tags_faults-drop : (levels : List (List ℕ)) (what : Lookup) (ts : List TagExpr) (n : ℕ) (d : TagExpr) → n < length ts
    → tags_faults levels what (drop n ts) ≡ tag_faults levels what (tag_of (get_or ts n d)) ++ tags_faults levels what (drop (n + 1) ts)
unfolding tags_faults
tags_faults-drop levels what ts n d h = at_drop_more (tags_faults levels what) ts n d h

pub tags_faults-past : (levels : List (List ℕ)) (what : Lookup) (ts : List TagExpr) (n : ℕ) → length ts ≤ n → tags_faults levels what (drop n ts) ≡ []
unfolding tags_faults
tags_faults-past levels what ts n h = at_drop_all (tags_faults levels what) ts n h

pub commands_faults-drop : (levels : List (List ℕ)) (what : Lookup) (cs : List Cmd) (n : ℕ) (d : Cmd) → n < length cs
    → commands_faults levels what (drop n cs) ≡ command_faults levels what (command_of (get_or cs n d)) ++ commands_faults levels what (drop (n + 1) cs)
unfolding commands_faults
commands_faults-drop levels what cs n d h = at_drop_more (commands_faults levels what) cs n d h

pub commands_faults-past : (levels : List (List ℕ)) (what : Lookup) (cs : List Cmd) (n : ℕ) → length cs ≤ n → commands_faults levels what (drop n cs) ≡ []
unfolding commands_faults
commands_faults-past levels what cs n h = at_drop_all (commands_faults levels what) cs n h

pub constants_faults-drop : (what : Lookup) (asked : Option ℕ) (es : List Expr) (n : ℕ) (d : Expr) → n < length es
    → constants_faults what asked (drop n es) ≡ expression_faults what (expression_of (get_or es n d)) asked ++ constants_faults what asked (drop (n + 1) es)
unfolding constants_faults
constants_faults-drop what asked es n d h = at_drop_more (constants_faults what asked) es n d h

pub constants_faults-past : (what : Lookup) (asked : Option ℕ) (es : List Expr) (n : ℕ) → length es ≤ n → constants_faults what asked (drop n es) ≡ []
unfolding constants_faults
constants_faults-past what asked es n h = at_drop_all (constants_faults what asked) es n h

pub constants_step : (what : Lookup) (asked : Option ℕ) (es : List Expr) (n : ℕ) (d : Expr) (o m : Option Fault) → n < length es → d ≡ get_or es n d
    → m ≡ best_of o (expression_faults what (expression_of d) asked)
    → best_of m (constants_faults what asked (drop (n + 1) es)) ≡ best_of o (constants_faults what asked (drop n es))
constants_step what asked es n d o m h e k =
    both o m _ (expression_faults what (expression_of d) asked) (constants_faults what asked (drop (n + 1) es)) _ k refl
    (constants_faults-drop what asked es n d h ∙ ap (λ (x : Expr). expression_faults what (expression_of x) asked ++ constants_faults what asked (drop (n + 1) es)) (sym e))

constants_faults-is : (what : Lookup) (asked : Option ℕ) (arm : Arm) → faults.constants_faults what asked (constants_of arm) ≡ constants_faults what asked arm.constants.items
unfolding constants_faults
constants_faults-is what asked arm = refl

arm_faults-is : (levels : List (List ℕ)) (what : Lookup) (arm : Arm) → block_faults levels what (arm_block_of arm) ≡ commands_faults levels what arm.block.commands.items
unfolding commands_faults
arm_faults-is levels what arm = refl

pub arms_faults-drop : (levels : List (List ℕ)) (what : Lookup) (asked : Option ℕ) (arms : List Arm) (n : ℕ) (d : Arm) → n < length arms
    → arms_faults levels what asked (drop n arms)
    ≡ faults.constants_faults what asked (constants_of (get_or arms n d)) ++ block_faults levels what (arm_block_of (get_or arms n d))
    ++ arms_faults levels what asked (drop (n + 1) arms)
unfolding arms_faults
arms_faults-drop levels what asked arms n d h = at_drop_more (arms_faults levels what asked) arms n d h

pub arms_faults-past : (levels : List (List ℕ)) (what : Lookup) (asked : Option ℕ) (arms : List Arm) (n : ℕ) → length arms ≤ n → arms_faults levels what asked (drop n arms) ≡ []
unfolding arms_faults
arms_faults-past levels what asked arms n h = at_drop_all (arms_faults levels what asked) arms n h

pub arms_step : (levels : List (List ℕ)) (what : Lookup) (asked : Option ℕ) (arms : List Arm) (n : ℕ) (d : Arm) (es : List Expr)
    (cs : List Cmd) (o m k : Option Fault) → n < length arms
    → d ≡ get_or arms n d → es ≡ d.constants.items → cs ≡ d.block.commands.items → m ≡ best_of o (constants_faults what asked es) → k ≡ best_of m (commands_faults levels what cs)
    → best_of k (arms_faults levels what asked (drop (n + 1) arms)) ≡ best_of o (arms_faults levels what asked (drop n arms))
arms_step levels what asked arms n d es cs o m k h e f g p q =
    three o m k _ (constants_faults what asked es) (commands_faults levels what cs) (arms_faults levels what asked (drop (n + 1) arms)) _ p q refl
    (arms_faults-drop levels what asked arms n d h
    ∙ ap (λ (arm : Arm). faults.constants_faults what asked (constants_of arm) ++ block_faults levels what (arm_block_of arm)
    ++ arms_faults levels what asked (drop (n + 1) arms)) (sym e)
    ∙ ap₂ (λ (a b : List Fault). a ++ b ++ arms_faults levels what asked (drop (n + 1) arms))
    (constants_faults-is what asked d ∙ ap (λ (l : List Expr). constants_faults what asked l) (sym f)) (arm_faults-is levels what d
    ∙ ap (λ (l : List Cmd). commands_faults levels what l) (sym g)))

pub arms_faults-of : (levels : List (List ℕ)) (what : Lookup) (asked : Option ℕ) (arms : List Arm) (last : CommandBlock)
    → faults.arms_faults levels what asked (arms_of arms last) ≡ arms_faults levels what asked arms ++ block_faults levels what last
unfolding arms_faults
arms_faults-of levels what asked [] last = refl
arms_faults-of levels what asked (arm ∷ arms) last =
    let own = faults.constants_faults what asked (constants_of arm) ++ block_faults levels what (arm_block_of arm) in
    ap (λ (l : List Fault). own ++ l) (arms_faults-of levels what asked arms last) ∙ sym (append_assoc own (arms_faults levels what asked arms) (block_faults levels what last))

pub tags_faults-all : (levels : List (List ℕ)) (what : Lookup) (ts : List TagExpr) → tags_faults levels what ts ≡ faults.tags_faults levels what (tags_of ts)
unfolding tags_faults
tags_faults-all levels what ts = refl

pub block_faults-is : (levels : List (List ℕ)) (what : Lookup) (b : Block) → block_faults levels what (block_of b) ≡ commands_faults levels what b.commands.items
unfolding commands_faults
block_faults-is levels what b = refl

pub else_faults-is : (levels : List (List ℕ)) (what : Lookup) (b : Block) → else_faults levels what (else_of (Some b)) ≡ commands_faults levels what b.commands.items
unfolding commands_faults
else_faults-is levels what b = refl

-- one part, and those behind it
pub tags_step : (levels : List (List ℕ)) (what : Lookup) (ts : List TagExpr) (n : ℕ) (d : TagExpr) (o m : Option Fault) → n < length ts → d ≡ get_or ts n d
    → m ≡ best_of o (tag_faults levels what (tag_of d)) → best_of m (tags_faults levels what (drop (n + 1) ts)) ≡ best_of o (tags_faults levels what (drop n ts))
tags_step levels what ts n d o m h e k =
    both o m _ (tag_faults levels what (tag_of d)) (tags_faults levels what (drop (n + 1) ts)) _ k refl
    (tags_faults-drop levels what ts n d h ∙ ap (λ (t : TagExpr). tag_faults levels what (tag_of t) ++ tags_faults levels what (drop (n + 1) ts)) (sym e))

pub commands_step : (levels : List (List ℕ)) (what : Lookup) (cs : List Cmd) (n : ℕ) (d : Cmd) (o m : Option Fault) → n < length cs → d ≡ get_or cs n d
    → m ≡ best_of o (command_faults levels what (command_of d)) → best_of m (commands_faults levels what (drop (n + 1) cs)) ≡ best_of o (commands_faults levels what (drop n cs))
commands_step levels what cs n d o m h e k =
    both o m _ (command_faults levels what (command_of d)) (commands_faults levels what (drop (n + 1) cs)) _ k refl
    (commands_faults-drop levels what cs n d h ∙ ap (λ (c : Cmd). command_faults levels what (command_of c) ++ commands_faults levels what (drop (n + 1) cs)) (sym e))

pub declarations_faults-drop : (levels : List (List ℕ)) (le : ℕ → ℕ → Bool) (ds : List Decl) (n : ℕ) (d : Decl) → n < length ds
    → declarations_faults levels le (drop n ds) ≡ declaration_faults levels le (get_or ds n d) ++ declarations_faults levels le (drop (n + 1) ds)
declarations_faults-drop levels le ds n d h = at_drop_more (declarations_faults levels le) ds n d h

pub declarations_faults-past : (levels : List (List ℕ)) (le : ℕ → ℕ → Bool) (ds : List Decl) (n : ℕ) → length ds ≤ n → declarations_faults levels le (drop n ds) ≡ []
declarations_faults-past levels le ds n h = at_drop_all (declarations_faults levels le) ds n h

pub declarations_step : (levels : List (List ℕ)) (le : ℕ → ℕ → Bool) (ds : List Decl) (n : ℕ) (d : Decl) (o m : Option Fault) → n < length ds → d ≡ get_or ds n d
    → m ≡ best_of o (declaration_faults levels le d)
    → best_of m (declarations_faults levels le (drop (n + 1) ds)) ≡ best_of o (declarations_faults levels le (drop n ds))
declarations_step levels le ds n d o m h e k =
    both o m _ (declaration_faults levels le d) (declarations_faults levels le (drop (n + 1) ds)) _ k refl
    (declarations_faults-drop levels le ds n d h ∙ ap (λ (x : Decl). declaration_faults levels le x ++ declarations_faults levels le (drop (n + 1) ds)) (sym e))

pub states_faults-drop : (levels : List (List ℕ)) (le : ℕ → ℕ → Bool) (what : Lookup) (ss : List State) (n : ℕ) (d : State) → n < length ss
    → states_faults levels le what (drop n ss) ≡ state_faults levels le what (state_of (get_or ss n d)) ++ states_faults levels le what (drop (n + 1) ss)
unfolding states_faults
states_faults-drop levels le what ss n d h = at_drop_more (states_faults levels le what) ss n d h

pub states_faults-past : (levels : List (List ℕ)) (le : ℕ → ℕ → Bool) (what : Lookup) (ss : List State) (n : ℕ) → length ss ≤ n → states_faults levels le what (drop n ss) ≡ []
unfolding states_faults
states_faults-past levels le what ss n h = at_drop_all (states_faults levels le what) ss n h

pub states_faults-all : (levels : List (List ℕ)) (le : ℕ → ℕ → Bool) (what : Lookup) (ss : List State)
    → states_faults levels le what ss ≡ faults.states_faults levels le what (states_of ss)
unfolding states_faults
states_faults-all levels le what ss = refl

pub states_step : (levels : List (List ℕ)) (le : ℕ → ℕ → Bool) (what : Lookup) (ss : List State) (n : ℕ) (d : State) (o m : Option Fault) → n < length ss → d ≡ get_or ss n d
    → m ≡ best_of o (state_faults levels le what (state_of d))
    → best_of m (states_faults levels le what (drop (n + 1) ss)) ≡ best_of o (states_faults levels le what (drop n ss))
states_step levels le what ss n d o m h e k =
    both o m _ (state_faults levels le what (state_of d)) (states_faults levels le what (drop (n + 1) ss)) _ k refl
    (states_faults-drop levels le what ss n d h ∙ ap (λ (s : State). state_faults levels le what (state_of s) ++ states_faults levels le what (drop (n + 1) ss)) (sym e))

pub ruleset declarations = (declarations_faults-drop, declarations_faults-past)

pub ruleset states = (states_faults-drop, states_faults-past)

pub ruleset tags = (tags_faults-drop, tags_faults-past)

pub ruleset commands = (commands_faults-drop, commands_faults-past)

pub ruleset constants = (constants_faults-drop, constants_faults-past)

pub ruleset arms = (arms_faults-drop, arms_faults-past)

pub ruleset blocks = (block_faults-is, else_faults-is, tags_faults-all, states_faults-all)
