-- The points of lists of commands and of states, from a place on.
use Rattle.sap_lemmas.proofs.Common.{◌≡◌, ℕ, ◌+◌, ◌<◌, ◌≤◌, List, [], ◌∷◌, ◌++◌, length, get_or, drop, map, refl, sym, ap, ◌∙◌, at_drop_all, at_drop_more, append_assoc, Some, append-nil, map-append, map-map}
use Rattle.sap_tree.specs.Prelude.{tree_of, simple_points, command_points, block_points, else_points, state_points, Expression, SimpleCommand, Command, if_else, try_then, case_of, ElseBlock, StateTree, Home, command_of, commands_of, block_of, arm_block_of, arms_of, else_of, state_of, states_of}
use Rattle.sap_tree.specs.declared.syntax.Block.{Block}
use Rattle.sap_tree.specs.declared.syntax.Arm.{Arm}
use Rattle.sap_tree.specs.declared.syntax.Cmd.{Cmd}
use Rattle.sap_tree.specs.declared.syntax.State.{State, out-State}
use Rattle.sap_tree.specs.declared.syntax.Decl.{Decl}
use Rattle.sap_tree.specs.declared.version.Version.{Version}
use Rattle.sap_text.specs.declared.place.Place.{Place}
use Rattle.sap_tree.specs.Points as points
use Rattle.sap_check.specs.declared.point.PointKind.TheVariants as kind
use Rattle.sap_tree.proofs.Views.{state_of-out}
use Rattle.sap_check.proofs.SiteLists.{after_part}
use Rattle.sap_check.specs.declared.point.Point.{Point}
use Rattle.sap_check.specs.Points.{point, word_of, words_of, words_at, points_of}
use Rattle.sap_check.specs.Lists.{list_points, arms_points, group_points}

words-both : (a b : List Command) → words_of (a ++ b) ≡ words_of a ++ words_of b
words-both a b = map-append word_of a b

at-both : (a b : List points.Point) → words_at (a ++ b) ≡ words_at a ++ words_at b
at-both a b = map-append (λ (p : points.Point). word_of p.command) a b

list_points-drop : (cs : List Cmd) (n : ℕ) (d : Cmd) → n < length cs → d ≡ get_or cs n d
    → list_points (drop n cs) ≡ words_of (command_points (command_of d)) ++ list_points (drop (n + 1) cs)
unfolding list_points
list_points-drop cs n d l e =
    at_drop_more list_points cs n d l ∙ ap (λ (x : Cmd). list_points (x ∷ drop (n + 1) cs)) (sym e)
    ∙ words-both (command_points (command_of d)) (points.list_points (commands_of (drop (n + 1) cs)))

pub list_points-past : (cs : List Cmd) (n : ℕ) → length cs ≤ n → list_points (drop n cs) ≡ []
unfolding list_points
list_points-past cs n l = at_drop_all list_points cs n l

pub points_step : (cs : List Cmd) (n : ℕ) (d : Cmd) (old new : List Point) → n < length cs → d ≡ get_or cs n d → new ≡ old ++ words_of (command_points (command_of d))
    → new ++ list_points (drop (n + 1) cs) ≡ old ++ list_points (drop n cs)
points_step cs n d old new l e k = after_part old new _ _ _ k (list_points-drop cs n d l e)

pub block_points-is : (b : Block) → words_of (block_points (block_of b)) ≡ list_points b.commands.items
unfolding list_points
block_points-is b = refl

pub else_points-is : (b : Block) → words_of (else_points (else_of (Some b))) ≡ list_points b.commands.items
unfolding list_points
else_points-is b = refl

-- arms

arms_points-drop : (arms : List Arm) (n : ℕ) (d : Arm) (cs : List Cmd) → n < length arms → d ≡ get_or arms n d → cs ≡ d.block.commands.items
    → arms_points (drop n arms) ≡ list_points cs ++ arms_points (drop (n + 1) arms)
unfolding arms_points list_points
arms_points-drop arms n d cs l e f =
    at_drop_more arms_points arms n d l ∙ ap (λ (a : Arm). words_of (block_points (arm_block_of a)) ++ arms_points (drop (n + 1) arms)) (sym e)
    ∙ ap (λ (k : List Cmd). list_points k ++ arms_points (drop (n + 1) arms)) (sym f)

pub arms_points-past : (arms : List Arm) (n : ℕ) → length arms ≤ n → arms_points (drop n arms) ≡ []
unfolding arms_points
arms_points-past arms n l = at_drop_all arms_points arms n l

pub arms_step : (arms : List Arm) (n : ℕ) (d : Arm) (cs : List Cmd) (old new : List Point) → n < length arms → d ≡ get_or arms n d
    → cs ≡ d.block.commands.items → new ≡ old ++ list_points cs
    → new ++ arms_points (drop (n + 1) arms) ≡ old ++ arms_points (drop n arms)
arms_step arms n d cs old new l e f k = after_part old new _ _ _ k (arms_points-drop arms n d cs l e f)

arms_points-of : (arms : List Arm) (last : Block) → words_of (points.arms_points (arms_of arms (block_of last))) ≡ arms_points arms ++ list_points last.commands.items
unfolding arms_points list_points
arms_points-of [] last = refl
arms_points-of (arm ∷ arms) last =
    words-both (block_points (arm_block_of arm)) (points.arms_points (arms_of arms (block_of last)))
    ∙ ap (λ (l : List Point). words_of (block_points (arm_block_of arm)) ++ l) (arms_points-of arms last)
    ∙ sym (append_assoc (words_of (block_points (arm_block_of arm))) (arms_points arms) (list_points last.commands.items))

group_points-drop : (ss : List State) (n : ℕ) (d : State) → n < length ss → d ≡ get_or ss n d
    → group_points (drop n ss) ≡ words_at (state_points (state_of d)) ++ group_points (drop (n + 1) ss)
unfolding group_points
group_points-drop ss n d l e =
    at_drop_more group_points ss n d l ∙ ap (λ (x : State). group_points (x ∷ drop (n + 1) ss)) (sym e)
    ∙ at-both (state_points (state_of d)) (points.states_points (states_of (drop (n + 1) ss)))

pub group_points-past : (ss : List State) (n : ℕ) → length ss ≤ n → group_points (drop n ss) ≡ []
unfolding group_points
group_points-past ss n l = at_drop_all group_points ss n l

pub states_step : (ss : List State) (n : ℕ) (d : State) (old new : List Point) → n < length ss → d ≡ get_or ss n d → new ≡ old ++ words_at (state_points (state_of d))
    → new ++ group_points (drop (n + 1) ss) ≡ old ++ group_points (drop n ss)
states_step ss n d old new l e k = after_part old new _ _ _ k (group_points-drop ss n d l e)

pub state_points-is : (s : State) → words_at (state_points (state_of s)) ≡ list_points (out-State s).body.commands.items ++ group_points (out-State s).children.items
unfolding list_points group_points
state_points-is s =
    let h : Home = record { name = (out-State s).name.name; kind = (out-State s).kind; children = states_of (out-State s).children.items } in
    let cs = points.list_points (commands_of (out-State s).body.commands.items) in
    ap (λ (t : StateTree). words_at (state_points t)) (state_of-out s) ∙ at-both (map (points.point h) cs) (points.states_points (states_of (out-State s).children.items))
    ∙ ap (λ (l : List Point). l ++ group_points (out-State s).children.items) (map-map (λ (p : points.Point). word_of p.command) (points.point h) cs)

pub points_whole : (v : Version) (ds : List Decl) (ss : List State) (old new : List Point) (seen : List State) → seen ≡ ss → old ≡ [] → new ≡ old ++ group_points seen
    → new ≡ points_of (tree_of v ds ss)
unfolding group_points
points_whole v ds ss old new seen b c h = h ∙ rw (b, c) refl

-- at the end nothing is left
pub list_end : (cs : List Cmd) (n : ℕ) (new all : List Point) → length cs ≤ n → new ++ list_points (drop n cs) ≡ all → new ≡ all
list_end cs n new all l h = sym (append-nil new) ∙ ap (λ (r : List Point). new ++ r) (sym (list_points-past cs n l)) ∙ h

pub arms_end : (arms : List Arm) (n : ℕ) (new all : List Point) → length arms ≤ n → new ++ arms_points (drop n arms) ≡ all → new ≡ all
arms_end arms n new all l h = sym (append-nil new) ∙ ap (λ (r : List Point). new ++ r) (sym (arms_points-past arms n l)) ∙ h

pub group_end : (ss : List State) (n : ℕ) (new all : List Point) → length ss ≤ n → new ++ group_points (drop n ss) ≡ all → new ≡ all
group_end ss n new all l h = sym (append-nil new) ∙ ap (λ (r : List Point). new ++ r) (sym (group_points-past ss n l)) ∙ h

if_whole : (x : Expression) (place : Place) (one : Block) (other : ElseBlock)
    → words_of (command_points (if_else place x (block_of one) other)) ≡ (point kind.If place ∷ []) ++ (list_points one.commands.items ++ words_of (else_points other))
unfolding list_points
if_whole x place one other = ap (λ (l : List Point). point kind.If place ∷ l) (words-both (block_points (block_of one)) (else_points other))

pub if_points : (c : Command) (x : Expression) (place : Place) (one : Block) (list : List Cmd) (other : ElseBlock) (old first second new : List Point)
    → c ≡ if_else place x (block_of one) other → list ≡ one.commands.items → first ≡ old ++ point kind.If place ∷ [] → second ≡ first ++ list_points list
    → new ≡ second ++ words_of (else_points other) → new ≡ old ++ words_of (command_points c)
if_points c x place one list other old first second new h e a b d =
    let p = point kind.If place ∷ [] in
    let r = words_of (else_points other) in
    let all : (((old ++ p) ++ list_points one.commands.items) ++ r) ≡ (old ++ (p ++ (list_points one.commands.items ++ r))) =
    ap (λ (l : List Point). l ++ r) (append_assoc old p (list_points one.commands.items))
    ∙ append_assoc old (p ++ list_points one.commands.items) r
    ∙ ap (λ (l : List Point). old ++ l) (append_assoc p (list_points one.commands.items) r) in
    rw (d, b, a, e, all, h, if_whole x place one other) refl

then_whole : (k : SimpleCommand) (place : Place) (a b : Block)
    → words_of (command_points (try_then k place (block_of a) (block_of b))) ≡ words_of (simple_points k)
    ++ ((point kind.Then place ∷ []) ++ (list_points a.commands.items ++ list_points b.commands.items))
unfolding list_points
then_whole k place a b =
    words-both (simple_points k) _
    ∙ ap (λ (l : List Point). words_of (simple_points k) ++ point kind.Then place ∷ l) (words-both (block_points (block_of a)) (block_points (block_of b)))

pub then_points : (c : Command) (k : SimpleCommand) (place : Place) (a b : Block) (la lb : List Cmd) (old first second third new : List Point)
    → c ≡ try_then k place (block_of a) (block_of b) → la ≡ a.commands.items → lb ≡ b.commands.items
    → first ≡ old ++ words_of (simple_points k) → second ≡ first ++ point kind.Then place ∷ []
    → third ≡ second ++ list_points la → new ≡ third ++ list_points lb → new ≡ old ++ words_of (command_points c)
then_points c k place a b la lb old first second third new h e f i j m n =
    let s = words_of (simple_points k) in
    let p = point kind.Then place ∷ [] in
    let l = list_points a.commands.items in
    let r = list_points b.commands.items in
    n ∙ ap (λ (cs : List Cmd). third ++ list_points cs) f
    ∙ ap (λ (t : List Point). t ++ r) (m ∙ ap (λ (cs : List Cmd). second ++ list_points cs) e ∙ ap (λ (t : List Point). t ++ l) (j ∙ ap (λ (t : List Point). t ++ p) i))
    ∙ append_assoc ((old ++ s) ++ p) l r ∙ append_assoc (old ++ s) p (l ++ r) ∙ append_assoc old s (p ++ (l ++ r))
    ∙ ap (λ (t : List Point). old ++ t) (sym (then_whole k place a b)) ∙ ap (λ (x : Command). old ++ words_of (command_points x)) (sym h)

pub case_points : (c : Command) (place : Place) (x : Expression) (arms : List Arm) (last : Block) (la : List Arm) (lb : List Cmd) (old first second new : List Point)
    → c ≡ case_of place x (arms_of arms (block_of last)) → la ≡ arms → lb ≡ last.commands.items → first ≡ old ++ point kind.Case place ∷ [] → second ≡ first ++ arms_points la
    → new ≡ second ++ list_points lb → new ≡ old ++ words_of (command_points c)
case_points c place x arms last la lb old first second new h e f i j n =
    let p = point kind.Case place ∷ [] in
    let l = arms_points arms in
    let r = list_points last.commands.items in
    n ∙ ap (λ (cs : List Cmd). second ++ list_points cs) f
    ∙ ap (λ (t : List Point). t ++ r) (j ∙ ap (λ (xs : List Arm). first ++ arms_points xs) e ∙ ap (λ (t : List Point). t ++ l) i)
    ∙ append_assoc (old ++ p) l r ∙ append_assoc old p (l ++ r)
    ∙ ap (λ (t : List Point). old ++ (p ++ t)) (sym (arms_points-of arms last)) ∙ ap (λ (y : Command). old ++ words_of (command_points y)) (sym h)

pub ruleset lists = (list_points-past, arms_points-past, group_points-past)

pub ruleset blocks = (block_points-is, else_points-is, append_assoc)

pub ruleset states = (state_points-is, append_assoc)
