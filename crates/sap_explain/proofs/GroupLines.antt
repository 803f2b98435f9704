-- The lines of groups, from a state on.
use Rattle.sap_lemmas.proofs.Common.{◌≡◌, ℕ, ◌+◌, ◌<◌, ◌≤◌, List, [], ◌∷◌, ◌++◌, length, drop, get_or, refl, sym, ap, ◌∙◌, arith, at_drop_all, at_drop_more, after_part, append_assoc}
use Rattle.sap_net.specs.PortNames.{seat_name}
use Rattle.sap_shape.specs.ShapeFaults.{name_of}
use Rattle.sap_tree.specs.Syntax.{StateTree}
use Rattle.sap_tree.specs.Trees.{state_of, states_of}
use Rattle.sap_tree.specs.declared.syntax.State.{State, out-State}
use Rattle.sap_tree.proofs.Views.{state_of-out}
use Rattle.sap_report.proofs.Lists.{at_end}
use Rattle.sap_explain.specs.Explanation.{name_in, child_text, children_text, group_line, group_text, groups_below, groups_below_all}

pub name_out : (s : State) → name_of (state_of s) ≡ (out-State s).name.name
name_out s = ap name_of (state_of-out s)

pub below_out : (part : List ℕ) (s : State)
    → groups_below part (state_of s)
    ≡ group_text (name_in part (seat_name (out-State s).name.name)) (states_of (out-State s).children.items)
    ++ groups_below_all part (states_of (out-State s).children.items)
unfolding groups_below
below_out part s = ap (λ (t : StateTree). groups_below part t) (state_of-out s)

-- the lines of stored states
abbrev pub all_below : (part : List ℕ) → List State → List ℕ
all_below part ss = groups_below_all part (states_of ss)

below_drop : (part : List ℕ) (ss : List State) (n : ℕ) (s : State) → n < length ss → s ≡ get_or ss n s
    → all_below part (drop n ss) ≡ groups_below part (state_of s) ++ all_below part (drop (n + 1) ss)
unfolding groups_below
below_drop part ss n s l e =
    at_drop_more (all_below part) ss n s l ∙ ap (λ (x : State). groups_below part (state_of x) ++ all_below part (drop (n + 1) ss)) (sym e)

pub below_step : (part : List ℕ) (ss : List State) (n : ℕ) (s : State) (old new : List ℕ) → n < length ss → s ≡ get_or ss n s
    → new ≡ old ++ groups_below part (state_of s) → new ++ all_below part (drop (n + 1) ss) ≡ old ++ all_below part (drop n ss)
below_step part ss n s old new l e k = after_part old new _ _ _ k (below_drop part ss n s l e)

below_past : (part : List ℕ) (ss : List State) (n : ℕ) → length ss ≤ n → all_below part (drop n ss) ≡ []
unfolding groups_below
below_past part ss n l = at_drop_all (all_below part) ss n l

pub below_end : (part : List ℕ) (ss : List State) (n : ℕ) (new all : List ℕ) → length ss ≤ n → new ++ all_below part (drop n ss) ≡ all → new ≡ all
below_end part ss n new all l h = at_end new _ all (below_past part ss n l) h

-- the children of a state, from one on
children_drop : (ss : List State) (n : ℕ) (s : State) → n < length ss → s ≡ get_or ss n s
    → children_text n (states_of (drop n ss)) ≡ child_text n (name_of (state_of s)) ++ children_text (n + 1) (states_of (drop (n + 1) ss))
children_drop ss n s l e =
    at_drop_more (λ (xs : List State). children_text n (states_of xs)) ss n s l
    ∙ ap (λ (x : State). child_text n (name_of (state_of x)) ++ children_text (n + 1) (states_of (drop (n + 1) ss))) (sym e)

pub children_step : (ss : List State) (n : ℕ) (s : State) (old new all : List ℕ) → n < length ss → s ≡ get_or ss n s
    → new ≡ old ++ child_text n (name_of (state_of s)) → old ++ children_text n (states_of (drop n ss)) ≡ all
    → new ++ children_text (n + 1) (states_of (drop (n + 1) ss)) ≡ all
children_step ss n s old new all l e k h = after_part old new _ _ _ k (children_drop ss n s l e) ∙ h

pub children_end : (ss : List State) (n : ℕ) (new all : List ℕ) → length ss ≤ n → new ++ children_text n (states_of (drop n ss)) ≡ all → new ≡ all
children_end ss n new all l h = at_end new _ all (at_drop_all (λ (xs : List State). children_text n (states_of xs)) ss n l) h

pub no_group : (seat : List ℕ) (ss : List State) → length ss ≡ 0 → group_text seat (states_of ss) ≡ []
no_group seat [] e = refl
no_group seat (s ∷ ss) e = absurd (omega (arith, e))

pub one_group : (seat : List ℕ) (ss : List State) → 0 < length ss → group_text seat (states_of ss) ≡ group_line seat (states_of ss)
one_group seat [] l = absurd (omega (arith, l))
one_group seat (s ∷ ss) l = refl

pub ruleset names = (name_out, append_assoc)

pub ruleset below = (below_out, append_assoc)

pub ruleset groups = (no_group, one_group)
