-- The sizes of bodies and groups, by which recursions end.
use Rattle.sap_lemmas.proofs.Common.{◌≡◌, ℕ, zero, suc, ◌+◌, ◌<◌, ◌≤◌, length, get_or, List, [], ◌∷◌, sym, ap, ◌∙◌, arith, Vec, Global}
use Rattle.sap_ir.specs.Prelude.{Body, stop, act, cases, goto, fall, Forest, none, state, command_before, body_of, state_before, forest_of, follow, planted}
use Rattle.sap_ir.specs.declared.guarded.Calc.{Calc}
use Rattle.sap_ir.specs.declared.plain.nested.PlainCmd.{PlainCmd}
use Rattle.sap_ir.specs.declared.plain.nested.PlainState.{PlainState, out-PlainState}
use Rattle.sap_ir.specs.declared.plain.nested.PlainCmd.TheViews as shown
use Rattle.sap_ir.proofs.plain.Views.{body_of-more, before-if, forest_of-more, state_before-out, follow-before, planted-before}

abbrev pub body_weight : Body → ℕ
body_weight stop = 1
body_weight (act a rest) = body_weight rest + 1
body_weight (cases t y n rest) = body_weight y + body_weight n + body_weight rest + 1
body_weight (goto x rest) = body_weight rest + 1
body_weight (fall rest) = body_weight rest + 1

abbrev pub forest_weight : Forest → ℕ
forest_weight none = 1
forest_weight (state x b kids rest) = forest_weight kids + forest_weight rest + 1

unfoldable pub command_weight : PlainCmd → ℕ
command_weight c = body_weight (command_before c stop)

unfoldable pub commands_weight : List PlainCmd → ℕ
commands_weight cs = body_weight (body_of cs)

unfoldable pub state_weight : PlainState → ℕ
state_weight s = forest_weight (state_before s none)

unfoldable pub states_weight : List PlainState → ℕ
states_weight ss = forest_weight (forest_of ss)

follow_weight : (a b : Body) → body_weight (follow a b) + 1 ≡ body_weight a + body_weight b
follow_weight stop b = omega arith
follow_weight (act d rest) b = let r = follow_weight rest b in omega (arith, r)
follow_weight (cases t y n rest) b = let r = follow_weight rest b in omega (arith, r)
follow_weight (goto x rest) b = let r = follow_weight rest b in omega (arith, r)
follow_weight (fall rest) b = let r = follow_weight rest b in omega (arith, r)

planted_weight : (f g : Forest) → forest_weight (planted f g) + 1 ≡ forest_weight f + forest_weight g
planted_weight none g = omega arith
planted_weight (state x b kids rest) g = let r = planted_weight rest g in omega (arith, r)

some_body : (b : Body) → 1 ≤ body_weight b
some_body stop = omega arith
some_body (act d rest) = omega arith
some_body (cases t y n rest) = omega arith
some_body (goto x rest) = omega arith
some_body (fall rest) = omega arith

some_forest : (f : Forest) → 1 ≤ forest_weight f
some_forest none = omega arith
some_forest (state x b kids rest) = omega arith

more_commands : (c : PlainCmd) (cs : List PlainCmd) → commands_weight (c ∷ cs) + 1 ≡ command_weight c + commands_weight cs
unfolding command_weight commands_weight
more_commands c cs =
    ap (λ (b : Body). body_weight b + 1) (body_of-more c cs ∙ sym (follow-before c stop (body_of cs)))
    ∙ follow_weight (command_before c stop) (body_of cs)

some_commands : (cs : List PlainCmd) → 1 ≤ commands_weight cs
unfolding commands_weight
some_commands cs = some_body (body_of cs)

some_command : (c : PlainCmd) → 1 ≤ command_weight c
unfolding command_weight
some_command c = some_body (command_before c stop)

pub commands_weight-in : (cs : List PlainCmd) (n : ℕ) (d : PlainCmd) → n < length cs → command_weight (get_or cs n d) ≤ commands_weight cs
commands_weight-in [] n d h = absurd (omega arith)
commands_weight-in (c ∷ cs) zero d h =
    let e = more_commands c cs in let s = some_commands cs in omega (arith, e, s)
commands_weight-in (c ∷ cs) (suc n) d h =
    let e = more_commands c cs in let s = some_command c in let r = commands_weight-in cs n d (omega arith) in omega (arith, e, r, s)

pub if_weight : (t : Calc) (ys ns : Vec PlainCmd Global) → command_weight (shown.If t ys ns) ≡ commands_weight ys.items + commands_weight ns.items + 2
unfolding command_weight commands_weight
if_weight t ys ns = ap body_weight (before-if t ys ns stop) ∙ omega arith

more_states : (s : PlainState) (ss : List PlainState) → states_weight (s ∷ ss) + 1 ≡ state_weight s + states_weight ss
unfolding state_weight states_weight
more_states s ss =
    ap (λ (f : Forest). forest_weight f + 1) (forest_of-more s ss ∙ sym (planted-before s none (forest_of ss)))
    ∙ planted_weight (state_before s none) (forest_of ss)

some_states : (ss : List PlainState) → 1 ≤ states_weight ss
unfolding states_weight
some_states ss = some_forest (forest_of ss)

some_state : (s : PlainState) → 1 ≤ state_weight s
unfolding state_weight
some_state s = some_forest (state_before s none)

pub states_weight-in : (ss : List PlainState) (n : ℕ) (d : PlainState) → n < length ss → state_weight (get_or ss n d) ≤ states_weight ss
states_weight-in [] n d h = absurd (omega arith)
states_weight-in (s ∷ ss) zero d h = let e = more_states s ss in let k = some_states ss in omega (arith, e, k)
states_weight-in (s ∷ ss) (suc n) d h =
    let e = more_states s ss in let k = some_state s in let r = states_weight-in ss n d (omega arith) in omega (arith, e, r, k)

pub children_weight : (s : PlainState) → state_weight s ≡ states_weight (out-PlainState s).children.items + 2
unfolding state_weight states_weight
children_weight s = ap forest_weight (state_before-out s none) ∙ omega arith

pub ruleset weights = (commands_weight-in, if_weight, states_weight-in, children_weight)
