-- Lists of commands and of states, and what they are seen as.
use Rattle.sap_lemmas.proofs.Common.{◌≡◌, List, [], ◌∷◌, ◌++◌, sym, ap, ◌∙◌, refl, Vec, Global}
use Rattle.sap_maps.specs.Maps.{Name}
use Rattle.sap_ir.specs.declared.guarded.Calc.{Calc}
use Rattle.sap_ir.specs.declared.guarded.Act.{Act}
use Rattle.sap_ir.specs.Calcs.{term_of, action_of}
use Rattle.sap_ir.specs.declared.plain.nested.PlainCmd.{PlainCmd, Row_of-PlainCmd, end_of-PlainCmd, more_of-PlainCmd, items-the_row-PlainCmd, items_hidden-the_row-PlainCmd-0}
use Rattle.sap_ir.specs.declared.plain.nested.PlainCmd.TheBlock.{hidden-the_row-PlainCmd-0}
use Rattle.sap_ir.specs.declared.plain.nested.PlainCmd.TheVariants as cmd
use Rattle.sap_ir.specs.declared.plain.nested.PlainCmd.TheViews as shown
use Rattle.sap_ir.specs.declared.plain.nested.PlainState.{PlainState, PlainState', Row_of-PlainState, end_of-PlainState, more_of-PlainState, items-the_row-PlainState, items_shown-the_row-PlainState-0, out-PlainState, roll-PlainState, out-roll-PlainState, PlainState-F}
use Rattle.sap_ir.specs.declared.plain.nested.PlainState.TheBlock.{shown-the_row-PlainState-0}
use denote.Hole.Carrier.{out}
use Rattle.sap_ir.specs.Plain.Nested.{Body, stop, act, cases, goto, fall, Forest, none, state}
use Rattle.sap_ir.specs.Plain.Views.{command_before, row_body, body_of, state_before, row_forest, forest_of, follow, planted}

-- commands

row_body-items : {n : _} (row : Row_of-PlainCmd n) → row_body row ≡ body_of (items-the_row-PlainCmd n row)
unfolding row_body body_of
row_body-items end_of-PlainCmd = refl
row_body-items (more_of-PlainCmd c rest) = ap (command_before c) (row_body-items rest)

row_body-vec : (v : Vec PlainCmd Global) → row_body (hidden-the_row-PlainCmd-0 v) ≡ body_of v.items
row_body-vec v = row_body-items (hidden-the_row-PlainCmd-0 v) ∙ ap body_of (items_hidden-the_row-PlainCmd-0 v)

pub body_of-none : body_of [] ≡ stop
unfolding body_of
body_of-none = refl

pub body_of-more : (c : PlainCmd) (cs : List PlainCmd) → body_of (c ∷ cs) ≡ command_before c (body_of cs)
unfolding body_of
body_of-more c cs = refl

pub before-do : (a : Act) (b : Body) → command_before (cmd.Do a) b ≡ act (action_of a) b
unfolding command_before
before-do a b = refl

pub before-if : (t : Calc) (ys ns : Vec PlainCmd Global) (b : Body) → command_before (shown.If t ys ns) b ≡ cases (term_of t) (body_of ys.items) (body_of ns.items) b
unfolding command_before
before-if t ys ns b =
    ap (λ u. cases (term_of t) u (row_body (hidden-the_row-PlainCmd-0 ns)) b) (row_body-vec ys)
    ∙ ap (λ u. cases (term_of t) (body_of ys.items) u b) (row_body-vec ns)

pub before-goto : (x : Name) (b : Body) → command_before (cmd.Goto x) b ≡ goto x b
unfolding command_before
before-goto x b = refl

pub before-fall : (b : Body) → command_before cmd.Fall b ≡ fall b
unfolding command_before
before-fall b = refl

pub follow-more : (a b c : Body) → follow (follow a b) c ≡ follow a (follow b c)
follow-more stop b c = refl
follow-more (act d rest) b c = ap (act d) (follow-more rest b c)
follow-more (cases t y n rest) b c = ap (cases t y n) (follow-more rest b c)
follow-more (goto x rest) b c = ap (goto x) (follow-more rest b c)
follow-more (fall rest) b c = ap fall (follow-more rest b c)

pub follow-before : (c : PlainCmd) (a b : Body) → follow (command_before c a) b ≡ command_before c (follow a b)
unfolding command_before
follow-before (cmd.Do d) a b = refl
follow-before (cmd.If' t n y m o) a b = refl
follow-before (cmd.Goto x) a b = refl
follow-before cmd.Fall a b = refl

-- a pushed command stands behind the others
pub body_of-push : (cs : List PlainCmd) (c : PlainCmd) → body_of (cs ++ c ∷ []) ≡ follow (body_of cs) (command_before c stop)
unfolding body_of
body_of-push [] c = refl
body_of-push (d ∷ cs) c = ap (command_before d) (body_of-push cs c) ∙ sym (follow-before d (body_of cs) (command_before c stop))

-- states

row_forest-items : {n : _} (row : Row_of-PlainState n) → row_forest row ≡ forest_of (items-the_row-PlainState n row)
unfolding row_forest forest_of
row_forest-items end_of-PlainState = refl
row_forest-items (more_of-PlainState s rest) = ap (state_before s) (row_forest-items rest)

-- a state as code takes it
pub state_before-out : (s : PlainState) (f : Forest)
    → state_before s f ≡ state (out-PlainState s).name (body_of (out-PlainState s).cmds.items) (forest_of (out-PlainState s).children.items) f
unfolding state_before out-PlainState shown-the_row-PlainState-0 out
state_before-out (PlainState' x cs shape row) f =
    ap (λ (kids : Forest). state x (body_of cs.items) kids f) (row_forest-items row ∙ ap forest_of (sym (items_shown-the_row-PlainState-0 shape row)))

-- and as code makes it
pub state_before-roll : (s : PlainState-F PlainState) (f : Forest) → state_before (roll-PlainState s) f ≡ state s.name (body_of s.cmds.items) (forest_of s.children.items) f
state_before-roll s f =
    state_before-out (roll-PlainState s) f
    ∙ ap (λ (y : PlainState-F PlainState). state y.name (body_of y.cmds.items) (forest_of y.children.items) f) (out-roll-PlainState s)

pub forest_of-none : forest_of [] ≡ none
unfolding forest_of
forest_of-none = refl

pub forest_of-more : (s : PlainState) (ss : List PlainState) → forest_of (s ∷ ss) ≡ state_before s (forest_of ss)
unfolding forest_of
forest_of-more s ss = refl

-- a state that stands in front of none stands in front of all behind it
pub planted-before : (s : PlainState) (f g : Forest) → planted (state_before s f) g ≡ state_before s (planted f g)
unfolding state_before
planted-before (PlainState' x cs n kids) f g = refl

-- a pushed state stands behind the others
pub forest_of-push : (ss : List PlainState) (s : PlainState) → forest_of (ss ++ s ∷ []) ≡ planted (forest_of ss) (state_before s none)
unfolding forest_of
forest_of-push [] s = refl
forest_of-push (r ∷ ss) s = ap (state_before r) (forest_of-push ss s) ∙ sym (planted-before r (forest_of ss) (state_before s none))

pub ruleset commands = (body_of-none, body_of-push, before-do, before-if, before-goto, before-fall)

pub ruleset states = (forest_of-none, forest_of-push, state_before-out, state_before-roll)

pub ruleset views = (before-do, before-if, before-goto, before-fall, state_before-out, state_before-roll)
