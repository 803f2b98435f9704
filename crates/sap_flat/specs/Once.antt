-- The assignments and writes of bodies, each of which the flat program has once.
use Rattle.std.specs.Prelude.{◌≡◌, ◌&&◌, Bool, true, not, List, [], ◌∷◌, ◌++◌, map, filter}
use Rattle.sap_net.specs.Names.{is_among}
use Rattle.sap_ir.specs.Source.{Action, set, put, Command, Source}
use Rattle.sap_ir.specs.IsGuarded.{declared}
use Rattle.sap_ir.specs.Plain.Nested.{Body, stop, act, cases, goto, fall, Forest, none, state, Nested, declarations, seats}

-- Those of a body, in the order of the text.
abbrev pub body_actions : Body → List Action
body_actions stop = []
body_actions (act a rest) = a ∷ body_actions rest
body_actions (cases t then_part else_part rest) =
    (body_actions then_part ++ body_actions else_part) ++ body_actions rest
body_actions (goto x rest) = body_actions rest
body_actions (fall rest) = body_actions rest

-- Those of all bodies.
abbrev pub forest_actions : Forest → List Action
forest_actions none = []
forest_actions (state x b kids rest) = (body_actions b ++ forest_actions kids) ++ forest_actions rest

-- A write, or an assignment to a declared name that is no register of a current child.
abbrev pub is_own : Nested → Action → Bool
is_own p (set x t) = is_among x (declared (declarations p)) && not (is_among x (seats p))
is_own p (put m i t) = true

-- The actions of guarded commands, in order.
abbrev pub actions_of : List Command → List Action
actions_of cs = map (λ c. c.act) cs

-- Each body stands once, in the order of the text, whatever number of falls may enter its state: beside the actions of
-- the bodies only gates and the registers of current children are set.
abbrev pub BodiesOnce : Nested → Source → Type 0
BodiesOnce p s = filter (is_own p) (actions_of s.commands) ≡ forest_actions p.states
