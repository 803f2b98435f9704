-- What commands and states are seen as.
use Rattle.std.specs.Prelude.{List, [], ◌∷◌}
use Rattle.sap_ir.specs.Calcs.{term_of, action_of}
use Rattle.sap_ir.specs.declared.plain.nested.PlainCmd.{PlainCmd, Row_of-PlainCmd, end_of-PlainCmd, more_of-PlainCmd}
use Rattle.sap_ir.specs.declared.plain.nested.PlainCmd.TheVariants as cmd
use Rattle.sap_ir.specs.declared.plain.nested.PlainState.{PlainState, PlainState', Row_of-PlainState, end_of-PlainState, more_of-PlainState}
use Rattle.sap_ir.specs.Plain.Nested.{Body, stop, act, cases, goto, fall, Forest, none, state}

-- A command in front of others.
unfoldable mutual
  pub command_before : PlainCmd → Body → Body
  command_before (cmd.Do a) rest = act (action_of a) rest
  command_before (cmd.If' t n then_part m else_part) rest =
      cases (term_of t) (row_body then_part) (row_body else_part) rest
  command_before (cmd.Goto x) rest = goto x rest
  command_before cmd.Fall rest = fall rest

  pub row_body : {n : _} → Row_of-PlainCmd n → Body
  row_body end_of-PlainCmd = stop
  row_body (more_of-PlainCmd c rest) = command_before c (row_body rest)

-- The body that stored commands stand for.
unfoldable pub body_of : List PlainCmd → Body
body_of [] = stop
body_of (c ∷ cs) = command_before c (body_of cs)

-- A state in front of others.
unfoldable mutual
  pub state_before : PlainState → Forest → Forest
  state_before (PlainState' x cs n kids) rest = state x (body_of cs.items) (row_forest kids) rest

  pub row_forest : {n : _} → Row_of-PlainState n → Forest
  row_forest end_of-PlainState = none
  row_forest (more_of-PlainState s rest) = state_before s (row_forest rest)

-- The states that stored ones stand for.
unfoldable pub forest_of : List PlainState → Forest
forest_of [] = none
forest_of (s ∷ ss) = state_before s (forest_of ss)

-- One body behind another.
abbrev pub follow : Body → Body → Body
follow stop b = b
follow (act a rest) b = act a (follow rest b)
follow (cases t then_part else_part rest) b = cases t then_part else_part (follow rest b)
follow (goto x rest) b = goto x (follow rest b)
follow (fall rest) b = fall (follow rest b)

-- One group behind another.
abbrev pub planted : Forest → Forest → Forest
planted none f = f
planted (state x b kids rest) f = state x b kids (planted rest f)
