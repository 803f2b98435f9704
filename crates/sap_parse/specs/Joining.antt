-- Parts of productions, as functions of the reader take them.
use Rattle.std.specs.Prelude.{◌≡◌, ℕ, List}
use Rattle.sap_parse.specs.Grammar as g
use Rattle.sap_parse.specs.Stages.{Stage, IsNumber, IsSign}
use Rattle.sap_parse.specs.declared.role.Role.TheVariants as r
use Rattle.sap_lex.specs.declared.token.Sign.TheVariants as s
use Rattle.sap_tree.specs.Syntax as t
use Rattle.sap_tree.specs.Trees.{arms_before, arms_of, expressions_of, states_of, tags_of}
use Rattle.sap_tree.specs.declared.place.Spot.{Spot}
use Rattle.sap_tree.specs.declared.syntax.Arm.{Arm}
use Rattle.sap_tree.specs.declared.syntax.Expr.{Expr}
use Rattle.sap_tree.specs.declared.syntax.State.{State}
use Rattle.sap_tree.specs.declared.syntax.TagExpr.{TagExpr}

-- The parts of one list of expressions, and then those of another.
abbrev pub join : t.Expressions → t.Expressions → t.Expressions
join t.no_part ys = ys
join (t.and_part x xs) ys = t.and_part x (join xs ys)

-- The tokens between are the expressions that were added, each behind a comma.
abbrev pub Collects : Stage → List Expr → List Expr → Stage → Type 0
Collects old before after new = (xs : t.Expressions)
    × (expressions_of after ≡ join (expressions_of before) xs) × g.Parts old xs new

-- Behind the `[` of an index: the index, `]`, and slices of the cell.
pub data Indexes (spot : Spot) (memory : List ℕ) : Stage → t.Expression → Stage → Type 0 where
  indexes : {p1 p2 p3 q : Stage} {i x : t.Expression} → g.Expr p1 i p2
      → IsSign p2 r.Closing s.CloseBracket p3 → g.Cuts (t.cell_at spot memory i) p3 x q
      → Indexes spot memory p1 x q

-- Behind the `[` of a slice of x: the bounds, `]`, and slices of the slice.
pub data Slices (spot : Spot) (of : t.Expression) : Stage → t.Expression → Stage → Type 0 where
  slices : {p1 p2 p3 p4 p5 q : Stage} {high low : ℕ} {x : t.Expression}
      → IsNumber p1 r.Inner high p2 → IsSign p2 r.Inner s.Colon p3 → IsNumber p3 r.Inner low p4
      → IsSign p4 r.Closing s.CloseBracket p5
      → g.Cuts (t.slice spot of high low) p5 x q → Slices spot of p1 x q

-- The parts of one list of tag expressions, and then those of another.
abbrev pub join_tags : t.TagExpressions → t.TagExpressions → t.TagExpressions
join_tags t.no_tag ys = ys
join_tags (t.and_tag x xs) ys = t.and_tag x (join_tags xs ys)

-- The tokens between are the tag expressions that were added, each behind a comma.
abbrev pub CollectsTags : Stage → List TagExpr → List TagExpr → Stage → Type 0
CollectsTags old before after new = (xs : t.TagExpressions)
    × (tags_of after ≡ join_tags (tags_of before) xs) × g.Texprs old xs new

-- The commands of one list, and then those of another.
abbrev pub join_commands : t.CommandList → t.CommandList → t.CommandList
join_commands t.no_command ys = ys
join_commands (t.and_command x xs) ys = t.and_command x (join_commands xs ys)

-- The tokens between are the constants that were added, each behind a comma.
abbrev pub CollectsConstants : Stage → List Expr → List Expr → Stage → Type 0
CollectsConstants old before after new =
    (xs : t.Expressions) × (expressions_of after ≡ join (expressions_of before) xs) × g.Constants old xs new

-- The tokens between are the arms that were added, and the block after `else`.
abbrev pub CollectsArms : (depth : ℕ) → Stage → List Arm → List Arm → (last : t.CommandBlock) → Stage → Type 0
CollectsArms depth old before after last new =
    (xs : t.Arms) × (arms_of after last ≡ arms_before before xs) × g.Arms depth old xs new

-- The states of one list, and then those of another.
abbrev pub join_states : t.StateList → t.StateList → t.StateList
join_states t.no_state ys = ys
join_states (t.and_state x xs) ys = t.and_state x (join_states xs ys)

-- The tokens between are the top-level states that were added.
abbrev pub CollectsStates : Stage → List State → List State → Stage → Type 0
CollectsStates old before after new = (xs : t.StateList)
    × (states_of after ≡ join_states (states_of before) xs) × g.States 1 old xs new
