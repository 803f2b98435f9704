-- In the terms of designs without faults the condition of each choice has one bit.
use Rattle.std.proofs.Common as common
use Rattle.sap_lemmas.proofs.Common.{◌≡◌, ℕ, ◌+◌, List, [], length, Bool, not, ◌&&◌, Option, Some, refl, inl, inr, eqb, cases_Bool}
use Rattle.sap_tree.specs.Syntax as tree
use Rattle.sap_tree.specs.Syntax.{Expression, cell_at, unary_of, binary_of, choice, slice, concat, zero_extend, Expressions, no_part, and_part}
use Rattle.sap_names.specs.Prelude.{what_is, use_faults, name_faults, fault_if, unsettled, expression_faults, parts_faults, tag_faults, tags_faults, simple_faults, block_faults, kind_faults, state_faults, states_faults, own, own_parts, register_width, cell_width, index_width, sliced, extended, family, asked_left, asked_right, asked_one, is_sound, all_sound}
use Rattle.sap_names.specs.declared.entity.Entity.{Entity}
use Rattle.sap_names.specs.declared.kind.Declared.{Declared}
use Rattle.sap_names.specs.declared.kind.Code.TheVariants.{E7}
use Rattle.sap_names.specs.declared.kind.Use.TheVariants.{Indexed as indexed}
use Rattle.sap_names.specs.declared.kind.Use.TheVariants as uses
use Rattle.sap_names.specs.Widths as widths
use Rattle.sap_maps.specs.Term.{Term, constant, read, cell, one, two, choose, join, part}
use Rattle.sap_meaning.specs.Program as program
use Rattle.sap_meaning.specs.Prelude.{World, LevelTerm, Step, assign, write, retag, retag_cell, go_to, fall_to_child, Block, State, Group, Every, EveryInArms, EveryInBlock, Asks, EveryBody, EveryBodyIn, Home}
use Rattle.sap_meaning.specs.Walks.{EveryLevel}
use Rattle.sap_meaning.specs.Expressions as meaning
use Rattle.sap_lattice.specs.Levels.{Levels}
use Rattle.sap_resolved.specs.Terms.{known, term_of, parts_of, widened, level_term, level_terms}
use Rattle.sap_resolved.specs.Worlds.{states_in}
use Rattle.sap_shape.specs.Sites.{Surroundings, block_sites, state_sites}
use Rattle.sap_resolved.specs.Resolve.{step_of, block_of, state_of, group_of}
use Rattle.sap_resolved.specs.Fill.{filled_step, filled_group}
use Rattle.sap_resolved.proofs.FillLemmas.{every_filled_group}
use Rattle.sap_resolved.proofs.TreeWalks.{Named, Fitting, every_named_in_block, every_resolved_in_block}
use Rattle.sap_resolved.proofs.sized.Faultless.{none_two, none_three, none_four}
use Rattle.sap_resolved.proofs.sized.Declared.{Resolved}
use Rattle.sap_resolved.proofs.sized.Operators.{asked_width}
use Rattle.sap_resolved.proofs.sized.Expressions.{expression_fitted}

-- the condition of each choice has one bit

abbrev pub Conditions : World → Term ℕ → Type 0
Conditions w (constant u n) = Unit {0}
Conditions w (read x) = Unit {0}
Conditions w (cell m i) = Conditions w i
Conditions w (one op a) = Conditions w a
Conditions w (two op a b) = Conditions w a × Conditions w b
Conditions w (choose c a b) = (meaning.width_of w c ≡ 1) × Conditions w c × Conditions w a × Conditions w b
Conditions w (join a b) = Conditions w a × Conditions w b
Conditions w (part a hi lo) = Conditions w a

abbrev pub LevelConditions : World → LevelTerm → Type 0
LevelConditions w n = EveryLevel (λ level. Unit {0}) (Conditions w) n

abbrev pub StepConditions : World → Step → Type 0
StepConditions w (assign site x e) = Conditions w e
StepConditions w (write site m i e) = Conditions w i × Conditions w e
StepConditions w (retag site x n) = LevelConditions w n
StepConditions w (retag_cell site m j n) = Conditions w j × LevelConditions w n
StepConditions w (go_to site target) = Unit {0}
StepConditions w (fall_to_child site hang) = Unit {0}

abbrev pub CommandConditions : World → program.Command → Type 0
CommandConditions w c = Every (Asks (StepConditions w) (Conditions w)) c

abbrev pub ArmsConditions : World → program.Arms → Type 0
ArmsConditions w arms = EveryInArms (Asks (StepConditions w) (Conditions w)) arms

abbrev pub BlockConditions : World → Block → Type 0
BlockConditions w b = EveryInBlock (Asks (StepConditions w) (Conditions w)) b

abbrev pub StateConditions : World → State → Type 0
StateConditions w t = EveryBody (BlockConditions w) t

abbrev pub GroupConditions : World → Group → Type 0
GroupConditions w g = EveryBodyIn (BlockConditions w) g

widened_conditions : (w : World) (t : Term ℕ) (from u : ℕ) → Conditions w t → Conditions w (widened from u t)
widened_conditions w t from u c = elim (cases_Bool (eqb from u)) [ inl q ↦ rw q c | inr q ↦ rw q (tt, c) ]

module _ (es : List Entity) (w : World) (r : Resolved es w) where
  abbrev what : List ℕ → Option Declared
  what = what_is es

  mutual
    pub conditions : (e : Expression) (asked : Option ℕ) → expression_faults what e asked ≡ [] → Conditions w (term_of es e asked)
    conditions (cell_at spot name index) asked h =
        conditions index (index_width (what name))
        (none_three (fault_if (unsettled (cell_width (what name)) asked) E7 spot.first) (use_faults indexed (what name) spot.at)
        (expression_faults what index (index_width (what name))) h).2
    conditions (unary_of spot o e) asked h =
        let whole = widths.width_of what (unary_of spot o e) asked in
        conditions e (asked_one o whole) (none_two (fault_if (unsettled (own what (unary_of spot o e)) asked) E7 spot.first) (expression_faults what e (asked_one o whole)) h).1
    conditions (binary_of spot o x y) asked h =
        let whole = widths.width_of what (binary_of spot o x y) asked in
        let left = asked_left (family o) whole (own what x) (own what y) in
        let right = asked_right (family o) whole (own what x) (own what y) in
        let n = none_three (fault_if (unsettled (own what (binary_of spot o x y)) asked) E7 spot.first) (expression_faults what x left)
        (expression_faults what y right) h in
        (conditions x left n.1, conditions y right n.2)
    conditions (choice spot c x y) asked h =
        let whole = widths.width_of what (choice spot c x y) asked in
        let n = none_four (fault_if (unsettled (own what (choice spot c x y)) asked) E7 spot.first) (expression_faults what c (Some 1))
        (expression_faults what x whole) (expression_faults what y whole) h in (
          asked_width w (term_of es c (Some 1)) (own what c) (Some 1) 1 refl (expression_fitted es w r c (Some 1) n.1),
          conditions c (Some 1) n.1,
          conditions x whole n.2,
          conditions y whole n.3,
        )
    conditions (slice spot e high low) asked h =
        let mine = sliced (own what e) high low in
        conditions e common.None (none_three (fault_if (unsettled mine asked) E7 spot.first) (fault_if (not (is_sound mine) && is_sound (own what e)) E7 spot.first)
        (expression_faults what e common.None) h).2
    conditions (concat spot parts) asked h =
        let mine = own_parts what parts in
        parts_conditions parts (none_three (fault_if (unsettled mine asked) E7 spot.first) (fault_if (not (is_sound mine) && all_sound what parts) E7 spot.first)
        (parts_faults what parts) h).2
    conditions (zero_extend spot e u) asked h =
        let mine = extended (own what e) u in
        widened_conditions w (term_of es e common.None) (known (own what e)) u
        (conditions e common.None (none_three (fault_if (unsettled mine asked) E7 spot.first) (fault_if (not (is_sound mine) && is_sound (own what e)) E7 spot.first)
        (expression_faults what e common.None) h).2)
    conditions _ asked h = tt

    parts_conditions : (ps : Expressions) → parts_faults what ps ≡ [] → Conditions w (parts_of es ps)
    parts_conditions no_part h = tt
    parts_conditions (and_part e no_part) h = conditions e common.None (none_two (expression_faults what e common.None) [] h).0
    parts_conditions (and_part e (and_part g ps)) h =
        let n = none_two (expression_faults what e common.None) (parts_faults what (and_part g ps)) h in
        (conditions e common.None n.0, parts_conditions (and_part g ps) n.1)

  mutual
    tag_conditions : (ls : Levels) (t : tree.TagExpression) → tag_faults ls.names what t ≡ [] → LevelConditions w (level_term ls es t)
    tag_conditions ls (tree.level_of m) h = tt
    tag_conditions ls (tree.tag_at place e) h = conditions e common.None h
    tag_conditions ls (tree.level_at place e) h = conditions e common.None h
    tag_conditions ls (tree.join_of place parts) h = tags_conditions ls parts h

    tags_conditions : (ls : Levels) (ts : tree.TagExpressions) → tags_faults ls.names what ts ≡ [] → LevelConditions w (level_terms ls es ts)
    tags_conditions ls tree.no_tag h = tt
    tags_conditions ls (tree.and_tag t tree.no_tag) h = tag_conditions ls t (none_two (tag_faults ls.names what t) [] h).0
    tags_conditions ls (tree.and_tag t (tree.and_tag u parts)) h =
        let n = none_two (tag_faults ls.names what t) (tags_faults ls.names what (tree.and_tag u parts)) h in
        (tag_conditions ls t n.0, tags_conditions ls (tree.and_tag u parts) n.1)

module _ (ls : Levels) (h : Surroundings) (w : World) (r : Resolved h.entities w) where
  abbrev known_as : List ℕ → Option Declared
  known_as = what_is h.entities

  step_conditions : (n : ℕ) (c : tree.SimpleCommand) → simple_faults ls.names known_as c ≡ [] → StepConditions w (step_of ls h n c)
  step_conditions n (tree.assign target e) f =
      conditions h.entities w r e (register_width (known_as target.name))
      (none_two (name_faults uses.Assigned known_as target) (expression_faults known_as e (register_width (known_as target.name))) f).1
  step_conditions n (tree.write target i e) f =
      let s = none_three (name_faults uses.Indexed known_as target) (expression_faults known_as i (index_width (known_as target.name)))
      (expression_faults known_as e (cell_width (known_as target.name))) f in
      (conditions h.entities w r i (index_width (known_as target.name)) s.1, conditions h.entities w r e (cell_width (known_as target.name)) s.2)
  step_conditions n (tree.set_tag place target t) f =
      tag_conditions h.entities w r ls t (none_two (name_faults uses.Retagged known_as target) (tag_faults ls.names known_as t) f).1
  step_conditions n (tree.set_cell_tag place target i t) f =
      let s = none_three (name_faults uses.Indexed known_as target) (expression_faults known_as i (index_width (known_as target.name))) (tag_faults ls.names known_as t) f in
      (conditions h.entities w r i (index_width (known_as target.name)) s.1, tag_conditions h.entities w r ls t s.2)
  step_conditions n _ f = tt

  block_conditions : (k : ℕ) (b : tree.CommandBlock) → block_faults ls.names known_as b ≡ [] → BlockConditions w (block_of ls h k b)
  block_conditions k b f =
      let named = every_named_in_block ls.names known_as b f in
      every_resolved_in_block ls h (Named ls.names known_as) (Named ls.names known_as) (Fitting ls.names known_as) (Fitting ls.names known_as)
      (StepConditions w) (Conditions w) (λ n c p r'. step_conditions n c p) (λ e p r'. conditions h.entities w r e (Some 1) p)
      (λ e p r'. conditions h.entities w r e common.None p) k b named named

module _ (ls : Levels) (le : ℕ → ℕ → Bool) (es : List Entity) (w : World) (r : Resolved es w) where
  mutual
    state_conditions : (k x : ℕ) (s : tree.StateTree) → state_faults ls.names le (what_is es) s ≡ [] → StateConditions w (state_of ls es k x s)
    state_conditions k x (tree.state_node place name kind body children) f =
        let h : Surroundings = record { entities = es; home = record { name = name.name; kind = kind; children = children } } in
        let s = none_three (kind_faults ls.names le kind) (block_faults ls.names (what_is es) body) (states_faults ls.names le (what_is es) children) f in
        (block_conditions ls h w r k body s.1, group_conditions (k + length (block_sites h body)) (x + 1) children s.2)

    pub group_conditions : (k x : ℕ) (g : tree.StateList) → states_faults ls.names le (what_is es) g ≡ [] → GroupConditions w (group_of ls es k x g)
    group_conditions k x tree.no_state f = tt
    group_conditions k x (tree.and_state s rest) f =
        let n = none_two (state_faults ls.names le (what_is es) s) (states_faults ls.names le (what_is es) rest) f in
        (state_conditions k x s n.0, group_conditions (k + length (state_sites es s)) (x + states_in s) rest n.1)

-- filling in what hangs changes none
module _ (w : World) where
  filled_step_conditions : (at : Home) (k : Step) → StepConditions w k → StepConditions w (filled_step w at k)
  filled_step_conditions at (assign site x e) h = h
  filled_step_conditions at _ h = h

  pub filled_group_conditions : (p : ℕ) (g : Group) → GroupConditions w g → GroupConditions w (filled_group w p g)
  filled_group_conditions p g h = every_filled_group w (StepConditions w) (StepConditions w) (Conditions w) filled_step_conditions p g h
