-- In the commands and states of a design without faults every width is from 1 to 64.
use Rattle.sap_lemmas.proofs.Common.{◌≡◌, ℕ, ◌+◌, List, [], Bool, true, ◌&&◌, Option, Some, None, length, nat_le, three_parts, and_parts}
use Rattle.sap_tree.specs.Prelude.{fits, tag_fits, most_blocks, Expression, TagExpression, level_of, tag_at, level_at, join_of, TagExpressions, no_tag, and_tag, SimpleCommand, assign, write, set_tag, set_cell_tag, CommandBlock, StateTree, state_node, StateList, no_state, and_state, is_expression, is_tag, are_tags, has_two_tags, is_outermost, is_outermost_tag, is_simple, is_block, block_depth, is_kind, is_state, are_states, is_name}
use Rattle.sap_tree.specs.declared.version.Version.{Version}
use Rattle.sap_lattice.specs.Levels.{Levels}
use Rattle.sap_names.specs.Prelude.{what_is, name_faults, expression_faults, tag_faults, tags_faults, simple_faults, block_faults, kind_faults, state_faults, states_faults, register_width, cell_width, index_width}
use Rattle.sap_names.specs.declared.kind.Declared.{Declared}
use Rattle.sap_names.specs.declared.entity.Entity.{Entity}
use Rattle.sap_names.specs.declared.kind.Use.TheVariants.{Indexed as indexed, Assigned as assigned, Retagged as retagged}
use Rattle.sap_meaning.specs.Program.{World}
use Rattle.sap_shape.specs.Sites.{Surroundings, block_sites, state_sites}
use Rattle.sap_resolved.specs.Worlds.{states_in}
use Rattle.sap_resolved.specs.Terms.{term_of, level_term, level_terms}
use Rattle.sap_resolved.specs.Resolve.{step_of, block_of, state_of, group_of}
use Rattle.sap_resolved.specs.Sized.Ranges.{RangedTerm, RangedLevel, RangedStep, RangedBlock, RangedState, RangedGroup}
use Rattle.sap_resolved.proofs.TreeWalks.{Whole, Outermost, every_whole_in_block, Named, Fitting, every_named_in_block, every_resolved_in_block}
use Rattle.sap_resolved.proofs.sized.Faultless.{none_two, none_three}
use Rattle.sap_resolved.proofs.sized.Declared.{Resolved}
use Rattle.sap_resolved.proofs.sized.OwnWidths.{Ranges, range_none, range_one, cell_ranges, index_ranges, register_ranges}
use Rattle.sap_resolved.proofs.sized.RangedTerms.{term_ranged}

module _ (version : Version) (ls : Levels) (es : List Entity) (w : World) (r : Resolved es w) where
  outer_ranged : (e : Expression) (asked : Option ℕ) → is_outermost version e ≡ true → Ranges asked → expression_faults (what_is es) e asked ≡ []
      → RangedTerm w (term_of es e asked)
  outer_ranged e asked i a h = term_ranged version es w r e asked (and_parts (is_expression version e) (fits e) i).0 a h

  mutual
    unfolding is_tag are_tags

    tag_ranged : (t : TagExpression) → is_tag version t ≡ true → tag_faults ls.names (what_is es) t ≡ [] → RangedLevel w (level_term ls es t)
    tag_ranged (level_of m) i h = tt
    tag_ranged (tag_at place e) i h = term_ranged version es w r e None i range_none h
    tag_ranged (level_at place e) i h = term_ranged version es w r e None i range_none h
    tag_ranged (join_of place parts) i h = tags_ranged parts (and_parts (has_two_tags parts) (are_tags version parts) i).1 h

    tags_ranged : (ts : TagExpressions) → are_tags version ts ≡ true → tags_faults ls.names (what_is es) ts ≡ [] → RangedLevel w (level_terms ls es ts)
    tags_ranged no_tag i h = tt
    tags_ranged (and_tag t no_tag) i h =
        tag_ranged t (and_parts (is_tag version t) true i).0 (none_two (tag_faults ls.names (what_is es) t) [] h).0
    tags_ranged (and_tag t (and_tag u ts)) i h =
        let j = and_parts (is_tag version t) (are_tags version (and_tag u ts)) i in
        let n = none_two (tag_faults ls.names (what_is es) t) (tags_faults ls.names (what_is es) (and_tag u ts)) h in
        (tag_ranged t j.0 n.0, tags_ranged (and_tag u ts) j.1 n.1)

  outer_tag_ranged : (t : TagExpression) → is_outermost_tag version t ≡ true → tag_faults ls.names (what_is es) t ≡ [] → RangedLevel w (level_term ls es t)
  outer_tag_ranged t i h = tag_ranged t (and_parts (is_tag version t) (tag_fits t) i).0 h

module _ (version : Version) (ls : Levels) (h : Surroundings) (w : World) (r : Resolved h.entities w) where
  abbrev es : List Entity
  es = h.entities

  abbrev what : List ℕ → Option Declared
  what = what_is h.entities

  step_ranged : (k : ℕ) (c : SimpleCommand) → is_simple version c ≡ true → simple_faults ls.names what c ≡ [] → RangedStep w (step_of ls h k c)
  unfolding is_simple
  step_ranged k (assign target e) i f =
      let asked = register_width (what target.name) in
      let j = and_parts (is_name version target.name) (is_outermost version e) i in
      let n = none_two (name_faults assigned what target) (expression_faults what e asked) f in
      outer_ranged version ls es w r e asked j.1 (register_ranges (what target.name)) n.1
  step_ranged k (write target index e) i f =
      let asked = cell_width (what target.name) in
      let j = three_parts (is_name version target.name) (is_outermost version index) (is_outermost version e) i in
      let n = none_three _ _ _ f in (
        outer_ranged version ls es w r index (index_width (what target.name)) j.1 (index_ranges (what target.name)) n.1,
        outer_ranged version ls es w r e asked j.2 (cell_ranges (what target.name)) n.2,
      )
  step_ranged k (set_tag place target tag) i f =
      let n = none_two (name_faults retagged what target) (tag_faults ls.names what tag) f in
      outer_tag_ranged version ls es w r tag (and_parts (is_name version target.name) (is_outermost_tag version tag) i).1 n.1
  step_ranged k (set_cell_tag place target index tag) i f =
      let j = three_parts (is_name version target.name) (is_outermost version index) (is_outermost_tag version tag) i in
      let n = none_three (name_faults indexed what target) (expression_faults what index (index_width (what target.name))) (tag_faults ls.names what tag) f in
      (outer_ranged version ls es w r index (index_width (what target.name)) j.1 (index_ranges (what target.name)) n.1, outer_tag_ranged version ls es w r tag j.2 n.2)
  step_ranged k _ i f = tt

  pub block_ranged : (k : ℕ) (b : CommandBlock) → is_block version b ≡ true → block_faults ls.names what b ≡ [] → RangedBlock w (block_of ls h k b)
  block_ranged k b i f =
      every_resolved_in_block ls h (Whole version) (Named ls.names what) (Outermost version) (Fitting ls.names what) (RangedStep w) (RangedTerm w) step_ranged
      (λ e j n. outer_ranged version ls es w r e (Some 1) j range_one n) (λ e j n. outer_ranged version ls es w r e None j range_none n) k b
      (every_whole_in_block version b i) (every_named_in_block ls.names what b f)

module _ (version : Version) (ls : Levels) (le : ℕ → ℕ → Bool) (es : List Entity) (w : World) (r : Resolved es w) where
  mutual
    unfolding is_state are_states

    state_ranged : (k x : ℕ) (s : StateTree) → is_state version s ≡ true → state_faults ls.names le (what_is es) s ≡ [] → RangedState w (state_of ls es k x s)
    state_ranged k x (state_node place name kind body children) i f =
        let n = none_three (kind_faults ls.names le kind) (block_faults ls.names (what_is es) body) (states_faults ls.names le (what_is es) children) f in
        let h : Surroundings = record { entities = es; home = record { name = name.name; kind = kind; children = children } } in
        let j = and_parts (is_name version name.name && is_kind version kind && is_block version body && nat_le (block_depth body) most_blocks) (are_states version children) i in
        let m = and_parts (is_name version name.name && is_kind version kind && is_block version body) (nat_le (block_depth body) most_blocks) j.0 in
        let b = and_parts (is_name version name.name && is_kind version kind) (is_block version body) m.0 in
        (block_ranged version ls h w r k body b.1 n.1, group_ranged (k + length (block_sites h body)) (x + 1) children j.1 n.2)

    pub group_ranged : (k x : ℕ) (g : StateList) → are_states version g ≡ true → states_faults ls.names le (what_is es) g ≡ [] → RangedGroup w (group_of ls es k x g)
    group_ranged k x no_state i f = tt
    group_ranged k x (and_state s rest) i f =
        let j = and_parts (is_state version s) (are_states version rest) i in
        let n = none_two (state_faults ls.names le (what_is es) s) (states_faults ls.names le (what_is es) rest) f in
        (state_ranged k x s j.0 n.0, group_ranged (k + length (state_sites es s)) (x + states_in s) rest j.1 n.1)
