-- Commands, bodies and states in which no fault stands: their names are those of entities of the right kind, and their widths fit.
use Rattle.sap_lemmas.proofs.Common.{◌≡◌, ℕ, ◌+◌, ◌^◌, ◌<◌, List, [], Bool, true, ◌||◌, Option, Some, None, refl, sym, ap, subst, ◌∙◌, length, AllByRecursion, pow_pos, or_right}
use Rattle.sap_tree.specs.Syntax.{Expression, Expressions, literal, no_part, and_part, SimpleCommand, assign, write, set_tag, set_cell_tag, go_to, fall_to_child, Command, lone, try, if_else, try_then, case_of, Arms, last_arm, CommandBlock, command_block, ElseBlock, no_else, with_else, CommandList, no_command, and_command, StateTree, state_node, StateList, no_state, and_state}
use Rattle.sap_tree.specs.declared.name.Mention.{Mention}
use Rattle.sap_tree.specs.Syntax as tree
use Rattle.sap_lattice.specs.Levels.{Levels}
use Rattle.sap_names.specs.Prelude.{what_is, fits_use, name_faults, expression_faults, tag_faults, simple_faults, command_faults, constants_faults, arms_faults, block_faults, else_faults, commands_faults, kind_faults, state_faults, states_faults, own, else_of as first_width, register_width, cell_width, index_width}
use Rattle.sap_names.specs.declared.kind.Declared.{Declared}
use Rattle.sap_names.specs.declared.kind.Declared.TheVariants.{Register, State}
use Rattle.sap_names.specs.declared.entity.Entity.{Entity}
use Rattle.sap_names.specs.declared.kind.Use.TheVariants.{Assigned as assigned, Indexed as indexed, Entered as entered, Retagged as retagged}
use Rattle.sap_meaning.specs.Program as program
use Rattle.sap_meaning.specs.Prelude.{World, entity, width, is_register, is_memory, is_state, kind_is_register, kind_is_state, width_of, arm_constants, Every, EveryInArms, EveryInBlock, SizedTerm, Indexes, AreWithin, SizedStep, SizedState, SizedGroup, SizedCommand, FineTerm}
use Rattle.sap_shape.specs.Sites.{Surroundings, simple_sites, command_sites, block_sites, state_sites}
use Rattle.sap_resolved.specs.Worlds.{states_in}
use Rattle.sap_resolved.specs.Terms.{entity_number, term_of}
use Rattle.sap_resolved.specs.Resolve.{site_number, step_of, number_of, numbers_of, command_of, arms_of, block_of, else_of, list_of, state_of, group_of}
use Rattle.sap_resolved.specs.WellNamed.{WellNamedStep, WellNamedCommand, WellNamedState, WellNamedGroup}
use Rattle.sap_resolved.proofs.Lookup.{Stands}
use Rattle.sap_resolved.proofs.sized.Faultless.{none_two, none_three, sound_same}
use Rattle.sap_resolved.proofs.sized.Declared.{Sound}
use Rattle.sap_resolved.proofs.sized.Operators.{asked_width}
use Rattle.sap_resolved.proofs.sized.Expressions.{used, indexed_name, expression_fitted}
use Rattle.sap_resolved.proofs.sized.Tags.{Ready, tag_fitted}

-- the entity of a name that is assigned
record AssignedAs (w : World) (x : Declared) (n : ℕ) : Type 0 where
  pub kind : is_register w n ≡ true
  pub width : register_width (Some x) ≡ Some (width w n)

assigned_as : (w : World) (x : Declared) (n : ℕ) → fits_use assigned x ≡ true → Sound x → Stands x (entity w n) → AssignedAs w x n
assigned_as w (Register u) n h s i =
    record { kind = ap (λ k. kind_is_register k) i.0; width = sound_same u s ∙ ap (λ v. Some v) (sym i.1) }
assigned_as w _ n h s i = cc

entered_as : (w : World) (x : Declared) (n : ℕ) → fits_use entered x ≡ true → Stands x (entity w n) → is_state w n ≡ true
entered_as w State n h i = i.0
entered_as w _ n h i = cc

retagged_as : (w : World) (x : Declared) (n : ℕ) → fits_use retagged x ≡ true → Stands x (entity w n) → (is_register w n || is_state w n) ≡ true
retagged_as w (Register u) n h i = ap (λ k. kind_is_register k || kind_is_state k) i.0
retagged_as w State n h i = or_right (is_register w n) (is_state w n) i.0
retagged_as w _ n h i = cc

module _ (ls : Levels) (h : Surroundings) (w : World) (r : Ready ls h.entities w) where
  abbrev es : List Entity
  es = h.entities

  abbrev what : List ℕ → Option Declared
  what = what_is h.entities

  abbrev Fits : program.Command → Type 0
  Fits c = Every (WellNamedCommand w) c × Every (SizedCommand w) c

  abbrev BlockFits : program.Block → Type 0
  BlockFits b = EveryInBlock (WellNamedCommand w) b × EveryInBlock (SizedCommand w) b

  -- an index and what it indexes
  record Indexing (name : List ℕ) (i : Expression) : Type 0 where
    pub memory : is_memory w (entity_number es name) ≡ true
    pub fine : FineTerm w (term_of es i (index_width (what name)))
    pub sized : SizedTerm w (term_of es i (index_width (what name)))
    pub indexes : Indexes w (entity_number es name) (term_of es i (index_width (what name)))
    pub cells : cell_width (what name) ≡ Some (width w (entity_number es name))

  indexing : (m : Mention) (i : Expression) → name_faults indexed what m ≡ [] → expression_faults what i (index_width (what m.name)) ≡ [] → Indexing m.name i
  indexing m i n f =
      let u = indexed_name es w r.names m.name m.place n in
      let t = expression_fitted es w r.names i (index_width (what m.name)) f in
      let a = asked_width w (term_of es i (index_width (what m.name))) (own what i) (index_width (what m.name)) u.2.bits
      (ap (λ o. index_width o) u.1 ∙ u.2.asked) t in
      record {
        memory = u.2.kind;
        fine = t.fine;
        sized = (t.fits, t.indexed);
        indexes = ap (λ (k : ℕ). 2 ^ k) a ∙ u.2.deep;
        cells = ap (λ o. cell_width o) u.1 ∙ u.2.width;
      }

  step_fits : (k : ℕ) (c : SimpleCommand) → simple_faults ls.names what c ≡ [] → WellNamedStep w (step_of ls h k c) × SizedStep w (step_of ls h k c)
  step_fits k (assign target e) f =
      let asked = register_width (what target.name) in
      let n = none_two (name_faults assigned what target) (expression_faults what e asked) f in
      let u = used assigned (what target.name) target.place n.0 in
      let x = entity_number es target.name in
      let a = assigned_as w u.0 x u.2 (r.names.sound target.name u.0 u.1) (r.names.stands target.name u.0 u.1) in
      let t = expression_fitted es w r.names e asked n.1 in
      let i = asked_width w (term_of es e asked) (own what e) asked (width w x) (ap (λ o. register_width o) u.1 ∙ a.width) t in
      ((a.kind, t.fine), ((t.fits, t.indexed), i))
  step_fits k (write target index e) f =
      let asked = cell_width (what target.name) in
      let n = none_three _ _ _ f in
      let m = indexing target index n.0 n.1 in
      let t = expression_fitted es w r.names e asked n.2 in
      let i = asked_width w (term_of es e asked) (own what e) asked (width w (entity_number es target.name)) m.cells t in
      ((m.memory, m.fine, t.fine), (m.sized, m.indexes, (t.fits, t.indexed), i))
  step_fits k (set_tag place target tag) f =
      let n = none_two (name_faults retagged what target) (tag_faults ls.names what tag) f in
      let u = used retagged (what target.name) target.place n.0 in
      let t = tag_fitted ls es w r tag n.1 in
      ((retagged_as w u.0 (entity_number es target.name) u.2 (r.names.stands target.name u.0 u.1), r.names.within target.name u.0 u.1, t.0), t.1)
  step_fits k (set_cell_tag place target index tag) f =
      let n = none_three (name_faults indexed what target) (expression_faults what index (index_width (what target.name))) (tag_faults ls.names what tag) f in
      let m = indexing target index n.0 n.1 in
      let t = tag_fitted ls es w r tag n.2 in
      ((m.memory, m.fine, t.0), (m.sized, m.indexes, t.1))
  step_fits k (go_to place target) f =
      let u = used entered (what target.name) target.place f in
      ((entered_as w u.0 (entity_number es target.name) u.2 (r.names.stands target.name u.0 u.1), r.names.within target.name u.0 u.1), tt)
  step_fits k (fall_to_child place) f = (tt, tt)

  -- constants that are compared with numbers of a width

  some_number : (u : ℕ) → 0 < 2 ^ u
  some_number u = pow_pos u

  constant_within : (u : ℕ) (e : Expression) → expression_faults what e (Some u) ≡ [] → number_of e < 2 ^ u
  constant_within u (literal spot n) f = (expression_fitted es w r.names (literal spot n) (Some u) f).fits
  constant_within u (tree.sized_literal spot width n) f =
      let t = expression_fitted es w r.names (tree.sized_literal spot width n) (Some u) f in
      subst (λ (v : ℕ). n < 2 ^ v) (asked_width w (term_of es (tree.sized_literal spot width n) (Some u)) (own what (tree.sized_literal spot width n)) (Some u) u refl t) t.fits
  constant_within u _ f = some_number u

  constants_within : (u : ℕ) (cs : Expressions) → constants_faults what (Some u) cs ≡ [] → AreWithin u (numbers_of cs)
  constants_within u no_part f = tt
  constants_within u (and_part e cs) f =
      let n = none_two (expression_faults what e (Some u)) (constants_faults what (Some u) cs) f in
      (constant_within u e n.0, constants_within u cs n.1)

  first_alone : (o : Option ℕ) → first_width o None ≡ o
  first_alone (Some u) = refl
  first_alone None = refl

  mutual
    command_fits : (k : ℕ) (c : Command) → command_faults ls.names what c ≡ [] → Fits (command_of ls h k c)
    command_fits k (lone c) f = step_fits (site_number h k c) c f
    command_fits k (try c place handler) f =
        let n = none_two (simple_faults ls.names what c) (block_faults ls.names what handler) f in
        let s = step_fits (site_number h k c) c n.0 in
        let b = block_fits (k + length (simple_sites h c)) handler n.1 in
        ((s.0, b.0), (s.1, b.1))
    command_fits k (if_else place condition one other) f =
        let n = none_three (expression_faults what condition (Some 1)) (block_faults ls.names what one) (else_faults ls.names what other) f in
        let t = expression_fitted es w r.names condition (Some 1) n.0 in
        let i = asked_width w (term_of es condition (Some 1)) (own what condition) (Some 1) 1 refl t in
        let a = block_fits k one n.1 in
        let b = else_fits (k + length (block_sites h one)) other n.2 in
        ((t.fine, a.0, b.0), (((t.fits, t.indexed), i), a.1, b.1))
    command_fits k (try_then c place one other) f =
        let n = none_three (simple_faults ls.names what c) (block_faults ls.names what one) (block_faults ls.names what other) f in
        let s = step_fits (site_number h k c) c n.0 in
        let a = block_fits (k + length (simple_sites h c)) one n.1 in
        let b = block_fits (k + length (simple_sites h c) + length (block_sites h one)) other n.2 in
        ((s.0, a.0, b.0), (s.1, a.1, b.1))
    command_fits k (case_of place e arms) f =
        let n = none_two (expression_faults what e None) (arms_faults ls.names what (own what e) arms) f in
        let t = expression_fitted es w r.names e None n.0 in
        let mine : own what e ≡ Some (width_of w (term_of es e None)) = sym (first_alone (own what e)) ∙ t.wide in
        let a = arms_fit (width_of w (term_of es e None)) k arms (subst (λ (o : Option ℕ). arms_faults ls.names what o arms ≡ []) mine n.1) in
        ((t.fine, a.0), (((t.fits, t.indexed), a.1), a.2))

    arms_fit : (u k : ℕ) (arms : Arms) → arms_faults ls.names what (Some u) arms ≡ []
        → EveryInArms (WellNamedCommand w) (arms_of ls h k arms) × AllByRecursion (AreWithin u) (arm_constants (arms_of ls h k arms))
        × EveryInArms (SizedCommand w) (arms_of ls h k arms)
    arms_fit u k (last_arm b) f = let a = block_fits k b f in (a.0, tt, a.1)
    arms_fit u k (tree.and_arm constants b arms) f =
        let n = none_three (constants_faults what (Some u) constants) (block_faults ls.names what b) (arms_faults ls.names what (Some u) arms) f in
        let a = block_fits k b n.1 in
        let rest = arms_fit u (k + length (block_sites h b)) arms n.2 in
        ((a.0, rest.0), (constants_within u constants n.0, rest.1), (a.1, rest.2))

    pub block_fits : (k : ℕ) (b : CommandBlock) → block_faults ls.names what b ≡ [] → BlockFits (block_of ls h k b)
    block_fits k (command_block cs after) f = list_fits k cs f

    else_fits : (k : ℕ) (b : ElseBlock) → else_faults ls.names what b ≡ [] → BlockFits (else_of ls h k b)
    else_fits k no_else f = (tt, tt)
    else_fits k (with_else b) f = block_fits k b f

    list_fits : (k : ℕ) (cs : CommandList) → commands_faults ls.names what cs ≡ [] → BlockFits (list_of ls h k cs)
    list_fits k no_command f = (tt, tt)
    list_fits k (and_command c cs) f =
        let n = none_two (command_faults ls.names what c) (commands_faults ls.names what cs) f in
        let a = command_fits k c n.0 in
        let b = list_fits (k + length (command_sites h c)) cs n.1 in
        ((a.0, b.0), (a.1, b.1))

module _ (ls : Levels) (le : ℕ → ℕ → Bool) (es : List Entity) (w : World) (r : Ready ls es w) where
  mutual
    state_fits : (k x : ℕ) (s : StateTree) → state_faults ls.names le (what_is es) s ≡ []
        → WellNamedState w (state_of ls es k x s) × SizedState w (state_of ls es k x s)
    state_fits k x (state_node place name kind body children) f =
        let n = none_three (kind_faults ls.names le kind) (block_faults ls.names (what_is es) body) (states_faults ls.names le (what_is es) children) f in
        let h : Surroundings = record { entities = es; home = record { name = name.name; kind = kind; children = children } } in
        let a = block_fits ls h w r k body n.1 in
        let b = group_fits (k + length (block_sites h body)) (x + 1) children n.2 in
        ((a.0, b.0), (a.1, b.1))

    pub group_fits : (k x : ℕ) (g : StateList) → states_faults ls.names le (what_is es) g ≡ []
        → WellNamedGroup w (group_of ls es k x g) × SizedGroup w (group_of ls es k x g)
    group_fits k x no_state f = (tt, tt)
    group_fits k x (and_state s rest) f =
        let n = none_two (state_faults ls.names le (what_is es) s) (states_faults ls.names le (what_is es) rest) f in
        let a = state_fits k x s n.0 in
        let b = group_fits (k + length (state_sites es s)) (x + states_in s) rest n.1 in
        ((a.0, b.0), (a.1, b.1))
