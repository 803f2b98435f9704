-- Resolving keeps expressions, commands and states in which no fault of names and widths stands.
use Rattle.std.proofs.lemmas.Bool.{cond_both}
use Rattle.sap_lemmas.proofs.Common.{◌≡◌, ℕ, suc, ◌+◌, ◌-◌, ◌≤◌, Bool, not, ◌&&◌, List, [], Option, Some, None, refl, sym, ap, ◌∙◌, subst, arith, inl, inr, length, eqb, eqb-true}
use Rattle.sap_names.proofs.NameFaultsLemmas.{no_fault}
use Rattle.sap_names.proofs.FaultLemmas.{nil_left, nil_right}
use Rattle.sap_tree.specs.Syntax.{Expression, literal, sized_literal, variable, cell_at, unary_of, binary_of, choice, slice, concat, zero_extend, Expressions, no_part, and_part, TagExpression, level_of, tag_at, level_at, join_of, TagExpressions, no_tag, and_tag, SimpleCommand, assign, write, set_tag, set_cell_tag, go_to, fall_to_child, Command, lone, try, if_else, try_then, case_of, Arms, last_arm, and_arm, CommandBlock, command_block, ElseBlock, no_else, with_else, CommandList, no_command, and_command, StateTree, state_node, StateList, no_state, and_state}
use Rattle.sap_tree.specs.declared.name.Mention.{Mention}
use Rattle.sap_tree.specs.declared.syntax.Under.{Under}
use Rattle.sap_tree.specs.declared.syntax.Kind.{Kind}
use Rattle.sap_tree.specs.declared.syntax.Kind.TheVariants.{Dynamic, Enforced}
use Rattle.sap_text.specs.declared.place.Place.{Place}
use Rattle.sap_lattice.specs.Levels.{Levels}
use Rattle.sap_maps.specs.Term.{Term, constant, join}
use Rattle.sap_names.specs.Prelude.{what_is, fault_if, unsettled, use_faults, name_faults, expression_faults, parts_faults, level_faults, tag_faults, tags_faults, simple_faults, command_faults, block_faults, else_faults, arms_faults, constants_faults, commands_faults, under_faults, kind_faults, state_faults, states_faults, own, width_of, family, asked_left, asked_right, asked_one, index_width, register_width, cell_width, is_sound}
use Rattle.sap_names.specs.declared.entity.Entity.{Entity}
use Rattle.sap_names.specs.declared.kind.Declared.{Declared}
use Rattle.sap_names.specs.declared.kind.Use.{Use as Uses}
use Rattle.sap_names.specs.declared.kind.Use.TheVariants.{Assigned as assigned, Indexed as indexed, Read as reading, Entered as entered, Retagged as retagged}
use Rattle.sap_names.specs.declared.kind.Code.TheVariants.{E7}
use Rattle.sap_meaning.specs.Prelude.{World, entity, kind_is_state, Home}
use Rattle.sap_meaning.specs.Program as program
use Rattle.sap_resolved.specs.Worlds.{states_in, declared_level, authority_level, authority_of, is_dynamic_kind}
use Rattle.sap_shape.specs.Sites.{Surroundings, simple_sites, command_sites, block_sites, state_sites}
use Rattle.sap_resolved.specs.Terms.{known, entity_number, widened, term_of, parts_of, level_term, level_terms}
use Rattle.sap_resolved.specs.Resolve.{site_number, step_of, number_of, numbers_of, command_of, arms_of, block_of, else_of, list_of, state_of, group_of}
use Rattle.sap_resolved.specs.Fill.{filled_step, filled, filled_arms, filled_block, filled_state, filled_group}
use Rattle.sap_resolved.proofs.sized.Faultless.{none_two, none_three, none_four, settled_own, some_sound, sound_whole, extended_is}
use Rattle.sap_resolved.proofs.premises.Places.{Laid, LaidState, laid_first, laid_rest, laid_below, laid_entity, laid_name, laid_named, state_entity}
use Rattle.sap_resolved.specs.Kept.Kept.{IsNamed, IsLevel, IsTerm, AreParts, IsTag, AreTags, IsStep, IsConstant, AreConstants, IsCommand, AreArms, IsBlock, IsElse, IsList, IsAuthority, HasKind, IsState, IsGroup}
use Rattle.sap_resolved.proofs.kept.Names.{named_at, level_has_name}

-- What is known of the names of a design: a used name is that of the entity of its number.
pub record Known (es : List Entity) : Type 0 where
  pub named : (how : Uses) (name : List ℕ) (place : Place) → use_faults how (what_is es name) place ≡ [] → IsNamed es (entity_number es name) name

-- zeros in front of what lacks them
widened_is : (es : List Entity) (e : Expression) (width u : ℕ) (t : Term ℕ) → own (what_is es) e ≡ Some u → u ≤ width → IsTerm es e t
    → (spot : _) → IsTerm es (zero_extend spot e width) (widened (known (own (what_is es) e)) width t)
widened_is es e width u t o l h spot =
    subst (λ (m : Option ℕ). IsTerm es (zero_extend spot e width) (widened (known m) width t)) (sym o)
    (cond_both (eqb u width) t (join (constant (width - u) 0) t) (λ (x : Term ℕ). IsTerm es (zero_extend spot e width) x)
    (λ i. inl (o ∙ ap (λ (n : ℕ). Some n) (eqb-true u width i), h)) (λ i. inr (u, width - u, t, o, omega arith, refl, h)))

-- a width that settles where none is asked for
first_width : (o : Option ℕ) (place : Place) → fault_if (unsettled o None) E7 place ≡ [] → (u : ℕ) × (o ≡ Some u)
first_width o place h = settled_own o (no_fault (unsettled o None) E7 place h)

module _ (es : List Entity) (k : Known es) where
  abbrev what : List ℕ → Option Declared
  what = what_is es

  -- an expression of which no width is asked has one
  own_width : (e : Expression) → expression_faults what e None ≡ [] → (u : ℕ) × (own what e ≡ Some u)
  own_width (literal spot value) h = first_width None spot.first (nil_left _ _ h)
  own_width (sized_literal spot width value) h = first_width (own what (sized_literal spot width value)) spot.first (nil_left _ _ (nil_left _ _ h))
  own_width (variable spot name) h = first_width (own what (variable spot name)) spot.first (nil_left _ _ h)
  own_width (cell_at spot name index) h = first_width (own what (cell_at spot name index)) spot.first (nil_left _ _ (nil_left _ _ h))
  own_width (unary_of spot operator e) h = first_width (own what (unary_of spot operator e)) spot.first (nil_left _ _ h)
  own_width (binary_of spot operator a b) h = first_width (own what (binary_of spot operator a b)) spot.first (nil_left _ _ (nil_left _ _ h))
  own_width (choice spot c a b) h = first_width (own what (choice spot c a b)) spot.first (nil_left _ _ (nil_left _ _ (nil_left _ _ h)))
  own_width (slice spot e high low) h = first_width (own what (slice spot e high low)) spot.first (nil_left _ _ (nil_left _ _ h))
  own_width (concat spot parts) h = first_width (own what (concat spot parts)) spot.first (nil_left _ _ (nil_left _ _ h))
  own_width (zero_extend spot e width) h = first_width (own what (zero_extend spot e width)) spot.first (nil_left _ _ (nil_left _ _ h))

  mutual
    pub term_kept : (e : Expression) (asked : Option ℕ) → expression_faults what e asked ≡ [] → IsTerm es e (term_of es e asked)
    term_kept (literal spot value) asked h = refl
    term_kept (sized_literal spot width value) asked h = (refl, refl)
    term_kept (variable spot name) asked h =
        k.named reading name spot.at (none_two (fault_if (unsettled (own what (variable spot name)) asked) E7 spot.first) (use_faults reading (what name) spot.at) h).1
    term_kept (cell_at spot name index) asked h =
        let n = none_three _ _ _ h in
        (k.named indexed name spot.at n.1, term_kept index (index_width (what name)) n.2)
    term_kept (unary_of spot operator e) asked h =
        let inner = asked_one operator (width_of what (unary_of spot operator e) asked) in
        let n = none_two (fault_if (unsettled (own what (unary_of spot operator e)) asked) E7 spot.first) (expression_faults what e inner) h in
        (refl, term_kept e inner n.1)
    term_kept (binary_of spot operator a b) asked h =
        let whole = width_of what (binary_of spot operator a b) asked in
        let left = asked_left (family operator) whole (own what a) (own what b) in
        let right = asked_right (family operator) whole (own what a) (own what b) in
        let n = none_three _ _ _ h in
        (refl, term_kept a left n.1, term_kept b right n.2)
    term_kept (choice spot c a b) asked h =
        let whole = width_of what (choice spot c a b) asked in
        let n = none_four _ _ _ _ h in
        (term_kept c (Some 1) n.1, term_kept a whole n.2, term_kept b whole n.3)
    term_kept (slice spot e high low) asked h = (term_kept e None (nil_right _ _ h), refl, refl)
    term_kept (concat spot parts) asked h = parts_kept parts (nil_right _ _ h)
    term_kept (zero_extend spot e width) asked h =
        let o = own what (zero_extend spot e width) in
        let n = none_three _ _ _ h in
        let u = own_width e n.2 in
        let s = sound_whole o (is_sound (own what e)) (no_fault (not (is_sound o) && is_sound (own what e)) E7 spot.first n.1)
        (some_sound (own what e) u.0 u.1) in
        let x = extended_is (own what e) width s.0 s.1 in
        widened_is es e width x.0 (term_of es e None) x.1 x.2 (term_kept e None n.2) spot

    parts_kept : (parts : Expressions) → parts_faults what parts ≡ [] → AreParts es parts (parts_of es parts)
    parts_kept no_part h = refl
    parts_kept (and_part e no_part) h = term_kept e None (none_two (expression_faults what e None) [] h).0
    parts_kept (and_part e (and_part f parts)) h =
        let n = none_two (expression_faults what e None) (parts_faults what (and_part f parts)) h in
        (term_kept e None n.0, parts_kept (and_part f parts) n.1)

  module _ (ls : Levels) where
    mutual
      tag_kept : (t : TagExpression) → tag_faults ls.names what t ≡ [] → IsTag ls es t (level_term ls es t)
      tag_kept (level_of m) h = level_has_name ls m h
      tag_kept (tag_at place e) h = term_kept e None h
      tag_kept (level_at place e) h = term_kept e None h
      tag_kept (join_of place parts) h = tags_kept parts h

      tags_kept : (ts : TagExpressions) → tags_faults ls.names what ts ≡ [] → AreTags ls es ts (level_terms ls es ts)
      tags_kept no_tag h = refl
      tags_kept (and_tag t no_tag) h = tag_kept t (none_two (tag_faults ls.names what t) [] h).0
      tags_kept (and_tag t (and_tag u ts)) h =
          let n = none_two (tag_faults ls.names what t) (tags_faults ls.names what (and_tag u ts)) h in
          (tag_kept t n.0, tags_kept (and_tag u ts) n.1)

-- constants
constant_kept : (e : Expression) → IsConstant e (number_of e)
constant_kept (literal spot value) = refl
constant_kept _ = refl

constants_kept : (parts : Expressions) → AreConstants parts (numbers_of parts)
constants_kept no_part = tt
constants_kept (and_part e parts) = (constant_kept e, constants_kept parts)

-- commands in the body of a state
module _ (ls : Levels) (h : Surroundings) (k : Known h.entities) (w : World) (at : Home) where
  abbrev names : List Entity
  names = h.entities

  abbrev means : List ℕ → Option Declared
  means = what_is h.entities

  step_kept : (n : ℕ) (c : SimpleCommand) → simple_faults ls.names means c ≡ [] → IsStep ls names c (filled_step w at (step_of ls h n c))
  step_kept n (assign target e) f =
      let asked = register_width (means target.name) in
      let p = none_two (name_faults assigned means target) (expression_faults means e asked) f in
      (k.named assigned target.name target.place p.0, term_kept names k e asked p.1)
  step_kept n (write target index e) f =
      let asked = cell_width (means target.name) in
      let p = none_three (name_faults indexed means target) (expression_faults means index (index_width (means target.name))) (expression_faults means e asked) f in
      (k.named indexed target.name target.place p.0, term_kept names k index (index_width (means target.name)) p.1, term_kept names k e asked p.2)
  step_kept n (set_tag place target tag) f =
      let p = none_two (name_faults retagged means target) (tag_faults ls.names means tag) f in
      (k.named retagged target.name target.place p.0, tag_kept names k ls tag p.1)
  step_kept n (set_cell_tag place target index tag) f =
      let p = none_three (name_faults indexed means target) (expression_faults means index (index_width (means target.name))) (tag_faults ls.names means tag) f in
      (k.named indexed target.name target.place p.0, term_kept names k index (index_width (means target.name)) p.1, tag_kept names k ls tag p.2)
  step_kept n (go_to place target) f = k.named entered target.name target.place f
  step_kept n (fall_to_child place) f = tt

  mutual
    command_kept : (n : ℕ) (c : Command) → command_faults ls.names means c ≡ [] → IsCommand ls names c (filled w at (command_of ls h n c))
    command_kept n (lone c) f = step_kept (site_number h n c) c f
    command_kept n (try c place handler) f =
        let p = none_two (simple_faults ls.names means c) (block_faults ls.names means handler) f in
        (step_kept (site_number h n c) c p.0, block_kept (n + length (simple_sites h c)) handler p.1)
    command_kept n (if_else place condition then_block else_block) f =
        let p = none_three (expression_faults means condition (Some 1)) (block_faults ls.names means then_block) (else_faults ls.names means else_block) f in
        (term_kept names k condition (Some 1) p.0, block_kept n then_block p.1, else_kept (n + length (block_sites h then_block)) else_block p.2)
    command_kept n (try_then c place accepted refused) f =
        let p = none_three (simple_faults ls.names means c) (block_faults ls.names means accepted) (block_faults ls.names means refused) f in (
          step_kept (site_number h n c) c p.0,
          block_kept (n + length (simple_sites h c)) accepted p.1,
          block_kept (n + length (simple_sites h c) + length (block_sites h accepted)) refused p.2,
        )
    command_kept n (case_of place e arms) f =
        let p = none_two (expression_faults means e None) (arms_faults ls.names means (own means e) arms) f in
        (term_kept names k e None p.0, arms_kept n (own means e) arms p.1)

    arms_kept : (n : ℕ) (asked : Option ℕ) (arms : Arms) → arms_faults ls.names means asked arms ≡ [] → AreArms ls names arms (filled_arms w at (arms_of ls h n arms))
    arms_kept n asked (last_arm b) f = block_kept n b f
    arms_kept n asked (and_arm constants b arms) f =
        let p = none_three (constants_faults means asked constants) (block_faults ls.names means b) (arms_faults ls.names means asked arms) f in
        (constants_kept constants, block_kept n b p.1, arms_kept (n + length (block_sites h b)) asked arms p.2)

    pub block_kept : (n : ℕ) (b : CommandBlock) → block_faults ls.names means b ≡ [] → IsBlock ls names b (filled_block w at (block_of ls h n b))
    block_kept n (command_block cs after) f = list_kept n cs f

    else_kept : (n : ℕ) (b : ElseBlock) → else_faults ls.names means b ≡ [] → IsElse ls names b (filled_block w at (else_of ls h n b))
    else_kept n no_else f = refl
    else_kept n (with_else b) f = block_kept n b f

    list_kept : (n : ℕ) (cs : CommandList) → commands_faults ls.names means cs ≡ [] → IsList ls names cs (filled_block w at (list_of ls h n cs))
    list_kept n no_command f = tt
    list_kept n (and_command c cs) f =
        let p = none_two (command_faults ls.names means c) (commands_faults ls.names means cs) f in
        (command_kept n c p.0, list_kept (n + length (command_sites h c)) cs p.1)

-- kinds of declarations and of states
authority_kept : (ls : Levels) (le : ℕ → ℕ → Bool) (level : Mention) (under : Option Under) → under_faults ls.names le level under ≡ []
    → IsAuthority ls under (authority_level ls under)
authority_kept ls le level None h = refl
authority_kept ls le level (Some under) h = level_has_name ls under.level (none_two (level_faults ls.names under.level) _ h).0

-- an entity of this kind
pub record IsOfKind (ls : Levels) (kind : Kind) (e : program.Entity) : Type 0 where
  pub dynamic : e.dynamic ≡ is_dynamic_kind kind
  pub declared : e.declared ≡ declared_level ls kind
  pub authority : e.authority ≡ authority_of ls kind

pub kind_kept : (ls : Levels) (le : ℕ → ℕ → Bool) (kind : Kind) (e : program.Entity) → kind_faults ls.names le kind ≡ [] → IsOfKind ls kind e → HasKind ls kind e
kind_kept ls le (Dynamic place) e h i = i.dynamic
kind_kept ls le (Enforced level under) e h i =
    let n = none_two (level_faults ls.names level) (under_faults ls.names le level under) h in (
      i.dynamic,
      subst (λ (x : ℕ). IsLevel ls x level.name) (sym i.declared) (level_has_name ls level n.0),
      subst (λ (x : ℕ). IsAuthority ls under x) (sym i.authority) (authority_kept ls le level under n.1),
    )

module _ (ls : Levels) (le : ℕ → ℕ → Bool) (es : List Entity) (w : World) (k : Known es) where
  mutual
    state_kept : (p n m x : ℕ) (s : StateTree) → LaidState ls es w m x s → state_faults ls.names le (what_is es) s ≡ []
        → IsState ls es w s (filled_state w p (state_of ls es n x s))
    state_kept p n m x (state_node place name kind body children) laid f =
        let h : Surroundings = record { entities = es; home = record { name = name.name; kind = kind; children = children } } in
        let at : Home = record { state = x; parent = p; children = group_of ls es (n + length (block_sites h body)) (x + 1) children } in
        let j = none_three (kind_faults ls.names le kind) (block_faults ls.names (what_is es) body) (states_faults ls.names le (what_is es) children) f in
        let e : entity w x ≡ state_entity ls m x kind children = laid_entity ls es w m x place name kind body children laid in
        let i : IsOfKind ls kind (entity w x) = record {
          dynamic = ap (λ (g : program.Entity). g.dynamic) e;
          declared = ap (λ (g : program.Entity). g.declared) e;
          authority = ap (λ (g : program.Entity). g.authority) e;
        } in (
          named_at es x name.name (laid_named ls es w m x place name kind body children laid) (laid_name ls es w m x place name kind body children laid),
          ap (λ (g : program.Entity). kind_is_state g.kind) e,
          kind_kept ls le kind (entity w x) j.0 i,
          block_kept ls h k w at n body j.1,
          group_kept x (n + length (block_sites h body)) 0 (x + 1) children (laid_below ls es w m x place name kind body children laid) j.2,
        )

    pub group_kept : (p n m x : ℕ) (g : StateList) → Laid ls es w m x g → states_faults ls.names le (what_is es) g ≡ []
        → IsGroup ls es w g (filled_group w p (group_of ls es n x g))
    group_kept p n m x no_state laid f = tt
    group_kept p n m x (and_state s rest) laid f =
        let j = none_two (state_faults ls.names le (what_is es) s) (states_faults ls.names le (what_is es) rest) f in (
          state_kept p n m x s (laid_first ls es w m x s rest laid) j.0,
          group_kept p (n + length (state_sites es s)) (suc m) (x + states_in s) rest (laid_rest ls es w m x s rest laid) j.1,
        )
