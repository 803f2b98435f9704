-- The faults of names and widths, places aside.
use Rattle.std.proofs.Common.{◌≡◌, ℕ, List, [], ◌∷◌, ◌++◌, map, Bool, true, not, ◌&&◌, Option, Some, None, refl}
use Rattle.std.proofs.lemmas.List.{map-append}
use Rattle.sap_text.specs.declared.place.Place.{Place}
use Rattle.sap_tree.specs.Syntax.{Expression, variable, cell_at, unary_of, binary_of, choice, slice, concat, zero_extend, Expressions, no_part, and_part, TagExpression, level_of, tag_at, level_at, join_of, TagExpressions, no_tag, and_tag, SimpleCommand, assign, write, set_tag, set_cell_tag, go_to, fall_to_child, Command, lone, try, if_else, try_then, case_of, Arms, last_arm, and_arm, CommandBlock, command_block, ElseBlock, no_else, with_else, CommandList, no_command, and_command, StateTree, state_node, StateList, no_state, and_state, DesignTree}
use Rattle.sap_tree.specs.Bare.{nowhere, bare_expression, bare_expressions, bare_tag, bare_tags, bare_simple, bare_command, bare_block, bare_else, bare_arms, bare_list, bare_kind, bare_start, bare_declaration, bare_state, bare_states, bare}
use Rattle.sap_tree.specs.declared.syntax.Decl.{Decl}
use Rattle.sap_tree.specs.declared.syntax.Decl.TheVariants.{Input, Register, Memory}
use Rattle.sap_tree.specs.declared.syntax.Kind.{Kind}
use Rattle.sap_tree.specs.declared.syntax.Kind.TheVariants.{Dynamic, Enforced}
use Rattle.sap_tree.specs.declared.syntax.Numeral.{Numeral}
use Rattle.sap_names.specs.declared.kind.Declared.{Declared}
use Rattle.sap_names.specs.declared.kind.Use.{Use}
use Rattle.sap_names.specs.declared.kind.Use.TheVariants.{Assigned, Indexed, Retagged, Entered}
use Rattle.sap_names.specs.declared.kind.Code.TheVariants.{E3, E4, E5, E7}
use Rattle.sap_names.specs.declared.entity.Entity.{Entity}
use Rattle.sap_names.specs.Entities.{Lookup, what_is, entities_of}
use Rattle.sap_names.specs.NameFaults.{unsettled, fits_use, use_faults, expression_faults, parts_faults, constants_faults, tag_faults, tags_faults, simple_faults, command_faults, block_faults, else_faults, arms_faults, commands_faults, kind_faults, start_faults, declaration_faults, declarations_faults, state_faults, states_faults, is_declared, twice, design_name_faults}
use Rattle.sap_names.specs.Widths.{own_parts, is_sound, all_sound}
use Rattle.sap_layout.proofs.Entities.{aside_entity, entities_aside, what_aside}
use Rattle.sap_layout.proofs.Terms.{own_bare, own_parts_bare}
use Rattle.sap_layout.proofs.Asides.{Aside, none, one, both}

module _ (what : Lookup) where
  sound_aside : (parts : Expressions) → all_sound what (bare_expressions parts) ≡ all_sound what parts
  unfolding bare_expressions
  sound_aside no_part = refl
  sound_aside (and_part e parts) = rw (own_bare what e, sound_aside parts)

  use_aside : (how : Use) (o : Option Declared) (place : Place) → Aside (use_faults how o nowhere) (use_faults how o place)
  use_aside how None place = one true E4 place
  use_aside how (Some declared) place = one (not (fits_use how declared)) E5 place

  mutual
    unfolding bare_expression bare_expressions

    expression_aside : (e : Expression) (asked : Option ℕ) → Aside (expression_faults what (bare_expression e) asked) (expression_faults what e asked)
    expression_aside (variable spot name) asked = search (both, one, use_aside)
    expression_aside (cell_at spot name index) asked = search (both, one, use_aside, expression_aside index)
    expression_aside (unary_of spot o e) asked = rw (own_bare what e) (search (both, one, expression_aside e))
    expression_aside (binary_of spot o a b) asked = rw (own_bare what a, own_bare what b) (search (both, one, expression_aside a, expression_aside b))
    expression_aside (choice spot c a b) asked =
        rw (own_bare what a, own_bare what b) (search (both, one, expression_aside c, expression_aside a, expression_aside b))
    expression_aside (slice spot e high low) asked = rw (own_bare what e) (search (both, one, expression_aside e))
    expression_aside (concat spot parts) asked = rw (own_parts_bare what parts, sound_aside parts)
        (both (both (one (unsettled (own_parts what parts) asked) E7 spot.first)
        (one (not (is_sound (own_parts what parts)) && all_sound what parts) E7 spot.first)) (each_aside parts))
    expression_aside (zero_extend spot e width) asked = rw (own_bare what e) (search (both, one, expression_aside e))
    expression_aside _ asked = search (both, one)

    each_aside : (parts : Expressions) → Aside (parts_faults what (bare_expressions parts)) (parts_faults what parts)
    each_aside no_part = none
    each_aside (and_part e parts) = both (expression_aside e _) (each_aside parts)

  constants_aside : (asked : Option ℕ) (constants : Expressions)
      → Aside (constants_faults what asked (bare_expressions constants)) (constants_faults what asked constants)
  unfolding bare_expressions
  constants_aside asked no_part = none
  constants_aside asked (and_part e constants) = both (expression_aside e _) (constants_aside asked constants)

module _ (levels : List (List ℕ)) (what : Lookup) where
  mutual
    unfolding bare_tag bare_tags

    tag_aside : (t : TagExpression) → Aside (tag_faults levels what (bare_tag t)) (tag_faults levels what t)
    tag_aside (level_of m) = search one
    tag_aside (tag_at place e) = expression_aside what e None
    tag_aside (level_at place e) = expression_aside what e None
    tag_aside (join_of place parts) = tags_aside parts

    tags_aside : (parts : TagExpressions) → Aside (tags_faults levels what (bare_tags parts)) (tags_faults levels what parts)
    tags_aside no_tag = none
    tags_aside (and_tag t parts) = both (tag_aside t) (tags_aside parts)

  simple_aside : (k : SimpleCommand) → Aside (simple_faults levels what (bare_simple k)) (simple_faults levels what k)
  unfolding bare_simple
  simple_aside (assign target e) = both (use_aside what Assigned (what target.name) target.place) (expression_aside what e _)
  simple_aside (write target index e) =
      both (both (use_aside what Indexed (what target.name) target.place) (expression_aside what index _)) (expression_aside what e _)
  simple_aside (set_tag place target tag) = both (use_aside what Retagged (what target.name) target.place) (tag_aside tag)
  simple_aside (set_cell_tag place target index tag) =
      both (both (use_aside what Indexed (what target.name) target.place) (expression_aside what index _)) (tag_aside tag)
  simple_aside (go_to place target) = use_aside what Entered (what target.name) target.place
  simple_aside (fall_to_child place) = none

  mutual
    unfolding bare_command bare_block bare_else bare_arms bare_list

    command_aside : (c : Command) → Aside (command_faults levels what (bare_command c)) (command_faults levels what c)
    command_aside (lone k) = simple_aside k
    command_aside (try k place handler) = both (simple_aside k) (block_aside handler)
    command_aside (if_else place e one other) = both (both (expression_aside what e _) (block_aside one)) (else_aside other)
    command_aside (try_then k place one other) = both (both (simple_aside k) (block_aside one)) (block_aside other)
    command_aside (case_of place e arms) = rw (own_bare what e) (both (expression_aside what e None) (arms_aside arms _))

    block_aside : (b : CommandBlock) → Aside (block_faults levels what (bare_block b)) (block_faults levels what b)
    block_aside (command_block list after) = list_aside list

    else_aside : (other : ElseBlock) → Aside (else_faults levels what (bare_else other)) (else_faults levels what other)
    else_aside no_else = none
    else_aside (with_else b) = block_aside b

    arms_aside : (arms : Arms) (asked : Option ℕ) → Aside (arms_faults levels what asked (bare_arms arms)) (arms_faults levels what asked arms)
    arms_aside (last_arm b) asked = block_aside b
    arms_aside (and_arm constants b arms) asked = both (both (constants_aside what asked constants) (block_aside b)) (arms_aside arms asked)

    list_aside : (list : CommandList) → Aside (commands_faults levels what (bare_list list)) (commands_faults levels what list)
    list_aside no_command = none
    list_aside (and_command c list) = both (command_aside c) (list_aside list)

module _ (levels : List (List ℕ)) (le : ℕ → ℕ → Bool) where
  kind_aside : (k : Kind) → Aside (kind_faults levels le (bare_kind k)) (kind_faults levels le k)
  kind_aside (Dynamic place) = none
  kind_aside (Enforced level None) = search (none, one, both)
  kind_aside (Enforced level (Some under)) = search (one, both)

  start_aside : (width : ℕ) (start : Option Numeral) → Aside (start_faults width (bare_start start)) (start_faults width start)
  start_aside width None = none
  start_aside width (Some n) = search one

  declaration_aside : (d : Decl) → Aside (declaration_faults levels le (bare_declaration d)) (declaration_faults levels le d)
  declaration_aside (Input place name width) = search one
  declaration_aside (Register place name width kind start) = both (both (search one) (kind_aside kind)) (start_aside width.value start)
  declaration_aside (Memory place name width depth kind) = both (search (both, one)) (kind_aside kind)

  declarations_aside : (ds : List Decl) → Aside (declarations_faults levels le (map bare_declaration ds)) (declarations_faults levels le ds)
  declarations_aside [] = none
  declarations_aside (d ∷ ds) = both (declaration_aside d) (declarations_aside ds)

  mutual
    unfolding bare_state bare_states

    state_aside : (what : Lookup) (s : StateTree) → Aside (state_faults levels le what (bare_state s)) (state_faults levels le what s)
    state_aside what (state_node place name kind body children) =
        both (both (kind_aside kind) (block_aside levels what body)) (states_aside what children)

    states_aside : (what : Lookup) (states : StateList) → Aside (states_faults levels le what (bare_states states)) (states_faults levels le what states)
    states_aside what no_state = none
    states_aside what (and_state s rest) = both (state_aside what s) (states_aside what rest)

declared_aside : (es : List Entity) (name : List ℕ) → is_declared (map aside_entity es) name ≡ is_declared es name
declared_aside [] name = refl
declared_aside (e ∷ es) name = rw (declared_aside es name)

twice_aside : (before es : List Entity) → Aside (twice (map aside_entity before) (map aside_entity es)) (twice before es)
twice_aside before [] = none
twice_aside before (e ∷ es) =
    rw (declared_aside before e.name.name, ← map-append aside_entity before (e ∷ []))
    (both (one (is_declared before e.name.name) E3 e.name.place) (twice_aside (before ++ e ∷ []) es))

pub design_aside : (levels : List (List ℕ)) (le : ℕ → ℕ → Bool) (d : DesignTree)
    → Aside (design_name_faults levels le (bare d)) (design_name_faults levels le d)
unfolding bare
design_aside levels le d =
    rw (entities_aside d, what_aside (entities_of d))
    (both (both (twice_aside [] (entities_of d)) (declarations_aside levels le d.declarations)) (states_aside levels le (what_is (entities_of d)) d.states))
