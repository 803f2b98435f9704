-- The faults of names and widths, E3 to E9: each sentence once, over the tree. A list has the faults that stand, in
-- no order that counts.
use Rattle.std.specs.Prelude.{ℕ, List, [], ◌∷◌, ◌++◌, Option, Some, None, Bool, true, false, not, eqb, leb, ◌&&◌, ◌^◌, if◌then◌else◌, bytes_eq, is_some}
use Rattle.sap_tree.specs.declared.name.Mention.{Mention}
use Rattle.sap_text.specs.declared.place.Place.{Place}
use Rattle.sap_tree.specs.declared.syntax.Numeral.{Numeral}
use Rattle.sap_tree.specs.declared.syntax.Under.{Under}
use Rattle.sap_tree.specs.declared.syntax.Kind.{Kind}
use Rattle.sap_tree.specs.declared.syntax.Kind.TheVariants.{Dynamic, Enforced}
use Rattle.sap_tree.specs.declared.syntax.Decl.{Decl}
use Rattle.sap_tree.specs.declared.syntax.Decl.TheVariants.{Input, Register, Memory}
use Rattle.sap_tree.specs.Syntax.{Expression, literal, sized_literal, variable, cell_at, unary_of, binary_of, choice, slice, concat, zero_extend, Expressions, no_part, and_part, TagExpression, level_of, tag_at, level_at, join_of, TagExpressions, no_tag, and_tag, SimpleCommand, assign, write, set_tag, set_cell_tag, go_to, fall_to_child, Command, lone, try, if_else, try_then, case_of, Arms, last_arm, and_arm, CommandBlock, command_block, ElseBlock, no_else, with_else, CommandList, no_command, and_command, StateTree, state_node, StateList, no_state, and_state, DesignTree}
use Rattle.sap_lattice.specs.Levels.{level_named}
use Rattle.sap_names.specs.Fault.{Fault}
use Rattle.sap_names.specs.declared.kind.Declared.{Declared}
use Rattle.sap_names.specs.declared.kind.Declared.TheVariants as d
use Rattle.sap_names.specs.declared.kind.Use.{Use}
use Rattle.sap_names.specs.declared.kind.Use.TheVariants as u
use Rattle.sap_names.specs.declared.kind.Code.{Code}
use Rattle.sap_names.specs.declared.kind.Code.TheVariants.{E3, E4, E5, E6, E7, E8, E9}
use Rattle.sap_names.specs.Entities.{Entity, Lookup, what_is, entities_of}
use Rattle.sap_names.specs.Widths.{sound_width, index_bits, register_width, cell_width, index_width, own, width_of, family, asked_left, asked_right, asked_one, is_sound, all_sound}

-- A fault of this code at this place if the test holds, else none.
abbrev pub fault_if : Bool → Code → Place → List Fault
fault_if test code place = if test then (let f : Fault = record { code = code; place = place } in f ∷ []) else []

-- The own width and the asked one differ, or neither is there.
abbrev pub unsettled : (own asked : Option ℕ) → Bool
unsettled None None = true
unsettled None (Some r) = false
unsettled (Some w) None = false
unsettled (Some w) (Some r) = not (eqb w r)

-- The number is one that a width can't hold.
abbrev pub too_large : Option ℕ → (value : ℕ) → Bool
too_large None value = false
too_large (Some w) value = leb (2 ^ w) value

-- What is declared is of the kind that this use needs.
abbrev pub fits_use : Use → Declared → Bool
fits_use u.Assigned (d.Register width) = true
fits_use u.Indexed (d.Memory width depth) = true
fits_use u.Read (d.Input width) = true
fits_use u.Read (d.Register width) = true
fits_use u.Entered d.State = true
fits_use u.Retagged (d.Register width) = true
fits_use u.Retagged d.State = true
fits_use _ _ = false

-- A use of a name is E4 if nothing has the name, and E5 if what has it isn't of the kind that is used so.
abbrev pub use_faults : Use → Option Declared → Place → List Fault
use_faults how None place = fault_if true E4 place
use_faults how (Some declared) place = fault_if (not (fits_use how declared)) E5 place

-- The faults of a mentioned name, by how it is used.
abbrev pub name_faults : Use → Lookup → Mention → List Fault
name_faults how what m = use_faults how (what m.name) m.place

-- The faults of an expression, from which its place asks for this width, or for none; and those of a concatenation's
-- parts.
abbrev mutual
  pub expression_faults : Lookup → Expression → (asked : Option ℕ) → List Fault
  expression_faults what (literal spot value) asked =
      fault_if (unsettled None asked) E7 spot.first ++ fault_if (too_large asked value) E8 spot.at
  expression_faults what (sized_literal spot width value) asked =
      fault_if (unsettled (sound_width width) asked) E7 spot.first
      ++ fault_if (not (is_sound (sound_width width))) E7 spot.at
      ++ fault_if (too_large (sound_width width) value) E8 spot.at
  expression_faults what (variable spot name) asked =
      fault_if (unsettled (own what (variable spot name)) asked) E7 spot.first ++ use_faults u.Read (what name) spot.at
  expression_faults what (cell_at spot name index) asked =
      fault_if (unsettled (own what (cell_at spot name index)) asked) E7 spot.first
      ++ use_faults u.Indexed (what name) spot.at
      ++ expression_faults what index (index_width (what name))
  expression_faults what (unary_of spot operator e) asked =
      let whole = width_of what (unary_of spot operator e) asked in
      fault_if (unsettled (own what (unary_of spot operator e)) asked) E7 spot.first
      ++ expression_faults what e (asked_one operator whole)
  expression_faults what (binary_of spot operator a b) asked =
      let whole = width_of what (binary_of spot operator a b) asked in
      fault_if (unsettled (own what (binary_of spot operator a b)) asked) E7 spot.first
      ++ expression_faults what a (asked_left (family operator) whole (own what a) (own what b))
      ++ expression_faults what b (asked_right (family operator) whole (own what a) (own what b))
  expression_faults what (choice spot condition a b) asked =
      let whole = width_of what (choice spot condition a b) asked in
      fault_if (unsettled (own what (choice spot condition a b)) asked) E7 spot.first
      ++ expression_faults what condition (Some 1)
      ++ expression_faults what a whole
      ++ expression_faults what b whole
  expression_faults what (slice spot e high low) asked =
      let mine = own what (slice spot e high low) in
      fault_if (unsettled mine asked) E7 spot.first
      ++ fault_if (not (is_sound mine) && is_sound (own what e)) E7 spot.first
      ++ expression_faults what e None
  expression_faults what (concat spot parts) asked =
      let mine = own what (concat spot parts) in
      fault_if (unsettled mine asked) E7 spot.first
      ++ fault_if (not (is_sound mine) && all_sound what parts) E7 spot.first
      ++ parts_faults what parts
  expression_faults what (zero_extend spot e width) asked =
      let mine = own what (zero_extend spot e width) in
      fault_if (unsettled mine asked) E7 spot.first
      ++ fault_if (not (is_sound mine) && is_sound (own what e)) E7 spot.first
      ++ expression_faults what e None

  pub parts_faults : Lookup → Expressions → List Fault
  parts_faults what no_part = []
  parts_faults what (and_part e parts) = expression_faults what e None ++ parts_faults what parts

-- The faults of the constants of an arm, from which this width is asked.
abbrev pub constants_faults : Lookup → (asked : Option ℕ) → Expressions → List Fault
constants_faults what asked no_part = []
constants_faults what asked (and_part e parts) = expression_faults what e asked ++ constants_faults what asked parts

-- The name is that of a level.
abbrev pub is_level : List (List ℕ) → List ℕ → Bool
is_level levels name = is_some (level_named levels name)

-- Both are levels, and the first is not at or below the second.
abbrev pub not_below : (ℕ → ℕ → Bool) → Option ℕ → Option ℕ → Bool
not_below le (Some a) (Some b) = not (le a b)
not_below le _ _ = false

-- A name in the place of a level is E6 if no level has it.
abbrev pub level_faults : List (List ℕ) → Mention → List Fault
level_faults levels m = fault_if (not (is_level levels m.name)) E6 m.place

-- The faults of a tag expression, and of the operands of a join.
abbrev mutual
  pub tag_faults : List (List ℕ) → Lookup → TagExpression → List Fault
  tag_faults levels what (level_of m) = level_faults levels m
  tag_faults levels what (tag_at place e) = expression_faults what e None
  tag_faults levels what (level_at place e) = expression_faults what e None
  tag_faults levels what (join_of place parts) = tags_faults levels what parts

  pub tags_faults : List (List ℕ) → Lookup → TagExpressions → List Fault
  tags_faults levels what no_tag = []
  tags_faults levels what (and_tag t parts) = tag_faults levels what t ++ tags_faults levels what parts

-- The faults of names and widths of a step.
abbrev pub simple_faults : List (List ℕ) → Lookup → SimpleCommand → List Fault
simple_faults levels what (assign target e) =
    name_faults u.Assigned what target ++ expression_faults what e (register_width (what target.name))
simple_faults levels what (write target index e) =
    name_faults u.Indexed what target
    ++ expression_faults what index (index_width (what target.name))
    ++ expression_faults what e (cell_width (what target.name))
simple_faults levels what (set_tag place target tag) = name_faults u.Retagged what target ++ tag_faults levels what tag
simple_faults levels what (set_cell_tag place target index tag) =
    name_faults u.Indexed what target
    ++ expression_faults what index (index_width (what target.name))
    ++ tag_faults levels what tag
simple_faults levels what (go_to place target) = name_faults u.Entered what target
simple_faults levels what (fall_to_child place) = []

-- The faults of names and widths of a command and of all commands in it.
abbrev mutual
  pub command_faults : List (List ℕ) → Lookup → Command → List Fault
  command_faults levels what (lone k) = simple_faults levels what k
  command_faults levels what (try k place handler) = simple_faults levels what k ++ block_faults levels what handler
  command_faults levels what (if_else place condition then_block else_block) =
      expression_faults what condition (Some 1) ++ block_faults levels what then_block
      ++ else_faults levels what else_block
  command_faults levels what (try_then k place accepted refused) =
      simple_faults levels what k ++ block_faults levels what accepted ++ block_faults levels what refused
  command_faults levels what (case_of place e arms) =
      expression_faults what e None ++ arms_faults levels what (own what e) arms

  pub block_faults : List (List ℕ) → Lookup → CommandBlock → List Fault
  block_faults levels what (command_block cs after) = commands_faults levels what cs

  pub else_faults : List (List ℕ) → Lookup → ElseBlock → List Fault
  else_faults levels what no_else = []
  else_faults levels what (with_else b) = block_faults levels what b

  -- Each constant is asked for the width of the number that it is compared with.
  pub arms_faults : List (List ℕ) → Lookup → (asked : Option ℕ) → Arms → List Fault
  arms_faults levels what asked (last_arm block) = block_faults levels what block
  arms_faults levels what asked (and_arm constants block arms) =
      constants_faults what asked constants ++ block_faults levels what block ++ arms_faults levels what asked arms

  pub commands_faults : List (List ℕ) → Lookup → CommandList → List Fault
  commands_faults levels what no_command = []
  commands_faults levels what (and_command c cs) = command_faults levels what c ++ commands_faults levels what cs

-- The faults of a written authority: E6 if it is no level, and E9 at the level after `enforced` if both are levels and
-- the authority isn't at or below it.
abbrev pub under_faults : List (List ℕ) → (le : ℕ → ℕ → Bool) → Mention → Option Under → List Fault
under_faults levels le level None = []
under_faults levels le level (Some under) =
    level_faults levels under.level
    ++ fault_if (not_below le (level_named levels under.level.name) (level_named levels level.name)) E9 level.place

-- The faults of a kind: its level, and its authority if it is written.
abbrev pub kind_faults : List (List ℕ) → (le : ℕ → ℕ → Bool) → Kind → List Fault
kind_faults levels le (Dynamic place) = []
kind_faults levels le (Enforced level under) = level_faults levels level ++ under_faults levels le level under

-- A width that isn't from 1 to 64 is E7.
abbrev pub width_faults : Numeral → List Fault
width_faults width = fault_if (not (is_sound (sound_width width.value))) E7 width.place

-- A start number that doesn't fit its register's width is E8.
abbrev pub start_faults : ℕ → Option Numeral → List Fault
start_faults width None = []
start_faults width (Some start) = fault_if (too_large (sound_width width) start.value) E8 start.place

-- The faults of a declaration.
abbrev pub declaration_faults : List (List ℕ) → (le : ℕ → ℕ → Bool) → Decl → List Fault
declaration_faults levels le (Input place name width) = width_faults width
declaration_faults levels le (Register place name width kind start) =
    width_faults width ++ kind_faults levels le kind ++ start_faults width.value start
declaration_faults levels le (Memory place name width depth kind) =
    width_faults width
    ++ fault_if (not (is_sound (index_bits depth.value))) E7 depth.place
    ++ kind_faults levels le kind

-- The faults of the declarations of a design.
abbrev pub declarations_faults : List (List ℕ) → (le : ℕ → ℕ → Bool) → List Decl → List Fault
declarations_faults levels le [] = []
declarations_faults levels le (d ∷ ds) = declaration_faults levels le d ++ declarations_faults levels le ds

-- The faults of a state: of its kind, its body and its children.
abbrev mutual
  pub state_faults : List (List ℕ) → (le : ℕ → ℕ → Bool) → Lookup → StateTree → List Fault
  state_faults levels le what (state_node place name kind body children) =
      kind_faults levels le kind ++ block_faults levels what body ++ states_faults levels le what children

  pub states_faults : List (List ℕ) → (le : ℕ → ℕ → Bool) → Lookup → StateList → List Fault
  states_faults levels le what no_state = []
  states_faults levels le what (and_state s rest) = state_faults levels le what s ++ states_faults levels le what rest

-- One of the entities has this name.
abbrev pub is_declared : List Entity → List ℕ → Bool
is_declared [] name = false
is_declared (e ∷ es) name = if bytes_eq e.name.name name then true else is_declared es name

-- The faults E3 of the second list: one at each name that an entity before it has, in the first list or in the second.
abbrev pub twice : List Entity → List Entity → List Fault
twice before [] = []
twice before (e ∷ es) = fault_if (is_declared before e.name.name) E3 e.name.place ++ twice (before ++ e ∷ []) es

-- These are all faults of names and widths of a design.
abbrev pub design_name_faults : List (List ℕ) → (le : ℕ → ℕ → Bool) → DesignTree → List Fault
design_name_faults levels le d =
    let es = entities_of d in
    twice [] es ++ declarations_faults levels le d.declarations ++ states_faults levels le (what_is es) d.states
