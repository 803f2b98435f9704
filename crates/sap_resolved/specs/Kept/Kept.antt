-- A design beside its program. For each construct of the tree a definition says what it is in the program, places
-- aside: one construct of the same kind, with the same operands by name, and nothing else.
use Rattle.std.specs.Prelude.{◌≡◌, ◌+◌, ◌⊎◌, ℕ, zero, suc, true, false, List, [], ◌∷◌, map, Option, Some, None}
use Rattle.sap_tree.specs.declared.syntax.Numeral.{Numeral}
use Rattle.sap_tree.specs.declared.syntax.Under.{Under}
use Rattle.sap_tree.specs.declared.syntax.Kind.{Kind}
use Rattle.sap_tree.specs.declared.syntax.Kind.TheVariants.{Dynamic, Enforced}
use Rattle.sap_tree.specs.declared.syntax.Decl.{Decl}
use Rattle.sap_tree.specs.declared.syntax.Decl.TheVariants.{Input, Register, Memory}
use Rattle.sap_tree.specs.Syntax.{Expression, literal, sized_literal, variable, cell_at, unary_of, binary_of, choice, slice, concat, zero_extend, Expressions, no_part, and_part, TagExpression, level_of, tag_at, level_at, join_of, TagExpressions, no_tag, and_tag, SimpleCommand, assign, set_tag, set_cell_tag, CommandBlock, command_block, ElseBlock, no_else, with_else, CommandList, no_command, and_command, StateTree, state_node, StateList, no_state, and_state}
use Rattle.sap_tree.specs.Syntax as tree
use Rattle.sap_names.specs.declared.entity.Entity.{Entity}
use Rattle.sap_names.specs.Entities.{what_is}
use Rattle.sap_names.specs.Widths.{own}
use Rattle.sap_lattice.specs.Levels.{Levels, order_of}
use Rattle.sap_maps.specs.Term.{Term, constant, read, cell, one, two, choose, join, part}
use Rattle.sap_meaning.specs.Program.{World, entity, is_state, LevelTerm, fixed, of, at_place, both, Step, assign, write, retag, retag_cell, go_to, fall_to_child, Command, lone, try, if_else, try_then, case_of, Arms, last_arm, and_arm, Block, end_block, command_then, State, state_node, Group, and_node}
use Rattle.sap_meaning.specs.Program as program
use Rattle.sap_resolved.specs.Terms.{one_of, two_of}

-- The n-th of the names, from 0.
abbrev pub IsNth : List (List ℕ) → (n : ℕ) → (name : List ℕ) → Type 0
IsNth [] n name = ⊥
IsNth (x ∷ xs) zero name = x ≡ name
IsNth (x ∷ xs) (suc n) name = IsNth xs n name

-- The entity of this number has this name.
abbrev pub IsNamed : List Entity → (x : ℕ) → (name : List ℕ) → Type 0
IsNamed es x name = IsNth (map (λ e. e.name.name) es) x name

-- The level of this number has this name.
abbrev pub IsLevel : Levels → (n : ℕ) → (name : List ℕ) → Type 0
IsLevel ls n name = IsNth ls.names n name

-- An expression of the tree is this expression over numbers.
abbrev mutual
  -- An expression. A number without a width has some width. Parts stand in front of one another. What is widened has
  -- zeros in front, as many as it lacks, and none where it lacks none.
  pub IsTerm : List Entity → Expression → Term ℕ → Type 0
  IsTerm es (literal spot value) (constant u n) = value ≡ n
  IsTerm es (sized_literal spot width value) (constant u n) = (width ≡ u) × (value ≡ n)
  IsTerm es (variable spot name) (read x) = IsNamed es x name
  IsTerm es (cell_at spot name index) (cell m i) = IsNamed es m name × IsTerm es index i
  IsTerm es (unary_of spot operator e) (one op a) = (one_of operator ≡ op) × IsTerm es e a
  IsTerm es (binary_of spot operator e f) (two op a b) = (two_of operator ≡ op) × IsTerm es e a × IsTerm es f b
  IsTerm es (choice spot condition e f) (choose c a b) = IsTerm es condition c × IsTerm es e a × IsTerm es f b
  IsTerm es (slice spot e high low) (part a hi lo) = IsTerm es e a × (high ≡ hi) × (low ≡ lo)
  IsTerm es (concat spot parts) t = AreParts es parts t
  IsTerm es (zero_extend spot e width) t =
      ((own (what_is es) e ≡ Some width) × IsTerm es e t)
      ⊎ ((u : ℕ) × (zeros : ℕ) × (a : Term ℕ) × (own (what_is es) e ≡ Some u) × (zeros + u ≡ width)
      × (t ≡ join (constant zeros 0) a) × IsTerm es e a)
  IsTerm es _ _ = ⊥

  -- No parts, which the grammar hasn't, are a number without width.
  pub AreParts : List Entity → Expressions → Term ℕ → Type 0
  AreParts es no_part t = t ≡ constant 0 0
  AreParts es (and_part e no_part) t = IsTerm es e t
  AreParts es (and_part e (and_part f parts)) (join a b) = IsTerm es e a × AreParts es (and_part f parts) b
  AreParts es (and_part e (and_part f parts)) _ = ⊥

-- A tag expression; a join of none, which the grammar hasn't, is the bottom.
abbrev mutual
  pub IsTag : Levels → List Entity → TagExpression → LevelTerm → Type 0
  IsTag ls es (level_of m) (fixed n) = IsLevel ls n m.name
  IsTag ls es (tag_at place e) (of t) = IsTerm es e t
  IsTag ls es (level_at place e) (at_place t) = IsTerm es e t
  IsTag ls es (join_of place parts) n = AreTags ls es parts n
  IsTag ls es _ _ = ⊥

  pub AreTags : Levels → List Entity → TagExpressions → LevelTerm → Type 0
  AreTags ls es no_tag n = n ≡ fixed (order_of ls).bottom
  AreTags ls es (and_tag t no_tag) n = IsTag ls es t n
  AreTags ls es (and_tag t (and_tag u tags)) (both a b) = IsTag ls es t a × AreTags ls es (and_tag u tags) b
  AreTags ls es (and_tag t (and_tag u tags)) _ = ⊥

-- A command that can have a handler is this step, with the same targets and expressions.
abbrev pub IsStep : Levels → List Entity → SimpleCommand → Step → Type 0
IsStep ls es (assign target e) (assign site x t) = IsNamed es x target.name × IsTerm es e t
IsStep ls es (tree.write target index e) (write site m i t) =
    IsNamed es m target.name × IsTerm es index i × IsTerm es e t
IsStep ls es (set_tag place target tag) (retag site x n) = IsNamed es x target.name × IsTag ls es tag n
IsStep ls es (set_cell_tag place target index tag) (retag_cell site m i n) =
    IsNamed es m target.name × IsTerm es index i × IsTag ls es tag n
IsStep ls es (tree.go_to place target) (go_to site x) = IsNamed es x target.name
IsStep ls es (tree.fall_to_child place) (fall_to_child site hang) = Unit {0}
IsStep ls es _ _ = ⊥

-- The number of a constant, with or without a width. What is no number is no constant of a design that was read, and
-- counts as 0.
abbrev pub IsConstant : Expression → ℕ → Type 0
IsConstant (literal spot value) n = value ≡ n
IsConstant (sized_literal spot width value) n = value ≡ n
IsConstant _ n = n ≡ 0

-- The constants of an arm are these numbers.
abbrev pub AreConstants : Expressions → List ℕ → Type 0
AreConstants no_part [] = Unit {0}
AreConstants (and_part e parts) (n ∷ ns) = IsConstant e n × AreConstants parts ns
AreConstants _ _ = ⊥

-- Commands and lists of them; a missing `else` is an empty one.
abbrev mutual
  pub IsCommand : Levels → List Entity → tree.Command → Command → Type 0
  IsCommand ls es (tree.lone c) (lone k) = IsStep ls es c k
  IsCommand ls es (tree.try c place handler) (try k hang h) = IsStep ls es c k × IsBlock ls es handler h
  IsCommand ls es (tree.if_else place condition then_block else_block) (if_else hang t a b) =
      IsTerm es condition t × IsBlock ls es then_block a × IsElse ls es else_block b
  IsCommand ls es (tree.try_then c place accepted refused) (try_then k hang a b) =
      IsStep ls es c k × IsBlock ls es accepted a × IsBlock ls es refused b
  IsCommand ls es (tree.case_of place e arms) (case_of hang t others) = IsTerm es e t × AreArms ls es arms others
  IsCommand ls es _ _ = ⊥

  pub AreArms : Levels → List Entity → tree.Arms → Arms → Type 0
  AreArms ls es (tree.last_arm block) (last_arm b) = IsBlock ls es block b
  AreArms ls es (tree.and_arm constants block arms) (and_arm numbers b others) =
      AreConstants constants numbers × IsBlock ls es block b × AreArms ls es arms others
  AreArms ls es _ _ = ⊥

  pub IsBlock : Levels → List Entity → CommandBlock → Block → Type 0
  IsBlock ls es (command_block cs after) b = IsList ls es cs b

  pub IsElse : Levels → List Entity → ElseBlock → Block → Type 0
  IsElse ls es no_else b = b ≡ end_block
  IsElse ls es (with_else block) b = IsBlock ls es block b

  pub IsList : Levels → List Entity → CommandList → Block → Type 0
  IsList ls es no_command end_block = Unit {0}
  IsList ls es (and_command c cs) (command_then d ds) = IsCommand ls es c d × IsList ls es cs ds
  IsList ls es _ _ = ⊥

-- The level is the written authority, or the bottom if none is written.
abbrev pub IsAuthority : Levels → Option Under → ℕ → Type 0
IsAuthority ls None n = n ≡ (order_of ls).bottom
IsAuthority ls (Some under) n = IsLevel ls n under.level.name

-- The entity is dynamic, or enforced at the written level and under the written authority.
abbrev pub HasKind : Levels → Kind → program.Entity → Type 0
HasKind ls (Dynamic place) e = e.dynamic ≡ true
HasKind ls (Enforced level under) e = (e.dynamic ≡ false) × IsLevel ls e.declared level.name
    × IsAuthority ls under e.authority

-- A register starts with this number, 0 if none is written.
abbrev pub StartsWith : Option Numeral → ℕ → Type 0
StartsWith None n = n ≡ 0
StartsWith (Some start) n = n ≡ start.value

-- The entity is what a declaration declares: of its kind and width, dynamic or enforced as written, and with the start
-- number of a register.
abbrev pub IsDeclared : Levels → Decl → program.Entity → Type 0
IsDeclared ls (Input place name width) e = (e.kind ≡ program.input) × (e.width ≡ width.value) × (e.dynamic ≡ true)
IsDeclared ls (Register place name width kind start) e =
    (e.kind ≡ program.register) × (e.width ≡ width.value) × HasKind ls kind e × StartsWith start e.initial
IsDeclared ls (Memory place name width depth kind) e =
    (e.kind ≡ program.memory depth.value) × (e.width ≡ width.value) × HasKind ls kind e

-- The name that a declaration declares.
abbrev pub declared_name : Decl → List ℕ
declared_name (Input place name width) = name.name
declared_name (Register place name width kind start) = name.name
declared_name (Memory place name width depth kind) = name.name

-- The declarations are the entities from number x on, in their order.
abbrev pub AreDeclared : Levels → List Entity → World → (x : ℕ) → List Decl → Type 0
AreDeclared ls es w x [] = Unit {0}
AreDeclared ls es w x (d ∷ ds) = IsNamed es x (declared_name d) × IsDeclared ls d (entity w x)
    × AreDeclared ls es w (x + 1) ds

-- A state with its name, kind, body and children.
abbrev mutual
  pub IsState : Levels → List Entity → World → StateTree → State → Type 0
  IsState ls es w (state_node place name kind body children) (state_node x b g) =
      IsNamed es x name.name × (is_state w x ≡ true) × HasKind ls kind (entity w x)
      × IsBlock ls es body b × IsGroup ls es w children g

  pub IsGroup : Levels → List Entity → World → StateList → Group → Type 0
  IsGroup ls es w no_state program.no_node = Unit {0}
  IsGroup ls es w (and_state s rest) (and_node t g) = IsState ls es w s t × IsGroup ls es w rest g
  IsGroup ls es w _ _ = ⊥
