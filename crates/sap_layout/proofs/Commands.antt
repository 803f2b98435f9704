-- Commands of a program, places aside.
use Rattle.std.proofs.Common.{◌≡◌, ◌∙◌, ℕ, Bool, if◌then◌else◌, refl, ap}
use Rattle.sap_tree.specs.Syntax.{Expression, literal, Expressions, no_part, and_part, SimpleCommand, assign, write, set_tag, set_cell_tag, go_to, fall_to_child, Command, lone, try, if_else, try_then, case_of, Arms, last_arm, and_arm, CommandBlock, command_block, ElseBlock, no_else, with_else, CommandList, no_command, and_command}
use Rattle.sap_tree.specs.Bare.{bare_expression, bare_expressions, bare_simple, bare_command, bare_block, bare_else, bare_arms, bare_list}
use Rattle.sap_shape.specs.Sites.{Surroundings}
use Rattle.sap_lattice.specs.Levels.{Levels}
use Rattle.sap_resolved.specs.Resolve.{number_of, numbers_of, site_number, step_of, command_of, block_of, else_of, arms_of, list_of}
use Rattle.sap_layout.proofs.Entities.{what_at, number_at}
use Rattle.sap_layout.proofs.Sites.{aside, site_aside, simple_count, command_count, block_count}
use Rattle.sap_layout.proofs.Terms.{term_aside, level_aside}

number_bare : (e : Expression) → number_of (bare_expression e) ≡ number_of e
unfolding bare_expression
number_bare (literal spot n) = refl
number_bare _ = refl

numbers_bare : (constants : Expressions) → numbers_of (bare_expressions constants) ≡ numbers_of constants
unfolding bare_expressions
numbers_bare no_part = refl
numbers_bare (and_part e constants) = rw (number_bare e, numbers_bare constants)

module _ (ls : Levels) (h : Surroundings) where
  step_bare : (n : ℕ) (c : SimpleCommand) → step_of ls (aside h) n (bare_simple c) ≡ step_of ls h n c
  unfolding bare_simple
  step_bare n (assign target e) = rw (number_at, what_at, term_aside)
  step_bare n (write target index e) = rw (number_at, what_at, term_aside h.entities index, term_aside h.entities e)
  step_bare n (set_tag place target tag) = rw (number_at, level_aside)
  step_bare n (set_cell_tag place target index tag) = rw (number_at, what_at, term_aside, level_aside)
  step_bare n (go_to place target) = rw number_at
  step_bare n (fall_to_child place) = refl

  step_aside : (k : ℕ) (c : SimpleCommand)
      → step_of ls (aside h) (site_number (aside h) k (bare_simple c)) (bare_simple c) ≡ step_of ls h (site_number h k c) c
  step_aside k c = step_bare _ c ∙ ap (λ (is : Bool). step_of ls h (if is then k else 0) c) (site_aside h.entities h.home.kind h.home.children c)

  mutual
    unfolding bare_command

    command_aside : (k : ℕ) (c : Command) → command_of ls (aside h) k (bare_command c) ≡ command_of ls h k c
    command_aside k (lone c) = rw (step_aside k c)
    command_aside k (try c place handler) = rw (step_aside k c, simple_count h c, block_aside _ handler)
    command_aside k (if_else place e one other) = rw (term_aside h.entities e, block_count h one, block_aside k one, else_aside _ other)
    command_aside k (try_then c place one other) =
        rw (step_aside k c, simple_count h c, block_count h one, block_aside _ one, block_aside _ other)
    command_aside k (case_of place e arms) = rw (term_aside h.entities e, arms_aside k arms)

    pub block_aside : (k : ℕ) (b : CommandBlock) → block_of ls (aside h) k (bare_block b) ≡ block_of ls h k b
    block_aside k (command_block list after) = list_aside k list

    else_aside : (k : ℕ) (b : ElseBlock) → else_of ls (aside h) k (bare_else b) ≡ else_of ls h k b
    else_aside k no_else = refl
    else_aside k (with_else b) = block_aside k b

    arms_aside : (k : ℕ) (arms : Arms) → arms_of ls (aside h) k (bare_arms arms) ≡ arms_of ls h k arms
    arms_aside k (last_arm b) = rw (block_aside k b)
    arms_aside k (and_arm constants b arms) = rw (numbers_bare constants, block_aside k b, block_count h b, arms_aside _ arms)

    list_aside : (k : ℕ) (list : CommandList) → list_of ls (aside h) k (bare_list list) ≡ list_of ls h k list
    list_aside k no_command = refl
    list_aside k (and_command c list) = rw (command_aside k c, command_count h c, list_aside _ list)
