-- Folds over a command's tree, places aside: what is alike of each command is alike of the whole.
use Rattle.sap_tree.specs.Syntax.{Command, lone, try, if_else, try_then, case_of, Arms, last_arm, and_arm, CommandBlock, command_block, ElseBlock, no_else, with_else, CommandList, no_command, and_command}
use Rattle.sap_tree.specs.Bare.{bare_command, bare_block, bare_else, bare_arms, bare_list}
use Rattle.sap_tree.specs.Walks.{folded, folded_in_block, folded_in_else, folded_in_arms, folded_in_list}

module _ {A : Type 0} (none : A) (join : A → A → A) (mine own : Command → (below : A) → A) (Alike : A → A → Type 0) where
  pub record AreAlike : Type 0 where
    pub ends : Alike none none
    pub joins : (a b c d : A) → Alike a b → Alike c d → Alike (join a c) (join b d)
    pub owns : (c : Command) (a b : A) → Alike a b → Alike (mine (bare_command c) a) (own c b)

  module _ (are : AreAlike) where
    mutual
      unfolding bare_command bare_block bare_else bare_arms bare_list

      pub command_folded : (c : Command) → Alike (folded none join mine (bare_command c)) (folded none join own c)
      command_folded (lone k) = are.owns (lone k) _ _ are.ends
      command_folded (try k place handler) = are.owns (try k place handler) _ _ (block_folded handler)
      command_folded (if_else place e one other) = are.owns (if_else place e one other) _ _ (are.joins _ _ _ _ (block_folded one) (else_folded other))
      command_folded (try_then k place one other) = are.owns (try_then k place one other) _ _ (are.joins _ _ _ _ (block_folded one) (block_folded other))
      command_folded (case_of place e arms) = are.owns (case_of place e arms) _ _ (arms_folded arms)

      pub block_folded : (b : CommandBlock) → Alike (folded_in_block none join mine (bare_block b)) (folded_in_block none join own b)
      block_folded (command_block list after) = list_folded list

      else_folded : (other : ElseBlock) → Alike (folded_in_else none join mine (bare_else other)) (folded_in_else none join own other)
      else_folded no_else = are.ends
      else_folded (with_else b) = block_folded b

      arms_folded : (arms : Arms) → Alike (folded_in_arms none join mine (bare_arms arms)) (folded_in_arms none join own arms)
      arms_folded (last_arm b) = block_folded b
      arms_folded (and_arm constants b arms) = are.joins _ _ _ _ (block_folded b) (arms_folded arms)

      list_folded : (list : CommandList) → Alike (folded_in_list none join mine (bare_list list)) (folded_in_list none join own list)
      list_folded no_command = are.ends
      list_folded (and_command c list) = are.joins _ _ _ _ (command_folded c) (list_folded list)
