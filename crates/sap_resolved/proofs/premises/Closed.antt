-- Bodies without E10 close, and stay closed with numbers for names.
use Rattle.std.proofs.Common.{◌≡◌, ℕ, ◌+◌, true, false, List, [], ◌++◌, refl, length}
use Rattle.sap_names.proofs.FaultLemmas.{nil_left, nil_right}
use Rattle.sap_text.specs.declared.place.Place.{Place}
use Rattle.sap_tree.specs.Syntax.{SimpleCommand, go_to, fall_to_child, Command, lone, try, if_else, try_then, case_of, Arms, last_arm, and_arm, CommandBlock, command_block, ElseBlock, no_else, with_else, CommandList, no_command, and_command}
use Rattle.sap_lattice.specs.Levels.{Levels}
use Rattle.sap_names.specs.declared.fault.Fault.{Fault}
use Rattle.sap_shape.specs.Closing.{transfer_faults, then_faults, open_faults, open_arms_faults, open_block_faults, open_else_faults, open_list_faults, last_simple_faults, last_faults, closing_arms_faults, closing_faults, closing_else_faults, closing_list_faults}
use Rattle.sap_meaning.specs.Prelude.{transfers, Open, Closes, Final, ClosingArms, NoTransfer, EveryInArms, EveryInBlock}
use Rattle.sap_shape.specs.Sites.{Surroundings, simple_sites, block_sites, command_sites}
use Rattle.sap_resolved.specs.Resolve.{site_number, step_of, command_of, arms_of, block_of, else_of, list_of}

module _ (ls : Levels) (h : Surroundings) where
  pub open_step : (n : ℕ) (c : SimpleCommand) → transfer_faults c ≡ [] → transfers (step_of ls h n c) ≡ false
  open_step n (go_to place target) f = cc
  open_step n (fall_to_child place) f = cc
  open_step n _ f = refl

  -- a step with an accepted part is no transfer
  then_step : (n : ℕ) (c : SimpleCommand) (place : Place) (rest : List Fault) → then_faults c place rest ≡ [] → (transfers (step_of ls h n c) ≡ false) × (rest ≡ [])
  then_step n (go_to p target) place rest f = absurd (cc f)
  then_step n (fall_to_child p) place rest f = absurd (cc f)
  then_step n _ place rest f = (refl, f)

  mutual
    open_command : (k : ℕ) (c : Command) → open_faults c ≡ [] → Open (command_of ls h k c)
    open_command k (lone c) f = open_step (site_number h k c) c f
    open_command k (try c place b) f = (
      open_step (site_number h k c) c (nil_left _ _ f),
      open_body (k + length (simple_sites h c)) b (nil_right _ _ f),
    )
    open_command k (if_else place e b other) f = (
      tt,
      open_body k b (nil_left _ _ f),
      open_else (k + length (block_sites h b)) other (nil_right _ _ f),
    )
    open_command k (try_then c place a b) f =
        let t = then_step (site_number h k c) c place (open_block_faults a ++ open_block_faults b) f in
        (t.0, open_body (k + length (simple_sites h c)) a (nil_left _ _ t.1), open_body (k + length (simple_sites h c) + length (block_sites h a)) b (nil_right _ _ t.1))
    open_command k (case_of place e arms) f = (tt, open_arms k arms f)

    open_arms : (k : ℕ) (arms : Arms) → open_arms_faults arms ≡ [] → EveryInArms NoTransfer (arms_of ls h k arms)
    open_arms k (last_arm b) f = open_body k b f
    open_arms k (and_arm constants b arms) f = (open_body k b (nil_left _ _ f), open_arms (k + length (block_sites h b)) arms (nil_right _ _ f))

    open_body : (k : ℕ) (b : CommandBlock) → open_block_faults b ≡ [] → EveryInBlock NoTransfer (block_of ls h k b)
    open_body k (command_block cs after) f = open_list k cs f

    open_else : (k : ℕ) (b : ElseBlock) → open_else_faults b ≡ [] → EveryInBlock NoTransfer (else_of ls h k b)
    open_else k no_else f = tt
    open_else k (with_else b) f = open_body k b f

    open_list : (k : ℕ) (cs : CommandList) → open_list_faults cs ≡ [] → EveryInBlock NoTransfer (list_of ls h k cs)
    open_list k no_command f = tt
    open_list k (and_command c cs) f = (
      open_command k c (nil_left _ _ f),
      open_list (k + length (command_sites h c)) cs (nil_right _ _ f),
    )

  last_step : (n : ℕ) (c : SimpleCommand) (after : Place) → last_simple_faults c after ≡ [] → transfers (step_of ls h n c) ≡ true
  last_step n (go_to place target) after f = refl
  last_step n (fall_to_child place) after f = refl
  last_step n _ after f = cc

  mutual
    last_command : (k : ℕ) (c : Command) (after : Place) → last_faults c after ≡ [] → Final (command_of ls h k c)
    last_command k (lone c) after f = last_step (site_number h k c) c after f
    last_command k (try (go_to p target) place b) after f = (refl, closed_body (k + length (simple_sites h (go_to p target))) b f)
    last_command k (try (fall_to_child p) place b) after f = (refl, closed_body (k + length (simple_sites h (fall_to_child p))) b f)
    last_command k (try _ place b) after f = cc
    last_command k (if_else place e b other) after f = (
      closed_body k b (nil_left _ _ f),
      closed_else (k + length (block_sites h b)) other place (nil_right _ _ f),
    )
    last_command k (try_then c place a b) after f =
        let t = then_step (site_number h k c) c place (closing_faults a ++ closing_faults b) f in
        (t.0, closed_body (k + length (simple_sites h c)) a (nil_left _ _ t.1), closed_body (k + length (simple_sites h c) + length (block_sites h a)) b (nil_right _ _ t.1))
    last_command k (case_of place e arms) after f = closed_arms k arms f

    closed_arms : (k : ℕ) (arms : Arms) → closing_arms_faults arms ≡ [] → ClosingArms (arms_of ls h k arms)
    closed_arms k (last_arm b) f = closed_body k b f
    closed_arms k (and_arm constants b arms) f = (closed_body k b (nil_left _ _ f), closed_arms (k + length (block_sites h b)) arms (nil_right _ _ f))

    pub closed_body : (k : ℕ) (b : CommandBlock) → closing_faults b ≡ [] → Closes (block_of ls h k b)
    closed_body k (command_block cs after) f = closed_list k cs after f

    closed_else : (k : ℕ) (b : ElseBlock) (place : Place) → closing_else_faults b place ≡ [] → Closes (else_of ls h k b)
    closed_else k no_else place f = cc
    closed_else k (with_else b) place f = closed_body k b f

    closed_list : (k : ℕ) (cs : CommandList) (after : Place) → closing_list_faults cs after ≡ [] → Closes (list_of ls h k cs)
    closed_list k no_command after f = cc
    closed_list k (and_command c no_command) after f = last_command k c after f
    closed_list k (and_command c (and_command d ds)) after f = (
      open_command k c (nil_left _ _ f),
      closed_list (k + length (command_sites h c)) (and_command d ds) after (nil_right _ _ f),
    )
