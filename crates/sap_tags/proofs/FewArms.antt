-- Cases have few arms, whatever hangs.
use Rattle.std.proofs.Common.{◌≡◌, ℕ, suc, ◌≤◌, List, [], ◌∷◌, length, refl, ap, subst}
use Rattle.std.specs.List.{AllByRecursion}
use Rattle.sap_tree.specs.Limits.{most_arms}
use Rattle.sap_meaning.specs.Prelude.{Arms, last_arm, arm_constants}
use Rattle.sap_program.specs.Views.{command_of, row_arms, row_block, block_of, state_of, row_group, group_of}
use Rattle.sap_program.specs.declared.program.Command.{Command, Row_of-Command, end_of-Command, more_of-Command, Row_of-Arm, end_of-Arm, more_of-Arm}
use Rattle.sap_program.specs.declared.program.State.{State, State', Row_of-State, end_of-State, more_of-State}
use Rattle.sap_program.specs.declared.program.Command.TheVariants as command
use Rattle.sap_tagged.specs.Prelude.{arm_count, Few, FewArms, FewBlock, FewState, FewGroup}

module _ (n : ℕ) where
  same_count : {k : _} (row : Row_of-Arm k) (a b : Arms) → arm_count a ≡ arm_count b → arm_count (row_arms n row a) ≡ arm_count (row_arms 0 row b)
  unfolding row_arms
  same_count end_of-Arm a b e = e
  same_count (more_of-Arm constants m block rest) a b e = ap (λ (i : ℕ). suc i) (same_count rest a b e)

  same_constants : {k : _} (row : Row_of-Arm k) (a b : Arms) → arm_constants a ≡ arm_constants b → arm_constants (row_arms n row a) ≡ arm_constants (row_arms 0 row b)
  unfolding row_arms
  same_constants end_of-Arm a b e = e
  same_constants (more_of-Arm constants m block rest) a b e = ap (λ (ks : List (List ℕ)). constants.items ∷ ks) (same_constants rest a b e)

  mutual
    unfolding command_of row_arms row_block

    few_same : (c : Command) → Few (command_of n c) → Few (command_of 0 c)
    few_same (command.Do s) f = tt
    few_same (command.Try' s hang k handler) f = (tt, few_row handler f.1)
    few_same (command.If' hang e k ys m ns) f = (tt, few_row ys f.1, few_row ns f.2)
    few_same (command.TryThen' s hang k ys m ns) f = (tt, few_row ys f.1, few_row ns f.2)
    few_same (command.Case' hang e k arms m cs) f = (
      (
        subst (λ (i : ℕ). i ≤ most_arms) (same_count arms (last_arm (row_block n cs)) (last_arm (row_block 0 cs)) refl) f.0.0,
        subst (λ (ks : List (List ℕ)). AllByRecursion (λ (constants : List ℕ). 1 ≤ length constants) ks)
            (same_constants arms (last_arm (row_block n cs)) (last_arm (row_block 0 cs)) refl) f.0.1,
      ),
      few_arms arms (last_arm (row_block n cs)) (last_arm (row_block 0 cs)) (few_row cs) f.1,
    )

    few_arms : {k : _} (row : Row_of-Arm k) (a b : Arms) → (FewArms a → FewArms b) → FewArms (row_arms n row a) → FewArms (row_arms 0 row b)
    few_arms end_of-Arm a b g f = g f
    few_arms (more_of-Arm constants m block rest) a b g f = (few_row block f.0, few_arms rest a b g f.1)

    few_row : {k : _} (row : Row_of-Command k) → FewBlock (row_block n row) → FewBlock (row_block 0 row)
    few_row end_of-Command f = tt
    few_row (more_of-Command c rest) f = (few_same c f.0, few_row rest f.1)

  few_block : (cs : List Command) → FewBlock (block_of n cs) → FewBlock (block_of 0 cs)
  unfolding block_of
  few_block [] f = tt
  few_block (c ∷ cs) f = (few_same c f.0, few_block cs f.1)

  mutual
    unfolding state_of row_group

    few_state : (t : State) → FewState (state_of n t) → FewState (state_of 0 t)
    few_state (State' x body k row) f = (few_block body.items f.0, few_states row f.1)

    few_states : {k : _} (row : Row_of-State k) → FewGroup (row_group n row) → FewGroup (row_group 0 row)
    few_states end_of-State f = tt
    few_states (more_of-State t rest) f = (few_state t f.0, few_states rest f.1)

  pub few_group : (ts : List State) → FewGroup (group_of n ts) → FewGroup (group_of 0 ts)
  unfolding group_of
  few_group [] f = tt
  few_group (t ∷ ts) f = (few_state t f.0, few_group ts f.1)
