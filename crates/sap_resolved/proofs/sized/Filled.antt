-- Filling in what hangs changes no name and no width.
use Rattle.sap_lemmas.proofs.Common.{ℕ, List, sym, subst, AllByRecursion}
use Rattle.sap_meaning.specs.Prelude.{World, Step, assign, Command, lone, try, if_else, try_then, case_of, Group, Home, width_of, AreWithin, SizedStep, SizedGroup, SizedCommand, FineTerm}
use Rattle.sap_meaning.proofs.WalksLemmas.{constants_mapped}
use Rattle.sap_resolved.specs.WellNamed.{WellNamedStep, WellNamedGroup}
use Rattle.sap_resolved.proofs.FillLemmas.{commands_filled_group, every_filled_group}
use Rattle.sap_resolved.specs.Fill.{filled_step, filled_hang, filled, filled_group}

module _ (w : World) where
  step_named : (at : Home) (k : Step) → WellNamedStep w k → WellNamedStep w (filled_step w at k)
  step_named at (assign site x e) h = h
  step_named at _ h = h

  step_sized : (at : Home) (k : Step) → SizedStep w k → SizedStep w (filled_step w at k)
  step_sized at (assign site x e) h = h
  step_sized at _ h = h

  here_sized : (at : Home) (c : Command) → SizedCommand w c → SizedCommand w (filled w at c)
  here_sized at (lone k) h = step_sized at k h
  here_sized at (try k hang b) h = step_sized at k h
  here_sized at (if_else hang e a b) h = h
  here_sized at (try_then k hang a b) h = step_sized at k h
  here_sized at (case_of hang e arms) h =
      (h.0, subst (λ (cs : List (List ℕ)). AllByRecursion (AreWithin (width_of w e)) cs) (sym (constants_mapped (filled_step w at) (filled_hang w at) arms)) h.1)

  pub group_named : (p : ℕ) (g : Group) → WellNamedGroup w g → WellNamedGroup w (filled_group w p g)
  group_named p g h = every_filled_group w (WellNamedStep w) (WellNamedStep w) (FineTerm w) step_named p g h

  pub group_sized : (p : ℕ) (g : Group) → SizedGroup w g → SizedGroup w (filled_group w p g)
  group_sized p g h = commands_filled_group w (SizedCommand w) (SizedCommand w) here_sized p g h
