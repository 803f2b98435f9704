-- The effect of a step that enters no child.
use Rattle.std.proofs.Common.{◌≡◌, ℕ, List, refl}
use Rattle.sap_meaning.specs.Prelude.{within, Store, After, stay, effect}
use Rattle.sap_meaning.specs.Checks as checks
use Rattle.sap_program.specs.Views.{step_of}
use Rattle.sap_program.specs.declared.program.Step.{Step}
use Rattle.sap_program.specs.declared.program.Step.TheVariants as step
use Rattle.sap_store.specs.declared.environment.Environment.{Environment}
use Rattle.sap_run.specs.declared.effects.Situation.{Situation}
use Rattle.sap_store.specs.Code.{world_in, entities_in, home_in}
use Rattle.sap_run.specs.Runs.{IsEffect, acted, entered, raised_by, taken}

pub is_effect : (k : Step) → ((site : ℕ) (hang : List ℕ) → k ≡ step.Fall site hang → ⊥) → IsEffect k
is_effect (step.Set site x e) f = tt
is_effect (step.Write site m i e) f = tt
is_effect (step.Retag site x n) f = tt
is_effect (step.RetagCell site m j n) f = tt
is_effect (step.Goto site target) f = tt
is_effect (step.Fall site hang) f = f site hang refl

effect_done : (d : Environment) (at : checks.Home) (enter others : ℕ → ℕ → Store → After) (k : Step) (pc : ℕ) (b s : Store) → IsEffect k
    → stay (effect (within (world_in d) at others) (step_of (entities_in d) k) pc b s).store ≡ effect (within (world_in d) at enter) (step_of (entities_in d) k) pc b s
unfolding effect
effect_done d at enter others (step.Set site x e) pc b s h = refl
effect_done d at enter others (step.Write site m i e) pc b s h = refl
effect_done d at enter others (step.Retag site x n) pc b s h = refl
effect_done d at enter others (step.RetagCell site m j n) pc b s h = refl
effect_done d at enter others (step.Goto site target) pc b s h = refl
effect_done d at enter others (step.Fall site hang) pc b s h = absurd h

pub passed : (d : Environment) (here : Situation) (k : Step) (s : Store) → IsEffect k → stay (acted d here (step_of (entities_in d) k) s) ≡ taken d here k s
unfolding taken
passed d here k s h =
    let at = here.at.now in
    effect_done d (home_in d at) (entered d at.state at.children.now) (λ n pc t. stay t) k here.context s (raised_by d here s) h
