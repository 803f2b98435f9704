-- What steps with no handler raise.
use Rattle.std.proofs.Common.{◌≡◌, ℕ, ◌<◌, Bool, true, false, ◌&&◌, ◌||◌, List, [], ◌∷◌, refl, sym, ap, ◌∙◌, arith, nat_eq, nat_lt}
use Rattle.std.proofs.lemmas.Bool.{lt-ltb, eqb-true, eq-eqb, ne_eqb}
use Rattle.sap_lattice.specs.Levels.{order_of}
use Rattle.sap_meaning.specs.Prelude.{root, listed, is_dynamic, listed_alone}
use Rattle.sap_program.specs.Prelude.{flags, step_of}
use Rattle.sap_program.specs.declared.program.Step.{Step}
use Rattle.sap_program.specs.declared.home.Home.{Home}
use Rattle.sap_program.specs.declared.program.Step.TheVariants as step
use Rattle.sap_store.specs.declared.environment.Environment.{Environment}
use Rattle.sap_store.specs.Code.{world_in, entities_in, home_in}
use Rattle.sap_store.proofs.Worlds.{root_is}
use Rattle.sap_store.proofs.Raised.{flagged}

none_hangs : (n x : ℕ) → listed (flags n []) x ≡ false
none_hangs n x = flagged n [] x

module _ (d : Environment) (at : Home) (k : Step) where
  pub quiet_alone : ((x : ℕ) → listed_alone (world_in d) (home_in d at) (step_of (entities_in d) k) x ≡ false) → (x : ℕ)
      → listed (flags (entities_in d) []) x ≡ listed_alone (world_in d) (home_in d at) (step_of (entities_in d) k) x
  quiet_alone e x = none_hangs (entities_in d) x ∙ sym (e x)

  goto_alone : (site target : ℕ) → k ≡ step.Goto site target → (x : ℕ)
      → listed_alone (world_in d) (home_in d at) (step_of (entities_in d) k) x ≡ (is_dynamic (world_in d) x && nat_eq x at.state)
  goto_alone site target e x = ap (λ (j : Step). listed_alone (world_in d) (home_in d at) (step_of (entities_in d) j) x) e

  pub dynamic_alone : (site target : ℕ) → k ≡ step.Goto site target → is_dynamic (world_in d) at.state ≡ true → at.state < root (world_in d)
      → (hang : List ℕ) → hang ≡ at.state ∷ []
      → (x : ℕ) → listed (flags (entities_in d) hang) x ≡ listed_alone (world_in d) (home_in d at) (step_of (entities_in d) k) x
  dynamic_alone site target e f l hang i x =
      ap (λ (h : List ℕ). listed (flags (entities_in d) h) x) i ∙ flagged (entities_in d) (at.state ∷ []) x ∙ by (nat_eq at.state x) refl ∙ sym (goto_alone site target e x)
    where
      by : (q : Bool) → nat_eq at.state x ≡ q → ((q || false) && nat_lt x (entities_in d)) ≡ (is_dynamic (world_in d) x && nat_eq x at.state)
      by true g =
          let j = eqb-true at.state x g in
          let r = root_is (order_of d.lattice.now) d.program.now in
          lt-ltb x (entities_in d) (omega (arith, j, l, r)) ∙ sym (ap (λ (b : Bool). b && nat_eq x at.state) (ap (is_dynamic (world_in d)) (sym j) ∙ f) ∙ eq-eqb x at.state (sym j))
      by false g = sym (ap (λ (b : Bool). is_dynamic (world_in d) x && b) (ne_eqb x at.state (λ j. let h = eq-eqb at.state x (sym j) in cc)) ∙ off (is_dynamic (world_in d) x))
        where
          off : (b : Bool) → (b && false) ≡ false
          off true = refl
          off false = refl

  pub enforced_alone : (site target : ℕ) → k ≡ step.Goto site target → is_dynamic (world_in d) at.state ≡ false → (x : ℕ)
      → listed (flags (entities_in d) []) x ≡ listed_alone (world_in d) (home_in d at) (step_of (entities_in d) k) x
  enforced_alone site target e f x = none_hangs (entities_in d) x ∙ sym (goto_alone site target e x ∙ by (nat_eq x at.state) refl)
    where
      by : (q : Bool) → nat_eq x at.state ≡ q → (is_dynamic (world_in d) x && q) ≡ false
      by true g = ap (λ (b : Bool). b && true) (ap (is_dynamic (world_in d)) (eqb-true x at.state g) ∙ f)
      by false g = off (is_dynamic (world_in d) x)
        where
          off : (b : Bool) → (b && false) ≡ false
          off true = refl
          off false = refl
