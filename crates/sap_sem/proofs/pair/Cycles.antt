-- One cycle of two machines of one program.
use Rattle.std.proofs.Common.{◌≡◌, ℕ, List, sym, subst}
use Rattle.sap_meaning.specs.Prelude.{InputsAgree, StatesAgree, RefusalsAgree, Tagged, cycle, FineProgram, Program, Resting, Store, Refusal}
use Rattle.sap_secure.specs.Laws.{OneCycle}

module _ (law : OneCycle) (p q : Program) (fine : FineProgram p) (same : p ≡ q) (s t : Store) (first : Resting p.world s)
    (second : Resting q.world t) (l : ℕ) (agree : StatesAgree p l s t) (a b : List Tagged) (inputs : InputsAgree p.world.order l a b) where
  both : StatesAgree p l (cycle p a s).store (cycle p b t).store × RefusalsAgree p.world.order l (cycle p a s).refused (cycle p b t).refused
  both = law p fine l s t first (subst (λ (r : Program). Resting r.world t) (sym same) second) agree a b inputs

  pub states : (r : Program) (s' t' : Store) → r ≡ p → s' ≡ (cycle p a s).store → t' ≡ (cycle q b t).store → StatesAgree r l s' t'
  states r s' t' e f g =
      subst (λ (r : Program). StatesAgree r l s' t') (sym e)
      (subst (λ (u : Store). StatesAgree p l u t') (sym f)
      (subst (λ (u : Store). StatesAgree p l (cycle p a s).store u) (sym g)
      (subst (λ (r : Program). StatesAgree p l (cycle p a s).store (cycle r b t).store) same both.0)))

  pub refusals : (rs qs : List Refusal) → rs ≡ (cycle p a s).refused → qs ≡ (cycle q b t).refused → RefusalsAgree p.world.order l rs qs
  refusals rs qs f g =
      subst (λ (u : List Refusal). RefusalsAgree p.world.order l u qs) (sym f)
      (subst (λ (u : List Refusal). RefusalsAgree p.world.order l (cycle p a s).refused u) (sym g)
      (subst (λ (r : Program). RefusalsAgree p.world.order l (cycle p a s).refused (cycle r b t).refused) same both.1))
