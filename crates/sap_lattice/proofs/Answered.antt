-- Of the rules at most one is the first that is broken.
use Rattle.std.proofs.Common.{◌≡◌, ◌≢◌, ℕ, ◌+◌, ◌<◌, ◌≤◌, List, refl, sym, ap, ap₂, ◌∙◌, inl, inr, ◌⊎◌, Result, Ok, Err, arith}
use Rattle.std.specs.Prelude.{IfErr, IfOk, IsErrOf, IsOkUnless}
use Rattle.std.proofs.lemmas.Bool.{cases_order}
use Rattle.sap_lattice.specs.declared.fault.LatFault.{LatFault}
use Rattle.sap_lattice.specs.declared.fault.LatFault.TheVariants.{Count, Bad, UnknownPair, Cycle, NoJoin, NoLeast, Memory}
use Rattle.sap_lattice.specs.declared.pair.Pair.{Pair}
use Rattle.sap_lattice.specs.Built.{IsLatticeOf}
use Rattle.sap_lattice.specs.Levels.{Levels}
use Rattle.sap_lattice.specs.Closure.{name_at}
use Rattle.sap_lattice.specs.Rules.{FirstBroken, KeepsCount, KeepsNames, KeepsPairs, KeepsApart, KeepsJoins, KeepsAll, IsFirst, IsFirstPair, AreNamesOfFirst}

-- the rule of a fault
rank : LatFault → ℕ
rank (Count n) = 3
rank (Bad p) = 4
rank (UnknownPair p) = 5
rank (Cycle a b) = 6
rank (NoJoin a b) = 7
rank NoLeast = 8
rank Memory = 9

pub cases_memory : (f : LatFault) → (f ≡ Memory) ⊎ (f ≢ Memory)
cases_memory Memory = inl refl
cases_memory (Count n) = inr (λ e. cc)
cases_memory (Bad p) = inr (λ e. cc)
cases_memory (UnknownPair p) = inr (λ e. cc)
cases_memory (Cycle a b) = inr (λ e. cc)
cases_memory (NoJoin a b) = inr (λ e. cc)
cases_memory NoLeast = inr (λ e. cc)

rank_low : (f : LatFault) → 3 ≤ rank f
unfolding rank
rank_low (Count n) = omega arith
rank_low (Bad p) = omega arith
rank_low (UnknownPair p) = omega arith
rank_low (Cycle a b) = omega arith
rank_low (NoJoin a b) = omega arith
rank_low NoLeast = omega arith
rank_low Memory = omega arith

module _ (names : List (List ℕ)) (pairs : List Pair) where
  -- what is kept where the rule of the fault is
  Kept : LatFault → Type 0
  Kept (Count n) = KeepsCount names
  Kept (Bad p) = KeepsNames names
  Kept (UnknownPair p) = KeepsPairs names pairs
  Kept (Cycle a b) = KeepsApart names pairs
  Kept (NoJoin a b) = KeepsJoins names pairs
  Kept NoLeast = KeepsAll names pairs
  Kept Memory = Unit {0}

  no_want : (f : LatFault) → FirstBroken names pairs f → f ≢ Memory
  no_want Memory broken e = absurd broken
  no_want (Count n) broken e = cc
  no_want (Bad p) broken e = cc
  no_want (UnknownPair p) broken e = cc
  no_want (Cycle a b) broken e = cc
  no_want (NoJoin a b) broken e = cc
  no_want NoLeast broken e = cc

  -- a broken rule is not kept
  broken_not_kept : (f : LatFault) → f ≢ Memory → FirstBroken names pairs f → ¬ Kept f
  unfolding Kept
  broken_not_kept (Count n) ne broken kept =
      elim broken.0 [
        | inl low ↦ let two = kept.at_least_two in absurd (omega arith)
        | inr high ↦ let most = kept.not_too_many in absurd (omega arith)
      ]
  broken_not_kept (Bad p) ne broken kept = let (k, first, e) = broken.1 in kept.named k first.here
  broken_not_kept (UnknownPair p) ne broken kept = let (k, first, e) = broken.1 in kept.known k first.here
  broken_not_kept (Cycle a b) ne broken kept = kept.no_cycle broken.1.left broken.1.right broken.1.first.here
  broken_not_kept (NoJoin a b) ne broken kept = kept.joined broken.1.left broken.1.right broken.1.first.here
  broken_not_kept NoLeast ne broken kept = kept.least broken.1
  broken_not_kept Memory ne broken kept = ne refl

  -- all rules kept
  all_kept : (f : LatFault) → KeepsAll names pairs → Kept f
  unfolding Kept
  all_kept (Count n) all = all.before.before.before.before.before
  all_kept (Bad p) all = all.before.before.before.before
  all_kept (UnknownPair p) all = all.before.before.before
  all_kept (Cycle a b) all = all.before.before
  all_kept (NoJoin a b) all = all.before
  all_kept NoLeast all = all
  all_kept Memory all = tt

  -- where a rule is the first that is broken, the rules before it are kept
  kept_before : (f g : LatFault) → rank f < rank g → g ≢ Memory → FirstBroken names pairs g → Kept f
  unfolding Kept rank
  kept_before f Memory low ne broken = absurd (ne refl)
  kept_before f (Count n) low ne broken = absurd (let least = rank_low f in omega arith)
  kept_before (Count n) (Bad p) low ne broken = broken.0
  kept_before (Count n) (UnknownPair p) low ne broken = broken.0.before
  kept_before (Count n) (Cycle a b) low ne broken = broken.0.before.before
  kept_before (Count n) (NoJoin a b) low ne broken = broken.0.before.before.before
  kept_before (Count n) NoLeast low ne broken = broken.0.before.before.before.before
  kept_before (Bad p) (UnknownPair q) low ne broken = broken.0
  kept_before (Bad p) (Cycle a b) low ne broken = broken.0.before
  kept_before (Bad p) (NoJoin a b) low ne broken = broken.0.before.before
  kept_before (Bad p) NoLeast low ne broken = broken.0.before.before.before
  kept_before (UnknownPair p) (Cycle a b) low ne broken = broken.0
  kept_before (UnknownPair p) (NoJoin a b) low ne broken = broken.0.before
  kept_before (UnknownPair p) NoLeast low ne broken = broken.0.before.before
  kept_before (Cycle a b) (NoJoin c d) low ne broken = broken.0
  kept_before (Cycle a b) NoLeast low ne broken = broken.0.before
  kept_before (NoJoin a b) NoLeast low ne broken = broken.0
  kept_before f g low ne broken = absurd (omega arith)

  one_first : (P : ℕ → Type 0) (j k : ℕ) → IsFirst P j → IsFirst P k → j ≡ k
  one_first P j k a b =
      elim (cases_order j k) [
        | inl e ↦ e
        | inr apart ↦ elim apart [ inl less ↦ absurd (b.none_before j less a.here) | inr more ↦ absurd (a.none_before k more b.here) ]
      ]

  one_first_pair : (P : ℕ → ℕ → Type 0) (x y u v : ℕ) → IsFirstPair P x y → IsFirstPair P u v → (x ≡ u) × (y ≡ v)
  one_first_pair P x y u v a b =
      elim (cases_order x u) [
        | inl e ↦
            elim (cases_order y v) [
              | inl f ↦ (e, f)
              | inr apart ↦
                  elim apart [
                    | inl less ↦ absurd (b.none_before x y (inr (e, less)) a.here)
                    | inr more ↦ absurd (a.none_before u v (inr (sym e, more)) b.here)
                  ]
            ]
        | inr apart ↦
            elim apart [
              | inl less ↦ absurd (b.none_before x y (inl less) a.here)
              | inr more ↦ absurd (a.none_before u v (inl more) b.here)
            ]
      ]

  one_names : (P : ℕ → ℕ → Type 0) (a b c d : List ℕ) → AreNamesOfFirst names P a b → AreNamesOfFirst names P c d → (a ≡ c) × (b ≡ d)
  one_names P a b c d h k =
      let same = one_first_pair P h.left h.right k.left k.right h.first k.first in
      (h.left_name ∙ ap (name_at names) same.0 ∙ sym k.left_name, h.right_name ∙ ap (name_at names) same.1 ∙ sym k.right_name)

  -- one rule has one answer
  same_answer : (f g : LatFault) → rank f ≡ rank g → f ≢ Memory → FirstBroken names pairs f → FirstBroken names pairs g → f ≡ g
  unfolding rank
  same_answer (Count n) (Count m) e ne a b = ap Count (a.1 ∙ sym b.1)
  same_answer (Bad p) (Bad q) e ne a b =
      let (j, first, p_is) = a.1 in
      let (k, second, q_is) = b.1 in
      ap Bad (p_is ∙ ap (λ i. i + 1) (one_first _ j k first second) ∙ sym q_is)
  same_answer (UnknownPair p) (UnknownPair q) e ne a b =
      let (j, first, p_is) = a.1 in
      let (k, second, q_is) = b.1 in
      ap UnknownPair (p_is ∙ ap (λ i. i + 1) (one_first _ j k first second) ∙ sym q_is)
  same_answer (Cycle a b) (Cycle c d) e ne h k = let same = one_names _ a b c d h.1 k.1 in ap₂ Cycle same.0 same.1
  same_answer (NoJoin a b) (NoJoin c d) e ne h k = let same = one_names _ a b c d h.1 k.1 in ap₂ NoJoin same.0 same.1
  same_answer NoLeast NoLeast e ne a b = refl
  same_answer Memory g e ne a b = absurd (ne refl)
  same_answer f g e ne a b = absurd (omega arith)

  -- where all rules are kept none is broken
  pub none_broken : (f : LatFault) → KeepsAll names pairs → ¬ FirstBroken names pairs f
  none_broken f all broken = broken_not_kept f (no_want f broken) broken (all_kept f all)

  pub one_answer : (f g : LatFault) → FirstBroken names pairs f → FirstBroken names pairs g → f ≡ g
  one_answer f g a b =
      let nf = no_want f a in
      let ng = no_want g b in
      elim (cases_order (rank f) (rank g)) [
        | inl e ↦ same_answer f g e nf a b
        | inr apart ↦
            elim apart [
              | inl less ↦ absurd (broken_not_kept f nf a (kept_before f g less ng b))
              | inr more ↦ absurd (broken_not_kept g ng b (kept_before g f more nf a))
            ]
      ]

  -- an answer that is a lattice or the rule that is broken first is the only one, want of memory aside
  pub valid_answer : (r : Result Levels LatFault) → IfErr r (λ f. f ≢ Memory → FirstBroken names pairs f) → KeepsAll names pairs → IsOkUnless r Memory
  valid_answer (Ok l) refused all = tt
  valid_answer (Err f) refused all =
      elim (cases_memory f) [
        | inl e ↦ e
        | inr ne ↦ absurd (none_broken f all (refused ne))
      ]

  pub exact_answer : (r : Result Levels LatFault) → IfOk r (λ l. IsLatticeOf names pairs l)
      → IfErr r (λ f. f ≢ Memory → FirstBroken names pairs f) → (f : LatFault) → FirstBroken names pairs f → IsErrOf r f ⊎ IsErrOf r Memory
  exact_answer (Ok l) accepted refused f broken = absurd (none_broken f accepted.kept broken)
  exact_answer (Err g) accepted refused f broken =
      elim (cases_memory g) [
        | inl e ↦ inr (ap Err e)
        | inr other ↦ inl (ap Err (one_answer g f (refused other) broken))
      ]
