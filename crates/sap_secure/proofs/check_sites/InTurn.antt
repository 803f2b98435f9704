-- A cycle of a well-formed design comes to its sites in turn, to each at most once.
use Rattle.sap_lemmas.proofs.Common.{◌≡◌, ℕ, ◌+◌, ◌≤◌, Bool, true, false, cond, List, [], ◌∷◌, ◌++◌, length, nat_eq, refl, sym, ap, ◌∙◌, subst, arith, if◌then◌else◌, sum_by-cons, eqb-true}
use Rattle.sap_tree.specs.Syntax.{DesignTree}
use Rattle.sap_lattice.specs.Levels.{Levels}
use Rattle.sap_names.specs.Entities.{entities_of}
use Rattle.sap_shape.specs.Sites.{check_sites}
use Rattle.sap_shape.specs.WellFormed.{WellFormed}
use Rattle.sap_meaning.specs.Prelude.{Step, root, Store, site_of, Tagged, FineProgram, program_sites, numbers_from, Sublist}
use Rattle.sap_resolved.specs.Worlds.{world_of}
use Rattle.sap_resolved.specs.Resolve.{states_of}
use Rattle.sap_resolved.specs.Fill.{program_of}
use Rattle.sap_resolved.proofs.premises.Programs.{sites_numbered}
use Rattle.sap_secure.specs.Once.Steps.{cycle_steps}
use Rattle.sap_secure.specs.CheckSites.Once.{sites_met, comes_to}
use Rattle.sap_secure.proofs.check_sites.Sublists.{occurs, hit, hit_other, occurs-cons, fewer, at_most_once}
use Rattle.sap_secure.proofs.check_sites.Marks.{group_marks, group_filled, group_marked}
use Rattle.sap_secure.proofs.check_sites.Reached.{sites_from}

marks_are : (ls : Levels) (d : DesignTree) → WellFormed ls d → group_marks (program_of ls d).states ≡ program_sites (program_of ls d)
marks_are ls d formed =
    group_filled (world_of ls d) (root (world_of ls d)) (states_of ls d)
    ∙ group_marked ls (entities_of d) 1 (length d.declarations) (omega arith) d.states
    ∙ sym (sites_numbered ls d formed)

pub in_turn : (ls : Levels) (d : DesignTree) → FineProgram (program_of ls d) → WellFormed ls d → (inputs : List Tagged) (s : Store)
    → Sublist (sites_met (cycle_steps (program_of ls d) inputs s)) (program_sites (program_of ls d))
in_turn ls d fine formed inputs s =
    subst (λ (ys : List ℕ). Sublist (sites_met (cycle_steps (program_of ls d) inputs s)) ys) (marks_are ls d formed)
    (sites_from (program_of ls d) fine inputs s)

comes-cons : (k : ℕ) (j : Step) (js : List Step) → comes_to k (j ∷ js) ≡ hit k (site_of j) + comes_to k js
comes-cons k j js = sum_by-cons (λ s. cond (nat_eq (site_of s) k) 1 0) j js

own_once : (k n : ℕ) (ns : List ℕ) → 1 ≤ k → occurs k ((if nat_eq n 0 then [] else n ∷ []) ++ ns) ≡ hit k n + occurs k ns
own_once k n ns p = decided (nat_eq n 0) refl where
  decided : (b : Bool) → nat_eq n 0 ≡ b → occurs k ((if b then [] else n ∷ []) ++ ns) ≡ hit k n + occurs k ns
  decided true t =
      let e : n ≡ 0 = eqb-true n 0 t in
      let z : hit k n ≡ 0 = hit_other k n (λ i. omega arith) in
      omega arith
  decided false f = occurs-cons k n ns

-- to come to a site is to meet its number
met_is : (k : ℕ) → 1 ≤ k → (js : List Step) → comes_to k js ≡ occurs k (sites_met js)
met_is k p [] = refl
met_is k p (j ∷ js) =
    comes-cons k j js ∙ ap (λ (n : ℕ). hit k (site_of j) + n) (met_is k p js) ∙ sym (own_once k (site_of j) (sites_met js) p)

pub once : (ls : Levels) (d : DesignTree) → FineProgram (program_of ls d) → WellFormed ls d → (inputs : List Tagged) (s : Store) → (k : ℕ) → 1 ≤ k
    → comes_to k (cycle_steps (program_of ls d) inputs s) ≤ 1
once ls d fine formed inputs s k p =
    let js = cycle_steps (program_of ls d) inputs s in
    let a : comes_to k (cycle_steps (program_of ls d) inputs s) ≡ occurs k (sites_met (cycle_steps (program_of ls d) inputs s)) = met_is k p js in
    let b : occurs k (sites_met (cycle_steps (program_of ls d) inputs s)) ≤ occurs k (numbers_from 1 (length (check_sites d))) =
    fewer k (sites_met js) (numbers_from 1 (length (check_sites d)))
    (subst (λ (ys : List ℕ). Sublist (sites_met (cycle_steps (program_of ls d) inputs s)) ys) (sites_numbered ls d formed) (in_turn ls d fine formed inputs s)) in
    let c : occurs k (numbers_from 1 (length (check_sites d))) ≤ 1 = at_most_once k 1 (length (check_sites d)) in
    omega arith
