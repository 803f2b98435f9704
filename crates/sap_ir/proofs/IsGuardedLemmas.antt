-- On what stands in IsGuarded: what several crates cite.
use Rattle.sap_lemmas.proofs.Common.{List, [], ap, refl, ◌++◌, ◌∷◌, ◌≡◌, AllByRecursion}
use Rattle.sap_ir.specs.IsGuarded.{IsPlainVar, IsRegisterVar, variable_names}
use Rattle.sap_ir.specs.declared.guarded.Var.{Var}
use Rattle.sap_maps.specs.Maps.{Name}
use Rattle.sap_net.specs.Rules.{IsWidth}

pub plain_wide : (xs : List Var) → AllByRecursion IsPlainVar xs → AllByRecursion (λ x. IsWidth x.width) xs
plain_wide [] a = tt
plain_wide (x ∷ xs) a = (a.0.0, plain_wide xs a.1)

pub register_wide : (xs : List Var) → AllByRecursion IsRegisterVar xs → AllByRecursion (λ x. IsWidth x.width) xs
register_wide [] a = tt
register_wide (x ∷ xs) a = (a.0.0, register_wide xs a.1)

pub variables_append : (xs ys : List Var) → variable_names (xs ++ ys) ≡ variable_names xs ++ variable_names ys
variables_append [] ys = refl
variables_append (x ∷ xs) ys = ap (λ (ns : List Name). x.name ∷ ns) (variables_append xs ys)
