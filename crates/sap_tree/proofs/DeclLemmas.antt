-- On what stands in Decl: what several crates cite.
use Rattle.std.proofs.Common.{Bool, List, ap, cond, ℕ, ◌+◌, ◌∙◌, ◌∷◌, ◌≡◌}
use Rattle.std.specs.List.{count_by}
use Rattle.std.proofs.lemmas.List.Sums.{sum_by-cons}
use Rattle.sap_tree.specs.declared.syntax.Decl.{Decl}

pub count_more : (p : Decl → Bool) (x : Decl) (xs : List Decl) (n : ℕ) → cond (p x) 1 0 ≡ n → count_by p (x ∷ xs) ≡ n + count_by p xs
count_more p x xs n h = sum_by-cons (λ (y : Decl). cond (p y) 1 0) x xs ∙ ap (λ (k : ℕ). k + count_by p xs) h
