-- On what stands in Rows: what several crates cite.
use Rattle.std.proofs.Common.{List, [], ap, append_assoc, refl, ◌++◌, ◌≡◌}
use Rattle.std.proofs.lemmas.List.{append-nil}
use Rattle.sap_walk.specs.Rows.{push}
use Rattle.sap_walk.specs.Walk.{Next, empty_here, cannot_stand, begins}

pub push_push : {S R : Type 0} (n : Next S R) (σ τ : List S) → push (push n σ) τ ≡ push n (σ ++ τ)
push_push (begins role ρ) σ τ = ap (λ x. begins role x) (append_assoc ρ σ τ)
push_push empty_here σ τ = refl
push_push cannot_stand σ τ = refl

pub push_none : {S R : Type 0} (n : Next S R) → push n [] ≡ n
push_none (begins role σ) = ap (λ x. begins role x) (append-nil σ)
push_none empty_here = refl
push_none cannot_stand = refl
