-- On what stands in Store: what several crates cite.
use Rattle.std.proofs.Common.{List, ap, append-nil, ◌≡◌}
use Rattle.sap_meaning.specs.Store.{After, Refusal, and_then, stay}

pub and_stay : (a : After) → and_then a (λ t. stay t) ≡ a
and_stay a = ap (λ (l : List Refusal). record { store = a.store; refused = l }) (append-nil a.refused)
