-- On what stands in Fault: what several crates cite.
use Rattle.std.proofs.Common.{List, Some, [], refl, ◌++◌, ◌∷◌, ◌≡◌}
use Rattle.sap_names.specs.Fault.{First}
use Rattle.sap_names.specs.declared.fault.Fault.{Fault}

pub nil_left : (xs ys : List Fault) → xs ++ ys ≡ [] → xs ≡ []
nil_left [] ys h = refl
nil_left (x ∷ xs) ys h = cc

pub nil_right : (xs ys : List Fault) → xs ++ ys ≡ [] → ys ≡ []
nil_right [] ys h = h
nil_right (x ∷ xs) ys h = cc

pub none_first : (f : Fault) (fs : List Fault) → fs ≡ [] → First (Some f) fs → ⊥
none_first f [] e h = h.0
none_first f (x ∷ fs) e h = cc
