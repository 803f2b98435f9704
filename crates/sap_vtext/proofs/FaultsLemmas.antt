-- On what stands in Faults: what several crates cite.
use Rattle.sap_lemmas.proofs.Common.{List, [], ap, inl, inr, refl, ◌++◌, ◌∙◌, ◌∷◌, ◌≡◌, AllByRecursion, ◌||◌, or_assoc}
use Rattle.sap_maps.specs.Maps.{Name}
use Rattle.sap_text.specs.Best.{StandsIn}
use Rattle.sap_vtext.specs.Names.{Setting, is_set, is_target, target_of}
use Rattle.sap_vtext.specs.Items as item

pub all_alike : {A : Type 0} (P : A → Type 0) (xs : List A) → ((x : A) → StandsIn x xs → P x) → AllByRecursion P xs
all_alike P [] f = tt
all_alike P (x ∷ xs) f = (f x (inl refl), all_alike P xs (λ y m. f y (inr m)))

pub set_append : (s : Setting) (x : Name) (xs ys : List item.Item) → is_set s x (xs ++ ys) ≡ (is_set s x xs || is_set s x ys)
set_append s x [] ys = refl
set_append s x (y ∷ xs) ys = ap (λ b. is_target s x (target_of y) || b) (set_append s x xs ys) ∙ or_assoc (is_target s x (target_of y)) (is_set s x xs) (is_set s x ys)
