-- On what stands in Fine: what several crates cite.
use Rattle.sap_lemmas.proofs.Common.{inl, inr, nat_eq, true, ℕ, ◌≡◌, or_cases, or_left, or_right}
use Rattle.sap_meaning.specs.Fine.{inside}
use Rattle.sap_meaning.specs.Program.{Group, and_node, state_node, no_node}
use Rattle.sap_meaning.specs.Touches.{among}

pub inside_among : (g : Group) (x : ℕ) → among g x ≡ true → inside g x ≡ true
inside_among no_node x h = h
inside_among (and_node (state_node c b k) g) x h = elim (or_cases (nat_eq x c) (among g x) h) [
  | inl e ↦ or_left _ _ e
  | inr e ↦ or_right (nat_eq x c) _ (or_right (inside k x) _ (inside_among g x e))
]
