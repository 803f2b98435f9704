-- The texts of inputs that are fed.
use Rattle.sap_lemmas.proofs.Common.{◌≡◌, ℕ, Bool, true, false, ◌||◌, List, [], ◌∷◌, ◌++◌, bytes_eq, sym, ap, ◌∙◌, refl, inl, inr, if◌then◌else◌, list_any, cases_Bool, bytes_eq_symmetric, equal_of_bytes_eq}
use Rattle.std.proofs.Common.{Vec}
use Rattle.std.specs.Global.{Global}
use Rattle.sap_wiring.specs.Wiring.{is_fed}

or_more : (a b c d : Bool) → b ≡ (c || d) → (a || b) ≡ ((a || c) || d)
or_more true b c d h = refl
or_more false b c d h = h

fed_push : (keys : List (Vec ℕ Global)) (key : Vec ℕ Global) (name : List ℕ) → is_fed (keys ++ key ∷ []) name ≡ (is_fed keys name || bytes_eq name key.items)
fed_push [] key name = or_false (bytes_eq name key.items)
  where
    or_false : (b : Bool) → (b || false) ≡ (false || b)
    or_false true = refl
    or_false false = refl
fed_push (k ∷ keys) key name = or_more (bytes_eq name k.items) _ _ _ (fed_push keys key name)

absorbed : (a b : Bool) → (b ≡ true → a ≡ true) → a ≡ (a || b)
absorbed true b h = refl
absorbed false true h = h refl
absorbed false false h = refl

-- the keys after one more, which may be there
pub feeds_more : (keys : List (Vec ℕ Global)) (key : Vec ℕ Global) (to name : List ℕ) → key.items ≡ to
    → is_fed (if list_any (λ (k : Vec ℕ Global). bytes_eq key.items k.items) keys then keys else keys ++ key ∷ []) name ≡ (is_fed keys name || bytes_eq to name)
feeds_more keys key to name same = elim (cases_Bool (is_fed keys key.items)) [
  | inl there ↦ rw there (absorbed (is_fed keys name) (bytes_eq to name) (λ e. ap (is_fed keys) (sym (same ∙ equal_of_bytes_eq to name e)) ∙ there))
  | inr new ↦ rw new (fed_push keys key name ∙ ap (λ b. is_fed keys name || b) (bytes_eq_symmetric name key.items ∙ ap (λ l. bytes_eq l name) same))
]
