-- From what holds of the contents before a call to what holds after it.
use Rattle.sap_lemmas.proofs.Common.{◌≡◌, sym, ◌∙◌, ap, subst, Option, Some, None, IfSome, option_map}
use Rattle.sap_desk.specs.Desk.{Told}
use Rattle.sap_desk.specs.Whole.{Between}

module _ (S R : Told → Told → Type 0) (f : Told → Told) where
  pub onward : (before mid one : Option Told) → one ≡ option_map f mid → ((t m : Told) → S t m → R t (f m)) → Between before mid S → Between before one R
  onward None mid one is step s = tt
  onward (Some t) None one is step s = absurd s
  onward (Some t) (Some m) one is step s = subst (λ (o : Option Told). Between (Some t) o R) (sym is) (step t m s)

  -- with what is known of the contents in the middle
  pub knowing : (K : Told → Type 0) (before mid one : Option Told) → one ≡ option_map f mid → ((t m : Told) → S t m → K m → R t (f m)) → Between before mid S
      → IfSome mid K → Between before one R
  knowing K None mid one is step s known = tt
  knowing K (Some t) None one is step s known = absurd s
  knowing K (Some t) (Some m) one is step s known = subst (λ (o : Option Told). Between (Some t) o R) (sym is) (step t m s known)

  -- with what is known before the call of what is after it
  pub known_after : (K : Told → Option Told → Type 0) (before mid one : Option Told) → one ≡ option_map f mid → ((t m : Told) → S t m → K m (Some (f m)) → R t (f m))
      → Between before mid S → IfSome mid (λ m. K m one) → Between before one R
  known_after K None mid one is step s known = tt
  known_after K (Some t) None one is step s known = absurd s
  known_after K (Some t) (Some m) one is step s known =
      let here : K m (Some (f m)) = subst (λ (o : Option Told). K m o) is known in
      subst (λ (o : Option Told). Between (Some t) o R) (sym is) (step t m s here)

  -- with what the call tells
  pub through : (T : Told → Told → Type 0) (before mid one : Option Told) → one ≡ option_map f mid → ((t m : Told) → S t m → T m (f m) → R t (f m)) → Between before mid S
      → Between mid one T → Between before one R
  through T None mid one is step s told = tt
  through T (Some t) None one is step s told = absurd s
  through T (Some t) (Some m) one is step s told =
      let here : T m (f m) = subst (λ (o : Option Told). Between (Some m) o T) is told in
      subst (λ (o : Option Told). Between (Some t) o R) (sym is) (step t m s here)

  -- with both
  pub through_known : (T : Told → Told → Type 0) (K : Told → Type 0) (before mid one : Option Told) → one ≡ option_map f mid → ((t m : Told) → S t m → T m (f m) → K m → R t (f m))
      → Between before mid S → Between mid one T → IfSome mid K → Between before one R
  through_known T K None mid one is step s told known = tt
  through_known T K (Some t) None one is step s told known = absurd s
  through_known T K (Some t) (Some m) one is step s told known =
      let here : T m (f m) = subst (λ (o : Option Told). Between (Some m) o T) is told in
      subst (λ (o : Option Told). Between (Some t) o R) (sym is) (step t m s here known)

-- with what is known before the first of two calls
pub knowing_two : (S R : Told → Told → Type 0) (K : Told → Type 0) (f h : Told → Told) (before mid one two : Option Told) → one ≡ option_map f mid → two ≡ option_map h one
    → ((t m : Told) → S t m → K m → R t (h (f m))) → Between before mid S → IfSome mid K → Between before two R
knowing_two S R K f h None mid one two is also step s known = tt
knowing_two S R K f h (Some t) None one two is also step s known = absurd s
knowing_two S R K f h (Some t) (Some m) one two is also step s known =
    subst (λ (o : Option Told). Between (Some t) o R) (sym (also ∙ ap (option_map h) is)) (step t m s known)

-- with what is known between two calls
pub known_two : (S R : Told → Told → Type 0) (K : Told → Option Told → Type 0) (f h : Told → Told) (before mid one two : Option Told)
    → one ≡ option_map f mid → two ≡ option_map h one
    → ((t m : Told) → S t m → K (f m) (Some (h (f m))) → R t (h (f m))) → Between before mid S → IfSome one (λ n. K n two) → Between before two R
known_two S R K f h None mid one two is also step s known = tt
known_two S R K f h (Some t) None one two is also step s known = absurd s
known_two S R K f h (Some t) (Some m) one two is also step s known =
    let both : two ≡ Some (h (f m)) = also ∙ ap (option_map h) is in
    let there : IfSome (Some (f m)) (λ n. K n two) = subst (λ (o : Option Told). IfSome o (λ n. K n two)) is known in
    let here : K (f m) (Some (h (f m))) = subst (λ (o : Option Told). K (f m) o) both there in
    subst (λ (o : Option Told). Between (Some t) o R) (sym both) (step t m s here)
