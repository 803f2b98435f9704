-- What the calls see on their way, and what their answers say.
use Rattle.std.proofs.Common.{◌≡◌, ◌↔◌, ℕ, ◌<◌, Bool, true, false, IsTrue, Option, Some, None, MatchOption, List, length, get_or, refl, sym, ap, subst, ◌∙◌, arith}
use Rattle.std.proofs.lemmas.List.{get_or_default}
use Rattle.std.proofs.lemmas.Bool.{both_ways}
use Rattle.sap_lattice.specs.Order.{Order}
use Rattle.sap_meaning.specs.Prelude.{StreamsAgree, Tagged}
use Rattle.sap_stream.specs.declared.apart.Apart.{Apart}
use Rattle.sap_stream.specs.Apart.{AreAlike, input_at, IsApart}
use Rattle.sap_stream.proofs.Agreeing.{unset, same_apart, none_apart}

some_same : (a b : Apart) → Some a ≡ Some b → a ≡ b
some_same a b e = cc

not_none : (a : Apart) → Some a ≡ None → ⊥
not_none a e = cc

none_not : (a : Apart) → None ≡ Some a → ⊥
none_not a e = cc

module _ (o : Order) (l : ℕ) where
  -- two inputs that were read
  both_alike : (xs ys : List Tagged) (k : ℕ) (x y : Tagged) → k < length xs → k < length ys → x ≡ get_or xs k x → y ≡ get_or ys k y
      → (x ≡ input_at xs k) × (y ≡ input_at ys k)
  both_alike xs ys k x y a b e f = (e ∙ get_or_default xs k x unset a, f ∙ get_or_default ys k y unset b)

  pub alike_here : (xs ys : List Tagged) (k : ℕ) (x y : Tagged) (b : Bool) → length xs ≡ length ys → k < length xs → x ≡ get_or xs k x → y ≡ get_or ys k y
      → (IsTrue b ↔ AreAlike o l x y) → b ≡ true → AreAlike o l (input_at xs k) (input_at ys k)
  alike_here xs ys k x y b n a e f says t =
      let there = both_alike xs ys k x y a (omega arith) e f in
      subst (λ (z : Tagged). AreAlike o l z (input_at ys k)) there.0 (subst (λ (z : Tagged). AreAlike o l x z) there.1 (says.0 t))

  pub apart_here : (xs ys : List Tagged) (k : ℕ) (x y : Tagged) (b : Bool) → length xs ≡ length ys → k < length xs → x ≡ get_or xs k x → y ≡ get_or ys k y
      → (IsTrue b ↔ AreAlike o l x y) → b ≡ false → ¬ AreAlike o l (input_at xs k) (input_at ys k)
  apart_here xs ys k x y b n a e f says wrong alike =
      let there = both_alike xs ys k x y a (omega arith) e f in
      both_ways b wrong
      (says.1
      (subst (λ (z : Tagged). AreAlike o l z y) (sym there.0) (subst (λ (z : Tagged). AreAlike o l (input_at xs k) z) (sym there.1) alike)))

  -- an answer is the only one that fits
  pub told : (first second : List (List Tagged)) (r : Apart) → IsApart o l first second r → (a : Apart) → (Some r ≡ Some a) ↔ IsApart o l first second a
  told first second r h a = (
    λ e. subst (λ (b : Apart). IsApart o l first second b) (some_same r a e) h,
    λ g. ap Some (same_apart o l first second r a h g),
  )

  pub told_apart : (first second : List (List Tagged)) (r : Apart) → IsApart o l first second r → (Some r ≡ None) ↔ StreamsAgree o l first second
  told_apart first second r h = (λ e. absurd (not_none r e), λ g. absurd (none_apart o l first second r g h))

  pub told_nothing : (first second : List (List Tagged)) → StreamsAgree o l first second → (a : Apart) → (None ≡ Some a) ↔ IsApart o l first second a
  told_nothing first second h a = (λ e. absurd (none_not a e), λ g. absurd (none_apart o l first second a h g))

  -- what is said of an answer, by cases
  pub agree_told : (first second : List (List Tagged)) (r : Option Apart) → MatchOption r (StreamsAgree o l first second) (λ a. IsApart o l first second a)
      → (r ≡ None) ↔ StreamsAgree o l first second
  agree_told first second None h = (λ e. h, λ g. refl)
  agree_told first second (Some r) h = told_apart first second r h

  pub apart_told : (first second : List (List Tagged)) (r : Option Apart) → MatchOption r (StreamsAgree o l first second) (λ a. IsApart o l first second a)
      → (a : Apart) → (r ≡ Some a) ↔ IsApart o l first second a
  apart_told first second None h a = told_nothing first second h a
  apart_told first second (Some r) h a = told first second r h a
