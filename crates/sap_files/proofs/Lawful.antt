-- A command has at most one cause and at most one text, once for all of them.
use Rattle.sap_lemmas.proofs.Common.{◌≡◌, ℕ, List, sym, ◌∙◌, ap, subst, inl, inr, some_unique}
use Rattle.sap_desk.specs.Desk.{Told}
use Rattle.sap_files.specs.Prelude.{Ending, Refusal, refused, Kind, Has, IsRefused, IsLawful, Asks, file, with_the, gives, prints, writes, stops, AreLawful, Cause, EndsAtFile, Shows, end_of}

module _ (k : Kind) (law : IsLawful k) (t : Told) (name : List ℕ) where
  pub one_value : (v w : k.Value) → Has t name k.Stands v → Has t name k.Stands w → v ≡ w
  one_value v w has had =
      let P : List ℕ → Type 0 = λ bytes. k.Stands bytes w in
      law.one_value has.bytes v w has.stands (subst P (some_unique (t.files name) had.bytes has.bytes had.file has.file) had.stands)

  pub not_both : (v : k.Value) (why : Refusal) → Has t name k.Stands v → IsRefused t name k why → ⊥
  not_both v why has is =
      let P : List ℕ → Type 0 = λ bytes. k.Refused bytes why in
      law.not_both has.bytes v why has.stands (subst P (some_unique (t.files name) is.bytes has.bytes is.file has.file) is.refused)

  one_reason : (why other : Refusal) → IsRefused t name k why → IsRefused t name k other → why ≡ other
  one_reason why other is was =
      let P : List ℕ → Type 0 = λ bytes. k.Refused bytes other in
      law.one_reason is.bytes why other is.refused (subst P (some_unique (t.files name) was.bytes is.bytes was.file is.file) was.refused)

  one_ending : (e f : Ending) → EndsAtFile t name k e → EndsAtFile t name k f → e ≡ f
  one_ending e f (why, is, at) (other, was, there) = is ∙ ap refused (one_reason why other at there) ∙ sym was

pub one_cause : (a : Asks) → AreLawful a → (t : Told) (e f : Ending) → Cause a t e → Cause a t f → e ≡ f
one_cause (file name k rest) law t e f (inl at) (inl there) = one_ending k law.0 t name e f at there
one_cause (file name k rest) law t e f (inl at) (inr (w, had, other)) = absurd (not_both k law.0 t name w at.0 had at.2)
one_cause (file name k rest) law t e f (inr (v, has, one)) (inl there) = absurd (not_both k law.0 t name v there.0 has there.2)
one_cause (file name k rest) law t e f (inr (v, has, one)) (inr (w, had, other)) =
    let P : k.Value → Type 0 = λ x. Cause (rest x) t f in
    one_cause (rest v) (law.1 has.bytes v has.stands) t e f one (subst P (one_value k law.0 t name w v had has) other)
one_cause (with_the V Holds rest) law t e f (v, holds, one) (w, held, other) =
    let P : V → Type 0 = λ x. Cause (rest x) t f in
    one_cause (rest v) (law.1 v holds) t e f one (subst P (law.0 w v held holds) other)
one_cause (gives text) law t e f one other = one ∙ sym other
one_cause (prints name text fault) law t e f (bytes, there, one) (more, here, other) =
    one ∙ ap (λ (b : List ℕ). end_of (fault b)) (some_unique (t.files name) bytes more there here) ∙ sym other
one_cause (writes out text) law t e f one other = one ∙ sym other
one_cause (stops why) law t e f one other = one ∙ sym other

pub one_text : (a : Asks) → AreLawful a → (t : Told) (e f : Ending) (x y : List ℕ) → Shows a t e x → Shows a t f y → x ≡ y
one_text (file name k rest) law t e f x y (inl (at, none)) (inl (there, nothing)) = none ∙ sym nothing
one_text (file name k rest) law t e f x y (inl (at, none)) (inr (w, had, other)) = absurd (not_both k law.0 t name w at.0 had at.2)
one_text (file name k rest) law t e f x y (inr (v, has, one)) (inl (there, nothing)) = absurd (not_both k law.0 t name v there.0 has there.2)
one_text (file name k rest) law t e f x y (inr (v, has, one)) (inr (w, had, other)) =
    let P : k.Value → Type 0 = λ z. Shows (rest z) t f y in
    one_text (rest v) (law.1 has.bytes v has.stands) t e f x y one (subst P (one_value k law.0 t name w v had has) other)
one_text (with_the V Holds rest) law t e f x y (v, holds, one) (w, held, other) =
    let P : V → Type 0 = λ z. Shows (rest z) t f y in
    one_text (rest v) (law.1 v holds) t e f x y one (subst P (law.0 w v held holds) other)
one_text (gives text) law t e f x y (is, one) (was, other) = law x y one other
one_text (prints name text fault) law t e f x y (bytes, there, is, one) (more, here, was, other) =
    law bytes x y one (subst (λ (b : List ℕ). text b y) (some_unique (t.files name) more bytes here there) other)
one_text (writes out text) law t e f x y (is, one) (was, other) = one ∙ sym other
one_text (stops why) law t e f x y (is, one) (was, other) = one ∙ sym other
