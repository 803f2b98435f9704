-- The name of an input, by the entities that are left from one on.
use Rattle.sap_lemmas.proofs.Common.{◌≡◌, ◌+◌, ◌-◌, ℕ, zero, suc, drop, true, false, List, [], get_or, refl, ◌∙◌, ap, arith, Some, slice_get}
use Rattle.sap_names.specs.declared.entity.Entity.{Entity}
use Rattle.sap_report.proofs.Lists.{drop-at}
use Rattle.sap_commands.specs.Twin.{input_names, is_input}

module _ (es : List Entity) (i : ℕ) (e : Entity) (at : slice_get es i ≡ Some e) where
  pub input_here : (left : ℕ) → is_input e.what ≡ true → left ≡ 0 → get_or (input_names (drop i es)) left [] ≡ e.name.name
  input_here left is none = rw (none, drop-at es i e at, is) refl

  later : (left : ℕ) → is_input e.what ≡ true → get_or (input_names (drop i es)) (suc left) [] ≡ get_or (input_names (drop (i + 1) es)) left []
  later left is = rw (drop-at es i e at, is) refl

  pub input_later : (left : ℕ) → is_input e.what ≡ true → (left ≡ 0 → ⊥) → get_or (input_names (drop i es)) left [] ≡ get_or (input_names (drop (i + 1) es)) (left - 1) []
  input_later zero is some = absurd (some refl)
  input_later (suc left) is some =
      later left is ∙ ap (λ (k : ℕ). get_or (input_names (drop (i + 1) es)) k []) (let same : left ≡ suc left - 1 = omega arith in same)

  pub input_not_here : (left : ℕ) → is_input e.what ≡ false → get_or (input_names (drop i es)) left [] ≡ get_or (input_names (drop (i + 1) es)) left []
  input_not_here left isnt = rw (drop-at es i e at, isnt) refl
