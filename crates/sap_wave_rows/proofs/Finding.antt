-- Variables by their names.
use Rattle.sap_lemmas.proofs.Common.{◌≡◌, ℕ, List, [], ◌∷◌, ◌++◌, Bool, false, Option, Some, None, length, refl, sym, ap, ◌∙◌, inl, inr, ◌==◌, unwrap_or, slice_get, option_map, bytes_eq, cases_Bool, append-nil, length-map}
use Rattle.sap_maps.specs.Prelude.{Name, Scope, find}
use Rattle.sap_net.specs.Prelude.{place_in, is_number, value_of, shown_among, shown_by}
use Rattle.sap_sim.specs.Numbers.{place}
use Rattle.sap_sim.proofs.Maps.{place_found, place_behind}
use Rattle.sap_wave.specs.declared.variable.Variable.{Variable}
use Rattle.sap_wave.specs.Waves.{names_of}
use Rattle.sap_wave_rows.specs.Rows.{widths_of}

-- the place of a name, by what a map has for it
pub place_is : (xs : List Variable) (y : Name) (o : Option ℕ) → o ≡ place_in (names_of xs) y → unwrap_or o (length xs) ≡ place (names_of xs) y
place_is xs y o e =
    ap (λ (p : Option ℕ). unwrap_or p (length xs)) e
    ∙ ap (λ (k : ℕ). unwrap_or (place_in (names_of xs) y) k) (sym (length-map xs (λ (x : Variable). x.name)))
    ∙ place_found (names_of xs) y

-- whether a name has the width of tags, by what stands at its place
abbrev is_wide : (tag : ℕ) → Option Variable → Bool
is_wide tag o = is_number tag (option_map (λ (x : Variable). x.width) o)

-- the width of a name is that of the variable at its place
pub width_at : (xs : List Variable) (y : Name) → find (widths_of xs) y ≡ option_map (λ (x : Variable). x.width) (slice_get xs (place (names_of xs) y))
width_at [] y = refl
width_at (x ∷ xs) y =
    elim (cases_Bool (bytes_eq x.name y)) [
      | inl t ↦ rw t refl
      | inr f ↦ rw f (width_at xs y) ∙ ap (λ (k : ℕ). option_map (λ (v : Variable). v.width) (slice_get (x ∷ xs) k)) (sym (place_behind x.name (names_of xs) y f))
    ]

pub wide_there : (tag : ℕ) (xs : List Variable) (y : Name) (k : ℕ) (x : Variable) → k ≡ place (names_of xs) y → slice_get xs k ≡ Some x
    → (x.width == tag) ≡ is_number tag (find (widths_of xs) y)
wide_there tag xs y k x e h = sym (ap (is_number tag) (width_at xs y) ∙ ap (is_wide tag) (ap (slice_get xs) (sym e) ∙ h))

pub wide_nowhere : (tag : ℕ) (xs : List Variable) (y : Name) (k : ℕ) → k ≡ place (names_of xs) y → slice_get xs k ≡ None → false ≡ is_number tag (find (widths_of xs) y)
wide_nowhere tag xs y k e h = sym (ap (is_number tag) (width_at xs y) ∙ ap (is_wide tag) (ap (slice_get xs) (sym e) ∙ h))

append_three : (xs ys zs : List Name) → xs ++ (ys ++ zs) ≡ (xs ++ ys) ++ zs
append_three [] ys zs = refl
append_three (x ∷ xs) ys zs = ap (λ ws. x ∷ ws) (append_three xs ys zs)

-- what is shown of one name more
pub shown_push : (tag : ℕ) (widths : Scope) (ps : List Name) (p : Name) → shown_among tag widths (ps ++ p ∷ []) ≡ shown_among tag widths ps ++ shown_by tag widths (value_of p)
shown_push tag widths [] p = append-nil (shown_by tag widths (value_of p))
shown_push tag widths (q ∷ ps) p =
    ap (λ (ys : List Name). shown_by tag widths (value_of q) ++ ys) (shown_push tag widths ps p)
    ∙ append_three (shown_by tag widths (value_of q)) (shown_among tag widths ps) (shown_by tag widths (value_of p))
