-- The numbers of a line that fits its fields fit the inputs.
use Rattle.sap_lemmas.proofs.Common.{◌≡◌, ℕ, ◌^◌, ◌<◌, List, [], ◌∷◌, ◌++◌, true, Some, None, length, get_or, map, sym, ◌∙◌, subst, refl, bytes_eq, inl, inr, All, not, ◌==◌, AllByRecursion, cases_Bool, false≢true, Decides-eqb, and_left, some_same, bytes_eq_apart_back, equal_of_bytes_eq, all_filter}
use Rattle.sap_stim.proofs.FitsLemmas.{line_count}
use Rattle.sap_lattice.specs.Prelude.{Levels, order_of, Codes, code_of}
use Rattle.sap_maps.specs.Prelude.{Name, Scope, find}
use Rattle.sap_maps.proofs.Scopes.{not_first, not_behind}
use Rattle.sap_meaning.specs.Cycle.{Tagged as Given}
use Rattle.sap_net.specs.Prelude.{is_among, Net, Shapes, AreValues, IsWidth, IsNetlist, shapes, InputsFit, AllFit}
use Rattle.sap_net.specs.declared.parts.Input.{Input}
use Rattle.sap_cycle.proofs.Distinct.{AreFresh, found_listed}
use Rattle.sap_stim.specs.declared.field.Field.{Field}
use Rattle.sap_stim.specs.Line.{IsSized, field_width}
use Rattle.sap_stim.specs.Fits.{LineFits, StreamFits}
use Rattle.sap_sim.specs.Prelude.{tag_width, input_widths, is_tagged, is_tag, with_field, field_of, fields_of, place, nothing, field_names, given, value_for, number_for, numbers_of}
use Rattle.sap_sim.proofs.Maps.{place_behind}
use Rattle.sap_sim.proofs.Registers.{each}
use Rattle.sap_sim.proofs.Origins.{names_of, among_filter}

front_none : (es sd : Scope) (x : Name) → find (es ++ sd) x ≡ None → find es x ≡ None
front_none [] sd x h = refl
front_none (e ∷ es) sd x h = rw (bytes_eq_apart_back x e.0 (not_first e (es ++ sd) x h)) (front_none es sd x (not_behind e (es ++ sd) x h))

pub fresh_inputs : (ms : Shapes) (is : List Input) (sd : Scope) → AreValues ms (input_widths is ++ sd) → AreFresh (λ i. i.name) (λ i. i.width) is
fresh_inputs ms [] sd rules = tt
fresh_inputs ms (i ∷ is) sd rules = (front_none (input_widths is) sd i.name rules.1, fresh_inputs ms is sd rules.3)

-- the width of each input is found by its name
pub inputs_found : (n : Net) → IsNetlist n → AllByRecursion (λ i. find (input_widths n.inputs) i.name ≡ Some i.width) n.inputs
inputs_found n net = found_listed (λ i. i.name) (λ i. i.width) (λ i. i.width) n.inputs (fresh_inputs (shapes n) n.inputs _ net.values)

input_sizes : (ms : Shapes) (is : List Input) (sd : Scope) → AreValues ms (input_widths is ++ sd) → AllByRecursion (λ i. IsWidth i.width) is
input_sizes ms [] sd rules = tt
input_sizes ms (i ∷ is) sd rules = (rules.0, input_sizes ms is sd rules.3)

pub field_width_is : (tag : ℕ) (is : List Input) (i : Input) → field_width (field_of tag is i) ≡ i.width
field_width_is tag is i =
    elim (cases_Bool (is_tagged tag is i.name)) as (λ v. field_width (field_of tag is i) ≡ i.width) [ inl t ↦ rw t refl | inr f ↦ rw f refl ]

all_sized : (tag : ℕ) (is list : List Input) → AllByRecursion (λ i. IsWidth i.width) list → AllByRecursion IsSized (map (field_of tag is) list)
all_sized tag is [] h = tt
all_sized tag is (i ∷ list) h = (rw field_width_is h.0, all_sized tag is list h.1)

pub fields_sized : (tag : ℕ) (n : Net) → IsNetlist n → All IsSized (map (field_of tag n.inputs) (with_field tag n.inputs))
fields_sized tag n net =
    each IsSized _ (all_sized tag n.inputs (with_field tag n.inputs)
    (all_filter (λ (i : Input). IsWidth i.width) (λ i. not (is_tag tag n.inputs i)) n.inputs (input_sizes (shapes n) n.inputs _ net.values)))

-- the value in the field of a name fits the width found by the name
own_fits : (ls : Levels) (tag : ℕ) (is : List Input) (sc : Scope) (fs : List Input) → AllByRecursion (λ j. find sc j.name ≡ Some j.width) fs
    → (xs : List Given) → LineFits ls (map (field_of tag is) fs) xs
    → (x : Name) (w : ℕ) → is_among x (names_of fs) ≡ true → find sc x ≡ Some w → (get_or xs (place (names_of fs) x) nothing).number < 2 ^ w
own_fits ls tag is sc [] all xs fits x w h e = absurd (false≢true h)
own_fits ls tag is sc (m ∷ fs) all [] fits x w h e = absurd fits
own_fits ls tag is sc (m ∷ fs) all (y ∷ ys) fits x w h e =
    elim (cases_Bool (bytes_eq m.name x)) [
      | inl t ↦ (
          let i : find sc x ≡ Some m.width = subst (λ (z : Name). find sc z ≡ Some m.width) (equal_of_bytes_eq m.name x t) all.0 in
          let j : w ≡ m.width = some_same w m.width (sym e ∙ i) in
          let k : y.number < 2 ^ m.width = subst (λ (u : ℕ). y.number < 2 ^ u) (field_width_is tag is m) fits.0.value in
          rw t (subst (λ (u : ℕ). y.number < 2 ^ u) (sym j) k)
          )
      | inr f ↦ (
          let r = own_fits ls tag is sc fs all.1 ys fits.1 x w (rw (bytes_eq_apart_back m.name x f) at h) e in
          subst (λ (k : ℕ). (get_or (y ∷ ys) k nothing).number < 2 ^ w) (sym (place_behind m.name (names_of fs) x f)) r
          )
    ]

number_fits : (ls : Levels) → Codes (order_of ls) → (is : List Input) → AllByRecursion (λ j. find (input_widths is) j.name ≡ Some j.width) is → (xs : List Given)
    → LineFits ls (map (field_of (tag_width ls) is) (with_field (tag_width ls) is)) xs → (i : Input) → find (input_widths is) i.name ≡ Some i.width
    → (not (is_tag (tag_width ls) is i) ≡ true → is_among i.name (field_names (tag_width ls) is) ≡ true) → number_for ls is xs i < 2 ^ i.width
number_fits ls codes is all xs fits i e own =
    elim (cases_Bool (is_tag (tag_width ls) is i)) as (λ v. number_for ls is xs i < 2 ^ i.width) [
      | inl t ↦ (
          let w : i.width ≡ tag_width ls = (Decides-eqb i.width (tag_width ls)).0 (and_left (i.width == tag_width ls) _ t) in
          let level = (given (tag_width ls) is xs (value_for i.name)).level in
          rw t (subst (λ (u : ℕ). code_of (order_of ls) (given (tag_width ls) is xs (value_for i.name)).level < 2 ^ u) (sym w) (codes.small level))
          )
      | inr f ↦ (
          let g : not (is_tag (tag_width ls) is i) ≡ true = rw f refl in
          rw f (own_fits ls (tag_width ls) is (input_widths is) (with_field (tag_width ls) is)
          (all_filter (λ (j : Input). find (input_widths is) j.name ≡ Some j.width) (λ j. not (is_tag (tag_width ls) is j)) is all) xs fits i.name i.width (own g) e)
          )
    ]

numbers_fit : (ls : Levels) → Codes (order_of ls) → (is : List Input) → AllByRecursion (λ j. find (input_widths is) j.name ≡ Some j.width) is → (xs : List Given)
    → LineFits ls (map (field_of (tag_width ls) is) (with_field (tag_width ls) is)) xs → (list : List Input)
    → AllByRecursion (λ j. find (input_widths is) j.name ≡ Some j.width) list
    → AllByRecursion (λ j. not (is_tag (tag_width ls) is j) ≡ true → is_among j.name (field_names (tag_width ls) is) ≡ true) list → InputsFit list (map (number_for ls is xs) list)
numbers_fit ls codes is all xs fits [] h k = tt
numbers_fit ls codes is all xs fits (i ∷ list) h k = (number_fits ls codes is all xs fits i h.0 k.0, numbers_fit ls codes is all xs fits list h.1 k.1)

pub line_fits : (ls : Levels) → Codes (order_of ls) → (n : Net) → IsNetlist n → (xs : List Given) → LineFits ls (fields_of ls n) xs → InputsFit n.inputs (numbers_of ls n xs)
line_fits ls codes n net xs fits =
    numbers_fit ls codes n.inputs (inputs_found n net) xs fits n.inputs (inputs_found n net) (among_filter (λ j. not (is_tag (tag_width ls) n.inputs j)) n.inputs)

pub stream_fits : (ls : Levels) → Codes (order_of ls) → (n : Net) → IsNetlist n → (stream : List (List Given))
    → StreamFits ls (fields_of ls n) stream → AllFit n.inputs (map (numbers_of ls n) stream)
stream_fits ls codes n net [] fits = tt
stream_fits ls codes n net (xs ∷ stream) fits = (line_fits ls codes n net xs fits.0, stream_fits ls codes n net stream fits.1)

stream_counts : (ls : Levels) (fs : List Field) (stream : List (List Given)) → StreamFits ls fs stream → AllByRecursion (λ xs. length xs ≡ length fs) stream
stream_counts ls fs [] fits = tt
stream_counts ls fs (xs ∷ stream) fits = (line_count ls fs xs fits.0, stream_counts ls fs stream fits.1)

pub counts : (ls : Levels) (fs : List Field) (stream : List (List Given)) → StreamFits ls fs stream → All (λ xs. length xs ≡ length fs) stream
counts ls fs stream fits = each (λ (xs : List Given). length xs ≡ length fs) stream (stream_counts ls fs stream fits)
