-- The inputs of a module with a design's interface: their fields, and the numbers of a line.
use Rattle.sap_lemmas.proofs.Common.{◌≡◌, ℕ, suc, ◌+◌, List, [], ◌∷◌, ◌++◌, Bool, true, false, Some, None, length, get_or, map, sym, ap, ap₂, ◌∙◌, refl, arith, bytes_eq, if◌then◌else◌, inl, inr, filter, not, ◌==◌, AllByRecursion, cases_Bool, Decides-eqb, neither_left, neither_right, some_same, bytes_eq_same}
use Rattle.std.proofs.lemmas.Bool.{and_right}
use Rattle.sap_lemmas.proofs.Bools.{not_and_false}
use Rattle.sap_lemmas.proofs.Lists.{tail_equal}
use Rattle.sap_lattice.specs.Prelude.{Levels, order_of, code_of}
use Rattle.sap_maps.specs.Prelude.{Name, Scope, find}
use Rattle.sap_meaning.specs.Prelude.{Tagged as Given, Entity, entity, nothing, width, is_input, kind_is_input, input_widths}
use Rattle.sap_net.specs.Prelude.{is_among, AreDistinct, value_name, tag_name, value_of, tag_of}
use Rattle.sap_net.specs.declared.parts.Input.{Input}
use Rattle.sap_interface.specs.Prelude.{Named, name, world, coded}
use Rattle.sap_stim.specs.declared.field.Field.{Field}
use Rattle.sap_stim.specs.declared.field.Field.TheVariants as field
use Rattle.sap_sim.specs.Prelude.{tag_width, is_tag, is_tagged, field_of, place, given, number_for}
use Rattle.sap_sim.specs.Fields as fields
use Rattle.sap_sim.proofs.Maps.{place_behind}
use Rattle.sap_sim.specs.Numbers as numbers
use Rattle.sap_sim.proofs.labelled.Ports.{pair_names}

-- the entities of a design from number x on
abbrev pub From : Named → ℕ → List Entity → Type 0
From d x es = (k : ℕ) → get_or es k nothing ≡ entity (world d) (x + k)

pub from_next : (d : Named) (x : ℕ) (e : Entity) (es : List Entity) → From d x (e ∷ es) → From d (x + 1) es
from_next d x e es f k = let i : x + suc k ≡ x + 1 + k = omega arith in f (suc k) ∙ ap (λ (y : ℕ). entity (world d) y) i

pub from_here : (d : Named) (x : ℕ) (e : Entity) (es : List Entity) → From d x (e ∷ es) → e ≡ entity (world d) x
from_here d x e es f = let i : x + 0 ≡ x = omega arith in f 0 ∙ ap (λ (y : ℕ). entity (world d) y) i

-- the inputs' names, each with its width
abbrev pub pair_scope : Named → (tag x : ℕ) → List Entity → Scope
pair_scope d tag x [] = []
pair_scope d tag x (e ∷ es) =
    (if is_input (world d) x then (value_name (name d x), width (world d) x) ∷ (tag_name (name d x), tag) ∷ [] else []) ++ pair_scope d tag (x + 1) es

abbrev pub to_input : Name × ℕ → Input
to_input e = record { name = e.0; width = e.1 }

scope_names : (d : Named) (tag x : ℕ) (es : List Entity) → map (λ (e : Name × ℕ). e.0) (pair_scope d tag x es) ≡ pair_names (is_input (world d)) d x es
scope_names d tag x [] = refl
scope_names d tag x (e ∷ es) =
    elim (cases_Bool (is_input (world d) x)) [
      | inl t ↦ rw t (ap (λ (zs : List Name). value_name (name d x) ∷ (tag_name (name d x) ∷ zs)) (scope_names d tag (x + 1) es))
      | inr f ↦ rw f (scope_names d tag (x + 1) es)
    ]

-- what is known of the names of each input
pub record Known (d : Named) (tag : ℕ) (sc : Scope) (x : ℕ) : Type 0 where
  pub value : find sc (value_name (name d x)) ≡ Some (width (world d) x)
  pub tag_is : find sc (tag_name (name d x)) ≡ Some tag
  pub value_base : value_of (value_name (name d x)) ≡ Some (name d x)
  pub tag_base : tag_of (tag_name (name d x)) ≡ Some (name d x)
  pub no_tag : tag_of (value_name (name d x)) ≡ None

all_scope : (d : Named) (tag : ℕ) (sc : Scope) → ((x : ℕ) → is_input (world d) x ≡ true → Known d tag sc x) → (x : ℕ) (es : List Entity)
    → AllByRecursion (λ (e : Name × ℕ). find sc e.0 ≡ Some e.1) (pair_scope d tag x es)
all_scope d tag sc known x [] = tt
all_scope d tag sc known x (e ∷ es) =
    elim (cases_Bool (is_input (world d) x)) [
      | inl t ↦ (let k = known x t in rw t (k.value, (k.tag_is, all_scope d tag sc known (x + 1) es)))
      | inr f ↦ rw f (all_scope d tag sc known (x + 1) es)
    ]

heads : (a b : Name) (xs ys : List Name) → a ∷ xs ≡ b ∷ ys → a ≡ b
heads a b xs ys h = cc

same_inputs : (sc : Scope) (is : List Input) (es : Scope) → map (λ i. i.name) is ≡ map (λ (e : Name × ℕ). e.0) es → AllByRecursion (λ i. find sc i.name ≡ Some i.width) is
    → AllByRecursion (λ (e : Name × ℕ). find sc e.0 ≡ Some e.1) es → is ≡ map to_input es
same_inputs sc [] [] h all known = refl
same_inputs sc [] (e ∷ es) h all known = cc
same_inputs sc (i ∷ is) [] h all known = cc
same_inputs sc (i ∷ is) (e ∷ es) h all known =
    let n : i.name ≡ e.0 = heads i.name e.0 _ _ h in
    let w : i.width ≡ e.1 = some_same i.width e.1 (sym all.0 ∙ ap (find sc) n ∙ known.0) in
    let mk : Name → ℕ → Input = λ a b. record { name = a; width = b } in
    ap₂ (λ (j : Input) (js : List Input). j ∷ js) (ap₂ mk n w) (same_inputs sc is es (tail_equal i.name e.0 _ _ h) all.1 known.1)

pub inputs_are : (d : Named) (tag : ℕ) (is : List Input) → map (λ i. i.name) is ≡ pair_names (is_input (world d)) d 0 (world d).entities
    → AllByRecursion (λ i. find (fields.input_widths is) i.name ≡ Some i.width) is → ((x : ℕ) → is_input (world d) x ≡ true → Known d tag (fields.input_widths is) x)
    → is ≡ map to_input (pair_scope d tag 0 (world d).entities)
inputs_are d tag is h all known =
    same_inputs (fields.input_widths is) is (pair_scope d tag 0 (world d).entities) (h ∙ sym (scope_names d tag 0 (world d).entities)) all
    (all_scope d tag (fields.input_widths is) known 0 (world d).entities)

-- the fields

abbrev pub value_scope : Named → (x : ℕ) → List Entity → Scope
value_scope d x [] = []
value_scope d x (e ∷ es) = (if is_input (world d) x then (value_name (name d x), width (world d) x) ∷ [] else []) ++ value_scope d (x + 1) es

module _ (d : Named) (tag : ℕ) (is : List Input) (known : (x : ℕ) → is_input (world d) x ≡ true → Known d tag (fields.input_widths is) x) where
  abbrev has_field : Input → Bool
  has_field i = not (is_tag tag is i)

  value_has : (x : ℕ) → is_input (world d) x ≡ true → has_field (to_input (value_name (name d x), width (world d) x)) ≡ true
  value_has x t = rw (known x t).no_tag (not_and_false (width (world d) x == tag))

  tag_has_none : (x : ℕ) → is_input (world d) x ≡ true → has_field (to_input (tag_name (name d x), tag)) ≡ false
  tag_has_none x t = rw ((known x t).tag_base, (Decides-eqb tag tag).1 refl, (known x t).value) refl

  value_is_tagged : (x : ℕ) → is_input (world d) x ≡ true → is_tagged tag is (value_name (name d x)) ≡ true
  value_is_tagged x t = rw ((known x t).value_base, (known x t).tag_is) ((Decides-eqb tag tag).1 refl)

  pub filtered : (x : ℕ) (es : List Entity) → filter has_field (map to_input (pair_scope d tag x es)) ≡ map to_input (value_scope d x es)
  filtered x [] = refl
  filtered x (e ∷ es) =
      elim (cases_Bool (is_input (world d) x)) [
        | inl t ↦ rw (t, value_has x t, tag_has_none x t) (ap (λ (zs : List Input). to_input (value_name (name d x), width (world d) x) ∷ zs) (filtered (x + 1) es))
        | inr f ↦ rw f (filtered (x + 1) es)
      ]

  pub fields_are : (x : ℕ) (es : List Entity) → From d x es → map (field_of tag is) (map to_input (value_scope d x es)) ≡ map (λ w. field.Tagged w) (input_widths es)
  fields_are x [] from = refl
  fields_are x (e ∷ es) from =
      let h : is_input (world d) x ≡ kind_is_input e.kind = ap (λ (f : Entity). kind_is_input f.kind) (sym (from_here d x e es from)) in
      let g : width (world d) x ≡ e.width = ap (λ (f : Entity). f.width) (sym (from_here d x e es from)) in
      elim (cases_Bool (is_input (world d) x)) [
        | inl t ↦ (
            let k : kind_is_input e.kind ≡ true = sym h ∙ t in
            rw (t, k, value_is_tagged x t, g) (ap (λ (zs : List Field). field.Tagged e.width ∷ zs) (fields_are (x + 1) es (from_next d x e es from)))
            )
        | inr f ↦ (
            let k : kind_is_input e.kind ≡ false = sym h ∙ f in
            rw (f, k) (fields_are (x + 1) es (from_next d x e es from))
            )
      ]

-- the numbers

module _ (ls : Levels) (d : Named) (is : List Input) (known : (x : ℕ) → is_input (world d) x ≡ true → Known d (tag_width ls) (fields.input_widths is) x) where
  abbrev tag : ℕ
  tag = tag_width ls

  value_plain : (x : ℕ) → is_input (world d) x ≡ true → is_tag (tag_width ls) is (to_input (value_name (name d x), width (world d) x)) ≡ false
  value_plain x t = rw (known x t).no_tag (and_right (width (world d) x == tag) false refl)

  tag_tag : (x : ℕ) → is_input (world d) x ≡ true → is_tag (tag_width ls) is (to_input (tag_name (name d x), tag_width ls)) ≡ true
  tag_tag x t = rw ((known x t).tag_base, (Decides-eqb tag tag).1 refl, (known x t).value) refl

  pub numbers_are : (xs : List Given) (x : ℕ) (es : List Entity)
      → map (number_for ls is xs) (map to_input (pair_scope d (tag_width ls) x es))
      ≡ coded (code_of (order_of ls)) (map (given (tag_width ls) is xs) (map (λ (e : Name × ℕ). e.0) (value_scope d x es)))
  numbers_are xs x [] = refl
  numbers_are xs x (e ∷ es) =
      elim (cases_Bool (is_input (world d) x)) [
        | inl t ↦ rw (t, value_plain x t, tag_tag x t)
            (ap (λ (zs : List ℕ). (given (tag_width ls) is xs (value_name (name d x))).number
            ∷ (code_of (order_of ls) (given (tag_width ls) is xs (value_name (name d x))).level ∷ zs)) (numbers_are xs (x + 1) es))
        | inr f ↦ rw f (numbers_are xs (x + 1) es)
      ]

-- each list of distinct names has its line back, name by name

apart_all : (v : Name) (vs : List Name) → is_among v vs ≡ false → AllByRecursion (λ u. bytes_eq v u ≡ false) vs
apart_all v [] h = tt
apart_all v (u ∷ vs) h = (neither_left (bytes_eq v u) (is_among v vs) h, apart_all v vs (neither_right (bytes_eq v u) (is_among v vs) h))

shifted : (v : Name) (vs list : List Name) (x : Given) (xs : List Given) → AllByRecursion (λ u. bytes_eq v u ≡ false) list
    → map (λ u. get_or (x ∷ xs) (place (v ∷ vs) u) numbers.nothing) list ≡ map (λ u. get_or xs (place vs u) numbers.nothing) list
shifted v vs [] x xs h = refl
shifted v vs (u ∷ list) x xs h =
    ap₂ (λ (y : Given) (ys : List Given). y ∷ ys) (ap (λ (k : ℕ). get_or (x ∷ xs) k numbers.nothing) (place_behind v vs u h.0)) (shifted v vs list x xs h.1)

pub given_back : (vs : List Name) → AreDistinct vs → (xs : List Given) → length xs ≡ length vs → map (λ u. get_or xs (place vs u) numbers.nothing) vs ≡ xs
given_back [] h [] l = refl
given_back [] h (x ∷ xs) l = absurd (omega arith)
given_back (v ∷ vs) h [] l = absurd (omega arith)
given_back (v ∷ vs) h (x ∷ xs) l =
    ap₂ (λ (y : Given) (ys : List Given). y ∷ ys) (rw (bytes_eq_same v) refl) (shifted v vs vs x xs (apart_all v vs h.0) ∙ given_back vs h.1 xs (omega arith))
