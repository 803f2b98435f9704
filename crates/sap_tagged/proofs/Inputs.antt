-- What the inputs are given at the start of a cycle.
use Rattle.sap_lemmas.proofs.Common.{◌≡◌, ℕ, zero, suc, ◌+◌, ◌^◌, ◌<◌, ◌≤◌, List, [], ◌∷◌, ◌++◌, length, Bool, true, false, Option, refl, sym, ap, ◌∙◌, subst, if◌then◌else◌, arith, get_or, Decides-eqb, ne_eqb}
use Rattle.sap_maps.specs.Maps.{Valuation}
use Rattle.sap_meaning.specs.Prelude.{Entity, entity, nothing, root, is_input, kind_is_input, Tagged, inputs_before, AllFit, input_widths}
use Rattle.sap_ir.specs.Prelude.{Source, NumbersFit, number_at_start}
use Rattle.sap_ir.specs.declared.guarded.Var.{Var}
use Rattle.sap_interface.specs.Prelude.{Named, world, coded}
use Rattle.sap_tagged.specs.Prelude.{Key, value_key, tag_key, key_name, for_entities, value_var, tag_var}
use Rattle.sap_tagged.proofs.KeyNames.{NamesApart, names_apart}

abbrev pub input_of : Named → (tag x : ℕ) → List Var
input_of d tag x = value_var d x 0 ∷ tag_var d tag x 0 ∷ []

-- the entities of a design from number x on
abbrev pub From : Named → ℕ → List Entity → Type 0
From d x es = (k : ℕ) → get_or es k nothing ≡ entity (world d) (x + k)

pub from_next : (d : Named) (x : ℕ) (e : Entity) (es : List Entity) → From d x (e ∷ es) → From d (x + 1) es
from_next d x e es f k = let i : x + suc k ≡ x + 1 + k = omega arith in f (suc k) ∙ ap (λ (y : ℕ). entity (world d) y) i

pub from_here : (d : Named) (x : ℕ) (e : Entity) (es : List Entity) → From d x (e ∷ es) → e ≡ entity (world d) x
from_here d x e es f = let i : x + 0 ≡ x = omega arith in f 0 ∙ ap (λ (y : ℕ). entity (world d) y) i

pub record GivenAt (d : Named) (u : ℕ) (s : Source) (before : Option Valuation) (x : ℕ) (es : List Entity) (ts : List Tagged) (k : ℕ) (default : Tagged) : Type 0 where
  pub number : number_at_start s before (for_entities (is_input (world d)) (input_of d u) x es) (coded d.code ts)
      (key_name d (value_key (x + k))) ≡ (get_or ts (inputs_before es k) default).number
  pub level : number_at_start s before (for_entities (is_input (world d)) (input_of d u) x es) (coded d.code ts) (key_name d (tag_key (x + k)))
      ≡ d.code (get_or ts (inputs_before es k) default).level

module _ (d : Named) (u : ℕ) (s : Source) (before : Option Valuation) (names : NamesApart d) (default : Tagged) where
  abbrev n : ℕ
  n = root (world d)

  abbrev starts : ℕ → List Entity → List Tagged → Key → ℕ
  starts x es ts a = number_at_start s before (for_entities (is_input (world d)) (input_of d u) x es) (coded d.code ts) (key_name d a)

  -- the case of an input, and of another entity
  abbrev starts_if : Bool → ℕ → List Entity → List Tagged → Key → ℕ
  starts_if q x es ts a =
      number_at_start s before ((if q then input_of d u x else []) ++ for_entities (is_input (world d)) (input_of d u) (x + 1) es) (coded d.code ts) (key_name d a)

  abbrev before_if : Bool → List Entity → ℕ → ℕ
  before_if q es k = if q then suc (inputs_before es k) else inputs_before es k

  -- past an input
  past_value : (x y : ℕ) (es : List Entity) (t : Tagged) (ts : List Tagged) → x < n → y < n → (x ≡ y → ⊥)
      → starts_if true x es (t ∷ ts) (value_key y) ≡ starts (x + 1) es ts (value_key y)
  past_value x y es t ts l m f =
      rw (names_apart d names (value_key x) (value_key y) ∙ ne_eqb x y f, names_apart d names (tag_key x) (value_key y)) refl

  past_tag : (x y : ℕ) (es : List Entity) (t : Tagged) (ts : List Tagged) → x < n → y < n → (x ≡ y → ⊥)
      → starts_if true x es (t ∷ ts) (tag_key y) ≡ starts (x + 1) es ts (tag_key y)
  past_tag x y es t ts l m f =
      rw (names_apart d names (tag_key x) (tag_key y) ∙ ne_eqb x y f) refl

  here_value : (x : ℕ) (es : List Entity) (t : Tagged) (ts : List Tagged) → x < n → starts_if true x es (t ∷ ts) (value_key x) ≡ t.number
  here_value x es t ts l = rw (names_apart d names (value_key x) (value_key x) ∙ (Decides-eqb x x).1 refl) refl

  here_tag : (x : ℕ) (es : List Entity) (t : Tagged) (ts : List Tagged) → x < n → starts_if true x es (t ∷ ts) (tag_key x) ≡ d.code t.level
  here_tag x es t ts l =
      rw (names_apart d names (tag_key x) (tag_key x) ∙ (Decides-eqb x x).1 refl) refl

  -- the inputs that stand in a list of entities and what is given fit
  abbrev FitIf : Bool → (levels : ℕ) → Entity → List Entity → List Tagged → Type 0
  FitIf q levels e es ts = AllFit levels (if q then e.width ∷ input_widths es else input_widths es) ts

  -- the same of the entities behind the first
  abbrev Later : (levels x : ℕ) → List Entity → Type 0
  Later levels x es =
      (ts : List Tagged) (k : ℕ) → From d (x + 1) es → AllFit levels (input_widths es) ts → x + 1 + length es ≤ n → k < length es
      → is_input (world d) (x + 1 + k) ≡ true → GivenAt d u s before (x + 1) es ts k default

  given_if : (levels : ℕ) (x : ℕ) (e : Entity) (es : List Entity) → Later levels x es → (ts : List Tagged) (k : ℕ) (q : Bool)
      → kind_is_input e.kind ≡ q → is_input (world d) x ≡ kind_is_input e.kind
      → From d x (e ∷ es) → AllFit levels (input_widths (e ∷ es)) ts → x + length (e ∷ es) ≤ n → k < length (e ∷ es) → is_input (world d) (x + k) ≡ true
      → GivenAt d u s before x (e ∷ es) ts k default
  given_if levels x e es rest ts zero false h h' from fit l m i =
      let z : x + 0 ≡ x = omega arith in
      let y : is_input (world d) x ≡ true = ap (is_input (world d)) (sym z) ∙ i in
      let c : true ≡ false = sym y ∙ h' ∙ h in cc
  given_if levels x e es rest ts (suc k) false h h' from fit l m i =
      let z : x + suc k ≡ x + 1 + k = omega arith in
      let fit' : FitIf false levels e es ts = subst (λ (q : Bool). FitIf q levels e es ts) h fit in
      let r : GivenAt d u s before (x + 1) es ts k default =
      rest ts k (from_next d x e es from) fit' (omega arith) (omega arith) (ap (is_input (world d)) (sym z) ∙ i) in
      record {
        number =
            ap (λ (q : Bool). starts_if q x es ts (value_key (x + suc k))) (h' ∙ h) ∙ ap (λ (y : ℕ). starts (x + 1) es ts (value_key y)) z ∙ r.number
            ∙ ap (λ (q : Bool). (get_or ts (before_if q es k) default).number) (sym h);
        level =
            ap (λ (q : Bool). starts_if q x es ts (tag_key (x + suc k))) (h' ∙ h) ∙ ap (λ (y : ℕ). starts (x + 1) es ts (tag_key y)) z ∙ r.level
            ∙ ap (λ (q : Bool). d.code (get_or ts (before_if q es k) default).level) (sym h);
      }
  given_if levels x e es rest [] k true h h' from fit l m i = absurd (subst (λ (q : Bool). FitIf q levels e es []) h fit)
  given_if levels x e es rest (t ∷ ts) zero true h h' from fit l m i =
      let z : x + 0 ≡ x = omega arith in
      let k : x < n = omega arith in
      record {
        number =
            ap (λ (q : Bool). starts_if q x es (t ∷ ts) (value_key (x + 0))) (h' ∙ h) ∙ ap (λ (y : ℕ). starts_if true x es (t ∷ ts) (value_key y)) z ∙ here_value x es t ts k;
        level = ap (λ (q : Bool). starts_if q x es (t ∷ ts) (tag_key (x + 0))) (h' ∙ h) ∙ ap (λ (y : ℕ). starts_if true x es (t ∷ ts) (tag_key y)) z ∙ here_tag x es t ts k;
      }
  given_if levels x e es rest (t ∷ ts) (suc k) true h h' from fit l m i =
      let z : x + suc k ≡ x + 1 + k = omega arith in
      let o : x < n = omega arith in
      let p : x + suc k < n = omega arith in
      let f : (x ≡ x + suc k → ⊥) = λ e. omega arith in
      let fit' : FitIf true levels e es (t ∷ ts) = subst (λ (q : Bool). FitIf q levels e es (t ∷ ts)) h fit in
      let r : GivenAt d u s before (x + 1) es ts k default =
      rest ts k (from_next d x e es from) fit'.2 (omega arith) (omega arith) (ap (is_input (world d)) (sym z) ∙ i) in
      record {
        number =
            ap (λ (q : Bool). starts_if q x es (t ∷ ts) (value_key (x + suc k))) (h' ∙ h) ∙ past_value x (x + suc k) es t ts o p f
            ∙ ap (λ (y : ℕ). starts (x + 1) es ts (value_key y)) z ∙ r.number ∙ ap (λ (q : Bool). (get_or (t ∷ ts) (before_if q es k) default).number) (sym h);
        level =
            ap (λ (q : Bool). starts_if q x es (t ∷ ts) (tag_key (x + suc k))) (h' ∙ h) ∙ past_tag x (x + suc k) es t ts o p f
            ∙ ap (λ (y : ℕ). starts (x + 1) es ts (tag_key y)) z ∙ r.level ∙ ap (λ (q : Bool). d.code (get_or (t ∷ ts) (before_if q es k) default).level) (sym h);
      }

  pub given_at : (levels : ℕ) (x : ℕ) (es : List Entity) (ts : List Tagged) (k : ℕ) → From d x es → AllFit levels (input_widths es) ts → x + length es ≤ n → k < length es
      → is_input (world d) (x + k) ≡ true → GivenAt d u s before x es ts k default
  given_at levels x [] ts k from fit l m i = absurd (omega arith)
  given_at levels x (e ∷ es) ts k from fit l m i =
      given_if levels x e es (given_at levels (x + 1) es) ts k (kind_is_input e.kind) refl (ap (λ (f : Entity). kind_is_input f.kind) (sym (from_here d x e es from)))
      from fit l m i

-- what is given fits the inputs
module _ (d : Named) (u : ℕ) (small : (x : ℕ) → d.code x < 2 ^ u) where
  abbrev FitLater : (levels x : ℕ) → List Entity → Type 0
  FitLater levels x es =
      (ts : List Tagged) → From d (x + 1) es → AllFit levels (input_widths es) ts → NumbersFit (for_entities (is_input (world d)) (input_of d u) (x + 1) es) (coded d.code ts)

  fit_if : (levels x : ℕ) (e : Entity) (es : List Entity) → FitLater levels x es → (ts : List Tagged) (q : Bool) → kind_is_input e.kind ≡ q
      → is_input (world d) x ≡ kind_is_input e.kind → From d x (e ∷ es) → AllFit levels (input_widths (e ∷ es)) ts
      → NumbersFit (for_entities (is_input (world d)) (input_of d u) x (e ∷ es)) (coded d.code ts)
  fit_if levels x e es rest ts false h h' from fit =
      subst (λ (q : Bool). NumbersFit ((if q then input_of d u x else []) ++ for_entities (is_input (world d)) (input_of d u) (x + 1) es) (coded d.code ts)) (sym (h' ∙ h))
      (rest ts (from_next d x e es from) (subst (λ (q : Bool). AllFit levels (if q then e.width ∷ input_widths es else input_widths es) ts) h fit))
  fit_if levels x e es rest [] true h h' from fit =
      absurd (subst (λ (q : Bool). AllFit levels (if q then e.width ∷ input_widths es else input_widths es) []) h fit)
  fit_if levels x e es rest (t ∷ ts) true h h' from fit =
      let f = subst (λ (q : Bool). AllFit levels (if q then e.width ∷ input_widths es else input_widths es) (t ∷ ts)) h fit in
      subst (λ (q : Bool). NumbersFit ((if q then input_of d u x else []) ++ for_entities (is_input (world d)) (input_of d u) (x + 1) es) (coded d.code (t ∷ ts))) (sym (h' ∙ h))
      (subst (λ (g : Entity). t.number < 2 ^ g.width) (from_here d x e es from) f.0, (small t.level, rest ts (from_next d x e es from) f.2))

  pub numbers_fit : (levels x : ℕ) (es : List Entity) (ts : List Tagged) → From d x es → AllFit levels (input_widths es) ts
      → NumbersFit (for_entities (is_input (world d)) (input_of d u) x es) (coded d.code ts)
  numbers_fit levels x [] [] from fit = tt
  numbers_fit levels x [] (t ∷ ts) from fit = absurd fit
  numbers_fit levels x (e ∷ es) ts from fit =
      fit_if levels x e es (numbers_fit levels (x + 1) es) ts (kind_is_input e.kind) refl (ap (λ (f : Entity). kind_is_input f.kind) (sym (from_here d x e es from))) from fit
