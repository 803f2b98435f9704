-- What the inputs of parts have in a cycle of the whole.
use Rattle.sap_lemmas.proofs.Common.{◌≡◌, ℕ, zero, suc, ◌+◌, Bool, true, not, List, [], ◌∷◌, map, filter, get_or, length, Option, Some, None, is_some, if◌then◌else◌, refl, sym, ◌∙◌, ap, ap₂, subst, inl, inr, arith, AllByRecursion, cases_Bool, all_parts}
use Rattle.sap_maps.specs.Maps.{Valuation}
use Rattle.sap_lattice.specs.Prelude.{Order, Codes, code_of}
use Rattle.sap_meaning.specs.Prelude.{Entity, Program, nothing, kind_is_input, is_input, Tagged, AllFit}
use Rattle.sap_net.specs.Runs.{InputsAre}
use Rattle.sap_interface.specs.Compiled.{coded}
use Rattle.sap_link.specs.Systems.{Endpoint, endpoint, Wire, System, no_part, same_endpoint, feeding, is_fed, inputs_from, inputs_of, free_inputs, world}
use Rattle.sap_link.specs.Composites.{CompositeState, content_at, let_through, carried, received}
use Rattle.sap_linked.specs.Prelude.{NamedSystem, system_of, value_at, tag_at, through_level, Carries, inputs_for}

-- an endpoint has a number, and the code of a level
abbrev pub Has : NamedSystem → Valuation → Endpoint → Tagged → Type 0
Has s v e t = (v.value (value_at s e) ≡ t.number) × (v.value (tag_at s e) ≡ code_of s.order t.level)

-- ---- free inputs

pub free_have : (s : NamedSystem) (v : Valuation) (r : Endpoint → Tagged) (es : List Endpoint)
    → InputsAre v (inputs_for s es) (coded (code_of s.order) (map r es)) → AllByRecursion (λ e. Has s v e (r e)) es
free_have s v r [] h = tt
free_have s v r (e ∷ es) h = ((h.0, h.1.0), free_have s v r es h.1.1)

pub fit_length : (levels : ℕ) (widths : Endpoint → ℕ) (es : List Endpoint) (inputs : List Tagged) → AllFit levels (map widths es) inputs → length inputs ≡ length es
fit_length levels widths [] [] fit = refl
fit_length levels widths [] (t ∷ ts) fit = absurd fit
fit_length levels widths (e ∷ es) [] fit = absurd fit
fit_length levels widths (e ∷ es) (t ∷ ts) fit = let later = fit_length levels widths es ts fit.2 in omega arith

-- what holds of those that pass a test holds of each that passes it
if_passes : (test : Endpoint → Bool) (P : Endpoint → Type 0) (es : List Endpoint) → AllByRecursion P (filter test es) → AllByRecursion (λ e. test e ≡ true → P e) es
if_passes test P [] a = tt
if_passes test P (e ∷ es) a =
    elim (cases_Bool (test e)) [
      | inl t ↦ let b : P e × AllByRecursion P (filter test es) = rw t at a in ((λ passed. b.0), if_passes test P es b.1)
      | inr q ↦ ((λ passed. absurd (cc)), if_passes test P es (rw q at a))
    ]

at_input : (P : Endpoint → Type 0) (i k x : ℕ) (es : List Entity) → AllByRecursion P (map (endpoint i) (inputs_from k es))
    → kind_is_input (get_or es x nothing).kind ≡ true → P (endpoint i (k + x))
at_input P i k zero [] a is = absurd (cc)
at_input P i k (suc x) [] a is = absurd (cc)
at_input P i k zero (e ∷ es) a is =
    let same : k ≡ k + 0 = omega arith in
    let b : P (endpoint i k) × AllByRecursion P (map (endpoint i) (inputs_from (suc k) es)) = rw is at a in
    subst (λ n. P (endpoint i n)) same b.0
at_input P i k (suc x) (e ∷ es) a is =
    let same : suc k + x ≡ k + suc x = omega arith in
    subst (λ n. P (endpoint i n)) same
    (elim (cases_Bool (kind_is_input e.kind)) [
      | inl t ↦ let b : P (endpoint i k) × AllByRecursion P (map (endpoint i) (inputs_from (suc k) es)) = rw t at a in at_input P i (suc k) x es b.1 is
      | inr q ↦ at_input P i (suc k) x es (rw q at a) is
    ])

no_input : (o : Order) (i x : ℕ) → is_input (get_or [] i (no_part o)).world x ≡ true → ⊥
no_input o zero zero is = cc
no_input o zero (suc x) is = cc
no_input o (suc i) zero is = cc
no_input o (suc i) (suc x) is = cc

at_part : (o : Order) (P : Endpoint → Type 0) (k i : ℕ) (ps : List Program) → AllByRecursion P (inputs_of k ps) → (x : ℕ)
    → is_input (get_or ps i (no_part o)).world x ≡ true → P (endpoint (k + i) x)
at_part o P k i [] a x is = absurd (no_input o i x is)
at_part o P k zero (p ∷ ps) a x is =
    let same : k ≡ k + 0 = omega arith in
    let from_zero : 0 + x ≡ x = omega arith in
    subst (λ n. P (endpoint n x)) same (subst (λ n. P (endpoint k n)) from_zero
    (at_input P k 0 x p.world.entities (all_parts P (map (endpoint k) (inputs_from 0 p.world.entities)) (inputs_of (suc k) ps) a).0 is))
at_part o P k (suc i) (p ∷ ps) a x is =
    let same : suc k + i ≡ k + suc i = omega arith in
    subst (λ n. P (endpoint n x)) same (at_part o P (suc k) i ps (all_parts P (map (endpoint k) (inputs_from 0 p.world.entities)) (inputs_of (suc k) ps) a).1 x is)

-- ---- fed inputs

-- what holds of all wires holds of one that feeds
found_wire : (P : Wire → Type 0) (wires : List Wire) (e : Endpoint) → AllByRecursion P wires → (w : Wire) → feeding wires e ≡ Some w → P w
found_wire P [] e a w is = absurd (cc)
found_wire P (u ∷ wires) e a w is =
    elim (cases_Bool (same_endpoint u.to e)) [
      | inl t ↦ let g : Some u ≡ Some w = rw t at is in subst P (cc) a.0
      | inr q ↦ found_wire P wires e a.1 w (rw q at is)
    ]

same_is : (d e : Endpoint) → same_endpoint d e ≡ true → d ≡ e
same_is d e same = grind (arith, same)

some_same : {u w : Wire} → Some u ≡ Some w → u ≡ w
some_same e = cc

found_leads : (wires : List Wire) (e : Endpoint) (w : Wire) → feeding wires e ≡ Some w → w.to ≡ e
found_leads [] e w is = absurd (cc)
found_leads (u ∷ wires) e w is =
    elim (cases_Bool (same_endpoint u.to e)) [
      | inl t ↦ let g : Some u ≡ Some w = rw t at is in ap (λ (v : Wire). v.to) (sym (some_same g)) ∙ same_is u.to e t
      | inr q ↦ found_leads wires e w (rw q at is)
    ]

-- what holds of all free inputs holds of each input that no wire feeds, ..
pub of_free : (y : System) (P : Endpoint → Type 0) → AllByRecursion P (free_inputs y) → (i x : ℕ) → is_input (world y i) x ≡ true
    → not (is_fed y.wires (endpoint i x)) ≡ true → P (endpoint i x)
of_free y P free i x is none =
    let all = if_passes (λ e. not (is_fed y.wires e)) P (inputs_of 0 y.parts) free in
    let from_zero : 0 + i ≡ i = omega arith in
    subst (λ n. not (is_fed y.wires (endpoint n x)) ≡ true → P (endpoint n x)) from_zero (at_part y.order (λ e. not (is_fed y.wires e) ≡ true → P e) 0 i y.parts all x is) none

-- .. what holds of all to which wires lead holds of each that is fed, ..
by_found : (wires : List Wire) (P : Endpoint → Type 0) → AllByRecursion (λ w. P w.to) wires → (e : Endpoint) (feeds : Option Wire)
    → feeding wires e ≡ feeds → is_some feeds ≡ true → P e
by_found wires P fed e None h is = absurd (cc)
by_found wires P fed e (Some w) h is = subst P (found_leads wires e w h) (found_wire (λ w. P w.to) wires e fed w h)

pub of_fed : (wires : List Wire) (P : Endpoint → Type 0) → AllByRecursion (λ w. P w.to) wires → (e : Endpoint) → is_fed wires e ≡ true → P e
of_fed wires P fed e is = by_found wires P fed e (feeding wires e) refl is

-- .. and what holds of both holds of each input of a part
pub each_input : (y : System) (P : Endpoint → Type 0) → AllByRecursion P (free_inputs y) → AllByRecursion (λ w. P w.to) y.wires → (i x : ℕ)
    → is_input (world y i) x ≡ true → P (endpoint i x)
each_input y P free fed i x is =
    elim (cases_Bool (is_fed y.wires (endpoint i x))) [
      | inl t ↦ of_fed y.wires P fed (endpoint i x) t
      | inr q ↦ of_free y P free i x is (rw q refl)
    ]

through_coded : (o : Order) → Codes o → (l : Option ℕ) (t : Tagged)
    → through_level o l t.number (code_of o t.level) ≡ ((let_through o l t).number, code_of o (let_through o l t).level)
through_coded o codes None t = refl
through_coded o codes (Some l) t = ap (λ (below : Bool). ((if below then t.number else 0), code_of o l)) (codes.within t.level l)

module _ (s : NamedSystem) (codes : Codes s.order) (v : Valuation) (states : CompositeState) where
  wire_has : (w : Wire) → Carries s v w → Has s v w.from (content_at (system_of s) states w.from) → Has s v w.to (carried (system_of s) states w)
  wire_has w c h =
      let from = content_at (system_of s) states w.from in
      let e = ap₂ (through_level s.order w.level) h.0 h.1 ∙ through_coded s.order codes w.level from in
      (c.value ∙ ap (λ (p : ℕ × ℕ). p.0) e, c.tag ∙ ap (λ (p : ℕ × ℕ). p.1) e)

  -- so to the input comes what it receives
  pub wires_have : (inputs : List Tagged) (ws : List Wire) → AllByRecursion (λ w. received (system_of s) states inputs w.to ≡ carried (system_of s) states w) ws
      → AllByRecursion (Carries s v) ws → AllByRecursion (λ w. Has s v w.from (content_at (system_of s) states w.from)) ws
      → AllByRecursion (λ w. Has s v w.to (received (system_of s) states inputs w.to)) ws
  wires_have inputs [] same carry from = tt
  wires_have inputs (w ∷ ws) same carry from = (
    subst (λ t. Has s v w.to t) (sym same.0) (wire_has w carry.0 from.0),
    wires_have inputs ws same.1 carry.1 from.1,
  )
