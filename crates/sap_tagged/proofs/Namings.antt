-- States have names of their own, and all names are names.
use Rattle.sap_lemmas.proofs.Common.{◌≡◌, ℕ, suc, ◌<◌, ◌≤◌, List, [], ◌∷◌, ◌++◌, Bool, true, false, ◌&&◌, ◌||◌, ◌==◌, refl, sym, ap, ◌∙◌, subst, arith, nat_lt, nat_le, nat_eq, bytes_eq, inl, inr, AllByRecursion, list_all, cases_Bool, eqb-true, eq-eqb, and_parts, false_from_ne_true, or_left, or_right, common_steps, or_other, true_is_not_false, all_append}
use Rattle.sap_net.proofs.NamesLemmas.{among_append}
use Rattle.sap_text.proofs.NamesLemmas.{digits_inner, word_inner}
use Rattle.sap_maps.specs.Maps.{Name}
use Rattle.sap_meaning.specs.Prelude.{World, root, is_state, below, last, state_node, Group, no_node, and_node, FineGroup, inside}
use Rattle.sap_net.specs.Names.{is_inner, is_name, is_among, AreDistinct}
use Rattle.sap_ir.specs.Prelude.{is_helping, Forest, none, state, state_names, is_gate}
use Rattle.sap_interface.specs.StandsFor.{Named, name, world}
use Rattle.sap_tagged.specs.Prelude.{Key, value_key, tag_key, seat_key, refused_key, level_key, wire_key, first_key, inner_key, numeral, entity_word, seat_word, key_name, Setting}
use Rattle.sap_tagged.proofs.KeyNames.{NamesApart}
use Rattle.sap_tagged.proofs.Numerals.{numeral_digits}
use Rattle.sap_tagged.proofs.Groups.{LawfulStates, Shaped, IsState, node_state}

-- the names of the states of a forest
pub all_states : (d : Setting) (P : Name → Type 0) (g : Group) (f : Forest) → Shaped d g f → ((t : ℕ) → inside g t ≡ true → P (d.state_name t)) → AllByRecursion P (state_names f)
all_states d P no_node none h p = tt
all_states d P (and_node (state_node s c k) g) (state x b kids rest) h p = (
  subst P (sym h.0) (p s (or_left (nat_eq s s) (inside k s || inside g s) (eq-eqb s s refl))),
  all_append P (state_names kids) (state_names rest)
      (all_states d P k kids h.1 (λ t i. p t (or_right (nat_eq t s) (inside k t || inside g t) (or_left (inside k t) (inside g t) i))))
      (all_states d P g rest h.2 (λ t i. p t (or_right (nat_eq t s) (inside k t || inside g t) (or_right (inside k t) (inside g t) i)))),
)
all_states d P _ _ h p = absurd h

pub inside_state : (w : World) (q : Group) (n : ℕ) (g : Group) → FineGroup w q n g → (t : ℕ) → inside g t ≡ true → IsState w t
inside_state w q n no_node f t h = absurd (true_is_not_false (sym h))
inside_state w q n (and_node (state_node s b k) g) f t h = elim (cases_Bool (nat_eq t s)) [
  | inl e ↦ subst (λ (x : ℕ). IsState w x) (sym (eqb-true t s e)) (node_state w q n s b k f.0.0)
  | inr e ↦
      (let i = or_other (nat_eq t s) (inside k t || inside g t) h e in
      elim (cases_Bool (inside k t)) [
        | inl j ↦ inside_state w k 0 k f.0.1 t j
        | inr j ↦ inside_state w q (suc n) g f.1 t (or_other (inside k t) (inside g t) i j)
      ])
]

-- what is below a state, and behind it
below_bounds : (w : World) (s t : ℕ) → below w s t ≡ true → (s < t) × (t ≤ last w s)
below_bounds w s t h = bounds s t (last w s) (and_parts (is_state w t) _ h).1
  where
    bounds : (s t l : ℕ) → (nat_lt s t && nat_le t l) ≡ true → (s < t) × (t ≤ l)
    bounds s t l h = (grind (arith, common_steps), grind (arith, common_steps))

distinct_join : (xs ys : List Name) → AreDistinct xs → AreDistinct ys → AllByRecursion (λ (x : Name). is_among x ys ≡ false) xs → AreDistinct (xs ++ ys)
distinct_join [] ys d e f = e
distinct_join (x ∷ xs) ys d e f =
    (among_append x xs ys ∙ neither (is_among x xs) (is_among x ys) d.0 f.0, distinct_join xs ys d.1 e f.1)
  where
    neither : (a b : Bool) → a ≡ false → b ≡ false → (a || b) ≡ false
    neither a b e f = rw (e, f) refl

module _ (d : Setting) (names : LawfulStates d) where
  -- a state outside a group
  outside_among : (q : Group) (n : ℕ) (g : Group) (f : Forest) → FineGroup d.world q n g → Shaped d g f → (t : ℕ) → nat_lt t (root d.world) ≡ true → inside g t ≡ false
      → is_among (d.state_name t) (state_names f) ≡ false
  outside_among q n no_node none f h t l i = refl
  outside_among q n (and_node (state_node s c k) g) (state x b kids rest) f h t l i =
      let e = or_false (nat_eq t s) (inside k t || inside g t) i in
      let j = or_false (inside k t) (inside g t) e.1 in
      let me = node_state d.world q n s c k f.0.0 in
      let a : bytes_eq (d.state_name t) x ≡ false = ap (bytes_eq (d.state_name t)) h.0 ∙ names.apart t s l me.declared ∙ e.0 in
      let b = outside_among k 0 k kids f.0.1 h.1 t l j.0 in
      let r = outside_among q (suc n) g rest f.1 h.2 t l j.1 in
      rw a (among_append (d.state_name t) (state_names kids) (state_names rest) ∙ rw (b, r) refl)
    where
      or_false : (a b : Bool) → (a || b) ≡ false → (a ≡ false) × (b ≡ false)
      or_false true b h = absurd (true_is_not_false h)
      or_false false b h = (refl, h)
  outside_among q n _ _ f h t l i = absurd h

  pub states_once : (q : Group) (n : ℕ) (g : Group) (f : Forest) → FineGroup d.world q n g → Shaped d g f → AreDistinct (state_names f)
  states_once q n no_node none f h = tt
  states_once q n (and_node (state_node s c k) g) (state x b kids rest) f h =
      let me = node_state d.world q n s c k f.0.0 in
      let node = f.0.0 in
      let own : inside k s ≡ false = false_from_ne_true (inside k s) (λ i. clash s s (below_bounds d.world s s (sym (node.numbers s) ∙ i)).0 refl) in
      let later : inside g s ≡ false = false_from_ne_true (inside g s) (λ i. let a = f.2 s i in let z = node.itself in omega (arith, a, z)) in
      let cross : (t : ℕ) → inside k t ≡ true → inside g t ≡ false =
      λ t i. false_from_ne_true (inside g t) (λ j. let a = f.2 t j in let z = (below_bounds d.world s t (sym (node.numbers t) ∙ i)).1 in omega (arith, a, z)) in (
        ap (λ (y : Name). is_among y (state_names kids ++ state_names rest)) h.0
            ∙ among_append (d.state_name s) (state_names kids) (state_names rest)
            ∙ rw (outside_among k 0 k kids f.0.1 h.1 s me.declared own, outside_among q (suc n) g rest f.1 h.2 s me.declared later) refl,
        distinct_join (state_names kids) (state_names rest) (states_once k 0 k kids f.0.1 h.1) (states_once q (suc n) g rest f.1 h.2)
            (all_states d (λ (x : Name). is_among x (state_names rest) ≡ false) k kids h.1
            (λ t i. outside_among q (suc n) g rest f.1 h.2 t (inside_state d.world k 0 k f.0.1 t i).declared (cross t i))),
      )
    where
      clash : (a b : ℕ) → a < b → a ≡ b → ⊥
      clash a b l e = omega (arith, l, e)
  states_once q n _ _ f h = absurd h

-- all names of a program

numeral_inner : (k : ℕ) → list_all is_inner (numeral k) ≡ true
numeral_inner k = digits_inner (numeral k) (numeral_digits k)

no_help : (c : ℕ) (cs : List ℕ) → (c == 110) ≡ false → is_helping (c ∷ cs) ≡ false
no_help c [] h = refl
no_help c (e ∷ cs) h = rw h refl

no_gate : (c : ℕ) (cs : List ℕ) → (c == 103) ≡ false → is_gate (c ∷ cs) ≡ false
no_gate c [] h = refl
no_gate c (e ∷ cs) h = rw h refl

module _ (d : Named) (names : NamesApart d) where
  entity_inner : (x : ℕ) → list_all is_inner (entity_word d x) ≡ true
  entity_inner x = elim (cases_Bool (nat_lt x (root (world d)))) [
    | inl e ↦ rw e (word_inner (name d x) (names.words x e))
    | inr e ↦ rw e (numeral_inner x)
  ]

  seat_inner : (p : ℕ) → list_all is_inner (seat_word d p) ≡ true
  seat_inner p = elim (cases_Bool (nat_eq p (root (world d)))) [
    | inl e ↦ rw e refl
    | inr e ↦ rw e (entity_inner p)
  ]

  pub key_is_name : (a : Key) → is_name (key_name d a) ≡ true
  unfolding is_name
  key_is_name (value_key x) = rw (entity_inner x) refl
  key_is_name (tag_key x) = rw (entity_inner x) refl
  key_is_name (seat_key p) = rw (seat_inner p) refl
  key_is_name (refused_key k) = rw (numeral_inner k) refl
  key_is_name (level_key k) = rw (numeral_inner k) refl
  key_is_name (wire_key k) = rw (numeral_inner k) refl
  key_is_name (first_key k) = rw (numeral_inner k) refl
  key_is_name (inner_key k) = rw (numeral_inner k) refl

  pub key_no_help : (a : Key) → is_helping (key_name d a) ≡ false
  key_no_help (wire_key k) = no_help 104 (numeral k) refl
  key_no_help (first_key k) = no_help 98 (numeral k) refl
  key_no_help (inner_key k) = no_help 117 (numeral k) refl
  key_no_help _ = refl

  pub key_no_gate : (a : Key) → is_gate (key_name d a) ≡ false
  key_no_gate (wire_key k) = no_gate 104 (numeral k) refl
  key_no_gate (first_key k) = no_gate 98 (numeral k) refl
  key_no_gate (inner_key k) = no_gate 117 (numeral k) refl
  key_no_gate _ = refl
