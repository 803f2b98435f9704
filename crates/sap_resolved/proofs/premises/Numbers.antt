-- The numbers of the states of a group.
use Rattle.sap_lemmas.proofs.Common.{◌≡◌, ℕ, suc, ◌+◌, ◌<◌, ◌≤◌, true, false, ◌&&◌, ◌||◌, List, length, nat_eq, nat_lt, nat_le, refl, sym, ap, ◌∙◌, subst, arith, inl, inr, bytes_eq, common_steps, and_right, iff_same, test_of_same, bytes_eq_same, equal_of_bytes_eq, cases_Bool, and_from, eqb-true, or_cases, or_left, or_right}
use Rattle.sap_tree.specs.Syntax.{CommandBlock, StateTree, state_node, StateList, no_state, and_state}
use Rattle.sap_tree.specs.declared.name.Mention.{Mention}
use Rattle.sap_tree.specs.declared.syntax.Kind.{Kind}
use Rattle.sap_text.specs.declared.place.Place.{Place}
use Rattle.sap_lattice.specs.Levels.{Levels}
use Rattle.sap_names.specs.declared.entity.Entity as declared_entity
use Rattle.sap_shape.specs.ShapeFaults.{is_among, is_within, is_in_group}
use Rattle.sap_meaning.specs.Prelude.{World, Entity, is_state, is_dynamic, root, place, last, below, kind_is_state, Group, among, size, inside}
use Rattle.sap_meaning.specs.Program.{last_of, place_of}
use Rattle.sap_resolved.specs.Worlds.{states_in, states_below, group_length, is_dynamic_kind}
use Rattle.sap_shape.specs.Sites.{Surroundings, block_sites, state_sites}
use Rattle.sap_resolved.specs.Resolve.{group_of}
use Rattle.sap_resolved.specs.Terms.{entity_number}
use Rattle.sap_resolved.proofs.premises.Places.{Laid, LaidState, laid_first, laid_rest, laid_below, laid_entity, laid_name, laid_named, laid_within, name_at}

pub size_of : (ls : Levels) (es : List declared_entity.Entity) (k x : ℕ) (g : StateList) → size (group_of ls es k x g) ≡ group_length g
size_of ls es k x no_state = refl
size_of ls es k x (and_state s rest) = let h = size_of ls es (k + length (state_sites es s)) (x + states_in s) rest in omega arith

in_range : (x y l : ℕ) → x + 1 ≤ y → y < (x + 1) + l → (nat_lt x y && nat_le y (x + l)) ≡ true
in_range x y l h k = grind (arith, common_steps)

of_range : (x y l : ℕ) → (nat_lt x y && nat_le y (x + l)) ≡ true → (x + 1 ≤ y) × (y < (x + 1) + l)
of_range x y l h = (grind (arith, common_steps), grind (arith, common_steps))

-- a number of the states from x on is x, or one below the first, or one of the rest
of_first : (x y a b : ℕ) → x ≤ y → y < x + ((1 + a) + b) → nat_eq y x ≡ false → nat_lt y (x + (1 + a)) ≡ true → (x + 1 ≤ y) × (y < x + 1 + a)
of_first x y a b l m e t = (grind (arith, common_steps), grind (arith, common_steps))

of_rest : (x y a b : ℕ) → y < x + ((1 + a) + b) → nat_lt y (x + (1 + a)) ≡ false → (x + (1 + a) ≤ y) × (y < x + (1 + a) + b)
of_rest x y a b m t = (grind (arith, common_steps), omega arith)

module _ (ls : Levels) (es : List declared_entity.Entity) (w : World) where
  -- of a number inside a group
  pub record Inside (x : ℕ) (g : StateList) (y : ℕ) : Type 0 where
    pub state : is_state w y ≡ true
    pub from : x ≤ y
    pub to : y < x + states_below g
    pub name : is_in_group g (name_at es y) ≡ true

  pub inside_of : (k n x : ℕ) (g : StateList) → Laid ls es w n x g → (y : ℕ) → inside (group_of ls es k x g) y ≡ true → Inside x g y
  inside_of k n x no_state laid y h = cc
  inside_of k n x (and_state (state_node p name kind body children) rest) laid y h =
      let s : StateTree = state_node p name kind body children in
      let surroundings : Surroundings = record { entities = es; home = record { name = name.name; kind = kind; children = children } } in
      let mine : LaidState ls es w n x s = laid_first ls es w n x s rest laid in
      let here : Group = group_of ls es (k + length (block_sites surroundings body)) (x + 1) children in
      let later : Group = group_of ls es (k + length (state_sites es s)) (x + states_in s) rest in
      elim (or_cases (nat_eq y x) (inside here y || inside later y) h) [
        | inl e ↦
            let i : y ≡ x = eqb-true y x e in
            subst (λ z. Inside x (and_state s rest) z) (sym i) (record {
              state = ap (λ (a : Entity). kind_is_state a.kind) (laid_entity ls es w n x p name kind body children mine);
              from = omega arith;
              to = omega arith;
              name =
                  or_left (is_within s (name_at es x)) (is_in_group rest (name_at es x))
                  (or_left (bytes_eq name.name (name_at es x)) (is_in_group children (name_at es x))
                  (rw (laid_name ls es w n x p name kind body children mine) (bytes_eq_same name.name)));
            })
        | inr e ↦ elim (or_cases (inside here y) (inside later y) e) [
          | inl i ↦
              let r : Inside (x + 1) children y = inside_of (k + length (block_sites surroundings body)) 0 (x + 1) children
              (laid_below ls es w n x p name kind body children mine) y i in
              let f = r.from in
              let t = r.to in
              record {
                state = r.state;
                from = omega arith;
                to = omega arith;
                name = or_left (is_within s (name_at es y)) (is_in_group rest (name_at es y))
                    (or_right (bytes_eq name.name (name_at es y)) (is_in_group children (name_at es y)) r.name);
              }
          | inr i ↦
              let r : Inside (x + states_in s) rest y = inside_of (k + length (state_sites es s)) (suc n) (x + states_in s) rest (laid_rest ls es w n x s rest laid) y i in
              let f = r.from in
              let t = r.to in
              record {
                state = r.state;
                from = omega arith;
                to = omega arith;
                name = or_right (is_within s (name_at es y)) (is_in_group rest (name_at es y)) r.name;
              }
        ]
      ]

  -- each number of the states of a group is inside it
  all_inside : (k x : ℕ) (g : StateList) (y : ℕ) → x ≤ y → y < x + states_below g → inside (group_of ls es k x g) y ≡ true
  all_inside k x no_state y l m = absurd (omega arith)
  all_inside k x (and_state (state_node p name kind body children) rest) y l m =
      let s : StateTree = state_node p name kind body children in
      let surroundings : Surroundings = record { entities = es; home = record { name = name.name; kind = kind; children = children } } in
      let here : Group = group_of ls es (k + length (block_sites surroundings body)) (x + 1) children in
      let later : Group = group_of ls es (k + length (state_sites es s)) (x + states_in s) rest in
      elim (cases_Bool (nat_eq y x)) [
        | inl e ↦ or_left (nat_eq y x) (inside here y || inside later y) e
        | inr e ↦ or_right (nat_eq y x) (inside here y || inside later y)
            (elim (cases_Bool (nat_lt y (x + (1 + states_below children)))) [
              | inl t ↦
                  (let r = of_first x y (states_below children) (states_below rest) l m e t in
                  or_left (inside here y) (inside later y) (all_inside (k + length (block_sites surroundings body)) (x + 1) children y r.0 r.1))
              | inr t ↦
                  (let r = of_rest x y (states_below children) (states_below rest) m t in
                  or_right (inside here y) (inside later y) (all_inside (k + length (state_sites es s)) (x + states_in s) rest y r.0 r.1))
            ])
      ]

  -- a name of a group's state is that of a number in the group
  pub among_of : ((y : ℕ) → y < length es → entity_number es (name_at es y) ≡ y) → (k n x : ℕ) (g : StateList) → Laid ls es w n x g → (name : List ℕ)
      → is_among g name ≡ true → among (group_of ls es k x g) (entity_number es name) ≡ true
  among_of numbered k n x no_state laid called h = cc
  among_of numbered k n x (and_state (state_node p name kind body children) rest) laid called h =
      let s : StateTree = state_node p name kind body children in
      let mine : LaidState ls es w n x s = laid_first ls es w n x s rest laid in
      let later : Group = group_of ls es (k + length (state_sites es s)) (x + states_in s) rest in
      elim (or_cases (bytes_eq name.name called) (is_among rest called) h) [
        | inl e ↦
            let i : name_at es x ≡ called = laid_name ls es w n x p name kind body children mine ∙ equal_of_bytes_eq name.name called e in
            let j : entity_number es called ≡ x = sym (ap (λ a. entity_number es a) i) ∙ numbered x (laid_named ls es w n x p name kind body children mine) in
            or_left (nat_eq (entity_number es called) x) (among later (entity_number es called)) (rw j (test_of_same x))
        | inr e ↦ or_right (nat_eq (entity_number es called) x) (among later (entity_number es called))
            (among_of numbered (k + length (state_sites es s)) (suc n) (x + states_in s) rest (laid_rest ls es w n x s rest laid) called e)
      ]

  module _ (n x : ℕ) (p : Place) (name : Mention) (kind : Kind) (body : CommandBlock) (children : StateList)
      (mine : LaidState ls es w n x (state_node p name kind body children)) where
    pub here_state : is_state w x ≡ true
    here_state = ap (λ (a : Entity). kind_is_state a.kind) (laid_entity ls es w n x p name kind body children mine)

    pub here_placed : place w x ≡ n
    here_placed = ap (λ (a : Entity). place_of a.kind) (laid_entity ls es w n x p name kind body children mine)

    pub here_last : last w x ≡ x + states_below children
    here_last = ap (λ (a : Entity). last_of a.kind) (laid_entity ls es w n x p name kind body children mine)

    pub here_dynamic : is_dynamic w x ≡ is_dynamic_kind kind
    here_dynamic = ap (λ (a : Entity). a.dynamic) (laid_entity ls es w n x p name kind body children mine)

    -- the states below are the ones with the numbers after its own, up to its last
    pub here_numbers : (k y : ℕ) → inside (group_of ls es k (x + 1) children) y ≡ below w x y
    here_numbers k y = iff_same (inside (group_of ls es k (x + 1) children) y) (below w x y)
        (λ h.
        let r : Inside (x + 1) children y = inside_of k 0 (x + 1) children (laid_below ls es w n x p name kind body children mine) y h in
        and_from (is_state w y) (nat_lt x y && nat_le y (last w x)) r.state
        (rw here_last (in_range x y (states_below children) r.from r.to)))
        (λ h.
        let r = of_range x y (states_below children) (rw here_last at (and_right (is_state w y) (nat_lt x y && nat_le y (last w x)) h)) in
        all_inside k (x + 1) children y r.0 r.1)

    pub here_itself : x ≤ last w x
    here_itself = let h = here_last in omega arith

    pub here_declared : last w x < root w
    here_declared = rw here_last (laid_within ls es w n x p name kind body children mine)
