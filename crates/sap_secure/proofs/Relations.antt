-- States that agree, in the words of the law and in those of the proofs.
use Rattle.sap_lemmas.proofs.Common.{◌≡◌, ℕ, zero, suc, ◌+◌, ◌<◌, true, false, List, [], ◌∷◌, if◌then◌else◌, refl, sym, ap, ◌∙◌, subst, arith, inl, inr, cases_Bool, or_right}
use Rattle.sap_lattice.specs.Order.{Order, Laws}
use Rattle.sap_meaning.specs.Prelude.{World, Program, children, is_dynamic, is_input, place, Block, State, state_node, Group, no_node, and_node, Slot, own, start, next, start_whole, next_whole, Store, owner, home, number, level, child, Holds, Low, High, Alike, PartsAlike, ActiveState, path_from, active_path, PathsRelated, StatesAgree, FineGroup, size, number_of, kids_of}
use Rattle.sap_meaning.proofs.Trees.{Nth, nth_fine}
use Rattle.sap_secure.proofs.Levels.{Same, same_high}
use Rattle.sap_secure.proofs.Agreeing.{compared, Agree}
use Rattle.sap_secure.proofs.Sites.{Around, around_kids}
use Rattle.sap_secure.proofs.Walks.{Stop, stop, from, path, path_cases, heads, heads_low}

pub same_of : (o : Order) (l n t m u : ℕ) → Alike o l (n ≡ m) t u → Same o l n t m u
same_of o l n t m u (inl a) = record { low = ap (λ v. o.le v l) a.1; number = λ h. a.0; level = λ h. a.1 }
same_of o l n t m u (inr a) = record { low = a.0 ∙ sym a.1; number = λ h. let no = a.0 in cc; level = λ h. let no = a.0 in cc }

pub alike_of : (o : Order) (l n t m u : ℕ) → Same o l n t m u → Alike o l (n ≡ m) t u
alike_of o l n t m u r = elim (cases_Bool (o.le t l)) [
  | inl h ↦ inl (r.number h, r.level h, h)
  | inr h ↦ inr (h, sym r.low ∙ h)
]

module _ (w : World) (laws : Laws w.order) (l : ℕ) where
  kids_around : (p : ℕ) (g : Group) (n c : ℕ) (b : Block) (k : Group) → Nth g n (state_node c b k) → Around w p g → Around w c k
  kids_around p g n c b k h around = around_kids w g (0 + n) c b k (nth_fine w g 0 g n (state_node c b k) h around.fine)

  pub kid_around : (p : ℕ) (g : Group) (n : ℕ) (x : State) → Nth g n x → Around w p g → Around w (number_of x) (kids_of x)
  kid_around p g n (state_node c b k) h around = kids_around p g n c b k h around

  -- the active path from the n-th of a group on
  abbrev walk : Group → ℕ → Store → List ActiveState
  walk g n s = path_from (λ x. child x s) (λ x. level w (own x) s) g n

  -- what is seen of it, by places
  abbrev stops : List ActiveState → List Stop
  stops [] = []
  stops (x ∷ xs) = if w.order.le x.tag l then stop (place w x.state) x.tag ∷ stops xs else []

  stops_of_walk : (q : Group) (m : ℕ) (g : Group) (n i : ℕ) (s : Store) → FineGroup w q m g → i ≡ m + n → from w l g n i s ≡ stops (walk g n s)
  stops_of_walk q m no_node n i s fine e = refl
  stops_of_walk q m (and_node (state_node c b k) g) zero i s fine e = elim (cases_Bool (w.order.le (level w (own c) s) l)) [
    | inl low ↦ (
        let here : place w c ≡ m = fine.0.0.placed in
        let at : i ≡ place w c = omega arith in
        rw (low, at, stops_of_walk k 0 k (child c s) (child c s) s fine.0.1 (omega arith)) refl)
    | inr high ↦ rw high refl
  ]
  stops_of_walk q m (and_node (state_node c b k) g) (suc n) i s fine e = stops_of_walk q (suc m) g n i s fine.1 (omega arith)

  same_stops : (xs ys : List ActiveState) → PathsRelated (Alike w.order l) xs ys → stops xs ≡ stops ys
  same_stops [] [] r = refl
  same_stops [] (y ∷ ys) r = absurd r
  same_stops (x ∷ xs) [] r = absurd r
  same_stops (x ∷ xs) (y ∷ ys) (inl r) =
      let low : Low w.order l y.tag = subst (λ (t : ℕ). Low w.order l t) r.1 r.2 in
      rw (r.0.0, r.1, low, same_stops xs ys r.0.1) refl
  same_stops (x ∷ xs) (y ∷ ys) (inr r) = rw (r.0, r.1) refl

  -- where active paths look alike, what is seen of them is the same, ..
  pub same_path : (p : ℕ) (g : Group) → FineGroup w g 0 g → (s t : Store) → PathsRelated (Alike w.order l) (walk g (child p s) s) (walk g (child p t) t)
      → path w l p g s ≡ path w l p g t
  same_path p g fine s t r =
      stops_of_walk g 0 g (child p s) (child p s) s fine (omega arith) ∙ same_stops _ _ r ∙ sym (stops_of_walk g 0 g (child p t) (child p t) t fine (omega arith))

  both_high : (xs ys as' bs : List ActiveState) (x y : ActiveState) → xs ≡ x ∷ as' → ys ≡ y ∷ bs → High w.order l x.tag → High w.order l y.tag
      → PathsRelated (Alike w.order l) xs ys
  both_high xs ys as' bs x y e f h i = rw (e, f) (inr (h, i))

  -- of a state that is not seen nothing is
  unseen : (g : Group) (n i : ℕ) (s : Store) → n < size g → from w l g n i s ≡ []
      → (x : ActiveState) × (xs : List ActiveState) × (walk g n s ≡ x ∷ xs) × High w.order l x.tag
  unseen no_node n i s in' e = absurd (omega arith)
  unseen (and_node (state_node c b k) g) zero i s in' e = elim (cases_Bool (w.order.le (level w (own c) s) l)) [
    | inl low ↦ (let e' = rw low at e in cc)
    | inr high ↦ (record { state = c; tag = level w (own c) s }, walk k (child c s) s, refl, high)
  ]
  unseen (and_node (state_node c b k) g) (suc n) i s in' e = unseen g n i s (omega arith) e

  seated : (s : Store) → Holds w s → (p : ℕ) (g : Group) → children w p ≡ size g → 0 < size g → child p s < size g
  seated s holds p g count some = subst (λ (n : ℕ). child p s < n) count (holds.seated p (subst (λ (n : ℕ). 0 < n) (sym count) some))

  module _ (s t : Store) (one : Holds w s) (other : Holds w t) where
    alike_below : (p : ℕ) (g : Group) → children w p ≡ size g
        → ((n : ℕ) → n < size g → from w l g n n s ≡ from w l g n n t → PathsRelated (Alike w.order l) (walk g n s) (walk g n t))
        → path w l p g s ≡ path w l p g t → PathsRelated (Alike w.order l) (walk g (child p s) s) (walk g (child p t) t)
    alike_below p no_node count below e = tt
    alike_below p (and_node a g) count below e =
        let here : child p s < size (and_node a g) = seated s one p (and_node a g) count (omega arith) in
        let there : child p t < size (and_node a g) = seated t other p (and_node a g) count (omega arith) in
        elim (path_cases w laws l (and_node a g) p p s t e) [
          | inl same ↦ rw (← same) (below (child p s) here (rw (← same) at e))
          | inr ended ↦ (
              let x = unseen (and_node a g) (child p s) (child p s) s here ended.0 in
              let y = unseen (and_node a g) (child p t) (child p t) t there ended.1 in
              both_high _ _ x.1 y.1 x.0 y.0 x.2 y.2 x.3 y.3)
        ]

    alike_from : (q : Group) (m : ℕ) (g : Group) (n i : ℕ) → FineGroup w q m g → n < size g → from w l g n i s ≡ from w l g n i t
        → PathsRelated (Alike w.order l) (walk g n s) (walk g n t)
    alike_from q m no_node n i fine in' e = absurd (omega arith)
    alike_from q m (and_node (state_node c b k) g) zero i fine in' e = elim (cases_Bool (w.order.le (level w (own c) s) l)) [
      | inl low ↦ (
          let h = heads w laws l i i c c k k s t e low in
          inl ((refl, alike_below c k fine.0.0.count (λ n. alike_from k 0 k n n fine.0.1) h.2), h.1, low))
      | inr high ↦ inr (high, sym (heads_low w laws l i i c c k k s t e) ∙ high)
    ]
    alike_from q m (and_node (state_node c b k) g) (suc n) i fine in' e = alike_from q (suc m) g n i fine.1 (omega arith) e

    -- .. and where that is the same, they look alike.
    pub paths_alike : (p : ℕ) (g : Group) → FineGroup w g 0 g → children w p ≡ size g → path w l p g s ≡ path w l p g t
        → PathsRelated (Alike w.order l) (walk g (child p s) s) (walk g (child p t) t)
    paths_alike p g fine count e = alike_below p g count (λ n. alike_from g 0 g n n fine) e

  -- a path looks like itself
  pub path_itself : (xs : List ActiveState) → PathsRelated (Alike w.order l) xs xs
  path_itself [] = tt
  path_itself (x ∷ xs) = elim (cases_Bool (w.order.le x.tag l)) [ inl low ↦ inl ((refl, path_itself xs), refl, low) | inr high ↦ inr (high, high) ]

  -- a cell of a part of a dynamic memory
  cell_alike : (cell : ℕ → Slot) (whole : Slot) (s t : Store) → ((i : ℕ) → home w (cell i) ≡ home w whole) → PartsAlike w l (record { cell = cell; whole = whole }) s t
      → (i : ℕ) → Same w.order l (number (cell i) s) (level w (cell i) s) (number (cell i) t) (level w (cell i) t)
  cell_alike cell whole s t at a i = subst (λ z. Same w.order l (number (cell i) s) (s.level z) (number (cell i) t) (t.level z)) (sym (at i)) (go a)
    where
      go : PartsAlike w l (record { cell = cell; whole = whole }) s t → Same w.order l (number (cell i) s) (level w whole s) (number (cell i) t) (level w whole t)
      go (inl x) = record { low = ap (λ v. w.order.le v l) x.1; number = λ h. x.0 i; level = λ h. x.1 }
      go (inr x) = same_high w.order laws l _ _ _ _ x.0 x.1

  part_alike : (cell : ℕ → Slot) (whole : Slot) (s t : Store) → ((i : ℕ) → home w (cell i) ≡ home w whole)
      → ((i : ℕ) → Same w.order l (number (cell i) s) (level w (cell i) s) (number (cell i) t) (level w (cell i) t)) → PartsAlike w l (record { cell = cell; whole = whole }) s t
  part_alike cell whole s t at f = elim (cases_Bool (w.order.le (level w whole s) l)) [
    | inl h ↦ inl (λ i. (g i).number h, (g 0).level h, h)
    | inr h ↦ inr (h, sym (g 0).low ∙ h)
  ]
    where
      g : (i : ℕ) → Same w.order l (number (cell i) s) (level w whole s) (number (cell i) t) (level w whole t)
      g i = subst (λ z. Same w.order l (number (cell i) s) (s.level z) (number (cell i) t) (t.level z)) (at i) (f i)

module _ (p : Program) (laws : Laws p.world.order) (l : ℕ) where
  abbrev W : World
  W = p.world

  home_starts : (m : ℕ) → is_dynamic W m ≡ true → (i : ℕ) → home W (start m i) ≡ start_whole m
  home_starts m d i = rw d refl

  home_nexts : (m : ℕ) → is_dynamic W m ≡ true → (i : ℕ) → home W (next m i) ≡ next_whole m
  home_nexts m d i = rw d refl

  -- what the words of the law say of a slot that is no input
  pub slots_same : (s t : Store) → StatesAgree p l s t → (z : Slot) → compared W z ≡ true → is_input W (owner z) ≡ false
      → Same W.order l (number z s) (level W z s) (number z t) (level W z t)
  slots_same s t r (own x) g n = same_of W.order l _ _ _ _ (r.registers x (rw n at g))
  slots_same s t r (start m i) g n = elim (cases_Bool (is_dynamic W m)) [
    | inl d ↦ cell_alike W laws l (start m) (start_whole m) s t (home_starts m d) (r.dynamic_memories m g d).0 i
    | inr d ↦ same_of W.order l _ _ _ _ (r.enforced_memories m i g d).0
  ]
  slots_same s t r (next m i) g n = elim (cases_Bool (is_dynamic W m)) [
    | inl d ↦ cell_alike W laws l (next m) (next_whole m) s t (home_nexts m d) (r.dynamic_memories m g d).1 i
    | inr d ↦ same_of W.order l _ _ _ _ (r.enforced_memories m i g d).1
  ]
  slots_same s t r _ g n = cc

  pub states_agree : (s t : Store) → Agree W l s t → PathsRelated (Alike W.order l) (active_path p s) (active_path p t) → StatesAgree p l s t
  states_agree s t r e = record {
    registers = λ x g. alike_of W.order l _ _ _ _ (r.cells (own x) (or_right (is_input W x) _ g));
    enforced_memories = λ m i g d. (alike_of W.order l _ _ _ _ (r.cells (start m i) g), alike_of W.order l _ _ _ _ (r.cells (next m i) g));
    dynamic_memories = λ m g d. (
      part_alike W laws l (start m) (start_whole m) s t (home_starts m d) (λ i. r.cells (start m i) g),
      part_alike W laws l (next m) (next_whole m) s t (home_nexts m d) (λ i. r.cells (next m i) g),
    );
    enforced_levels = r.tags;
    paths = e;
  }
