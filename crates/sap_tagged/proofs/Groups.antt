-- The states of a group: their names, their places, and what a goto among them does to seats.
use Rattle.sap_lemmas.proofs.Common.{◌≡◌, ℕ, suc, ◌+◌, ◌<◌, ◌≤◌, Bool, true, false, ◌||◌, refl, sym, ap, ◌∙◌, subst, arith, nat_lt, nat_eq, inl, inr, bytes_eq, if◌then◌else◌, cases_Bool, eqb-true, eq-eqb, false_from_ne_true, or_right, common_steps, or_other, true_is_not_false, test_symmetric}
use Rattle.sap_maps.specs.Maps.{Name}
use Rattle.sap_meaning.specs.Prelude.{World, root, is_state, is_memory, children, place, last, below, Block, state_node, Group, no_node, and_node, child, among, FineNode, FineGroup, inside, size}
use Rattle.sap_meaning.proofs.Trees.{lands}
use Rattle.sap_ir.specs.Prelude.{Going, Body, Forest, none, state, put_value, first_child, restart, enter}
use Rattle.sap_net.specs.PortNames.{seat_name, root_seat}
use Rattle.sap_ir.specs.Plain.Nested as nested
use Rattle.sap_tagged.specs.Prelude.{Key, value_key, tag_key, seat_key, refused_key, level_key, wire_key, first_key, same, Setting, Lawful, at}
use Rattle.sap_tagged.proofs.Bools.{tagged, kept_no_memory}
use Rattle.sap_tagged.proofs.Terms.{AllTagged}
use Rattle.sap_tagged.proofs.Puts.{put_to, at_put, memory_put, stands_changed}
use Rattle.sap_tagged.proofs.Gotos.{moved, GoesRun}

-- the names of states
pub record LawfulStates (d : Setting) : Type 0 where
  pub apart : (s t : ℕ) → nat_lt s (root d.world) ≡ true → nat_lt t (root d.world) ≡ true → bytes_eq (d.state_name s) (d.state_name t) ≡ nat_eq s t
  pub seats : (s : ℕ) → nat_lt s (root d.world) ≡ true → seat_name (d.state_name s) ≡ d.name (seat_key s)
  pub root_seat : root_seat ≡ d.name (seat_key (root d.world))

-- a forest with the states of a group, and of the groups below them
abbrev pub Shaped : Setting → Group → Forest → Type 0
Shaped d no_node none = Unit {0}
Shaped d no_node (state x b kids rest) = ⊥
Shaped d (and_node t g) none = ⊥
Shaped d (and_node (state_node s c k) g) (state x b kids rest) = (x ≡ d.state_name s) × Shaped d k kids × Shaped d g rest

-- a state of a group
pub record IsState (w : World) (t : ℕ) : Type 0 where
  pub kind : is_state w t ≡ true
  pub declared : nat_lt t (root w) ≡ true

lt_test : (s l n : ℕ) → s ≤ l → l < n → nat_lt s n ≡ true
lt_test s l n h k = grind (arith, common_steps)

pub no_memory : (w : World) (t : ℕ) → is_state w t ≡ true → is_memory w t ≡ false
no_memory w t h = kept_no_memory w t (or_right _ (is_state w t) h)

pub node_state : (w : World) (q : Group) (n s : ℕ) (b : Block) (g : Group) → FineNode w q n s b g → IsState w s
node_state w q n s b g f = record { kind = f.kind; declared = lt_test s (last w s) (root w) f.itself f.declared }

pub group_states : (w : World) (q : Group) (n : ℕ) (g : Group) → FineGroup w q n g → (t : ℕ) → among g t ≡ true → IsState w t
group_states w q n no_node f t h = absurd (true_is_not_false (sym h))
group_states w q n (and_node (state_node s b k) g) f t h = elim (cases_Bool (nat_eq t s)) [
  | inl e ↦ subst (λ (x : ℕ). IsState w x) (sym (eqb-true t s e)) (node_state w q n s b k f.0.0)
  | inr e ↦ group_states w q (suc n) g f.1 t (or_other (nat_eq t s) (among g t) h e)
]

pub group_tagged : (w : World) (q : Group) (n : ℕ) (g : Group) → FineGroup w q n g → AllTagged w g
group_tagged w q n g f t h = let i = group_states w q n g f t h in let m = no_memory w t i.kind in (tagged w t i.declared m, m)

-- the seats that become 0, where nothing else changes
pub record Restarted (d : Setting) (picks : ℕ → Bool) (g g' : Going) : Type 0 where
  pub seats : (p : ℕ) → 0 < children d.world p → at d g' (seat_key p) ≡ (if picks p then 0 else at d g (seat_key p))
  pub there : (a : Key) → ((p : ℕ) → same a (seat_key p) ≡ false) → at d g' a ≡ at d g a
  pub cell : g'.now.cell ≡ g.now.cell
  pub next : g'.next ≡ g.next

restarted_none : (d : Setting) (g : Going) (picks : ℕ → Bool) → ((p : ℕ) → 0 < children d.world p → picks p ≡ false) → Restarted d picks g g
restarted_none d g picks f = record {
  seats = λ p h. ap (λ (b : Bool). if b then 0 else at d g (seat_key p)) (sym (f p h));
  there = λ a n. refl;
  cell = refl;
  next = refl;
}

restarted_next : (d : Setting) (p1 p2 picks : ℕ → Bool) (g g1 g2 : Going) → ((p : ℕ) → picks p ≡ (p1 p || p2 p)) → Restarted d p1 g g1
    → Restarted d p2 g1 g2 → Restarted d picks g g2
restarted_next d p1 p2 picks g g1 g2 e a b = record {
  seats = λ p h.
      b.seats p h ∙ ap (λ (v : ℕ). if p2 p then 0 else v) (a.seats p h) ∙ merged (p1 p) (p2 p) (at d g (seat_key p))
      ∙ ap (λ (c : Bool). if c then 0 else at d g (seat_key p)) (sym (e p));
  there = λ k n. b.there k n ∙ a.there k n;
  cell = b.cell ∙ a.cell;
  next = b.next ∙ a.next;
}
  where
    merged : (a b : Bool) (v : ℕ) → (if b then 0 else (if a then 0 else v)) ≡ (if a || b then 0 else v)
    merged true true v = refl
    merged _ _ v = refl

module _ (d : Setting) (widths : Name → ℕ) (laws : Lawful d widths) (names : LawfulStates d) where
  put_is : (g : Going) (x : Name) (a : Key) (n : ℕ) → x ≡ d.name a → put_value g x n ≡ put_to d g a n
  unfolding put_to
  put_is g x a n e = ap (λ (y : Name). put_value g y n) e

  one_seat : (g : Going) (s : ℕ) → Restarted d (λ p. nat_eq p s) g (put_to d g (seat_key s) 0)
  one_seat g s = record {
    seats = λ p h. at_put d widths laws g (seat_key s) (seat_key p) 0;
    there = λ a n. at_put d widths laws g (seat_key s) a 0 ∙ ap (λ (b : Bool). if b then 0 else at d g a) (n s);
    cell = (memory_put d g (seat_key s) 0).0;
    next = (memory_put d g (seat_key s) 0).1;
  }

  first_child_is : (s : ℕ) (x : Name) (k : Group) (kids : Forest) (g : Going) → nat_lt s (root d.world) ≡ true → x ≡ d.state_name s → children d.world s ≡ size k → Shaped d k kids
      → Restarted d (λ p. nat_eq p s) g (first_child x kids g)
  first_child_is s x no_node none g l e c h =
      restarted_none d g (λ p. nat_eq p s) (λ p i. false_from_ne_true (nat_eq p s) (λ q. no_child p i (eqb-true p s q)))
    where
      no_child : (p : ℕ) → 0 < children d.world p → p ≡ s → ⊥
      no_child p i q = let z : children d.world p ≡ 0 = ap (children d.world) q ∙ c in omega (arith, i, z)
  first_child_is s x (and_node (state_node u i k) r) (state y b kids rest) g l e c h =
      subst (λ (z : Going). Restarted d (λ p. nat_eq p s) g z) (sym (put_is g (seat_name x) (seat_key s) 0 (ap seat_name e ∙ names.seats s l))) (one_seat g s)
  first_child_is s x _ _ g l e c h = absurd h

  pub restart_is : (q : Group) (n : ℕ) (k : Group) (kids : Forest) → FineGroup d.world q n k → Shaped d k kids → (g : Going) → Restarted d (inside k) g (restart kids g)
  restart_is q n no_node none f h g = restarted_none d g (λ p. false) (λ p i. refl)
  restart_is q n (and_node (state_node s c k) r) (state y b kids rest) f h g =
      let i = node_state d.world q n s c k f.0.0 in
      let g1 = first_child y kids g in
      let g2 = restart kids g1 in
      let a = first_child_is s y k kids g i.declared h.0 f.0.0.count h.1 in
      let b = restart_is k 0 k kids f.0.1 h.1 g1 in
      let c = restart_is q (suc n) r rest f.1 h.2 g2 in
      restarted_next d (λ p. nat_eq p s || inside k p) (inside r) (λ p. nat_eq p s || (inside k p || inside r p)) g g2 (restart rest g2)
      (λ p. regrouped (nat_eq p s) (inside k p) (inside r p))
      (restarted_next d (λ p. nat_eq p s) (inside k) (λ p. nat_eq p s || inside k p) g g1 g2 (λ p. refl) a b) c
    where
      regrouped : (a b c : Bool) → (a || (b || c)) ≡ ((a || b) || c)
      regrouped true b c = refl
      regrouped false b c = refl
  restart_is q n _ _ f h g = absurd h

  -- a state that a goto names
  pub record Found (target n : ℕ) (forest : Forest) : Type 0 where
    pub kids : Group
    pub shaped : Shaped d kids (nested.children_of forest (d.state_name target))
    pub fine : FineGroup d.world kids 0 kids
    pub count : children d.world target ≡ size kids
    pub placed : n + nested.place forest (d.state_name target) ≡ place d.world target
    pub here : (p : ℕ) → inside kids p ≡ below d.world target p

  found_here : (q : Group) (n s : ℕ) (b : Block) (k : Group) (x : Name) (body : Body) (kids rest : Forest) → FineNode d.world q n s b k → FineGroup d.world k 0 k
      → x ≡ d.state_name s → Shaped d k kids → Found s n (state x body kids rest)
  found_here q n s b k x body kids rest f g e h =
      let i = node_state d.world q n s b k f in
      let hit : bytes_eq x (d.state_name s) ≡ true = ap (λ (y : Name). bytes_eq y (d.state_name s)) e ∙ names.apart s s i.declared i.declared ∙ eq-eqb s s refl in
      record {
        kids = k;
        shaped = subst (λ (c : Bool). Shaped d k (if c then kids else nested.children_of rest (d.state_name s))) (sym hit) h;
        fine = g;
        count = f.count;
        placed = ap (λ (c : Bool). n + (if c then 0 else suc (nested.place rest (d.state_name s)))) hit ∙ (omega arith) ∙ sym f.placed;
        here = f.numbers;
      }

  pub found : (q : Group) (n : ℕ) (g : Group) (forest : Forest) → FineGroup d.world q n g → Shaped d g forest → (target : ℕ) → among g target ≡ true → Found target n forest
  found q n no_node none f h target i = absurd (true_is_not_false (sym i))
  found q n (and_node (state_node s c k) g) (state x b kids rest) f h target i = elim (cases_Bool (nat_eq target s)) [
    | inl e ↦
        subst (λ (z : ℕ). Found z n (state x b kids rest)) (sym (eqb-true target s e))
        (found_here q n s c k x b kids rest f.0.0 f.0.1 h.0 h.1)
    | inr e ↦
        (let j = or_other (nat_eq target s) (among g target) i e in
        let r = found q (suc n) g rest f.1 h.2 target j in
        let there = group_states d.world q (suc n) g f.1 target j in
        let me = node_state d.world q n s c k f.0.0 in
        let miss : bytes_eq x (d.state_name target) ≡ false =
        ap (λ (y : Name). bytes_eq y (d.state_name target)) h.0 ∙ names.apart s target me.declared there.declared ∙ test_symmetric s target ∙ e in
        record {
          kids = r.kids;
          shaped = subst (λ (c : Bool). Shaped d r.kids (if c then kids else nested.children_of rest (d.state_name target))) (sym miss) r.shaped;
          fine = r.fine;
          count = r.count;
          placed =
              ap (λ (c : Bool). n + (if c then 0 else suc (nested.place rest (d.state_name target)))) miss
              ∙ after n (nested.place rest (d.state_name target)) ∙ r.placed;
          here = r.here;
        })
  ]
    where
      after : (n m : ℕ) → n + suc m ≡ suc n + m
      after n m = omega arith
  found q n _ _ f h target i = absurd h

  -- a goto among the states of a group
  pub goes_run : (parent : ℕ) (seat : Name) (q : Group) (forest : Forest) → seat ≡ d.name (seat_key parent) → children d.world parent ≡ size q → FineGroup d.world q 0 q
      → Shaped d q forest → GoesRun d (enter seat forest) parent q
  unfolding moved
  goes_run parent seat q forest e count f h target i g s st =
      let x = d.state_name target in
      let r = found q 0 q forest f h target i in
      let it = group_states d.world q 0 q f target i in
      let kids = nested.children_of forest x in
      let n = nested.place forest x in
      let g1 = put_value g seat n in
      let g2 = first_child x kids g1 in
      let g3 = restart kids g2 in
      let e1 : g1 ≡ put_to d g (seat_key parent) n = put_is g seat (seat_key parent) n e in
      let a = first_child_is target x r.kids kids g1 it.declared refl r.count r.shaped in
      let b = restart_is r.kids 0 r.kids kids r.fine r.shaped g2 in
      let first : (k : Key) → at d g1 k ≡ (if same k (seat_key parent) then n else at d g k) =
      λ k. ap (λ (z : Going). at d z k) e1 ∙ at_put d widths laws g (seat_key parent) k n in
      let there : (k : Key) → ((p : ℕ) → same k (seat_key p) ≡ false) → at d g3 k ≡ at d g k =
      λ k no. b.there k no ∙ a.there k no ∙ first k ∙ ap (λ (c : Bool). if c then n else at d g k) (no parent) in (
        stands_changed d g g3 s (moved d.world parent target s) st
            (record {
              cell = b.cell ∙ a.cell ∙ ap (λ (z : Going). z.now.cell) e1 ∙ (memory_put d g (seat_key parent) n).0;
              next = b.next ∙ a.next ∙ ap (λ (z : Going). z.next) e1 ∙ (memory_put d g (seat_key parent) n).1;
              first = λ m. there (first_key m) (λ p. refl);
            })
            (record { starts = λ m i. refl; start_tags = λ m i. refl; start_tag = λ m. refl; nexts = λ m i. refl; next_tags = λ m i. refl })
            (λ k c. there (value_key k) (λ p. refl) ∙ st.value k c)
            (λ k c. there (tag_key k) (λ p. refl) ∙ st.tag k c)
            (λ p c.
            b.seats p c ∙ ap (λ (v : ℕ). if inside r.kids p then 0 else v) (a.seats p c ∙ ap (λ (v : ℕ). if nat_eq p target then 0 else v) (first (seat_key p)))
            ∙ ap (λ (q : Bool). if q then 0 else (if nat_eq p target then 0 else (if nat_eq p parent then n else at d g (seat_key p)))) (r.here p)
            ∙ swapped (below d.world target p) (nat_eq p target) (if nat_eq p parent then n else at d g (seat_key p))
            ∙ ap (λ (v : ℕ). if nat_eq p target then 0 else (if below d.world target p then 0 else (if nat_eq p parent then v else at d g (seat_key p)))) (at_zero n ∙ r.placed)
            ∙ ap (λ (v : ℕ). if nat_eq p target then 0 else (if below d.world target p then 0 else (if nat_eq p parent then place d.world target else v))) (st.seat p c))
            (λ p c. seated p c (nat_eq p target) (below d.world target p) (nat_eq p parent) refl),
        λ k. record { kept = λ j l. there (wire_key j) (λ p. refl); refused = λ m. there (refused_key m) (λ p. refl); levels = λ m. there (level_key m) (λ p. refl) },
      )
    where
      swapped : (a b : Bool) (v : ℕ) → (if a then 0 else (if b then 0 else v)) ≡ (if b then 0 else (if a then 0 else v))
      swapped true true v = refl
      swapped _ _ v = refl

      at_zero : (n : ℕ) → n ≡ 0 + n
      at_zero n = omega arith

      seated : (p : ℕ) → 0 < children d.world p → (a b c : Bool) → nat_eq p parent ≡ c
          → (if a then 0 else (if b then 0 else (if c then place d.world target else child p s))) < children d.world p
      seated p some true b c here = some
      seated p some false true c here = some
      seated p some false false true here = subst (λ (x : ℕ). place d.world target < children d.world x) (sym (eqb-true p parent here)) (lands d.world parent q f count target i)
      seated p some false false false here = st.seated p some
