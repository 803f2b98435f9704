-- States, groups, and the root's fall.
use Rattle.sap_lemmas.proofs.Common.{◌≡◌, ℕ, zero, suc, ◌+◌, ◌<◌, Bool, true, false, refl, sym, ap, ◌∙◌, arith, nat_eq, if◌then◌else◌, eq-eqb, and_from, and_parts, or_left, or_right}
use Rattle.sap_maps.specs.Prelude.{Name, Term}
use Rattle.sap_meaning.specs.Prelude.{World, root, is_dynamic, is_memory, children, Block, state_node, Group, no_node, and_node, Store, own, start, next, start_whole, next_whole, number, level, child, After, Home, among, run_state, run_child, root_fall, FineNode, FineGroup, size}
use Rattle.sap_ir.specs.Prelude.{Going, value_in, Body, Forest, none, state, body_does, child_does, enter}
use Rattle.sap_net.specs.PortNames.{seat_name}
use Rattle.sap_tagged.specs.Prelude.{value_key, tag_key, seat_key, refused_key, level_key, wire_key, first_key, inner_key, Setting, var, gives, raises, wires_block, block_plain, FewGroup, wires_group, group_plain, saved, saves, top_plain, Lawful, at, is_value, has_tag, tag_slot, Stands, refused_after, level_after, Turns}
use Rattle.sap_tagged.proofs.Bools.{tagged, tagged_memory, memory_within}
use Rattle.sap_tagged.proofs.Terms.{own_tag}
use Rattle.sap_tagged.proofs.StepTerms.{Placed}
use Rattle.sap_tagged.proofs.Puts.{put_to, at_put, does_gives, swept, does_sweep, between, swept_is, within_all}
use Rattle.sap_tagged.proofs.Looks.{Quiet, quiet_none, quiet_next, turns_after, turns_less, turns_stay, wired, raised_quiet, raises_turn}
use Rattle.sap_tagged.proofs.Effects.{FallsRun}
use Rattle.sap_tagged.proofs.Gotos.{GoesRun}
use Rattle.sap_tagged.proofs.Runs.{block_runs}
use Rattle.sap_tagged.proofs.Groups.{LawfulStates, Shaped, group_states, group_tagged, no_memory, goes_run}

pub placed_in : (w : World) (q : Group) (n s parent : ℕ) (b : Block) (k : Group) → FineGroup w q 0 q → among q s ≡ true → FineNode w q n s b k → FineGroup w k 0 k
    → Placed w q (record { state = s; parent = parent; children = k })
placed_in w q n s parent b k whole i node below = record {
  here = i;
  states = λ t h. (group_states w q 0 q whole t h).kind;
  siblings = group_tagged w q 0 q whole;
  kids = group_tagged w k 0 k below;
  seated = node.count;
}

-- numbers that stand for a store as a cycle begins, when no tag is kept yet
pub record Loose (d : Setting) (g : Going) (s : Store) : Type 0 where
  pub value : (x : ℕ) → is_value d.world x ≡ true → at d g (value_key x) ≡ number (own x) s
  pub tag : (x : ℕ) → has_tag d.world x ≡ true → at d g (tag_key x) ≡ d.code (s.level (tag_slot d.world x))
  pub seat : (p : ℕ) → 0 < children d.world p → at d g (seat_key p) ≡ child p s
  pub seated : (p : ℕ) → 0 < children d.world p → child p s < children d.world p
  pub starts : (m i : ℕ) → is_memory d.world m ≡ true → g.now.cell (d.name (value_key m)) i ≡ number (start m i) s
  pub start_tags : (m i : ℕ) → is_memory d.world m ≡ true → is_dynamic d.world m ≡ false → g.now.cell (d.name (tag_key m)) i ≡ d.code (s.level (start m i))
  pub nexts : (m i : ℕ) → is_memory d.world m ≡ true → g.next (d.name (value_key m)) i ≡ number (next m i) s
  pub next_tags : (m i : ℕ) → is_memory d.world m ≡ true → is_dynamic d.world m ≡ false → g.next (d.name (tag_key m)) i ≡ d.code (s.level (next m i))

pub loose : (d : Setting) (g : Going) (s : Store) → Stands d g s → Loose d g s
loose d g s r = record {
  value = r.value;
  tag = r.tag;
  seat = r.seat;
  seated = r.seated;
  starts = r.starts;
  start_tags = r.start_tags;
  nexts = r.nexts;
  next_tags = r.next_tags;
}

-- the numbers after a cycle
pub record Cycles (d : Setting) (g g' : Going) (a : After) : Type 0 where
  pub stands : Loose d g' a.store
  pub refused : (n : ℕ) → at d g' (refused_key n) ≡ refused_after n a.refused (at d g (refused_key n))
  pub levels : (n : ℕ) → at d g' (level_key n) ≡ level_after d.code n a.refused (at d g (level_key n))

cycles : (d : Setting) (k : ℕ) (g g1 g' : Going) (a : After) → Quiet d k g g1 → Turns d k g1 g' a → Cycles d g g' a
cycles d k g g1 g' a q r = record {
  stands = loose d g' a.store r.stands;
  refused = λ n. r.refused n ∙ ap (refused_after n a.refused) (q.refused n);
  levels = λ n. r.levels n ∙ ap (level_after d.code n a.refused) (q.levels n);
}

pub shaped_group : (d : Setting) (parent k : ℕ) (g : Group) → Shaped d g (group_plain d parent k g)
unfolding group_plain
shaped_group d parent k no_node = tt
shaped_group d parent k (and_node (state_node s b g) rest) =
    (refl, shaped_group d s (k + 1 + wires_block b) g, shaped_group d parent (k + (1 + wires_block b + wires_group g)) rest)

pub shaped_top : (d : Setting) (hangs : ℕ → Bool) (k : ℕ) (g : Group) → Shaped d g (top_plain d hangs k g)
unfolding top_plain
shaped_top d hangs k no_node = tt
shaped_top d hangs k (and_node (state_node s b g) rest) =
    (refl, shaped_group d s (k + 1 + wires_block b) g, shaped_top d hangs (k + (1 + wires_block b + wires_group g)) rest)

module _ (d : Setting) (widths : Name → ℕ) (laws : Lawful d widths) (names : LawfulStates d) where
  -- a state's falls
  falls_run : (s : ℕ) (g : Group) (forest : Forest) (base : ℕ) (x : Name) → x ≡ d.name (seat_key s) → children d.world s ≡ size g → Shaped d g forest
      → ((n : ℕ) (h : Going) (st : Store) (l : ℕ) → Stands d h st → at d h (inner_key s) ≡ d.code l
      → Turns d base h (child_does widths (enter x forest) forest n h) (run_child d.world g s n l st))
      → FallsRun d (λ h. child_does widths (enter x forest) forest (h.now.value x) h) base s (run_child d.world g s)
  unfolding run_child
  falls_run s no_node none base x e c h runs g st l stands pc = turns_stay d base g g st (quiet_none d base g) stands
  falls_run s no_node (state y b kids rest) base x e c h runs g st l stands pc = absurd h
  falls_run s (and_node t k) forest base x e c h runs g st l stands pc =
      let z : g.now.value x ≡ child s st = ap g.now.value e ∙ stands.seat s (some c) in
      rw z (runs (child s st) g st l stands pc)
    where
      some : {m n : ℕ} → m ≡ suc n → 0 < m
      some e = omega (arith, e)

  pub group_runs : (grp q : Group) (n0 parent k : ℕ) (go : Name → Going → Going) → FineGroup d.world q 0 q → FineGroup d.world q n0 grp → FewGroup grp
      → ((t : ℕ) → among grp t ≡ true → among q t ≡ true) → GoesRun d go parent q
      → (n : ℕ) (g : Going) (s : Store) (l : ℕ) → Stands d g s → at d g (inner_key parent) ≡ d.code l
      → Turns d k g (child_does widths go (group_plain d parent k grp) n g) (run_child d.world grp parent n l s)
  unfolding run_child run_state group_plain
  group_runs no_node q n0 parent k go whole fine few part goes n g s l st pc = turns_stay d k g g s (quiet_none d k g) st
  group_runs (and_node (state_node x b kids) rest) q n0 parent k go whole fine few part goes zero g s l st pc =
      let base = k + 1 + wires_block b in
      let node = fine.0.0 in
      let i : among q x ≡ true = part x (or_left (nat_eq x x) (among rest x) (eq-eqb x x refl)) in
      let forest = group_plain d x base kids in
      let declared = (group_states d.world q 0 q whole x i).declared in
      let seat = seat_name (d.state_name x) in
      let e : seat ≡ d.name (seat_key x) = names.seats x declared in
      let shape = shaped_group d x base kids in
      let goes' = goes_run d widths laws names x seat kids forest e node.count fine.0.1 shape in
      let inner = group_runs kids kids 0 x base (enter seat forest) fine.0.1 fine.0.1 few.0.1 (λ t h. h) goes' in
      let falls = falls_run x kids forest base seat e node.count shape inner in
      let f : Going → Going = λ h. child_does widths (enter seat forest) forest (h.now.value seat) h in
      let sp : Home = record { state = x; parent = parent; children = kids } in
      let v = value_in widths g (var d (inner_key parent)) in
      let g1 = put_to d g (wire_key k) v in
      let r0 = wired d widths laws s k g v (d.code l) st pc in
      let r = block_runs d widths laws f go q sp (placed_in d.world q n0 x parent b kids whole i node fine.0.1) goes base
      (run_child d.world kids x) falls b node.steps few.0.0 k (k + 1)
      (omega arith) (omega arith) g1 s l r0.stands r0.here in
      rw (does_gives d widths f go g (wire_key k) (var d (inner_key parent)) (block_plain d sp k (k + 1) b))
      (turns_after d k (k + 1) g g1 _ _ (omega arith) (r0.quiet k (omega arith)) r)
  group_runs (and_node (state_node x b kids) rest) q n0 parent k go whole fine few part goes (suc n) g s l st pc =
      let j = k + (1 + wires_block b + wires_group kids) in
      turns_less d k j g _ _ (omega arith)
      (group_runs rest q (suc n0) parent j go whole fine.1 few.1 (λ t h. part t (or_right (nat_eq t x) (among rest t) h)) goes n g s l st pc)

  -- the tags that are kept
  save : (f : Going → Going) (go : Name → Going → Going) (k : ℕ) (g : Going) (s : Store) (rest : Body) → Loose d g s
      → ((m : ℕ) → saved d.world m ≡ true → s.level (start_whole m) ≡ s.level (next_whole m))
      → (g' : Going) × (body_does widths f go (saves d rest) g ≡ body_does widths f go rest g') × Stands d g' s × Quiet d k g g'
  save f go k g s rest r begins =
      let n = root d.world in
      let term : ℕ → Term Name = λ x. var d (tag_key x) in
      let picks : ℕ → Bool = saved d.world in
      let all : Going → Type 0 = λ h. (x : ℕ) → has_tag d.world x ≡ true → at d h (tag_key x) ≡ d.code (s.level (tag_slot d.world x)) in
      let a = swept_is d widths laws first_key (λ y x. refl) picks term (λ y z. d.code (s.level (tag_slot d.world y))) all
      (λ y z h i x l. at_put d widths laws h (first_key y) (tag_key x) z ∙ i x l) (λ y h i e. i y (kept_tag y e)) 0 n g r.tag in
      let g' = swept d widths first_key picks term 0 n g in (
        g',
        does_sweep d widths f go first_key picks term 0 n rest g,
        record {
          value = λ x h. a.there (value_key x) (λ y. refl) ∙ r.value x h;
          tag = λ x h. a.there (tag_key x) (λ y. refl) ∙ r.tag x h;
          seat = λ p h. a.there (seat_key p) (λ y. refl) ∙ r.seat p h;
          seated = r.seated;
          starts = λ m i h. ap (λ (c : Name → ℕ → ℕ). c (d.name (value_key m)) i) a.memory.0 ∙ r.starts m i h;
          start_tags = λ m i h q. ap (λ (c : Name → ℕ → ℕ). c (d.name (tag_key m)) i) a.memory.0 ∙ r.start_tags m i h q;
          start_tag = λ m h.
              a.here m
              ∙ ap (λ (b : Bool). if b then d.code (s.level (tag_slot d.world m)) else at d g (first_key m))
              (and_from (saved d.world m) (between 0 n m) h (within_all m n (memory_within d.world m (is_kept m h).0)))
              ∙ ap (λ (b : Bool). d.code (s.level (if b then next_whole m else own m))) (is_kept m h).0 ∙ ap d.code (sym (begins m h));
          nexts = λ m i h. ap (λ (c : Name → ℕ → ℕ). c (d.name (value_key m)) i) a.memory.1 ∙ r.nexts m i h;
          next_tags = λ m i h q. ap (λ (c : Name → ℕ → ℕ). c (d.name (tag_key m)) i) a.memory.1 ∙ r.next_tags m i h q;
        },
        record { kept = λ j l. a.there (wire_key j) (λ y. refl); refused = λ n. a.there (refused_key n) (λ y. refl); levels = λ n. a.there (level_key n) (λ y. refl) },
      )
    where
      is_kept : (m : ℕ) → saved d.world m ≡ true → (is_memory d.world m ≡ true) × (is_dynamic d.world m ≡ true)
      is_kept m h = and_parts (is_memory d.world m) (is_dynamic d.world m) h

      kept_tag : (m : ℕ) → saved d.world m ≡ true → has_tag d.world m ≡ true
      kept_tag m h = let q = is_kept m h in tagged_memory d.world m q.0 q.1

  pub top_runs : (hangs : ℕ → Bool) (grp q : Group) (n0 k : ℕ) (go : Name → Going → Going) → FineGroup d.world q 0 q → FineGroup d.world q n0 grp → FewGroup grp
      → ((t : ℕ) → among grp t ≡ true → among q t ≡ true) → GoesRun d go (root d.world) q
      → (n : ℕ) (g : Going) (s : Store) → Loose d g s → ((m : ℕ) → saved d.world m ≡ true → s.level (start_whole m) ≡ s.level (next_whole m))
      → Cycles d g (child_does widths go (top_plain d hangs k grp) n g) (root_fall d.world hangs (λ t. run_state d.world t (root d.world)) grp n s)
  unfolding root_fall run_state top_plain
  top_runs hangs no_node q n0 k go whole fine few part goes n g s st begins = record { stands = st; refused = λ i. refl; levels = λ i. refl }
  top_runs hangs (and_node (state_node x b kids) rest) q n0 k go whole fine few part goes zero g s loose begins =
      let base = k + 1 + wires_block b in
      let node = fine.0.0 in
      let i : among q x ≡ true = part x (or_left (nat_eq x x) (among rest x) (eq-eqb x x refl)) in
      let me = group_states d.world q 0 q whole x i in
      let forest = group_plain d x base kids in
      let seat = seat_name (d.state_name x) in
      let e : seat ≡ d.name (seat_key x) = names.seats x me.declared in
      let shape = shaped_group d x base kids in
      let goes' = goes_run d widths laws names x seat kids forest e node.count fine.0.1 shape in
      let inner = group_runs kids kids 0 x base (enter seat forest) fine.0.1 fine.0.1 few.0.1 (λ t h. h) goes' in
      let falls = falls_run x kids forest base seat e node.count shape inner in
      let f : Going → Going = λ h. child_does widths (enter seat forest) forest (h.now.value seat) h in
      let sp : Home = record { state = x; parent = root d.world; children = kids } in
      let body = block_plain d sp k (k + 1) b in
      let head = gives d (wire_key k) (var d (tag_key x)) (raises d hangs k body) in
      let kept = save f go k g s head loose begins in
      let g0 = kept.0 in
      let v = value_in widths g0 (var d (tag_key x)) in
      let l = level d.world (own x) s in
      let m = no_memory d.world x me.kind in
      let g1 = put_to d g0 (wire_key k) v in
      let r0 = wired d widths laws s k g0 v (d.code l) kept.2 (own_tag d widths laws g0 s kept.2 x (tagged d.world x me.declared m) m) in
      let up = raises_turn d widths laws f go hangs k l s g1 body r0.stands r0.here in
      let g2 = up.0 in
      let r = block_runs d widths laws f go q sp (placed_in d.world q n0 x (root d.world) b kids whole i node fine.0.1) goes base
      (run_child d.world kids x) falls b node.steps few.0.0 k (k + 1)
      (omega arith) (omega arith) g2 _ l up.2 (up.3.wire k ∙ r0.here) in
      rw (kept.1, does_gives d widths f go g0 (wire_key k) (var d (tag_key x)) (raises d hangs k body), up.1)
      (cycles d k g g0 _ _ kept.3
      (turns_after d k (k + 1) g0 g2 _ _ (omega arith) (quiet_next d k g0 g1 g2 (r0.quiet k (omega arith)) (raised_quiet d widths laws k g1 g2 up.3)) r))
  top_runs hangs (and_node (state_node x b kids) rest) q n0 k go whole fine few part goes (suc n) g s st begins =
      top_runs hangs rest q (suc n0) (k + (1 + wires_block b + wires_group kids)) go whole fine.1 few.1
      (λ t h. part t (or_right (nat_eq t x) (among rest t) h)) goes n g s st begins
