-- No memory is written twice in a cycle.
use Rattle.sap_lemmas.proofs.Common.{◌≡◌, ℕ, zero, suc, ◌+◌, ◌⊎◌, List, [], ◌∷◌, ◌++◌, Bool, true, false, ◌&&◌, ◌||◌, refl, sym, ap, ap₂, ◌∙◌, subst, inl, inr, bytes_eq, nat_eq, if◌then◌else◌, append_assoc, ◌==◌, cases_Bool, eqb-true, eq-eqb, or_left, or_right, true_is_not_false, AllByRecursion, all_append, all_follow}
use Rattle.sap_maps.specs.Prelude.{Name, Term}
use Rattle.sap_meaning.specs.Prelude.{root, is_dynamic, is_register, listed, Step, assign, write, retag, retag_cell, go_to, fall_to_child, Command, lone, try, if_else, try_then, case_of, Arms, last_arm, and_arm, Block, end_block, command_then, state_node, Group, no_node, and_node, Home, listed_alone, FineProgram, step_reaching, reaching, arms_reaching, block_reaching, group_reaches, OnceStep, Once, OnceArms, OnceBlock, OnceGroup}
use Rattle.sap_net.specs.Prelude.{is_among, AreDistinct, seat_name, root_seat}
use Rattle.sap_ir.specs.Prelude.{set, put, width_of, Going, value_in, after_action, begun, Body, stop, act, cases, goto, fall, declarations, body_does, falls_of, enter, follow, body_writes, child_writes, PlainWritesOnce}
use Rattle.sap_tagged.specs.Prelude.{Key, value_key, tag_key, wire_key, inner_key, same, Setting, setting_of, plain_of, var, bits, gives, resets, effect_of, wires, wires_block, command_plain, arms_plain, block_plain, wires_group, group_plain, top_plain}
use Rattle.sap_interface.specs.StandsFor.{Named}
use Rattle.sap_tagged.proofs.Parts.{OfParts, sweep_holds, top_holds, attempt_holds, attempt_then_holds, select_holds, pick_holds}
use Rattle.sap_tagged.proofs.KeyNames.{NamesApart, names_apart}

-- a name of one of some memories: of its contents, or of its cells' tags
pub record OfMemory (d : Setting) (P : ℕ → Bool) (n : Name) : Type 0 where
  pub memory : ℕ
  pub picked : P memory ≡ true
  pub named : (n ≡ d.name (value_key memory)) ⊎ (n ≡ d.name (tag_key memory))

-- what is written, each once
pub record Written (d : Setting) (P : ℕ → Bool) (ns : List Name) : Type 0 where
  pub once : AreDistinct ns
  pub all : AllByRecursion (OfMemory d P) ns

module _ (d : Setting) (apart : (a b : Key) → bytes_eq (d.name a) (d.name b) ≡ same a b) where
  written_none : (P : ℕ → Bool) → Written d P []
  written_none P = record { once = tt; all = tt }

  of_more : (P Q : ℕ → Bool) → ((m : ℕ) → P m ≡ true → Q m ≡ true) → (n : Name) → OfMemory d P n → OfMemory d Q n
  of_more P Q f n h = record { memory = h.memory; picked = f h.memory h.picked; named = h.named }

  written_more : (P Q : ℕ → Bool) → ((m : ℕ) → P m ≡ true → Q m ≡ true) → (ns : List Name) → Written d P ns → Written d Q ns
  written_more P Q f ns h = record { once = h.once; all = all_follow (OfMemory d P) (OfMemory d Q) ns (of_more P Q f) h.all }

  -- names of different memories
  memory_of : (a b : ℕ) (x y : Name) → ((x ≡ d.name (value_key a)) ⊎ (x ≡ d.name (tag_key a)))
      → ((y ≡ d.name (value_key b)) ⊎ (y ≡ d.name (tag_key b))) → bytes_eq x y ≡ true → nat_eq a b ≡ true
  memory_of a b x y (inl e) (inl f) h = sym (ap₂ (λ (p q : Name). bytes_eq p q) e f ∙ apart (value_key a) (value_key b)) ∙ h
  memory_of a b x y (inl e) (inr f) h = absurd (true_is_not_false (sym (sym (ap₂ (λ (p q : Name). bytes_eq p q) e f ∙ apart (value_key a) (tag_key b)) ∙ h)))
  memory_of a b x y (inr e) (inl f) h = absurd (true_is_not_false (sym (sym (ap₂ (λ (p q : Name). bytes_eq p q) e f ∙ apart (tag_key a) (value_key b)) ∙ h)))
  memory_of a b x y (inr e) (inr f) h = sym (ap₂ (λ (p q : Name). bytes_eq p q) e f ∙ apart (tag_key a) (tag_key b)) ∙ h

  and_true : (a b : Bool) → a ≡ true → b ≡ true → (a && b) ≡ true
  and_true a b e f = rw (e, f) refl

  not_among : (P Q : ℕ → Bool) → ((m : ℕ) → (P m && Q m) ≡ false) → (n : Name) → OfMemory d P n → (ys : List Name) → AllByRecursion (OfMemory d Q) ys → is_among n ys ≡ false
  not_among P Q f n h [] k = refl
  not_among P Q f n h (y ∷ ys) k = elim (cases_Bool (bytes_eq n y)) [
    | inl e ↦
        (let m : h.memory ≡ k.0.memory = eqb-true h.memory k.0.memory (memory_of h.memory k.0.memory n y h.named k.0.named e) in
        absurd (true_is_not_false (sym (and_true (P k.0.memory) (Q k.0.memory) (ap P (sym m) ∙ h.picked) k.0.picked) ∙ f k.0.memory)))
    | inr e ↦ rw e (not_among P Q f n h ys k.1)
  ]

  distinct_join : (P Q : ℕ → Bool) → ((m : ℕ) → (P m && Q m) ≡ false) → (xs ys : List Name) → AreDistinct xs
      → AllByRecursion (OfMemory d P) xs → AreDistinct ys → AllByRecursion (OfMemory d Q) ys → AreDistinct (xs ++ ys)
  distinct_join P Q f [] ys o h p k = p
  distinct_join P Q f (x ∷ xs) ys o h p k = (outside x xs o.0 (not_among P Q f x h.0 ys k), distinct_join P Q f xs ys o.1 h.1 p k)
    where
      outside : (x : Name) (xs : List Name) → is_among x xs ≡ false → is_among x ys ≡ false → is_among x (xs ++ ys) ≡ false
      outside x [] a b = b
      outside x (z ∷ zs) a b = elim (cases_Bool (bytes_eq x z)) [
        | inl e ↦ absurd (true_is_not_false (sym (or_left (bytes_eq x z) (is_among x zs) e) ∙ a))
        | inr e ↦ rw e (outside x zs (rw e at a) b)
      ]

  written_join : (P Q R : ℕ → Bool) → ((m : ℕ) → (P m && Q m) ≡ false) → ((m : ℕ) → P m ≡ true → R m ≡ true)
      → ((m : ℕ) → Q m ≡ true → R m ≡ true) → (xs ys : List Name) → Written d P xs → Written d Q ys
      → Written d R (xs ++ ys)
  written_join P Q R f p q xs ys h k = record {
    once = distinct_join P Q f xs ys h.once h.all k.once k.all;
    all = all_append (OfMemory d R) xs ys (written_more P R p xs h).all (written_more Q R q ys k).all;
  }

  append_none : (ns : List Name) → ns ++ [] ≡ ns
  append_none [] = refl
  append_none (n ∷ ns) = ap (λ (z : List Name). n ∷ z) (append_none ns)

  module _ (widths : Name → ℕ) (f : Going → Going) (below : Going → List Name) (go : Name → Going → Going) where
    abbrev writes : Body → Going → List Name
    writes b g = body_writes widths f below go b g

    -- a body from any numbers
    abbrev Writes : (ℕ → Bool) → Body → Type 0
    Writes P b = (g : Going) → Written d P (body_writes widths f below go b g)

    follow_writes : (a b : Body) (g : Going) → body_writes widths f below go (follow a b) g ≡ body_writes widths f below go a g
        ++ body_writes widths f below go b (body_does widths f go a g)
    follow_writes stop b g = refl
    follow_writes (act (set x t) rest) b g = follow_writes rest b _
    follow_writes (act (put m i t) rest) b g = ap (λ (ns : List Name). m ∷ ns) (follow_writes rest b _)
    follow_writes (cases t x y rest) b g = elim (cases_Bool (value_in widths g t == 0)) [
      | inl e ↦ rw e (ap (λ (ns : List Name). body_writes widths f below go y g ++ ns) (follow_writes rest b _) ∙ sym (append_assoc (body_writes widths f below go y g) _ _))
      | inr e ↦ rw e (ap (λ (ns : List Name). body_writes widths f below go x g ++ ns) (follow_writes rest b _) ∙ sym (append_assoc (body_writes widths f below go x g) _ _))
    ]
    follow_writes (goto x rest) b g = follow_writes rest b _
    follow_writes (fall rest) b g = ap (λ (ns : List Name). below g ++ ns) (follow_writes rest b _) ∙ sym (append_assoc (below g) _ _)

    choice_writes : (P : ℕ → Bool) (t : Term Name) (x y : Body) → Writes P x → Writes P y → Writes P (cases t x y stop)
    choice_writes P t x y h k g = elim (cases_Bool (value_in widths g t == 0)) [
      | inl e ↦ rw e (subst (λ (ns : List Name). Written d P ns) (sym (append_none (body_writes widths f below go y g))) (k g))
      | inr e ↦ rw e (subst (λ (ns : List Name). Written d P ns) (sym (append_none (body_writes widths f below go x g))) (h g))
    ]

    parts : (P : ℕ → Bool) → OfParts (Writes P)
    parts P = record { nothing = λ g. written_none P; sets = λ n t rest r g. r _; choice = choice_writes P }

    writes_more : (P Q : ℕ → Bool) → ((m : ℕ) → P m ≡ true → Q m ≡ true) → (b : Body) → Writes P b → Writes Q b
    writes_more P Q f b h g = written_more P Q f _ (h g)

    -- one body behind another, which writes other memories
    join_writes : (P Q R : ℕ → Bool) → ((m : ℕ) → (P m && Q m) ≡ false) → ((m : ℕ) → P m ≡ true → R m ≡ true) → ((m : ℕ) → Q m ≡ true → R m ≡ true)
        → (a b : Body) → Writes P a → Writes Q b → Writes R (follow a b)
    join_writes P Q R other p q a b h k g =
        subst (λ (ns : List Name). Written d R ns) (sym (follow_writes a b g)) (written_join P Q R other p q _ _ (h g) (k (body_does widths f go a g)))

    one_written : (P : ℕ → Bool) (m : ℕ) → P m ≡ true → Written d P (d.name (value_key m) ∷ [])
    one_written P m h = record { once = (refl, tt); all = (record { memory = m; picked = h; named = inl refl }, tt) }

    two_written : (P : ℕ → Bool) (m : ℕ) → P m ≡ true → Written d P (d.name (tag_key m) ∷ d.name (value_key m) ∷ [])
    two_written P m h = record {
      once = (rw (apart (tag_key m) (value_key m)) refl, (refl, tt));
      all = (record { memory = m; picked = h; named = inr refl }, (record { memory = m; picked = h; named = inl refl }, tt));
    }

    module _ (reach : ℕ → Bool) (beyond : Type 0) (falls : beyond → (g : Going) → Written d reach (below g)) where
      effect_writes : (sp : Home) (k : ℕ) (t : Step) → OnceStep beyond t → Writes (step_reaching reach t) (effect_of d sp k t)
      effect_writes sp k (assign site x e) o g = elim (cases_Bool (is_dynamic d.world x)) [
        | inl i ↦ rw i (written_none (step_reaching reach (assign site x e)))
        | inr i ↦ rw i (written_none (step_reaching reach (assign site x e)))
      ]
      effect_writes sp k (write site m i e) o g = elim (cases_Bool (is_dynamic d.world m)) [
        | inl j ↦ rw j (one_written (step_reaching reach (write site m i e)) m (eq-eqb m m refl))
        | inr j ↦ rw j (one_written (step_reaching reach (write site m i e)) m (eq-eqb m m refl))
      ]
      effect_writes sp k (retag site x n) o g = elim (cases_Bool (is_register d.world x)) [
        | inl i ↦ rw i (written_none (step_reaching reach (retag site x n)))
        | inr i ↦ rw i (written_none (step_reaching reach (retag site x n)))
      ]
      effect_writes sp k (retag_cell site m j n) o g = two_written (step_reaching reach (retag_cell site m j n)) m (eq-eqb m m refl)
      effect_writes sp k (go_to site target) o g0 =
          sweep_holds d (Writes (step_reaching reach (go_to site target))) (parts (step_reaching reach (go_to site target))) tag_key
          (resets d.world target) (λ x. bits d d.world.order.bottom) 0 (root d.world)
          (if is_dynamic d.world target then gives d (tag_key target) (var d (wire_key (k + 3))) (goto (d.state_name target) stop) else goto (d.state_name target) stop)
          (λ g. elim (cases_Bool (is_dynamic d.world target)) [
            | inl i ↦ rw i (written_none (step_reaching reach (go_to site target)))
            | inr i ↦ rw i (written_none (step_reaching reach (go_to site target)))
          ]) g0
      effect_writes sp k (fall_to_child site hang) o g =
          let g1 = after_action widths g (set (d.name (inner_key sp.state)) (var d (wire_key (k + 2)))) in
          subst (λ (ns : List Name). Written d (step_reaching reach (fall_to_child site hang)) ns) (sym (append_none (below g1))) (falls o g1)

      module _ (sp : Home) where
        mutual
          unfolding command_plain arms_plain block_plain

          command_writes : (grp : Group) (same_reach : (m : ℕ) → reach m ≡ group_reaches grp m) (p k : ℕ) (c : Command) → Once grp beyond c
              → Writes (reaching reach c) (command_plain d sp p k c)
          command_writes grp e p k (lone t) o =
              attempt_holds d (Writes (step_reaching reach t)) (parts (step_reaching reach t)) sp p k t (listed_alone d.world sp t) stop
              (effect_writes sp k t o) (λ g. written_none (step_reaching reach t))
          command_writes grp e p k (try t hang b) o =
              let P = reaching reach (try t hang b) in
              let body = block_plain d sp (k + 2) (k + 5) b in
              attempt_holds d (Writes P) (parts P) sp p k t (listed hang) body
              (writes_more (step_reaching reach t) P (λ m h. or_left (step_reaching reach t m) (block_reaching reach b m) h) (effect_of d sp k t) (effect_writes sp k t o.0))
              (writes_more (block_reaching reach b) P (λ m h. or_right (step_reaching reach t m) (block_reaching reach b m) h) body (block_writes_once grp e (k + 2) (k + 5) b o.1))
          command_writes grp e p k (if_else hang c a b) o =
              let P = reaching reach (if_else hang c a b) in
              let x = block_plain d sp (k + 1) (k + 2) a in
              let y = block_plain d sp (k + 1) (k + 2 + wires_block a) b in
              select_holds d (Writes P) (parts P) p k c (listed hang) x y
              (writes_more (block_reaching reach a) P (λ m h. or_left (block_reaching reach a m) (block_reaching reach b m) h) x (block_writes_once grp e (k + 1) (k + 2) a o.0))
              (writes_more (block_reaching reach b) P (λ m h. or_right (block_reaching reach a m) (block_reaching reach b m) h) y
              (block_writes_once grp e (k + 1) (k + 2 + wires_block a) b o.1))
          command_writes grp e p k (try_then t hang a b) o =
              let same : reach ≡ group_reaches grp = λ i m. e m i in
              let P = reaching reach (try_then t hang a b) in
              let both : ℕ → Bool = λ m. block_reaching reach a m || block_reaching reach b m in
              let x = block_plain d sp (k + 2) (k + 5) a in
              let y = block_plain d sp (k + 2) (k + 5 + wires_block a) b in
              attempt_then_holds d (Writes P) (parts P) sp p k t (listed hang) x y
              (join_writes (step_reaching reach t) (block_reaching reach a) P (λ m. ap (λ (r : ℕ → Bool). step_reaching r t m && block_reaching r a m) same ∙ o.3 m)
              (λ m h. or_left (step_reaching reach t m) (both m) h)
              (λ m h. or_right (step_reaching reach t m) (both m) (or_left (block_reaching reach a m) (block_reaching reach b m) h))
              (effect_of d sp k t) x (effect_writes sp k t o.0) (block_writes_once grp e (k + 2) (k + 5) a o.1))
              (writes_more (block_reaching reach b) P (λ m h. or_right (step_reaching reach t m) (both m) (or_right (block_reaching reach a m) (block_reaching reach b m) h)) y
              (block_writes_once grp e (k + 2) (k + 5 + wires_block a) b o.2))
          command_writes grp e p k (case_of hang c arms) o =
              pick_holds d (Writes (arms_reaching reach arms)) (parts (arms_reaching reach arms)) p k c (listed hang) arms (arms_plain d sp (k + 1) (k + 4) arms)
              (arms_write_once grp e (k + 1) (k + 4) arms o)

          arms_write_once : (grp : Group) (same_reach : (m : ℕ) → reach m ≡ group_reaches grp m) (p k : ℕ) (arms : Arms) → OnceArms grp beyond arms
              → AllByRecursion (Writes (arms_reaching reach arms)) (arms_plain d sp p k arms)
          arms_write_once grp e p k (last_arm b) o = (block_writes_once grp e p k b o, tt)
          arms_write_once grp e p k (and_arm constants b arms) o = (
            writes_more (block_reaching reach b) (arms_reaching reach (and_arm constants b arms)) (λ m h. or_left (block_reaching reach b m) (arms_reaching reach arms m) h)
                (block_plain d sp p k b) (block_writes_once grp e p k b o.0),
            all_follow (Writes (arms_reaching reach arms)) (Writes (arms_reaching reach (and_arm constants b arms))) (arms_plain d sp p (k + wires_block b) arms)
                (writes_more (arms_reaching reach arms) (arms_reaching reach (and_arm constants b arms))
                (λ m h. or_right (block_reaching reach b m) (arms_reaching reach arms m) h))
                (arms_write_once grp e p (k + wires_block b) arms o.1),
          )

          block_writes_once : (grp : Group) (same_reach : (m : ℕ) → reach m ≡ group_reaches grp m) (p k : ℕ) (b : Block)
              → OnceBlock grp beyond b → Writes (block_reaching reach b) (block_plain d sp p k b)
          block_writes_once grp e p k end_block o = λ g. written_none (block_reaching reach end_block)
          block_writes_once grp e p k (command_then c cs) o =
              let same : reach ≡ group_reaches grp = λ i m. e m i in
              join_writes (reaching reach c) (block_reaching reach cs) (block_reaching reach (command_then c cs))
              (λ m. ap (λ (r : ℕ → Bool). reaching r c m && block_reaching r cs m) same ∙ o.2 m)
              (λ m h. or_left (reaching reach c m) (block_reaching reach cs m) h) (λ m h. or_right (reaching reach c m) (block_reaching reach cs m) h)
              (command_plain d sp p k c) (block_plain d sp p (k + wires c) cs) (command_writes grp e p k c o.0) (block_writes_once grp e p (k + wires c) cs o.1)

  -- the states of a group
  group_writes : (widths : Name → ℕ) (grp : Group) (parent k : ℕ) (go : Name → Going → Going) → OnceGroup grp → (n : ℕ) (g : Going)
      → Written d (group_reaches grp) (child_writes widths go (group_plain d parent k grp) n g)
  unfolding group_plain
  group_writes widths no_node parent k go once n g = written_none (group_reaches no_node)
  group_writes widths (and_node (state_node x b kids) rest) parent k go once zero g =
      let base = k + 1 + wires_block b in
      let forest = group_plain d x base kids in
      let seat = seat_name (d.state_name x) in
      let below : Going → List Name = λ h. child_writes widths (enter seat forest) forest (h.now.value seat) h in
      written_more (block_reaching (group_reaches kids) b) (group_reaches (and_node (state_node x b kids) rest))
      (λ m h. or_left (block_reaching (group_reaches kids) b m) (group_reaches rest m) h) _
      (block_writes_once widths (falls_of widths seat forest) below go (group_reaches kids) (OnceGroup kids)
      (λ o h. group_writes widths kids x base (enter seat forest) o (h.now.value seat) h) (record {
        state = x;
        parent = parent;
        children =
            kids;
      }) kids (λ m. refl) k (k + 1) b once.0 _)
  group_writes widths (and_node (state_node x b kids) rest) parent k go once (suc n) g =
      written_more (group_reaches rest) (group_reaches (and_node (state_node x b kids) rest)) (λ m h. or_right (block_reaching (group_reaches kids) b m) (group_reaches rest m) h) _
      (group_writes widths rest parent (k + (1 + wires_block b + wires_group kids)) go once.1 n g)

  pub top_writes : (widths : Name → ℕ) (hangs : ℕ → Bool) (grp : Group) (k : ℕ) (go : Name → Going → Going) → OnceGroup grp → (n : ℕ) (g : Going)
      → Written d (group_reaches grp) (child_writes widths go (top_plain d hangs k grp) n g)
  unfolding top_plain
  top_writes widths hangs no_node k go once n g = written_none (group_reaches no_node)
  top_writes widths hangs (and_node (state_node x b kids) rest) k go once zero g =
      let base = k + 1 + wires_block b in
      let forest = group_plain d x base kids in
      let seat = seat_name (d.state_name x) in
      let f = falls_of widths seat forest in
      let below : Going → List Name = λ h. child_writes widths (enter seat forest) forest (h.now.value seat) h in
      let P = block_reaching (group_reaches kids) b in
      let body = block_plain d (record { state = x; parent = root d.world; children = kids }) k (k + 1) b in
      let own : (g : Going) → Written d P (body_writes widths f below go body g) =
      λ g. block_writes_once widths f below go (group_reaches kids) (OnceGroup kids) (λ o h. group_writes widths kids x base (enter seat forest) o (h.now.value seat) h)
      (record { state = x; parent = root d.world; children = kids }) kids (λ m. refl) k (k + 1) b once.0 g in
      written_more P (group_reaches (and_node (state_node x b kids) rest)) (λ m h. or_left (P m) (group_reaches rest m) h) _
      (top_holds d (Writes widths f below go P) (parts widths f below go P) hangs k x body own g)
  top_writes widths hangs (and_node (state_node x b kids) rest) k go once (suc n) g =
      written_more (group_reaches rest) (group_reaches (and_node (state_node x b kids) rest)) (λ m h. or_right (block_reaching (group_reaches kids) b m) (group_reaches rest m) h) _
      (top_writes widths hangs rest (k + (1 + wires_block b + wires_group kids)) go once.1 n g)

pub writes_once : (d : Named) (tag sites : ℕ) → NamesApart d → FineProgram d.program → PlainWritesOnce (plain_of d tag sites)
writes_once d tag sites names fine before numbers within fit =
    let src = declarations (plain_of d tag sites) in
    let set = setting_of d tag in
    let forest = top_plain set (listed d.program.hang) 0 d.program.states in
    let g = begun src before numbers in
    (top_writes set (names_apart d names) (width_of src) (listed d.program.hang) d.program.states 0 (enter root_seat forest) fine.once (g.now.value root_seat) g).once
