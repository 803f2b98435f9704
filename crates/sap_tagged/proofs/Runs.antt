-- Commands and lists of commands.
use Rattle.sap_lemmas.proofs.Common.{◌≡◌, ℕ, suc, ◌+◌, ◌*◌, ◌^◌, ◌<◌, ◌≤◌, Bool, List, ◌∷◌, length, get_or, refl, ap, ◌∙◌, arith, nat_eq, inl, inr, if◌then◌else◌, cases_Bool, test_symmetric}
use Rattle.sap_tree.specs.Limits.{most_arms}
use Rattle.sap_maps.specs.Prelude.{Name, Term}
use Rattle.sap_meaning.specs.Prelude.{within, listed, Step, assign, write, retag, retag_cell, go_to, fall_to_child, Command, lone, try, if_else, try_then, case_of, Arms, last_arm, and_arm, Block, end_block, command_then, Group, Store, raise, Refusal, After, stay, and_then, value, tag, width_of, Home, site_of, guard, test, effect, attempt, attempt_then, select, branch, is_constant, run, run_arms, run_block, FineTerm, FineStep, FineCommand, Every, EveryInArms, EveryInBlock}
use Rattle.sap_ir.specs.Prelude.{Going, value_in, Body, stop, cases, body_does, follow}
use Rattle.sap_ir.proofs.plain.SeatWidths.{seat_holds}
use Rattle.sap_tagged.specs.Prelude.{value_key, tag_key, seat_key, refused_key, level_key, wire_key, Setting, var, lub, expr, tag_of, always, raises, looks, effect_of, refusal, outcome, attempt_of, outcome_then, attempt_then_of, arm_count, pick_width, picks, decides, pick_of, select_of, wires, wires_arms, wires_block, command_plain, arms_plain, block_plain, Few, FewArms, FewBlock, Lawful, at, Stands, refused_after, level_after, Turns}
use Rattle.sap_tagged.proofs.Terms.{bit, expr_value, tag_value, lub_value}
use Rattle.sap_tagged.proofs.StepTerms.{Placed, always_holds}
use Rattle.sap_tagged.proofs.Puts.{put_to, at_put, kept_put, kept_next, does_follow, Aside, stands_aside}
use Rattle.sap_tagged.proofs.Looks.{Quiet, quiet_none, quiet_next, quiet_less, turns_then, turns_after, turns_less, turns_stay, wired, looked, raised_quiet, raises_turn}
use Rattle.sap_tagged.proofs.Effects.{Begins, FallsRun, set_effect, retag_effect, fall_effect}
use Rattle.sap_tagged.proofs.Cells.{write_effect, retag_cell_effect}
use Rattle.sap_tagged.proofs.Gotos.{GoesRun, goto_effect}
use Rattle.sap_tagged.proofs.Picks.{arm_place, arm_within, decided, arms_picked}

-- what a body does, with its context in the wire p and the wires from k on free
abbrev pub BodyRuns : Setting → (Name → ℕ) → (Going → Going) → (Name → Going → Going) → (p k : ℕ) → Body → (ℕ → Store → After) → Type 0
BodyRuns d widths f go p k b m =
    (g : Going) (s : Store) (l : ℕ) → Stands d g s → at d g (wire_key p) ≡ d.code l → Turns d k g (body_does widths f go b g) (m l s)

child_raise : (d : Setting) (h : ℕ → Bool) (t : ℕ) (s : Store) → (raise d.world.order h t s).child ≡ s.child
unfolding raise
child_raise d h t s = refl

-- the two of a site
abbrev with_refusal : (site level : ℕ) → After → After
with_refusal n l a = let refusal : Refusal = record { site = n; level = l } in record { store = a.store; refused = refusal ∷ a.refused }

module _ (d : Setting) (widths : Name → ℕ) (laws : Lawful d widths) (f : Going → Going) (go : Name → Going → Going) where
  -- the wires of a refusal, and then the handler
  refusal_turns : (k from : ℕ) (t : Step) (h : Body) (m : ℕ → Store → After) → k ≤ from → BodyRuns d widths f go (k + 2) from h m → (g : Going) (r : Store) (l : ℕ) → Stands d g r
      → at d g (wire_key (k + 2)) ≡ d.code l → Turns d k g (body_does widths f go (refusal d k t h) g) (with_refusal (site_of t) l (m l r))
  unfolding put_to
  refusal_turns k from t h m above runs g r l st e =
      let n = site_of t in
      let g1 = put_to d g (refused_key n) 1 in
      let x = at d g1 (wire_key (k + 2)) in
      let ex : x ≡ d.code l = at_put d widths laws g (refused_key n) (wire_key (k + 2)) 1 ∙ e in
      let g2 = put_to d g1 (level_key n) x in
      let aside : Aside d g g2 = record {
        value = λ y. at_put d widths laws g1 (level_key n) (value_key y) x ∙ at_put d widths laws g (refused_key n) (value_key y) 1;
        tag = λ y. at_put d widths laws g1 (level_key n) (tag_key y) x ∙ at_put d widths laws g (refused_key n) (tag_key y) 1;
        seat = λ y. at_put d widths laws g1 (level_key n) (seat_key y) x ∙ at_put d widths laws g (refused_key n) (seat_key y) 1;
        memory = kept_next d g g1 g2 (kept_put d widths laws g (refused_key n) 1 (λ m. refl)) (kept_put d widths laws g1 (level_key n) x (λ m. refl));
      } in
      let wire : (j : ℕ) → at d g2 (wire_key j) ≡ at d g (wire_key j) = λ j. at_put d widths laws g1 (level_key n) (wire_key j) x
      ∙ at_put d widths laws g (refused_key n) (wire_key j) 1 in
      let q = runs g2 r l (stands_aside d g g2 r st aside) (wire (k + 2) ∙ e) in
      record {
        stands = q.stands;
        kept = λ j i. q.kept j (omega arith) ∙ wire j;
        refused = λ j.
            q.refused j
            ∙ ap (refused_after j (m l r).refused)
            (at_put d widths laws g1 (level_key n) (refused_key j) x ∙ at_put d widths laws g (refused_key n) (refused_key j) 1
            ∙ ap (λ (b : Bool). if b then 1 else at d g (refused_key j)) (test_symmetric j n));
        levels = λ j.
            q.levels j
            ∙ ap (level_after d.code j (m l r).refused)
            (at_put d widths laws g1 (level_key n) (level_key j) x ∙ ap (λ (z : ℕ). if nat_eq j n then z else at d g1 (level_key j)) ex
            ∙ ap (λ (z : ℕ). if nat_eq j n then d.code l else z) (at_put d widths laws g (refused_key n) (level_key j) 1)
            ∙ ap (λ (b : Bool). if b then d.code l else at d g (level_key j)) (test_symmetric j n));
      }

  module _ (q : Group) (sp : Home) (placed : Placed d.world q sp) (goes : GoesRun d go sp.parent q) (base : ℕ) (enter : ℕ → ℕ → Store
      → After) (falls : FallsRun d f base sp.state enter) where
    effect_turns : (k free : ℕ) (t : Step) (l : ℕ) (b r : Store) (g : Going) → free ≤ base → FineStep d.world q sp.children t → Begins d k sp t l b r g
        → Turns d free g (body_does widths f go (effect_of d sp k t) g) (effect (within d.world sp enter) t l b r)
    effect_turns k free (assign site x e) l b r g fb fine h = set_effect d widths laws f go enter q k free sp site x e l b r g fine h
    effect_turns k free (write site m i e) l b r g fb fine h = write_effect d widths laws f go enter q k free sp site m i e l b r g fine h
    effect_turns k free (retag site x n) l b r g fb fine h = retag_effect d widths laws f go enter q k free sp site x n l b r g fine h
    effect_turns k free (retag_cell site m j n) l b r g fb fine h = retag_cell_effect d widths laws f go enter q k free sp site m j n l b r g fine h
    effect_turns k free (go_to site target) l b r g fb fine h =
        goto_effect d widths laws f go enter q k free sp site target l b r g goes fine (placed.states target fine) (placed.siblings target fine).1 h.stands h.new
    effect_turns k free (fall_to_child site hang) l b r g fb fine h = fall_effect d widths laws f go enter base k free sp site hang l b r g fb falls h

    -- what a step does, `after`, and what its refusal leads to
    outcome_turns : (k later : ℕ) (t : Step) (done h : Body) (m : ℕ → Store → After) → k + 5 ≤ later → BodyRuns d widths f go (k + 2) later h m
        → (b r : Store) (l : ℕ) (g : Going) (after : After) → at d g (wire_key k) ≡ bit (test d.world sp t l b) → Begins d k sp t l b r g
        → Turns d k g (body_does widths f go done g) after
        → Turns d k g (body_does widths f go (if always d.world sp t then done else cases (var d (wire_key k)) done (refusal d k t h) stop) g)
        (if test d.world sp t l b then after else with_refusal (site_of t) (d.world.order.join l (guard d.world sp t b)) (m (d.world.order.join l (guard d.world sp t b)) r))
    outcome_turns k later t done h m kh runs b r l g after tested begins e = elim (cases_Bool (always d.world sp t)) [
      | inl a ↦ rw (a, always_holds d.world sp t l b a) e
      | inr a ↦
          rw a
          (elim (cases_Bool (test d.world sp t l b)) [
            | inl i ↦ (let z : at d g (wire_key k) ≡ 1 = tested ∙ ap bit i in rw (i, z) e)
            | inr i ↦ (let z : at d g (wire_key k) ≡ 0 = tested ∙ ap bit i in rw (i, z) (refusal_turns k later t h m (omega (arith, kh)) runs g r _ begins.stands begins.inside))
          ])
    ]

    -- what is looked at, and the raises
    readied : (p k : ℕ) (t : Step) (hang : ℕ → Bool) (rest : Body) (l : ℕ) (s : Store) (g : Going) → p < k → FineStep d.world q sp.children t → Stands d g s
        → at d g (wire_key p) ≡ d.code l
        → (g' : Going) × (body_does widths f go (looks d sp p k t (raises d hang (k + 1) rest)) g ≡ body_does widths f go rest g')
        × (at d g' (wire_key k) ≡ bit (test d.world sp t l s)) × Begins d k sp t l s (raise d.world.order hang (guard d.world sp t s) s) g' × Quiet d k g g'
    readied p k t hang rest l s g pk fine st pc =
        let a = looked d widths laws f go q sp p k t l s g (raises d hang (k + 1) rest) pk placed fine st pc in
        let g1 = a.0 in
        let look = a.2 in
        let gd = guard d.world sp t s in
        let b = raises_turn d widths laws f go hang (k + 1) gd s g1 rest look.stands look.guarded in
        let g2 = b.0 in
        let up = b.3 in
        let begins : Begins d k sp t l s (raise d.world.order hang gd s) g2 = record {
          stands = b.2;
          reads = λ x i. up.value x ∙ look.stands.value x i;
          starts = λ m i e. ap (λ (c : Name → ℕ → ℕ). c (d.name (value_key m)) i) up.memory.cell ∙ look.stands.starts m i e;
          seats = child_raise d hang gd s;
          inside = up.wire (k + 2) ∙ look.inside;
          new = up.wire (k + 3) ∙ look.new;
          keeps = up.wire (k + 4) ∙ look.keeps;
        } in
        (g2, a.1 ∙ b.1, up.wire k ∙ look.tested, begins, quiet_next d k g g1 g2 look.quiet (raised_quiet d widths laws k g1 g2 up))

    attempt_runs : (p k : ℕ) (t : Step) (hang : ℕ → Bool) (h : Body) (m : ℕ → Store → After) → p < k → k ≤ base → FineStep d.world q sp.children t
        → BodyRuns d widths f go (k + 2) (k + 5) h m → BodyRuns d widths f go p k (attempt_of d sp p k t hang h) (attempt (within d.world sp enter) t hang m)
    unfolding attempt attempt_of
    attempt_runs p k t hang h m pk kb fine runs g s l st pc =
        let a = readied p k t hang (outcome d sp k t h) l s g pk fine st pc in
        let g2 = a.0 in
        let b = raise d.world.order hang (guard d.world sp t s) s in
        let r = outcome_turns k (k + 5) t (effect_of d sp k t) h m (omega arith) runs s b l g2 _ a.2 a.3 (effect_turns k k t l s b g2 kb fine a.3) in
        rw a.1 (turns_after d k k g g2 _ _ (omega arith) a.4 r)

    attempt_then_runs : (p k from later : ℕ) (t : Step) (hang : ℕ → Bool) (x h : Body) (mx m : ℕ → Store → After) → p < k → k + 5 ≤ from → k + 5 ≤ later → k + 5 ≤ base
        → FineStep d.world q sp.children t → BodyRuns d widths f go (k + 2) from x mx → BodyRuns d widths f go (k + 2) later h m
        → BodyRuns d widths f go p k (attempt_then_of d sp p k t hang x h) (attempt_then (within d.world sp enter) t hang mx m)
    unfolding attempt_then attempt_then_of
    attempt_then_runs p k from later t hang x h mx m pk kx kh kb fine rx rh g s l st pc =
        let a = readied p k t hang (outcome_then d sp k t x h) l s g pk fine st pc in
        let g2 = a.0 in
        let b = raise d.world.order hang (guard d.world sp t s) s in
        let inside = d.world.order.join l (guard d.world sp t s) in
        let g3 = body_does widths f go (effect_of d sp k t) g2 in
        let done = effect (within d.world sp enter) t l s b in
        let e : Turns d (k + 5) g2 g3 done = effect_turns k (k + 5) t l s b g2 kb fine a.3 in
        let both : Turns d k g2 (body_does widths f go (follow (effect_of d sp k t) x) g2) (and_then done (mx inside)) =
        rw (does_follow d widths f go (effect_of d sp k t) x g2)
        (turns_then d k from g2 g3 (body_does widths f go x g3) done (mx inside) (omega (arith, kx)) (turns_less d k (k + 5) g2 g3 done (omega arith) e)
        (rx g3 done.store inside e.stands (e.kept (k + 2) (omega arith) ∙ a.3.inside))) in
        let r = outcome_turns k later t (follow (effect_of d sp k t) x) h m kh rh s b l g2 _ a.2 a.3 both in
        rw a.1 (turns_after d k k g g2 _ _ (omega arith) a.4 r)

    select_runs : (p k : ℕ) (e : Term ℕ) (hang : ℕ → Bool) (x y : Body) (mx my : ℕ → Store → After) (jx jy : ℕ) → p < k → k ≤ jx → k ≤ jy → FineTerm d.world e
        → BodyRuns d widths f go (k + 1) jx x mx → BodyRuns d widths f go (k + 1) jy y my
        → BodyRuns d widths f go p k (select_of d p k e hang x y) (select d.world e hang (branch mx my))
    unfolding select select_of put_to
    select_runs p k e hang x y mx my jx jy pk kx ky fine rx ry g s l st pc =
        let o = d.world.order in
        let tg = tag d.world e s in
        let x0 = value_in widths g (tag_of d e) in
        let r0 = wired d widths laws s k g x0 (d.code tg) st (tag_value d widths laws g s st e fine) in
        let g1 = put_to d g (wire_key k) x0 in
        let q1 = r0.quiet k (omega arith) in
        let x1 = value_in widths g1 (lub (var d (wire_key p)) (var d (wire_key k))) in
        let r1 = wired d widths laws s (k + 1) g1 x1 (d.code (o.join l tg)) r0.stands
        (lub_value d widths laws g1 (var d (wire_key p)) (var d (wire_key k)) l tg (q1.kept p pk ∙ pc) r0.here) in
        let g2 = put_to d g1 (wire_key (k + 1)) x1 in
        let q2 = quiet_next d k g g1 g2 q1 (r1.quiet k (omega arith)) in
        let rest = cases (expr d e) x y stop in
        let b = raises_turn d widths laws f go hang k tg s g2 rest r1.stands ((r1.quiet (k + 1) (omega arith)).kept k (omega arith) ∙ r0.here) in
        let g3 = b.0 in
        let up = b.3 in
        let v : value_in widths g3 (expr d e) ≡ value d.world e s =
        expr_value d widths laws g3 s (λ n i. up.value n ∙ r1.stands.value n i)
        (λ m i h. ap (λ (c : Name → ℕ → ℕ). c (d.name (value_key m)) i) up.memory.cell ∙ r1.stands.starts m i h) e fine in
        let pc' : at d g3 (wire_key (k + 1)) ≡ d.code (o.join l tg) = up.wire (k + 1) ∙ r1.here in
        let quiet = quiet_next d k g g2 g3 q2 (raised_quiet d widths laws k g2 g3 up) in
        rw b.1
        (rw v
        (elim (cases_Bool (nat_eq (value d.world e s) 0)) [
          | inl z ↦ rw z (turns_after d k jy g g3 _ _ ky quiet (ry g3 _ _ b.2 pc'))
          | inr z ↦ rw z (turns_after d k jx g g3 _ _ kx quiet (rx g3 _ _ b.2 pc'))
        ]))

    -- the blocks of a `case`: what the number picks is the block at its arm's place
    pick_runs : (p k : ℕ) (e : Term ℕ) (hang : ℕ → Bool) (arms : Arms) (blocks : List Body) (pick : ℕ → ℕ → Store → After) → p < k → FineTerm d.world e
        → length blocks ≡ suc (arm_count arms) → length blocks ≤ 2 ^ pick_width arms
        → ((n : ℕ) → BodyRuns d widths f go (k + 1) (k + 4) (get_or blocks (arm_place arms n) stop) (pick n))
        → BodyRuns d widths f go p k (pick_of d p k e hang arms blocks) (select d.world e hang pick)
    unfolding select pick_of put_to
    pick_runs p k e hang arms blocks pick pk fine size few runs g s l st pc =
        let o = d.world.order in
        let tg = tag d.world e s in
        let v = value d.world e s in
        let x0 = value_in widths g (tag_of d e) in
        let r0 = wired d widths laws s k g x0 (d.code tg) st (tag_value d widths laws g s st e fine) in
        let g1 = put_to d g (wire_key k) x0 in
        let q1 = r0.quiet k (omega arith) in
        let x1 = value_in widths g1 (lub (var d (wire_key p)) (var d (wire_key k))) in
        let r1 = wired d widths laws s (k + 1) g1 x1 (d.code (o.join l tg)) r0.stands
        (lub_value d widths laws g1 (var d (wire_key p)) (var d (wire_key k)) l tg (q1.kept p pk ∙ pc) r0.here) in
        let g2 = put_to d g1 (wire_key (k + 1)) x1 in
        let q2 = quiet_next d k g g1 g2 q1 (r1.quiet k (omega arith)) in
        let x2 = value_in widths g2 (expr d e) in
        let r2 = wired d widths laws s (k + 2) g2 x2 v r1.stands (expr_value d widths laws g2 s r1.stands.value r1.stands.starts e fine) in
        let g3 = put_to d g2 (wire_key (k + 2)) x2 in
        let q3 = quiet_next d k g g2 g3 q2 (r2.quiet k (omega arith)) in
        let here = r2.quiet (k + 2) (omega arith) in
        let choice = picks d (width_of d.world e) (k + 2) (pick_width arms) (k + 3) 0 arms (decides d (k + 3) (pick_width arms) blocks) in
        let b = raises_turn d widths laws f go hang k tg s g3 choice r2.stands
        (here.kept k (omega arith) ∙ (r1.quiet (k + 1) (omega arith)).kept k (omega arith) ∙ r0.here) in
        let g4 = b.0 in
        let up = b.3 in
        let raised = raise o hang tg s in
        let a = arms_picked d widths laws f go (width_of d.world e) (k + 2) (pick_width arms) (k + 3) 0 v arms (decides d (k + 3) (pick_width arms) blocks) g4 raised (omega arith)
        (up.wire (k + 2) ∙ r2.here) b.2 in
        let g5 = a.0 in
        let chosen = a.2 in
        let place = arm_place arms v in
        let here_place : at d g5 (wire_key (k + 3)) ≡ place = let z : 0 + place ≡ place = omega arith in chosen.here ∙ z in
        let alone : place ≡ 0 * 2 ^ pick_width arms + place = omega arith in
        let chose = decided d widths f go (k + 3) (pick_width arms) blocks place 0 place g5 here_place alone (let i = arm_within arms v in omega (arith, size, i)) few in
        let pc' : at d g5 (wire_key (k + 1)) ≡ d.code (o.join l tg) = chosen.quiet.kept (k + 1) (omega arith) ∙ up.wire (k + 1) ∙ here.kept (k + 1) (omega arith) ∙ r1.here in
        let quiet = quiet_next d k g g4 g5 (quiet_next d k g g3 g4 q3 (raised_quiet d widths laws k g3 g4 up)) (quiet_less d k (k + 3) g4 g5 (omega arith) chosen.quiet) in
        rw (b.1, a.1, chose) (turns_after d k (k + 4) g g5 _ _ (omega arith) quiet (runs v g5 raised _ chosen.stands pc'))

    -- as many blocks as arms and one
    blocks_counted : (p k : ℕ) (arms : Arms) → length (arms_plain d sp p k arms) ≡ suc (arm_count arms)
    unfolding arms_plain
    blocks_counted p k (last_arm b) = refl
    blocks_counted p k (and_arm constants b arms) = ap suc (blocks_counted p (k + wires_block b) arms)

    blocks_hold : (p k : ℕ) (arms : Arms) → arm_count arms ≤ most_arms → length (arms_plain d sp p k arms) ≤ 2 ^ pick_width arms
    blocks_hold p k arms few = rw (blocks_counted p k arms) (seat_holds (suc (arm_count arms)) (omega (arith, few)))

    runs_less : (p k from : ℕ) (x : Body) (m : ℕ → Store → After) → k ≤ from → BodyRuns d widths f go p from x m → BodyRuns d widths f go p k x m
    runs_less p k from x m l runs g s c st pc = turns_less d k from g _ _ l (runs g s c st pc)

    mutual
      unfolding run run_arms run_block command_plain arms_plain block_plain

      pub command_runs : (c : Command) → Every (FineCommand d.world q sp.children) c → Few c → (p k : ℕ) → p < k → k + wires c ≤ base
          → BodyRuns d widths f go p k (command_plain d sp p k c) (run (within d.world sp enter) c)
      command_runs (lone t) fine few p k pk kb =
          attempt_runs p k t _ stop (λ l s. stay s) pk (omega arith) fine (λ g s l st pc. turns_stay d (k + 5) g g s (quiet_none d (k + 5) g) st)
      command_runs (try t hang h) fine few p k pk kb =
          attempt_runs p k t (listed hang) (block_plain d sp (k + 2) (k + 5) h) (run_block (within d.world sp enter) h) pk (omega arith) fine.0
          (block_runs h fine.1 few.1 (k + 2) (k + 5) (omega arith) (omega arith))
      command_runs (if_else hang e a b) fine few p k pk kb =
          select_runs p k e (listed hang) (block_plain d sp (k + 1) (k + 2) a) (block_plain d sp (k + 1) (k + 2 + wires_block a) b) (run_block (within d.world sp enter) a)
          (run_block (within d.world sp enter) b) (k + 2) (k + 2 + wires_block a) pk (omega arith) (omega arith) fine.0
          (block_runs a fine.1 few.1 (k + 1) (k + 2) (omega arith) (omega arith)) (block_runs b fine.2 few.2 (k + 1) (k + 2 + wires_block a) (omega arith) (omega arith))
      command_runs (try_then t hang a b) fine few p k pk kb =
          attempt_then_runs p k (k + 5) (k + 5 + wires_block a) t (listed hang) (block_plain d sp (k + 2) (k + 5) a) (block_plain d sp (k + 2) (k + 5 + wires_block a) b)
          (run_block (within d.world sp enter) a) (run_block (within d.world sp enter) b) pk (omega arith) (omega arith) (omega arith) fine.0
          (block_runs a fine.1 few.1 (k + 2) (k + 5) (omega arith) (omega arith)) (block_runs b fine.2 few.2 (k + 2) (k + 5 + wires_block a) (omega arith) (omega arith))
      command_runs (case_of hang e arms) fine few p k pk kb =
          pick_runs p k e (listed hang) arms (arms_plain d sp (k + 1) (k + 4) arms) (run_arms (within d.world sp enter) arms) pk fine.0 (blocks_counted (k + 1) (k + 4) arms)
          (blocks_hold (k + 1) (k + 4) arms few.0.0) (λ n. arms_run arms fine.1 few.1 (k + 1) (k + 4) (omega arith) (omega arith) n)

      -- the block that the number picks
      arms_run : (arms : Arms) → EveryInArms (FineCommand d.world q sp.children) arms → FewArms arms → (p k : ℕ) → p < k → k + wires_arms arms ≤ base → (n : ℕ)
          → BodyRuns d widths f go p k (get_or (arms_plain d sp p k arms) (arm_place arms n) stop) (run_arms (within d.world sp enter) arms n)
      arms_run (last_arm b) fine few p k pk kb n = block_runs b fine few p k pk kb
      arms_run (and_arm constants b arms) fine few p k pk kb n = elim (cases_Bool (is_constant constants n)) [
        | inl t ↦ rw t (block_runs b fine.0 few.0 p k pk (omega arith))
        | inr t ↦
            rw t
            (runs_less p k (k + wires_block b) (get_or (arms_plain d sp p (k + wires_block b) arms) (arm_place arms n) stop) (run_arms (within d.world sp enter) arms n) (omega arith)
            (arms_run arms fine.1 few.1 p (k + wires_block b) (omega arith) (omega arith) n))
      ]

      pub block_runs : (c : Block) → EveryInBlock (FineCommand d.world q sp.children) c → FewBlock c → (p k : ℕ) → p < k → k + wires_block c ≤ base
          → BodyRuns d widths f go p k (block_plain d sp p k c) (run_block (within d.world sp enter) c)
      block_runs end_block fine few p k pk kb g s l st pc = turns_stay d k g g s (quiet_none d k g) st
      block_runs (command_then c cs) fine few p k pk kb g s l st pc =
          let r = command_runs c fine.0 few.0 p k pk (omega arith) g s l st pc in
          let g1 = body_does widths f go (command_plain d sp p k c) g in
          let t = block_runs cs fine.1 few.1 p (k + wires c) (omega arith) (omega arith) g1 _ l r.stands (r.kept p pk ∙ pc) in
          rw (does_follow d widths f go (command_plain d sp p k c) (block_plain d sp p (k + wires c) cs) g)
          (turns_then d k (k + wires c) g g1 _ (run (within d.world sp enter) c l s) (run_block (within d.world sp enter) cs l) (omega arith) r t)
