-- How large bodies and states are.
use Rattle.sap_lemmas.proofs.Common.{◌≡◌, ℕ, zero, suc, ◌+◌, ◌-◌, ◌*◌, ◌^◌, ◌≤◌, nat_le, Bool, List, [], ◌∷◌, length, take, drop, refl, arith, inl, inr, length-append, cases_Bool, leb-false, length-take-le, length-drop, pow_pos, mul-le-mul_left}
use Rattle.sap_bits.specs.declared.Op2.TheVariants.{Eq}
use Rattle.sap_maps.specs.Term.{Term, constant, two}
use Rattle.sap_meaning.specs.Prelude.{root, listed, Command, lone, try, if_else, try_then, case_of, Arms, last_arm, and_arm, Block, end_block, command_then, state_node, Group, no_node, and_node, width_of, Home, listed_alone}
use Rattle.sap_ir.specs.Plain.Nested.{Body, stop, cases, Forest, none, state, state_names}
use Rattle.sap_size.specs.Terms.{term_size}
use Rattle.sap_size.specs.Nested.{states_in, body_weight, forest_weight}
use Rattle.sap_size.specs.Programs.{constant_count, command_size, arms_size, block_size, group_size, states_below}
use Rattle.sap_tagged.specs.Prelude.{tag_key, wire_key, first_key, Setting, var, expr, gives, raises, arm_count, pick_width, picks_arm, picks, decides, pick_of, select_of, wires, wires_block, command_plain, arms_plain, block_plain, HaveConstants, Few, FewArms, FewBlock, FewGroup, wires_group, saved, group_plain, top_plain}
use Rattle.sap_tagged.proofs.Groups.{Shaped}
use Rattle.sap_tagged.proofs.Falls.{shaped_group, shaped_top}
use Rattle.sap_tagged.proofs.small.Held.{lub_weighs, two_weighs, choose_weighs, part_weighs}
use Rattle.sap_tagged.proofs.small.Tags.{Roomy, expr_weighs, tag_weighs}
use Rattle.sap_tagged.proofs.small.Steps.{follow_weighs, sweep_weighs, raises_weigh, attempt_weighs, attempt_then_weighs}

-- the constants of all arms, and all blocks

arms_fewer : (arms : Arms) → HaveConstants arms → arm_count arms ≤ constant_count arms
arms_fewer (last_arm b) n = omega arith
arms_fewer (and_arm constants b arms) n = let r = arms_fewer arms n.1 in let l = n.0 in omega (arith, r, l)

abbrev total : Forest → List Body → ℕ
total group [] = 0
total group (b ∷ bs) = body_weight group b + total group bs

total_split : (group : Forest) (n : ℕ) (bs : List Body) → total group (take n bs) + total group (drop n bs) ≡ total group bs
total_split group (suc n) (b ∷ bs) = let r = total_split group n bs in omega (arith, r)
total_split group _ _ = omega arith

module _ (d : Setting) (room : ℕ) (r : Roomy d room) where
  module _ (at : Home) (few : states_below at.children ≤ root d.world) (group : Forest) (small : states_in group ≤ root d.world) where
    select_weighs : (p k : ℕ) (e : Term ℕ) (hangs : ℕ → Bool) (a b : Body)
        → body_weight group (select_of d p k e hangs a b) ≤ room * (1 + term_size e) + body_weight group a + body_weight group b
    unfolding select_of
    select_weighs p k e hangs a b =
        let w = r.wide in
        let v = r.levels in
        let t = tag_weighs d e in
        let o = expr_weighs d e in
        let l = lub_weighs (var d (wire_key p)) (var d (wire_key k)) in
        let s = raises_weigh group d hangs k (cases (expr d e) a b stop) in
        let m : term_size e * 22 ≤ term_size e * room = mul-le-mul_left (term_size e) (omega (arith, w, v)) in
        omega (arith, w, v, t, o, l, s, m)

    -- three a constant, and one for the last block

    arm_picks_weigh : (u n w j i : ℕ) (cs : List ℕ) (rest : Body) → body_weight group (picks_arm d u n w j i cs rest) ≤ 3 * length cs + body_weight group rest
    arm_picks_weigh u n w j i [] rest = omega arith
    arm_picks_weigh u n w j i (c ∷ cs) rest =
        let q = arm_picks_weigh u n w j i cs rest in
        let e = two_weighs Eq (var d (wire_key n)) (constant u c) in
        let o = choose_weighs (two Eq (var d (wire_key n)) (constant u c)) (constant w i) (var d (wire_key j)) in
        omega (arith, q, e, o)

    picks_weigh : (u n w j i : ℕ) (arms : Arms) (rest : Body) → body_weight group (picks d u n w j i arms rest) ≤ 1 + 3 * constant_count arms + body_weight group rest
    picks_weigh u n w j i (last_arm b) rest = omega arith
    picks_weigh u n w j i (and_arm constants b arms) rest =
        let q = picks_weigh u n w j (suc i) arms (picks_arm d u n w j i constants rest) in
        let a = arm_picks_weigh u n w j i constants rest in
        omega (arith, q, a)

    -- four a block but one
    decides_weigh : (j m : ℕ) (bs : List Body) → 1 ≤ length bs → body_weight group (decides d j m bs) + 4 ≤ 4 * length bs + total group bs
    decides_weigh j zero [] l = absurd (omega (arith, l))
    decides_weigh j zero (b ∷ bs) l = omega arith
    decides_weigh j (suc m) bs l = elim (cases_Bool (nat_le (length bs) (2 ^ m))) [
      | inl t ↦ rw t (decides_weigh j m bs l)
      | inr t ↦
          rw t
          (let a = leb-false (length bs) (2 ^ m) t in
          let p = pow_pos m in
          let first : length (take (2 ^ m) bs) ≡ 2 ^ m = length-take-le (2 ^ m) bs (omega (arith, a)) in
          let last : length (drop (2 ^ m) bs) ≡ length bs - 2 ^ m = length-drop (2 ^ m) bs in
          let x = decides_weigh j m (take (2 ^ m) bs) (omega (arith, first, p)) in
          let y = decides_weigh j m (drop (2 ^ m) bs) (omega (arith, last, a)) in
          let z = total_split group (2 ^ m) bs in
          let o = part_weighs (var d (wire_key j)) m m in
          omega (arith, a, first, last, x, y, z, o))
    ]

    pick_weighs : (p k : ℕ) (e : Term ℕ) (hangs : ℕ → Bool) (arms : Arms) (blocks : List Body) → HaveConstants arms → length blocks ≡ suc (arm_count arms)
        → body_weight group (pick_of d p k e hangs arms blocks) ≤ room * (1 + term_size e + constant_count arms) + total group blocks
    unfolding pick_of
    pick_weighs p k e hangs arms blocks n size =
        let w = r.wide in
        let v = r.levels in
        let t = tag_weighs d e in
        let o = expr_weighs d e in
        let l = lub_weighs (var d (wire_key p)) (var d (wire_key k)) in
        let width = pick_width arms in
        let choice = decides d (k + 3) width blocks in
        let s = raises_weigh group d hangs k (picks d (width_of d.world e) (k + 2) width (k + 3) 0 arms choice) in
        let q = picks_weigh (width_of d.world e) (k + 2) width (k + 3) 0 arms choice in
        let c = decides_weigh (k + 3) width blocks (omega (arith, size)) in
        let f = arms_fewer arms n in
        let m : term_size e * 22 ≤ term_size e * room = mul-le-mul_left (term_size e) (omega (arith, w, v)) in
        let h : constant_count arms * 22 ≤ constant_count arms * room = mul-le-mul_left (constant_count arms) (omega (arith, w, v)) in
        omega (arith, w, v, t, o, l, s, q, c, f, size, m, h)

    blocks_counted : (p k : ℕ) (arms : Arms) → length (arms_plain d at p k arms) ≡ suc (arm_count arms)
    unfolding arms_plain
    blocks_counted p k (last_arm b) = refl
    blocks_counted p k (and_arm constants b arms) = let i = blocks_counted p (k + wires_block b) arms in omega (arith, i)

    mutual
      unfolding command_plain arms_plain block_plain

      command_weighs : (p k : ℕ) (c : Command) → Few c → body_weight group (command_plain d at p k c) ≤ room * command_size c
      command_weighs p k (lone s) n =
          let a = attempt_weighs d room r at few group small p k s (listed_alone d.world at s) stop in omega (arith, a)
      command_weighs p k (try s hang h) n =
          let a = attempt_weighs d room r at few group small p k s (listed hang) (block_plain d at (k + 2) (k + 5) h) in
          let b = block_weighs (k + 2) (k + 5) h n.1 in
          omega (arith, a, b)
      command_weighs p k (if_else hang e a b) n =
          let s = select_weighs p k e (listed hang) (block_plain d at (k + 1) (k + 2) a) (block_plain d at (k + 1) (k + 2 + wires_block a) b) in
          let x = block_weighs (k + 1) (k + 2) a n.1 in
          let y = block_weighs (k + 1) (k + 2 + wires_block a) b n.2 in
          omega (arith, s, x, y)
      command_weighs p k (try_then s hang a b) n =
          let q = attempt_then_weighs d room r at few group small p k s (listed hang) (block_plain d at (k + 2) (k + 5) a) (block_plain d at (k + 2) (k + 5 + wires_block a) b) in
          let x = block_weighs (k + 2) (k + 5) a n.1 in
          let y = block_weighs (k + 2) (k + 5 + wires_block a) b n.2 in
          omega (arith, q, x, y)
      command_weighs p k (case_of hang e arms) n =
          let q = pick_weighs p k e (listed hang) arms (arms_plain d at (k + 1) (k + 4) arms) n.0.1 (blocks_counted (k + 1) (k + 4) arms) in
          let x = arms_weigh (k + 1) (k + 4) arms n.1 in
          omega (arith, q, x)

      arms_weigh : (p k : ℕ) (arms : Arms) → FewArms arms → total group (arms_plain d at p k arms) ≤ room * arms_size arms
      arms_weigh p k (last_arm b) n = let x = block_weighs p k b n in omega (arith, x)
      arms_weigh p k (and_arm constants b arms) n =
          let x = block_weighs p k b n.0 in
          let y = arms_weigh p (k + wires_block b) arms n.1 in
          omega (arith, x, y)

      block_weighs : (p k : ℕ) (b : Block) → FewBlock b → body_weight group (block_plain d at p k b) ≤ room * block_size b
      block_weighs p k end_block n = omega arith
      block_weighs p k (command_then c cs) n =
          let x = command_weighs p k c n.0 in
          let y = block_weighs p (k + wires c) cs n.1 in
          let f = follow_weighs group (command_plain d at p k c) (block_plain d at p (k + wires c) cs) in
          omega (arith, x, y, f)

  -- as many states as the program has

  shaped_states : (g : Group) (f : Forest) → Shaped d g f → states_in f ≡ states_below g
  shaped_states no_node none h = refl
  shaped_states (and_node (state_node s b g) rest) (state x body kids others) h =
      let m = shaped_states g kids h.1 in
      let o = shaped_states rest others h.2 in
      let n = length-append (state_names kids) (state_names others) in
      omega (arith, m, o, n)
  shaped_states _ _ h = absurd h

  group_weighs : (group : Forest) → states_in group ≤ root d.world → (parent k : ℕ) (g : Group) → states_below g ≤ root d.world → FewGroup g
      → forest_weight group (group_plain d parent k g) ≤ room * group_size g
  unfolding group_plain
  group_weighs group small parent k no_node few arms = omega arith
  group_weighs group small parent k (and_node (state_node s b g) rest) few arms =
      let w = r.wide in
      let v = r.levels in
      let at : Home = record { state = s; parent = parent; children = g } in
      let kids = group_plain d s (k + 1 + wires_block b) g in
      let n = shaped_states g kids (shaped_group d s (k + 1 + wires_block b) g) in
      let x = block_weighs at (omega (arith, few)) group small k (k + 1) b arms.0.0 in
      let y = group_weighs kids (omega (arith, few, n)) s (k + 1 + wires_block b) g (omega (arith, few)) arms.0.1 in
      let z = group_weighs group small parent (k + (1 + wires_block b + wires_group g)) rest (omega (arith, few)) arms.1 in
      omega (arith, w, v, x, y, z)

  tops_weigh : (group : Forest) → states_in group ≤ root d.world → (hangs : ℕ → Bool) (k : ℕ) (g : Group) → states_below g ≤ root d.world
      → FewGroup g → forest_weight group (top_plain d hangs k g) ≤ room * group_size g
  unfolding top_plain
  tops_weigh group small hangs k no_node few arms = omega arith
  tops_weigh group small hangs k (and_node (state_node s b g) rest) few arms =
      let w = r.wide in
      let v = r.levels in
      let at : Home = record { state = s; parent = root d.world; children = g } in
      let kids = group_plain d s (k + 1 + wires_block b) g in
      let n = shaped_states g kids (shaped_group d s (k + 1 + wires_block b) g) in
      let body = block_plain d at k (k + 1) b in
      let raised = raises d hangs k body in
      let x = block_weighs at (omega (arith, few)) group small k (k + 1) b arms.0.0 in
      let q = raises_weigh group d hangs k body in
      let u = sweep_weighs group d first_key (saved d.world) (λ m. var d (tag_key m)) 1 (λ m. omega arith) 0 (root d.world) (gives d (wire_key k) (var d (tag_key s)) raised) in
      let y = group_weighs kids (omega (arith, few, n)) s (k + 1 + wires_block b) g (omega (arith, few)) arms.0.1 in
      let z = tops_weigh group small hangs (k + (1 + wires_block b + wires_group g)) rest (omega (arith, few)) arms.1 in
      omega (arith, w, v, x, q, u, y, z)

  -- all states of a program
  pub program_weighs : (hangs : ℕ → Bool) (g : Group) → states_below g ≤ root d.world → FewGroup g → (let f = top_plain d hangs 0 g in forest_weight f f) ≤ room * group_size g
  program_weighs hangs g few arms =
      let f = top_plain d hangs 0 g in
      let n = shaped_states g f (shaped_top d hangs 0 g) in
      tops_weigh f (omega (arith, few, n)) hangs 0 g few arms
