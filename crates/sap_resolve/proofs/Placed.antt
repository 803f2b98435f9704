-- A program whose rows stand at its points is the filled one.
use Rattle.sap_lemmas.proofs.Common.{◌≡◌, ℕ, zero, suc, ◌+◌, List, [], ◌∷◌, ◌++◌, Bool, Option, Some, length, map, refl, sym, ap, ap₂, subst, ◌∙◌, arith, append_assoc, slice_get, append-nil}
use Rattle.sap_tree.specs.Prelude.{DesignTree, Point, points_of}
use Rattle.sap_tree.specs.declared.syntax.Decl.{Decl}
use Rattle.sap_tree.specs.Touches as tree
use Rattle.sap_lattice.specs.Levels.{Levels}
use Rattle.sap_names.specs.Entities.{entities_of}
use Rattle.sap_names.specs.declared.entity.Entity.{Entity}
use Rattle.sap_maps.specs.Term.{Term}
use Rattle.sap_meaning.specs.Prelude.{World, Step, assign, write, retag, retag_cell, go_to, fall_to_child, Command, lone, try, if_else, try_then, case_of, Arms, last_arm, and_arm, Block, end_block, command_then, State, state_node, Group, no_node as NoState, and_node, root, Home, touches}
use Rattle.sap_hang.specs.Hang.{Table, says, says_of_root, touches_entity, root_touches_entity, IsHangTable}
use Rattle.sap_resolved.specs.Fill.{table, filled_step, filled, filled_arms, filled_block, filled_state, filled_group, program_of}
use Rattle.sap_resolved.specs.Resolve.{states_of}
use Rattle.sap_resolved.specs.Worlds.{world_of}
use Rattle.sap_resolved.specs.Kept.Hangs.{step_rows, rows, arms_rows, block_rows, state_rows, group_rows, point_row, row_of, rows_of}
use Rattle.sap_resolve.specs.Rows.{Rows, rows_in, root_row_in, step_points, command_points, arms_points, block_points, state_points, group_points, step_with, command_with, arms_with, block_with, state_with, group_with}
use Rattle.sap_resolve.proofs.Chosen.{named, table_same, table_named}

-- these rows in order, from point p on
abbrev Follow : Rows → ℕ → List (List Bool) → Type 0
Follow r p [] = Unit {0}
Follow r p (x ∷ xs) = (x ≡ r p) × Follow r (p + 1) xs

module _ (r : Rows) where
  at_point : (p q : ℕ) (xs : List (List Bool)) → p ≡ q → Follow r p xs → Follow r q xs
  at_point p q xs e h = subst (λ (n : ℕ). Follow r n xs) e h

  joined_rows : (p : ℕ) (a b more : List (List Bool)) → Follow r p ((a ++ b) ++ more) → Follow r p (a ++ (b ++ more))
  joined_rows p a b more h = subst (λ (l : List (List Bool)). Follow r p l) (append_assoc a b more) h

  module _ (w : World) where
    step_placed : (at : Home) (k : Step) (p : ℕ) (more : List (List Bool)) → Follow r p (step_rows (filled_step w at k) ++ more)
        → (step_with r p k ≡ filled_step w at k) × Follow r (p + step_points k) more
    step_placed at (assign site x e) p more h = (refl, at_point p (p + 0) more (omega arith) h)
    step_placed at (write site m i e) p more h = (refl, at_point p (p + 0) more (omega arith) h)
    step_placed at (retag site x n) p more h = (refl, at_point p (p + 0) more (omega arith) h)
    step_placed at (retag_cell site m j n) p more h = (refl, at_point p (p + 0) more (omega arith) h)
    step_placed at (go_to site target) p more h = (refl, at_point p (p + 0) more (omega arith) h)
    step_placed at (fall_to_child site hang) p more h = (ap (fall_to_child site) (sym h.0), h.1)

    try_same : (s t : Step) (a b : List Bool) (x y : Block) → s ≡ t → a ≡ b → x ≡ y → try s a x ≡ try t b y
    try_same s t a b x y h i j = cc

    if_same : (a b : List Bool) (e : Term ℕ) (x y u v : Block) → a ≡ b → x ≡ y → u ≡ v → if_else a e x u ≡ if_else b e y v
    if_same a b e x y u v h i j = cc

    then_same : (s t : Step) (a b : List Bool) (x y u v : Block) → s ≡ t → a ≡ b → x ≡ y → u ≡ v → try_then s a x u ≡ try_then t b y v
    then_same s t a b x y u v h i j k = cc

    mutual
      command_placed : (at : Home) (c : Command) (p : ℕ) (more : List (List Bool)) → Follow r p (rows (filled w at c) ++ more)
          → (command_with r p c ≡ filled w at c) × Follow r (p + command_points c) more
      command_placed at (lone k) p more h = let s = step_placed at k p more h in (ap lone s.0, s.1)
      command_placed at (try k hang handler) p more h =
          let row = table (root w) (touches w at (try k hang handler)) in
          let s = step_placed at k p (row ∷ (block_rows (filled_block w at handler) ++ more))
          (joined_rows p (step_rows (filled_step w at k)) (row ∷ block_rows (filled_block w at handler)) more h) in
          let b = block_placed at handler (p + step_points k + 1) more s.1.1 in (
            try_same _ _ _ _ _ _ s.0 (sym s.1.0) b.0,
            at_point (p + step_points k + 1 + block_points handler) (p + (step_points k + 1 + block_points handler)) more (omega arith) b.1,
          )
      command_placed at (if_else hang condition a b) p more h =
          let x = block_placed at a (p + 1) (block_rows (filled_block w at b) ++ more)
          (joined_rows (p + 1) (block_rows (filled_block w at a)) (block_rows (filled_block w at b)) more h.1) in
          let y = block_placed at b (p + 1 + block_points a) more x.1 in
          (if_same _ _ condition _ _ _ _ (sym h.0) x.0 y.0, at_point (p + 1 + block_points a + block_points b) (p + (1 + (block_points a + block_points b))) more (omega arith) y.1)
      command_placed at (try_then k hang a b) p more h =
          let row = table (root w) (touches w at (try_then k hang a b)) in
          let blocks = block_rows (filled_block w at a) ++ block_rows (filled_block w at b) in
          let s = step_placed at k p (row ∷ (blocks ++ more)) (joined_rows p (step_rows (filled_step w at k)) (row ∷ blocks) more h) in
          let q = p + step_points k + 1 in
          let x = block_placed at a q (block_rows (filled_block w at b) ++ more) (joined_rows q (block_rows (filled_block w at a)) (block_rows (filled_block w at b)) more s.1.1) in
          let y = block_placed at b (q + block_points a) more x.1 in (
            then_same _ _ _ _ _ _ _ _ s.0 (sym s.1.0) x.0 y.0,
            at_point (q + block_points a + block_points b) (p + (step_points k + 1 + (block_points a + block_points b))) more (omega arith) y.1,
          )
      command_placed at (case_of hang e arms) p more h =
          let x = arms_placed at arms (p + 1) more h.1 in
          (ap₂ (λ (l : List Bool) (u : Arms). case_of l e u) (sym h.0) x.0, at_point (p + 1 + arms_points arms) (p + (1 + arms_points arms)) more (omega arith) x.1)

      arms_placed : (at : Home) (arms : Arms) (p : ℕ) (more : List (List Bool)) → Follow r p (arms_rows (filled_arms w at arms) ++ more)
          → (arms_with r p arms ≡ filled_arms w at arms) × Follow r (p + arms_points arms) more
      arms_placed at (last_arm b) p more h = let x = block_placed at b p more h in (ap last_arm x.0, x.1)
      arms_placed at (and_arm constants b arms) p more h =
          let x = block_placed at b p (arms_rows (filled_arms w at arms) ++ more) (joined_rows p (block_rows (filled_block w at b)) (arms_rows (filled_arms w at arms)) more h) in
          let y = arms_placed at arms (p + block_points b) more x.1 in
          (ap₂ (and_arm constants) x.0 y.0, at_point (p + block_points b + arms_points arms) (p + (block_points b + arms_points arms)) more (omega arith) y.1)

      block_placed : (at : Home) (b : Block) (p : ℕ) (more : List (List Bool)) → Follow r p (block_rows (filled_block w at b) ++ more)
          → (block_with r p b ≡ filled_block w at b) × Follow r (p + block_points b) more
      block_placed at end_block p more h = (refl, at_point p (p + 0) more (omega arith) h)
      block_placed at (command_then c cs) p more h =
          let x = command_placed at c p (block_rows (filled_block w at cs) ++ more) (joined_rows p (rows (filled w at c)) (block_rows (filled_block w at cs)) more h) in
          let y = block_placed at cs (p + command_points c) more x.1 in
          (ap₂ command_then x.0 y.0, at_point (p + command_points c + block_points cs) (p + (command_points c + block_points cs)) more (omega arith) y.1)

    mutual
      state_placed : (parent : ℕ) (s : State) (p : ℕ) (more : List (List Bool)) → Follow r p (state_rows (filled_state w parent s) ++ more)
          → (state_with r p s ≡ filled_state w parent s) × Follow r (p + state_points s) more
      state_placed parent (state_node s body children) p more h =
          let at : Home = record { state = s; parent = parent; children = children } in
          let x = block_placed at body p (group_rows (filled_group w s children) ++ more)
          (joined_rows p (block_rows (filled_block w at body)) (group_rows (filled_group w s children)) more h) in
          let y = group_placed s children (p + block_points body) more x.1 in
          (ap₂ (state_node s) x.0 y.0, at_point (p + block_points body + group_points children) (p + (block_points body + group_points children)) more (omega arith) y.1)

      group_placed : (parent : ℕ) (g : Group) (p : ℕ) (more : List (List Bool)) → Follow r p (group_rows (filled_group w parent g) ++ more)
          → (group_with r p g ≡ filled_group w parent g) × Follow r (p + group_points g) more
      group_placed parent NoState p more h = (refl, at_point p (p + 0) more (omega arith) h)
      group_placed parent (and_node s rest) p more h =
          let x = state_placed parent s p (group_rows (filled_group w parent rest) ++ more)
          (joined_rows p (state_rows (filled_state w parent s)) (group_rows (filled_group w parent rest)) more h) in
          let y = group_placed parent rest (p + state_points s) more x.1 in
          (ap₂ and_node x.0 y.0, at_point (p + state_points s + group_points rest) (p + (state_points s + group_points rest)) more (omega arith) y.1)

  follow_map : (p : ℕ) (xs : List Point) (f : Point → List Bool) → ((i : ℕ) (x : Point) → slice_get xs i ≡ Some x → r (p + i) ≡ f x) → Follow r p (map f xs)
  follow_map p [] f h = tt
  follow_map p (x ∷ xs) f h =
      (sym (ap r (omega arith) ∙ h 0 x refl), follow_map (p + 1) xs f (λ i y e. let n : p + 1 + i ≡ p + suc i = omega arith in ap r n ∙ h (suc i) y e))

-- what a table of a design says of a point is what the command there touches

touched : (ds : List Decl) (x : Point) (es : List Entity) (y : ℕ) → touches_entity ds (Some x) (slice_get es y) ≡ named es (λ name. tree.touches ds x.home x.command name) y
touched ds x [] zero = refl
touched ds x [] (suc y) = refl
touched ds x (e ∷ es) zero = refl
touched ds x (e ∷ es) (suc y) = touched ds x es y

said : (d : DesignTree) (t : Table) → IsHangTable d t → (i : ℕ) (x : Point) → slice_get (points_of d) i ≡ Some x
    → rows_in (length (entities_of d)) t (suc i) ≡ point_row d.declarations (entities_of d) x
said d t is i x e =
    table_same (length (entities_of d)) (says t (suc i)) (named (entities_of d) (λ name. tree.touches d.declarations x.home x.command name))
    (λ y l. is.points (suc i) y ∙ ap (λ (p : Option Point). touches_entity d.declarations p (slice_get (entities_of d) y)) e ∙ touched d.declarations x (entities_of d) y)
    ∙ table_named (entities_of d) (λ name. tree.touches d.declarations x.home x.command name)

-- and of the root, what its fall touches

root_touched : (d : DesignTree) (es : List Entity) (y : ℕ) → root_touches_entity d (slice_get es y) ≡ named es (λ name. tree.root_touches d name) y
root_touched d [] zero = refl
root_touched d [] (suc y) = refl
root_touched d (e ∷ es) zero = refl
root_touched d (e ∷ es) (suc y) = root_touched d es y

pub root_placed : (d : DesignTree) (t : Table) → IsHangTable d t → root_row_in (length (entities_of d)) t ≡ row_of (entities_of d) (tree.root_touches d)
root_placed d t is =
    table_same (length (entities_of d)) (says_of_root t) (named (entities_of d) (λ name. tree.root_touches d name)) (λ y l. is.root y ∙ root_touched d (entities_of d) y)
    ∙ table_named (entities_of d) (λ name. tree.root_touches d name)

pub placed : (ls : Levels) (d : DesignTree) (t : Table) → IsHangTable d t → group_rows (program_of ls d).states ≡ rows_of d
    → group_with (rows_in (length (entities_of d)) t) 1 (states_of ls d) ≡ (program_of ls d).states
placed ls d t is agree =
    let w = world_of ls d in
    let g = states_of ls d in
    let r = rows_in (length (entities_of d)) t in
    let follows : Follow r 1 (rows_of d) =
    follow_map r 1 (points_of d) (point_row d.declarations (entities_of d)) (λ i x e. let n : 1 + i ≡ suc i = omega arith in ap r n ∙ said d t is i x e) in
    (group_placed r w (root w) g 1 [] (subst (λ (l : List (List Bool)). Follow r 1 l) (sym (append-nil (group_rows (filled_group w (root w) g)) ∙ agree)) follows)).0
