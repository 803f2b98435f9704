-- What hangs on the commands of a program is what they touch in the tree.
use Rattle.std.proofs.Math.Bool.{and_comm}
use Rattle.sap_lemmas.proofs.Common.{◌≡◌, ℕ, suc, ◌+◌, ◌<◌, Bool, true, false, ◌&&◌, ◌||◌, List, [], ◌∷◌, ◌++◌, length, map, nat_eq, refl, sym, ap, ◌∙◌, arith, bytes_eq, Option, Some, None, map-append, map-map, test_of_same, bytes_eq_same, equal_of_bytes_eq, eqb-true, false_from_ne_true, or_left, or_right, and_false}
use Rattle.sap_resolved.proofs.FillLemmas.{table_front}
use Rattle.sap_text.specs.declared.place.Place.{Place}
use Rattle.sap_tree.specs.Prelude.{SimpleCommand, assign, write, go_to, fall_to_child, Command, lone, try, if_else, try_then, case_of, Arms, last_arm, and_arm, CommandBlock, command_block, ElseBlock, no_else, with_else, CommandList, no_command, and_command, StateTree, state_node, StateList, no_state, and_state, is_dynamic_store, is_dynamic_child, fall_touches, simple_touches, root_touches}
use Rattle.sap_tree.specs.declared.name.Mention.{Mention}
use Rattle.sap_tree.specs.declared.syntax.Decl.{Decl}
use Rattle.sap_tree.specs.declared.syntax.Kind.{Kind}
use Rattle.sap_tree.specs.Points as points
use Rattle.sap_tree.specs.Touches as tree
use Rattle.sap_lattice.specs.Levels.{Levels, order_of}
use Rattle.sap_names.specs.Prelude.{entities_of, what_is, name_faults, expression_faults, simple_faults, command_faults, block_faults, else_faults, arms_faults, constants_faults, commands_faults, kind_faults, state_faults, states_faults, declarations_faults, twice, own as own_of, register_width}
use Rattle.sap_names.specs.declared.entity.Entity.{Entity}
use Rattle.sap_names.specs.declared.kind.Declared.{Declared}
use Rattle.sap_names.specs.declared.kind.Use.TheVariants.{Assigned as assigning, Indexed as indexed}
use Rattle.sap_meaning.specs.Prelude.{World, Group, is_dynamic, is_register, is_memory, root, step_assigns, block_assigns, state_assigns, group_assigns, among, step_hangs, hangs, touches, Home}
use Rattle.sap_resolved.specs.Fill.{table, filled, filled_arms, filled_block, filled_state, filled_group}
use Rattle.sap_resolved.specs.Resolve.{step_of, command_of, arms_of, block_of, else_of, list_of, state_of, group_of}
use Rattle.sap_shape.specs.Sites.{Surroundings, simple_sites, command_sites, block_sites, state_sites}
use Rattle.sap_resolved.specs.Terms.{entity_number}
use Rattle.sap_resolved.specs.Worlds.{states_in, world_of}
use Rattle.sap_resolved.proofs.Lookup.{entities_length}
use Rattle.sap_resolved.proofs.sized.Faultless.{none_two, none_three}
use Rattle.sap_resolved.proofs.premises.Lookups.{unique}
use Rattle.sap_resolved.proofs.premises.Numbers.{here_dynamic}
use Rattle.sap_resolved.proofs.premises.Places.{Laid, LaidState, laid_first, laid_rest, laid_below, laid_name, laid_named, name_at}
use Rattle.sap_resolved.proofs.premises.Worlds.{laid}
use Rattle.sap_resolved.specs.Kept.Hangs.{rows, arms_rows, block_rows, state_rows, group_rows, row_of, point_row}
use Rattle.sap_resolved.specs.Kept.Kept.{IsNamed}
use Rattle.sap_resolved.specs.Kept.Laws.{HangsAgree}
use Rattle.sap_resolved.proofs.TreeWalks.{Named, Fitting, every_named, every_named_in_block, gathered_resolved, gathered_in_block_resolved}
use Rattle.sap_resolved.proofs.kept.Names.{named_at, named_of}
use Rattle.sap_resolved.proofs.kept.Keeping.{Known}
use Rattle.sap_resolved.proofs.kept.Designs.{known_names}
use Rattle.sap_resolved.proofs.kept.Stores.{store_same, Kinds, kinds_of}

-- truths

never : (d : Bool) → false ≡ (d && false)
never d = sym (and_false d)

both_none : (a b : Bool) → (a && false) ≡ (b && false)
both_none a b = sym (never a) ∙ never b

or_and : (d a b p q : Bool) → p ≡ (d && a) → q ≡ (d && b) → (p || q) ≡ (d && (a || b))
or_and true a b p q h k = ap (λ (z : Bool). z || q) h ∙ ap (λ (z : Bool). a || z) k
or_and false a b p q h k = ap (λ (z : Bool). z || q) h ∙ k

and_or : (s d a b x y : Bool) → (s && a) ≡ (d && x) → (s && b) ≡ (d && y) → (s && (a || b)) ≡ (d && (x || y))
and_or true d a b x y h k = or_and d x y a b h k
and_or false true a b x y h k = k ∙ ap (λ (z : Bool). z || y) h
and_or false false a b x y h k = refl

where_equal : (a b c e : Bool) → c ≡ e → (e ≡ true → a ≡ b) → (a && c) ≡ (b && e)
where_equal a b c true h k = ap (λ (z : Bool). a && z) h ∙ ap (λ (z : Bool). z && true) (k refl)
where_equal a b c false h k = ap (λ (z : Bool). a && z) h ∙ both_none a b

-- for one entity, by its name and by its number
module _ (ls : Levels) (le : ℕ → ℕ → Bool) (ds : List Decl) (es : List Entity) (w : World) (k : Known es) (kinds : Kinds es w) (x : ℕ)
    (same : (y : ℕ) (name : List ℕ) → IsNamed es y name → bytes_eq name (name_at es x) ≡ nat_eq x y)
    (store : (is_register w x || is_memory w x) ≡ true → is_dynamic_store ds (name_at es x) ≡ is_dynamic w x) where
  abbrev n : List ℕ
  n = name_at es x

  abbrev means : List ℕ → Option Declared
  means = what_is es

  stored : (y : ℕ) (name : List ℕ) → IsNamed es y name → (is_register w y || is_memory w y) ≡ true → (is_dynamic_store ds n && bytes_eq name n) ≡ (is_dynamic w x && nat_eq x y)
  stored y name i j =
      where_equal (is_dynamic_store ds n) (is_dynamic w x) (bytes_eq name n) (nat_eq x y) (same y name i)
      (λ t. store (ap (λ (z : ℕ). is_register w z || is_memory w z) (eqb-true x y t) ∙ j))

  of_state : (y : ℕ) (name : List ℕ) (b : Bool) → IsNamed es y name → b ≡ is_dynamic w y → (b && bytes_eq name n) ≡ (is_dynamic w x && nat_eq x y)
  of_state y name b i e =
      where_equal b (is_dynamic w x) (bytes_eq name n) (nat_eq x y) (same y name i) (λ t. e ∙ ap (λ (z : ℕ). is_dynamic w z) (sym (eqb-true x y t)))

  -- what is assigned, in the body of a state
  module _ (home : tree.Home) where
    abbrev h : Surroundings
    h = record { entities = es; home = home }

    simple_same : (m : ℕ) (c : SimpleCommand) → simple_faults ls.names means c ≡ []
        → (is_dynamic_store ds n && tree.simple_assigns c n) ≡ (is_dynamic w x && step_assigns (step_of ls h m c) x)
    simple_same m (assign target e) f =
        let p = none_two (name_faults assigning means target) (expression_faults means e (register_width (means target.name))) f in
        stored (entity_number es target.name) target.name (k.named assigning target.name target.place p.0) (or_left _ _ (kinds.register target.name target.place p.0))
    simple_same m (write target index e) f =
        let p = none_three _ _ _ f in
        stored (entity_number es target.name) target.name (k.named indexed target.name target.place p.0) (or_right _ _ (kinds.memory target.name target.place p.0))
    simple_same m _ f = both_none (is_dynamic_store ds n) (is_dynamic w x)

    block_same : (m : ℕ) (b : CommandBlock) → block_faults ls.names means b ≡ []
        → (is_dynamic_store ds n && tree.block_assigns b n) ≡ (is_dynamic w x && block_assigns (block_of ls h m b) x)
    unfolding tree.block_assigns
    block_same m b f =
        gathered_in_block_resolved ls h false ◌||◌ false ◌||◌ (λ a c. (is_dynamic_store ds n && a) ≡ (is_dynamic w x && c))
        (both_none (is_dynamic_store ds n) (is_dynamic w x)) (λ a c d e i j. and_or (is_dynamic_store ds n) (is_dynamic w x) a c d e i j)
        (Named ls.names means) (Fitting ls.names means) (λ c. tree.simple_assigns c n) (λ c. step_assigns c x) simple_same m b
        (every_named_in_block ls.names means b f)

    -- what is touched in the body of a state with the number s and the children g
    module _ (s : ℕ) (g : Group) (own : (tree.is_dynamic_kind home.kind && bytes_eq home.name n) ≡ (is_dynamic w x && nat_eq x s))
        (falls : fall_touches ds home.children n ≡ (is_dynamic w x && (among g x || group_assigns g x))) where
      simple_touched : (m : ℕ) (c : SimpleCommand) → simple_faults ls.names means c ≡ []
          → simple_touches ds home c n ≡ (is_dynamic w x && step_hangs s g (step_of ls h m c) x)
      unfolding simple_touches
      simple_touched m (assign target e) f = simple_same m (assign target e) f
      simple_touched m (write target index e) f = simple_same m (write target index e) f
      simple_touched m (go_to place target) f = own
      simple_touched m (fall_to_child place) f = falls
      simple_touched m _ f = never (is_dynamic w x)

      pub command_touched : (m : ℕ) (c : Command) → command_faults ls.names means c ≡ []
          → tree.touches ds home c n ≡ (is_dynamic w x && hangs s g (command_of ls h m c) x)
      unfolding tree.touches
      command_touched m c f =
          gathered_resolved ls h false ◌||◌ false ◌||◌ (λ a b. a ≡ (is_dynamic w x && b)) (never (is_dynamic w x))
          (λ a b p q i j. or_and (is_dynamic w x) p q a b i j) (Named ls.names means) (Fitting ls.names means) (λ k. simple_touches ds home k n)
          (λ k. step_hangs s g k x) simple_touched m c (every_named ls.names means c f)

  mutual
    unfolding tree.state_assigns tree.states_assign

    state_same : (m y : ℕ) (s : StateTree) → state_faults ls.names le means s ≡ []
        → (is_dynamic_store ds n && tree.state_assigns s n) ≡ (is_dynamic w x && state_assigns (state_of ls es m y s) x)
    state_same m y (state_node place name kind body children) f =
        let p = none_three (kind_faults ls.names le kind) (block_faults ls.names means body) (states_faults ls.names le means children) f in
        let h : Surroundings = record { entities = es; home = tree.home_of (state_node place name kind body children) } in
        and_or (is_dynamic_store ds n) (is_dynamic w x) _ _ _ _ (block_same h.home m body p.1) (states_same (m + length (block_sites h body)) (y + 1) children p.2)

    states_same : (m y : ℕ) (g : StateList) → states_faults ls.names le means g ≡ []
        → (is_dynamic_store ds n && tree.states_assign g n) ≡ (is_dynamic w x && group_assigns (group_of ls es m y g) x)
    states_same m y no_state f = both_none (is_dynamic_store ds n) (is_dynamic w x)
    states_same m y (and_state s rest) f =
        let p = none_two (state_faults ls.names le means s) (states_faults ls.names le means rest) f in
        and_or (is_dynamic_store ds n) (is_dynamic w x) _ _ _ _ (state_same m y s p.0) (states_same (m + length (state_sites es s)) (y + states_in s) rest p.1)

  own_same : (a y : ℕ) (place : Place) (name : Mention) (kind : Kind) (body : CommandBlock) (children : StateList)
      → LaidState ls es w a y (state_node place name kind body children)
      → (tree.is_dynamic_kind kind && bytes_eq name.name n) ≡ (is_dynamic w x && nat_eq x y)
  own_same a y place name kind body children l =
      of_state y name.name (tree.is_dynamic_kind kind)
      (named_at es y name.name (laid_named ls es w a y place name kind body children l) (laid_name ls es w a y place name kind body children l))
      (sym (here_dynamic ls es w a y place name kind body children l))

  child_same : (m a y : ℕ) (g : StateList) → Laid ls es w a y g → is_dynamic_child g n ≡ (is_dynamic w x && among (group_of ls es m y g) x)
  unfolding is_dynamic_child
  child_same m a y no_state l = never (is_dynamic w x)
  child_same m a y (and_state (state_node place name kind body children) rest) l =
      let s = state_node place name kind body children in
      or_and (is_dynamic w x) _ _ _ _
      (and_comm (bytes_eq name.name n) (tree.is_dynamic_kind kind) ∙ own_same a y place name kind body children (laid_first ls es w a y s rest l))
      (child_same (m + length (state_sites es s)) (suc a) (y + states_in s) rest (laid_rest ls es w a y s rest l))

  -- what a fall into these states touches
  falls_same : (m a y : ℕ) (g : StateList) → Laid ls es w a y g → states_faults ls.names le means g ≡ []
      → fall_touches ds g n ≡ (is_dynamic w x && (among (group_of ls es m y g) x || group_assigns (group_of ls es m y g) x))
  unfolding fall_touches
  falls_same m a y g l f = or_and (is_dynamic w x) _ _ _ _ (child_same m a y g l) (states_same m y g f)

-- tables and rows

row_is : (es : List Entity) (f : ℕ → Bool) (g : List ℕ → Bool) → ((x : ℕ) → x < length es → f x ≡ g (name_at es x)) → table (length es) f ≡ row_of es g
row_is [] f g h = refl
row_is (e ∷ es) f g h =
    table_front (length es) f ∙ ap (λ (b : Bool). b ∷ table (length es) (λ x. f (suc x))) (h 0 (omega arith))
    ∙ ap (λ (l : List Bool). g e.name.name ∷ l) (row_is es (λ x. f (suc x)) g (λ x l. h (suc x) (omega arith)))

module _ (ls : Levels) (le : ℕ → ℕ → Bool) (ds : List Decl) (es : List Entity) (w : World) (k : Known es) (kinds : Kinds es w) (size : root w ≡ length es)
    (same : (x : ℕ) → x < length es → (y : ℕ) (name : List ℕ) → IsNamed es y name → bytes_eq name (name_at es x) ≡ nat_eq x y)
    (store : (x : ℕ) → x < length es → (is_register w x || is_memory w x) ≡ true → is_dynamic_store ds (name_at es x) ≡ is_dynamic w x) where
  abbrev what : List ℕ → Option Declared
  what = what_is es

  tabled : (f : ℕ → Bool) (g : List ℕ → Bool) → ((x : ℕ) → x < length es → g (name_at es x) ≡ f x) → table (root w) f ≡ row_of es g
  tabled f g h = ap (λ (m : ℕ). table m f) size ∙ row_is es f g (λ x l. sym (h x l))

  pointed : List points.Point → List (List Bool)
  pointed ps = map (point_row ds es) ps

  parts : {A : Type 0} (f : A → List Bool) (p q : List A) (a b : List (List Bool)) → a ≡ map f p → b ≡ map f q → (a ++ b) ≡ map f (p ++ q)
  parts f p q a b h i = ap (λ (l : List (List Bool)). l ++ b) h ∙ ap (λ (l : List (List Bool)). map f p ++ l) i ∙ sym (map-append f p q)

  module _ (home : tree.Home) (s parent : ℕ) (g : Group)
      (own : (x : ℕ) → x < length es → (tree.is_dynamic_kind home.kind && bytes_eq home.name (name_at es x)) ≡ (is_dynamic w x && nat_eq x s))
      (falls : (x : ℕ) → x < length es → fall_touches ds home.children (name_at es x) ≡ (is_dynamic w x && (among g x || group_assigns g x))) where
    abbrev here : Surroundings
    here = record { entities = es; home = home }

    abbrev at : Home
    at = record { state = s; parent = parent; children = g }

    -- of commands of this body
    abbrev command_at : Command → List Bool
    command_at c = row_of es (tree.touches ds home c)

    told_rows : List Command → List (List Bool)
    told_rows cs = map command_at cs

    command_row : (m : ℕ) (c : Command) → command_faults ls.names what c ≡ []
        → table (root w) (touches w at (command_of ls here m c)) ≡ row_of es (tree.touches ds home c)
    command_row m c f =
        tabled (touches w at (command_of ls here m c)) (tree.touches ds home c)
        (λ x l. command_touched ls le ds es w k kinds x (same x l) (store x l) home s g (own x l) (falls x l) m c f)

    simple_rows : (m : ℕ) (c : SimpleCommand) → simple_faults ls.names what c ≡ []
        → rows (filled w at (command_of ls here m (lone c))) ≡ told_rows (points.simple_points c)
    unfolding told_rows
    simple_rows m (fall_to_child place) f = ap (λ (l : List Bool). l ∷ []) (command_row m (lone (fall_to_child place)) f)
    simple_rows m _ f = refl

    mutual
      unfolding told_rows

      command_rows : (m : ℕ) (c : Command) → command_faults ls.names what c ≡ []
          → rows (filled w at (command_of ls here m c)) ≡ told_rows (points.command_points c)
      command_rows m (lone c) f = simple_rows m c f
      command_rows m (try c place handler) f =
          let p = none_two (simple_faults ls.names what c) (block_faults ls.names what handler) f in
          parts command_at (points.simple_points c) (try c place handler ∷ points.block_points handler) _ _ (simple_rows m c p.0)
          (ap (λ (l : List Bool). l ∷ block_rows (filled_block w at (block_of ls here (m + length (simple_sites here c)) handler))) (command_row m (try c place handler) f)
          ∙ ap (λ (l : List (List Bool)). row_of es (tree.touches ds home (try c place handler)) ∷ l) (body_rows (m + length (simple_sites here c)) handler p.1))
      command_rows m (if_else place condition one other) f =
          let p = none_three (expression_faults what condition (Some 1)) (block_faults ls.names what one) (else_faults ls.names what other) f in
          let c = if_else place condition one other in
          ap (λ (l : List Bool). l ∷ (block_rows (filled_block w at (block_of ls here m one))
          ++ block_rows (filled_block w at (else_of ls here (m + length (block_sites here one)) other)))) (command_row m c f)
          ∙ ap (λ (l : List (List Bool)). row_of es (tree.touches ds home c) ∷ l)
          (parts command_at (points.block_points one) (points.else_points other) _ _ (body_rows m one p.1) (else_rows (m + length (block_sites here one)) other p.2))
      command_rows m (try_then c place one other) f =
          let p = none_three (simple_faults ls.names what c) (block_faults ls.names what one) (block_faults ls.names what other) f in
          let i = m + length (simple_sites here c) in
          let j = i + length (block_sites here one) in
          let d = try_then c place one other in
          parts command_at (points.simple_points c) (d ∷ (points.block_points one ++ points.block_points other)) _ _ (simple_rows m c p.0)
          (ap (λ (l : List Bool). l ∷ (block_rows (filled_block w at (block_of ls here i one)) ++ block_rows (filled_block w at (block_of ls here j other)))) (command_row m d f)
          ∙ ap (λ (l : List (List Bool)). row_of es (tree.touches ds home d) ∷ l)
          (parts command_at (points.block_points one) (points.block_points other) _ _ (body_rows i one p.1) (body_rows j other p.2)))
      command_rows m (case_of place e arms) f =
          let p = none_two (expression_faults what e None) (arms_faults ls.names what (own_of what e) arms) f in
          let c = case_of place e arms in
          ap (λ (l : List Bool). l ∷ arms_rows (filled_arms w at (arms_of ls here m arms))) (command_row m c f)
          ∙ ap (λ (l : List (List Bool)). row_of es (tree.touches ds home c) ∷ l) (all_rows m (own_of what e) arms p.1)

      all_rows : (m : ℕ) (asked : Option ℕ) (arms : Arms) → arms_faults ls.names what asked arms ≡ []
          → arms_rows (filled_arms w at (arms_of ls here m arms)) ≡ told_rows (points.arms_points arms)
      all_rows m asked (last_arm b) f = body_rows m b f
      all_rows m asked (and_arm constants b arms) f =
          let p = none_three (constants_faults what asked constants) (block_faults ls.names what b) (arms_faults ls.names what asked arms) f in
          parts command_at (points.block_points b) (points.arms_points arms) _ _ (body_rows m b p.1) (all_rows (m + length (block_sites here b)) asked arms p.2)

      body_rows : (m : ℕ) (b : CommandBlock) → block_faults ls.names what b ≡ []
          → block_rows (filled_block w at (block_of ls here m b)) ≡ told_rows (points.block_points b)
      body_rows m (command_block cs after) f = list_rows m cs f

      else_rows : (m : ℕ) (b : ElseBlock) → else_faults ls.names what b ≡ []
          → block_rows (filled_block w at (else_of ls here m b)) ≡ told_rows (points.else_points b)
      else_rows m no_else f = refl
      else_rows m (with_else b) f = body_rows m b f

      list_rows : (m : ℕ) (cs : CommandList) → commands_faults ls.names what cs ≡ []
          → block_rows (filled_block w at (list_of ls here m cs)) ≡ told_rows (points.list_points cs)
      list_rows m no_command f = refl
      list_rows m (and_command c cs) f =
          let p = none_two (command_faults ls.names what c) (commands_faults ls.names what cs) f in
          parts command_at (points.command_points c) (points.list_points cs) _ _ (command_rows m c p.0) (list_rows (m + length (command_sites here c)) cs p.1)

  mutual
    unfolding pointed told_rows

    tree_rows : (parent m a y : ℕ) (s : StateTree) → LaidState ls es w a y s → state_faults ls.names le what s ≡ []
        → state_rows (filled_state w parent (state_of ls es m y s)) ≡ pointed (points.state_points s)
    tree_rows parent m a y (state_node place name kind body children) l f =
        let p = none_three (kind_faults ls.names le kind) (block_faults ls.names what body) (states_faults ls.names le what children) f in
        let home = tree.home_of (state_node place name kind body children) in
        let h : Surroundings = record { entities = es; home = home } in
        let i = m + length (block_sites h body) in
        let below = laid_below ls es w a y place name kind body children l in
        let at = points.point home in
        parts (point_row ds es) (map at (points.block_points body)) (points.states_points children) _ _
        (body_rows home y parent (group_of ls es i (y + 1) children)
        (λ x z. own_same ls le ds es w k kinds x (same x z) (store x z) a y place name kind body children l)
        (λ x z. falls_same ls le ds es w k kinds x (same x z) (store x z) i 0 (y + 1) children below p.2) m body p.1
        ∙ sym (map-map (point_row ds es) at (points.block_points body)))
        (trees_rows y i 0 (y + 1) children below p.2)

    trees_rows : (parent m a y : ℕ) (g : StateList) → Laid ls es w a y g → states_faults ls.names le what g ≡ []
        → group_rows (filled_group w parent (group_of ls es m y g)) ≡ pointed (points.states_points g)
    trees_rows parent m a y no_state l f = refl
    trees_rows parent m a y (and_state s rest) l f =
        let p = none_two (state_faults ls.names le what s) (states_faults ls.names le what rest) f in
        parts (point_row ds es) (points.state_points s) (points.states_points rest) _ _ (tree_rows parent m a y s (laid_first ls es w a y s rest l) p.0)
        (trees_rows parent (m + length (state_sites es s)) (suc a) (y + states_in s) rest (laid_rest ls es w a y s rest l) p.1)

-- a name and a number are those of one entity, or neither
name_same : (es : List Entity) → twice [] es ≡ [] → (x : ℕ) → x < length es → (y : ℕ) (name : List ℕ) → IsNamed es y name → bytes_eq name (name_at es x) ≡ nat_eq x y
name_same es once x l y name i = decided (bytes_eq name (name_at es x)) refl where
  its : (y < length es) × (name_at es y ≡ name)
  its = named_of es y name i

  decided : (b : Bool) → bytes_eq name (name_at es x) ≡ b → b ≡ nat_eq x y
  decided true t =
      let e : x ≡ y = sym (unique es once x l) ∙ ap (λ (z : List ℕ). entity_number es z) (sym (equal_of_bytes_eq name (name_at es x) t) ∙ sym its.1) ∙ unique es once y its.0 in
      sym (ap (λ (z : ℕ). nat_eq z y) e ∙ test_of_same y)
  decided false t =
      sym (false_from_ne_true (nat_eq x y) (λ u.
      let e : name_at es x ≡ name = ap (λ (z : ℕ). name_at es z) (eqb-true x y u) ∙ its.1 in
      absurd (cc (sym t ∙ ap (λ (z : List ℕ). bytes_eq name z) e ∙ bytes_eq_same name))))

pub hangs_agree_law : HangsAgree
unfolding pointed
hangs_agree_law ls d none =
    let le = (order_of ls).le in
    let es = entities_of d in
    let w = world_of ls d in
    let f = none_three (twice [] es) (declarations_faults ls.names le d.declarations) (states_faults ls.names le (what_is es) d.states) none in
    let k = known_names ls d in
    let kinds = kinds_of ls d in
    let size = entities_length ls d in
    let same : (x : ℕ) → x < length es → (y : ℕ) (name : List ℕ) → IsNamed es y name → bytes_eq name (name_at es x) ≡ nat_eq x y = name_same es f.0 in
    let store : (x : ℕ) → x < length es → (is_register w x || is_memory w x) ≡ true → is_dynamic_store d.declarations (name_at es x) ≡ is_dynamic w x = store_same ls d f.0 in (
      trees_rows ls le d.declarations es w k kinds size same store (root w) 1 0 (length d.declarations) d.states (laid ls d) f.2,
      tabled ls le d.declarations es w k kinds size same store _ (root_touches d)
          (λ x l. falls_same ls le d.declarations es w k kinds x (same x l) (store x l) 1 0 (length d.declarations) d.states (laid ls d) f.2),
    )
