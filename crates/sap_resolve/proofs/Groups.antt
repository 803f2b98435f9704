-- The states and the sites of groups in code, from a place on.
use Rattle.sap_lemmas.proofs.Common.{◌≡◌, ℕ, ◌+◌, ◌<◌, ◌≤◌, List, [], ◌∷◌, ◌++◌, length, get_or, drop, refl, sym, ap, ap₂, ◌∙◌, arith, length-append, drop_past}
use Rattle.sap_tree.specs.Prelude.{tree_of, StateTree, states_of}
use Rattle.sap_tree.specs.declared.syntax.Cmd.{Cmd}
use Rattle.sap_tree.specs.declared.syntax.Decl.{Decl}
use Rattle.sap_tree.specs.declared.syntax.State.{State, out-State}
use Rattle.sap_tree.specs.declared.version.Version.{Version}
use Rattle.sap_names.specs.Entities.{entities_of}
use Rattle.sap_names.specs.declared.entity.Entity.{Entity}
use Rattle.sap_tree.specs.Trees as trees
use Rattle.sap_tree.proofs.Views.{state_of-out}
use Rattle.sap_lattice.specs.Levels.{Levels}
use Rattle.sap_meaning.specs.Program.{no_node, and_node, state_node, Group}
use Rattle.sap_meaning.specs.Program as program
use Rattle.sap_resolved.specs.Resolve as resolve
use Rattle.sap_shape.specs.Sites as sites
use Rattle.sap_shape.specs.Sites.{Surroundings}
use Rattle.sap_resolved.specs.Worlds as worlds
use Rattle.sap_program.specs.declared.program.State as code
use Rattle.sap_program.specs.Views as views
use Rattle.sap_resolve.specs.Lists.{list_from, list_site_count, group_from, group_site_count, states_below}
use Rattle.sap_resolve.specs.Rows.{Rows, block_points, state_points, group_points, state_with, group_with}
use Rattle.sap_resolve.proofs.Lists.{item_drop, add_add}
use Rattle.sap_program.proofs.Shown.{joined-none, joined-push}

-- where a state's body stands
abbrev pub surroundings : List Entity → State → Surroundings
surroundings es s = record { entities = es; home = record { name = (out-State s).name.name; kind = (out-State s).kind; children = states_of (out-State s).children.items } }

module _ (ls : Levels) (es : List Entity) where
  group_from-more : (k x : ℕ) (d : State) (rest : List State)
      → group_from ls es k x (d ∷ rest)
      ≡ and_node (resolve.state_of ls es k x (trees.state_of d))
      (group_from ls es (k + length (sites.state_sites es (trees.state_of d))) (x + worlds.states_in (trees.state_of d)) rest)
  unfolding group_from
  group_from-more k x d rest = refl

  group_from-none : (k x : ℕ) → group_from ls es k x [] ≡ no_node
  unfolding group_from
  group_from-none k x = refl

  group_drop : (ss : List State) (n : ℕ) (d : State) (k j x y : ℕ) → n < length ss → d ≡ get_or ss n d → j ≡ k + length (sites.state_sites es (trees.state_of d))
      → y ≡ x + worlds.states_in (trees.state_of d)
      → group_from ls es k x (drop n ss) ≡ and_node (resolve.state_of ls es k x (trees.state_of d)) (group_from ls es j y (drop (n + 1) ss))
  group_drop ss n d k j x y l e q r =
      ap (group_from ls es k x) (item_drop ss n d l e) ∙ group_from-more k x d (drop (n + 1) ss)
      ∙ ap (λ (i : ℕ). and_node (resolve.state_of ls es k x (trees.state_of d)) (group_from ls es i (x + worlds.states_in (trees.state_of d)) (drop (n + 1) ss))) (sym q)
      ∙ ap (λ (i : ℕ). and_node (resolve.state_of ls es k x (trees.state_of d)) (group_from ls es j i (drop (n + 1) ss))) (sym r)

  -- one state more is made
  pub states_step : (m : ℕ) (rows : Rows) (ss : List State) (n : ℕ) (d : State) (k j x y p u : ℕ) (old new : List code.State) (s : code.State) → n < length ss → d ≡ get_or ss n d
      → new ≡ old ++ s ∷ [] → views.state_of m s ≡ state_with rows p (resolve.state_of ls es k x (trees.state_of d)) → j ≡ k + length (sites.state_sites es (trees.state_of d))
      → y ≡ x + worlds.states_in (trees.state_of d) → u ≡ p + state_points (resolve.state_of ls es k x (trees.state_of d))
      → views.joined (views.group_of m new) (group_with rows u (group_from ls es j y (drop (n + 1) ss)))
      ≡ views.joined (views.group_of m old) (group_with rows p (group_from ls es k x (drop n ss)))
  states_step m rows ss n d k j x y p u old new s l e g v q r w =
      let rest = group_from ls es j y (drop (n + 1) ss) in
      let it = resolve.state_of ls es k x (trees.state_of d) in
      ap (λ (v : List code.State). views.joined (views.group_of m v) (group_with rows u rest)) g
      ∙ joined-push m old s (group_with rows u rest)
      ∙ ap (λ (z : program.State). views.joined (views.group_of m old) (and_node z (group_with rows u rest))) v
      ∙ ap (λ (i : ℕ). views.joined (views.group_of m old) (and_node (state_with rows p it) (group_with rows i rest))) w
      ∙ ap (λ (b : Group). views.joined (views.group_of m old) (group_with rows p b)) (sym (group_drop ss n d k j x y l e q r))

  pub states_end : (m : ℕ) (rows : Rows) (ss : List State) (n k x p : ℕ) (made : List code.State) (all : Group) → length ss ≤ n
      → views.joined (views.group_of m made) (group_with rows p (group_from ls es k x (drop n ss))) ≡ all → views.group_of m made ≡ all
  states_end m rows ss n k x p made all l e =
      sym (joined-none (views.group_of m made))
      ∙ ap (λ (b : Group). views.joined (views.group_of m made) (group_with rows p b)) (sym (ap (group_from ls es k x) (drop_past ss n l) ∙ group_from-none k x))
      ∙ e

  pub group_points_step : (ss : List State) (n : ℕ) (d : State) (k j x y p u : ℕ) → n < length ss → d ≡ get_or ss n d → j ≡ k + length (sites.state_sites es (trees.state_of d))
      → y ≡ x + worlds.states_in (trees.state_of d) → u ≡ p + state_points (resolve.state_of ls es k x (trees.state_of d))
      → u + group_points (group_from ls es j y (drop (n + 1) ss)) ≡ p + group_points (group_from ls es k x (drop n ss))
  group_points_step ss n d k j x y p u l e q r w =
      ap (λ (i : ℕ). i + group_points (group_from ls es j y (drop (n + 1) ss))) w
      ∙ add_add p (state_points (resolve.state_of ls es k x (trees.state_of d))) (group_points (group_from ls es j y (drop (n + 1) ss)))
      ∙ ap (λ (b : Group). p + group_points b) (sym (group_drop ss n d k j x y l e q r))

  pub group_points_end : (ss : List State) (n k x p all : ℕ) → length ss ≤ n → p + group_points (group_from ls es k x (drop n ss)) ≡ all → p ≡ all
  group_points_end ss n k x p all l e =
      (let z : group_points (group_from ls es k x (drop n ss)) ≡ 0 =
      ap (λ (b : Group). group_points b) (ap (group_from ls es k x) (drop_past ss n l) ∙ group_from-none k x) in omega (arith, z, e))

  -- the points of one state are among those that are left
  pub group_points_within : (ss : List State) (n : ℕ) (d : State) (k x p all limit : ℕ) → n < length ss → d ≡ get_or ss n d
      → p + group_points (group_from ls es k x (drop n ss)) ≡ all → all < limit → p + state_points (resolve.state_of ls es k x (trees.state_of d)) < limit
  group_points_within ss n d k x p all limit l e i f =
      let g = ap (λ (b : Group). p + group_points b)
      (group_drop ss n d k (k + length (sites.state_sites es (trees.state_of d))) x (x + worlds.states_in (trees.state_of d)) l e refl refl) in
      omega (arith, g, i, f)

  pub state_from : (k x : ℕ) (s : State)
      → resolve.state_of ls es k x (trees.state_of s)
      ≡ state_node x (list_from ls (surroundings es s) k (out-State s).body.commands.items)
      (group_from ls es (k + list_site_count (surroundings es s) (out-State s).body.commands.items) (x + 1) (out-State s).children.items)
  unfolding list_from list_site_count group_from
  state_from k x s = ap (λ (t : StateTree). resolve.state_of ls es k x t) (state_of-out s)

module _ (es : List Entity) where
  group_site_count-more : (d : State) (rest : List State) → group_site_count es (d ∷ rest) ≡ length (sites.state_sites es (trees.state_of d)) + group_site_count es rest
  unfolding group_site_count
  group_site_count-more d rest = length-append (sites.state_sites es (trees.state_of d)) (sites.states_sites es (states_of rest))

  group_site_count-none : group_site_count es [] ≡ 0
  unfolding group_site_count
  group_site_count-none = refl

  pub group_sites_step : (ss : List State) (n : ℕ) (d : State) (k j : ℕ) → n < length ss → d ≡ get_or ss n d → j ≡ k + length (sites.state_sites es (trees.state_of d))
      → j + group_site_count es (drop (n + 1) ss) ≡ k + group_site_count es (drop n ss)
  group_sites_step ss n d k j l e q =
      ap (λ (i : ℕ). i + group_site_count es (drop (n + 1) ss)) q
      ∙ add_add k (length (sites.state_sites es (trees.state_of d))) (group_site_count es (drop (n + 1) ss))
      ∙ ap (λ (i : ℕ). k + i) (sym (ap (group_site_count es) (item_drop ss n d l e) ∙ group_site_count-more d (drop (n + 1) ss)))

  pub group_sites_end : (ss : List State) (n k all : ℕ) → length ss ≤ n → k + group_site_count es (drop n ss) ≡ all → k ≡ all
  group_sites_end ss n k all l e = (let z : group_site_count es (drop n ss) ≡ 0 = ap (group_site_count es) (drop_past ss n l) ∙ group_site_count-none in omega (arith, z, e))

  pub group_sites_within : (ss : List State) (n : ℕ) (d : State) (k all limit : ℕ) → n < length ss → d ≡ get_or ss n d
      → k + group_site_count es (drop n ss) ≡ all → all < limit → k + length (sites.state_sites es (trees.state_of d)) < limit
  group_sites_within ss n d k all limit l e i f =
      let g = ap (λ (x : ℕ). k + x) (ap (group_site_count es) (item_drop ss n d l e) ∙ group_site_count-more d (drop (n + 1) ss)) in omega (arith, g, i, f)

  pub state_sites-is : (s : State)
      → length (sites.state_sites es (trees.state_of s)) ≡ list_site_count (surroundings es s) (out-State s).body.commands.items + group_site_count es (out-State s).children.items
  unfolding list_site_count group_site_count
  state_sites-is s =
      ap (λ (t : StateTree). length (sites.state_sites es t)) (state_of-out s)
      ∙ length-append (sites.list_sites (surroundings es s) (trees.commands_of (out-State s).body.commands.items)) (sites.states_sites es (states_of (out-State s).children.items))

below-more : (d : State) (rest : List State) → states_below (d ∷ rest) ≡ worlds.states_in (trees.state_of d) + states_below rest
unfolding states_below
below-more d rest = refl

below-none : states_below [] ≡ 0
unfolding states_below
below-none = refl

pub below_step : (ss : List State) (n : ℕ) (d : State) (x y : ℕ) → n < length ss → d ≡ get_or ss n d → y ≡ x + worlds.states_in (trees.state_of d)
    → y + states_below (drop (n + 1) ss) ≡ x + states_below (drop n ss)
below_step ss n d x y l e q =
    ap (λ (i : ℕ). i + states_below (drop (n + 1) ss)) q
    ∙ add_add x (worlds.states_in (trees.state_of d)) (states_below (drop (n + 1) ss))
    ∙ ap (λ (i : ℕ). x + i) (sym (ap states_below (item_drop ss n d l e) ∙ below-more d (drop (n + 1) ss)))

pub below_end : (ss : List State) (n x all : ℕ) → length ss ≤ n → x + states_below (drop n ss) ≡ all → x ≡ all
below_end ss n x all l e = (let z : states_below (drop n ss) ≡ 0 = ap states_below (drop_past ss n l) ∙ below-none in omega (arith, z, e))

pub below_within : (ss : List State) (n : ℕ) (d : State) (x all limit : ℕ) → n < length ss → d ≡ get_or ss n d
    → x + states_below (drop n ss) ≡ all → all < limit → x + worlds.states_in (trees.state_of d) < limit
below_within ss n d x all limit l e i f =
    let g = ap (λ (y : ℕ). x + y) (ap states_below (item_drop ss n d l e) ∙ below-more d (drop (n + 1) ss)) in omega (arith, g, i, f)

pub states_in-is : (s : State) → worlds.states_in (trees.state_of s) ≡ 1 + states_below (out-State s).children.items
unfolding states_below
states_in-is s = ap worlds.states_in (state_of-out s)

pub below_inside : (s : State) (rest : List State) → rest ≡ (out-State s).children.items → worlds.states_in (trees.state_of s) ≡ 1 + states_below rest
below_inside s rest r = states_in-is s ∙ ap (λ (g : List State). 1 + states_below g) (sym r)

-- what is left of a state behind its body, where its parts are as the code sees them

module _ (es : List Entity) (s : State) (first : List State) (first_is : first ≡ (out-State s).children.items) (body : List Cmd)
    (body_is : body ≡ (out-State s).body.commands.items)
    (rest : List State) (rest_is : rest ≡ (out-State s).children.items) (limit : ℕ) where
  abbrev here : Surroundings
  here = record { entities = es; home = record { name = (out-State s).name.name; kind = (out-State s).kind; children = states_of first } }

  here_is : here ≡ surroundings es s
  here_is = ap (λ (l : List State). record { entities = es; home = record { name = (out-State s).name.name; kind = (out-State s).kind; children = states_of l } }) first_is

  body_sites : list_site_count here body ≡ list_site_count (surroundings es s) (out-State s).body.commands.items
  body_sites = ap₂ (λ (h : Surroundings) (l : List Cmd). list_site_count h l) here_is body_is

  pub rest_sites : (k j : ℕ) → j ≡ k + list_site_count here body → k + length (sites.state_sites es (trees.state_of s)) < limit → j + group_site_count es rest < limit
  rest_sites k j e l =
      (let a = state_sites-is es s in let b = body_sites in let d = ap (λ (r : List State). group_site_count es r) rest_is in omega (arith, a, b, d, e, l))

  pub rest_points : (ls : Levels) (k j x p u : ℕ) → j ≡ k + list_site_count here body → u ≡ p + block_points (list_from ls here k body)
      → p + state_points (resolve.state_of ls es k x (trees.state_of s)) < limit → u + group_points (group_from ls es j (x + 1) rest) < limit
  rest_points ls k j x p u e w l =
      (let a = ap (λ (t : program.State). p + state_points t) (state_from ls es k x s) in
      let b = ap₂ (λ (h : Surroundings) (cs : List Cmd). block_points (list_from ls h k cs)) here_is body_is in
      let d = ap₂ (λ (i : ℕ) (r : List State). group_points (group_from ls es i (x + 1) r)) (e ∙ ap (λ (n : ℕ). k + n) body_sites) rest_is in
      omega (arith, a, b, d, w, l))

pub rest_states : (s : State) (rest : List State) → rest ≡ (out-State s).children.items → (limit x : ℕ)
    → x + worlds.states_in (trees.state_of s) < limit → x + 1 + states_below rest < limit
rest_states s rest r limit x l = (let a = states_in-is s in let d = ap (λ (g : List State). states_below g) r in omega (arith, a, d, l))

-- a whole design's states and sites, as the code sees them

pub whole_states : (v : Version) (ls : Levels) (ds : List Decl) (ss : List State) (es : List Entity) (seen : List State) (x : ℕ)
    (rows : Rows) (made : Group) → es ≡ entities_of (tree_of v ds ss) → seen ≡ ss
    → x ≡ length ds → made ≡ group_with rows 1 (group_from ls es 1 x seen) → made ≡ group_with rows 1 (resolve.states_of ls (tree_of v ds ss))
unfolding group_from
whole_states v ls ds ss es seen x rows made a b d h = h ∙ rw (a, b, d) refl

pub whole_sites : (v : Version) (ds : List Decl) (ss : List State) (es : List Entity) (seen : List State) (j count : ℕ) → es ≡ entities_of (tree_of v ds ss) → seen ≡ ss
    → j ≡ 1 + group_site_count es seen → count + 1 ≡ j → count ≡ length (sites.check_sites (tree_of v ds ss))
unfolding group_site_count
whole_sites v ds ss es seen j count a b h k = (let e = ap₂ (λ (x : List Entity) (l : List State). group_site_count x l) a b in omega (arith, e, h, k))

-- a call's clause as that of its caller
pub ruleset states = (state_from, state_sites-is, states_in-is, add_add)
