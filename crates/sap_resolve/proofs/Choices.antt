-- The sites and points of the parts of a command.
use Rattle.std.proofs.Common.{◌≡◌, ℕ, ◌+◌, ◌<◌, Bool, List, ◌++◌, Option, Some, None, ap, sym, ◌∙◌, arith, length, length-append}
use Rattle.sap_text.specs.declared.place.Place.{Place}
use Rattle.sap_tree.specs.declared.syntax.Arm.{Arm}
use Rattle.sap_tree.specs.declared.syntax.Block.{Block}
use Rattle.sap_tree.specs.declared.syntax.Cmd.{Cmd}
use Rattle.sap_tree.specs.Syntax as tree
use Rattle.sap_tree.specs.Trees as trees
use Rattle.sap_lattice.specs.Levels.{Levels}
use Rattle.sap_resolved.specs.Resolve as resolve
use Rattle.sap_shape.specs.Sites as sites
use Rattle.sap_shape.specs.Sites.{Surroundings}
use Rattle.sap_resolved.specs.Terms.{term_of}
use Rattle.sap_maps.specs.Term.{Term}
use Rattle.sap_meaning.specs.Program.{Arms, Block as Block', end_block}
use Rattle.sap_meaning.specs.Program as program
use Rattle.sap_resolve.specs.Lists.{list_from, list_site_count, arms_from, arms_site_count}
use Rattle.sap_resolve.specs.Rows.{Rows, step_points, block_points, arms_points, command_points, step_with, block_with, arms_with, command_with}
use Rattle.sap_resolve.proofs.Arms.{arms_site_count-of, arms_from-of, arms_points-from}

-- how many sites a command has, by its parts
module _ (h : Surroundings) where
  try_count : (s : tree.SimpleCommand) (place : Place) (b : Block)
      → length (sites.command_sites h (tree.try s place (trees.block_of b))) ≡ length (sites.simple_sites h s) + list_site_count h b.commands.items
  unfolding list_site_count
  try_count s place b = length-append (sites.simple_sites h s) (sites.block_sites h (trees.block_of b))

  if_count : (place : Place) (x : tree.Expression) (one : Block) (other : tree.ElseBlock)
      → length (sites.command_sites h (tree.if_else place x (trees.block_of one) other)) ≡ list_site_count h one.commands.items + length (sites.else_sites h other)
  unfolding list_site_count
  if_count place x one other = length-append (sites.block_sites h (trees.block_of one)) (sites.else_sites h other)

  then_count : (s : tree.SimpleCommand) (place : Place) (a b : Block)
      → length (sites.command_sites h (tree.try_then s place (trees.block_of a) (trees.block_of b)))
      ≡ length (sites.simple_sites h s) + (list_site_count h a.commands.items + list_site_count h b.commands.items)
  unfolding list_site_count
  then_count s place a b =
      let i = length-append (sites.simple_sites h s) (sites.block_sites h (trees.block_of a) ++ sites.block_sites h (trees.block_of b)) in
      let j = length-append (sites.block_sites h (trees.block_of a)) (sites.block_sites h (trees.block_of b)) in omega (arith, i, j)

module _ (ls : Levels) (h : Surroundings) (k p limit : ℕ) (t : tree.Command) (few_sites : k + length (sites.command_sites h t) < limit)
    (few_points : p + command_points (resolve.command_of ls h k t) < limit) where
  -- a command with a handler: the command itself, the `otherwise` and the handler
  module _ (s : tree.SimpleCommand) (place : Place) (b : Block) (is : t ≡ tree.try s place (trees.block_of b)) where
    pub try_sites : (seen : List Cmd) (j : ℕ) → seen ≡ b.commands.items → j ≡ k + length (sites.simple_sites h s) → j + list_site_count h seen < limit
    unfolding list_site_count
    try_sites seen j same g =
        (let e = ap (λ (c : tree.Command). k + length (sites.command_sites h c)) is in
        let f = ap (λ (l : List Cmd). list_site_count h l) same in omega (arith, e, f, g, try_count h s place b, few_sites))

    pub try_points : (seen : List Cmd) (j q w site : ℕ) → seen ≡ b.commands.items → j ≡ k + length (sites.simple_sites h s) → site ≡ resolve.site_number h k s
        → q ≡ p + step_points (resolve.step_of ls h site s) → w ≡ q + 1 → w + block_points (list_from ls h j seen) < limit
    unfolding list_from
    try_points seen j q w site same g i u v =
        (let e = ap (λ (c : tree.Command). p + command_points (resolve.command_of ls h k c)) is in
        let a = ap (λ (n : ℕ). p + step_points (resolve.step_of ls h n s)) i in
        let f = ap (λ (l : List Cmd). block_points (list_from ls h j l)) same ∙ ap (λ (n : ℕ). block_points (list_from ls h n b.commands.items)) g in
        omega (arith, e, a, f, u, v, few_points))

  -- an `if` with its two blocks
  module _ (place : Place) (x : tree.Expression) (one : Block) (other : tree.ElseBlock) (is : t ≡ tree.if_else place x (trees.block_of one) other) where
    pub if_sites : (seen : List Cmd) → seen ≡ one.commands.items → k + list_site_count h seen < limit
    unfolding list_site_count
    if_sites seen same =
        (let e = ap (λ (c : tree.Command). k + length (sites.command_sites h c)) is in
        let f = ap (λ (l : List Cmd). list_site_count h l) same in omega (arith, e, f, if_count h place x one other, few_sites))

    pub if_points : (seen : List Cmd) (q : ℕ) → seen ≡ one.commands.items → q ≡ p + 1 → q + block_points (list_from ls h k seen) < limit
    unfolding list_from
    if_points seen q same u =
        (let e = ap (λ (c : tree.Command). p + command_points (resolve.command_of ls h k c)) is in
        let f = ap (λ (l : List Cmd). block_points (list_from ls h k l)) same in omega (arith, e, f, u, few_points))

    pub else_sites : (seen : List Cmd) (j : ℕ) → seen ≡ one.commands.items → j ≡ k + list_site_count h seen → j + length (sites.else_sites h other) < limit
    unfolding list_site_count
    else_sites seen j same g =
        (let e = ap (λ (c : tree.Command). k + length (sites.command_sites h c)) is in
        let f = ap (λ (l : List Cmd). list_site_count h l) same in omega (arith, e, f, g, if_count h place x one other, few_sites))

    pub else_points : (seen : List Cmd) (j q w : ℕ) → seen ≡ one.commands.items → j ≡ k + list_site_count h seen → q ≡ p + 1 → w ≡ q + block_points (list_from ls h k seen)
        → w + block_points (resolve.else_of ls h j other) < limit
    unfolding list_from list_site_count
    else_points seen j q w same g u v =
        (let e = ap (λ (c : tree.Command). p + command_points (resolve.command_of ls h k c)) is in
        let f = ap (λ (l : List Cmd). block_points (list_from ls h k l)) same in
        let i = ap (λ (n : ℕ). block_points (resolve.else_of ls h n other)) (g ∙ ap (λ (l : List Cmd). k + list_site_count h l) same) in
        omega (arith, e, f, i, u, v, few_points))

  -- a command with what follows it where it is accepted and where it is refused
  module _ (s : tree.SimpleCommand) (place : Place) (a b : Block) (is : t ≡ tree.try_then s place (trees.block_of a) (trees.block_of b)) where
    pub accepted_sites : (seen : List Cmd) (j : ℕ) → seen ≡ a.commands.items → j ≡ k + length (sites.simple_sites h s) → j + list_site_count h seen < limit
    unfolding list_site_count
    accepted_sites seen j same g =
        (let e = ap (λ (c : tree.Command). k + length (sites.command_sites h c)) is in
        let f = ap (λ (l : List Cmd). list_site_count h l) same in omega (arith, e, f, g, then_count h s place a b, few_sites))

    pub accepted_points : (seen : List Cmd) (j q w site : ℕ) → seen ≡ a.commands.items → j ≡ k + length (sites.simple_sites h s) → site ≡ resolve.site_number h k s
        → q ≡ p + step_points (resolve.step_of ls h site s) → w ≡ q + 1 → w + block_points (list_from ls h j seen) < limit
    unfolding list_from
    accepted_points seen j q w site same g i u v =
        (let e = ap (λ (c : tree.Command). p + command_points (resolve.command_of ls h k c)) is in
        let d = ap (λ (n : ℕ). p + step_points (resolve.step_of ls h n s)) i in
        let f = ap (λ (l : List Cmd). block_points (list_from ls h j l)) same ∙ ap (λ (n : ℕ). block_points (list_from ls h n a.commands.items)) g in
        omega (arith, e, d, f, u, v, few_points))

    pub refused_sites : (seen after : List Cmd) (j i : ℕ) → seen ≡ a.commands.items → after ≡ b.commands.items
        → j ≡ k + length (sites.simple_sites h s) → i ≡ j + list_site_count h seen
        → i + list_site_count h after < limit
    unfolding list_site_count
    refused_sites seen after j i same last g f =
        (let e = ap (λ (c : tree.Command). k + length (sites.command_sites h c)) is in
        let u = ap (λ (l : List Cmd). list_site_count h l) same in
        let v = ap (λ (l : List Cmd). list_site_count h l) last in omega (arith, e, f, g, u, v, then_count h s place a b, few_sites))

    pub refused_points : (seen after : List Cmd) (j i q w u site : ℕ) → seen ≡ a.commands.items → after ≡ b.commands.items
        → j ≡ k + length (sites.simple_sites h s) → i ≡ j + list_site_count h seen
        → site ≡ resolve.site_number h k s → q ≡ p + step_points (resolve.step_of ls h site s) → w ≡ q + 1 → u ≡ w + block_points (list_from ls h j seen)
        → u + block_points (list_from ls h i after) < limit
    unfolding list_from list_site_count
    refused_points seen after j i q w u site same last g f x y z v =
        (let e = ap (λ (c : tree.Command). p + command_points (resolve.command_of ls h k c)) is in
        let d = ap (λ (n : ℕ). p + step_points (resolve.step_of ls h n s)) x in
        let m = ap (λ (l : List Cmd). block_points (list_from ls h j l)) same ∙ ap (λ (n : ℕ). block_points (list_from ls h n a.commands.items)) g in
        let o = ap (λ (l : List Cmd). block_points (list_from ls h i l)) last
        ∙ ap (λ (n : ℕ). block_points (list_from ls h n b.commands.items)) (f ∙ ap (λ (n : ℕ). n + list_site_count h seen) g
        ∙ ap (λ (l : List Cmd). k + length (sites.simple_sites h s) + list_site_count h l) same) in
        omega (arith, e, d, m, o, y, z, v, few_points))

  -- a `case` with its arms and its last block
  module _ (place : Place) (x : tree.Expression) (arms : List Arm) (last : Block) (is : t ≡ tree.case_of place x (trees.arms_of arms (trees.block_of last))) where
    sites_in : k + (arms_site_count h arms + list_site_count h last.commands.items) < limit
    sites_in = (let e = ap (λ (c : tree.Command). k + length (sites.command_sites h c)) is in let f = arms_site_count-of ls h arms last in omega (arith, e, f, few_sites))

    points_in : p + (1 + (arms_points (arms_from ls h k arms end_block) + block_points (list_from ls h (k + arms_site_count h arms) last.commands.items))) < limit
    points_in =
        (let e = ap (λ (c : tree.Command). p + command_points (resolve.command_of ls h k c)) is in
        let f = ap (λ (a : Arms). arms_points a) (arms_from-of ls h k arms last) in
        let g = arms_points-from ls h k arms (list_from ls h (k + arms_site_count h arms) last.commands.items) in omega (arith, e, f, g, few_points))

    pub case_sites : (seen : List Arm) → seen ≡ arms → k + arms_site_count h seen < limit
    case_sites seen same = (let e = ap (arms_site_count h) same in let a = sites_in in omega (arith, e, a))

    pub case_points : (seen : List Arm) (q : ℕ) → seen ≡ arms → q ≡ p + 1 → q + arms_points (arms_from ls h k seen end_block) < limit
    case_points seen q same u = (let e = ap (λ (l : List Arm). arms_points (arms_from ls h k l end_block)) same in let a = points_in in omega (arith, e, a, u))

    pub last_sites : (seen : List Arm) (after : List Cmd) (j : ℕ) → seen ≡ arms → after ≡ last.commands.items → j ≡ k + arms_site_count h seen → j + list_site_count h after < limit
    last_sites seen after j same end g =
        (let e = ap (arms_site_count h) same in let f = ap (list_site_count h) end in let a = sites_in in omega (arith, e, f, g, a))

    pub last_points : (seen : List Arm) (after : List Cmd) (j q w : ℕ) → seen ≡ arms → after ≡ last.commands.items → j ≡ k + arms_site_count h seen → q ≡ p + 1
        → w ≡ q + arms_points (arms_from ls h k seen end_block) → w + block_points (list_from ls h j after) < limit
    last_points seen after j q w same end g u v =
        (let e = ap (λ (l : List Arm). arms_points (arms_from ls h k l end_block)) same in
        let f = ap (λ (l : List Cmd). block_points (list_from ls h j l)) end
        ∙ ap (λ (n : ℕ). block_points (list_from ls h n last.commands.items)) (g ∙ ap (λ (l : List Arm). k + arms_site_count h l) same) in
        let a = points_in in omega (arith, e, f, u, v, a))

-- a `case` as it is made
pub case_made : (ls : Levels) (h : Surroundings) (k p : ℕ) (r : Rows) (t : tree.Command) (place : Place) (x : tree.Expression) (arms : List Arm) (last : Block)
    → t ≡ tree.case_of place x (trees.arms_of arms (trees.block_of last)) → (seen : List Arm) (after : List Cmd) (j q w : ℕ) → seen ≡ arms → after ≡ last.commands.items
    → j ≡ k + arms_site_count h seen → q ≡ p + 1 → (hang : List Bool) (e : Term ℕ) (made : Block' → Arms) (end : Block') → hang ≡ r p → e ≡ term_of h.entities x None
    → ((b : Block') → made (block_with r w b) ≡ arms_with r q (arms_from ls h k seen b)) → end ≡ block_with r w (list_from ls h j after)
    → program.case_of hang e (made end) ≡ command_with r p (resolve.command_of ls h k t)
case_made ls h k p r t place x arms last is seen after j q w same end' g u hang e made end a b c d =
    let tail = list_from ls h (k + arms_site_count h arms) last.commands.items in
    let f : list_from ls h j after ≡ tail =
    ap (list_from ls h j) end' ∙ ap (λ (n : ℕ). list_from ls h n last.commands.items) (g ∙ ap (λ (l : List Arm). k + arms_site_count h l) same) in
    ap (λ (l : List Bool). program.case_of l e (made end)) a
    ∙ ap (λ (y : Term ℕ). program.case_of (r p) y (made end)) b
    ∙ ap (λ (m : Arms). program.case_of (r p) (term_of h.entities x None) m)
    (ap made d ∙ c (list_from ls h j after) ∙ ap (λ (n : ℕ). arms_with r n (arms_from ls h k seen (list_from ls h j after))) u
    ∙ ap (λ (l : List Arm). arms_with r (p + 1) (arms_from ls h k l (list_from ls h j after))) same
    ∙ ap (λ (y : Block'). arms_with r (p + 1) (arms_from ls h k arms y)) f
    ∙ ap (arms_with r (p + 1)) (sym (arms_from-of ls h k arms last)))
    ∙ ap (λ (y : tree.Command). command_with r p (resolve.command_of ls h k y)) (sym is)

-- how many sites and points a `case` has in all
pub case_all_sites : (ls : Levels) (h : Surroundings) (k : ℕ) (t : tree.Command) (place : Place) (x : tree.Expression) (arms : List Arm) (last : Block)
    → t ≡ tree.case_of place x (trees.arms_of arms (trees.block_of last)) → (seen : List Arm) (after : List Cmd) (j i : ℕ) → seen ≡ arms → after ≡ last.commands.items
    → j ≡ k + arms_site_count h seen → i ≡ j + list_site_count h after → i ≡ k + length (sites.command_sites h t)
case_all_sites ls h k t place x arms last is seen after j i same end g f =
    (let e = ap (λ (c : tree.Command). k + length (sites.command_sites h c)) is in
    let a = arms_site_count-of ls h arms last in
    let b = ap (arms_site_count h) same in
    let c = ap (list_site_count h) end in omega (arith, e, a, b, c, f, g))

pub case_all_points : (ls : Levels) (h : Surroundings) (k p : ℕ) (t : tree.Command) (place : Place) (x : tree.Expression) (arms : List Arm) (last : Block)
    → t ≡ tree.case_of place x (trees.arms_of arms (trees.block_of last)) → (seen : List Arm) (after : List Cmd) (j q w u : ℕ) → seen ≡ arms → after ≡ last.commands.items
    → j ≡ k + arms_site_count h seen → q ≡ p + 1 → w ≡ q + arms_points (arms_from ls h k seen end_block) → u ≡ w + block_points (list_from ls h j after)
    → u ≡ p + command_points (resolve.command_of ls h k t)
case_all_points ls h k p t place x arms last is seen after j q w u same end g i v z =
    (let e = ap (λ (c : tree.Command). p + command_points (resolve.command_of ls h k c)) is in
    let a = ap (λ (m : Arms). arms_points m) (arms_from-of ls h k arms last) in
    let b = arms_points-from ls h k arms (list_from ls h (k + arms_site_count h arms) last.commands.items) in
    let c = ap (λ (l : List Arm). arms_points (arms_from ls h k l end_block)) same in
    let d = ap (λ (l : List Cmd). block_points (list_from ls h j l)) end
    ∙ ap (λ (n : ℕ). block_points (list_from ls h n last.commands.items)) (g ∙ ap (λ (l : List Arm). k + arms_site_count h l) same) in
    omega (arith, e, a, b, c, d, i, v, z))

-- a command with `then` as it is made

then_same : (s t : program.Step) (a b : List Bool) (x y u v : Block') → s ≡ t → a ≡ b → x ≡ y → u ≡ v → program.try_then s a x u ≡ program.try_then t b y v
then_same s t a b x y u v h i j k = cc

pub then_made : (ls : Levels) (h : Surroundings) (k p : ℕ) (r : Rows) (t : tree.Command) (s : tree.SimpleCommand) (place : Place) (a b : Block)
    → t ≡ tree.try_then s place (trees.block_of a) (trees.block_of b) → (seen after : List Cmd) (j i q w u site : ℕ) → seen ≡ a.commands.items → after ≡ b.commands.items
    → j ≡ k + length (sites.simple_sites h s) → i ≡ j + list_site_count h seen → site ≡ resolve.site_number h k s → q ≡ p + step_points (resolve.step_of ls h site s) → w ≡ q + 1
    → u ≡ w + block_points (list_from ls h j seen) → (step : program.Step) (hang : List Bool) (one other : Block') → step ≡ step_with r p (resolve.step_of ls h site s)
    → hang ≡ r q → one ≡ block_with r w (list_from ls h j seen) → other ≡ block_with r u (list_from ls h i after)
    → program.try_then step hang one other ≡ command_with r p (resolve.command_of ls h k t)
unfolding list_from list_site_count
then_made ls h k p r t s place a b is seen after j i q w u site same last g f x y z v step hang one other c d e m =
    let first = k + length (sites.simple_sites h s) in
    let point = p + step_points (resolve.step_of ls h (resolve.site_number h k s) s) in
    let accepted = list_from ls h first a.commands.items in
    let to : q ≡ point = y ∙ ap (λ (n : ℕ). p + step_points (resolve.step_of ls h n s)) x in
    let block : list_from ls h j seen ≡ accepted = ap (list_from ls h j) same ∙ ap (λ (n : ℕ). list_from ls h n a.commands.items) g in
    let start : w ≡ point + 1 = z ∙ ap (λ (n : ℕ). n + 1) to in
    let end : u ≡ point + 1 + block_points accepted = v ∙ ap (λ (n : ℕ). n + block_points (list_from ls h j seen)) start ∙ ap (λ (l : Block'). point + 1 + block_points l) block in
    let behind : i ≡ first + list_site_count h a.commands.items = f ∙ ap (λ (n : ℕ). n + list_site_count h seen) g ∙ ap (λ (l : List Cmd). first + list_site_count h l) same in
    let tail : list_from ls h i after ≡ list_from ls h (first + list_site_count h a.commands.items) b.commands.items =
    ap (list_from ls h i) last ∙ ap (λ (n : ℕ). list_from ls h n b.commands.items) behind in
    then_same _ _ _ _ _ _ _ _ (c ∙ ap (λ (n : ℕ). step_with r p (resolve.step_of ls h n s)) x) (d ∙ ap r to)
    (e ∙ ap (λ (n : ℕ). block_with r n (list_from ls h j seen)) start ∙ ap (block_with r (point + 1)) block)
    (m ∙ ap (λ (n : ℕ). block_with r n (list_from ls h i after)) end ∙ ap (block_with r (point + 1 + block_points accepted)) tail)
    ∙ ap (λ (l : tree.Command). command_with r p (resolve.command_of ls h k l)) (sym is)

-- how many sites and points there are with `then`
pub then_all_sites : (h : Surroundings) (k : ℕ) (t : tree.Command) (s : tree.SimpleCommand) (place : Place) (a b : Block)
    → t ≡ tree.try_then s place (trees.block_of a) (trees.block_of b)
    → (seen after : List Cmd) (j i n : ℕ) → seen ≡ a.commands.items → after ≡ b.commands.items → j ≡ k + length (sites.simple_sites h s) → i ≡ j + list_site_count h seen
    → n ≡ i + list_site_count h after → n ≡ k + length (sites.command_sites h t)
unfolding list_site_count
then_all_sites h k t s place a b is seen after j i n same last g f m =
    (let e = ap (λ (c : tree.Command). k + length (sites.command_sites h c)) is in
    let u = ap (λ (l : List Cmd). list_site_count h l) same in
    let v = ap (λ (l : List Cmd). list_site_count h l) last in omega (arith, e, f, g, u, v, m, then_count h s place a b))

pub then_all_points : (ls : Levels) (h : Surroundings) (k p : ℕ) (t : tree.Command) (s : tree.SimpleCommand) (place : Place) (a b : Block)
    → t ≡ tree.try_then s place (trees.block_of a) (trees.block_of b) → (seen after : List Cmd) (j i q w u n site : ℕ) → seen ≡ a.commands.items → after ≡ b.commands.items
    → j ≡ k + length (sites.simple_sites h s) → i ≡ j + list_site_count h seen → site ≡ resolve.site_number h k s → q ≡ p + step_points (resolve.step_of ls h site s) → w ≡ q + 1
    → u ≡ w + block_points (list_from ls h j seen) → n ≡ u + block_points (list_from ls h i after) → n ≡ p + command_points (resolve.command_of ls h k t)
unfolding list_from list_site_count
then_all_points ls h k p t s place a b is seen after j i q w u n site same last g f x y z v r =
    (let e = ap (λ (c : tree.Command). p + command_points (resolve.command_of ls h k c)) is in
    let d = ap (λ (n : ℕ). p + step_points (resolve.step_of ls h n s)) x in
    let m = ap (λ (l : List Cmd). block_points (list_from ls h j l)) same ∙ ap (λ (n : ℕ). block_points (list_from ls h n a.commands.items)) g in
    let o = ap (λ (l : List Cmd). block_points (list_from ls h i l)) last
    ∙ ap (λ (n : ℕ). block_points (list_from ls h n b.commands.items)) (f ∙ ap (λ (n : ℕ). n + list_site_count h seen) g
    ∙ ap (λ (l : List Cmd). k + length (sites.simple_sites h s) + list_site_count h l) same) in
    omega (arith, e, d, m, o, y, z, v, r))

-- an `if` as it is made

if_same : (a b : List Bool) (e f : Term ℕ) (x y u v : Block') → a ≡ b → e ≡ f → x ≡ y → u ≡ v → program.if_else a e x u ≡ program.if_else b f y v
if_same a b e f x y u v h i j k = cc

pub if_made : (ls : Levels) (h : Surroundings) (k p : ℕ) (r : Rows) (t : tree.Command) (place : Place) (x : tree.Expression) (one : Block) (other : tree.ElseBlock)
    → t ≡ tree.if_else place x (trees.block_of one) other → (seen : List Cmd) (j q w : ℕ) → seen ≡ one.commands.items → j ≡ k + list_site_count h seen → q ≡ p + 1
    → w ≡ q + block_points (list_from ls h k seen) → (hang : List Bool) (e : Term ℕ) (m n : Block') → hang ≡ r p → e ≡ term_of h.entities x (Some 1)
    → m ≡ block_with r q (list_from ls h k seen) → n ≡ block_with r w (resolve.else_of ls h j other)
    → program.if_else hang e m n ≡ command_with r p (resolve.command_of ls h k t)
unfolding list_from list_site_count
if_made ls h k p r t place x one other is seen j q w same g u v hang e m n a b c d =
    let first = list_from ls h k one.commands.items in
    let behind : j ≡ k + list_site_count h one.commands.items = g ∙ ap (λ (l : List Cmd). k + list_site_count h l) same in
    let end : w ≡ p + 1 + block_points first = v ∙ ap (λ (n : ℕ). n + block_points (list_from ls h k seen)) u
    ∙ ap (λ (l : List Cmd). p + 1 + block_points (list_from ls h k l)) same in
    if_same _ _ _ _ _ _ _ _ a b (c ∙ ap (λ (n : ℕ). block_with r n (list_from ls h k seen)) u ∙ ap (λ (l : List Cmd). block_with r (p + 1) (list_from ls h k l)) same)
    (d ∙ ap (λ (n : ℕ). block_with r n (resolve.else_of ls h j other)) end ∙ ap (λ (n : ℕ). block_with r (p + 1 + block_points first) (resolve.else_of ls h n other)) behind)
    ∙ ap (λ (l : tree.Command). command_with r p (resolve.command_of ls h k l)) (sym is)

-- how many sites and points it has in all
pub all_sites : (h : Surroundings) (k : ℕ) (t : tree.Command) (place : Place) (x : tree.Expression) (one : Block) (other : tree.ElseBlock)
    → t ≡ tree.if_else place x (trees.block_of one) other
    → (seen : List Cmd) (j i : ℕ) → seen ≡ one.commands.items → j ≡ k + list_site_count h seen → i ≡ j + length (sites.else_sites h other)
    → i ≡ k + length (sites.command_sites h t)
unfolding list_site_count
all_sites h k t place x one other is seen j i same g f =
    (let e = ap (λ (c : tree.Command). k + length (sites.command_sites h c)) is in
    let u = ap (λ (l : List Cmd). list_site_count h l) same in omega (arith, e, f, g, u, if_count h place x one other))

pub all_points : (ls : Levels) (h : Surroundings) (k p : ℕ) (t : tree.Command) (place : Place) (x : tree.Expression) (one : Block) (other : tree.ElseBlock)
    → t ≡ tree.if_else place x (trees.block_of one) other → (seen : List Cmd) (j q w u : ℕ) → seen ≡ one.commands.items → j ≡ k + list_site_count h seen → q ≡ p + 1
    → w ≡ q + block_points (list_from ls h k seen) → u ≡ w + block_points (resolve.else_of ls h j other) → u ≡ p + command_points (resolve.command_of ls h k t)
unfolding list_from list_site_count
all_points ls h k p t place x one other is seen j q w u same g a v z =
    (let e = ap (λ (c : tree.Command). p + command_points (resolve.command_of ls h k c)) is in
    let f = ap (λ (l : List Cmd). block_points (list_from ls h k l)) same in
    let i = ap (λ (n : ℕ). block_points (resolve.else_of ls h n other)) (g ∙ ap (λ (l : List Cmd). k + list_site_count h l) same) in
    omega (arith, e, f, i, a, v, z))

-- a written `else`
pub some_sites : (h : Surroundings) (k limit : ℕ) (other : Option Block) (b : Block) (seen : List Cmd) → other ≡ Some b → seen ≡ b.commands.items
    → k + length (sites.else_sites h (trees.else_of other)) < limit → k + list_site_count h seen < limit
unfolding list_site_count
some_sites h k limit other b seen is same l =
    (let e = ap (λ (o : Option Block). length (sites.else_sites h (trees.else_of o))) is in let f = ap (λ (l : List Cmd). list_site_count h l) same in omega (arith, e, f, l))

pub some_points : (ls : Levels) (h : Surroundings) (k p limit : ℕ) (other : Option Block) (b : Block) (seen : List Cmd) → other ≡ Some b → seen ≡ b.commands.items
    → p + block_points (resolve.else_of ls h k (trees.else_of other)) < limit → p + block_points (list_from ls h k seen) < limit
unfolding list_from
some_points ls h k p limit other b seen is same l =
    (let e = ap (λ (o : Option Block). block_points (resolve.else_of ls h k (trees.else_of o))) is in
    let f = ap (λ (l : List Cmd). block_points (list_from ls h k l)) same in omega (arith, e, f, l))
