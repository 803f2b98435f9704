-- The commands and the sites of lists in code, from a place on.
use Rattle.sap_lemmas.proofs.Common.{◌≡◌, ℕ, ◌+◌, ◌<◌, ◌≤◌, List, [], ◌∷◌, ◌++◌, length, get_or, drop, refl, sym, ap, ◌∙◌, arith, Some, length-append, drop_more, drop_past}
use Rattle.sap_tree.specs.declared.syntax.Block.{Block}
use Rattle.sap_tree.specs.declared.syntax.Cmd.{Cmd}
use Rattle.sap_tree.specs.Trees as trees
use Rattle.sap_lattice.specs.Levels.{Levels}
use Rattle.sap_meaning.specs.Program.{end_block, command_then}
use Rattle.sap_meaning.specs.Program as program
use Rattle.sap_resolved.specs.Resolve as resolve
use Rattle.sap_shape.specs.Sites as sites
use Rattle.sap_shape.specs.Sites.{Surroundings}
use Rattle.sap_program.specs.declared.program.Command.{Command}
use Rattle.sap_program.specs.Views as views
use Rattle.sap_resolve.specs.Lists.{list_from, list_site_count}
use Rattle.sap_resolve.specs.Rows.{Rows, command_points, block_points, command_with, block_with}
use Rattle.sap_program.proofs.Shown.{followed-end, followed-push}

pub item_drop : {A : Type 0} (xs : List A) (n : ℕ) (d : A) → n < length xs → d ≡ get_or xs n d → drop n xs ≡ d ∷ drop (n + 1) xs
item_drop {A} xs n d l e = drop_more xs n d l ∙ ap (λ (y : A). y ∷ drop (n + 1) xs) (sym e)

pub add_add : (a b c : ℕ) → a + b + c ≡ a + (b + c)
add_add a b c = omega arith

module _ (ls : Levels) (h : Surroundings) where
  list_from-more : (k : ℕ) (d : Cmd) (rest : List Cmd)
      → list_from ls h k (d ∷ rest) ≡ command_then (resolve.command_of ls h k (trees.command_of d)) (list_from ls h (k + length (sites.command_sites h (trees.command_of d))) rest)
  unfolding list_from
  list_from-more k d rest = refl

  pub list_from-none : (k : ℕ) → list_from ls h k [] ≡ end_block
  unfolding list_from
  list_from-none k = refl

  list_drop : (cs : List Cmd) (n : ℕ) (d : Cmd) (k j : ℕ) → n < length cs → d ≡ get_or cs n d → j ≡ k + length (sites.command_sites h (trees.command_of d))
      → list_from ls h k (drop n cs) ≡ command_then (resolve.command_of ls h k (trees.command_of d)) (list_from ls h j (drop (n + 1) cs))
  list_drop cs n d k j l e q =
      ap (list_from ls h k) (item_drop cs n d l e) ∙ list_from-more k d (drop (n + 1) cs)
      ∙ ap (λ (i : ℕ). command_then (resolve.command_of ls h k (trees.command_of d)) (list_from ls h i (drop (n + 1) cs))) (sym q)

  -- one command more is made
  pub commands_step : (m : ℕ) (r : Rows) (cs : List Cmd) (n : ℕ) (d : Cmd) (k j p u : ℕ) (old new : List Command) (c : Command) → n < length cs → d ≡ get_or cs n d
      → new ≡ old ++ c ∷ [] → views.command_of m c ≡ command_with r p (resolve.command_of ls h k (trees.command_of d)) → j ≡ k + length (sites.command_sites h (trees.command_of d))
      → u ≡ p + command_points (resolve.command_of ls h k (trees.command_of d))
      → views.followed (views.block_of m new) (block_with r u (list_from ls h j (drop (n + 1) cs)))
      ≡ views.followed (views.block_of m old) (block_with r p (list_from ls h k (drop n cs)))
  commands_step m r cs n d k j p u old new c l e g v q w =
      let rest = list_from ls h j (drop (n + 1) cs) in
      let it = resolve.command_of ls h k (trees.command_of d) in
      ap (λ (v : List Command). views.followed (views.block_of m v) (block_with r u rest)) g
      ∙ followed-push m old c (block_with r u rest)
      ∙ ap (λ (x : program.Command). views.followed (views.block_of m old) (command_then x (block_with r u rest))) v
      ∙ ap (λ (i : ℕ). views.followed (views.block_of m old) (command_then (command_with r p it) (block_with r i rest))) w
      ∙ ap (λ (b : program.Block). views.followed (views.block_of m old) (block_with r p b)) (sym (list_drop cs n d k j l e q))

  pub commands_end : (m : ℕ) (r : Rows) (cs : List Cmd) (n k p : ℕ) (made : List Command) (all : program.Block) → length cs ≤ n
      → views.followed (views.block_of m made) (block_with r p (list_from ls h k (drop n cs))) ≡ all → views.block_of m made ≡ all
  commands_end m r cs n k p made all l e =
      sym (followed-end (views.block_of m made))
      ∙ ap (λ (b : program.Block). views.followed (views.block_of m made) (block_with r p b)) (sym (ap (list_from ls h k) (drop_past cs n l) ∙ list_from-none k))
      ∙ e

  pub points_step : (cs : List Cmd) (n : ℕ) (d : Cmd) (k j p u : ℕ) → n < length cs → d ≡ get_or cs n d → j ≡ k + length (sites.command_sites h (trees.command_of d))
      → u ≡ p + command_points (resolve.command_of ls h k (trees.command_of d))
      → u + block_points (list_from ls h j (drop (n + 1) cs)) ≡ p + block_points (list_from ls h k (drop n cs))
  points_step cs n d k j p u l e q w =
      ap (λ (i : ℕ). i + block_points (list_from ls h j (drop (n + 1) cs))) w
      ∙ add_add p (command_points (resolve.command_of ls h k (trees.command_of d))) (block_points (list_from ls h j (drop (n + 1) cs)))
      ∙ ap (λ (b : program.Block). p + block_points b) (sym (list_drop cs n d k j l e q))

  pub points_end : (cs : List Cmd) (n k p all : ℕ) → length cs ≤ n → p + block_points (list_from ls h k (drop n cs)) ≡ all → p ≡ all
  points_end cs n k p all l e =
      (let z : block_points (list_from ls h k (drop n cs)) ≡ 0 =
      ap (λ (b : program.Block). block_points b) (ap (list_from ls h k) (drop_past cs n l) ∙ list_from-none k) in omega (arith, z, e))

  -- the points of one command are among those that are left
  pub points_within : (cs : List Cmd) (n : ℕ) (d : Cmd) (k p all limit : ℕ) → n < length cs → d ≡ get_or cs n d
      → p + block_points (list_from ls h k (drop n cs)) ≡ all → all < limit → p + command_points (resolve.command_of ls h k (trees.command_of d)) < limit
  points_within cs n d k p all limit l e i f =
      let g = ap (λ (b : program.Block). p + block_points b) (list_drop cs n d k (k + length (sites.command_sites h (trees.command_of d))) l e refl) in omega (arith, g, i, f)

  pub block_from : (k : ℕ) (b : Block) → resolve.block_of ls h k (trees.block_of b) ≡ list_from ls h k b.commands.items
  unfolding list_from
  block_from k b = refl

  pub else_from : (k : ℕ) (b : Block) → resolve.else_of ls h k (trees.else_of (Some b)) ≡ list_from ls h k b.commands.items
  unfolding list_from
  else_from k b = refl

module _ (h : Surroundings) where
  list_site_count-more : (d : Cmd) (rest : List Cmd) → list_site_count h (d ∷ rest) ≡ length (sites.command_sites h (trees.command_of d)) + list_site_count h rest
  unfolding list_site_count
  list_site_count-more d rest = length-append (sites.command_sites h (trees.command_of d)) (sites.list_sites h (trees.commands_of rest))

  list_site_count-none : list_site_count h [] ≡ 0
  unfolding list_site_count
  list_site_count-none = refl

  pub sites_step : (cs : List Cmd) (n : ℕ) (d : Cmd) (k j : ℕ) → n < length cs → d ≡ get_or cs n d → j ≡ k + length (sites.command_sites h (trees.command_of d))
      → j + list_site_count h (drop (n + 1) cs) ≡ k + list_site_count h (drop n cs)
  sites_step cs n d k j l e q =
      ap (λ (i : ℕ). i + list_site_count h (drop (n + 1) cs)) q
      ∙ add_add k (length (sites.command_sites h (trees.command_of d))) (list_site_count h (drop (n + 1) cs))
      ∙ ap (λ (i : ℕ). k + i) (sym (ap (list_site_count h) (item_drop cs n d l e) ∙ list_site_count-more d (drop (n + 1) cs)))

  pub sites_end : (cs : List Cmd) (n k all : ℕ) → length cs ≤ n → k + list_site_count h (drop n cs) ≡ all → k ≡ all
  sites_end cs n k all l e = (let z : list_site_count h (drop n cs) ≡ 0 = ap (list_site_count h) (drop_past cs n l) ∙ list_site_count-none in omega (arith, z, e))

  pub sites_within : (cs : List Cmd) (n : ℕ) (d : Cmd) (k all limit : ℕ) → n < length cs → d ≡ get_or cs n d
      → k + list_site_count h (drop n cs) ≡ all → all < limit → k + length (sites.command_sites h (trees.command_of d)) < limit
  sites_within cs n d k all limit l e i f =
      let g = ap (λ (x : ℕ). k + x) (ap (list_site_count h) (item_drop cs n d l e) ∙ list_site_count-more d (drop (n + 1) cs)) in omega (arith, g, i, f)

  pub block_sites-is : (b : Block) → length (sites.block_sites h (trees.block_of b)) ≡ list_site_count h b.commands.items
  unfolding list_site_count
  block_sites-is b = refl

  pub else_sites-is : (b : Block) → length (sites.else_sites h (trees.else_of (Some b))) ≡ list_site_count h b.commands.items
  unfolding list_site_count
  else_sites-is b = refl

pub ruleset blocks = (block_from, else_from, block_sites-is, else_sites-is, length-append, add_add)
