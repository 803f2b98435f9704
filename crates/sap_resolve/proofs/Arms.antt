-- The arms, their sites and their points of lists in code, from a place on.
use Rattle.sap_lemmas.proofs.Common.{◌≡◌, ℕ, ◌+◌, ◌<◌, ◌≤◌, List, [], ◌∷◌, ◌++◌, append_assoc, append-nil, length, get_or, drop, refl, sym, ap, ◌∙◌, arith, length-append, drop_past}
use Rattle.sap_tree.specs.declared.syntax.Arm.{Arm as ArmTree}
use Rattle.sap_tree.specs.declared.syntax.Block.{Block}
use Rattle.sap_tree.specs.declared.syntax.Cmd.{Cmd}
use Rattle.sap_tree.specs.declared.syntax.Expr.{Expr}
use Rattle.sap_tree.specs.Trees as trees
use Rattle.sap_lattice.specs.Levels.{Levels}
use Rattle.sap_meaning.specs.Program.{Arms, last_arm, end_block}
use Rattle.sap_meaning.specs.Program as program
use Rattle.sap_resolved.specs.Resolve as resolve
use Rattle.sap_shape.specs.Lists as shape_lists
use Rattle.sap_shape.specs.Sites as sites
use Rattle.sap_shape.specs.Sites.{Surroundings}
use Rattle.sap_program.specs.declared.program.Arm.{Arm}
use Rattle.sap_program.specs.Views as views
use Rattle.sap_resolve.specs.Lists.{list_from, list_site_count, arms_from, arms_site_count, numbers_of}
use Rattle.sap_resolve.specs.Rows.{Rows, block_points, arms_points, block_with, arms_with}
use Rattle.sap_resolve.proofs.Lists.{item_drop, block_from, block_sites-is}
use Rattle.sap_program.proofs.Shown.{before-push}

-- constants

pub numbers_of-is : (d : ArmTree) (es : List Expr) → es ≡ d.constants.items → numbers_of es ≡ resolve.numbers_of (trees.constants_of d)
unfolding numbers_of
numbers_of-is d es e = ap (λ (l : List Expr). resolve.numbers_of (trees.expressions_of l)) e

numbers_of-more : (d : Expr) (rest : List Expr) → numbers_of (d ∷ rest) ≡ resolve.number_of (trees.expression_of d) ∷ numbers_of rest
unfolding numbers_of
numbers_of-more d rest = refl

numbers_of-none : numbers_of [] ≡ []
unfolding numbers_of
numbers_of-none = refl

-- one constant more is told
pub numbers_step : (es : List Expr) (n : ℕ) (d : Expr) (old new : List ℕ) (x : ℕ) → n < length es → d ≡ get_or es n d → new ≡ old ++ x ∷ []
    → x ≡ resolve.number_of (trees.expression_of d)
    → new ++ numbers_of (drop (n + 1) es) ≡ old ++ numbers_of (drop n es)
numbers_step es n d old new x l e g v =
    let rest = numbers_of (drop (n + 1) es) in
    ap (λ (a : List ℕ). a ++ rest) g ∙ append_assoc old (x ∷ []) rest ∙ ap (λ (y : ℕ). old ++ y ∷ rest) v
    ∙ ap (λ (a : List ℕ). old ++ a) (sym (ap numbers_of (item_drop es n d l e) ∙ numbers_of-more d (drop (n + 1) es)))

pub numbers_end : (es : List Expr) (n : ℕ) (made all : List ℕ) → length es ≤ n → made ++ numbers_of (drop n es) ≡ all → made ≡ all
numbers_end es n made all l e =
    sym (append-nil made) ∙ ap (λ (a : List ℕ). made ++ a) (sym (ap numbers_of (drop_past es n l) ∙ numbers_of-none)) ∙ e

module _ (ls : Levels) (h : Surroundings) where
  arms_from-more : (k : ℕ) (d : ArmTree) (rest : List ArmTree) (last : program.Block)
      → arms_from ls h k (d ∷ rest) last
      ≡ program.and_arm (resolve.numbers_of (trees.constants_of d)) (resolve.block_of ls h k (trees.arm_block_of d))
      (arms_from ls h (k + length (sites.block_sites h (trees.arm_block_of d))) rest last)
  unfolding arms_from
  arms_from-more k d rest last = refl

  arms_from-none : (k : ℕ) (last : program.Block) → arms_from ls h k [] last ≡ last_arm last
  unfolding arms_from
  arms_from-none k last = refl

  arms_site_count-more : (d : ArmTree) (rest : List ArmTree) → arms_site_count h (d ∷ rest) ≡ length (sites.block_sites h (trees.arm_block_of d)) + arms_site_count h rest
  unfolding arms_site_count shape_lists.arms_sites
  arms_site_count-more d rest = length-append (sites.block_sites h (trees.arm_block_of d)) (shape_lists.arms_sites h rest)

  arms_site_count-none : arms_site_count h [] ≡ 0
  unfolding arms_site_count shape_lists.arms_sites
  arms_site_count-none = refl

  -- the commands of an arm, as the code sees them
  module _ (d : ArmTree) (seen : List Cmd) (same : seen ≡ d.block.commands.items) where
    pub arm_block : (k : ℕ) → list_from ls h k seen ≡ resolve.block_of ls h k (trees.arm_block_of d)
    arm_block k = ap (list_from ls h k) same ∙ sym (block_from ls h k d.block)

    pub arm_sites : list_site_count h seen ≡ length (sites.block_sites h (trees.arm_block_of d))
    arm_sites = ap (list_site_count h) same ∙ sym (block_sites-is h d.block)

    module _ (arms : List ArmTree) (n k : ℕ) (l : n < length arms) (e : d ≡ get_or arms n d) where
      arms_drop : (j : ℕ) (last : program.Block) → j ≡ k + list_site_count h seen
          → arms_from ls h k (drop n arms) last
          ≡ program.and_arm (resolve.numbers_of (trees.constants_of d)) (resolve.block_of ls h k (trees.arm_block_of d)) (arms_from ls h j (drop (n + 1) arms) last)
      arms_drop j last q =
          let here = resolve.block_of ls h k (trees.arm_block_of d) in
          let to : k + length (sites.block_sites h (trees.arm_block_of d)) ≡ j = ap (λ (i : ℕ). k + i) (sym arm_sites) ∙ sym q in
          ap (λ (l : List ArmTree). arms_from ls h k l last) (item_drop arms n d l e) ∙ arms_from-more k d (drop (n + 1) arms) last
          ∙ ap (λ (i : ℕ). program.and_arm (resolve.numbers_of (trees.constants_of d)) here (arms_from ls h i (drop (n + 1) arms) last)) to

      -- one arm more is made
      pub arms_step : (m : ℕ) (r : Rows) (es : List Expr) (j p u : ℕ) (old new : List Arm) (it : Arm) → es ≡ d.constants.items → new ≡ old ++ it ∷ []
          → it.constants.items ≡ numbers_of es → views.block_of m it.block.items ≡ block_with r p (list_from ls h k seen) → j ≡ k + list_site_count h seen
          → u ≡ p + block_points (list_from ls h k seen) → (last : program.Block)
          → views.arms_before m new (arms_with r u (arms_from ls h j (drop (n + 1) arms) last)) ≡ views.arms_before m old (arms_with r p (arms_from ls h k (drop n arms) last))
      arms_step m r es j p u old new it f g c v q w last =
          let rest = arms_from ls h j (drop (n + 1) arms) last in
          let here = resolve.block_of ls h k (trees.arm_block_of d) in
          let numbers = resolve.numbers_of (trees.constants_of d) in
          let ns : it.constants.items ≡ numbers = c ∙ numbers_of-is d es f in
          let block : views.block_of m it.block.items ≡ block_with r p here = v ∙ ap (λ (b : program.Block). block_with r p b) (arm_block k) in
          let point : u ≡ p + block_points here = w ∙ ap (λ (b : program.Block). p + block_points b) (arm_block k) in
          ap (λ (a : List Arm). views.arms_before m a (arms_with r u rest)) g
          ∙ before-push m old it (arms_with r u rest)
          ∙ ap (λ (l : List ℕ). views.arms_before m old (program.and_arm l (views.block_of m it.block.items) (arms_with r u rest))) ns
          ∙ ap (λ (b : program.Block). views.arms_before m old (program.and_arm numbers b (arms_with r u rest))) block
          ∙ ap (λ (i : ℕ). views.arms_before m old (program.and_arm numbers (block_with r p here) (arms_with r i rest))) point
          ∙ ap (λ (a : Arms). views.arms_before m old (arms_with r p a)) (sym (arms_drop j last q))

      pub arms_points_step : (j p u : ℕ) → j ≡ k + list_site_count h seen → u ≡ p + block_points (list_from ls h k seen)
          → u + arms_points (arms_from ls h j (drop (n + 1) arms) end_block) ≡ p + arms_points (arms_from ls h k (drop n arms) end_block)
      arms_points_step j p u q w =
          (let a = ap (λ (x : Arms). arms_points x) (arms_drop j end_block q) in let b = ap (λ (x : program.Block). block_points x) (arm_block k) in omega (arith, a, b, w))

      -- the points of one arm are among those that are left
      pub arms_points_within : (p all limit : ℕ) → p + arms_points (arms_from ls h k (drop n arms) end_block) ≡ all → all < limit → p + block_points (list_from ls h k seen) < limit
      arms_points_within p all limit i f =
          (let a = ap (λ (x : Arms). arms_points x) (arms_drop (k + list_site_count h seen) end_block refl) in
          let b = ap (λ (x : program.Block). block_points x) (arm_block k) in omega (arith, a, b, i, f))

      arms_sites_drop : arms_site_count h (drop n arms) ≡ list_site_count h seen + arms_site_count h (drop (n + 1) arms)
      arms_sites_drop =
          ap (arms_site_count h) (item_drop arms n d l e) ∙ arms_site_count-more d (drop (n + 1) arms) ∙ ap (λ (i : ℕ). i + arms_site_count h (drop (n + 1) arms)) (sym arm_sites)

      pub arms_sites_step : (j : ℕ) → j ≡ k + list_site_count h seen → j + arms_site_count h (drop (n + 1) arms) ≡ k + arms_site_count h (drop n arms)
      arms_sites_step j q = (let a = arms_sites_drop in omega (arith, a, q))

      pub arms_sites_within : (all limit : ℕ) → k + arms_site_count h (drop n arms) ≡ all → all < limit → k + list_site_count h seen < limit
      arms_sites_within all limit i f = (let a = arms_sites_drop in omega (arith, a, i, f))

  pub arms_end : (m : ℕ) (r : Rows) (arms : List ArmTree) (n k p : ℕ) (made : List Arm) (last : program.Block) (all : Arms) → length arms ≤ n
      → views.arms_before m made (arms_with r p (arms_from ls h k (drop n arms) last)) ≡ all → views.arms_before m made (last_arm (block_with r p last)) ≡ all
  arms_end m r arms n k p made last all l e =
      ap (λ (a : Arms). views.arms_before m made (arms_with r p a))
      (sym (ap (λ (x : List ArmTree). arms_from ls h k x last) (drop_past arms n l) ∙ arms_from-none k last))
      ∙ e

  pub arms_points_end : (arms : List ArmTree) (n k p all : ℕ) → length arms ≤ n → p + arms_points (arms_from ls h k (drop n arms) end_block) ≡ all → p ≡ all
  arms_points_end arms n k p all l e =
      (let z : arms_points (arms_from ls h k (drop n arms) end_block) ≡ 0 =
      ap (λ (a : Arms). arms_points a) (ap (λ (x : List ArmTree). arms_from ls h k x end_block) (drop_past arms n l) ∙ arms_from-none k end_block) in omega (arith, z, e))

  pub arms_sites_end : (arms : List ArmTree) (n k all : ℕ) → length arms ≤ n → k + arms_site_count h (drop n arms) ≡ all → k ≡ all
  arms_sites_end arms n k all l e = (let z : arms_site_count h (drop n arms) ≡ 0 = ap (arms_site_count h) (drop_past arms n l) ∙ arms_site_count-none in omega (arith, z, e))

  -- the arms of a tree: those of the list, and the block after `else`

  pub arms_site_count-of : (arms : List ArmTree) (last : Block)
      → length (sites.arms_sites h (trees.arms_of arms (trees.block_of last))) ≡ arms_site_count h arms + list_site_count h last.commands.items
  unfolding arms_site_count list_site_count shape_lists.arms_sites
  arms_site_count-of [] last = omega arith
  arms_site_count-of (arm ∷ arms) last =
      let r = arms_site_count-of arms last in
      let here = sites.block_sites h (trees.arm_block_of arm) in
      let a = length-append here (sites.arms_sites h (trees.arms_of arms (trees.block_of last))) in
      let b = length-append here (shape_lists.arms_sites h arms) in omega (arith, r, a, b)

  pub arms_from-of : (k : ℕ) (arms : List ArmTree) (last : Block)
      → resolve.arms_of ls h k (trees.arms_of arms (trees.block_of last)) ≡ arms_from ls h k arms (list_from ls h (k + arms_site_count h arms) last.commands.items)
  unfolding arms_from arms_site_count list_from shape_lists.arms_sites
  arms_from-of k [] last = (let z : k ≡ k + 0 = omega arith in ap (λ (n : ℕ). last_arm (resolve.list_of ls h n (trees.commands_of last.commands.items))) z)
  arms_from-of k (arm ∷ arms) last =
      let j = k + length (sites.block_sites h (trees.arm_block_of arm)) in
      let to : j + arms_site_count h arms ≡ k + arms_site_count h (arm ∷ arms) =
      (let a = length-append (sites.block_sites h (trees.arm_block_of arm)) (shape_lists.arms_sites h arms) in omega (arith, a)) in
      ap (λ (a : Arms). program.and_arm (resolve.numbers_of (trees.constants_of arm)) (resolve.block_of ls h k (trees.arm_block_of arm)) a)
      (arms_from-of j arms last ∙ ap (λ (n : ℕ). arms_from ls h j arms (resolve.list_of ls h n (trees.commands_of last.commands.items))) to)

  pub arms_points-from : (k : ℕ) (arms : List ArmTree) (last : program.Block)
      → arms_points (arms_from ls h k arms last) ≡ arms_points (arms_from ls h k arms end_block) + block_points last
  unfolding arms_from
  arms_points-from k [] last = omega arith
  arms_points-from k (arm ∷ arms) last = (let r = arms_points-from (k + length (sites.block_sites h (trees.arm_block_of arm))) arms last in omega (arith, r))
