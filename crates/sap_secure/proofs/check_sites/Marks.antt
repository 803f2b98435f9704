-- The numbers of a program's sites, as its commands have them.
use Rattle.sap_lemmas.proofs.Common.{◌≡◌, ℕ, ◌+◌, ◌≤◌, Bool, true, false, List, [], ◌∷◌, ◌++◌, length, length-append, nat_eq, refl, sym, ap, ◌∙◌, subst, arith, if◌then◌else◌, ne_eqb}
use Rattle.sap_tree.specs.Syntax.{SimpleCommand, assign, CommandBlock, command_block, ElseBlock, no_else, with_else, CommandList, no_command, and_command, StateTree, state_node, StateList, no_state, and_state}
use Rattle.sap_tree.specs.Syntax as tree
use Rattle.sap_lattice.specs.Levels.{Levels}
use Rattle.sap_names.specs.declared.entity.Entity.{Entity}
use Rattle.sap_shape.specs.Sites as shape
use Rattle.sap_shape.specs.Sites.{Surroundings, CheckSite, simple_sites}
use Rattle.sap_meaning.specs.Prelude.{World, Step, assign, Command, Arms, Block, State, state_node, Group, gathered, gathered_in_block, gathered_from, gathered_from_group, body_of, Home, site_of, numbers_from}
use Rattle.sap_meaning.specs.Walks.{gathered_in_arms}
use Rattle.sap_meaning.proofs.SitesLemmas.{numbers_join}
use Rattle.sap_resolved.specs.Worlds.{states_in}
use Rattle.sap_resolved.specs.Resolve.{site_number, step_of, command_of, arms_of, block_of, else_of, list_of, state_of, group_of}
use Rattle.sap_resolved.specs.Fill.{filled_step, filled_state, filled_group}
use Rattle.sap_resolved.proofs.FillLemmas.{gathered_filled_block, gathered_filled_group}
use Rattle.sap_secure.specs.CheckSites.Once.{own_site}

abbrev pub marks : Command → List ℕ
marks c = gathered [] ◌++◌ own_site c

abbrev pub arms_marks : Arms → List ℕ
arms_marks arms = gathered_in_arms [] ◌++◌ own_site arms

abbrev pub block_marks : Block → List ℕ
block_marks b = gathered_in_block [] ◌++◌ own_site b

abbrev pub body_marks : State → List ℕ
body_marks t = block_marks (body_of t)

abbrev pub state_marks : State → List ℕ
state_marks t = gathered_from [] ◌++◌ body_marks t

abbrev pub group_marks : Group → List ℕ
group_marks g = gathered_from_group [] ◌++◌ body_marks g

both : (a b c d : List ℕ) → a ≡ c → b ≡ d → a ++ b ≡ c ++ d
both a b c d e f = ap (λ (u : List ℕ). u ++ b) e ∙ ap (λ (u : List ℕ). c ++ u) f

-- filling in what hangs leaves them as they are
module _ (w : World) where
  module _ (at : Home) where
    step_filled : (k : Step) → own_site (filled_step w at k) ≡ own_site k
    step_filled (assign site x e) = refl
    step_filled _ = refl

  body_filled : (p : ℕ) (t : State) → body_marks (filled_state w p t) ≡ body_marks t
  body_filled p (state_node s b g) =
      let at : Home = record { state = s; parent = p; children = g } in gathered_filled_block w [] ◌++◌ own_site own_site at (step_filled at) b

  pub group_filled : (p : ℕ) (g : Group) → group_marks (filled_group w p g) ≡ group_marks g
  group_filled p g = gathered_filled_group w [] ◌++◌ body_marks body_marks body_filled p g

joined : (k : ℕ) (a b : List CheckSite) (xs ys : List ℕ) → xs ≡ numbers_from k (length a) → ys ≡ numbers_from (k + length a) (length b)
    → xs ++ ys ≡ numbers_from k (length (a ++ b))
joined k a b xs ys e f =
    both xs ys (numbers_from k (length a)) (numbers_from (k + length a) (length b)) e f ∙ numbers_join k (length a) (length b)
    ∙ ap (λ (n : ℕ). numbers_from k n) (sym (length-append a b))

never_zero : (k : ℕ) → 1 ≤ k → nat_eq k 0 ≡ false
never_zero k p = ne_eqb k 0 (λ e. omega arith)

-- a site has its number, and another command none
one_mark : (k n : ℕ) (yes : Bool) (s : CheckSite) → 1 ≤ k → n ≡ (if yes then k else 0)
    → (if nat_eq n 0 then [] else n ∷ []) ≡ numbers_from k (length (if yes then s ∷ [] else []))
one_mark k n true s p e =
    subst (λ (m : ℕ). (if nat_eq m 0 then [] else m ∷ []) ≡ k ∷ []) (sym e) (ap (λ (b : Bool). if b then [] else k ∷ []) (never_zero k p))
one_mark k n false s p e = subst (λ (m : ℕ). (if nat_eq m 0 then [] else m ∷ []) ≡ []) (sym e) refl

module _ (ls : Levels) where
  module _ (h : Surroundings) where
    number_is : (n : ℕ) (c : SimpleCommand) → site_of (step_of ls h n c) ≡ n
    number_is n (assign target e) = refl
    number_is n _ = refl

    simple_marked : (k : ℕ) → 1 ≤ k → (c : SimpleCommand) → own_site (step_of ls h (site_number h k c) c) ≡ numbers_from k (length (simple_sites h c))
    simple_marked k p c =
        one_mark k (site_of (step_of ls h (site_number h k c) c)) (shape.is_site h.entities h.home.kind h.home.children c)
        (record { surroundings = h; command = c }) p (number_is (site_number h k c) c)

    mutual
      command_marked : (k : ℕ) → 1 ≤ k → (c : tree.Command) → marks (command_of ls h k c) ≡ numbers_from k (length (shape.command_sites h c))
      command_marked k p (tree.lone c) = simple_marked k p c
      command_marked k p (tree.try c place b) =
          joined k (simple_sites h c) (shape.block_sites h b) (own_site (step_of ls h (site_number h k c) c))
          (block_marks (block_of ls h (k + length (simple_sites h c)) b)) (simple_marked k p c) (block_marked (k + length (simple_sites h c)) (omega arith) b)
      command_marked k p (tree.if_else place e b other) =
          joined k (shape.block_sites h b) (shape.else_sites h other) (block_marks (block_of ls h k b))
          (block_marks (else_of ls h (k + length (shape.block_sites h b)) other)) (block_marked k p b)
          (else_marked (k + length (shape.block_sites h b)) (omega arith) other)
      command_marked k p (tree.try_then c place a b) =
          let i = k + length (simple_sites h c) in
          let j = i + length (shape.block_sites h a) in
          joined k (simple_sites h c) (shape.block_sites h a ++ shape.block_sites h b) (own_site (step_of ls h (site_number h k c) c))
          (block_marks (block_of ls h i a) ++ block_marks (block_of ls h j b)) (simple_marked k p c)
          (joined i (shape.block_sites h a) (shape.block_sites h b) (block_marks (block_of ls h i a)) (block_marks (block_of ls h j b))
          (block_marked i (omega arith) a) (block_marked j (omega arith) b))
      command_marked k p (tree.case_of place e arms) = arms_marked k p arms

      arms_marked : (k : ℕ) → 1 ≤ k → (arms : tree.Arms) → arms_marks (arms_of ls h k arms) ≡ numbers_from k (length (shape.arms_sites h arms))
      arms_marked k p (tree.last_arm b) = block_marked k p b
      arms_marked k p (tree.and_arm constants b arms) =
          joined k (shape.block_sites h b) (shape.arms_sites h arms) (block_marks (block_of ls h k b)) (arms_marks (arms_of ls h (k + length (shape.block_sites h b)) arms))
          (block_marked k p b) (arms_marked (k + length (shape.block_sites h b)) (omega arith) arms)

      block_marked : (k : ℕ) → 1 ≤ k → (b : CommandBlock) → block_marks (block_of ls h k b) ≡ numbers_from k (length (shape.block_sites h b))
      block_marked k p (command_block cs after) = list_marked k p cs

      else_marked : (k : ℕ) → 1 ≤ k → (b : ElseBlock) → block_marks (else_of ls h k b) ≡ numbers_from k (length (shape.else_sites h b))
      else_marked k p no_else = refl
      else_marked k p (with_else b) = block_marked k p b

      list_marked : (k : ℕ) → 1 ≤ k → (cs : CommandList) → block_marks (list_of ls h k cs) ≡ numbers_from k (length (shape.list_sites h cs))
      list_marked k p no_command = refl
      list_marked k p (and_command c cs) =
          joined k (shape.command_sites h c) (shape.list_sites h cs) (marks (command_of ls h k c))
          (block_marks (list_of ls h (k + length (shape.command_sites h c)) cs)) (command_marked k p c)
          (list_marked (k + length (shape.command_sites h c)) (omega arith) cs)

  mutual
    state_marked : (es : List Entity) (k x : ℕ) → 1 ≤ k → (s : StateTree) → state_marks (state_of ls es k x s) ≡ numbers_from k (length (shape.state_sites es s))
    state_marked es k x p (state_node place name kind body children) =
        let h : Surroundings = record { entities = es; home = record { name = name.name; kind = kind; children = children } } in
        joined k (shape.block_sites h body) (shape.states_sites es children) (block_marks (block_of ls h k body))
        (group_marks (group_of ls es (k + length (shape.block_sites h body)) (x + 1) children)) (block_marked h k p body)
        (group_marked es (k + length (shape.block_sites h body)) (x + 1) (omega arith) children)

    pub group_marked : (es : List Entity) (k x : ℕ) → 1 ≤ k → (g : StateList) → group_marks (group_of ls es k x g) ≡ numbers_from k (length (shape.states_sites es g))
    group_marked es k x p no_state = refl
    group_marked es k x p (and_state s rest) =
        joined k (shape.state_sites es s) (shape.states_sites es rest) (state_marks (state_of ls es k x s))
        (group_marks (group_of ls es (k + length (shape.state_sites es s)) (x + states_in s) rest)) (state_marked es k x p s)
        (group_marked es (k + length (shape.state_sites es s)) (x + states_in s) (omega arith) rest)
