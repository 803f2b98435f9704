-- What a cycle shows of the active path in the state for which it stands.
use Rattle.std.proofs.Common.{◌≡◌, ◌<◌, ◌≤◌, ℕ, zero, suc, List, map, refl, sym, subst, arith}
use Rattle.sap_maps.specs.Maps.{Valuation}
use Rattle.sap_meaning.specs.Prelude.{state_node, Group, no_node, and_node, Block, children, last, root, Store, Refusal, own, level, child, FineNode, FineGroup, FineProgram, size, ActiveState, path_from, active_path, PathsRelated, LookAlike}
use Rattle.sap_meaning.proofs.Paths.{with_code, path_levels, coded_related}
use Rattle.sap_net.specs.PortNames.{root_seat}
use Rattle.sap_interface.specs.StandsFor.{Named, world, StandsFor}
use Rattle.sap_compile.specs.Agree.{IsState, CyclesAgree, shown_tag, shown_child, shown_path, AreChildren}

module _ (d : Named) where
  is_below_root : (q : Group) (m c : ℕ) (b : Block) (k : Group) → FineNode (world d) q m c b k → c < root (world d)
  is_below_root q m c b k f =
      let itself : c ≤ last (world d) c = f.itself in
      let declared : last (world d) c < root (world d) = f.declared in
      omega arith

  -- one cycle

  module _ (sites : ℕ) (v : Valuation) (s : Store) (rs : List Refusal) (stands : StandsFor d sites v s rs) where
    -- the path from the n-th of a group on, as it is shown, and with the codes of its levels
    abbrev shown : Group → ℕ → List ActiveState
    shown g n = path_from (shown_child d v) (shown_tag d v) g n

    abbrev coded : Group → ℕ → List ActiveState
    coded g n = map (with_code d.code) (path_from (λ x. child x s) (λ x. level (world d) (own x) s) g n)

    below_shown : (g : Group) (m n : ℕ) → (0 < size g → m ≡ n) → ((k : ℕ) → shown g k ≡ coded g k) → shown g m ≡ coded g n
    below_shown no_node m n same each = refl
    below_shown (and_node a g) m n same each = subst (λ (k : ℕ). shown (and_node a g) k ≡ coded (and_node a g) n) (sym (same (omega arith))) (each n)

    from_shown : (q : Group) (m : ℕ) (g : Group) (n : ℕ) → FineGroup (world d) q m g → shown g n ≡ coded g n
    from_shown q m no_node n f = refl
    from_shown q m (and_node (state_node c b k) g) zero f =
        let in' = is_below_root q m c b k f.0.0 in
        let seat : 0 < size k → shown_child d v c ≡ child c s = λ i. stands.seats c in' (subst (λ (n : ℕ). 0 < n) (sym f.0.0.count) i) in
        rw (stands.state_tags c f.0.0.kind in', below_shown k (shown_child d v c) (child c s) seat (λ n. from_shown k 0 k n f.0.1)) refl
    from_shown q m (and_node (state_node c b k) g) (suc n) f = from_shown q (suc m) g n f.1

    path_shown : FineProgram d.program → shown_path d v ≡ map (with_code d.code) (active_path d.program s)
    path_shown fine =
        below_shown d.program.states (v.value root_seat) (child (root (world d)) s) (λ i. stands.root_seat)
        (λ n. from_shown d.program.states 0 d.program.states n fine.states)

    pub are_children : IsState d s → AreChildren d v
    are_children is = record {
      of_root = λ some. subst (λ (n : ℕ). n < children (world d) (root (world d))) (sym stands.root_seat) (is.rests.holds.seated (root (world d)) some);
      of_state = λ p in' some. subst (λ (n : ℕ). n < children (world d) p) (sym (stands.seats p in' some)) (is.rests.holds.seated p some);
    }

  -- two cycles

  pub paths_look_alike : (l sites : ℕ) (v u : Valuation) → CyclesAgree d sites l v u → FineProgram d.program
      → PathsRelated (LookAlike (world d).order d.code l) (shown_path d v) (shown_path d u)
  paths_look_alike l sites v u c fine =
      let o = (world d).order in
      let s = c.one.store in
      let t = c.other.store in
      let one = path_levels o (λ x. child x s) (λ x. level (world d) (own x) s) (λ x. c.one_is_state.fits.levels (own x)) d.program.states (child (root (world d)) s) in
      let other = path_levels o (λ x. child x t) (λ x. level (world d) (own x) t) (λ x. c.other_is_state.fits.levels (own x)) d.program.states (child (root (world d)) t) in
      subst (λ (xs : List ActiveState). PathsRelated (LookAlike o d.code l) xs (shown_path d u)) (sym (path_shown sites v s c.one.refused c.one_stands fine))
      (subst (λ (ys : List ActiveState). PathsRelated (LookAlike o d.code l) (map (with_code d.code) (active_path d.program s)) ys)
      (sym (path_shown sites u t c.other.refused c.other_stands fine))
      (coded_related o d.code l (active_path d.program s) (active_path d.program t) one other c.states.paths))
