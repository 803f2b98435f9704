-- The states of a plain program keep the rules.
use Rattle.sap_lemmas.proofs.Common.{◌≡◌, ℕ, suc, ◌+◌, ◌^◌, ◌<◌, ◌≤◌, List, ◌++◌, map, Bool, true, Some, refl, sym, ap, ◌∙◌, subst, arith, nat_lt, nat_eq, bytes_eq, inl, inr, cases_Bool, eqb-true, eq-eqb, and_parts, or_right, or_other, true_is_not_false, bytes_eq_same}
use Rattle.sap_maps.specs.Prelude.{Name, find}
use Rattle.sap_meaning.specs.Prelude.{World, root, is_dynamic, is_memory, children, Command, lone, try, if_else, try_then, case_of, Arms, last_arm, and_arm, Block, end_block, command_then, state_node, Group, no_node, and_node, width_of, Home, among, FineGroup, size, ExactGroup, SizedGroup}
use Rattle.sap_meaning.specs.Sites as sites
use Rattle.sap_resolved.specs.Sized.Ranges.{RangedGroup}
use Rattle.sap_net.specs.Prelude.{is_among, seat_name}
use Rattle.sap_ir.specs.Prelude.{Source, readable, assignable, Body, Forest, none, state, has_states, group_names, seat_width, BodyFine, ForestFine, SeatFine}
use Rattle.sap_ir.specs.declared.guarded.Var.{Var}
use Rattle.sap_ir.specs.Plain.IsPlain.{IsSeat}
use Rattle.sap_ir.specs.Plain.Nested as nested
use Rattle.sap_interface.specs.StandsFor.{Named, world}
use Rattle.sap_tagged.specs.Prelude.{tag_key, seat_key, wire_key, first_key, inner_key, Setting, setting_of, var, gives, raises, pick_width, wires, wires_block, block_plain, FewGroup, wires_group, group_plain, saved, saves, top_plain, wire, step_wires, command_wires, arms_wires, block_wires, state_wires, group_wires}
use Rattle.sap_tagged.proofs.Bools.{tagged_memory}
use Rattle.sap_tagged.proofs.Groups.{LawfulStates, Shaped, group_states}
use Rattle.sap_tagged.proofs.Falls.{placed_in, shaped_group}
use Rattle.sap_tagged.proofs.Members.{In, in_front, in_behind}
use Rattle.sap_tagged.proofs.Ends.{Among}
use Rattle.sap_tagged.proofs.Conditions.{GroupConditions}
use Rattle.sap_tagged.proofs.Fits.{Declares}
use Rattle.sap_tagged.proofs.Parts.{top_holds}
use Rattle.sap_tagged.proofs.Closing.{Ends, ends, block_ends}
use Rattle.sap_tagged.proofs.Bodies.{Assigns, IsWire, StepWires, CommandWires, ArmsWires, BlockWires, SiteWires, Hangs, among_left, among_right, wire_gives, sweep_fine, raises_fine, block_fine}
use Rattle.sap_tagged.proofs.Hanging.{body_hangs}

-- wires that are declared

abbrev Found : Source → Var → Type 0
Found s v = (find (readable s) v.name ≡ Some v.width) × (find (assignable s) v.name ≡ Some v.width)

abbrev pub AllFound : Source → List Var → Type 0
AllFound s vs = (v : Var) → In vs v → Found s v

front_found : (s : Source) (xs ys : List Var) → AllFound s (xs ++ ys) → AllFound s xs
front_found s xs ys f v i = f v (in_front xs ys v i)

behind_found : (s : Source) (xs ys : List Var) → AllFound s (xs ++ ys) → AllFound s ys
behind_found s xs ys f v i = f v (in_behind xs ys v i)

module _ (nd : Named) (tag : ℕ) (s : Source) where
  step_found : (k : ℕ) → AllFound s (step_wires nd tag k) → StepWires (setting_of nd tag) s k
  step_found k f = (
    f (wire nd k 1) (inl refl),
    f (wire nd (k + 1) tag) (inr (inl refl)),
    f (wire nd (k + 2) tag) (inr (inr (inl refl))),
    f (wire nd (k + 3) tag) (inr (inr (inr (inl refl)))),
    f (wire nd (k + 4) 1) (inr (inr (inr (inr (inl refl))))),
  )

  mutual
    command_found : (k : ℕ) (c : Command) → AllFound s (command_wires nd tag k c) → CommandWires (setting_of nd tag) s k c
    command_found k (lone t) f = step_found k f
    command_found k (try t hang h) f = (
      step_found k (front_found s (step_wires nd tag k) (block_wires nd tag (k + 5) h) f),
      block_found (k + 5) h (behind_found s (step_wires nd tag k) (block_wires nd tag (k + 5) h) f),
    )
    command_found k (if_else hang e a b) f = (
      f (wire nd k tag) (inl refl),
      f (wire nd (k + 1) tag) (inr (inl refl)),
      block_found (k + 2) a (λ v i. f v (inr (inr (in_front (block_wires nd tag (k + 2) a) (block_wires nd tag (k + 2 + wires_block a) b) v i)))),
      block_found (k + 2 + wires_block a) b (λ v i. f v (inr (inr (in_behind (block_wires nd tag (k + 2) a) (block_wires nd tag (k + 2 + wires_block a) b) v i)))),
    )
    command_found k (try_then t hang a b) f =
        let one = block_wires nd tag (k + 5) a in
        let other = block_wires nd tag (k + 5 + wires_block a) b in
        let later = behind_found s (step_wires nd tag k) (one ++ other) f in (
          step_found k (front_found s (step_wires nd tag k) (one ++ other) f),
          block_found (k + 5) a (front_found s one other later),
          block_found (k + 5 + wires_block a) b (behind_found s one other later),
        )
    command_found k (case_of hang e arms) f = (
      f (wire nd k tag) (inl refl),
      f (wire nd (k + 1) tag) (inr (inl refl)),
      f (wire nd (k + 2) (width_of (world nd) e)) (inr (inr (inl refl))),
      f (wire nd (k + 3) (pick_width arms)) (inr (inr (inr (inl refl)))),
      arms_found (k + 4) arms (λ v i. f v (inr (inr (inr (inr i))))),
    )

    arms_found : (k : ℕ) (arms : Arms) → AllFound s (arms_wires nd tag k arms) → ArmsWires (setting_of nd tag) s k arms
    arms_found k (last_arm b) f = block_found k b f
    arms_found k (and_arm constants b arms) f = (
      block_found k b (front_found s (block_wires nd tag k b) (arms_wires nd tag (k + wires_block b) arms) f),
      arms_found (k + wires_block b) arms (behind_found s (block_wires nd tag k b) (arms_wires nd tag (k + wires_block b) arms) f),
    )

    block_found : (k : ℕ) (b : Block) → AllFound s (block_wires nd tag k b) → BlockWires (setting_of nd tag) s k b
    block_found k end_block f = tt
    block_found k (command_then c cs) f = (
      command_found k c (front_found s (command_wires nd tag k c) (block_wires nd tag (k + wires c) cs) f),
      block_found (k + wires c) cs (behind_found s (command_wires nd tag k c) (block_wires nd tag (k + wires c) cs) f),
    )

-- groups of forests

pub group_has : (d : Setting) (g : Group) (f : Forest) → Shaped d g f → (t : ℕ) → among g t ≡ true → is_among (d.state_name t) (group_names f) ≡ true
group_has d no_node none h t i = absurd (true_is_not_false (sym i))
group_has d (and_node (state_node s c k) g) (state x b kids rest) h t i = elim (cases_Bool (nat_eq t s)) [
  | inl e ↦
      (let n : bytes_eq (d.state_name t) x ≡ true = ap (λ (a : ℕ). bytes_eq (d.state_name a) x) (eqb-true t s e)
      ∙ ap (bytes_eq (d.state_name s)) h.0 ∙ bytes_eq_same (d.state_name s) in
      rw n refl)
  | inr e ↦ or_right (bytes_eq (d.state_name t) x) _ (group_has d g rest h.2 t (or_other (nat_eq t s) (among g t) i e))
]
group_has d _ _ h t i = absurd h

pub some_states : (d : Setting) (g : Group) (f : Forest) → Shaped d g f → 0 < size g → has_states f ≡ true
some_states d no_node none h l = absurd (omega (arith, l))
some_states d (and_node u g) (state x b kids rest) h l = refl
some_states d _ _ h l = absurd h

same_size : (d : Setting) (g : Group) (f : Forest) → Shaped d g f → nested.size f ≡ size g
same_size d no_node none h = refl
same_size d (and_node (state_node s c k) g) (state x b kids rest) h = ap (λ (n : ℕ). suc n) (same_size d g rest h.2)
same_size d _ _ h = absurd h

-- the registers of current children
abbrev pub SeatRegisters : Setting → Source → Type 0
SeatRegisters d s =
    (p : ℕ) → 0 < children d.world p
    → find {X = ℕ × ℕ} (map (λ (r : Var). (r.name, (r.width, r.start))) s.registers) (d.name (seat_key p)) ≡ Some (seat_width (children d.world p), 0)

pub seat_is_fine : (d : Setting) (s : Source) → SeatRegisters d s → ((p : ℕ) → children d.world p ≤ 2 ^ seat_width (children d.world p))
    → (p : ℕ) (x : Name) (g : Group) (f : Forest)
    → x ≡ d.name (seat_key p) → children d.world p ≡ size g → Shaped d g f → SeatFine s x f
seat_is_fine d s regs few p x no_node none e c h = tt
seat_is_fine d s regs few p x (and_node u g) (state y b kids rest) e c h =
    let z : children d.world p ≡ nested.size (state y b kids rest) = c ∙ sym (same_size d (and_node u g) (state y b kids rest) h) in
    subst (λ (n : ℕ). IsSeat s x n) z (subst (λ (a : Name). IsSeat s a (children d.world p)) (sym e) (regs p (some (children d.world p) (size g) c), few p))
  where
    some : (m n : ℕ) → m ≡ suc n → 0 < m
    some m n e = omega (arith, e)
seat_is_fine d s regs few p x _ _ e c h = absurd h

module _ (nd : Named) (tag : ℕ) (s : Source) (fixed : List Name) (decl : Declares (setting_of nd tag) s)
    (assigns : Assigns (setting_of nd tag) s fixed) (states : LawfulStates (setting_of nd tag)) (regs : SeatRegisters (setting_of nd tag) s) where
  abbrev d : Setting
  d = setting_of nd tag

  abbrev w : World
  w = (setting_of nd tag).world

  abbrev SitesOf : List sites.PlacedStep → Type 0
  SitesOf ks = (k : ℕ) → Among (sites.site_numbers ks) k → SiteWires (setting_of nd tag) s k

  -- the state whose children are a group
  record IsParent (q : Group) (x : ℕ) : Type 0 where
    declared : nat_lt x (root w) ≡ true
    count : children w x ≡ size q

  some_among : (q : Group) (x : ℕ) → among q x ≡ true → 0 < size q
  some_among no_node x h = absurd (true_is_not_false (sym h))
  some_among (and_node t g) x h = omega arith

  group_fine : (grp q : Group) (n0 parent k : ℕ) (group : List Name) → FineGroup w q 0 q → FineGroup w q n0 grp → ((t : ℕ) → among grp t ≡ true → among q t ≡ true)
      → ((t : ℕ) → among q t ≡ true → is_among (d.state_name t) group ≡ true) → IsParent q parent → AllFound s (group_wires nd tag k grp)
      → ExactGroup w parent grp → SitesOf (sites.group_sites w grp)
      → SizedGroup w grp → RangedGroup w grp → GroupConditions w grp → FewGroup grp → ForestFine s fixed group (group_plain d parent k grp)
  unfolding group_plain
  group_fine no_node q n0 parent k group whole fine part named above ws exact site z r c few = tt
  group_fine (and_node (state_node x b kids) rest) q n0 parent k group whole fine part named above ws exact site z r c few =
      let base = k + 1 + wires_block b in
      let node = fine.0.0 in
      let i : among q x ≡ true = part x (rw (eq-eqb x x refl) refl) in
      let me = group_states w q 0 q whole x i in
      let sp : Home = record { state = x; parent = parent; children = kids } in
      let placed = placed_in w q n0 x parent b kids whole i node fine.0.1 in
      let below = group_plain d x base kids in
      let shape = shaped_group d x base kids in
      let own = state_wires nd tag k (state_node x b kids) in
      let later = group_wires nd tag (k + (1 + wires_block b + wires_group kids)) rest in
      let mine : AllFound s own = front_found s own later ws in
      let pc : IsWire d s k tag = mine (wire nd k tag) (inl refl) in
      let body = block_plain d sp k (k + 1) b in (
        wire_gives d s decl fixed group assigns (has_states below) k tag (var d (inner_key parent)) body pc (decl.inners parent above.declared (rw above.count (some_among q x i)))
            (block_fine d s decl fixed group assigns (has_states below) q sp placed named (λ l. some_states d kids below shape l) k (k + 1) b pc
            (block_found nd tag s (k + 1) b (λ v a. mine v (inr (in_front (block_wires nd tag (k + 1) b) (group_wires nd tag base kids) v a))))
            (body_hangs w q sp me fine.0.1 b node.steps exact.0.0)
            (λ n a. site n (among_left (sites.block_sites w x kids b ++ sites.group_sites w kids) (sites.group_sites w rest) n
            (among_left (sites.block_sites w x kids b) (sites.group_sites w kids) n a)))
            node.steps z.0.0 r.0.0 c.0.0 few.0.0),
        block_ends d sp k (k + 1) b node.closes,
        seat_is_fine d s regs decl.few_children x (seat_name (d.state_name x)) kids below (states.seats x me.declared) node.count shape,
        group_fine kids kids 0 x base (group_names below) fine.0.1 fine.0.1 (λ t h. h) (group_has d kids below shape) (record { declared = me.declared; count = node.count })
            (λ v a. mine v (inr (in_behind (block_wires nd tag (k + 1) b) (group_wires nd tag base kids) v a))) exact.0.1
            (λ n a. site n (among_left (sites.block_sites w x kids b ++ sites.group_sites w kids) (sites.group_sites w rest) n
            (among_right (sites.block_sites w x kids b) (sites.group_sites w kids) n a)))
            z.0.1 r.0.1 c.0.1 few.0.1,
        group_fine rest q (suc n0) parent (k + (1 + wires_block b + wires_group kids)) group whole fine.1
            (λ t h. part t (or_right (nat_eq t x) (among rest t) h)) named above (behind_found s own later ws)
            exact.1 (λ n a. site n (among_right (sites.block_sites w x kids b ++ sites.group_sites w kids) (sites.group_sites w rest) n a)) z.1 r.1 c.1 few.1,
      )

  -- the kept tags
  saves_fine : (group : List Name) (nested : Bool) (rest : Body) → BodyFine s fixed group nested rest → BodyFine s fixed group nested (saves d rest)
  saves_fine group nested rest g =
      sweep_fine d s decl fixed group assigns nested first_key (saved w) (λ m. var d (tag_key m)) 0 (root w) rest
      (λ y l k e. let b = and_parts (is_memory w y) (is_dynamic w y) e in (tag, assigns.firsts y e, decl.tags y (tagged_memory w y b.0 b.1))) (λ y p. refl) g

  pub top_fine : (grp q : Group) (n0 k : ℕ) (hangs : ℕ → Bool) (group : List Name) → FineGroup w q 0 q → FineGroup w q n0 grp → ((t : ℕ) → among grp t ≡ true → among q t ≡ true)
      → ((t : ℕ) → among q t ≡ true → is_among (d.state_name t) group ≡ true) → Hangs w hangs → AllFound s (group_wires nd tag k grp)
      → ExactGroup w (root w) grp → SitesOf (sites.group_sites w grp)
      → SizedGroup w grp → RangedGroup w grp → GroupConditions w grp → FewGroup grp → ForestFine s fixed group (top_plain d hangs k grp)
  unfolding top_plain
  top_fine no_node q n0 k hangs group whole fine part named hs ws exact site z r c few = tt
  top_fine (and_node (state_node x b kids) rest) q n0 k hangs group whole fine part named hs ws exact site z r c few =
      let base = k + 1 + wires_block b in
      let node = fine.0.0 in
      let i : among q x ≡ true = part x (rw (eq-eqb x x refl) refl) in
      let me = group_states w q 0 q whole x i in
      let sp : Home = record { state = x; parent = root w; children = kids } in
      let placed = placed_in w q n0 x (root w) b kids whole i node fine.0.1 in
      let below = group_plain d x base kids in
      let shape = shaped_group d x base kids in
      let own = state_wires nd tag k (state_node x b kids) in
      let later = group_wires nd tag (k + (1 + wires_block b + wires_group kids)) rest in
      let mine : AllFound s own = front_found s own later ws in
      let pc : IsWire d s k tag = mine (wire nd k tag) (inl refl) in
      let body = block_plain d sp k (k + 1) b in
      let good = block_fine d s decl fixed group assigns (has_states below) q sp placed named (λ l. some_states d kids below shape l) k (k + 1) b pc
      (block_found nd tag s (k + 1) b (λ v a. mine v (inr (in_front (block_wires nd tag (k + 1) b) (group_wires nd tag base kids) v a))))
      (body_hangs w q sp me fine.0.1 b node.steps exact.0.0)
      (λ n a. site n (among_left (sites.block_sites w x kids b ++ sites.group_sites w kids) (sites.group_sites w rest) n
      (among_left (sites.block_sites w x kids b) (sites.group_sites w kids) n a)))
      node.steps z.0.0 r.0.0 c.0.0 few.0.0 in (
        saves_fine group (has_states below) (gives d (wire_key k) (var d (tag_key x)) (raises d hangs k body))
            (wire_gives d s decl fixed group assigns (has_states below) k tag (var d (tag_key x)) (raises d hangs k body) pc (decl.tags x (placed.siblings x i).0)
            (raises_fine d s decl fixed group assigns (has_states below) hangs k body hs pc good)),
        top_holds d Ends ends hangs k x body (block_ends d sp k (k + 1) b node.closes),
        seat_is_fine d s regs decl.few_children x (seat_name (d.state_name x)) kids below (states.seats x me.declared) node.count shape,
        group_fine kids kids 0 x base (group_names below) fine.0.1 fine.0.1 (λ t h. h) (group_has d kids below shape) (record { declared = me.declared; count = node.count })
            (λ v a. mine v (inr (in_behind (block_wires nd tag (k + 1) b) (group_wires nd tag base kids) v a))) exact.0.1
            (λ n a. site n (among_left (sites.block_sites w x kids b ++ sites.group_sites w kids) (sites.group_sites w rest) n
            (among_right (sites.block_sites w x kids b) (sites.group_sites w kids) n a)))
            z.0.1 r.0.1 c.0.1 few.0.1,
        top_fine rest q (suc n0) (k + (1 + wires_block b + wires_group kids)) hangs group whole fine.1
            (λ t h. part t (or_right (nat_eq t x) (among rest t) h)) named hs (behind_found s own later ws)
            exact.1 (λ n a. site n (among_right (sites.block_sites w x kids b ++ sites.group_sites w kids) (sites.group_sites w rest) n a)) z.1 r.1 c.1 few.1,
      )
