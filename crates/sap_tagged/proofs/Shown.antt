-- The interface of a plain program.
use Rattle.sap_lemmas.proofs.Common.{◌≡◌, ℕ, zero, suc, ◌+◌, ◌<◌, ◌≤◌, List, [], ◌∷◌, ◌++◌, map, Bool, true, false, Some, inl, inr, refl, sym, ap, ap₂, ◌∙◌, subst, if◌then◌else◌, arith, nat_lt, lt-ltb, map-append, map_of_all}
use Rattle.sap_net.proofs.NamesLemmas.{among_front}
use Rattle.sap_meaning.proofs.ProgramLemmas.{state_no_memory}
use Rattle.sap_maps.specs.Prelude.{Name, Scope, find}
use Rattle.sap_meaning.specs.Program.{World, Entity, entity, root, children, is_input, is_register}
use Rattle.sap_net.specs.Prelude.{is_among, AreDistinct, seat_name, root_seat, value_name, tag_name, refused_name, refused_level_name}
use Rattle.sap_net.specs.declared.parts.PortKind.{PortKind}
use Rattle.sap_net.specs.declared.parts.PortKind.TheVariants as kind
use Rattle.sap_ir.specs.Prelude.{variable_names, Nested, seat_width}
use Rattle.sap_ir.specs.declared.guarded.Var.{Var}
use Rattle.sap_ir.specs.declared.guarded.MemoryVariable.{MemoryVariable}
use Rattle.sap_ir.proofs.Declared.{apart_lists}
use Rattle.sap_ir.proofs.plain.SeatWidths.{seat_positive, seat_holds, seat_least}
use Rattle.sap_interface.specs.Prelude.{Named, name, world, IsInterfaceName, Shown, HasSeat, DeclaresPart, DeclaresInterface, pairs_of, site_ports, ports_of}
use Rattle.sap_tagged.specs.Prelude.{value_key, tag_key, seat_key, key_name, for_entities, value_var, tag_var, seat_var, level_at_start, shown_registers, tag_registers, seat_registers, site_wires, first_wires, inner_wires, group_wires, memory_of, plain_of, shows, shown, declared_in}
use Rattle.sap_tagged.specs.Plain as plain
use Rattle.sap_tagged.proofs.Bools.{value_within, register_within, memory_within}
use Rattle.sap_tagged.proofs.Members.{In, among_in, find_by, in_front}
use Rattle.sap_tagged.proofs.Named.{registers_named, memories_named}
use Rattle.sap_tagged.proofs.Premises.{Design}
use Rattle.sap_tagged.proofs.Cycle.{value_known, tag_known, seat_known, root_known, refused_known, level_known, refused_in, level_in, in_all, in_value, in_tag, in_own_tag, in_seat, in_memory, in_tags, in_input, behind_inputs, inputs_once, registers_once, wires_once, stores_once, site_bound}

shown_associates : (xs ys zs : List Shown) → (xs ++ ys) ++ zs ≡ xs ++ (ys ++ zs)
shown_associates [] ys zs = refl
shown_associates (x ∷ xs) ys zs = ap (λ (vs : List Shown). x ∷ vs) (shown_associates xs ys zs)

module _ (d : Named) (tag sites : ℕ) (design : Design d tag sites) where
  abbrev w : World
  w = world d

  abbrev p : Nested
  p = plain_of d tag sites

  abbrev pair_at : PortKind → ℕ → List Shown
  pair_at k x = (value_name (name d x), k) ∷ (tag_name (name d x), k) ∷ []

  -- two variables of each entity as ports of a kind
  pairs_shown : (k : PortKind) (picks : ℕ → Bool) (of : ℕ → List Var)
      → ((x : ℕ) → picks x ≡ true → map {B = Shown} (λ (v : Var). (v.name, k)) (of x) ≡ pair_at k x) → (x : ℕ) (es : List Entity)
      → map {B = Shown} (λ (v : Var). (v.name, k)) (for_entities picks of x es) ≡ pairs_of picks k d x es
  pairs_shown k picks of f x [] = refl
  pairs_shown k picks of f x (e ∷ es) =
      map-append (λ (v : Var). (v.name, k)) (if picks x then of x else []) (for_entities picks of (x + 1) es)
      ∙ ap₂ (λ (a b : List Shown). a ++ b) (by_test (picks x) (f x)) (pairs_shown k picks of f (x + 1) es)
    where
      by_test : (q : Bool) → (q ≡ true → map {B = Shown} (λ (v : Var). (v.name, k)) (of x) ≡ pair_at k x)
          → map {B = Shown} (λ (v : Var). (v.name, k)) (if q then of x else []) ≡ (if q then pair_at k x else [])
      by_test true g = g refl
      by_test false g = refl

  abbrev pair_keys : PortKind → ℕ → List Shown
  pair_keys k x = (key_name d (value_key x), k) ∷ (key_name d (tag_key x), k) ∷ []

  pair_named : (k : PortKind) (x : ℕ) → nat_lt x (root w) ≡ true → pair_keys k x ≡ pair_at k x
  pair_named k x l = ap₂ (λ (a b : Name). let r : List Shown = (a, k) ∷ (b, k) ∷ [] in r) (value_known d x l) (tag_known d x l)

  input_within : (x : ℕ) → is_input w x ≡ true → nat_lt x (root w) ≡ true
  input_within x h = value_within w x (rw h refl)

  few_more : (k m : ℕ) → k + suc m ≤ 1 + sites → k ≤ sites
  few_more k m l = omega (arith, l)

  sites_shown : (k m : ℕ) → k + m ≤ 1 + sites → map {B = Shown} (λ (v : Var). (v.name, kind.Wire)) (site_wires d tag k m) ≡ site_ports k m
  sites_shown k zero l = refl
  sites_shown k (suc m) l =
      let b = site_bound d tag sites design k (few_more k m l) in
      ap₂ (λ (x y : Name). let r : List Shown =
      (x, kind.Wire) ∷ (y, kind.Wire) ∷ map {B = Shown} (λ (v : Var). (v.name, kind.Wire)) (site_wires d tag (k + 1) m) in r) (refused_known d k b) (level_known d k b)
      ∙ ap (λ (zs : List Shown). let r : List Shown = (refused_name k, kind.Wire) ∷ (refused_level_name k, kind.Wire) ∷ zs in r) (sites_shown (k + 1) m (omega (arith, l)))

  -- the kind that each of some ports shows
  shows_each : (k : PortKind) (xs : List Var) → ((v : Var) → In xs v → shows p v.name ≡ k)
      → map {B = Shown} (λ (x : Name). (x, shows p x)) (variable_names xs) ≡ map {B = Shown} (λ (v : Var). (v.name, k)) xs
  shows_each k [] f = refl
  shows_each k (x ∷ xs) f = ap₂ (λ (j : PortKind) (zs : List Shown). let r : List Shown = (x.name, j) ∷ zs in r) (f x (inl refl)) (shows_each k xs (λ v i. f v (inr i)))

  shows_register : (v : Var) → In (shown_registers d tag) v → shows p v.name ≡ kind.Register
  shows_register v i =
      let m : is_among v.name (variable_names p.registers) ≡ true =
      among_in p.registers v (in_front (shown_registers d tag) (tag_registers d tag ++ seat_registers d) v i) in
      rw m refl

  shows_wire : (v : Var) → In (site_wires d tag 1 sites) v → shows p v.name ≡ kind.Wire
  shows_wire v i =
      let m : is_among v.name (variable_names p.wires) ≡ true =
      among_in p.wires v (in_front (site_wires d tag 1 sites) (first_wires d tag ++ (inner_wires d tag ++ group_wires d tag 0 d.program.states)) v i) in
      let stores = map (λ (s : MemoryVariable). s.name) p.memories in
      let f : is_among v.name (variable_names p.registers) ≡ false =
      apart_lists (variable_names p.registers) (variable_names p.wires ++ stores) (behind_inputs d tag sites design) v.name
      (among_front v.name (variable_names p.wires) stores m) in
      rw f refl

  ports_shown : shown p ≡ ports_of d sites
  ports_shown =
      let input_ports = pairs_of (is_input w) kind.Input d 0 w.entities in
      let register_ports = pairs_of (is_register w) kind.Register d 0 w.entities in
      let registers = shown_registers d tag in
      let wires = site_wires d tag 1 sites in
      ap₂ (λ (a b : List Shown). a ++ b) (pairs_shown kind.Input (is_input w) (λ x. value_var d x 0 ∷ tag_var d tag x 0 ∷ [])
      (λ x h. pair_named kind.Input x (input_within x h)) 0 w.entities)
      (map-append (λ (x : Name). (x, shows p x)) (variable_names registers) (variable_names wires)
      ∙ ap₂ (λ (a b : List Shown). a ++ b)
      (shows_each kind.Register registers shows_register
      ∙ pairs_shown kind.Register (is_register w) (λ x. value_var d x (entity w x).initial ∷ tag_var d tag x (level_at_start d x) ∷ [])
      (λ x h. pair_named kind.Register x (register_within w x h)) 0 w.entities)
      (shows_each kind.Wire wires shows_wire ∙ sites_shown 1 sites (omega arith)))
      ∙ sym (shown_associates input_ports register_ports (site_ports 1 sites))

  in_input_tag : (x : ℕ) → is_input w x ≡ true → nat_lt x (root w) ≡ true → In p.inputs (tag_var d tag x 0)
  in_input_tag x i l = in_all d tag sites design (is_input w) (λ x. value_var d x 0 ∷ tag_var d tag x 0 ∷ []) (tag_var d tag x 0) x l i (inr (inl refl))

  -- names with their widths

  abbrev widths : List Var → Scope
  widths xs = map (λ x. (x.name, x.width)) xs

  -- a variable has its width under a name that is its own
  has_width : (xs : List Var) (x : Var) (a : Name) → AreDistinct (variable_names xs) → In xs x → x.name ≡ a → find (widths xs) a ≡ Some x.width
  has_width xs x a once i e = subst (λ (b : Name). find (widths xs) b ≡ Some x.width) e (find_by (λ (v : Var). v.name) (λ v. v.width) xs x once i)

  has_register : (x : Var) (a : Name) → In p.registers x → x.name ≡ a → find (widths p.registers) a ≡ Some x.width
  has_register x a i e = has_width p.registers x a (registers_once d tag sites design) i e

  has_site_wire : (x : Var) (a : Name) → In (site_wires d tag 1 sites) x → x.name ≡ a → find (widths p.wires) a ≡ Some x.width
  has_site_wire x a i e =
      has_width p.wires x a (wires_once d tag sites design)
      (in_front (site_wires d tag 1 sites) (first_wires d tag ++ (inner_wires d tag ++ group_wires d tag 0 d.program.states)) x i) e

  has_memory : (m : MemoryVariable) (a : Name) → In p.memories m → m.name ≡ a → find (declared_in p).memories a ≡ Some (m.width, m.depth)
  has_memory m a i e =
      subst (λ (b : Name). find (declared_in p).memories b ≡ Some (m.width, m.depth)) e
      (find_by (λ (z : MemoryVariable). z.name) (λ (z : MemoryVariable). (z.width, z.depth)) p.memories m (stores_once d tag sites design) i)

  has_input : (x : Var) (a : Name) → In p.inputs x → x.name ≡ a → find (widths p.inputs) a ≡ Some x.width
  has_input x a i e = has_width p.inputs x a (inputs_once d tag sites design) i e

  has_seat : (q : ℕ) (a : Name) → key_name d (seat_key q) ≡ a → 0 < children w q → HasSeat (widths p.registers) (children w q) a
  has_seat q a e h = (
    seat_width (children w q),
    record {
      positive = seat_positive (children w q);
      holds = seat_holds (children w q) (design.few_children q);
      least = λ v a b. seat_least (children w q) v a b;
    },
    has_register (seat_var d q) a (in_seat d tag sites design q h) e,
  )

  has_own_tag : (x : ℕ) → nat_lt x (root w) ≡ true → plain.has_own_tag d x ≡ true → find (widths p.registers) (tag_name (name d x)) ≡ Some tag
  has_own_tag x l h = has_register (tag_var d tag x (level_at_start d x)) _ (in_own_tag d tag sites design x l h) (tag_known d x l)

  part : 0 < children w (root w) → DeclaresPart (λ (a : Name). a) d tag sites (declared_in p)
  part some = record {
    registers = λ x r. (
      has_register (value_var d x (entity w x).initial) _ (in_value d tag sites design x r) (value_known d x (register_within w x r)),
      has_register (tag_var d tag x (level_at_start d x)) _ (in_tag d tag sites design x r) (tag_known d x (register_within w x r)),
    );
    site_wires = λ k i j. (let b = site_bound d tag sites design k j in (
      has_site_wire _ _ (refused_in d tag k 1 sites i (omega (arith, j))) (refused_known d k b),
      has_site_wire _ _ (level_in d tag k 1 sites i (omega (arith, j))) (level_known d k b),
    ));
    memories = λ m h. has_memory (memory_of d m) _ (in_memory d tag sites design m h) (value_known d m (memory_within w m h));
    cell_tags = λ m h t. has_memory _ _ (in_tags d tag sites design m h t) (tag_known d m (memory_within w m h));
    memory_tags = λ m h t. has_own_tag m (memory_within w m h) (rw (h, t) refl);
    state_tags = λ x h l. has_own_tag x (lt-ltb x (root w) l) (rw (state_no_memory (entity w x).kind h) h);
    seats = λ q l h. has_seat q (seat_name (name d q)) (seat_known d q (lt-ltb q (root w) l)) h;
    root_seat = has_seat (root w) root_seat (root_known d) some;
  }

  pub interface : 0 < children w (root w) → DeclaresInterface d tag sites (declared_in (plain_of d tag sites))
  interface some = record {
    ports = ports_shown;
    inputs = λ x i. (
      has_input (value_var d x 0) _ (in_input d tag sites design x i (input_within x i)) (value_known d x (input_within x i)),
      has_input (tag_var d tag x 0) _ (in_input_tag x i (input_within x i)) (tag_known d x (input_within x i)),
    );
    part = part some;
    register_names = map_of_all IsNamed (λ (v : Var). (v.name, v.width)) p.registers (registers_named d tag sites design);
    memory_names = map_of_all IsNamedMemory (λ (m : MemoryVariable). (m.name, (m.width, m.depth))) p.memories (memories_named d tag sites design);
  }
    where
      IsNamed : Name × ℕ → Type 0
      IsNamed v = IsInterfaceName d sites v.0

      IsNamedMemory : Name × (ℕ × ℕ) → Type 0
      IsNamedMemory m = IsInterfaceName d sites m.0
