-- The printed file declares a netlist's names, in their order, as what they are.
use Rattle.sap_lemmas.proofs.Common.{◌≡◌, ℕ, ◌+◌, ◌-◌, ◌<◌, List, [], ◌∷◌, ◌++◌, length, drop, Bool, true, false, cond, Option, Some, None, refl, sym, ap, ◌∙◌, subst, inl, inr, arith, ⊎_elim, ◌||◌, map, flat_map, filter, is_some, AllByRecursion, bytes_eq, cases_Bool, or_right as or_here, take-append-drop, map-append, bytes_eq_apart_back, bytes_eq_same, equal_of_bytes_eq, flat_map-append}
use Rattle.std.proofs.lemmas.Nat.{pow_pos}
use Rattle.sap_lemmas.proofs.Bools.{or_follows}
use Rattle.sap_net.proofs.NamesLemmas.{among_append}
use Rattle.sap_maps.specs.Prelude.{Name, find}
use Rattle.sap_net.specs.Prelude.{is_among, AreDistinct, Net, IsNetlist, input_names, wire_names, register_names, memory_names, PortShows, is_input}
use Rattle.sap_net.specs.declared.parts.PortKind.{PortKind}
use Rattle.sap_net.specs.declared.parts.Port.{Port}
use Rattle.sap_net.specs.declared.parts.Input.{Input}
use Rattle.sap_net.specs.declared.parts.Wire.{Wire}
use Rattle.sap_net.specs.declared.parts.Register.{Register}
use Rattle.sap_net.specs.declared.parts.Memory.{Memory}
use Rattle.sap_net.specs.declared.parts.PortKind.TheVariants as kind
use Rattle.sap_text.specs.Best.{StandsIn}
use Rattle.sap_vtext.specs.Names.{Shape, input, wire, register, memory, Declaration, port_shape, port_declaration, item_declarations, declarations, shape_in}
use Rattle.sap_vtext.proofs.NameLists.{found_key, distinct_parts, found_among, among_found, found_all, named_among, among_left, among_right, among_mapped, among_cases, not_among, all_from}
use Rattle.sap_vprint.specs.Printed.{mention, input_entries, register_entries, wire_entries, memory_entries, entities, width_or_0, direction_of, printed_port, declared_items, declarations_of}
use Rattle.sap_vprint.proofs.Entities.{entity_keys, entities_new, entities_fit, IsShape}

abbrev pub or_input : Option Shape → Shape
or_input (Some s) = s
or_input None = input 0

-- how the printed file declares a name
abbrev pub declare : Net → Name → Declaration
declare n x = record { name = mention x; shape = or_input (find (entities n) x) }

-- an entry is that of something named so
record Entry {A : Type 0} (name : A → Name) (f : A → Shape) (xs : List A) (x : Name) (s : Shape) : Type 0 where
  of : A
  among : is_among x (map name xs) ≡ true
  shape : s ≡ f of

entry_of : {A : Type 0} (name : A → Name) (f : A → Shape) (xs : List A) (x : Name) (s : Shape)
    → StandsIn {A = Name × Shape} (x, s) (map (λ y. (name y, f y)) xs) → Entry name f xs x s
entry_of name f [] x s m = absurd m
entry_of name f (y ∷ ys) x s (inl e) =
    let p : x ≡ name y = ap (λ (z : Name × Shape). z.0) e in
    record {
      of = y;
      among = ap (λ b. b || is_among x (map name ys)) (subst (λ z. bytes_eq x z ≡ true) p (bytes_eq_same x));
      shape = ap (λ (z : Name × Shape). z.1) e;
    }
entry_of name f (y ∷ ys) x s (inr m) =
    let r = entry_of name f ys x s m in
    record { of = r.of; among = or_here (bytes_eq x (name y)) _ r.among; shape = r.shape }

abbrev entry : Name → Shape → Name × Shape
entry x s = (x, s)

module _ (n : Net) (h : IsNetlist n) where
  pub input_found : (i : Input) → StandsIn i n.inputs → find (entities n) i.name ≡ Some (input i.width)
  input_found i m =
      found_among (entities n) (entities_new n h) i.name (input i.width)
      (among_left (entry i.name (input i.width)) (input_entries n) (register_entries n ++ (wire_entries n ++ memory_entries n))
      (among_mapped (λ (x : Input). entry x.name (input x.width)) i n.inputs m))

  pub register_found : (r : Register) → StandsIn r n.registers → find (entities n) r.name ≡ Some (register r.width)
  register_found r m =
      let e = entry r.name (register r.width) in
      found_among (entities n) (entities_new n h) r.name (register r.width)
      (among_right e (input_entries n) (register_entries n ++ (wire_entries n ++ memory_entries n))
      (among_left e (register_entries n) (wire_entries n ++ memory_entries n)
      (among_mapped (λ (x : Register). entry x.name (register x.width)) r n.registers m)))

  pub wire_found : (w : Wire) → StandsIn w n.wires → find (entities n) w.name ≡ Some (wire w.width)
  wire_found w m =
      let e = entry w.name (wire w.width) in
      found_among (entities n) (entities_new n h) w.name (wire w.width)
      (among_right e (input_entries n) (register_entries n ++ (wire_entries n ++ memory_entries n))
      (among_right e (register_entries n) (wire_entries n ++ memory_entries n)
      (among_left e (wire_entries n) (memory_entries n) (among_mapped (λ (x : Wire). entry x.name (wire x.width)) w n.wires m))))

  pub memory_found : (x : Memory) → StandsIn x n.memories → find (entities n) x.name ≡ Some (memory x.width x.depth)
  memory_found x m =
      let e = entry x.name (memory x.width x.depth) in
      found_among (entities n) (entities_new n h) x.name (memory x.width x.depth)
      (among_right e (input_entries n) (register_entries n ++ (wire_entries n ++ memory_entries n))
      (among_right e (register_entries n) (wire_entries n ++ memory_entries n)
      (among_right e (wire_entries n) (memory_entries n) (among_mapped (λ (x : Memory). entry x.name (memory x.width x.depth)) x n.memories m))))

  -- what a port shows
  pub port_found : (k : PortKind) (x : Name) → PortShows n k x → (w : ℕ) × (find (entities n) x ≡ Some (port_shape (direction_of k) w))
  port_found kind.Input x m = let r = named_among (λ (y : Input). y.name) n.inputs x m in
      (r.0.width, subst (λ z. find (entities n) z ≡ Some (input r.0.width)) r.2 (input_found r.0 r.1))
  port_found kind.Register x m = let r = named_among (λ (y : Register). y.name) n.registers x m in
      (r.0.width, subst (λ z. find (entities n) z ≡ Some (register r.0.width)) r.2 (register_found r.0 r.1))
  port_found kind.Wire x m = let r = named_among (λ (y : Wire). y.name) n.wires x m in
      (r.0.width, subst (λ z. find (entities n) z ≡ Some (wire r.0.width)) r.2 (wire_found r.0 r.1))

  -- behind the ports

  width_kept : (k : PortKind) (w : ℕ) → IsShape (port_shape (direction_of k) w) → w - 1 + 1 ≡ w
  width_kept kind.Input w g = let low = g.0 in omega arith
  width_kept _ w g = let low = g.0 in omega arith

  pub width_of_port : (k : PortKind) (w : ℕ) → width_or_0 (Some (port_shape (direction_of k) w)) ≡ w
  width_of_port kind.Input w = refl
  width_of_port _ w = refl

  declaration_same : (x : Name) {s t : Shape} → s ≡ t → (let d : Declaration = record { name = mention x; shape = s } in
      d) ≡ (let d : Declaration = record { name = mention x; shape = t } in d)
  declaration_same x e = ap (λ z. let d : Declaration = record { name = mention x; shape = z } in d) e

  port_declared : (p : Port) → PortShows n p.kind p.name → port_declaration (printed_port n p) ≡ declare n p.name
  port_declared p m =
      let f = port_found p.kind p.name m in
      let shape = port_shape (direction_of p.kind) f.0 in
      let w = width_kept p.kind f.0 (found_all IsShape (entities n) p.name shape (entities_fit n h) f.1) in
      declaration_same p.name
      (ap (λ o. port_shape (direction_of p.kind) (width_or_0 o - 1 + 1)) f.1
      ∙ ap (λ v. port_shape (direction_of p.kind) (v - 1 + 1)) (width_of_port p.kind f.0)
      ∙ ap (port_shape (direction_of p.kind)) w
      ∙ sym (ap or_input f.1))

  ports_declared : (ps : List Port) → AllByRecursion (λ p. PortShows n p.kind p.name) ps → map port_declaration (map (printed_port n) ps) ≡ map (declare n) (map (λ p. p.name) ps)
  ports_declared [] m = refl
  ports_declared (p ∷ ps) m = let a = port_declared p m.0 in let b = ports_declared ps m.1 in cc

  -- what stands behind the ports is declared, and no input
  abbrev pub IsInner : Name → Type 0
  IsInner x = (s : Shape) × (find (entities n) x ≡ Some s) × ((w : ℕ) → s ≡ input w → ⊥)

  inner_declared : (x : Name) (s : Shape) → IsShape s → ((w : ℕ) → s ≡ input w → ⊥)
      → flat_map item_declarations (declared_items x (Some s)) ≡ (let d : Declaration = record { name = mention x; shape = s } in d) ∷ []
  inner_declared x (input w) g other = absurd (other w refl)
  inner_declared x (wire w) g other =
      let low = g.0 in let e : w - 1 + 1 ≡ w = omega arith in ap (λ z. z ∷ []) (declaration_same x (ap wire e))
  inner_declared x (register w) g other =
      let low = g.0 in let e : w - 1 + 1 ≡ w = omega arith in ap (λ z. z ∷ []) (declaration_same x (ap register e))
  inner_declared x (memory w d) g other =
      let low = g.0.0 in
      let e : w - 1 + 1 ≡ w = omega arith in
      let p : 0 < d = subst (λ z. 0 < z) (sym g.1.1.2) (pow_pos g.1.0) in
      let q : d - 1 + 1 ≡ d = omega arith in
      ap (λ z. z ∷ []) (declaration_same x (ap (λ z. memory z (d - 1 + 1)) e ∙ ap (memory w) q))

  inners_declared : (xs : List Name) → AllByRecursion IsInner xs → flat_map item_declarations (declarations_of n xs) ≡ map (declare n) xs
  inners_declared [] m = refl
  inners_declared (x ∷ xs) m =
      let s = m.0.0 in
      let is = m.0.1 in
      flat_map-append item_declarations (declared_items x (find (entities n) x)) (declarations_of n xs)
      ∙ ap (λ o. flat_map item_declarations (declared_items x o) ++ flat_map item_declarations (declarations_of n xs)) is
      ∙ ap (λ z. z ++ flat_map item_declarations (declarations_of n xs)) (inner_declared x s (found_all IsShape (entities n) x s (entities_fit n h) is) m.0.2)
      ∙ ap (λ z. (let d : Declaration = record { name = mention x; shape = s } in d) ∷ z) (inners_declared xs m.1)
      ∙ ap (λ z. z ∷ map (declare n) xs) (declaration_same x (sym (ap or_input is)))

  -- the names behind the ports
  abbrev pub inner_names : List Name
  inner_names = drop (length n.ports) n.names

  pub all_named : n.names ≡ map (λ p. p.name) n.ports ++ inner_names
  all_named = sym (take-append-drop (length n.ports) n.names) ∙ ap (λ z. z ++ inner_names) (sym h.ports_first)

  -- inputs are ports
  input_is_port : (x : Name) (ps : List Port) → is_among x (map (λ p. p.name) (filter (λ p. is_input p.kind) ps)) ≡ true → is_among x (map (λ p. p.name) ps) ≡ true
  input_is_port x [] m = m
  input_is_port x (p ∷ ps) m = by_kind (is_input p.kind) (input_is_port x ps) m where
    by_kind : (b : Bool) → (is_among x (map (λ q. q.name) (filter (λ q. is_input q.kind) ps)) ≡ true → is_among x (map (λ q. q.name) ps) ≡ true)
        → is_among x (map (λ q. q.name) (cond b (p ∷ filter (λ q. is_input q.kind) ps) (filter (λ q. is_input q.kind) ps))) ≡ true
        → (bytes_eq x p.name || is_among x (map (λ q. q.name) ps)) ≡ true
    by_kind true f m = or_follows (bytes_eq x p.name) _ _ f m
    by_kind false f m = or_here (bytes_eq x p.name) _ (f m)

  perm : (a b c d : Bool) → (((a || b) || c) || d) ≡ (a || (c || (b || d)))
  perm true b c d = refl
  perm false true true d = refl
  perm false true false d = refl
  perm false false true d = refl
  perm false false false d = refl

  -- what is declared is found, and the other way round
  pub declared_found : (x : Name) → is_some (find (entities n) x) ≡ is_among x n.names
  declared_found x =
      let a = is_among x (input_names n) in
      let b = is_among x (wire_names n) in
      let c = is_among x (register_names n) in
      let d = is_among x (memory_names n) in
      found_key (entities n) x
      ∙ ap (is_among x) (entity_keys n)
      ∙ among_append x (input_names n) (register_names n ++ (wire_names n ++ memory_names n))
      ∙ ap (λ z. a || z) (among_append x (register_names n) (wire_names n ++ memory_names n) ∙ ap (λ z. c || z) (among_append x (wire_names n) (memory_names n)))
      ∙ sym (h.declared x
      ∙ among_append x ((input_names n ++ wire_names n) ++ register_names n) (memory_names n)
      ∙ ap (λ z. z || d) (among_append x (input_names n ++ wire_names n) (register_names n) ∙ ap (λ z. z || c) (among_append x (input_names n) (wire_names n)))
      ∙ perm a b c d)

  pub some_found : (x : Name) → is_among x n.names ≡ true → (s : Shape) × (find (entities n) x ≡ Some s)
  some_found x m = by_case (find (entities n) x) (declared_found x ∙ m) where
    by_case : (o : Option Shape) → is_some o ≡ true → (s : Shape) × (o ≡ Some s)
    by_case (Some s) e = (s, refl)
    by_case None e = absurd (cc)

  -- the names of the inputs, the registers, the wires or the memories
  abbrev pub names_of : Shape → List Name
  names_of (input w) = input_names n
  names_of (register w) = register_names n
  names_of (wire w) = wire_names n
  names_of (memory w d) = memory_names n

  abbrev IsNamed : Name → Shape → Type 0
  IsNamed x s = is_among x (names_of s) ≡ true

  -- what is found is one of those
  pub found_named : (x : Name) (s : Shape) → find (entities n) x ≡ Some s → is_among x (names_of s) ≡ true
  found_named x s f =
      ⊎_elim
      (λ m. let e = entry_of (λ (y : Input). y.name) (λ (y : Input). input y.width) n.inputs x s m in subst (IsNamed x) (sym e.shape) e.among)
      (λ m. ⊎_elim
      (λ m. let e = entry_of (λ (y : Register). y.name) (λ (y : Register). register y.width) n.registers x s m in subst (IsNamed x) (sym e.shape) e.among)
      (λ m. ⊎_elim
      (λ m. let e = entry_of (λ (y : Wire). y.name) (λ (y : Wire). wire y.width) n.wires x s m in subst (IsNamed x) (sym e.shape) e.among)
      (λ m. let e = entry_of (λ (y : Memory). y.name) (λ (y : Memory). memory y.width y.depth) n.memories x s m in subst (IsNamed x) (sym e.shape) e.among)
      (among_cases (entry x s) (wire_entries n) (memory_entries n) m))
      (among_cases (entry x s) (register_entries n) (wire_entries n ++ memory_entries n) m))
      (among_cases (entry x s) (input_entries n) (register_entries n ++ (wire_entries n ++ memory_entries n)) (among_found (entities n) x s f))

  pub inner_is : (x : Name) → is_among x inner_names ≡ true → IsInner x
  inner_is x m =
      let ports = map (λ p. p.name) n.ports in
      let named : is_among x n.names ≡ true = ap (is_among x) all_named ∙ among_append x ports inner_names ∙ or_here (is_among x ports) _ m in
      let apart = distinct_parts ports inner_names (subst AreDistinct all_named h.declared_once) in
      let s = some_found x named in (
        s.0,
        s.1,
        λ w e.
            let i = found_named x (input w) (s.1 ∙ ap (λ z. Some z) e) in
            not_among ports inner_names x apart.2 m (input_is_port x n.ports (subst (λ z. is_among x z ≡ true) (sym h.inputs_are_ports) i)),
      )

  pub all_declared : declarations (map (printed_port n) n.ports) (declarations_of n inner_names) ≡ map (declare n) n.names
  all_declared =
      ap (λ z. z ++ flat_map item_declarations (declarations_of n inner_names)) (ports_declared n.ports h.ports_show)
      ∙ ap (λ z. map (declare n) (map (λ p. p.name) n.ports) ++ z) (inners_declared inner_names (all_from IsInner inner_names inner_names inner_is (λ x m. m)))
      ∙ sym (map-append (declare n) (map (λ p. p.name) n.ports) inner_names)
      ∙ sym (ap (map (declare n)) all_named)

  shape_of_list : (xs : List Name) (x : Name) → shape_in (map (declare n) xs) x ≡ cond (is_among x xs) (Some (or_input (find (entities n) x))) None
  shape_of_list [] x = refl
  shape_of_list (y ∷ xs) x =
      ⊎_elim
      (λ t. let e = equal_of_bytes_eq y x t in
      rw t (subst (λ z. Some (or_input (find (entities n) z)) ≡ cond (is_among x (y ∷ xs)) (Some (or_input (find (entities n) x))) None) (sym e)
      (ap (λ b. cond (b || is_among x xs) (Some (or_input (find (entities n) x))) None) (sym (subst (λ z. bytes_eq x z ≡ true) (sym e) (bytes_eq_same x))))))
      (λ f. rw f (shape_of_list xs x ∙ ap (λ b. cond (b || is_among x xs) (Some (or_input (find (entities n) x))) None) (sym (bytes_eq_apart_back y x f))))
      (cases_Bool (bytes_eq y x))

  pub shape_found : (x : Name) → shape_in (map (declare n) n.names) x ≡ find (entities n) x
  shape_found x = shape_of_list n.names x ∙ ap (λ b. cond b (Some (or_input (find (entities n) x))) None) (sym (declared_found x)) ∙ by_case (find (entities n) x) where
    by_case : (o : Option Shape) → cond (is_some o) (Some (or_input o)) None ≡ o
    by_case (Some s) = refl
    by_case None = refl
