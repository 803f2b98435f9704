-- A netlist's names are written as names, and its numbers are small.
use Rattle.sap_lemmas.proofs.Common.{◌≡◌, ℕ, ◌^◌, ◌<◌, ◌≤◌, arith, List, [], ◌∷◌, length, true, Option, Some, None, refl, sym, ap, ◌∙◌, subst, ⊎_elim, ◌||◌, ◌&&◌, not, map, is_some, AllByRecursion, list_all, bytes_eq, cases_Bool, and_parts, not-true, pow_mono, all_append, equal_of_bytes_eq}
use Rattle.sap_lemmas.proofs.Everywhere.{none_found}
use Rattle.sap_text.proofs.NamesLemmas.{initial_inner}
use Rattle.sap_vtext.proofs.LexingLemmas.{keywords_are}
use Rattle.sap_maps.specs.Prelude.{Name, Scope, find}
use Rattle.sap_net.specs.Prelude.{is_initial, is_inner, is_word, is_keyword, is_name, is_among, Net, IsWidth, IsOperand, AreOperands, IsRight, AreWires, readable_after, IsNetlist, PortShows, first_readable, readable, shapes}
use Rattle.sap_net.specs.declared.parts.Operand.{Operand}
use Rattle.sap_net.specs.declared.parts.Operand.TheVariants.{Named, Constant}
use Rattle.sap_net.specs.declared.parts.Right.{Right}
use Rattle.sap_net.specs.declared.parts.Port.{Port}
use Rattle.sap_net.specs.declared.parts.Wire.{Wire}
use Rattle.sap_net.specs.declared.parts.Register.{Register}
use Rattle.sap_net.specs.declared.parts.Memory.{Memory}
use Rattle.sap_net.specs.declared.parts.Right.TheVariants as right
use Rattle.sap_vtext.specs.Items as item
use Rattle.sap_vtext.specs.Names.{Shape, input, wire, register, memory, port_shape}
use Rattle.sap_vtext.specs.Widths.{value_width}
use Rattle.sap_vtext.specs.Lexing.{word_text, words, word_or_name}
use Rattle.sap_vtext.proofs.NameLists.{found_all}
use Rattle.sap_vprint.specs.Printed.{constant, entities, operand_of, right_of, direction_of, printed_port, declared_items, declarations_of, integer_of, assign_of, initial_of, initial_cells_of, always_of, always_cell_of, file_of}
use Rattle.sap_vprint.proofs.Spelled.{IsName, IsWritable}
use Rattle.sap_vprint.proofs.Written.{IsOperandWritten, IsRightWritten, IsItemWritten, IsPortWritten, IsFileWritten}
use Rattle.sap_vprint.proofs.Entities.{IsShape, entities_fit}
use Rattle.sap_vprint.proofs.Declared.{IsInner, inner_names, declared_found, port_found}
use Rattle.sap_vprint.proofs.Whole.{first_found, cells_found, cells_deep, inner_all, wires_found, registers_are, stores_are, port_small}
use Rattle.sap_vprint.proofs.ReadBack.{HasParts}
use Rattle.sap_vprint.proofs.Edges.{AreRegisters, AreStores}

pub name_written : (n : List ℕ) → is_name n ≡ true → IsName n
unfolding is_name
name_written [] h = absurd (cc)
name_written (c ∷ cs) h =
    let w = and_parts (is_word (c ∷ cs)) (not (is_keyword (c ∷ cs))) h in
    let v = and_parts (is_initial c) (list_all is_inner cs) w.0 in
    record {
      first = c;
      others = cs;
      parts = refl;
      start = v.0;
      bytes = ap (λ b. b && list_all is_inner cs) (initial_inner c v.0) ∙ v.1;
      kind = ap (λ o. word_or_name o (c ∷ cs)) (none_found (λ w. bytes_eq (c ∷ cs) (word_text w)) words (keywords_are (c ∷ cs) ∙ not-true (is_keyword (c ∷ cs)) w.1));
    }

small_width : (w v : ℕ) → IsWidth w → v < 2 ^ w → IsWritable (constant w v)
small_width w v h g =
    let low = h.0 in let top = h.1 in
    let most : 2 ^ w ≤ 2 ^ 64 = pow_mono h.1 in
    record { positive = omega arith; width = omega arith; value = omega arith }

module _ (n : Net) (h : IsNetlist n) where
  among_named : (xs : List Name) (x : Name) → AllByRecursion (λ y. is_name y ≡ true) xs → is_among x xs ≡ true → is_name x ≡ true
  among_named [] x a m = absurd (cc)
  among_named (y ∷ ys) x a m =
      ⊎_elim
      (λ t. subst (λ z. is_name z ≡ true) (sym (equal_of_bytes_eq x y t)) a.0)
      (λ f. among_named ys x a.1 (ap (λ b. b || is_among x ys) (sym f) ∙ m))
      (cases_Bool (bytes_eq x y))

  listed_name : (x : Name) → is_among x n.names ≡ true → IsName x
  listed_name x m = name_written x (among_named n.names x h.named m)

  -- what is found is declared, and so a name
  found_name : (x : Name) (s : Shape) → find (entities n) x ≡ Some s → IsName x
  found_name x s f = listed_name x (sym (declared_found n h x) ∙ ap is_some f)

  -- all that can be read are names
  abbrev AreNames : Scope → Type 0
  AreNames readable = (x : Name) (w : ℕ) → find readable x ≡ Some w → IsName x

  first_names : AreNames (first_readable n)
  first_names x w f = by_shape (find (entities n) x) refl (first_found n h x w f true) where
    by_shape : (o : Option Shape) → find (entities n) x ≡ o → value_width o true ≡ Some w → IsName x
    by_shape None e v = absurd (cc)
    by_shape (Some s) e v = found_name x s e

  names_more : (w : Wire) (readable : Scope) → find (entities n) w.name ≡ Some (wire w.width) → AreNames readable → AreNames ((w.name, w.width) ∷ readable)
  names_more w readable found names x u f =
      ⊎_elim
      (λ t. subst IsName (equal_of_bytes_eq w.name x t) (found_name w.name (wire w.width) found))
      (λ e. names x u (rw e at f))
      (cases_Bool (bytes_eq w.name x))

  names_after : (ws : List Wire) (readable : Scope) → AllByRecursion (λ w. find (entities n) w.name ≡ Some (wire w.width)) ws
      → AreNames readable → AreNames (readable_after readable ws)
  names_after [] readable found names = names
  names_after (w ∷ ws) readable found names = names_after ws ((w.name, w.width) ∷ readable) found.1 (names_more w readable found.0 names)

  operand_written : (readable : Scope) → AreNames readable → (o : Operand) (w : ℕ) → IsWidth w → IsOperand readable w o → IsOperandWritten (operand_of o)
  operand_written readable names (Named x) w g f = names x w f
  operand_written readable names (Constant u v) w g f = small_width u v (subst IsWidth (sym f.0) g) (subst (λ z. v < 2 ^ z) (sym f.0) f.1)

  parts_written : (readable : Scope) → AreNames readable → (os : List Operand) (w : ℕ) → AreOperands readable w os → AllByRecursion IsOperandWritten (map operand_of os)
  parts_written readable names [] w f = tt
  parts_written readable names (o ∷ os) w f = (operand_written readable names o f.0 f.2 f.3, parts_written readable names os f.1 f.4)

  two_parts : (os : List Operand) → 2 ≤ length os → HasParts (item.concat (map operand_of os))
  two_parts [] f = absurd (omega arith)
  two_parts (o ∷ []) f = absurd (omega arith)
  two_parts (o ∷ p ∷ os) f = tt

  cell_name : (x : Name) (w d : ℕ) → ◌≡◌ {A = Option (ℕ × ℕ)} (find (shapes n) x) (Some (w, d)) → IsName x
  cell_name x w d f = found_name x (memory w d) (cells_found n h x w d f)

  right_written : (readable : Scope) → AreNames readable → (w : ℕ) (r : Right) → IsWidth w → IsRight (shapes n) readable w r → IsRightWritten (right_of r)
  right_written readable names w (right.Copy x) g f = operand_written readable names x w g f
  right_written readable names w (right.One op x) g f = operand_written readable names x f.0 f.1 f.2
  right_written readable names w (right.Two op x y) g f = (operand_written readable names x f.0 f.2 f.4, operand_written readable names y f.1 f.3 f.5)
  right_written readable names w (right.Choose c x y) g f =
      (operand_written readable names c 1 (omega arith, omega arith) f.0, operand_written readable names x w g f.1, operand_written readable names y w g f.2)
  right_written readable names w (right.Concat os) g f = (parts_written readable names os w f.1, two_parts os f.0)
  right_written readable names w (right.Slice x hi lo) g f = let top = f.1.1 in let low = f.3 in let high = f.4 in (names x f.0 f.2, omega arith, omega arith)
  right_written readable names w (right.Cell m i) g f = (cell_name m w (2 ^ f.0) f.1, operand_written readable names i f.0 (cells_deep n h m w f.0 f.1) f.2)

  assigns_written : (ws : List Wire) (readable : Scope) → AreNames readable
      → AllByRecursion (λ w. find (entities n) w.name ≡ Some (wire w.width)) ws → AreWires (shapes n) readable ws
      → AllByRecursion IsItemWritten (map assign_of ws)
  assigns_written [] readable names found f = tt
  assigns_written (w ∷ ws) readable names found f = (
    (found_name w.name (wire w.width) found.0, right_written readable names w.width w.right f.0 f.3),
    assigns_written ws ((w.name, w.width) ∷ readable) (names_more w readable found.0 names) found.1 f.4,
  )

  all_names : AreNames (readable n)
  all_names = names_after n.wires (first_readable n) (wires_found n h) first_names

  initials_written : (rs : List Register) → AreRegisters n h rs → AllByRecursion IsItemWritten (map initial_of rs)
  initials_written [] m = tt
  initials_written (r ∷ rs) m = ((found_name r.name (register r.width) m.0.0, small_width r.width r.start m.0.1 m.0.2.0), initials_written rs m.1)

  always_written : (rs : List Register) → AreRegisters n h rs → AllByRecursion IsItemWritten (map always_of rs)
  always_written [] m = tt
  always_written (r ∷ rs) m =
      ((found_name r.name (register r.width) m.0.0, operand_written (readable n) all_names r.next r.width m.0.1 m.0.2.1), always_written rs m.1)

  depth_small : (d b : ℕ) → b ≤ 12 → d ≡ 2 ^ b → d < 2 ^ 64
  depth_small d b low e = let most : 2 ^ b ≤ 2 ^ 12 = pow_mono low in omega arith

  cells_written : (ms : List Memory) → AreStores n h ms → AllByRecursion IsItemWritten (map initial_cells_of ms)
  cells_written [] m = tt
  cells_written (x ∷ xs) m =
      let s = m.0.2 in
      ((depth_small x.depth s.bits s.depth.1 s.depth.2, found_name x.name (memory x.width x.depth) m.0.0, small_width x.width x.start m.0.1 s.start), cells_written xs m.1)

  writes_written : (ms : List Memory) → AreStores n h ms → AllByRecursion IsItemWritten (map always_cell_of ms)
  writes_written [] m = tt
  writes_written (x ∷ xs) m =
      let s = m.0.2 in
      let top = s.depth.1 in
      let deep : IsWidth s.bits = (s.depth.0, omega arith) in (
        (
          operand_written (readable n) all_names x.enable 1 (omega arith, omega arith) s.enable,
          found_name x.name (memory x.width x.depth) m.0.0,
          operand_written (readable n) all_names x.index s.bits deep s.index,
          operand_written (readable n) all_names x.value x.width m.0.1 s.value,
        ),
        writes_written xs m.1,
      )

  declared_written : (x : Name) (s : Shape) → IsName x → IsShape s → AllByRecursion IsItemWritten (declared_items x (Some s))
  declared_written x (input w) name g = tt
  declared_written x (wire w) name g = let top = g.1 in ((omega arith, name), tt)
  declared_written x (register w) name g = let top = g.1 in ((omega arith, name), tt)
  declared_written x (memory w d) name g =
      let top = g.0.1 in
      let most : 2 ^ g.1.0 ≤ 2 ^ 12 = pow_mono g.1.1.1 in
      let depth = g.1.1.2 in
      ((omega arith, name, omega arith), tt)

  declarations_written : (xs : List Name) → AllByRecursion (IsInner n h) xs → AllByRecursion IsItemWritten (declarations_of n xs)
  declarations_written [] m = tt
  declarations_written (x ∷ xs) m =
      all_append IsItemWritten (declared_items x (find (entities n) x)) (declarations_of n xs)
      (subst (λ o. AllByRecursion IsItemWritten (declared_items x o)) (sym m.0.1)
      (declared_written x m.0.0 (found_name x m.0.0 m.0.1) (found_all IsShape (entities n) x m.0.0 (entities_fit n h) m.0.1)))
      (declarations_written xs m.1)

  integer_written : (ms : List Memory) → AllByRecursion IsItemWritten (integer_of ms)
  integer_written [] = tt
  integer_written (m ∷ ms) = (tt, tt)

  port_written : (p : Port) → PortShows n p.kind p.name → IsPortWritten (printed_port n p)
  port_written p m =
      let f = port_found n h p.kind p.name m in
      let small = port_small n h p m in
      (omega arith, found_name p.name (port_shape (direction_of p.kind) f.0) f.1)

  ports_written : (ps : List Port) → AllByRecursion (λ p. PortShows n p.kind p.name) ps → AllByRecursion IsPortWritten (map (printed_port n) ps)
  ports_written [] m = tt
  ports_written (p ∷ ps) m = (port_written p m.0, ports_written ps m.1)

  pub file_written : IsFileWritten (file_of n)
  file_written = record {
    name = name_written n.module_name h.module_named;
    ports = ports_written n.ports h.ports_show;
    items =
        all_append IsItemWritten (declarations_of n (inner_names n h)) _ (declarations_written (inner_names n h) (inner_all n h))
        (all_append IsItemWritten (integer_of n.memories) _ (integer_written n.memories)
        (all_append IsItemWritten (map assign_of n.wires) _ (assigns_written n.wires (first_readable n) first_names (wires_found n h) h.assigns)
        (all_append IsItemWritten (map initial_of n.registers) _ (initials_written n.registers (registers_are n h))
        (all_append IsItemWritten (map initial_cells_of n.memories) _ (cells_written n.memories (stores_are n h))
        (all_append IsItemWritten (map always_of n.registers) (map always_cell_of n.memories)
        (always_written n.registers (registers_are n h)) (writes_written n.memories (stores_are n h)))))));
  }
