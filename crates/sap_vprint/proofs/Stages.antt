-- The printed items, one kind behind another, have no fault.
use Rattle.sap_lemmas.proofs.Common.{◌≡◌, ℕ, ◌+◌, ◌-◌, ◌<◌, List, [], ◌∷◌, ◌++◌, true, false, Option, Some, None, refl, sym, ap, ◌∙◌, subst, inl, inr, arith, append_assoc, ◌⊎◌, ◌||◌, map, flat_map, AllByRecursion, bytes_eq, cases_Bool, or_assoc, or_false, or_true, equal_of_bytes_eq, flat_map-append, append-nil}
use Rattle.std.proofs.lemmas.Nat.{pow_pos}
use Rattle.sap_vtext.proofs.FaultsLemmas.{set_append}
use Rattle.sap_maps.specs.Prelude.{Name, Scope, find}
use Rattle.sap_net.specs.Prelude.{Net, IsWidth, IsRight, AreWires, readable_after, IsNetlist, shapes, readable}
use Rattle.sap_net.specs.declared.parts.Wire.{Wire}
use Rattle.sap_net.specs.declared.parts.Memory.{Memory}
use Rattle.sap_vtext.specs.Items as item
use Rattle.sap_vtext.specs.Names.{Shape, input, wire, memory, shape_above, declarations, port_declaration, item_declarations, shape_in, Setting, assign, initial, Target, target_of, is_target, is_set, is_integer, has_integer}
use Rattle.sap_vtext.specs.Widths.{value_width, wire_width}
use Rattle.sap_vtext.proofs.Good.{IsGoodItem, above_of, AreGood}
use Rattle.sap_vtext.proofs.NameLists.{found_all}
use Rattle.sap_vprint.specs.Printed.{mention, entities, printed_port, declared_items, declarations_of, integer_of, assign_of}
use Rattle.sap_vprint.proofs.Entities.{IsShape, entities_fit}
use Rattle.sap_vprint.proofs.Declared.{IsInner}
use Rattle.sap_vprint.proofs.Operands.{Sees, right_good, right_fits, right_equal, right_indexed, right_fit}

pub good_append : (ps : List item.Port) (before xs ys : List item.Item) → AreGood ps before xs → AreGood ps (before ++ xs) ys → AreGood ps before (xs ++ ys)
good_append ps before [] ys p q = subst (λ z. AreGood ps z ys) (append-nil before) q
good_append ps before (x ∷ xs) ys p q = (p.0, good_append ps (before ++ (x ∷ [])) xs ys p.1 (subst (λ z. AreGood ps z ys) (sym (append_assoc before (x ∷ []) xs)) q))

pub integer_append : (xs ys : List item.Item) → has_integer (xs ++ ys) ≡ (has_integer xs || has_integer ys)
integer_append [] ys = refl
integer_append (y ∷ xs) ys = ap (λ b. is_integer y || b) (integer_append xs ys) ∙ or_assoc (is_integer y) (has_integer xs) (has_integer ys)

-- an item that declares nothing leaves the declarations
pub declares_nothing : (ps : List item.Port) (before : List item.Item) (xs : List item.Item) → flat_map item_declarations xs ≡ []
    → declarations ps (before ++ xs) ≡ declarations ps before
declares_nothing ps before xs e =
    ap (λ z. map port_declaration ps ++ z) (flat_map-append item_declarations before xs ∙ ap (λ z. flat_map item_declarations before ++ z) e
    ∙ append-nil (flat_map item_declarations before))

-- a target that nothing set before
pub fresh_target : (t u : Target) (before : List item.Item) → Some u ≡ Some t → is_set u.setting u.name.name before ≡ false → is_set t.setting t.name.name before ≡ false
fresh_target t u before e h = let p : u ≡ t = cc in subst (λ (z : Target). is_set z.setting z.name.name before ≡ false) p h

module _ (n : Net) (h : IsNetlist n) where
  abbrev pub ports : List item.Port
  ports = map (printed_port n) n.ports

  -- declarations
  declared_good : (x : Name) (s : Shape) (before : List item.Item) → IsShape s → ((w : ℕ) → s ≡ input w → ⊥) → AreGood ports before (declared_items x (Some s))
  declared_good x (input w) before g other = absurd (other w refl)
  declared_good x (memory w d) before g other =
      let top = g.0.1 in
      let low : 0 < d = subst (λ z. 0 < z) (sym g.1.1.2) (pow_pos g.1.0) in
      let back : d - 1 + 1 ≡ d = omega arith in (
        record {
          fresh = λ t e. absurd (cc);
          uses = tt;
          ranges = (omega arith, tt);
          constants = tt;
          pairs = tt;
          indexes = tt;
          fit =
              (g.1.0, (g.1.1.0, g.1.1.1, back ∙ g.1.1.2));
        },
        tt,
      )
  declared_good x _ before g other =
      let top = g.1 in
      (record { fresh = λ t e. absurd (cc); uses = tt; ranges = (omega arith, tt); constants = tt; pairs = tt; indexes = tt; fit = tt }, tt)

  pub declarations_good : (xs : List Name) (before : List item.Item) → AllByRecursion (IsInner n h) xs → AreGood ports before (declarations_of n xs)
  declarations_good [] before m = tt
  declarations_good (x ∷ xs) before m =
      good_append ports before (declared_items x (find (entities n) x)) (declarations_of n xs)
      (subst (λ o. AreGood ports before (declared_items x o)) (sym m.0.1) (declared_good x m.0.0 before (found_all IsShape (entities n) x m.0.0 (entities_fit n h) m.0.1) m.0.2))
      (declarations_good xs (before ++ declared_items x (find (entities n) x)) m.1)

  declared_quiet : (s : Setting) (x y : Name) (o : Option Shape) → (is_set s y (declared_items x o) ≡ false) × (has_integer (declared_items x o) ≡ false)
  declared_quiet s x y (Some (input w)) = (refl, refl)
  declared_quiet s x y _ = (refl, refl)

  -- declarations set nothing and are no integer
  pub declarations_set : (s : Setting) (y : Name) (xs : List Name) → is_set s y (declarations_of n xs) ≡ false
  declarations_set s y [] = refl
  declarations_set s y (x ∷ xs) =
      set_append s y (declared_items x (find (entities n) x)) (declarations_of n xs)
      ∙ ap (λ b. b || is_set s y (declarations_of n xs)) (declared_quiet s x y (find (entities n) x)).0 ∙ declarations_set s y xs

  pub declarations_integer : (xs : List Name) → has_integer (declarations_of n xs) ≡ false
  declarations_integer [] = refl
  declarations_integer (x ∷ xs) =
      integer_append (declared_items x (find (entities n) x)) (declarations_of n xs)
      ∙ ap (λ b. b || has_integer (declarations_of n xs)) (declared_quiet initial x x (find (entities n) x)).1 ∙ declarations_integer xs

  pub integer_good : (ms : List Memory) (before : List item.Item) → has_integer before ≡ false → AreGood ports before (integer_of ms)
  integer_good [] before e = tt
  integer_good (m ∷ ms) before e = (record { fresh = λ t f. absurd (cc); uses = tt; ranges = tt; constants = tt; pairs = tt; indexes = tt; fit = e }, tt)

  -- assigns

  -- only what can be read is assigned
  abbrev pub OnlyRead : Scope → List item.Item → Type 0
  OnlyRead readable before = (x : Name) → find readable x ≡ None → is_set assign x before ≡ false

  assign_good : (w : Wire) (readable : Scope) (before : List item.Item) → Sees n (above_of ports before) readable → OnlyRead readable before
      → IsWidth w.width → find readable w.name ≡ None → IsRight (shapes n) readable w.width w.right → find (entities n) w.name ≡ Some (wire w.width)
      → IsGoodItem (above_of ports before) (assign_of w)
  assign_good w readable before sees only wide new r found =
      let a = above_of ports before in
      let target : wire_width (shape_above a w.name) ≡ Some w.width = ap wire_width (sees.found w.name ∙ found) in
      record {
        fresh = λ t e. fresh_target t (record { setting = assign; name = mention w.name }) before e (only w.name new);
        uses = (
          record { shape = wire w.width; declared = sees.found w.name ∙ found; suits = refl; assigned = λ u e f. absurd (cc) },
          right_good n a readable sees w.width w.right r,
        );
        ranges = tt;
        constants = right_fits n a readable sees w.width w.right wide r;
        pairs = right_equal n a readable sees w.width w.right (wire_width (shape_above a w.name)) wide target r;
        indexes = right_indexed n a readable sees w.width w.right r;
        fit = right_fit n a readable sees w.name w.width w.right wide r;
      }

  pub found_kept : (before : List item.Item) (y : item.Item) → item_declarations y ≡ [] → ((x : Name) → shape_above (above_of ports before) x ≡ find (entities n) x)
      → (x : Name) → shape_above (above_of ports (before ++ (y ∷ []))) x ≡ find (entities n) x
  found_kept before y e f x = ap (λ ds. shape_in ds x) (declares_nothing ports before (y ∷ []) (ap (λ z. z ++ []) e)) ∙ f x

  pub set_more : (s : Setting) (x : Name) (before : List item.Item) (y : item.Item) → is_set s x (before ++ (y ∷ [])) ≡ (is_set s x before || is_target s x (target_of y))
  set_more s x before y = set_append s x before (y ∷ []) ∙ ap (λ b. is_set s x before || b) (or_false (is_target s x (target_of y)))

  -- an assigned wire can be read
  sees_more : (w : Wire) (readable : Scope) (before : List item.Item) → Sees n (above_of ports before) readable → find (entities n) w.name ≡ Some (wire w.width)
      → Sees n (above_of ports (before ++ (assign_of w ∷ []))) ((w.name, w.width) ∷ readable)
  sees_more w readable before sees found = record {
    found = found_kept before (assign_of w) refl sees.found;
    values = λ x u f. by_name x u (cases_Bool (bytes_eq w.name x)) f;
    cells = sees.cells;
    deep = sees.deep;
  } where
    by_name : (x : Name) (u : ℕ) → (bytes_eq w.name x ≡ true) ⊎ (bytes_eq w.name x ≡ false) → find ((w.name, w.width) ∷ readable) x ≡ Some u
        → value_width (find (entities n) x) (is_set assign x (before ++ (assign_of w ∷ []))) ≡ Some u
    by_name x u (inl t) f =
        let e = equal_of_bytes_eq w.name x t in
        let width : Some w.width ≡ Some u = rw t at f in
        let set : is_set assign x (before ++ (assign_of w ∷ [])) ≡ true =
        set_more assign x before (assign_of w) ∙ ap (λ b. is_set assign x before || b) t ∙ or_true (is_set assign x before) in
        ap (λ b. value_width (find (entities n) x) b) set
        ∙ ap (λ o. value_width o true) (subst (λ z. find (entities n) z ≡ Some (wire w.width)) e found) ∙ width
    by_name x u (inr t) f =
        let set : is_set assign x (before ++ (assign_of w ∷ [])) ≡ is_set assign x before =
        set_more assign x before (assign_of w) ∙ ap (λ b. is_set assign x before || b) t ∙ or_false (is_set assign x before) in
        ap (λ b. value_width (find (entities n) x) b) set ∙ sees.values x u (rw t at f)

  only_more : (w : Wire) (readable : Scope) (before : List item.Item) → OnlyRead readable before → OnlyRead ((w.name, w.width) ∷ readable) (before ++ (assign_of w ∷ []))
  only_more w readable before only x none =
      let apart = first_apart (cases_Bool (bytes_eq w.name x)) none in
      set_more assign x before (assign_of w) ∙ ap (λ b. is_set assign x before || b) apart.0 ∙ or_false (is_set assign x before) ∙ only x apart.1 where
        first_apart : (bytes_eq w.name x ≡ true) ⊎ (bytes_eq w.name x ≡ false) → find ((w.name, w.width) ∷ readable) x ≡ None
            → (bytes_eq w.name x ≡ false) × (find readable x ≡ None)
        first_apart (inl t) f = absurd (let g : Some w.width ≡ None = rw t at f in cc)
        first_apart (inr t) f = (t, rw t at f)

  pub assigns_good : (ws : List Wire) (readable : Scope) (before : List item.Item) → Sees n (above_of ports before) readable → OnlyRead readable before
      → AreWires (shapes n) readable ws → AllByRecursion (λ w. find (entities n) w.name ≡ Some (wire w.width)) ws → AreGood ports before (map assign_of ws)
  assigns_good [] readable before sees only r found = tt
  assigns_good (w ∷ ws) readable before sees only r found = (
    assign_good w readable before sees only r.0 r.1 r.3 found.0,
    assigns_good ws ((w.name, w.width) ∷ readable) (before ++ (assign_of w ∷ [])) (sees_more w readable before sees found.0) (only_more w readable before only) r.4 found.1,
  )

  pub assigns_seen : (ws : List Wire) (readable : Scope) (before : List item.Item) → Sees n (above_of ports before) readable
      → AllByRecursion (λ w. find (entities n) w.name ≡ Some (wire w.width)) ws → Sees n (above_of ports (before ++ map assign_of ws)) (readable_after readable ws)
  assigns_seen [] readable before sees found = subst (λ z. Sees n (above_of ports z) readable) (sym (append-nil before)) sees
  assigns_seen (w ∷ ws) readable before sees found =
      subst (λ z. Sees n (above_of ports z) (readable_after ((w.name, w.width) ∷ readable) ws)) (append_assoc before (assign_of w ∷ []) (map assign_of ws))
      (assigns_seen ws ((w.name, w.width) ∷ readable) (before ++ (assign_of w ∷ [])) (sees_more w readable before sees found.0) found.1)
