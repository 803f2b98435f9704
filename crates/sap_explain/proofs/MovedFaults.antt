-- Faults move with the places of a file.
use Rattle.sap_lemmas.proofs.Common.{◌≡◌, ℕ, List, [], ◌∷◌, ◌++◌, cond, Option, Some, refl, sym, ap, ◌∙◌, subst, ◌||◌, map, flat_map, IsSome, option_map, bytes_eq, inl, inr, map-append}
use Rattle.sap_vtext.specs.Items.{Mention, Operand, Right, Item, Port, File}
use Rattle.sap_vtext.specs.Items as item
use Rattle.sap_vtext.specs.Faults
use Rattle.sap_text.specs.Best.{StandsIn}
use Rattle.sap_vtext.specs.Names.{Declaration, port_declaration, item_declarations, declarations, shape_in, Above, IsItemOf, shape_above, Setting, Target, target_of, is_target, is_set, is_integer, has_integer, assign, known_above}
use Rattle.sap_vtext.specs.Widths.{value_width, unary_pairs, unary_rule, binary_pairs, binary_rule, slice_width, memory_width, wire_width, register_width, operand_width, parts_width, right_pairs, pairs, add_widths}
use Rattle.sap_vtext.specs.Faults.{is_settable, Use, operand_uses, right_uses, uses, operand_constants, right_constants, constants, ranges, right_indexes, indexes, operand_place, V3, V4, V5, V6, V7}
use Rattle.sap_explain.proofs.Moved.{moved_name, moved_number, moved_constant, moved_operand, moved_right, moved_item, moved_port, moved}

module _ (move : ℕ → ℕ) where
  abbrev pub moved_declaration : Declaration → Declaration
  moved_declaration d = record { name = moved_name move d.name; shape = d.shape }

  abbrev moved_above : Above → Above
  moved_above a = record { ports = map (moved_port move) a.ports; items = map (moved_item move) a.items }

  abbrev moved_target : Target → Target
  moved_target t = record { setting = t.setting; name = moved_name move t.name }

  abbrev moved_use : Use → Use
  moved_use u = record { manner = u.manner; name = moved_name move u.name }

  ports_declared : (ps : List Port) → map port_declaration (map (moved_port move) ps) ≡ map moved_declaration (map port_declaration ps)
  ports_declared [] = refl
  ports_declared (p ∷ ps) = ap (λ ds. moved_declaration (port_declaration p) ∷ ds) (ports_declared ps)

  item_declared : (x : Item) → item_declarations (moved_item move x) ≡ map moved_declaration (item_declarations x)
  item_declared (item.wire n x) = refl
  item_declared _ = refl

  items_declared : (xs : List Item) → flat_map item_declarations (map (moved_item move) xs) ≡ map moved_declaration (flat_map item_declarations xs)
  items_declared [] = refl
  items_declared (x ∷ xs) =
      ap (λ ds. ds ++ flat_map item_declarations (map (moved_item move) xs)) (item_declared x) ∙ ap (λ ds. map moved_declaration (item_declarations x) ++ ds) (items_declared xs)
      ∙ sym (map-append moved_declaration (item_declarations x) (flat_map item_declarations xs))

  pub all_declared : (ps : List Port) (xs : List Item) → declarations (map (moved_port move) ps) (map (moved_item move) xs) ≡ map moved_declaration (declarations ps xs)
  all_declared ps xs =
      ap (λ ds. ds ++ flat_map item_declarations (map (moved_item move) xs)) (ports_declared ps) ∙ ap (λ ds. map moved_declaration (map port_declaration ps) ++ ds) (items_declared xs)
      ∙ sym (map-append moved_declaration (map port_declaration ps) (flat_map item_declarations xs))

  pub moved_shape_in : (ds : List Declaration) (n : List ℕ) → shape_in (map moved_declaration ds) n ≡ shape_in ds n
  moved_shape_in [] n = refl
  moved_shape_in (d ∷ ds) n = ap (λ o. cond (bytes_eq d.name.name n) (Some d.shape) o) (moved_shape_in ds n)

  moved_shape_above : (a : Above) (n : List ℕ) → shape_above (moved_above a) n ≡ shape_above a n
  moved_shape_above a n = ap (λ ds. shape_in ds n) (all_declared a.ports a.items) ∙ moved_shape_in (declarations a.ports a.items) n

  moved_is_target : (s : Setting) (n : List ℕ) (x : Item) → is_target s n (target_of (moved_item move x)) ≡ is_target s n (target_of x)
  moved_is_target s n (item.assign x right) = refl
  moved_is_target s n _ = refl

  moved_is_set : (s : Setting) (n : List ℕ) (xs : List Item) → is_set s n (map (moved_item move) xs) ≡ is_set s n xs
  moved_is_set s n [] = refl
  moved_is_set s n (x ∷ xs) =
      ap (λ b. b || is_set s n (map (moved_item move) xs)) (moved_is_target s n x) ∙ ap (λ b. is_target s n (target_of x) || b) (moved_is_set s n xs)

  moved_is_integer : (x : Item) → is_integer (moved_item move x) ≡ is_integer x
  moved_is_integer (item.integer place) = refl
  moved_is_integer _ = refl

  moved_has_integer : (xs : List Item) → has_integer (map (moved_item move) xs) ≡ has_integer xs
  moved_has_integer [] = refl
  moved_has_integer (x ∷ xs) = ap (λ b. b || has_integer (map (moved_item move) xs)) (moved_is_integer x) ∙ ap (λ b. is_integer x || b) (moved_has_integer xs)

  moved_target_of : (x : Item) (t : Target) → target_of x ≡ Some t → target_of (moved_item move x) ≡ Some (moved_target t)
  moved_target_of (item.wire n x) t e = absurd (cc)
  moved_target_of (item.register n x) t e = absurd (cc)
  moved_target_of (item.memory n x last) t e = absurd (cc)
  moved_target_of (item.integer place) t e = absurd (cc)
  moved_target_of _ t e = ap (option_map moved_target) e

  -- what each operand has, all of them have
  moved_operand_uses : (x : Operand) → operand_uses (moved_operand move x) ≡ map moved_use (operand_uses x)
  moved_operand_uses (item.named x) = refl
  moved_operand_uses (item.constant c) = refl

  moved_operand_constants : (x : Operand) → operand_constants (moved_operand move x) ≡ map (moved_constant move) (operand_constants x)
  moved_operand_constants (item.named x) = refl
  moved_operand_constants (item.constant c) = refl

  module _ {A : Type 0} (f : A → A) (of : Operand → List A) (one : (x : Operand) → of (moved_operand move x) ≡ map f (of x)) where
    two_of : (x y : Operand) → of (moved_operand move x) ++ of (moved_operand move y) ≡ map f (of x ++ of y)
    two_of x y = ap (λ z. z ++ of (moved_operand move y)) (one x) ∙ ap (λ z. map f (of x) ++ z) (one y) ∙ sym (map-append f (of x) (of y))

    three_of : (x y z : Operand) → of (moved_operand move x) ++ (of (moved_operand move y) ++ of (moved_operand move z)) ≡ map f (of x ++ (of y ++ of z))
    three_of x y z =
        ap (λ w. w ++ (of (moved_operand move y) ++ of (moved_operand move z))) (one x) ∙ ap (λ w. map f (of x) ++ w) (two_of y z) ∙ sym (map-append f (of x) (of y ++ of z))

    all_of : (xs : List Operand) → flat_map of (map (moved_operand move) xs) ≡ map f (flat_map of xs)
    all_of [] = refl
    all_of (x ∷ xs) = ap (λ z. z ++ flat_map of (map (moved_operand move) xs)) (one x) ∙ ap (λ z. map f (of x) ++ z) (all_of xs) ∙ sym (map-append f (of x) (flat_map of xs))

  moved_right_uses : (right : Right) → right_uses (moved_right move right) ≡ map moved_use (right_uses right)
  moved_right_uses (item.copy x) = moved_operand_uses x
  moved_right_uses (item.one op x) = moved_operand_uses x
  moved_right_uses (item.two op x y) = two_of moved_use operand_uses moved_operand_uses x y
  moved_right_uses (item.choose c x y) = three_of moved_use operand_uses moved_operand_uses c x y
  moved_right_uses (item.concat xs) = all_of moved_use operand_uses moved_operand_uses xs
  moved_right_uses (item.slice x high low) = refl
  moved_right_uses (item.cell m index) = ap (λ us. moved_use (record { manner = Faults.as_cell; name = m }) ∷ us) (moved_operand_uses index)

  moved_uses : (x : Item) → uses (moved_item move x) ≡ map moved_use (uses x)
  moved_uses (item.assign x right) = ap (λ us. moved_use (record { manner = Faults.as_wire; name = x }) ∷ us) (moved_right_uses right)
  moved_uses (item.always x next) = ap (λ us. moved_use (record { manner = Faults.as_register; name = x }) ∷ us) (moved_operand_uses next)
  moved_uses (item.always_cell condition x index value) =
      let target : Use = record { manner = Faults.as_memory; name = x } in
      ap (λ us. us ++ (moved_use target ∷ (operand_uses (moved_operand move index) ++ operand_uses (moved_operand move value)))) (moved_operand_uses condition)
      ∙ ap (λ us. map moved_use (operand_uses condition) ++ (moved_use target ∷ us)) (two_of moved_use operand_uses moved_operand_uses index value)
      ∙ sym (map-append moved_use (operand_uses condition) (target ∷ (operand_uses index ++ operand_uses value)))
  moved_uses _ = refl

  moved_right_constants : (right : Right) → right_constants (moved_right move right) ≡ map (moved_constant move) (right_constants right)
  moved_right_constants (item.copy x) = moved_operand_constants x
  moved_right_constants (item.one op x) = moved_operand_constants x
  moved_right_constants (item.two op x y) = two_of (moved_constant move) operand_constants moved_operand_constants x y
  moved_right_constants (item.choose c x y) = three_of (moved_constant move) operand_constants moved_operand_constants c x y
  moved_right_constants (item.concat xs) = all_of (moved_constant move) operand_constants moved_operand_constants xs
  moved_right_constants (item.slice x high low) = refl
  moved_right_constants (item.cell m index) = moved_operand_constants index

  moved_constants : (x : Item) → constants (moved_item move x) ≡ map (moved_constant move) (constants x)
  moved_constants (item.assign x right) = moved_right_constants right
  moved_constants (item.always x next) = moved_operand_constants next
  moved_constants (item.always_cell condition x index value) = three_of (moved_constant move) operand_constants moved_operand_constants condition index value
  moved_constants _ = refl

  moved_ranges : (x : Item) → ranges (moved_item move x) ≡ map (moved_number move) (ranges x)
  moved_ranges (item.wire n x) = refl
  moved_ranges _ = refl

  abbrev moved_index : Mention × Operand → Mention × Operand
  moved_index p = (moved_name move p.0, moved_operand move p.1)

  moved_right_indexes : (right : Right) → right_indexes (moved_right move right) ≡ map moved_index (right_indexes right)
  moved_right_indexes (item.cell m index) = refl
  moved_right_indexes _ = refl

  moved_indexes : (x : Item) → indexes (moved_item move x) ≡ map moved_index (indexes x)
  moved_indexes (item.assign x right) = moved_right_indexes right
  moved_indexes _ = refl

  moved_width : (a : Above) (x : Operand) → operand_width (known_above (moved_above a)) (moved_operand move x) ≡ operand_width (known_above a) x
  moved_width a (item.named x) =
      ap (λ s. value_width s (is_set assign x.name (map (moved_item move) a.items))) (moved_shape_above a x.name) ∙ ap (value_width (shape_above a x.name)) (moved_is_set assign x.name a.items)
  moved_width a (item.constant c) = refl

  moved_parts_width : (a : Above) (xs : List Operand) → parts_width (known_above (moved_above a)) (map (moved_operand move) xs) ≡ parts_width (known_above a) xs
  moved_parts_width a [] = refl
  moved_parts_width a (x ∷ xs) =
      ap (λ w. add_widths w (parts_width (known_above (moved_above a)) (map (moved_operand move) xs))) (moved_width a x)
      ∙ ap (add_widths (operand_width (known_above a) x)) (moved_parts_width a xs)

  moved_right_pairs : (a : Above) (target target' : Option ℕ) (right : Right) → target' ≡ target
      → right_pairs (known_above (moved_above a)) target' (moved_right move right) ≡ right_pairs (known_above a) target right
  moved_right_pairs a target target' (item.copy x) e = let w = moved_width a x in cc
  moved_right_pairs a target target' (item.one op x) e =
      ap (λ w. unary_pairs (unary_rule op) target' w) (moved_width a x) ∙ ap (λ t. unary_pairs (unary_rule op) t (operand_width (known_above a) x)) e
  moved_right_pairs a target target' (item.two op x y) e =
      ap (λ w. binary_pairs (binary_rule op) target' w (operand_width (known_above (moved_above a)) (moved_operand move y))) (moved_width a x)
      ∙ ap (λ w. binary_pairs (binary_rule op) target' (operand_width (known_above a) x) w) (moved_width a y)
      ∙ ap (λ t. binary_pairs (binary_rule op) t (operand_width (known_above a) x) (operand_width (known_above a) y)) e
  moved_right_pairs a target target' (item.choose c x y) e = let u = moved_width a c in let v = moved_width a x in let w = moved_width a y in cc
  moved_right_pairs a target target' (item.concat xs) e = let w = moved_parts_width a xs in cc
  moved_right_pairs a target target' (item.slice x high low) e =
      let w = ap (λ v. slice_width v high low) (moved_width a (item.named x)) in cc
  moved_right_pairs a target target' (item.cell m index) e =
      let w = ap memory_width (moved_shape_above a m.name) in cc

  moved_pairs : (a : Above) (x : Item) → pairs (known_above (moved_above a)) (moved_item move x) ≡ pairs (known_above a) x
  moved_pairs a (item.assign x right) = moved_right_pairs a _ _ right (ap wire_width (moved_shape_above a x.name))
  moved_pairs a (item.initial x value) = let w = ap register_width (moved_shape_above a x.name) in cc
  moved_pairs a (item.initial_cells place bound x value) = let w = ap memory_width (moved_shape_above a x.name) in cc
  moved_pairs a (item.always x next) = let w = ap register_width (moved_shape_above a x.name) in let v = moved_width a next in cc
  moved_pairs a (item.always_cell condition x index value) =
      let u = moved_width a condition in let w = ap memory_width (moved_shape_above a x.name) in let v = moved_width a value in cc
  moved_pairs a _ = refl

  -- faults

  moved_item_of : (f : File) (a : Above) (x : Item) → IsItemOf f a x → IsItemOf (moved move f) (moved_above a) (moved_item move x)
  moved_item_of f a x h = record {
    below = map (moved_item move) h.below;
    ports = ap (map (moved_port move)) h.ports;
    items = ap (map (moved_item move)) h.items ∙ map-append (moved_item move) a.items (x ∷ h.below);
  }

  among_map : {A B : Type 0} (f : A → B) (x : A) (xs : List A) → StandsIn x xs → StandsIn (f x) (map f xs)
  among_map f x [] h = absurd h
  among_map f x (y ∷ ys) (inl e) = inl (ap f e)
  among_map f x (y ∷ ys) (inr h) = inr (among_map f x ys h)

  among_uses : (x : Item) (u : Use) → StandsIn u (uses x) → StandsIn (moved_use u) (uses (moved_item move x))
  among_uses x u h = subst (λ us. StandsIn (moved_use u) us) (sym (moved_uses x)) (among_map moved_use u (uses x) h)

  pub v3_moved : (f : File) (p : ℕ) → V3 f p → V3 (moved move f) (move p)
  v3_moved f p (Faults.declared_before before after d e s) =
      Faults.declared_before (map moved_declaration before) (map moved_declaration after) (moved_declaration d)
      (all_declared f.ports f.items ∙ ap (map moved_declaration) e ∙ map-append moved_declaration before (d ∷ after))
      (subst IsSome (sym (moved_shape_in before d.name.name)) s)
  v3_moved f p (Faults.second_integer {above = a} h e) = Faults.second_integer (moved_item_of f a _ h) (moved_has_integer a.items ∙ e)
  v3_moved f p (Faults.set_before {above = a} {x = x} t h e s g) =
      Faults.set_before (moved_target t) (moved_item_of f a x h) (moved_target_of x t e) (ap is_settable (moved_shape_above a t.name.name) ∙ s)
      (moved_is_set t.setting t.name.name a.items ∙ g)

  pub v4_moved : (f : File) (p : ℕ) → V4 f p → V4 (moved move f) (move p)
  v4_moved f p (Faults.undeclared {above = a} {x = x} u h m e) =
      Faults.undeclared (moved_use u) (moved_item_of f a x h) (among_uses x u m) (moved_shape_above a u.name.name ∙ e)
  v4_moved f p (Faults.unassigned {above = a} {x = x} u h m v e g) =
      Faults.unassigned (moved_use u) (moved_item_of f a x h) (among_uses x u m) v (moved_shape_above a u.name.name ∙ e) (moved_is_set assign u.name.name a.items ∙ g)
  v4_moved f p (Faults.no_integer {above = a} h e) = Faults.no_integer (moved_item_of f a _ h) (moved_has_integer a.items ∙ e)

  pub v5_moved : (f : File) (p : ℕ) → V5 f p → V5 (moved move f) (move p)
  v5_moved f p (Faults.wide_port q m g) = Faults.wide_port (moved_port move q) (among_map (moved_port move) q f.ports m) g
  v5_moved f p (Faults.wide_range {above = a} {x = x} n h m g) =
      Faults.wide_range (moved_number move n) (moved_item_of f a x h) (subst (λ ns. StandsIn (moved_number move n) ns) (sym (moved_ranges x)) (among_map (moved_number move) n (ranges x) m)) g
  v5_moved f p (Faults.unfit {above = a} {x = x} c h m e) =
      Faults.unfit (moved_constant move c) (moved_item_of f a x h) (subst (λ cs. StandsIn (moved_constant move c) cs) (sym (moved_constants x)) (among_map (moved_constant move) c (constants x) m)) e
  v5_moved f p (Faults.widths_differ {above = a} {x = x} t q h e m d) =
      Faults.widths_differ (moved_target t) q (moved_item_of f a x h) (moved_target_of x t e) (subst (λ ps. StandsIn q ps) (sym (moved_pairs a x)) m) d
  v5_moved f p (Faults.wide_concat {above = a} {parts = parts} h e g) = Faults.wide_concat (moved_item_of f a _ h) (moved_parts_width a parts ∙ e) g
  v5_moved f p (Faults.out_of_range {above = a} {y = y} h e g) = Faults.out_of_range (moved_item_of f a _ h) (moved_shape_above a y.name ∙ e) g

  pub v6_moved : (f : File) (p : ℕ) → V6 f p → V6 (moved move f) (move p)
  v6_moved f p (Faults.unset d s m n e) =
      Faults.unset (moved_declaration d) s
      (subst (λ ds. StandsIn (moved_declaration d) ds) (sym (all_declared f.ports f.items)) (among_map moved_declaration d (declarations f.ports f.items) m)) n
      (moved_is_set s d.name.name f.items ∙ e)

  place_of_moved : (x : Operand) → operand_place (moved_operand move x) ≡ move (operand_place x)
  place_of_moved (item.named x) = refl
  place_of_moved (item.constant c) = refl

  pub v7_moved : (f : File) (p : ℕ) → V7 f p → V7 (moved move f) (move p)
  v7_moved f p (Faults.no_depth {above = a} h g) = Faults.no_depth (moved_item_of f a _ h) g
  v7_moved f p (Faults.other_bound {above = a} {x = x} h e g) = Faults.other_bound (moved_item_of f a _ h) (moved_shape_above a x.name ∙ e) g
  v7_moved f p (Faults.other_index {above = a} {x = x} m index h n e w g) =
      subst (λ q. V7 (moved move f) q) (place_of_moved index)
      (Faults.other_index (moved_name move m) (moved_operand move index) (moved_item_of f a x h)
      (subst (λ ps. StandsIn (moved_index (m, index)) ps) (sym (moved_indexes x)) (among_map moved_index (m, index) (indexes x) n))
      (moved_shape_above a m.name ∙ e) (moved_width a index ∙ w) g)
  v7_moved f p (Faults.other_kind {above = a} {x = x} u h m e s) =
      Faults.other_kind (moved_use u) (moved_item_of f a x h) (among_uses x u m) (moved_shape_above a u.name.name ∙ e) s
