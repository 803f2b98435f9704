-- Faults don't depend on places: a file without its places has none where the file has none.
use Rattle.sap_lemmas.proofs.Common.{◌≡◌, ℕ, List, [], ◌∷◌, ◌++◌, cond, Option, Some, refl, sym, ap, ◌∙◌, subst, ◌||◌, map, flat_map, IsSome, option_map, bytes_eq, inl, inr, map-append}
use Rattle.sap_vtext.specs.Items.{Mention, Operand, Right, Item, Port, File}
use Rattle.sap_vtext.specs.Items as item
use Rattle.sap_vtext.specs.Faults
use Rattle.sap_text.specs.Best.{StandsIn}
use Rattle.sap_vtext.specs.Names.{Declaration, port_declaration, item_declarations, declarations, shape_in, Above, IsItemOf, shape_above, Setting, Target, target_of, is_target, is_set, is_integer, has_integer, assign, known_above}
use Rattle.sap_vtext.specs.Widths.{value_width, unary_pairs, unary_rule, binary_pairs, binary_rule, slice_width, memory_width, wire_width, register_width, operand_width, parts_width, right_pairs, pairs, add_widths}
use Rattle.sap_vtext.specs.Faults.{is_settable, Use, operand_uses, right_uses, uses, operand_constants, right_constants, constants, ranges, right_indexes, indexes, operand_place, V3, V4, V5, V6, V7, IsFaultless}
use Rattle.sap_vtext.proofs.Bare.{bare_name, bare_number, bare_constant, bare_operand, bare_right, bare_item, bare_port, bare}

abbrev pub bare_declaration : Declaration → Declaration
bare_declaration d = record { name = bare_name d.name; shape = d.shape }

abbrev bare_above : Above → Above
bare_above a = record { ports = map bare_port a.ports; items = map bare_item a.items }

abbrev bare_target : Target → Target
bare_target t = record { setting = t.setting; name = bare_name t.name }

abbrev bare_use : Use → Use
bare_use u = record { manner = u.manner; name = bare_name u.name }

ports_declared : (ps : List Port) → map port_declaration (map bare_port ps) ≡ map bare_declaration (map port_declaration ps)
ports_declared [] = refl
ports_declared (p ∷ ps) = ap (λ ds. bare_declaration (port_declaration p) ∷ ds) (ports_declared ps)

item_declared : (x : Item) → item_declarations (bare_item x) ≡ map bare_declaration (item_declarations x)
item_declared (item.wire n x) = refl
item_declared _ = refl

items_declared : (xs : List Item) → flat_map item_declarations (map bare_item xs) ≡ map bare_declaration (flat_map item_declarations xs)
items_declared [] = refl
items_declared (x ∷ xs) =
    ap (λ ds. ds ++ flat_map item_declarations (map bare_item xs)) (item_declared x) ∙ ap (λ ds. map bare_declaration (item_declarations x) ++ ds) (items_declared xs)
    ∙ sym (map-append bare_declaration (item_declarations x) (flat_map item_declarations xs))

pub all_declared : (ps : List Port) (xs : List Item) → declarations (map bare_port ps) (map bare_item xs) ≡ map bare_declaration (declarations ps xs)
all_declared ps xs =
    ap (λ ds. ds ++ flat_map item_declarations (map bare_item xs)) (ports_declared ps) ∙ ap (λ ds. map bare_declaration (map port_declaration ps) ++ ds) (items_declared xs)
    ∙ sym (map-append bare_declaration (map port_declaration ps) (flat_map item_declarations xs))

pub bare_shape_in : (ds : List Declaration) (n : List ℕ) → shape_in (map bare_declaration ds) n ≡ shape_in ds n
bare_shape_in [] n = refl
bare_shape_in (d ∷ ds) n = ap (λ o. cond (bytes_eq d.name.name n) (Some d.shape) o) (bare_shape_in ds n)

bare_shape_above : (a : Above) (n : List ℕ) → shape_above (bare_above a) n ≡ shape_above a n
bare_shape_above a n = ap (λ ds. shape_in ds n) (all_declared a.ports a.items) ∙ bare_shape_in (declarations a.ports a.items) n

bare_is_target : (s : Setting) (n : List ℕ) (x : Item) → is_target s n (target_of (bare_item x)) ≡ is_target s n (target_of x)
bare_is_target s n (item.assign x right) = refl
bare_is_target s n _ = refl

bare_is_set : (s : Setting) (n : List ℕ) (xs : List Item) → is_set s n (map bare_item xs) ≡ is_set s n xs
bare_is_set s n [] = refl
bare_is_set s n (x ∷ xs) =
    ap (λ b. b || is_set s n (map bare_item xs)) (bare_is_target s n x) ∙ ap (λ b. is_target s n (target_of x) || b) (bare_is_set s n xs)

bare_is_integer : (x : Item) → is_integer (bare_item x) ≡ is_integer x
bare_is_integer (item.integer place) = refl
bare_is_integer _ = refl

bare_has_integer : (xs : List Item) → has_integer (map bare_item xs) ≡ has_integer xs
bare_has_integer [] = refl
bare_has_integer (x ∷ xs) = ap (λ b. b || has_integer (map bare_item xs)) (bare_is_integer x) ∙ ap (λ b. is_integer x || b) (bare_has_integer xs)

bare_target_of : (x : Item) (t : Target) → target_of x ≡ Some t → target_of (bare_item x) ≡ Some (bare_target t)
bare_target_of (item.wire n x) t e = absurd (cc)
bare_target_of (item.register n x) t e = absurd (cc)
bare_target_of (item.memory n x last) t e = absurd (cc)
bare_target_of (item.integer place) t e = absurd (cc)
bare_target_of _ t e = ap (option_map bare_target) e

-- what each operand has, all of them have
bare_operand_uses : (x : Operand) → operand_uses (bare_operand x) ≡ map bare_use (operand_uses x)
bare_operand_uses (item.named x) = refl
bare_operand_uses (item.constant c) = refl

bare_operand_constants : (x : Operand) → operand_constants (bare_operand x) ≡ map bare_constant (operand_constants x)
bare_operand_constants (item.named x) = refl
bare_operand_constants (item.constant c) = refl

module _ {A : Type 0} (f : A → A) (of : Operand → List A) (one : (x : Operand) → of (bare_operand x) ≡ map f (of x)) where
  two_of : (x y : Operand) → of (bare_operand x) ++ of (bare_operand y) ≡ map f (of x ++ of y)
  two_of x y = ap (λ z. z ++ of (bare_operand y)) (one x) ∙ ap (λ z. map f (of x) ++ z) (one y) ∙ sym (map-append f (of x) (of y))

  three_of : (x y z : Operand) → of (bare_operand x) ++ (of (bare_operand y) ++ of (bare_operand z)) ≡ map f (of x ++ (of y ++ of z))
  three_of x y z =
      ap (λ w. w ++ (of (bare_operand y) ++ of (bare_operand z))) (one x) ∙ ap (λ w. map f (of x) ++ w) (two_of y z) ∙ sym (map-append f (of x) (of y ++ of z))

  all_of : (xs : List Operand) → flat_map of (map bare_operand xs) ≡ map f (flat_map of xs)
  all_of [] = refl
  all_of (x ∷ xs) = ap (λ z. z ++ flat_map of (map bare_operand xs)) (one x) ∙ ap (λ z. map f (of x) ++ z) (all_of xs) ∙ sym (map-append f (of x) (flat_map of xs))

bare_right_uses : (right : Right) → right_uses (bare_right right) ≡ map bare_use (right_uses right)
bare_right_uses (item.copy x) = bare_operand_uses x
bare_right_uses (item.one op x) = bare_operand_uses x
bare_right_uses (item.two op x y) = two_of bare_use operand_uses bare_operand_uses x y
bare_right_uses (item.choose c x y) = three_of bare_use operand_uses bare_operand_uses c x y
bare_right_uses (item.concat xs) = all_of bare_use operand_uses bare_operand_uses xs
bare_right_uses (item.slice x high low) = refl
bare_right_uses (item.cell m index) = ap (λ us. bare_use (record { manner = Faults.as_cell; name = m }) ∷ us) (bare_operand_uses index)

bare_uses : (x : Item) → uses (bare_item x) ≡ map bare_use (uses x)
bare_uses (item.assign x right) = ap (λ us. bare_use (record { manner = Faults.as_wire; name = x }) ∷ us) (bare_right_uses right)
bare_uses (item.always x next) = ap (λ us. bare_use (record { manner = Faults.as_register; name = x }) ∷ us) (bare_operand_uses next)
bare_uses (item.always_cell condition x index value) =
    let target : Use = record { manner = Faults.as_memory; name = x } in
    ap (λ us. us ++ (bare_use target ∷ (operand_uses (bare_operand index) ++ operand_uses (bare_operand value)))) (bare_operand_uses condition)
    ∙ ap (λ us. map bare_use (operand_uses condition) ++ (bare_use target ∷ us)) (two_of bare_use operand_uses bare_operand_uses index value)
    ∙ sym (map-append bare_use (operand_uses condition) (target ∷ (operand_uses index ++ operand_uses value)))
bare_uses _ = refl

bare_right_constants : (right : Right) → right_constants (bare_right right) ≡ map bare_constant (right_constants right)
bare_right_constants (item.copy x) = bare_operand_constants x
bare_right_constants (item.one op x) = bare_operand_constants x
bare_right_constants (item.two op x y) = two_of bare_constant operand_constants bare_operand_constants x y
bare_right_constants (item.choose c x y) = three_of bare_constant operand_constants bare_operand_constants c x y
bare_right_constants (item.concat xs) = all_of bare_constant operand_constants bare_operand_constants xs
bare_right_constants (item.slice x high low) = refl
bare_right_constants (item.cell m index) = bare_operand_constants index

bare_constants : (x : Item) → constants (bare_item x) ≡ map bare_constant (constants x)
bare_constants (item.assign x right) = bare_right_constants right
bare_constants (item.always x next) = bare_operand_constants next
bare_constants (item.always_cell condition x index value) = three_of bare_constant operand_constants bare_operand_constants condition index value
bare_constants _ = refl

bare_ranges : (x : Item) → ranges (bare_item x) ≡ map bare_number (ranges x)
bare_ranges (item.wire n x) = refl
bare_ranges _ = refl

abbrev bare_index : Mention × Operand → Mention × Operand
bare_index p = (bare_name p.0, bare_operand p.1)

bare_right_indexes : (right : Right) → right_indexes (bare_right right) ≡ map bare_index (right_indexes right)
bare_right_indexes (item.cell m index) = refl
bare_right_indexes _ = refl

bare_indexes : (x : Item) → indexes (bare_item x) ≡ map bare_index (indexes x)
bare_indexes (item.assign x right) = bare_right_indexes right
bare_indexes _ = refl

bare_width : (a : Above) (x : Operand) → operand_width (known_above (bare_above a)) (bare_operand x) ≡ operand_width (known_above a) x
bare_width a (item.named x) =
    ap (λ s. value_width s (is_set assign x.name (map bare_item a.items))) (bare_shape_above a x.name) ∙ ap (value_width (shape_above a x.name)) (bare_is_set assign x.name a.items)
bare_width a (item.constant c) = refl

bare_parts_width : (a : Above) (xs : List Operand) → parts_width (known_above (bare_above a)) (map bare_operand xs) ≡ parts_width (known_above a) xs
bare_parts_width a [] = refl
bare_parts_width a (x ∷ xs) =
    ap (λ w. add_widths w (parts_width (known_above (bare_above a)) (map bare_operand xs))) (bare_width a x)
    ∙ ap (add_widths (operand_width (known_above a) x)) (bare_parts_width a xs)

bare_right_pairs : (a : Above) (target target' : Option ℕ) (right : Right) → target' ≡ target
    → right_pairs (known_above (bare_above a)) target' (bare_right right) ≡ right_pairs (known_above a) target right
bare_right_pairs a target target' (item.copy x) e = let w = bare_width a x in cc
bare_right_pairs a target target' (item.one op x) e =
    ap (λ w. unary_pairs (unary_rule op) target' w) (bare_width a x) ∙ ap (λ t. unary_pairs (unary_rule op) t (operand_width (known_above a) x)) e
bare_right_pairs a target target' (item.two op x y) e =
    ap (λ w. binary_pairs (binary_rule op) target' w (operand_width (known_above (bare_above a)) (bare_operand y))) (bare_width a x)
    ∙ ap (λ w. binary_pairs (binary_rule op) target' (operand_width (known_above a) x) w) (bare_width a y)
    ∙ ap (λ t. binary_pairs (binary_rule op) t (operand_width (known_above a) x) (operand_width (known_above a) y)) e
bare_right_pairs a target target' (item.choose c x y) e = let u = bare_width a c in let v = bare_width a x in let w = bare_width a y in cc
bare_right_pairs a target target' (item.concat xs) e = let w = bare_parts_width a xs in cc
bare_right_pairs a target target' (item.slice x high low) e =
    let w = ap (λ v. slice_width v high low) (bare_width a (item.named x)) in cc
bare_right_pairs a target target' (item.cell m index) e =
    let w = ap memory_width (bare_shape_above a m.name) in cc

bare_pairs : (a : Above) (x : Item) → pairs (known_above (bare_above a)) (bare_item x) ≡ pairs (known_above a) x
bare_pairs a (item.assign x right) = bare_right_pairs a _ _ right (ap wire_width (bare_shape_above a x.name))
bare_pairs a (item.initial x value) = let w = ap register_width (bare_shape_above a x.name) in cc
bare_pairs a (item.initial_cells place bound x value) = let w = ap memory_width (bare_shape_above a x.name) in cc
bare_pairs a (item.always x next) = let w = ap register_width (bare_shape_above a x.name) in let v = bare_width a next in cc
bare_pairs a (item.always_cell condition x index value) =
    let u = bare_width a condition in let w = ap memory_width (bare_shape_above a x.name) in let v = bare_width a value in cc
bare_pairs a _ = refl

-- faults

bare_item_of : (f : File) (a : Above) (x : Item) → IsItemOf f a x → IsItemOf (bare f) (bare_above a) (bare_item x)
bare_item_of f a x h = record {
  below = map bare_item h.below;
  ports = ap (map bare_port) h.ports;
  items = ap (map bare_item) h.items ∙ map-append bare_item a.items (x ∷ h.below);
}

among_map : {A B : Type 0} (f : A → B) (x : A) (xs : List A) → StandsIn x xs → StandsIn (f x) (map f xs)
among_map f x [] h = absurd h
among_map f x (y ∷ ys) (inl e) = inl (ap f e)
among_map f x (y ∷ ys) (inr h) = inr (among_map f x ys h)

among_uses : (x : Item) (u : Use) → StandsIn u (uses x) → StandsIn (bare_use u) (uses (bare_item x))
among_uses x u h = subst (λ us. StandsIn (bare_use u) us) (sym (bare_uses x)) (among_map bare_use u (uses x) h)

v3_bare : (f : File) (p : ℕ) → V3 f p → V3 (bare f) 0
v3_bare f p (Faults.declared_before before after d e s) =
    Faults.declared_before (map bare_declaration before) (map bare_declaration after) (bare_declaration d)
    (all_declared f.ports f.items ∙ ap (map bare_declaration) e ∙ map-append bare_declaration before (d ∷ after))
    (subst IsSome (sym (bare_shape_in before d.name.name)) s)
v3_bare f p (Faults.second_integer {above = a} h e) = Faults.second_integer (bare_item_of f a _ h) (bare_has_integer a.items ∙ e)
v3_bare f p (Faults.set_before {above = a} {x = x} t h e s g) =
    Faults.set_before (bare_target t) (bare_item_of f a x h) (bare_target_of x t e) (ap is_settable (bare_shape_above a t.name.name) ∙ s)
    (bare_is_set t.setting t.name.name a.items ∙ g)

v4_bare : (f : File) (p : ℕ) → V4 f p → V4 (bare f) 0
v4_bare f p (Faults.undeclared {above = a} {x = x} u h m e) =
    Faults.undeclared (bare_use u) (bare_item_of f a x h) (among_uses x u m) (bare_shape_above a u.name.name ∙ e)
v4_bare f p (Faults.unassigned {above = a} {x = x} u h m v e g) =
    Faults.unassigned (bare_use u) (bare_item_of f a x h) (among_uses x u m) v (bare_shape_above a u.name.name ∙ e) (bare_is_set assign u.name.name a.items ∙ g)
v4_bare f p (Faults.no_integer {above = a} h e) = Faults.no_integer (bare_item_of f a _ h) (bare_has_integer a.items ∙ e)

v5_bare : (f : File) (p : ℕ) → V5 f p → V5 (bare f) 0
v5_bare f p (Faults.wide_port q m g) = Faults.wide_port (bare_port q) (among_map bare_port q f.ports m) g
v5_bare f p (Faults.wide_range {above = a} {x = x} n h m g) =
    Faults.wide_range (bare_number n) (bare_item_of f a x h) (subst (λ ns. StandsIn (bare_number n) ns) (sym (bare_ranges x)) (among_map bare_number n (ranges x) m)) g
v5_bare f p (Faults.unfit {above = a} {x = x} c h m e) =
    Faults.unfit (bare_constant c) (bare_item_of f a x h) (subst (λ cs. StandsIn (bare_constant c) cs) (sym (bare_constants x)) (among_map bare_constant c (constants x) m)) e
v5_bare f p (Faults.widths_differ {above = a} {x = x} t q h e m d) =
    Faults.widths_differ (bare_target t) q (bare_item_of f a x h) (bare_target_of x t e) (subst (λ ps. StandsIn q ps) (sym (bare_pairs a x)) m) d
v5_bare f p (Faults.wide_concat {above = a} {parts = parts} h e g) = Faults.wide_concat (bare_item_of f a _ h) (bare_parts_width a parts ∙ e) g
v5_bare f p (Faults.out_of_range {above = a} {y = y} h e g) = Faults.out_of_range (bare_item_of f a _ h) (bare_shape_above a y.name ∙ e) g

v6_bare : (f : File) (p : ℕ) → V6 f p → V6 (bare f) 0
v6_bare f p (Faults.unset d s m n e) =
    Faults.unset (bare_declaration d) s
    (subst (λ ds. StandsIn (bare_declaration d) ds) (sym (all_declared f.ports f.items)) (among_map bare_declaration d (declarations f.ports f.items) m)) n
    (bare_is_set s d.name.name f.items ∙ e)

place_of_bare : (x : Operand) → operand_place (bare_operand x) ≡ 0
place_of_bare (item.named x) = refl
place_of_bare (item.constant c) = refl

v7_bare : (f : File) (p : ℕ) → V7 f p → V7 (bare f) 0
v7_bare f p (Faults.no_depth {above = a} h g) = Faults.no_depth (bare_item_of f a _ h) g
v7_bare f p (Faults.other_bound {above = a} {x = x} h e g) = Faults.other_bound (bare_item_of f a _ h) (bare_shape_above a x.name ∙ e) g
v7_bare f p (Faults.other_index {above = a} {x = x} m index h n e w g) =
    subst (λ q. V7 (bare f) q) (place_of_bare index)
    (Faults.other_index (bare_name m) (bare_operand index) (bare_item_of f a x h)
    (subst (λ ps. StandsIn (bare_index (m, index)) ps) (sym (bare_indexes x)) (among_map bare_index (m, index) (indexes x) n))
    (bare_shape_above a m.name ∙ e) (bare_width a index ∙ w) g)
v7_bare f p (Faults.other_kind {above = a} {x = x} u h m e s) =
    Faults.other_kind (bare_use u) (bare_item_of f a x h) (among_uses x u m) (bare_shape_above a u.name.name ∙ e) s

pub bare_faultless : (f : File) → IsFaultless (bare f) → IsFaultless f
bare_faultless f h = record {
  v3 = λ p v. h.v3 0 (v3_bare f p v);
  v4 = λ p v. h.v4 0 (v4_bare f p v);
  v5 = λ p v. h.v5 0 (v5_bare f p v);
  v6 = λ p v. h.v6 0 (v6_bare f p v);
  v7 = λ p v. h.v7 0 (v7_bare f p v);
}
