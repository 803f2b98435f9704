-- Each fault that is listed stands in the file.
use Rattle.sap_lemmas.proofs.Common.{◌≡◌, ◌≢◌, ◌∙◌, ℕ, ◌+◌, ◌<◌, ◌≤◌, ◌⊎◌, List, [], ◌∷◌, ◌++◌, Bool, true, false, refl, ap, ap₂, sym, subst, append_assoc, arith, true≢false, inl, inr, common_steps, append-nil, map-append, Option, Some, None, is_some, ◌||◌, ◌&&◌, ◌==◌, not, nat_lt, nat_le, map, flat_map, list_any, and_left, and_right, ltb-true, not-true, or_cases}
use Rattle.sap_vtext.specs.Items.{Mention, Number, Constant, Operand, Port, Item, File}
use Rattle.sap_vtext.specs.Items as item
use Rattle.sap_vtext.specs.Names.{Shape, wire, memory, Setting, assign, initial, always, Declaration, port_declaration, item_declarations, declarations, Above, shape_above, is_set, has_integer, IsItemOf, Target, target_of, Known, known_above}
use Rattle.sap_vtext.specs.Widths.{shape_width, constant_fits, operand_width, parts_width, pairs}
use Rattle.sap_vtext.specs.Faults.{V3, V4, V5, V6, V7, is_settable, needs, Manner, as_value, Use, uses, suits, ranges, constants, indexes, operand_place}
use Rattle.sap_vtext.specs.Faults as faults
use Rattle.sap_text.specs.Best.{StandsIn}
use Rattle.sap_vjudge.specs.declared.code.Code.{Code}
use Rattle.sap_vjudge.specs.declared.code.Code.TheVariants as code
use Rattle.sap_vjudge.specs.Best.{Fault, fault_if}
use Rattle.sap_vjudge.specs.FirstFault.{Stands}
use Rattle.sap_vjudge.specs.Known.{nothing_known, after_port, after_ports, after_item}
use Rattle.sap_vjudge.specs.Listed.{twice_faults, declarations_faults, target_faults, integer_faults, is_unassigned, shape_faults, use_faults, uses_faults, range_faults, ranges_faults, constant_faults, constants_faults, differ, item_too_wide, item_differs, at_target, target_width_faults, past_shape, slice_faults, widths_faults, is_depth, depth_faults, bound_faults, is_other, index_faults, indexes_faults, declared_faults, sized_faults, memory_faults, item_faults, port_faults, ports_faults, items_faults, lacks, unset_faults, unsets_faults, ports_unset, items_unset, file_faults}
use Rattle.sap_vjudge.specs.Listed as listed
use Rattle.sap_vjudge.proofs.Above.{under_item, ports_only, after_item_above, after_port_next, after_ports_above, nothing_is, at_end, items_declared}
use Rattle.sap_vjudge.proofs.Powers.{HasIndex-is_depth, is_other-some}
use Rattle.sap_vtext.proofs.NameLists.{among_left, among_right}
use Rattle.sap_vjudge.proofs.WidthLemmas.{differs-some, too_wide-some}

-- all of the faults are so
abbrev pub Each : (Fault → Type 0) → List Fault → Type 0
Each P [] = Unit {0}
Each P (f ∷ fs) = P f × Each P fs

pub one_of_each : (P : Fault → Type 0) (a : Fault) (fs : List Fault) → Each P fs → StandsIn a fs → P a
one_of_each P a [] h k = absurd k
one_of_each P a (f ∷ fs) h (inl e) = subst P (sym e) h.0
one_of_each P a (f ∷ fs) h (inr k) = one_of_each P a fs h.1 k

module _ (P : Fault → Type 0) where
  each-append : (fs gs : List Fault) → Each P fs → Each P gs → Each P (fs ++ gs)
  each-append [] gs h k = k
  each-append (f ∷ fs) gs h k = (h.0, each-append fs gs h.1 k)

  each-flat_map : {A : Type 0} (f : A → List Fault) (xs : List A) → ((x : A) → StandsIn x xs → Each P (f x)) → Each P (flat_map f xs)
  each-flat_map f [] h = tt
  each-flat_map f (x ∷ xs) h = each-append (f x) (flat_map f xs) (h x (inl refl)) (each-flat_map f xs (λ y k. h y (inr k)))

abbrev Stood : File → Fault → Type 0
Stood f a = Stands f a.code a.place

-- a fault that a test notes
noted : (f : File) (test : Bool) (c : Code) (place : ℕ) → (test ≡ true → Stands f c place) → Each (Stood f) (fault_if test c place)
noted f true c place h = (h refl, tt)
noted f false c place h = tt

apart : (m n : ℕ) → not (m == n) ≡ true → m ≢ n
apart m n h = λ e. absurd (grind (arith, common_steps))

some_inj : (t u : Target) → Some t ≡ Some u → t ≡ u
some_inj t u e = cc

module _ (f : File) (above : Above) where
  abbrev known : Known
  known = known_above above

  -- what the items below declare stands below what this one declares
  declared_at : (x : Item) (rest : List Item) → above.ports ≡ f.ports → f.items ≡ above.items ++ x ∷ rest
      → declarations f.ports f.items ≡ declarations above.ports above.items ++ (item_declarations x ++ flat_map item_declarations rest)
  declared_at x rest ports items =
      ap₂ declarations (sym ports) items ∙ items_declared above.ports above.items (x ∷ rest)

  one_declared : (x : Item) (d : Declaration) → IsItemOf f above x → item_declarations x ≡ d ∷ [] → Each (Stood f) (declarations_faults known (d ∷ []))
  unfolding declarations_faults
  one_declared x d at e =
      each-append (Stood f) (twice_faults known d) [] (noted f (is_some (shape_above above d.name.name)) code.V3 d.name.place (λ h.
      faults.declared_before (declarations above.ports above.items) (flat_map item_declarations at.below) d
      (declared_at x at.below at.ports at.items ∙ ap (λ ds. declarations above.ports above.items ++ (ds ++ flat_map item_declarations at.below)) e) h)) tt

  none_declared : Each (Stood f) (declarations_faults known [])
  unfolding declarations_faults
  none_declared = tt

  declarations_stand : (x : Item) → IsItemOf f above x → Each (Stood f) (declarations_faults known (item_declarations x))
  declarations_stand (item.wire range x) at = one_declared (item.wire range x) _ at refl
  declarations_stand (item.register range x) at = one_declared (item.register range x) _ at refl
  declarations_stand (item.memory range x last) at = one_declared (item.memory range x last) _ at refl
  declarations_stand _ at = none_declared

  target_stands : (x : Item) → IsItemOf f above x → (o : Option Target) → target_of x ≡ o → Each (Stood f) (target_faults known o)
  target_stands x at None e = tt
  target_stands x at (Some t) e =
      noted f (is_settable (shape_above above t.name.name) && is_set t.setting t.name.name above.items) code.V3 t.name.place
      (λ h. faults.set_before t at e (and_left _ _ h) (and_right (is_settable (shape_above above t.name.name)) _ h))

  integer_stands : (x : Item) → IsItemOf f above x → Each (Stood f) (integer_faults known x)
  integer_stands (item.integer place) at = noted f (has_integer above.items) code.V3 place (λ h. faults.second_integer at h)
  integer_stands (item.initial_cells place bound x value) at =
      noted f (not (has_integer above.items)) code.V4 place (λ h. faults.no_integer at (not-true _ h))
  integer_stands (item.wire range x) at = tt
  integer_stands _ at = tt

  declared_stand : (x : Item) → IsItemOf f above x → Each (Stood f) (declared_faults known x)
  declared_stand x at =
      each-append (Stood f) (declarations_faults known (item_declarations x)) (target_faults known (target_of x) ++ integer_faults known x) (declarations_stand x at)
      (each-append (Stood f) (target_faults known (target_of x)) (integer_faults known x) (target_stands x at (target_of x) refl) (integer_stands x at))

  unassigned_parts : (m : Manner) (s : Shape) (b : Bool) → is_unassigned m s b ≡ true → (width : ℕ) × (m ≡ as_value) × (s ≡ wire width) × (b ≡ false)
  unassigned_parts as_value (wire width) false h = (width, refl, refl, refl)
  unassigned_parts _ s b h = absurd (true≢false (sym h))

  use_stands : (x : Item) → IsItemOf f above x → (u : Use) → StandsIn u (uses x) → (o : Option Shape) → shape_above above u.name.name ≡ o
      → Each (Stood f) (shape_faults u.manner o (is_set assign u.name.name above.items) u.name.place)
  use_stands x at u among None e = noted f true code.V4 u.name.place (λ h. faults.undeclared u at among e)
  use_stands x at u among (Some s) e =
      each-append (Stood f) (fault_if (is_unassigned u.manner s (is_set assign u.name.name above.items)) code.V4 u.name.place)
      (fault_if (not (suits u.manner s)) code.V7 u.name.place)
      (noted f (is_unassigned u.manner s (is_set assign u.name.name above.items)) code.V4 u.name.place (λ h.
      let r = unassigned_parts u.manner s (is_set assign u.name.name above.items) h in
      faults.unassigned u at among r.1 (e ∙ ap (λ (t : Shape). Some t) r.2) r.3))
      (noted f (not (suits u.manner s)) code.V7 u.name.place (λ h. faults.other_kind u at among e (not-true _ h)))

  uses_stand : (x : Item) → IsItemOf f above x → Each (Stood f) (uses_faults known (uses x))
  unfolding uses_faults
  uses_stand x at = each-flat_map (Stood f) (use_faults known) (uses x) (λ u among. use_stands x at u among (shape_above above u.name.name) refl)

  ranges_stand : (x : Item) → IsItemOf f above x → Each (Stood f) (ranges_faults (ranges x))
  unfolding ranges_faults
  ranges_stand x at =
      each-flat_map (Stood f) range_faults (ranges x) (λ n among. noted f (nat_lt 63 n.value) code.V5 n.place (λ h. faults.wide_range n at among (ltb-true _ _ h)))

  constants_stand : (x : Item) → IsItemOf f above x → Each (Stood f) (constants_faults (constants x))
  unfolding constants_faults
  constants_stand x at =
      each-flat_map (Stood f) constant_faults (constants x) (λ c among. noted f (not (constant_fits c)) code.V5 c.place (λ h. faults.unfit c at among (not-true _ h)))

  too_wide_stands : (x : Item) → IsItemOf f above x → item_too_wide known x ≡ true → (t : Target) → target_of x ≡ Some t → V5 f t.name.place
  too_wide_stands (item.assign x (item.concat parts)) at h t e =
      let r = too_wide-some (parts_width known parts) h in
      subst (λ (u : Target). V5 f u.name.place) (some_inj _ _ e) (faults.wide_concat at r.1 r.2)
  too_wide_stands (item.assign x (item.copy y)) at h t e = absurd (true≢false (sym h))
  too_wide_stands _ at h t e = absurd (true≢false (sym h))

  differs_stands : (x : Item) → IsItemOf f above x → (t : Target) → target_of x ≡ Some t → item_differs known x ≡ true → V5 f t.name.place
  differs_stands x at t e h = either (or_cases (list_any differ (pairs known x)) (item_too_wide known x) h)
    where
      either : (list_any differ (pairs known x) ≡ true) ⊎ (item_too_wide known x ≡ true) → V5 f t.name.place
      either (inl k) = let r = differs-some (pairs known x) k in faults.widths_differ t r.0 at e r.1 r.2
      either (inr k) = too_wide_stands x at k t e

  target_widths_stand : (x : Item) → IsItemOf f above x → (o : Option Target) → target_of x ≡ o → Each (Stood f) (at_target (item_differs known x) o)
  target_widths_stand x at None e = tt
  target_widths_stand x at (Some t) e = noted f (item_differs known x) code.V5 t.name.place (λ h. differs_stands x at t e h)

  past_stands : (x y : Mention) (high low : ℕ) → IsItemOf f above (item.assign x (item.slice y high low)) → (o : Option Shape) → shape_above above y.name ≡ o
      → Each (Stood f) (past_shape o high low y.place)
  past_stands x y high low at None e = tt
  past_stands x y high low at (Some s) e =
      noted f (not (nat_le low high && nat_lt high (shape_width s))) code.V5 y.place (λ h.
      faults.out_of_range at e (λ (up : low ≤ high) (within : high < shape_width s). contradiction up within (not-true _ h)))
    where
      contradiction : low ≤ high → high < shape_width s → (nat_le low high && nat_lt high (shape_width s)) ≡ false → ⊥
      contradiction up within h = absurd (grind (arith, common_steps))

  slices_stand : (x : Item) → IsItemOf f above x → Each (Stood f) (slice_faults known x)
  slices_stand (item.assign x (item.slice y high low)) at = past_stands x y high low at (shape_above above y.name) refl
  slices_stand _ at = tt

  sized_stand : (x : Item) → IsItemOf f above x → Each (Stood f) (sized_faults known x)
  sized_stand x at =
      each-append (Stood f) (ranges_faults (ranges x)) (constants_faults (constants x) ++ widths_faults known x) (ranges_stand x at)
      (each-append (Stood f) (constants_faults (constants x)) (widths_faults known x) (constants_stand x at)
      (each-append (Stood f) (target_width_faults known x) (slice_faults known x) (target_widths_stand x at (target_of x) refl) (slices_stand x at)))

  depth_stands : (x : Item) → IsItemOf f above x → Each (Stood f) (depth_faults x)
  depth_stands (item.memory range x last) at =
      noted f (not (is_depth (last.value + 1))) code.V7 last.place
      (λ h. faults.no_depth at (λ d. true≢false (sym (HasIndex-is_depth (last.value + 1) d) ∙ not-true _ h)))
  depth_stands (item.wire range x) at = tt
  depth_stands _ at = tt

  bounded_stands : (place : ℕ) (bound : Number) (x : Mention) (value : Constant) → IsItemOf f above (item.initial_cells place bound x value) → (o : Option Shape)
      → shape_above above x.name ≡ o → Each (Stood f) (listed.other_bound o bound)
  bounded_stands place bound x value at (Some (memory width depth)) e =
      noted f (not (bound.value == depth)) code.V7 bound.place (λ h. faults.other_bound at e (apart bound.value depth h))
  bounded_stands place bound x value at _ e = tt

  bound_stands : (x : Item) → IsItemOf f above x → Each (Stood f) (bound_faults known x)
  bound_stands (item.initial_cells place bound x value) at = bounded_stands place bound x value at (shape_above above x.name) refl
  bound_stands _ at = tt

  index_stands : (x : Item) → IsItemOf f above x → (m : Mention) (index : Operand) → StandsIn (m, index) (indexes x) → (o : Option Shape) → shape_above above m.name ≡ o
      → (w : Option ℕ) → operand_width known index ≡ w → Each (Stood f) (listed.other_index o w (operand_place index))
  index_stands x at m index among (Some (memory width depth)) e (Some u) k =
      noted f (is_other depth u) code.V7 (operand_place index) (λ h.
      let r = is_other-some depth u h in
      faults.other_index m index at among (e ∙ ap (λ (d : ℕ). Some (memory width d)) r.1) k r.2)
  index_stands x at m index among _ e w k = tt

  indexes_stand : (x : Item) → IsItemOf f above x → Each (Stood f) (indexes_faults known (indexes x))
  unfolding indexes_faults
  indexes_stand x at =
      each-flat_map (Stood f) (index_faults known) (indexes x) (λ p among.
      index_stands x at p.0 p.1 among (shape_above above p.0.name) refl (operand_width known p.1) refl)

  memories_stand : (x : Item) → IsItemOf f above x → Each (Stood f) (memory_faults known x)
  memories_stand x at =
      each-append (Stood f) (depth_faults x) (bound_faults known x ++ indexes_faults known (indexes x)) (depth_stands x at)
      (each-append (Stood f) (bound_faults known x) (indexes_faults known (indexes x)) (bound_stands x at) (indexes_stand x at))

  item_stands : (x : Item) → IsItemOf f above x → Each (Stood f) (item_faults known x)
  unfolding item_faults
  item_stands x at =
      each-append (Stood f) (declared_faults known x) (uses_faults known (uses x) ++ (sized_faults known x ++ memory_faults known x)) (declared_stand x at)
      (each-append (Stood f) (uses_faults known (uses x)) (sized_faults known x ++ memory_faults known x) (uses_stand x at)
      (each-append (Stood f) (sized_faults known x) (memory_faults known x) (sized_stand x at) (memories_stand x at)))

among-middle : {A : Type 0} (xs ys : List A) (x : A) → StandsIn x (xs ++ x ∷ ys)
among-middle [] ys x = inl refl
among-middle (y ∷ xs) ys x = inr (among-middle xs ys x)

module _ (f : File) where
  items_stand : (a : Above) (xs : List Item) → a.ports ≡ f.ports → f.items ≡ a.items ++ xs → Each (Stood f) (items_faults (known_above a) xs)
  unfolding items_faults
  items_stand a [] ports items = tt
  items_stand a (x ∷ xs) ports items =
      each-append (Stood f) (item_faults (known_above a) x) (items_faults (after_item (known_above a) x) xs)
      (item_stands f a x (record { below = xs; ports = ports; items = items }))
      (subst (λ (k : Known). Each (Stood f) (items_faults k xs)) (sym (after_item_above a x))
      (items_stand (under_item a x) xs ports (items ∙ sym (append_assoc a.items (x ∷ []) xs))))

  port_declared : (before after : List Port) (p : Port) → f.ports ≡ before ++ p ∷ after
      → declarations f.ports f.items ≡ declarations before [] ++ port_declaration p ∷ (map port_declaration after ++ flat_map item_declarations f.items)
  port_declared before after p e =
      ap (λ (ps : List Port). declarations ps f.items) e
      ∙ ap (λ ds. ds ++ flat_map item_declarations f.items) (map-append port_declaration before (p ∷ after))
      ∙ append_assoc (map port_declaration before) (map port_declaration (p ∷ after)) (flat_map item_declarations f.items)
      ∙ ap (λ ds. ds ++ (map port_declaration (p ∷ after) ++ flat_map item_declarations f.items)) (sym (append-nil (map port_declaration before)))

  port_stands : (before after : List Port) (p : Port) → f.ports ≡ before ++ p ∷ after → Each (Stood f) (port_faults (known_above (ports_only before)) p)
  unfolding port_faults
  port_stands before after p e =
      each-append (Stood f) (twice_faults (known_above (ports_only before)) (port_declaration p)) (range_faults p.range)
      (noted f (is_some (shape_above (ports_only before) p.name.name)) code.V3 p.name.place (λ h.
      faults.declared_before (declarations before []) (map port_declaration after ++ flat_map item_declarations f.items) (port_declaration p) (port_declared before after p e) h))
      (noted f (nat_lt 63 p.range.value) code.V5 p.range.place (λ h.
      faults.wide_port p (subst (λ (ps : List Port). StandsIn p ps) (sym e) (among-middle before after p)) (ltb-true _ _ h)))

  ports_stand : (before ps : List Port) → f.ports ≡ before ++ ps → Each (Stood f) (ports_faults (known_above (ports_only before)) ps)
  unfolding ports_faults
  ports_stand before [] e = tt
  ports_stand before (p ∷ ps) e =
      each-append (Stood f) (port_faults (known_above (ports_only before)) p) (ports_faults (after_port (known_above (ports_only before)) p) ps)
      (port_stands before ps p e)
      (subst (λ (k : Known). Each (Stood f) (ports_faults k ps)) (sym (after_port_next before p))
      (ports_stand (before ++ p ∷ []) ps (e ∙ sym (append_assoc before (p ∷ []) ps))))

  abbrev last : Known
  last = known_above (record { ports = f.ports; items = f.items })

  unset_stands : (d : Declaration) → StandsIn d (declarations f.ports f.items) → Each (Stood f) (unset_faults last d)
  unset_stands d among =
      noted f (lacks last d assign || (lacks last d initial || lacks last d always)) code.V6 d.name.place (λ h.
      some_lack (or_cases (lacks last d assign) (lacks last d initial || lacks last d always) h))
    where
      one_lack : (s : Setting) → lacks last d s ≡ true → V6 f d.name.place
      one_lack s h = faults.unset d s among (and_left (needs d.shape s) _ h) (not-true _ (and_right (needs d.shape s) _ h))

      two_lack : (lacks last d initial ≡ true) ⊎ (lacks last d always ≡ true) → V6 f d.name.place
      two_lack (inl h) = one_lack initial h
      two_lack (inr h) = one_lack always h

      some_lack : (lacks last d assign ≡ true) ⊎ ((lacks last d initial || lacks last d always) ≡ true) → V6 f d.name.place
      some_lack (inl h) = one_lack assign h
      some_lack (inr h) = two_lack (or_cases (lacks last d initial) (lacks last d always) h)

  ports_unset_stand : Each (Stood f) (ports_unset last f.ports)
  unfolding ports_unset unsets_faults
  ports_unset_stand =
      each-flat_map (Stood f) (unset_faults last) (map port_declaration f.ports)
      (λ d among. unset_stands d (among_left d (map port_declaration f.ports) (flat_map item_declarations f.items) among))

  items_unset_stand : Each (Stood f) (items_unset last f.items)
  unfolding items_unset unsets_faults
  items_unset_stand =
      each-flat_map (Stood f) (unset_faults last) (flat_map item_declarations f.items)
      (λ d among. unset_stands d (among_right d (map port_declaration f.ports) (flat_map item_declarations f.items) among))

  pub all_stand : Each (Stood f) (file_faults f)
  unfolding file_faults
  all_stand =
      each-append (Stood f) (ports_faults nothing_known f.ports) _ (subst (λ (k : Known). Each (Stood f) (ports_faults k f.ports)) (sym nothing_is) (ports_stand [] f.ports refl))
      (each-append (Stood f) (items_faults (after_ports nothing_known f.ports) f.items) _
      (subst (λ (k : Known). Each (Stood f) (items_faults k f.items)) (sym (after_ports_above f.ports)) (items_stand (ports_only f.ports) f.items refl refl))
      (subst (λ (k : Known). Each (Stood f) (ports_unset k f.ports ++ items_unset k f.items)) (sym (at_end f))
      (each-append (Stood f) (ports_unset last f.ports) (items_unset last f.items) ports_unset_stand items_unset_stand)))
