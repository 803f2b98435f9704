-- Each fault that stands in a file is listed.
use Rattle.sap_lemmas.proofs.Common.{◌≡◌, ◌≢◌, ◌∙◌, ℕ, ◌+◌, ◌^◌, ◌<◌, ◌≤◌, ◌⊎◌, List, [], ◌∷◌, ◌++◌, Bool, true, false, refl, ap, ap₂, sym, subst, append_assoc, arith, true≢false, inl, inr, common_steps, append-nil, map-append, Option, Some, None, is_some, IsSome, ◌||◌, ◌&&◌, ◌==◌, not, nat_lt, nat_le, map, flat_map, list_any, and_from, lt-ltb, or_left, or_right}
use Rattle.std.proofs.lemmas.Bool.{false_from_ne_true, not_from_false}
use Rattle.sap_vtext.specs.Items.{Mention, Number, Constant, Operand, Port, Item, File}
use Rattle.sap_vtext.specs.Items as item
use Rattle.sap_vtext.specs.Names.{Shape, wire, Setting, assign, initial, always, Declaration, port_declaration, item_declarations, declarations, shape_in, Above, shape_above, is_set, has_integer, IsItemOf, Target, target_of, Known, known_above}
use Rattle.sap_vtext.specs.Widths.{shape_width, constant_fits, operand_width, parts_width, pairs}
use Rattle.sap_vtext.specs.Faults.{V3, V4, V5, V6, V7, is_settable, needs, Manner, as_value, Use, uses, suits, ranges, constants, indexes, operand_place}
use Rattle.sap_vtext.specs.Faults as faults
use Rattle.sap_text.specs.Best.{StandsIn}
use Rattle.sap_vjudge.specs.declared.code.Code.{Code}
use Rattle.sap_vjudge.specs.declared.code.Code.TheVariants as code
use Rattle.sap_vjudge.specs.Best.{Fault, fault_if}
use Rattle.sap_vjudge.specs.FirstFault.{Stands}
use Rattle.sap_vjudge.specs.Known.{nothing_known, after_ports}
use Rattle.sap_vjudge.specs.Listed.{twice_faults, declarations_faults, target_faults, integer_faults, is_unassigned, shape_faults, use_faults, uses_faults, range_faults, ranges_faults, constant_faults, constants_faults, differ, item_too_wide, item_differs, at_target, target_width_faults, past_shape, slice_faults, is_depth, depth_faults, bound_faults, is_other, depth_index, index_faults, indexes_faults, declared_faults, sized_faults, memory_faults, item_faults, port_faults, ports_faults, items_faults, lacks, unset_faults, unsets_faults, ports_unset, items_unset, known_at_end, file_faults}
use Rattle.sap_vjudge.specs.Listed as listed
use Rattle.sap_vjudge.proofs.Above.{under_item, ports_only, after_item_above, after_port_next, after_ports_above, nothing_is, at_end, item_declared}
use Rattle.sap_vjudge.proofs.Powers.{is_depth-HasIndex, is_other-from}
use Rattle.sap_vjudge.proofs.WidthLemmas.{some-differs, some-too_wide}
use Rattle.sap_vtext.proofs.NameLists.{among_left, among_right, among_cases}

abbrev pub at_place : Code → ℕ → Fault
at_place c place = record { code = c; place = place }

in_flat_map : {A : Type 0} (a : Fault) (f : A → List Fault) (x : A) (xs : List A) → StandsIn x xs → StandsIn a (f x) → StandsIn a (flat_map f xs)
in_flat_map a f x [] h k = absurd h
in_flat_map a f x (y ∷ ys) (inl e) k = among_left a (f y) (flat_map f ys) (subst (λ z. StandsIn a (f z)) e k)
in_flat_map a f x (y ∷ ys) (inr h) k = among_right a (f y) (flat_map f ys) (in_flat_map a f x ys h k)

noted : (test : Bool) (c : Code) (place : ℕ) → test ≡ true → StandsIn (at_place c place) (fault_if test c place)
noted true c place h = inl refl
noted false c place h = absurd (true≢false (sym h))

apart : (m n : ℕ) → m ≢ n → not (m == n) ≡ true
apart m n h = grind (arith, common_steps)

-- The faults of one item.

module _ (a : Fault) (k : Known) (x : Item) where
  in_declared : StandsIn a (declared_faults k x) → StandsIn a (item_faults k x)
  unfolding item_faults
  in_declared h = among_left a (declared_faults k x) _ h

  in_used : StandsIn a (uses_faults k (uses x)) → StandsIn a (item_faults k x)
  unfolding item_faults
  in_used h = among_right a (declared_faults k x) _ (among_left a (uses_faults k (uses x)) _ h)

  in_sized : StandsIn a (sized_faults k x) → StandsIn a (item_faults k x)
  unfolding item_faults
  in_sized h = among_right a (declared_faults k x) _ (among_right a (uses_faults k (uses x)) _ (among_left a (sized_faults k x) _ h))

  in_memory : StandsIn a (memory_faults k x) → StandsIn a (item_faults k x)
  unfolding item_faults
  in_memory h = among_right a (declared_faults k x) _ (among_right a (uses_faults k (uses x)) _ (among_right a (sized_faults k x) _ h))

  in_declarations : (d : Declaration) → StandsIn d (item_declarations x) → StandsIn a (twice_faults k d) → StandsIn a (item_faults k x)
  unfolding declarations_faults
  in_declarations d among h = in_declared (among_left a (declarations_faults k (item_declarations x)) _ (in_flat_map a (twice_faults k) d (item_declarations x) among h))

  in_target : StandsIn a (target_faults k (target_of x)) → StandsIn a (item_faults k x)
  in_target h = in_declared (among_right a (declarations_faults k (item_declarations x)) _ (among_left a (target_faults k (target_of x)) _ h))

  in_integer : StandsIn a (integer_faults k x) → StandsIn a (item_faults k x)
  in_integer h = in_declared (among_right a (declarations_faults k (item_declarations x)) _ (among_right a (target_faults k (target_of x)) _ h))

  in_uses : (u : Use) → StandsIn u (uses x) → StandsIn a (use_faults k u) → StandsIn a (item_faults k x)
  unfolding uses_faults
  in_uses u among h = in_used (in_flat_map a (use_faults k) u (uses x) among h)

  in_ranges : (n : Number) → StandsIn n (ranges x) → StandsIn a (range_faults n) → StandsIn a (item_faults k x)
  unfolding ranges_faults
  in_ranges n among h = in_sized (among_left a (ranges_faults (ranges x)) _ (in_flat_map a range_faults n (ranges x) among h))

  in_constants : (c : Constant) → StandsIn c (constants x) → StandsIn a (constant_faults c) → StandsIn a (item_faults k x)
  unfolding constants_faults
  in_constants c among h =
      in_sized (among_right a (ranges_faults (ranges x)) _ (among_left a (constants_faults (constants x)) _ (in_flat_map a constant_faults c (constants x) among h)))

  in_widths : StandsIn a (target_width_faults k x) → StandsIn a (item_faults k x)
  in_widths h = in_sized (among_right a (ranges_faults (ranges x)) _ (among_right a (constants_faults (constants x)) _ (among_left a (target_width_faults k x) _ h)))

  in_slices : StandsIn a (slice_faults k x) → StandsIn a (item_faults k x)
  in_slices h = in_sized (among_right a (ranges_faults (ranges x)) _ (among_right a (constants_faults (constants x)) _ (among_right a (target_width_faults k x) _ h)))

  in_depths : StandsIn a (depth_faults x) → StandsIn a (item_faults k x)
  in_depths h = in_memory (among_left a (depth_faults x) _ h)

  in_bounds : StandsIn a (bound_faults k x) → StandsIn a (item_faults k x)
  in_bounds h = in_memory (among_right a (depth_faults x) _ (among_left a (bound_faults k x) _ h))

  in_indexes : (p : Mention × Operand) → StandsIn p (indexes x) → StandsIn a (index_faults k p) → StandsIn a (item_faults k x)
  unfolding indexes_faults
  in_indexes p among h =
      in_memory (among_right a (depth_faults x) _ (among_right a (bound_faults k x) _ (in_flat_map a (index_faults k) p (indexes x) among h)))

-- a width rule that is broken, at the item's target
in_target_widths : (k : Known) (x : Item) (t : Target) → target_of x ≡ Some t → item_differs k x ≡ true → StandsIn (at_place code.V5 t.name.place) (item_faults k x)
in_target_widths k x t e h =
    in_widths (at_place code.V5 t.name.place) k x
    (subst (λ o. StandsIn (at_place code.V5 t.name.place) (at_target (item_differs k x) o)) (sym e) (noted (item_differs k x) code.V5 t.name.place h))

-- The faults of items, one below the other.

in_items : (a : Fault) (start above : Above) (xs mid below : List Item) (x : Item) → above.ports ≡ start.ports → above.items ≡ start.items ++ mid → xs ≡ mid ++ x ∷ below
    → StandsIn a (item_faults (known_above above) x) → StandsIn a (items_faults (known_above start) xs)
unfolding items_faults
in_items a start above xs [] below x ports items e h =
    subst (λ (ys : List Item). StandsIn a (items_faults (known_above start) ys)) (sym e)
    (among_left a (item_faults (known_above start) x) _ (subst (λ (b : Above). StandsIn a (item_faults (known_above b) x)) same h))
  where
    same : above ≡ start
    same = ap₂ (λ (ps : List Port) (ys : List Item). let b : Above = record { ports = ps; items = ys } in b) ports (items ∙ append-nil start.items)
in_items a start above xs (y ∷ mid) below x ports items e h =
    subst (λ (ys : List Item). StandsIn a (items_faults (known_above start) ys)) (sym e)
    (among_right a (item_faults (known_above start) y) _ (subst (λ (k : Known). StandsIn a (items_faults k (mid ++ x ∷ below))) (sym (after_item_above start y))
    (in_items a (under_item start y) above (mid ++ x ∷ below) mid below x ports (items ∙ sym (append_assoc start.items (y ∷ []) mid)) refl h)))

in_ports : (a : Fault) (start above ps mid below : List Port) (p : Port) → above ≡ start ++ mid → ps ≡ mid ++ p ∷ below
    → StandsIn a (port_faults (known_above (ports_only above)) p) → StandsIn a (ports_faults (known_above (ports_only start)) ps)
unfolding ports_faults
in_ports a start above ps [] below p same e h =
    subst (λ (qs : List Port). StandsIn a (ports_faults (known_above (ports_only start)) qs)) (sym e)
    (among_left a (port_faults (known_above (ports_only start)) p) _
    (subst (λ (qs : List Port). StandsIn a (port_faults (known_above (ports_only qs)) p)) (same ∙ append-nil start) h))
in_ports a start above ps (q ∷ mid) below p same e h =
    subst (λ (qs : List Port). StandsIn a (ports_faults (known_above (ports_only start)) qs)) (sym e)
    (among_right a (port_faults (known_above (ports_only start)) q) _
    (subst (λ (k : Known). StandsIn a (ports_faults k (mid ++ p ∷ below))) (sym (after_port_next start q))
    (in_ports a (start ++ q ∷ []) above (mid ++ p ∷ below) mid below p (same ∙ sym (append_assoc start (q ∷ []) mid)) refl h)))

in_port_twice : (ps : List Port) (p : Port) → is_some (shape_above (ports_only ps) p.name.name) ≡ true
    → StandsIn (at_place code.V3 p.name.place) (port_faults (known_above (ports_only ps)) p)
unfolding port_faults
in_port_twice ps p h =
    among_left (at_place code.V3 p.name.place) (twice_faults (known_above (ports_only ps)) (port_declaration p)) _
    (noted (is_some (shape_above (ports_only ps) p.name.name)) code.V3 p.name.place h)

in_port_range : (ps : List Port) (p : Port) → 63 < p.range.value → StandsIn (at_place code.V5 p.range.place) (port_faults (known_above (ports_only ps)) p)
unfolding port_faults
in_port_range ps p h =
    among_right (at_place code.V5 p.range.place) (twice_faults (known_above (ports_only ps)) (port_declaration p)) _
    (noted (nat_lt 63 p.range.value) code.V5 p.range.place (lt-ltb _ _ h))

-- where in the list it is
split : {A : Type 0} (x : A) (xs : List A) → StandsIn x xs → (above : List A) × (below : List A) × (xs ≡ above ++ x ∷ below)
split x [] h = absurd h
split x (y ∷ ys) (inl e) = ([], ys, ap (λ z. z ∷ ys) (sym e))
split x (y ∷ ys) (inr h) = let r = split x ys h in (y ∷ r.0, r.1, ap (λ zs. y ∷ zs) r.2)

module _ (f : File) where
  in_ports_part : (a : Fault) → StandsIn a (ports_faults nothing_known f.ports) → StandsIn a (file_faults f)
  unfolding file_faults
  in_ports_part a h = among_left a (ports_faults nothing_known f.ports) _ h

  in_items_part : (a : Fault) → StandsIn a (items_faults (after_ports nothing_known f.ports) f.items) → StandsIn a (file_faults f)
  unfolding file_faults
  in_items_part a h = among_right a (ports_faults nothing_known f.ports) _ (among_left a (items_faults (after_ports nothing_known f.ports) f.items) _ h)

  in_ports_unset : (a : Fault) → StandsIn a (ports_unset (known_at_end f) f.ports) → StandsIn a (file_faults f)
  unfolding file_faults
  in_ports_unset a h =
      among_right a (ports_faults nothing_known f.ports)
      _ (among_right a (items_faults (after_ports nothing_known f.ports) f.items) _ (among_left a (ports_unset (known_at_end f) f.ports) _ h))

  in_items_unset : (a : Fault) → StandsIn a (items_unset (known_at_end f) f.items) → StandsIn a (file_faults f)
  unfolding file_faults
  in_items_unset a h =
      among_right a (ports_faults nothing_known f.ports)
      _ (among_right a (items_faults (after_ports nothing_known f.ports) f.items) _ (among_right a (ports_unset (known_at_end f) f.ports) _ h))

  in_file_items : (a : Fault) → StandsIn a (items_faults (known_above (ports_only f.ports)) f.items) → StandsIn a (file_faults f)
  in_file_items a h = in_items_part a (subst (λ (k : Known). StandsIn a (items_faults k f.items)) (sym (after_ports_above f.ports)) h)

  -- a fault of an item
  of_item : (a : Fault) {above : Above} {x : Item} → IsItemOf f above x → StandsIn a (item_faults (known_above above) x) → StandsIn a (file_faults f)
  of_item a {above} {x} at h = in_file_items a (in_items a (ports_only f.ports) above f.items above.items at.below x at.ports refl at.items h)

  -- Names declared before.

  abbrev declared_again : Declaration → Fault
  declared_again d = at_place code.V3 d.name.place

  head_is : (d e : Declaration) (ds es : List Declaration) → d ∷ ds ≡ e ∷ es → d ≡ e
  head_is d e ds es h = cc

  tail_is : (d e : Declaration) (ds es : List Declaration) → d ∷ ds ≡ e ∷ es → ds ≡ es
  tail_is d e ds es h = cc

  no_middle : (before after : List Declaration) (d : Declaration) → [] ≡ before ++ d ∷ after → ⊥
  no_middle [] after d h = cc
  no_middle (b ∷ before) after d h = cc

  one_or_none : (x : Item) → (item_declarations x ≡ []) ⊎ ((d : Declaration) × (item_declarations x ≡ d ∷ []))
  one_or_none (item.wire range x) = inr (_, refl)
  one_or_none (item.register range x) = inr (_, refl)
  one_or_none (item.memory range x last) = inr (_, refl)
  one_or_none _ = inl refl

  abbrev Again : Above → List Item → Type 0
  Again start xs =
      (before after : List Declaration) (d : Declaration) → flat_map item_declarations xs ≡ before ++ d ∷ after
      → IsSome (shape_in (declarations start.ports start.items ++ before) d.name.name) → StandsIn (declared_again d) (items_faults (known_above start) xs)

  again_rest : (start : Above) (x : Item) (xs : List Item) → Again (under_item start x) xs → (before after : List Declaration) (d : Declaration)
      → flat_map item_declarations xs ≡ before ++ d ∷ after → IsSome (shape_in (declarations start.ports start.items ++ (item_declarations x ++ before)) d.name.name)
      → StandsIn (declared_again d) (items_faults (known_above start) (x ∷ xs))
  unfolding items_faults
  again_rest start x xs rest before after d e some =
      among_right (declared_again d) (item_faults (known_above start) x) _
      (subst (λ (k : Known). StandsIn (declared_again d) (items_faults k xs)) (sym (after_item_above start x))
      (rest before after d e (subst (λ ds. IsSome (shape_in ds d.name.name))
      (sym (ap (λ ds. ds ++ before) (item_declared start x) ∙ append_assoc (declarations start.ports start.items) (item_declarations x) before)) some)))

  again_here : (start : Above) (x : Item) (xs : List Item) (d : Declaration) → StandsIn d (item_declarations x)
      → IsSome (shape_in (declarations start.ports start.items ++ []) d.name.name)
      → StandsIn (declared_again d) (items_faults (known_above start) (x ∷ xs))
  unfolding items_faults
  again_here start x xs d among some =
      among_left (declared_again d) (item_faults (known_above start) x) _ (in_declarations (declared_again d) (known_above start) x d among
      (noted (is_some (shape_above start d.name.name)) code.V3 d.name.place
      (ap (λ ds. is_some (shape_in ds d.name.name)) (sym (append-nil (declarations start.ports start.items))) ∙ some)))

  again_none : (start : Above) (x : Item) (xs : List Item) → item_declarations x ≡ [] → Again (under_item start x) xs → Again start (x ∷ xs)
  again_none start x xs none rest before after d e some =
      again_rest start x xs rest before after d (ap (λ ds. ds ++ flat_map item_declarations xs) (sym none) ∙ e)
      (subst (λ ds. IsSome (shape_in (declarations start.ports start.items ++ (ds ++ before)) d.name.name)) (sym none) some)

  again_one : (start : Above) (x : Item) (xs : List Item) (y : Declaration) → item_declarations x ≡ y ∷ [] → Again (under_item start x) xs → Again start (x ∷ xs)
  again_one start x xs y one rest [] after d e some =
      again_here start x xs d (subst (λ ds. StandsIn d ds) (sym one)
      (inl (sym (head_is y d (flat_map item_declarations xs) after (ap (λ ds. ds ++ flat_map item_declarations xs) (sym one) ∙ e))))) some
  again_one start x xs y one rest (b ∷ before) after d e some =
      let joined = ap (λ ds. ds ++ flat_map item_declarations xs) (sym one) ∙ e in
      again_rest start x xs rest before after d (tail_is y b (flat_map item_declarations xs) (before ++ d ∷ after) joined)
      (subst (λ ds. IsSome (shape_in (declarations start.ports start.items ++ (ds ++ before)) d.name.name)) (sym one)
      (subst (λ z. IsSome (shape_in (declarations start.ports start.items ++ z ∷ before) d.name.name))
      (sym (head_is y b (flat_map item_declarations xs) (before ++ d ∷ after) joined)) some))

  again : (start : Above) (xs : List Item) → Again start xs
  again start [] = λ before after d e some. absurd (no_middle before after d e)
  again start (x ∷ xs) = elim (one_or_none x) [
    | inl none ↦ again_none start x xs none (again (under_item start x) xs)
    | inr one ↦ again_one start x xs one.0 one.1 (again (under_item start x) xs)
  ]

  -- a fault of a port
  of_port : (a : Fault) (above below : List Port) (p : Port) → f.ports ≡ above ++ p ∷ below
      → StandsIn a (port_faults (known_above (ports_only above)) p) → StandsIn a (file_faults f)
  of_port a above below p e h =
      in_ports_part a (subst (λ (k : Known). StandsIn a (ports_faults k f.ports)) (sym nothing_is) (in_ports a [] above f.ports above below p refl e h))

  abbrev Twice : Declaration → Type 0
  Twice d = StandsIn (declared_again d) (file_faults f)

  again_items : (before after : List Declaration) (d : Declaration) → flat_map item_declarations f.items ≡ before ++ d ∷ after
      → IsSome (shape_in (map port_declaration f.ports ++ before) d.name.name) → Twice d
  again_items before after d e some =
      in_file_items (declared_again d) (again (ports_only f.ports) f.items before after d e
      (subst (λ ds. IsSome (shape_in (ds ++ before) d.name.name)) (sym (append-nil (map port_declaration f.ports))) some))

  again_ports : (seen ps : List Port) → f.ports ≡ seen ++ ps → (before after : List Declaration) (d : Declaration)
      → map port_declaration ps ++ flat_map item_declarations f.items ≡ before ++ d ∷ after → IsSome (shape_in (map port_declaration seen ++ before) d.name.name) → Twice d
  again_ports seen [] h before after d e some =
      again_items before after d e (subst (λ (qs : List Port). IsSome (shape_in (map port_declaration qs ++ before) d.name.name)) (sym (h ∙ append-nil seen)) some)
  again_ports seen (p ∷ ps) h [] after d e some =
      let same : port_declaration p ≡ d = head_is (port_declaration p) d (map port_declaration ps ++ flat_map item_declarations f.items) after e in
      subst Twice same (of_port (declared_again (port_declaration p)) seen ps p h
      (in_port_twice seen p (subst (λ (x : Declaration). IsSome (shape_in (map port_declaration seen ++ []) x.name.name)) (sym same) some)))
  again_ports seen (p ∷ ps) h (b ∷ before) after d e some =
      let same : port_declaration p ≡ b = head_is (port_declaration p) b (map port_declaration ps ++ flat_map item_declarations f.items) (before ++ d ∷ after) e in
      again_ports (seen ++ p ∷ []) ps (h ∙ sym (append_assoc seen (p ∷ []) ps)) before after d
      (tail_is (port_declaration p) b (map port_declaration ps ++ flat_map item_declarations f.items) (before ++ d ∷ after) e)
      (subst (λ ds. IsSome (shape_in ds d.name.name))
      (ap (λ x. map port_declaration seen ++ x ∷ before) (sym same) ∙ sym (append_assoc (map port_declaration seen) (port_declaration p ∷ []) before)
      ∙ ap (λ ds. ds ++ before) (sym (map-append port_declaration seen (p ∷ [])))) some)

  -- The five codes.

  v3_listed : (place : ℕ) → V3 f place → StandsIn (at_place code.V3 place) (file_faults f)
  v3_listed _ (faults.declared_before before after d e some) = again_ports [] f.ports refl before after d e some
  v3_listed _ (faults.second_integer {above} {place} at h) =
      of_item (at_place code.V3 place) at (in_integer (at_place code.V3 place) (known_above above) (item.integer place) (noted (has_integer above.items) code.V3 place h))
  v3_listed _ (faults.set_before {above} {x} t at e settable set) =
      of_item (at_place code.V3 t.name.place) at (in_target (at_place code.V3 t.name.place) (known_above above) x
      (subst (λ o. StandsIn (at_place code.V3 t.name.place) (target_faults (known_above above) o)) (sym e)
      (noted (is_settable (shape_above above t.name.name) && is_set t.setting t.name.name above.items) code.V3 t.name.place (and_from _ _ settable set))))

  -- an operand that is a wire not assigned before
  unassigned_is : (m : Manner) (width : ℕ) (b : Bool) → m ≡ as_value → b ≡ false → is_unassigned m (wire width) b ≡ true
  unassigned_is m width b e h = ap₂ (λ (n : Manner) (t : Bool). is_unassigned n (wire width) t) e h

  of_use : (a : Fault) (above : Above) (x : Item) (u : Use) (o : Option Shape) → IsItemOf f above x → StandsIn u (uses x) → shape_above above u.name.name ≡ o
      → StandsIn a (shape_faults u.manner o (is_set assign u.name.name above.items) u.name.place) → StandsIn a (file_faults f)
  of_use a above x u o at among e h =
      of_item a at (in_uses a (known_above above) x u among
      (subst (λ (s : Option Shape). StandsIn a (shape_faults u.manner s (is_set assign u.name.name above.items) u.name.place)) (sym e) h))

  v4_listed : (place : ℕ) → V4 f place → StandsIn (at_place code.V4 place) (file_faults f)
  v4_listed _ (faults.undeclared {above} {x} u at among e) = of_use (at_place code.V4 u.name.place) above x u None at among e (inl refl)
  v4_listed _ (faults.unassigned {above} {x} u {width} at among manner e unset) =
      of_use (at_place code.V4 u.name.place) above x u (Some (wire width)) at among e
      (among_left (at_place code.V4 u.name.place) (fault_if (is_unassigned u.manner (wire width) (is_set assign u.name.name above.items)) code.V4 u.name.place) _
      (noted (is_unassigned u.manner (wire width) (is_set assign u.name.name above.items)) code.V4 u.name.place (unassigned_is u.manner width _ manner unset)))
  v4_listed _ (faults.no_integer {above} {place} {bound} {x} {value} at h) =
      of_item (at_place code.V4 place) at (in_integer (at_place code.V4 place) (known_above above) (item.initial_cells place bound x value)
      (noted (not (has_integer above.items)) code.V4 place (not_from_false _ h)))

  -- what doesn't hold of both
  not_both : (low high width : ℕ) → (low ≤ high → high < width → ⊥) → (nat_le low high && nat_lt high width) ≡ false
  not_both low high width h = grind (arith, common_steps)

  v5_listed : (place : ℕ) → V5 f place → StandsIn (at_place code.V5 place) (file_faults f)
  v5_listed _ (faults.wide_port p among h) =
      let r = split p f.ports among in of_port (at_place code.V5 p.range.place) r.0 r.1 p r.2 (in_port_range r.0 p h)
  v5_listed _ (faults.wide_range {above} {x} n at among h) =
      of_item (at_place code.V5 n.place) at (in_ranges (at_place code.V5 n.place) (known_above above) x n among (noted (nat_lt 63 n.value) code.V5 n.place (lt-ltb _ _ h)))
  v5_listed _ (faults.unfit {above} {x} c at among h) =
      of_item (at_place code.V5 c.place) at (in_constants (at_place code.V5 c.place) (known_above above) x c among
      (noted (not (constant_fits c)) code.V5 c.place (not_from_false _ h)))
  v5_listed _ (faults.widths_differ {above} {x} t p at e among h) =
      of_item (at_place code.V5 t.name.place) at (in_target_widths (known_above above) x t e
      (or_left _ (item_too_wide (known_above above) x) (some-differs (pairs (known_above above) x) p among h)))
  v5_listed _ (faults.wide_concat {above} {x} {parts} {width} at e h) =
      let t : Target = record { setting = assign; name = x } in
      of_item (at_place code.V5 x.place) at (in_target_widths (known_above above) (item.assign x (item.concat parts)) t refl
      (or_right (list_any differ (pairs (known_above above) (item.assign x (item.concat parts)))) _
      (some-too_wide (parts_width (known_above above) parts) width e h)))
  v5_listed _ (faults.out_of_range {above} {x} {y} {high} {low} {shape} at e h) =
      of_item (at_place code.V5 y.place) at (in_slices (at_place code.V5 y.place) (known_above above) (item.assign x (item.slice y high low))
      (subst (λ (o : Option Shape). StandsIn (at_place code.V5 y.place) (past_shape o high low y.place)) (sym e)
      (noted (not (nat_le low high && nat_lt high (shape_width shape))) code.V5 y.place (not_from_false _ (not_both low high (shape_width shape) h)))))

  abbrev last : Known
  last = known_above (record { ports = f.ports; items = f.items })

  lacks_some : (d : Declaration) (s : Setting) → lacks last d s ≡ true → (lacks last d assign || (lacks last d initial || lacks last d always)) ≡ true
  lacks_some d assign h = or_left _ _ h
  lacks_some d initial h = or_right (lacks last d assign) _ (or_left _ _ h)
  lacks_some d always h = or_right (lacks last d assign) _ (or_right (lacks last d initial) _ h)

  unset_listed : (d : Declaration) (s : Setting) → needs d.shape s ≡ true → is_set s d.name.name f.items ≡ false
      → StandsIn (at_place code.V6 d.name.place) (unset_faults last d)
  unset_listed d s need unset =
      noted (lacks last d assign || (lacks last d initial || lacks last d always)) code.V6 d.name.place
      (lacks_some d s (and_from (needs d.shape s) _ need (not_from_false _ unset)))

  in_port_unset : (a : Fault) (d : Declaration) → StandsIn d (map port_declaration f.ports) → StandsIn a (unset_faults last d) → StandsIn a (file_faults f)
  unfolding ports_unset unsets_faults
  in_port_unset a d among h =
      in_ports_unset a (subst (λ (k : Known). StandsIn a (ports_unset k f.ports)) (sym (at_end f)) (in_flat_map a (unset_faults last) d (map port_declaration f.ports) among h))

  in_item_unset : (a : Fault) (d : Declaration) → StandsIn d (flat_map item_declarations f.items) → StandsIn a (unset_faults last d) → StandsIn a (file_faults f)
  unfolding items_unset unsets_faults
  in_item_unset a d among h =
      in_items_unset a (subst (λ (k : Known). StandsIn a (items_unset k f.items)) (sym (at_end f))
      (in_flat_map a (unset_faults last) d (flat_map item_declarations f.items) among h))

  v6_listed : (place : ℕ) → V6 f place → StandsIn (at_place code.V6 place) (file_faults f)
  v6_listed _ (faults.unset d s among need unset) =
      elim (among_cases d (map port_declaration f.ports) (flat_map item_declarations f.items) among) [
        | inl k ↦ in_port_unset (at_place code.V6 d.name.place) d k (unset_listed d s need unset)
        | inr k ↦ in_item_unset (at_place code.V6 d.name.place) d k (unset_listed d s need unset)
      ]

  v7_listed : (place : ℕ) → V7 f place → StandsIn (at_place code.V7 place) (file_faults f)
  v7_listed _ (faults.no_depth {above} {range} {last = cells} {x} at h) =
      of_item (at_place code.V7 cells.place) at (in_depths (at_place code.V7 cells.place) (known_above above) (item.memory range x cells)
      (noted (not (is_depth (cells.value + 1))) code.V7 cells.place (not_from_false _ (false_from_ne_true _ (λ d. h (is_depth-HasIndex (cells.value + 1) d))))))
  v7_listed _ (faults.other_bound {above} {place} {bound} {x} {value} {width} {depth} at e h) =
      of_item (at_place code.V7 bound.place) at (in_bounds (at_place code.V7 bound.place) (known_above above) (item.initial_cells place bound x value)
      (subst (λ (o : Option Shape). StandsIn (at_place code.V7 bound.place) (listed.other_bound o bound)) (sym e)
      (noted (not (bound.value == depth)) code.V7 bound.place (apart bound.value depth h))))
  v7_listed _ (faults.other_index {above} {x} m index {width} {b} {u} at among e given h) =
      of_item (at_place code.V7 (operand_place index)) at (in_indexes (at_place code.V7 (operand_place index)) (known_above above) x (m, index) among
      (subst (λ (o : Option Shape). StandsIn (at_place code.V7 (operand_place index))
      (listed.other_index o (operand_width (known_above above) index) (operand_place index))) (sym e)
      (subst (λ (w : Option ℕ). StandsIn (at_place code.V7 (operand_place index)) (depth_index (2 ^ b) w (operand_place index))) (sym given)
      (noted (is_other (2 ^ b) u) code.V7 (operand_place index) (is_other-from b u h)))))
  v7_listed _ (faults.other_kind {above} {x} u {shape} at among e h) =
      of_use (at_place code.V7 u.name.place) above x u (Some shape) at among e
      (among_right (at_place code.V7 u.name.place) (fault_if (is_unassigned u.manner shape (is_set assign u.name.name above.items)) code.V4 u.name.place) _
      (noted (not (suits u.manner shape)) code.V7 u.name.place (not_from_false _ h)))

  pub all_listed : (c : Code) (place : ℕ) → Stands f c place → StandsIn (at_place c place) (file_faults f)
  all_listed code.V3 place h = v3_listed place h
  all_listed code.V4 place h = v4_listed place h
  all_listed code.V5 place h = v5_listed place h
  all_listed code.V6 place h = v6_listed place h
  all_listed code.V7 place h = v7_listed place h
