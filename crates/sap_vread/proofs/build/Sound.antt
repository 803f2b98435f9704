-- What a file without a fault has, item by item.
use Rattle.sap_lemmas.proofs.Common.{◌≡◌, ℕ, suc, zero, ◌+◌, ◌^◌, ◌<◌, ◌≤◌, List, [], ◌∷◌, ◌++◌, true, false, Option, Some, None, refl, sym, ap, ◌∙◌, subst, inl, inr, ⊎_elim, arith, append_assoc, ◌⊎◌, IsSome, AllByRecursion, cases_lt, cases_eq, false_from_ne_true}
use Rattle.std.proofs.lemmas.Bool.{true_from_ne_false}
use Rattle.sap_vtext.proofs.FaultsLemmas.{all_alike}
use Rattle.sap_maps.specs.Maps.{Name}
use Rattle.sap_net.specs.Names.{is_among, AreDistinct}
use Rattle.sap_vtext.specs.Items.{Mention, Number, Operand, Right, Item, Port, File}
use Rattle.sap_vtext.specs.Items as item
use Rattle.sap_text.specs.Best.{StandsIn}
use Rattle.sap_vtext.specs.Names.{Shape, wire, Declaration, declarations, shape_in, Above, IsItemOf, shape_above, Setting, assign, Target, target_of, is_set, known_above}
use Rattle.sap_vtext.specs.Widths.{shape_width, constant_fits, pairs, Differ}
use Rattle.sap_vtext.specs.Faults.{is_settable, Use, uses, suits, constants, indexes, HasIndex, needs, IsFaultless}
use Rattle.sap_vtext.specs.Faults as fault
use Rattle.sap_vtext.proofs.Good.{IsGoodUse, IsGoodIndex}
use Rattle.sap_vtext.proofs.NameLists.{named_among, among_name, among_right}
use Rattle.sap_vread.proofs.build.Entries.{declared_names, shape_known}

-- A power of two up to a bound, or none.

abbrev IsPower : ℕ → ℕ → Type 0
IsPower n k = (b : ℕ) × (1 ≤ b) × (b ≤ k) × (n ≡ 2 ^ b)

find_power : (n k : ℕ) → IsPower n k ⊎ (IsPower n k → ⊥)
find_power n zero = inr (λ p. let low = p.1 in let high = p.2 in absurd (omega arith))
find_power n (suc k) =
    ⊎_elim
    (λ p. let high = p.2 in inl (p.0, p.1, omega arith, p.3))
    (λ none.
    ⊎_elim
    (λ e. inl (suc k, omega arith, omega arith, e))
    (λ differ. inr (λ p. by_bits p none differ (cases_eq p.0 (suc k))))
    (cases_eq n (2 ^ suc k)))
    (find_power n k) where
      by_bits : (p : IsPower n (suc k)) → (IsPower n k → ⊥) → (n ≡ 2 ^ suc k → ⊥) → (p.0 ≡ suc k) ⊎ (p.0 ≡ suc k → ⊥) → ⊥
      by_bits p none differ (inl e) = differ (p.3 ∙ ap (λ b. 2 ^ b) e)
      by_bits p none differ (inr d) = let high = p.2 in none (p.0, p.1, omega arith, p.3)

pub depth_stable : (n : ℕ) → ((HasIndex n → ⊥) → ⊥) → HasIndex n
depth_stable n h = ⊎_elim (λ p. (p.0, (p.1, p.2, p.3))) (λ none. absurd (h (λ d. none (d.0, d.1.0, d.1.1, d.1.2)))) (find_power n 12)

-- a part of a list, with what stands before and behind it
pub record Part {A : Type 0} (x : A) (xs : List A) : Type 0 where
  pub before : List A
  pub after : List A
  pub is : xs ≡ before ++ x ∷ after

pub part_of : {A : Type 0} (x : A) (xs : List A) → StandsIn x xs → Part x xs
part_of x [] m = absurd m
part_of x (y ∷ ys) (inl e) = record { before = []; after = ys; is = ap (λ z. z ∷ ys) (sym e) }
part_of x (y ∷ ys) (inr m) = let r = part_of x ys m in record { before = y ∷ r.before; after = r.after; is = ap (λ z. y ∷ z) r.is }

module _ (f : File) (h : IsFaultless f) where
  -- Names are declared once.

  known_there : (ds : List Declaration) (n : Name) → is_among n (declared_names ds) ≡ true → IsSome (shape_in ds n)
  known_there ds n m = shape_known ds n ∙ m

  distinct_from : (before rest : List Declaration) → declarations f.ports f.items ≡ before ++ rest → AreDistinct (declared_names rest)
  distinct_from before [] e = tt
  distinct_from before (d ∷ ds) e =
      (false_from_ne_true (is_among d.name.name (declared_names ds)) twice, distinct_from (before ++ d ∷ []) ds (e ∙ sym (append_assoc before (d ∷ []) ds))) where
        twice : is_among d.name.name (declared_names ds) ≡ true → ⊥
        twice m =
            let r = named_among (λ (c : Declaration). c.name.name) ds d.name.name m in
            let p = part_of r.0 ds r.1 in
            let all : declarations f.ports f.items ≡ (before ++ d ∷ p.before) ++ r.0 ∷ p.after =
            e ∙ ap (λ z. before ++ d ∷ z) p.is ∙ sym (append_assoc before (d ∷ p.before) (r.0 ∷ p.after)) in
            let there : is_among r.0.name.name (declared_names (before ++ d ∷ p.before)) ≡ true =
            subst (λ z. is_among z (declared_names (before ++ d ∷ p.before)) ≡ true) (sym r.2)
            (among_name (λ (c : Declaration). c.name.name) d (before ++ d ∷ p.before) (among_right d before (d ∷ p.before) (inl refl))) in
            h.v3 r.0.name.place (fault.declared_before (before ++ d ∷ p.before) p.after r.0 all (known_there (before ++ d ∷ p.before) r.0.name.name there))

  pub names_distinct : AreDistinct (declared_names (declarations f.ports f.items))
  names_distinct = distinct_from [] (declarations f.ports f.items) refl

  -- Uses, constants, widths and indexes.

  pub good_use : (a : Above) (x : Item) → IsItemOf f a x → (u : Use) → StandsIn u (uses x) → IsGoodUse a u
  good_use a x i u m = by_shape (shape_above a u.name.name) refl where
    by_shape : (o : Option Shape) → shape_above a u.name.name ≡ o → IsGoodUse a u
    by_shape None e = absurd (h.v4 u.name.place (fault.undeclared u i m e))
    by_shape (Some s) e = record {
      shape = s;
      declared = e;
      suits = true_from_ne_false (suits u.manner s) (λ n. h.v7 u.name.place (fault.other_kind u i m e n));
      assigned = λ width v g. true_from_ne_false (is_set assign u.name.name a.items)
          (λ n. h.v4 u.name.place (fault.unassigned u i m v (e ∙ ap (λ z. Some z) g) n));
    }

  pub good_uses : (a : Above) (x : Item) → IsItemOf f a x → AllByRecursion (IsGoodUse a) (uses x)
  good_uses a x i = all_alike (IsGoodUse a) (uses x) (good_use a x i)

  pub good_constants : (a : Above) (x : Item) → IsItemOf f a x → AllByRecursion (λ c. constant_fits c ≡ true) (constants x)
  good_constants a x i =
      all_alike (λ c. constant_fits c ≡ true) (constants x) (λ c m. true_from_ne_false (constant_fits c) (λ n. h.v5 c.place (fault.unfit c i m n)))

  pub good_pairs : (a : Above) (x : Item) (t : Target) → IsItemOf f a x → target_of x ≡ Some t → AllByRecursion (λ p. Differ p → ⊥) (pairs (known_above a) x)
  good_pairs a x t i e = all_alike (λ p. Differ p → ⊥) (pairs (known_above a) x) (λ p m d. h.v5 t.name.place (fault.widths_differ t p i e m d))

  pub good_index : (a : Above) (x : Item) → IsItemOf f a x → (m : Mention) (index : Operand) → StandsIn {A = Mention × Operand} (m, index) (indexes x) → IsGoodIndex a (m, index)
  good_index a x i m index among width b u e v =
      ⊎_elim (λ s. s) (λ d. absurd (h.v7 (fault.operand_place index) (fault.other_index m index i among e v d))) (cases_eq u b)

  pub assigned_first : (a : Above) (x : Mention) (right : Right) (width : ℕ) → IsItemOf f a (item.assign x right) → shape_above a x.name ≡ Some (wire width)
      → is_set assign x.name a.items ≡ false
  assigned_first a x right width i e =
      false_from_ne_true (is_set assign x.name a.items)
      (λ s. h.v3 x.place (fault.set_before (record { setting = assign; name = x }) i refl (ap is_settable e) s))

  pub slice_fits : (a : Above) (x y : Mention) (high low : ℕ) (shape : Shape) → IsItemOf f a (item.assign x (item.slice y high low)) → shape_above a y.name ≡ Some shape
      → (low ≤ high) × (high < shape_width shape)
  slice_fits a x y high low shape i e =
      let wrong : ((low ≤ high → high < shape_width shape → ⊥) → ⊥) = λ g. h.v5 y.place (fault.out_of_range i e g) in
      ⊎_elim
      (λ less. absurd (wrong (λ p q. omega arith)))
      (λ p. ⊎_elim (λ q. (p, q)) (λ more. absurd (wrong (λ r s. omega arith))) (cases_lt high (shape_width shape)))
      (cases_lt high low)

  pub good_depth : (a : Above) (range last : Number) (x : Mention) → IsItemOf f a (item.memory range x last) → HasIndex (last.value + 1)
  good_depth a range last x i = depth_stable (last.value + 1) (λ n. h.v7 last.place (fault.no_depth i n))

  -- Ranges, and what is set.

  pub small_port : (p : Port) → StandsIn p f.ports → p.range.value ≤ 63
  small_port p m = ⊎_elim (λ w. absurd (h.v5 p.range.place (fault.wide_port p m w))) (λ q. q) (cases_lt 63 p.range.value)

  pub small_range : (a : Above) (x : Item) → IsItemOf f a x → (n : Number) → StandsIn n (fault.ranges x) → n.value ≤ 63
  small_range a x i n m = ⊎_elim (λ w. absurd (h.v5 n.place (fault.wide_range n i m w))) (λ q. q) (cases_lt 63 n.value)

  pub all_set : (d : Declaration) (s : Setting) → StandsIn d (declarations f.ports f.items) → needs d.shape s ≡ true → is_set s d.name.name f.items ≡ true
  all_set d s m n = true_from_ne_false (is_set s d.name.name f.items) (λ u. h.v6 d.name.place (fault.unset d s m n u))
