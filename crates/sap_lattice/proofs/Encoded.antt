-- An order in rows and the codes of its levels make a lattice.
use Rattle.std.proofs.Common.{◌≡◌, ℕ, zero, suc, ◌^◌, ◌<◌, ◌≤◌, Bool, false, not, ◌==◌, List, [], length, get_or, refl, sym, ap, ap₂, ◌∙◌, subst, inl, inr, ◌⊎◌, arith}
use Rattle.std.specs.Prelude.{map, bit_or, filter, find, unwrap_or, All}
use Rattle.std.proofs.lemmas.Bool.{eq-eqb, not_from_true, and_left}
use Rattle.std.proofs.lemmas.List.{get_or-map}
use Rattle.std.proofs.lemmas.List.FromFn.{length-map-range_with_len, get_or-map-range_with_len}
use Rattle.sap_lattice.specs.Order.{Order, Laws}
use Rattle.sap_lattice.specs.Levels.{Levels, numbers, order_by, order_of, level_in, is_below, is_greatest}
use Rattle.sap_lattice.specs.Codes.{Codes, code_of, is_in_code, is_meet_irreducible, is_upper_cover, meet_irreducibles, number_of, width_of}
use Rattle.sap_lattice.specs.Finite.{HasJoins}
use Rattle.sap_lattice.specs.Kept.{IsKept, levels_of, table_of}
use Rattle.sap_lattice.specs.Lawful.{IsLattice, IsAntisymmetric, IsNarrow}
use Rattle.sap_lattice.specs.Rows.{le_in, order_in}
use Rattle.sap_lattice.specs.Rules.{KeepsNames}
use Rattle.sap_lattice.proofs.CodeLaws.{coded}
use Rattle.sap_lattice.proofs.Covers.{IsLatticeOrder}
use Rattle.sap_lattice.proofs.Numbers.{filter_fewer, filter_small}
use Rattle.sap_lattice.proofs.RowLemmas.{order_in-count}
use Rattle.sap_lattice.proofs.Orders.{lawful, level_in_below}
use mathlib.Core.Path.{fun_ext}

cases_zero : (n : ℕ) → (n ≡ 0) ⊎ (0 < n)
cases_zero zero = inl refl
cases_zero (suc n) = inr (omega arith)

-- the top is not among the meet-irreducibles
fewer : (o : Order) → Laws o → width_of o < o.count
unfolding meet_irreducibles
fewer o laws =
    let covers : Bool = length (filter (is_upper_cover o o.top) (numbers o.count)) == 1 in
    filter_fewer (is_meet_irreducible o) o.count o.top laws.top_is_level
    (and_left (not (o.top == o.top)) covers (not_from_true (o.top == o.top) (eq-eqb o.top o.top refl)))

-- without a bit all levels have one code
no_bits : (o : Order) → Codes o → width_of o ≡ 0 → (x : ℕ) → code_of o x ≡ 0
no_bits o codes e x = let h : code_of o x < 2 ^ 0 = subst (λ w. code_of o x < 2 ^ w) e (codes.small x) in omega arith

-- a lattice of two levels or more has codes of a bit or more
narrow : (o : Order) → Laws o → Codes o → 2 ≤ o.count → IsNarrow o
narrow o laws codes two = record {
  some =
      elim (cases_zero (width_of o)) [
        | inl e ↦
            let same : 0 ≡ 1 = codes.apart 0 1 (omega arith) (omega arith) (no_bits o codes e 0 ∙ sym (no_bits o codes e 1)) in
            absurd (omega arith)
        | inr h ↦ h
      ];
  few = fewer o laws;
}

-- the top of the order that rows tell
pub top_found : (rows : List ℕ) (t : ℕ) → t ≡ unwrap_or (find (is_greatest (length rows) (order_in rows).le) (numbers (length rows))) 0 → t ≡ (order_in rows).top
unfolding order_in order_by
top_found rows t h = h

table_of_at : (cs : List ℕ) (x y : ℕ) → x < length cs → y < length cs → is_below (table_of cs) x y ≡ (bit_or (get_or cs x 0) (get_or cs y 0) == get_or cs y 0)
table_of_at cs x y a b =
    ap (λ (row : List Bool). get_or row y false) (get_or-map (λ c. map (λ d. bit_or c d == d) cs) cs x 0 [] a)
    ∙ get_or-map (λ d. bit_or (get_or cs x 0) d == d) cs y 0 false b

module _ (rows : List ℕ) (has : HasJoins (length rows) (le_in rows)) where
  order_is_lattice : IsLatticeOrder (order_in rows)
  unfolding order_in order_by
  order_is_lattice = record { laws = lawful (length rows) (le_in rows) has; apart = has.order.apart }

  -- its least and its greatest level are levels
  pub bottom_within : (order_in rows).bottom < length rows
  bottom_within = let low = order_is_lattice.laws.bottom_is_level in let count = order_in-count rows in omega arith

  pub top_within : (order_in rows).top < length rows
  top_within = let low = order_is_lattice.laws.top_is_level in let count = order_in-count rows in omega arith

  -- the meet-irreducibles are levels, and fewer than there are levels
  pub irreducibles_within : (ms : List ℕ) → ms ≡ filter (is_meet_irreducible (order_in rows)) (numbers (length rows)) → All (λ m. m < length rows) ms × (length ms < length rows)
  unfolding meet_irreducibles
  irreducibles_within ms h =
      let o : Order = order_in rows in
      let P : List ℕ → Type 0 = λ ks. All (λ m. m < length rows) ks × (length ks < length rows) in
      let Q : ℕ → Type 0 = λ n. length (filter (is_meet_irreducible o) (numbers n)) < n in
      subst P (sym h) (filter_small (is_meet_irreducible o) (length rows), subst Q (order_in-count rows) (fewer o order_is_lattice.laws))

  order_codes : Codes (order_in rows)
  order_codes = coded (order_in rows) order_is_lattice

  -- the codes of the levels of the order
  level_codes : List ℕ
  level_codes = map (code_of (order_in rows)) (numbers (length rows))

  level_codes_at : (x : ℕ) → x < length rows → get_or level_codes x 0 ≡ code_of (order_in rows) x
  unfolding level_codes
  level_codes_at x low = get_or-map-range_with_len (code_of (order_in rows)) 0 (length rows) x x 0 low (omega arith)

  -- the table of the codes tells the order
  table_at : (x y : ℕ) → x < length rows → y < length rows → is_below (table_of level_codes) x y ≡ le_in rows x y
  unfolding level_codes order_in order_by
  table_at x y a b =
      let count : length level_codes ≡ length rows = length-map-range_with_len (code_of (order_in rows)) 0 (length rows) in
      table_of_at level_codes x y (omega arith) (omega arith)
      ∙ ap₂ (λ (c d : ℕ). bit_or c d == d) (level_codes_at x a) (level_codes_at y b)
      ∙ order_codes.within x y

  module _ (names : List (List ℕ)) (kept : KeepsNames names) (count : length rows ≡ length names) where
    levels : Levels
    levels = levels_of names level_codes

    same_order : order_of (levels_of names level_codes) ≡ order_in rows
    unfolding order_of order_in
    same_order =
        let n : ℕ = length rows in
        let by : ℕ → Order = λ k. order_by k (λ x y. is_below (table_of level_codes) (level_in k x) (level_in k y)) in
        ap by (sym count)
        ∙ ap (order_by n) (fun_ext (λ (x : ℕ). fun_ext (λ (y : ℕ).
        table_at (level_in n x) (level_in n y) (level_in_below n x has.order.some) (level_in_below n y has.order.some) ∙ sym (has.order.clamped x y))))

    is_lattice : IsLattice levels
    unfolding levels
    is_lattice =
        let o : Order = order_in rows in
        let laws : Laws o = order_is_lattice.laws in
        let two : 2 ≤ o.count = let least = kept.before.at_least_two in let c = order_in-count rows in omega arith in
        record {
          names = kept;
          laws = subst Laws (sym same_order) laws;
          antisymmetric = subst IsAntisymmetric (sym same_order) order_is_lattice.apart;
          codes = subst Codes (sym same_order) order_codes;
          narrow = subst IsNarrow (sym same_order) (narrow o laws order_codes two);
        }

    is_kept : (width bottom top : ℕ) → width ≡ width_of (order_in rows) → bottom ≡ (order_in rows).bottom → top ≡ (order_in rows).top → IsKept levels level_codes width bottom top
    unfolding levels level_codes
    is_kept width bottom top width_is bottom_is top_is = record {
      lattice = is_lattice;
      codes_are = ap₂ (λ (o : Order) (n : ℕ). map (code_of o) (numbers n)) (sym same_order) count;
      width_is = width_is ∙ ap width_of (sym same_order);
      bottom_is = bottom_is ∙ ap (λ (o : Order). o.bottom) (sym same_order);
      top_is = top_is ∙ ap (λ (o : Order). o.top) (sym same_order);
    }

    -- the parts that the code makes
    pub kept_by : (codes : List ℕ) (width bottom top : ℕ)
        → codes ≡ map (λ x. number_of (map (is_in_code (order_in rows) x) (filter (is_meet_irreducible (order_in rows)) (numbers (length rows)))))
        (numbers (length rows)) → width ≡ length (filter (is_meet_irreducible (order_in rows)) (numbers (length rows)))
        → bottom ≡ (order_in rows).bottom → top ≡ (order_in rows).top → IsKept (levels_of names codes) codes width bottom top × (order_of (levels_of names codes) ≡ order_in rows)
    unfolding levels level_codes code_of meet_irreducibles order_in order_by
    kept_by codes width bottom top codes_are width_is bottom_is top_is =
        let P : List ℕ → Type 0 = λ cs. IsKept (levels_of names cs) cs width bottom top × (order_of (levels_of names cs) ≡ order_in rows) in
        subst P (sym codes_are) (is_kept width bottom top width_is bottom_is top_is, same_order)
