-- Lattice files: a file is at most one lattice with its whole table, and what reading one comes to.
use Rattle.sap_lemmas.proofs.Common.{◌≡◌, ◌≢◌, ◌↔◌, ◌<◌, ℕ, Bool, true, false, List, [], length, refl, sym, ◌∙◌, ap, subst, inl, inr, arith, map, slice_index_or}
use Rattle.std.proofs.lemmas.List.FromFn.{get_or-map-range_with_len}
use Rattle.sap_lattice.proofs.LevelsLemmas.{level_in_same}
use mathlib.Core.Path.{fun_ext}
use Rattle.sap_lattice.specs.Prelude.{IsLatticeOf, Below, Levels, is_below, level_in, numbers, order_by, order_of, Order}
use Rattle.sap_lattice.specs.declared.pair.Pair.{Pair}
use Rattle.sap_lattice.specs.Closure.{IsGreatest, IsJoin, IsLeast, IsLevel}
use Rattle.sap_lattice.proofs.Orders.{level_in_below}
use Rattle.sap_latfile.specs.LatticeFile.{FirstFault, IsLatticeOfFile}
use Rattle.sap_latfile.specs.OneLattice.{AreSame}
use Rattle.sap_latfile.specs.declared.fault.LatFileFault.{LatFileFault}
use Rattle.sap_latfile.specs.declared.fault.LatFileFault.TheVariants as lattice
use Rattle.sap_latfile.proofs.Answered.{one_fault, not_both}
use Rattle.sap_latfile.proofs.OneLattice.{one_lattice}
use Rattle.sap_files.specs.Prelude.{lattice_refused, IsLatticeFile, IsLawful, lattice_file, table_by, Refuses, ending, lattice_failure, whole}
use Rattle.sap_files.specs.declared.failure.Failure.{Failure}

-- the whole table

module _ (count : ℕ) (le : ℕ → ℕ → Bool) where
  in_table : (x y : ℕ) → x < count → y < count → is_below (table_by count le) x y ≡ le x y
  in_table x y low high =
      ap (λ (row : List Bool). slice_index_or row y false) (get_or-map-range_with_len (λ x. map (le x) (numbers count)) 0 count x x [] low (omega arith))
      ∙ get_or-map-range_with_len (le x) 0 count y y false high (omega arith)

module _ (l : Levels) (some : 0 < length l.names) where
  same_le : (x y : ℕ) → (order_of (whole l)).le x y ≡ (order_of l).le x y
  unfolding order_of order_by
  same_le x y =
      let n : ℕ = length l.names in
      let a : ℕ = level_in n x in
      let b : ℕ = level_in n y in
      let low : a < n = level_in_below n x some in
      let high : b < n = level_in_below n y some in
      in_table n (λ x y. is_below l.table (level_in n x) (level_in n y)) a b low high
      ∙ ap (λ (v : ℕ). is_below l.table v (level_in n b)) (level_in_same n a low)
      ∙ ap (λ (v : ℕ). is_below l.table a v) (level_in_same n b high)

  by_le : (order_of (whole l)).le ≡ (order_of l).le → order_of (whole l) ≡ order_of l
  unfolding order_of order_by
  by_le same = ap (order_by (length l.names)) same

  same_order : order_of (whole l) ≡ order_of l
  same_order = by_le (fun_ext (λ (x : ℕ). fun_ext (λ (y : ℕ). same_le x y)))

some_level : (names : List (List ℕ)) (pairs : List Pair) (l : Levels) → IsLatticeOf names pairs l → 0 < length l.names
some_level names pairs l is =
    let two = is.kept.before.before.before.before.before.at_least_two in
    let same = ap length is.same_names in
    omega arith

whole_of : (names : List (List ℕ)) (pairs : List Pair) (l : Levels) → IsLatticeOf names pairs l → IsLatticeOf names pairs (whole l)
whole_of names pairs l is =
    let same = sym (same_order l (some_level names pairs l is)) in
    record {
      kept = is.kept;
      same_names = is.same_names;
      order = subst (λ (o : Order). (x y : ℕ) → IsLevel names x → IsLevel names y → (o.le x y ≡ true) ↔ Below names pairs x y) same is.order;
      join = subst (λ (o : Order). (x y : ℕ) → IsLevel names x → IsLevel names y → IsJoin names pairs x y (o.join x y)) same is.join;
      bottom = subst (λ (o : Order). IsLeast names pairs o.bottom) same is.bottom;
      top = subst (λ (o : Order). IsGreatest names pairs o.top) same is.top;
    }

pub whole_same : (bytes : List ℕ) (l : Levels) → IsLatticeFile bytes (whole l) → AreSame l (whole l)
whole_same bytes l stands =
    let (names, pairs, file, is) = stands.lattice in
    record { names = refl; order = sym (same_order l (some_level names pairs (whole l) is)) }

pub lattice_stands : (bytes : List ℕ) (l : Levels) → IsLatticeOfFile bytes l → IsLatticeFile bytes (whole l)
lattice_stands bytes l (names, pairs, file, is) = record {
  lattice = (names, pairs, file, whole_of names pairs l is);
  table = ap (λ (o : Order). table_by (length l.names) o.le) (sym (same_order l (some_level names pairs l is)));
}

-- the kind is lawful

same_levels : (v w : Levels) → v.names ≡ w.names → v.table ≡ w.table → v ≡ w
same_levels v w names table =
    ap (λ (ns : List (List ℕ)). record { names = ns; table = v.table }) names ∙ ap (λ (t : List (List Bool)). record { names = w.names; table = t }) table

one_whole : (bytes : List ℕ) (v w : Levels) → IsLatticeFile bytes v → IsLatticeFile bytes w → v ≡ w
one_whole bytes v w a b =
    let same = one_lattice bytes v w a.lattice b.lattice in
    same_levels v w same.names
    (a.table ∙ ap (λ (ns : List (List ℕ)). table_by (length ns) (order_of v).le) same.names ∙ ap (λ (o : Order). table_by (length w.names) o.le) same.order ∙ sym b.table)

pub lattice_lawful : IsLawful lattice_file
lattice_lawful = record {
  one_value = one_whole;
  one_reason = λ bytes why other (fault, is, first) (fault', was, first').
      is ∙ ap lattice_refused (one_fault bytes fault fault' first first') ∙ sym was;
  not_both = λ bytes v why stands (fault, is, first). not_both bytes v fault stands.lattice first;
}

-- reading one

unread : (bytes : List ℕ) (fault : LatFileFault) → (fault ≢ lattice.Memory → FirstFault bytes fault) → Refuses lattice_file bytes (ending (lattice_failure fault))
unread bytes lattice.Memory first = inl refl
unread bytes lattice.NotToml first = inr (lattice_refused lattice.NotToml, refl, (lattice.NotToml, refl, first (λ e. cc)))
unread bytes lattice.Shape first = inr (lattice_refused lattice.Shape, refl, (lattice.Shape, refl, first (λ e. cc)))
unread bytes (lattice.Rule f) first = inr (lattice_refused (lattice.Rule f), refl, (lattice.Rule f, refl, first (λ e. cc)))

pub lattice_unread : (bytes : List ℕ) (fault : LatFileFault) (failure : Failure) → failure ≡ lattice_failure fault → (fault ≢ lattice.Memory → FirstFault bytes fault)
    → Refuses lattice_file bytes (ending failure)
lattice_unread bytes fault failure is first = subst (λ (f : Failure). Refuses lattice_file bytes (ending f)) (sym is) (unread bytes fault first)
