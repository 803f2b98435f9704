-- Two lattices of one file are the same.
use Rattle.sap_lemmas.proofs.Common.{◌≡◌, ℕ, ◌<◌, List, length, sym, ap, ◌∙◌, subst, arith, iff_same, some_unique}
use Rattle.sap_lattice.proofs.LevelsLemmas.{level_in_same}
use mathlib.Core.Path.{fun_ext}
use Rattle.toml.specs.Parse.{parse_document}
use Rattle.sap_lattice.specs.Prelude.{IsLatticeOf, Levels, order_of, order_by, is_below, level_in, KeepsAll}
use Rattle.sap_lattice.specs.declared.pair.Pair.{Pair}
use Rattle.sap_lattice.proofs.Orders.{level_in_below}
use Rattle.sap_latfile.specs.Document.{Lists}
use Rattle.sap_latfile.specs.LatticeFile.{IsFileOf}
use Rattle.sap_latfile.specs.OneLattice.{AreSame, OneLattice}

same_document : (bytes : List ℕ) (names others : List (List ℕ)) (pairs rest : List Pair) (f : IsFileOf bytes names pairs) (g : IsFileOf bytes others rest) → f.document ≡ g.document
same_document bytes names others pairs rest f g = some_unique (parse_document bytes) f.document g.document f.is_document.1 g.is_document.1

same_names : (bytes : List ℕ) (names others : List (List ℕ)) (pairs rest : List Pair) → IsFileOf bytes names pairs → IsFileOf bytes others rest → names ≡ others
same_names bytes names others pairs rest f g =
    let h : Lists g.document names pairs = subst (λ d. Lists d names pairs) (same_document bytes names others pairs rest f g) f.lists in
    some_unique _ names others h.levels g.lists.levels

same_pairs : (bytes : List ℕ) (names others : List (List ℕ)) (pairs rest : List Pair) → IsFileOf bytes names pairs → IsFileOf bytes others rest → pairs ≡ rest
same_pairs bytes names others pairs rest f g =
    let h : Lists g.document names pairs = subst (λ d. Lists d names pairs) (same_document bytes names others pairs rest f g) f.lists in
    some_unique _ pairs rest h.below g.lists.below

-- at places beyond the last the order is that at the first
clamped : (l : Levels) (n : ℕ) → length l.names ≡ n → 0 < n → (x y : ℕ) → (order_of l).le x y ≡ (order_of l).le (level_in n x) (level_in n y)
unfolding order_of order_by
clamped l n e some x y =
    subst
    (λ n. 0 < n → is_below l.table (level_in (length l.names) x) (level_in (length l.names) y)
    ≡ is_below l.table (level_in (length l.names) (level_in n x)) (level_in (length l.names) (level_in n y)))
    e
    (λ low. let m : ℕ = length l.names in
    ap (λ v. is_below l.table v (level_in m y)) (sym (level_in_same m (level_in m x) (level_in_below m x low)))
    ∙ ap (λ v. is_below l.table (level_in m (level_in m x)) v) (sym (level_in_same m (level_in m y) (level_in_below m y low))))
    some

same_le : (names : List (List ℕ)) (pairs : List Pair) (l m : Levels) → 0 < length names → IsLatticeOf names pairs l → IsLatticeOf names pairs m
    → (x y : ℕ) → (order_of l).le x y ≡ (order_of m).le x y
same_le names pairs l m some p q x y =
    let n : ℕ = length names in
    let a : ℕ = level_in n x in
    let b : ℕ = level_in n y in
    let la : a < n = level_in_below n x some in
    let lb : b < n = level_in_below n y some in
    clamped l n (ap length p.same_names) some x y
    ∙ iff_same ((order_of l).le a b) ((order_of m).le a b) (λ h. (q.order a b la lb).1 ((p.order a b la lb).0 h)) (λ h. (p.order a b la lb).1 ((q.order a b la lb).0 h))
    ∙ sym (clamped m n (ap length q.same_names) some x y)

by_parts : (l m : Levels) → l.names ≡ m.names → (order_of l).le ≡ (order_of m).le → order_of l ≡ order_of m
unfolding order_of order_by
by_parts l m e f = ap (λ n. order_by n (λ x y. is_below l.table (level_in (length l.names) x) (level_in (length l.names) y))) (ap length e)
    ∙ ap (λ le. order_by (length m.names) le) f

at_least_one : (names : List (List ℕ)) (pairs : List Pair) → KeepsAll names pairs → 0 < length names
at_least_one names pairs k = let two = k.before.before.before.before.before.at_least_two in omega arith

same_lattices : (names : List (List ℕ)) (pairs : List Pair) (l m : Levels) → IsLatticeOf names pairs l → IsLatticeOf names pairs m → AreSame l m
same_lattices names pairs l m p q =
    let e : l.names ≡ m.names = p.same_names ∙ sym q.same_names in
    record {
      names = e;
      order = by_parts l m e (fun_ext (λ (x : ℕ). fun_ext (λ (y : ℕ). same_le names pairs l m (at_least_one names pairs p.kept) p q x y)));
    }

pub one_lattice : OneLattice
one_lattice bytes l m (names, pairs, f, p) (others, rest, g, q) =
    let r : IsLatticeOf names pairs m =
    subst (λ ps. IsLatticeOf names ps m) (sym (same_pairs bytes names others pairs rest f g))
    (subst (λ ns. IsLatticeOf ns rest m) (sym (same_names bytes names others pairs rest f g)) q) in
    same_lattices names pairs l m p r
