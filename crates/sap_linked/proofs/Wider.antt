-- The wires of parts behind more than they read.
use Rattle.sap_lemmas.proofs.Common.{◌≡◌, ℕ, suc, ◌<◌, ◌≤◌, true, false, List, [], ◌∷◌, ◌++◌, map, length, None, refl, ◌∙◌, ap, subst, inl, inr, arith, bytes_eq, cases_Bool, neither_left, neither_right, bytes_eq_apart_back, equal_of_bytes_eq}
use Rattle.sap_maps.specs.Prelude.{Name, Scope, find}
use Rattle.sap_net.specs.Prelude.{AreDistinct, is_among, Net, Shapes, AreWires, readable_after, IsNetlist, first_readable, names_of, shapes, top_name}
use Rattle.sap_net.specs.declared.parts.Wire.{Wire}
use Rattle.sap_net.proofs.NamesLemmas.{among_front, among_behind}
use Rattle.sap_net.proofs.RulesLemmas.{Grows, readable_kept, wires_both}
use Rattle.sap_build.specs.Copies.{copy_wire, copy_net}
use Rattle.sap_build.proofs.Inserted.{GrowsIn, wires_grow}
use Rattle.sap_linked.specs.Prelude.{Part, NamedSystem, part_at, in_part, copies_of}
use Rattle.sap_linked.proofs.Families.{Suffix, later, this, map_both}

pub fresh_after : (ws : List Wire) (sc : Scope) (x : Name) → find sc x ≡ None → is_among x (names_of ws) ≡ false → find (readable_after sc ws) x ≡ None
fresh_after [] sc x h k = h
fresh_after (w ∷ ws) sc x h k =
    let other = bytes_eq_apart_back x w.name (neither_left (bytes_eq x w.name) (is_among x (names_of ws)) k) in
    fresh_after ws ((w.name, w.width) ∷ sc) x (rw other h) (neither_right (bytes_eq x w.name) (is_among x (names_of ws)) k)

pub apart_front : (xs ys : List Name) → AreDistinct (xs ++ ys) → (n : Name) → is_among n ys ≡ true → is_among n xs ≡ false
apart_front [] ys d n h = refl
apart_front (x ∷ xs) ys d n h =
    elim (cases_Bool (bytes_eq n x)) [
      | inl t ↦ absurd (let same = equal_of_bytes_eq n x t in let there : is_among x (xs ++ ys) ≡ true =
          subst (λ (m : Name). is_among m (xs ++ ys) ≡ true) same (among_behind n xs ys h) in let no = d.0 in cc)
      | inr q ↦ rw q (apart_front xs ys d.1 n h)
    ]

pub distinct_second : (xs ys : List Name) → AreDistinct (xs ++ ys) → AreDistinct ys
distinct_second [] ys d = d
distinct_second (x ∷ xs) ys d = distinct_second xs ys d.1

-- the wires of all parts, one part behind another
module _ (s : NamedSystem) (nets : ℕ → Net) (ns : Shapes) where
  abbrev copy_at : ℕ → Net
  copy_at i = copy_net top_name (in_part (part_at s i).name) (nets i)

  abbrev wires_from : ℕ → List Part → List Wire
  wires_from k ps = copies_of (λ i. (nets i).wires) copy_wire k ps

  pub parts_wires : (rules : (i : ℕ) → i < length s.parts → IsNetlist (copy_at i)) → ((i : ℕ) → i < length s.parts → GrowsIn (shapes (copy_at i)) ns)
      → (k : ℕ) (ps : List Part) → Suffix s k ps → (sd : Scope) → ((i : ℕ) → k ≤ i → i < length s.parts → Grows (first_readable (copy_at i)) sd)
      → ((x : Name) → is_among x (names_of (wires_from k ps)) ≡ true → (find sd x ≡ None) × (find ns x ≡ None))
      → AreDistinct (names_of (wires_from k ps)) → AreWires ns sd (wires_from k ps)
  parts_wires rules more k [] at sd grows fresh d = tt
  parts_wires rules more k (p ∷ ps) at sd grows fresh d =
      let low : k < length s.parts = (let e = at.1 in omega (arith, e)) in
      let block = map (copy_wire (in_part p.name)) (nets k).wires in
      let rest = wires_from (suc k) ps in
      let names = map_both (λ (w : Wire). w.name) block rest in
      let split : AreDistinct (names_of block ++ names_of rest) = subst (λ (zs : List Name). AreDistinct zs) names d in
      let own : AreWires (shapes (copy_at k)) (first_readable (copy_at k)) block =
      subst (λ (q : Part). AreWires (shapes (copy_at k)) (first_readable (copy_at k)) (map (copy_wire (in_part q.name)) (nets k).wires)) (this s k p ps at) (rules k low).assigns in
      let fresh_in = λ (x : Name) (h : is_among x (names_of block ++ names_of rest) ≡ true). fresh x (ap (is_among x) names ∙ h) in
      let first = wires_grow (shapes (copy_at k)) ns (more k low) block (first_readable (copy_at k)) sd (grows k (omega arith) low)
      (λ x h. fresh_in x (among_front x (names_of block) (names_of rest) h)) own in
      wires_both ns block rest sd first
      (parts_wires rules more (suc k) ps (later s k p ps at) (readable_after sd block)
      (λ i from less n u h. readable_kept ns block sd first n u (grows i (omega (arith, from)) less n u h))
      (λ x h. (
      let f = fresh_in x (among_behind x (names_of block) (names_of rest) h) in
      (fresh_after block sd x f.0 (apart_front (names_of block) (names_of rest) split x h), f.1)))
      (distinct_second (names_of block) (names_of rest) split))
