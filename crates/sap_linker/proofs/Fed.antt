-- A system has at most two wires behind its ports for each wire between its parts: no input is fed twice.
use Rattle.sap_lemmas.proofs.Common.{◌≡◌, ℕ, suc, ◌+◌, ◌*◌, ◌<◌, ◌≤◌, Bool, true, false, List, [], ◌∷◌, ◌++◌, length, nat_eq, refl, ap, ◌∙◌, inl, inr, arith, and_parts, cases_Bool, eqb-true, length_map}
use Rattle.sap_meaning.specs.Program.{Entity, is_input}
use Rattle.sap_net.specs.declared.parts.PortKind.TheVariants as kind
use Rattle.sap_interface.specs.Prelude.{Named, world, Shown, pairs_of}
use Rattle.sap_link.specs.Systems.{Endpoint, Wire, endpoint, is_fed, same_endpoint}
use Rattle.sap_linked.specs.Prelude.{Part, in_part, fed_inputs, is_fed_input, ports_in}
use Rattle.sap_linker.proofs.Counting.{both_lengths}

-- the ports of the entity to which a wire leads, in part i and in parts from k on
abbrev at_end : Endpoint → (i : ℕ) → ℕ → Bool
at_end e i x = same_endpoint e (endpoint i x)

abbrev ends : Endpoint → (k : ℕ) → List Part → ℕ
ends e k [] = 0
ends e k (p ∷ ps) = length (pairs_of (at_end e k) kind.Wire p.design 0 (world p.design).entities) + ends e (suc k) ps

same_number : (m n : ℕ) → nat_eq m n ≡ true → m ≡ n
same_number m n h = eqb-true m n h

module _ (e : Endpoint) (i : ℕ) (d : Named) where
  -- an entity before the first is none of them
  none_before : (x : ℕ) (es : List Entity) → e.entity < x → length (pairs_of (at_end e i) kind.Wire d x es) ≡ 0
  none_before x [] low = refl
  none_before x (g ∷ es) low =
      elim (cases_Bool (at_end e i x)) [
        | inl t ↦ (let same = same_number e.entity x (and_parts (nat_eq e.part i) (nat_eq e.entity x) t).1 in absurd (omega (arith, same, low)))
        | inr f ↦ rw f (none_before (x + 1) es (omega (arith, low)))
      ]

  one_entity : (x : ℕ) (es : List Entity) → length (pairs_of (at_end e i) kind.Wire d x es) ≤ 2
  one_entity x [] = omega arith
  one_entity x (g ∷ es) =
      elim (cases_Bool (at_end e i x)) [
        | inl t ↦
            (let same = same_number e.entity x (and_parts (nat_eq e.part i) (nat_eq e.entity x) t).1 in
            let rest = none_before (x + 1) es (omega (arith, same)) in
            rw t (omega (arith, rest)))
        | inr f ↦ rw f (one_entity (x + 1) es)
      ]

  other_part : nat_eq e.part i ≡ false → (x : ℕ) (es : List Entity) → length (pairs_of (at_end e i) kind.Wire d x es) ≡ 0
  other_part apart x [] = refl
  other_part apart x (g ∷ es) = rw apart (other_part apart (x + 1) es)

part_before : (e : Endpoint) (k : ℕ) (ps : List Part) → e.part < k → ends e k ps ≡ 0
part_before e k [] low = refl
part_before e k (p ∷ ps) low =
    elim (cases_Bool (nat_eq e.part k)) [
      | inl t ↦ (let same = same_number e.part k t in absurd (omega (arith, same, low)))
      | inr f ↦
          (let here = other_part e k p.design f 0 (world p.design).entities in
          let rest = part_before e (suc k) ps (omega (arith, low)) in
          omega (arith, here, rest))
    ]

one_end : (e : Endpoint) (k : ℕ) (ps : List Part) → ends e k ps ≤ 2
one_end e k [] = omega arith
one_end e k (p ∷ ps) =
    elim (cases_Bool (nat_eq e.part k)) [
      | inl t ↦
          (let same = same_number e.part k t in
          let here = one_entity e k p.design 0 (world p.design).entities in
          let rest = part_before e (suc k) ps (omega (arith, same)) in
          omega (arith, here, rest))
      | inr f ↦
          (let here = other_part e k p.design f 0 (world p.design).entities in
          let rest = one_end e (suc k) ps in
          omega (arith, here, rest))
    ]

-- one wire more
module _ (w : Wire) (ws : List Wire) (p : Part) (i : ℕ) where
  more_pairs : (x : ℕ) (es : List Entity)
      → length (pairs_of (is_fed_input (w ∷ ws) p i) kind.Wire p.design x es)
      ≤ length (pairs_of (at_end w.to i) kind.Wire p.design x es) + length (pairs_of (is_fed_input ws p i) kind.Wire p.design x es)
  more_pairs x [] = omega arith
  more_pairs x (g ∷ es) =
      let rest = more_pairs (x + 1) es in
      elim (cases_Bool (at_end w.to i x)) [
        | inl t ↦
            elim (cases_Bool (is_input (world p.design) x)) [
              | inl u ↦ elim (cases_Bool (is_fed ws (endpoint i x))) [ inl v ↦ rw (t, u, v) (omega (arith, rest)) | inr v ↦ rw (t, u, v) (omega (arith, rest)) ]
              | inr u ↦ rw (t, u) (omega (arith, rest))
            ]
        | inr f ↦
            elim (cases_Bool (is_input (world p.design) x)) [
              | inl u ↦ elim (cases_Bool (is_fed ws (endpoint i x))) [ inl v ↦ rw (f, u, v) (omega (arith, rest)) | inr v ↦ rw (f, u, v) (omega (arith, rest)) ]
              | inr u ↦ rw (f, u) (omega (arith, rest))
            ]
      ]

shown_in : (p : Part) (shown : List Shown) (more : List Shown) → length (ports_in p shown ++ more) ≡ length shown + length more
shown_in p shown more = both_lengths (ports_in p shown) more ∙ ap (λ n. n + length more) (length_map (λ (port : Shown). (in_part p.name port.0, port.1)) shown)

more_fed : (w : Wire) (ws : List Wire) (k : ℕ) (ps : List Part) → length (fed_inputs (w ∷ ws) k ps) ≤ ends w.to k ps + length (fed_inputs ws k ps)
more_fed w ws k [] = omega arith
more_fed w ws k (p ∷ ps) =
    let es = (world p.design).entities in
    let here = more_pairs w ws p k 0 es in
    let rest = more_fed w ws (suc k) ps in
    let one = shown_in p (pairs_of (is_fed_input (w ∷ ws) p k) kind.Wire p.design 0 es) (fed_inputs (w ∷ ws) (suc k) ps) in
    let other = shown_in p (pairs_of (is_fed_input ws p k) kind.Wire p.design 0 es) (fed_inputs ws (suc k) ps) in
    omega (arith, here, rest, one, other)

none_fed_pairs : (p : Part) (i x : ℕ) (es : List Entity) → length (pairs_of (is_fed_input [] p i) kind.Wire p.design x es) ≡ 0
none_fed_pairs p i x [] = refl
none_fed_pairs p i x (g ∷ es) =
    elim (cases_Bool (is_input (world p.design) x)) [
      | inl u ↦ rw u (none_fed_pairs p i (x + 1) es)
      | inr u ↦ rw u (none_fed_pairs p i (x + 1) es)
    ]

none_fed : (k : ℕ) (ps : List Part) → length (fed_inputs [] k ps) ≡ 0
none_fed k [] = refl
none_fed k (p ∷ ps) =
    let es = (world p.design).entities in
    let here = none_fed_pairs p k 0 es in
    let rest = none_fed (suc k) ps in
    let whole = shown_in p (pairs_of (is_fed_input [] p k) kind.Wire p.design 0 es) (fed_inputs [] (suc k) ps) in
    omega (arith, here, rest, whole)

pub fed_few : (ws : List Wire) (k : ℕ) (ps : List Part) → length (fed_inputs ws k ps) ≤ 2 * length ws
fed_few [] k ps = let none = none_fed k ps in omega (arith, none)
fed_few (w ∷ ws) k ps =
    let more = more_fed w ws k ps in
    let one = one_end w.to k ps in
    let rest = fed_few ws k ps in
    omega (arith, more, one, rest)
