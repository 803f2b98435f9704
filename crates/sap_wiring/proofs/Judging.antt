-- The rules on one wire, from what its texts name.
use Rattle.sap_lemmas.proofs.Common.{◌≡◌, ◌≢◌, ℕ, suc, zero, ◌<◌, true, false, List, [], ◌∷◌, ◌++◌, codes, length, get_or, take, Option, Some, None, bytes_eq, slice_get, slice_get_read, refl, sym, ap, ◌∙◌, subst, inl, inr, arith, list_any, both_ways, or_cases, or_left, or_right, same_Some, none-some, slice_get-get_or, bytes_eq-Decides}
use Rattle.sap_lattice.specs.Levels.{level_named}
use Rattle.sap_lattice.proofs.NameLemmas.{place_cases}
use Rattle.sap_names.specs.declared.kind.Declared.TheVariants as what
use Rattle.sap_names.specs.Entities.{declared_width}
use Rattle.sap_system.specs.declared.file.WireText.{WireText}
use Rattle.sap_system.specs.declared.link_fault.LinkCode.{LinkCode}
use Rattle.sap_system.specs.declared.link_fault.LinkCode.TheVariants.{K5, K6, K7, K8, K9}
use Rattle.sap_system.specs.Wires.{NamedPart, Surroundings, Names, FedBefore, OtherWidth, NoLevel, Breaks, Stands, number_of_code}
use Rattle.sap_link.specs.Systems.{Endpoint, Wire}
use Rattle.sap_wiring.specs.Wiring.{IsEndpoint, IsLevelOf, IsWireOf, PartsNamed}
use Rattle.sap_wiring.proofs.Naming.{names_same}

any_default : (names : List (List ℕ)) (k : ℕ) (d e : List ℕ) → k < length names → get_or names k d ≡ get_or names k e
any_default names k d e low = same_Some (get_or names k d) (get_or names k e) (sym (slice_get-get_or names k d low) ∙ slice_get-get_or names k e low)

-- a name that no search finds is no level's
pub unknown_level : (u : Surroundings) (w : WireText) (name : List ℕ) → w.level ≡ Some name → None ≡ level_named u.levels name → NoLevel u w
unknown_level u w name third none = record {
  level = name;
  third = third;
  unknown = λ known. place_cases u.levels name None none known.0 known.1 (any_default u.levels known.0 [] name known.1 ∙ known.2);
}

-- one that it finds is
known_level : (u : Surroundings) (w : WireText) (o : Option (List ℕ)) (l : Option ℕ) → w.level ≡ o → IsLevelOf u o l → ¬ NoLevel u w
known_level u w None l is at other = none-some other.level (sym is ∙ other.third)
known_level u w (Some name) l is at other =
    let same : name ≡ other.level = same_Some name other.level (sym is ∙ other.third) in
    let found = place_cases u.levels name (Some at.0) (sym at.1) in
    other.unknown (at.0, found.0, any_default u.levels at.0 other.level [] found.0 ∙ found.1 ∙ same)

-- an earlier text among some has the same input
earlier_feeds : (texts : List WireText) (k : ℕ) (to : List ℕ) → list_any (λ (w : WireText). bytes_eq w.to to) (take k texts) ≡ true
    → (j : ℕ) × (j < k) × ((w : WireText) × (slice_get texts j ≡ Some w) × (w.to ≡ to))
earlier_feeds [] zero to h = absurd (both_ways false refl h)
earlier_feeds [] (suc k) to h = absurd (both_ways false refl h)
earlier_feeds (w ∷ ws) zero to h = absurd (both_ways false refl h)
earlier_feeds (w ∷ ws) (suc k) to h =
    elim (or_cases (bytes_eq w.to to) (list_any (λ (v : WireText). bytes_eq v.to to) (take k ws)) h) [
      | inl e ↦ (zero, omega arith, (w, refl, (bytes_eq-Decides w.to to).0 e))
      | inr e ↦ let (j, low, at) = earlier_feeds ws k to e in (suc j, omega (arith, low), at)
    ]

feeds_earlier : (texts : List WireText) (k : ℕ) (to : List ℕ) (j : ℕ) (w : WireText) → j < k → slice_get texts j ≡ Some w → w.to ≡ to
    → list_any (λ (v : WireText). bytes_eq v.to to) (take k texts) ≡ true
feeds_earlier [] k to j w low at same = absurd (none-some w at)
feeds_earlier (v ∷ vs) zero to j w low at same = absurd (omega (arith, low))
feeds_earlier (v ∷ vs) (suc k) to zero w low at same = or_left _ _ ((bytes_eq-Decides v.to to).1 (ap (λ (x : WireText). x.to) (same_Some v w at) ∙ same))
feeds_earlier (v ∷ vs) (suc k) to (suc j) w low at same = or_right _ _ (feeds_earlier vs k to j w (omega (arith, low)) at same)

pub record Given (u : Surroundings) (texts : List WireText) (k : ℕ) (t : WireText) : Type 0 where
  pub named : PartsNamed u
  pub here : slice_get texts k ≡ Some t

pub given : (u : Surroundings) (texts : List WireText) (k : ℕ) {t : WireText} → PartsNamed u → k < length texts → t ≡ get_or texts k t → Given u texts k t
given u texts k {t = t} named within is = record { named = named; here = slice_get_read texts (length texts) k t refl within is }

module _ (u : Surroundings) (texts : List WireText) (k : ℕ) (t : WireText) (g : Given u texts k t) where
  broken : (code : LinkCode) → Stands u texts code k → Breaks u texts code k t
  broken code s = subst (λ (v : WireText). Breaks u texts code k v) (same_Some s.wire t (sym s.is_wire ∙ g.here)) s.breaks

  pub stands : (code : LinkCode) → Breaks u texts code k t → Stands u texts code k
  stands code b = record { wire = t; is_wire = g.here; breaks = b }

  pub no_k5 : (x : Endpoint) (n : ℕ) → IsEndpoint u t.from (what.Register n) x → ¬ Stands u texts K5 k
  no_k5 x n from s = broken K5 s x.part from.entity n from.names

  pub no_k6 : (y : Endpoint) (n : ℕ) → IsEndpoint u t.to (what.Input n) y → ¬ Stands u texts K6 k
  no_k6 y n to s = broken K6 s y.part to.entity n to.names

  pub is_k7 : (y : Endpoint) (n : ℕ) → IsEndpoint u t.to (what.Input n) y → list_any (λ (w : WireText). bytes_eq w.to t.to) (take k texts) ≡ true → Stands u texts K7 k
  is_k7 y n to fed =
      let (j, low, (w, at, same)) = earlier_feeds texts k t.to fed in
      stands K7 (record {
        earlier = j;
        before = low;
        other = w;
        is_other = at;
        part = y.part;
        entity = to.entity;
        width = n;
        there = subst (λ (l : List ℕ). Names u l y.part to.entity (what.Input n)) (sym same) to.names;
        here = to.names;
      })

  pub no_k7 : list_any (λ (w : WireText). bytes_eq w.to t.to) (take k texts) ≡ false → ¬ Stands u texts K7 k
  no_k7 unfed s =
      let b : FedBefore u texts k t = broken K7 s in
      let part = same_Some b.there.part b.here.part (sym b.there.is_part ∙ b.here.is_part) in
      let same : b.other.to ≡ t.to = b.there.spelled ∙ ap (λ (p : NamedPart). p.name ++ codes "." ++ b.entity) part ∙ sym b.here.spelled in
      both_ways _ unfed (feeds_earlier texts k t.to b.earlier b.other b.before b.is_other same)

  pub is_k8 : (x y : Endpoint) (n m : ℕ) → IsEndpoint u t.from (what.Register n) x → IsEndpoint u t.to (what.Input m) y → n ≢ m → Stands u texts K8 k
  is_k8 x y n m from to differ = stands K8 (record {
    from_part = x.part;
    register = from.entity;
    from_width = n;
    from = from.names;
    to_part = y.part;
    input = to.entity;
    to_width = m;
    to = to.names;
    differ = differ;
  })

  pub no_k8 : (x y : Endpoint) (n m : ℕ) → IsEndpoint u t.from (what.Register n) x → IsEndpoint u t.to (what.Input m) y → n ≡ m → ¬ Stands u texts K8 k
  no_k8 x y n m from to same s =
      let b : OtherWidth u t = broken K8 s in
      let first = (names_same u g.named t.from x.part b.from_part from.entity b.register _ _ from.names b.from).declared in
      let second = (names_same u g.named t.to y.part b.to_part to.entity b.input _ _ to.names b.to).declared in
      b.differ (sym (ap declared_width first) ∙ same ∙ ap declared_width second)

  pub is_k9 : NoLevel u t → Stands u texts K9 k
  is_k9 unknown = stands K9 unknown

  pub no_k9 : (l : Option ℕ) → IsLevelOf u t.level l → ¬ Stands u texts K9 k
  no_k9 l at s = known_level u t t.level l refl at (broken K9 s)

  pub below_k6 : ¬ Stands u texts K5 k → (other : LinkCode) → number_of_code other < 6 → ¬ Stands u texts other k
  below_k6 a K5 low = a
  below_k6 a K6 low = absurd (omega (arith, low))
  below_k6 a K7 low = absurd (omega (arith, low))
  below_k6 a K8 low = absurd (omega (arith, low))
  below_k6 a K9 low = absurd (omega (arith, low))

  pub below_k7 : ¬ Stands u texts K5 k → ¬ Stands u texts K6 k → (other : LinkCode) → number_of_code other < 7 → ¬ Stands u texts other k
  below_k7 a b K6 low = b
  below_k7 a b K5 low = a
  below_k7 a b K7 low = absurd (omega (arith, low))
  below_k7 a b K8 low = absurd (omega (arith, low))
  below_k7 a b K9 low = absurd (omega (arith, low))

  pub below_k8 : ¬ Stands u texts K5 k → ¬ Stands u texts K6 k → ¬ Stands u texts K7 k → (other : LinkCode) → number_of_code other < 8 → ¬ Stands u texts other k
  below_k8 a b c K5 low = a
  below_k8 a b c K6 low = b
  below_k8 a b c K7 low = c
  below_k8 a b c K8 low = absurd (omega (arith, low))
  below_k8 a b c K9 low = absurd (omega (arith, low))

  pub below_k9 : ¬ Stands u texts K5 k → ¬ Stands u texts K6 k → ¬ Stands u texts K7 k → ¬ Stands u texts K8 k → (other : LinkCode)
      → number_of_code other < 9 → ¬ Stands u texts other k
  below_k9 a b c d K5 low = a
  below_k9 a b c d K6 low = b
  below_k9 a b c d K7 low = c
  below_k9 a b c d K8 low = d
  below_k9 a b c d K9 low = absurd (omega (arith, low))

  pub none_stands : ¬ Stands u texts K5 k → ¬ Stands u texts K6 k → ¬ Stands u texts K7 k → ¬ Stands u texts K8 k → ¬ Stands u texts K9 k
      → (code : LinkCode) → ¬ Stands u texts code k
  none_stands a b c d e K5 = a
  none_stands a b c d e K6 = b
  none_stands a b c d e K7 = c
  none_stands a b c d e K8 = d
  none_stands a b c d e K9 = e

  pub wire_is : (w : Wire) (x y : Endpoint) (l : Option ℕ) (n m : ℕ) → IsEndpoint u t.from (what.Register n) x → IsEndpoint u t.to (what.Input m) y → n ≡ m → IsLevelOf u t.level l
      → w.from ≡ x → w.to ≡ y → w.level ≡ l → (text : WireText) → slice_get texts k ≡ Some text → IsWireOf u text w
  wire_is w x y l n m from to same level is_from is_to is_level text at = subst (λ (v : WireText). IsWireOf u v w) (same_Some t text (sym g.here ∙ at)) (record {
    width = n;
    from = subst (IsEndpoint u t.from (what.Register n)) (sym is_from) from;
    to = subst (λ e. IsEndpoint u t.to (what.Input n) e) (sym is_to) (subst (λ i. IsEndpoint u t.to (what.Input i) y) (sym same) to);
    level = subst (IsLevelOf u t.level) (sym is_level) level;
  })
