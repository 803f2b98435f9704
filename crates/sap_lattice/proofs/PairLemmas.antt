-- From the pairs to the order that they give.
use Rattle.std.proofs.Common.{◌≡◌, ℕ, ◌+◌, ◌<◌, true, ◌&&◌, ◌||◌, ◌==◌, ltb, Some, List, [], length, get_or, refl, sym, ap, ◌∙◌, subst, inl, inr, arith}
use Rattle.std.specs.Prelude.{slice_get, Contains}
use Rattle.std.proofs.lemmas.Bool.{cases_eq, and_parts, and_from, or_cases, or_left, or_right, lt-ltb, ltb-true, eq-eqb, eqb-true}
use Rattle.std.proofs.lemmas.List.{get_or_default}
use Rattle.std.proofs.lemmas.Option.{slice_get_within, slice_get-get_or}
use Rattle.sap_lattice.specs.declared.pair.Pair.{Pair}
use Rattle.sap_lattice.specs.Closure.{AtOrBelow, Below, IsLevel, name_at}
use Rattle.sap_lattice.specs.Closure.AtOrBelow.{itself, given, through}
use Rattle.sap_lattice.specs.Related.{ArePlaces, IsUnknown, Told, TellsPairs, TellsOrder}
use Rattle.sap_lattice.specs.Rows.{tells, Reaches}
use Rattle.sap_lattice.specs.Rows.Reaches.{step, along}
use Rattle.sap_lattice.specs.Rules.{BadPair, IsFirst, KeepsNames, KeepsPairs}
use Rattle.sap_lattice.specs.Rules.BadPair.{lower, upper}
use Rattle.sap_lattice.proofs.NameLemmas.{names_apart}

-- a name that no level has
pub unknown_from : (names : List (List ℕ)) (name : List ℕ) → ((k : ℕ) → k < length names → name_at names k ≡ name → ⊥) → ¬ Contains names name
unknown_from names name none = λ (k, low, e). none k low (get_or_default names k [] name low ∙ e)

-- a name that a level has
known_at : (names : List (List ℕ)) (name : List ℕ) (k : ℕ) → k < length names → name_at names k ≡ name → Contains names name
known_at names name k low e = (k, low, get_or_default names k name [] low ∙ e)

-- a pair at a place is one pair
same_pair : (pairs : List Pair) (k : ℕ) (p q : Pair) → slice_get pairs k ≡ Some p → slice_get pairs k ≡ Some q → p ≡ q
same_pair pairs k p q a b = cc

-- a pair that the rows tell is not bad
told_good : (names : List (List ℕ)) (pairs : List Pair) (rows : List ℕ) (k : ℕ) → Told names pairs rows k → ¬ BadPair names pairs k
told_good names pairs rows k told (lower p at none) =
    let e = same_pair pairs k told.pair p told.is_pair at in
    none (known_at names p.lower told.lower told.places.lower_level (told.places.lower_name ∙ ap (λ (q : Pair). q.lower) e))
told_good names pairs rows k told (upper p at none) =
    let e = same_pair pairs k told.pair p told.is_pair at in
    none (known_at names p.upper told.upper told.places.upper_level (told.places.upper_name ∙ ap (λ (q : Pair). q.upper) e))

pub bad_within : (names : List (List ℕ)) (pairs : List Pair) (k : ℕ) → BadPair names pairs k → k < length pairs
bad_within names pairs k (lower p at none) = slice_get_within pairs k p at
bad_within names pairs k (upper p at none) = slice_get_within pairs k p at

bad_from : (names : List (List ℕ)) (pairs : List Pair) (k : ℕ) (p : Pair) → slice_get pairs k ≡ Some p → IsUnknown names p → BadPair names pairs k
bad_from names pairs k p at (inl none) = lower p at none
bad_from names pairs k p at (inr none) = upper p at none

pub first_bad_pair : (names : List (List ℕ)) (pairs : List Pair) (rows : List ℕ) (k : ℕ) (p : Pair) → TellsPairs names pairs k rows
    → slice_get pairs k ≡ Some p → IsUnknown names p → IsFirst (BadPair names pairs) k
first_bad_pair names pairs rows k p tells_k at unknown =
    record { here = bad_from names pairs k p at unknown; none_before = λ j low. told_good names pairs rows j (tells_k.told j low) }

pub keeps_pairs : (names : List (List ℕ)) (pairs : List Pair) (rows : List ℕ) → KeepsNames names → TellsPairs names pairs (length pairs) rows → KeepsPairs names pairs
keeps_pairs names pairs rows kept tells_all =
    record { before = kept; known = λ k bad. told_good names pairs rows k (tells_all.told k (bad_within names pairs k bad)) bad }

-- the rows that tell that each level is below itself
pub tells_none : (names : List (List ℕ)) (pairs : List Pair) (rows : List ℕ) (n : ℕ) → n ≡ length names → length rows ≡ n
    → ((x y : ℕ) → tells rows x y ≡ (ltb x n && x == y)) → TellsPairs names pairs 0 rows
tells_none names pairs rows n n_is count equal =
    record {
      count = omega arith;
      itself = λ x low. equal x x ∙ and_from (ltb x n) (x == x) (lt-ltb x n (omega arith)) (eq-eqb x x refl);
      told = λ j low. absurd (omega arith);
      only = λ x y h.
          let parts = and_parts (ltb x n) (x == y) (sym (equal x y) ∙ h) in
          let low = ltb-true x n parts.0 in
          let same : x ≡ y = eqb-true x y parts.1 in
          (omega arith, omega arith, subst (λ z. Below names pairs x z) same itself);
    }

-- what a pair says of the names at its places
pair_below : (names : List (List ℕ)) (pairs : List Pair) (k : ℕ) (p : Pair) (x y : ℕ) → slice_get pairs k ≡ Some p → ArePlaces names p x y → Below names pairs x y
pair_below names pairs k p x y at places =
    let low = slice_get_within pairs k p at in
    let found : get_or pairs k p ≡ p = same_pair pairs k _ p (slice_get-get_or pairs k p low) at in
    let below : AtOrBelow pairs p.lower p.upper = given p (k, low, found) in
    let P : List ℕ → Type 0 = λ a. AtOrBelow pairs a (name_at names y) in
    let Q : List ℕ → Type 0 = λ b. AtOrBelow pairs p.lower b in
    subst P (sym places.lower_name) (subst Q (sym places.upper_name) below)

-- one more pair
pub tells_more : (names : List (List ℕ)) (pairs : List Pair) (old new : List ℕ) (k : ℕ) (p : Pair) (x y : ℕ) → TellsPairs names pairs k old
    → slice_get pairs k ≡ Some p → ArePlaces names p x y → length new ≡ length old
    → ((u v : ℕ) → tells new u v ≡ (tells old u v || (u == x && v == y))) → TellsPairs names pairs (k + 1) new
tells_more names pairs old new k p x y before at places count both =
    let kept = λ (u v : ℕ) (h : tells old u v ≡ true). both u v ∙ or_left (tells old u v) (u == x && v == y) h in
    record {
      count = count ∙ before.count;
      itself = λ u low. kept u u (before.itself u low);
      told = λ j low.
          elim (cases_eq j k) [
            | inl e ↦
                record {
                  pair = p;
                  is_pair = subst (λ i. slice_get pairs i ≡ Some p) (sym e) at;
                  lower = x;
                  upper = y;
                  places = places;
                  told = both x y ∙ or_right (tells old x y) (x == x && y == y) (and_from (x == x) (y == y) (eq-eqb x x refl) (eq-eqb y y refl));
                }
            | inr ne ↦
                let t = before.told j (omega arith) in
                record { pair = t.pair; is_pair = t.is_pair; lower = t.lower; upper = t.upper; places = t.places; told = kept t.lower t.upper t.told }
          ];
      only = λ u v h.
          elim (or_cases (tells old u v) (u == x && v == y) (sym (both u v) ∙ h)) [
            | inl e ↦ before.only u v e
            | inr e ↦
                let parts = and_parts (u == x) (v == y) e in
                let u_is : u ≡ x = eqb-true u x parts.0 in
                let v_is : v ≡ y = eqb-true v y parts.1 in
                let low = places.lower_level in
                let high = places.upper_level in
                let R : ℕ → Type 0 = λ w. Below names pairs w v in
                let S : ℕ → Type 0 = λ w. Below names pairs x w in
                (omega arith, omega arith, subst R (sym u_is) (subst S (sym v_is) (pair_below names pairs k p x y at places)))
          ];
    }

-- the rows, closed, tell the order
module _ (names : List (List ℕ)) (pairs : List Pair) (kept : KeepsNames names) (old new : List ℕ)
    (all : TellsPairs names pairs (length pairs) old) (kept_told : (x y : ℕ) → tells old x y ≡ true
    → tells new x y ≡ true) (only_reached : (x y : ℕ) → tells new x y ≡ true → Reaches old x y) (transitive : (x y z : ℕ)
    → tells new x y ≡ true → tells new y z ≡ true → tells new x z ≡ true) where
  reached_below : (x y : ℕ) → Reaches old x y → Below names pairs x y
  reached_below x y (step h) = (all.only x y h).2
  reached_below x y (along {y = m} a b) = through (reached_below x m a) (reached_below m y b)

  -- what is above a level's name is a level's name, and the rows tell so
  below_told : (a b : List ℕ) → AtOrBelow pairs a b → (x : ℕ) → IsLevel names x → name_at names x ≡ a → (y : ℕ) × IsLevel names y × (name_at names y ≡ b) × (tells new x y ≡ true)
  below_told a b itself x low e = (x, low, e, kept_told x x (all.itself x low))
  below_told a b (given p (k, within, at)) x low e =
      let t = all.told k within in
      let same : t.pair ≡ p = same_pair pairs k t.pair p t.is_pair (slice_get-get_or pairs k p within ∙ ap Some at) in
      let lower_is : name_at names t.lower ≡ name_at names x = t.places.lower_name ∙ ap (λ (q : Pair). q.lower) same ∙ sym e in
      let x_is = names_apart names kept t.lower x t.places.lower_level low lower_is in (
        t.upper,
        t.places.upper_level,
        t.places.upper_name ∙ ap (λ (q : Pair). q.upper) same,
        subst (λ w. tells new w t.upper ≡ true) x_is (kept_told t.lower t.upper t.told),
      )
  below_told a b (through {b = m} first second) x low e =
      let (y, y_low, y_name, y_told) = below_told a m first x low e in
      let (z, z_low, z_name, z_told) = below_told m b second y y_low y_name in
      (z, z_low, z_name, transitive x y z y_told z_told)

  pub tells_order : length new ≡ length old → TellsOrder names pairs new
  tells_order count =
      record {
        count = count ∙ all.count;
        order = λ x y low high. (
          λ h. reached_below x y (only_reached x y h),
          λ below.
              let (z, z_low, z_name, told) = below_told (name_at names x) (name_at names y) below x low refl in
              subst (λ w. tells new x w ≡ true) (names_apart names kept z y z_low high z_name) told,
        );
      }
