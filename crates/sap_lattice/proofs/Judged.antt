-- What the tests on rows say of names and pairs.
use Rattle.std.proofs.Common.{◌≡◌, ℕ, ◌<◌, Bool, true, Some, None, List, length, sym, ap, ◌∙◌, subst, inl, inr, arith}
use Rattle.std.specs.Prelude.{find, unwrap_or}
use Rattle.std.specs.List.{list_any}
use Rattle.std.proofs.lemmas.Bool.{cases_Bool, cases_order, and_parts, and_from, both_ways, not-true, not_from_false}
use Rattle.sap_lattice.specs.declared.order.PairRule.TheVariants.{Apart, Joined}
use Rattle.sap_lattice.specs.declared.pair.Pair.{Pair}
use Rattle.sap_lattice.specs.Built.{IsLatticeOf}
use Rattle.sap_lattice.specs.Closure.{Below, IsLevel, IsJoin, IsLeast, IsGreatest}
use Rattle.sap_lattice.specs.Closure.AtOrBelow.{itself, through}
use Rattle.sap_lattice.specs.Finite.{IsOrder, HasJoins}
use Rattle.sap_lattice.specs.Levels.{Levels, numbers, first, order_by, order_of, is_join, is_least}
use Rattle.sap_lattice.specs.Order.{Order, Laws}
use Rattle.sap_lattice.specs.Pairs.{IsBroken}
use Rattle.sap_lattice.specs.Related.{TellsOrder}
use Rattle.sap_lattice.specs.Rows.{le_in, order_in}
use Rattle.sap_lattice.specs.Rules.{IsFirstPair, IsCycle, HasNoJoin, HasNoLeast, KeepsPairs, KeepsApart, KeepsJoins, KeepsAll}
use Rattle.sap_lattice.proofs.Numbers.{any_from, any_at, none_from, every_at, every_from, find_cases}
use Rattle.sap_lattice.proofs.Orders.{lawful, joins_at, joins_from}
use Rattle.sap_lattice.proofs.RowLemmas.{order_in-le, order_in-count, order_in-clamped}

-- the first two of which something is true, where something else is true of the same
pub same_first : (P Q : ℕ → ℕ → Type 0) (x y : ℕ) → ((u v : ℕ) → P u v → Q u v) → ((u v : ℕ) → Q u v → P u v) → IsFirstPair P x y → IsFirstPair Q x y
same_first P Q x y there back first = record { here = there x y first.here; none_before = λ u v low q. first.none_before u v low (back u v q) }

module _ (names : List (List ℕ)) (pairs : List Pair) (rows : List ℕ) (told : TellsOrder names pairs rows) where
  within : (x : ℕ) → x < length rows → IsLevel names x
  within x low = let count = told.count in omega arith

  row : (x : ℕ) → IsLevel names x → x < length rows
  row x low = let count = told.count in omega arith

  pub below_at : (x y : ℕ) → x < length rows → y < length rows → (order_in rows).le x y ≡ true → Below names pairs x y
  below_at x y a b h = (told.order x y (within x a) (within y b)).0 (sym (order_in-le rows x y a b) ∙ h)

  pub below_from : (x y : ℕ) → x < length rows → y < length rows → Below names pairs x y → (order_in rows).le x y ≡ true
  below_from x y a b h = order_in-le rows x y a b ∙ (told.order x y (within x a) (within y b)).1 h

  join_at : (x y j : ℕ) → x < length rows → y < length rows → j < length rows → is_join (length rows) (order_in rows).le x y j ≡ true → IsJoin names pairs x y j
  join_at x y j a b l h =
      let joins = joins_at (length rows) (order_in rows).le x y j h in
      record {
        upper = record { level = within j l; left = below_at x j a l joins.left; right = below_at y j b l joins.right };
        least = λ u upper.
            let low = row u upper.level in
            below_at j u l low (joins.least u low (below_from x u a low upper.left) (below_from y u b low upper.right));
      }

  join_from : (x y j : ℕ) → x < length rows → y < length rows → IsJoin names pairs x y j → is_join (length rows) (order_in rows).le x y j ≡ true
  join_from x y j a b h =
      let l = row j h.upper.level in
      joins_from (length rows) (order_in rows).le x y j (record {
        left = below_from x j a l h.upper.left;
        right = below_from y j b l h.upper.right;
        least = λ u low left right.
            below_from j u l low (h.least u (record { level = within u low; left = below_at x u a low left; right = below_at y u b low right }));
      })

  -- the rule on cycles
  pub cycle_at : (x y : ℕ) → IsBroken (length rows) (order_in rows).le Apart x y → IsCycle names pairs x y
  cycle_at x y broken =
      let a : x < length rows = let low = broken.apart in let high = broken.level in omega arith in
      let parts = and_parts ((order_in rows).le x y) ((order_in rows).le y x) broken.breaks_rule in
      record {
        apart = broken.apart;
        level = within y broken.level;
        there = below_at x y a broken.level parts.0;
        back = below_at y x broken.level a parts.1;
      }

  pub cycle_from : (x y : ℕ) → IsCycle names pairs x y → IsBroken (length rows) (order_in rows).le Apart x y
  cycle_from x y cycle =
      let b = row y cycle.level in
      let a : x < length rows = let low = cycle.apart in omega arith in
      record {
        apart = cycle.apart;
        level = b;
        breaks_rule = and_from ((order_in rows).le x y) ((order_in rows).le y x) (below_from x y a b cycle.there) (below_from y x b a cycle.back);
      }

  -- the rule on joins
  pub no_join_at : (x y : ℕ) → IsBroken (length rows) (order_in rows).le Joined x y → HasNoJoin names pairs x y
  no_join_at x y broken =
      let a : x < length rows = let low = broken.apart in let high = broken.level in omega arith in
      let test : ℕ → Bool = is_join (length rows) (order_in rows).le x y in
      record {
        apart = broken.apart;
        level = within y broken.level;
        none = λ j join.
            both_ways (list_any test (numbers (length rows))) (not-true _ broken.breaks_rule)
            (any_from test (length rows) j (row j join.upper.level) (join_from x y j a broken.level join));
      }

  pub no_join_from : (x y : ℕ) → HasNoJoin names pairs x y → IsBroken (length rows) (order_in rows).le Joined x y
  no_join_from x y none =
      let b = row y none.level in
      let a : x < length rows = let low = none.apart in omega arith in
      let test : ℕ → Bool = is_join (length rows) (order_in rows).le x y in
      record {
        apart = none.apart;
        level = b;
        breaks_rule = not_from_false _ (none_from test (length rows) (λ j low h. none.none j (join_at x y j a b low h)));
      }

  -- the rule on the least level
  least_at : (b : ℕ) → b < length rows → is_least (length rows) (order_in rows).le b ≡ true → IsLeast names pairs b
  least_at b low h = record {
    level = within b low;
    below = λ x level. below_at b x low (row x level) (every_at ((order_in rows).le b) (length rows) h x (row x level));
  }

  least_from : (b : ℕ) → IsLeast names pairs b → is_least (length rows) (order_in rows).le b ≡ true
  least_from b least =
      let low = row b least.level in
      every_from ((order_in rows).le b) (length rows) (λ x high. below_from b x low high (least.below x (within x high)))

  pub no_least : find (is_least (length rows) (order_in rows).le) (numbers (length rows)) ≡ None → HasNoLeast names pairs
  no_least h = λ b least.
      let test : ℕ → Bool = is_least (length rows) (order_in rows).le in
      both_ways (test b) (find_cases test (length rows) None (sym h) b (row b least.level)) (least_from b least)

  -- what a lattice keeps where a test finds nothing
  pub keeps_apart : KeepsPairs names pairs → ((x y : ℕ) → ¬ IsBroken (length rows) (order_in rows).le Apart x y) → KeepsApart names pairs
  keeps_apart kept no_cycle = record { before = kept; no_cycle = λ x y cycle. no_cycle x y (cycle_from x y cycle) }

  pub keeps_joins : KeepsApart names pairs → ((x y : ℕ) → ¬ IsBroken (length rows) (order_in rows).le Joined x y) → KeepsJoins names pairs
  keeps_joins kept all_joined = record { before = kept; joined = λ x y none. all_joined x y (no_join_from x y none) }

  -- where the rules are kept the order has joins
  module _ (no_cycle : (x y : ℕ) → ¬ IsBroken (length rows) (order_in rows).le Apart x y) (all_joined : (x y : ℕ)
      → ¬ IsBroken (length rows) (order_in rows).le Joined x y) (b : ℕ) (found : Some b ≡ find (is_least (length rows) (order_in rows).le) (numbers (length rows))) where
    least_found : (b < length rows) × (is_least (length rows) (order_in rows).le b ≡ true)
    least_found = find_cases (is_least (length rows) (order_in rows).le) (length rows) (Some b) found

    -- and keeps the rule on the least level
    pub keeps_all : KeepsPairs names pairs → KeepsAll names pairs
    keeps_all kept = record {
      before = keeps_joins (keeps_apart kept no_cycle) all_joined;
      least = λ none. none b (least_at b least_found.0 least_found.1);
    }

    is_order : IsOrder (length rows) (order_in rows).le
    is_order = record {
      some = let low = least_found.0 in omega arith;
      clamped = order_in-clamped rows (let low = least_found.0 in omega arith);
      self = λ x low. below_from x x low low itself;
      trans = λ x y z a c d h k. below_from x z a d (through (below_at x y a c h) (below_at y z c d k));
      apart = λ x y a c h k.
          elim (cases_order x y) [
            | inl e ↦ e
            | inr apart ↦
                elim apart [
                  | inl less ↦ absurd (no_cycle x y (record { apart = less; level = c; breaks_rule = and_from _ _ h k }))
                  | inr more ↦ absurd (no_cycle y x (record { apart = more; level = a; breaks_rule = and_from _ _ k h }))
                ]
          ];
    }

    found_join : (x y : ℕ) → x < y → y < length rows → (j : ℕ) × (j < length rows) × (is_join (length rows) (order_in rows).le x y j ≡ true)
    found_join x y less c =
        let test : ℕ → Bool = is_join (length rows) (order_in rows).le x y in
        elim (cases_Bool (list_any test (numbers (length rows)))) [
          | inl e ↦ any_at test (length rows) e
          | inr e ↦ absurd (all_joined x y (record { apart = less; level = c; breaks_rule = not_from_false _ e }))
        ]

    join_flipped : (x y j : ℕ) → is_join (length rows) (order_in rows).le y x j ≡ true → is_join (length rows) (order_in rows).le x y j ≡ true
    join_flipped x y j h =
        let joins = joins_at (length rows) (order_in rows).le y x j h in
        joins_from (length rows) (order_in rows).le x y j (record { left = joins.right; right = joins.left; least = λ u low a c. joins.least u low c a })

    any_join : (x y : ℕ) → x < length rows → y < length rows → (j : ℕ) × (j < length rows) × (is_join (length rows) (order_in rows).le x y j ≡ true)
    any_join x y a c =
        elim (cases_order x y) [
          | inl e ↦
              let self : (order_in rows).le x x ≡ true = is_order.self x a in
              let back : (order_in rows).le y x ≡ true = subst (λ v. (order_in rows).le v x ≡ true) e self in
              (x, a, joins_from (length rows) (order_in rows).le x y x (record { left = self; right = back; least = λ u low h k. h }))
          | inr apart ↦
              elim apart [
                | inl less ↦ found_join x y less c
                | inr more ↦ let r = found_join y x more a in (r.0, r.1, join_flipped x y r.0 r.2)
              ]
        ]

    has_joins_in : HasJoins (length rows) (order_in rows).le
    has_joins_in = record { order = is_order; join = any_join; least = (b, least_found.0, least_found.1) }

    pub has_joins : HasJoins (length rows) (le_in rows)
    unfolding order_in order_by
    has_joins = has_joins_in

    pub bottom_found : b ≡ (order_in rows).bottom
    unfolding order_in order_by
    bottom_found = ap (λ o. unwrap_or o 0) found

    laws : Laws (order_in rows)
    unfolding order_in
    laws = lawful (length rows) (le_in rows) has_joins

    -- a lattice with these names and this order is that of the names and the pairs
    pub is_lattice_of : (l : Levels) → KeepsAll names pairs → l.names ≡ names → order_of l ≡ order_in rows → IsLatticeOf names pairs l
    is_lattice_of l kept same_names same =
        let o : Order = order_in rows in
        let count = order_in-count rows in
        let bottom_low : o.bottom < length rows = let low = laws.bottom_is_level in omega arith in
        let top_low : o.top < length rows = let low = laws.top_is_level in omega arith in
        record {
          kept = kept;
          same_names = same_names;
          order = λ x y a c. (
            λ h. below_at x y (row x a) (row y c) (ap (λ (p : Order). p.le x y) (sym same) ∙ h),
            λ h. ap (λ (p : Order). p.le x y) same ∙ below_from x y (row x a) (row y c) h,
          );
          join = λ x y a c.
              let j : ℕ = o.join x y in
              let j_low : j < length rows = let low = laws.join_is_level x y in omega arith in
              subst (λ (p : Order). IsJoin names pairs x y (p.join x y)) (sym same) (record {
                upper = record {
                  level = within j j_low;
                  left = below_at x j (row x a) j_low (laws.left x y);
                  right = below_at y j (row y c) j_low (laws.right x y);
                };
                least = λ u upper.
                    let low = row u upper.level in
                    below_at j u j_low low (laws.least x y u (below_from x u (row x a) low upper.left) (below_from y u (row y c) low upper.right));
              });
          bottom = subst (λ (p : Order). IsLeast names pairs p.bottom) (sym same) (record {
            level = within o.bottom bottom_low;
            below = λ x a. below_at o.bottom x bottom_low (row x a) (laws.least_of_all x);
          });
          top = subst (λ (p : Order). IsGreatest names pairs p.top) (sym same) (record {
            level = within o.top top_low;
            above = λ x a. below_at x o.top (row x a) top_low (laws.greatest_of_all x);
          });
        }
