use Rattle.std.proofs.Common.{◌≡◌, ◌∙◌, ◌<◌, ◌≤◌, ap, sym, subst, ℕ, List, length, arith}
use Rattle.std.specs.Prelude.{All, filter, map, unwrap_or}
use Rattle.sap_lattice.specs.Codes.{is_meet_irreducible, is_in_code, number_of}
use Rattle.sap_lattice.specs.Order.{Order}
use Rattle.sap_lattice.specs.Levels.{numbers, order_of}
use Rattle.sap_lattice.specs.Kept.{IsKept, levels_of}
use Rattle.sap_lattice.specs.Rows.{order_in}
use Rattle.sap_lattice.specs.Rules.{KeepsNames}
use Rattle.sap_lattice.specs.declared.TheConstants.{MOST_LEVELS}
use Rattle.sap_lattice.proofs.Encoded.{top_found, irreducibles_within, bottom_within, top_within, kept_by}
use Rattle.sap_lattice.proofs.lattice.Lattice.encode.Goals as goal
use Rattle.sap_lattice.proofs.lattice.Lattice.encode.Goals.{After-unwrap_or-top, After-as_slice, After-len, After-new-2}

top_is : (c : After-unwrap_or-top) → c.unwrap_or-top.result ≡ (order_in c.args.order.now).top
top_is c = top_found c.args.order.now c.unwrap_or-top.result (c.unwrap_or-top.ensures ∙ ap (λ o. unwrap_or o 0) c.greatest.ensures)

pub meet_irreducibles-requires : goal.meet_irreducibles-requires
meet_irreducibles-requires c = top_is (goal.at.meet_irreducibles-requires c).After-unwrap_or-top

-- how many levels there are
few : (c : After-unwrap_or-top) → length c.args.order.now ≤ MOST_LEVELS
few c = let most = c.requires.names.before.not_too_many in let count = c.requires.count in omega arith

found_within : (c : After-as_slice) → All (λ m. m < length c.args.order.now) c.as_slice.result.now × (length c.as_slice.result.now < length c.args.order.now)
found_within c =
    irreducibles_within c.args.order.now c.requires.joins c.as_slice.result.now (c.as_slice.ensures.value ∙ c.in_ok-irreducibles.ensures)

pub codes_of-requires-clause-levels : goal.codes_of-requires-clause-levels
codes_of-requires-clause-levels c = (found_within (goal.at.codes_of-requires-clause-levels c).After-as_slice).0

pub codes_of-requires-clause-width : goal.codes_of-requires-clause-width
codes_of-requires-clause-width c =
    let at = goal.at.codes_of-requires-clause-width c in
    let within = (found_within at.After-as_slice).1 in
    let most = few at.After-unwrap_or-top in
    omega arith

-- how many bits a code has
width_is : (c : After-len) → c.len.result ≡ length c.as_slice.result.now
width_is c = c.len.ensures ∙ c.in_ok-irreducibles.irreducibles.ok.0 ∙ ap length (sym c.as_slice.ensures.value)

pub overflow_cast-result : goal.overflow_cast-result
overflow_cast-result c =
    let at = goal.at.overflow_cast-result c in
    let width = width_is at.After-len in
    let within = (found_within at.After-as_slice).1 in
    let most = few at.After-unwrap_or-top in
    omega arith

pub overflow_cast-bottom : goal.overflow_cast-bottom
overflow_cast-bottom c =
    let low = bottom_within c.args.order.now c.requires.joins in
    let is_bottom = c.requires.bottom in
    let most = few (goal.at.overflow_cast-bottom c).After-unwrap_or-top in
    omega arith

pub overflow_cast-top : goal.overflow_cast-top
overflow_cast-top c =
    let low = top_within c.args.order.now c.requires.joins in
    let at = goal.at.overflow_cast-top c in
    let is_top = top_is at.After-unwrap_or-top in
    let most = few at.After-unwrap_or-top in
    omega arith

-- the parts are those of a lattice, and its order is the one that was passed
kept : (c : After-new-2) → c.len.result ≡ length c.as_slice.result.now → c.unwrap_or-top.result ≡ (order_in c.args.order.now).top
    → IsKept (levels_of c.in_ok-names.names.items c.in_ok-codes.codes.items) c.in_ok-codes.codes.items c.len.result c.new.result c.new-2.result
    × (order_of (levels_of c.in_ok-names.names.items c.in_ok-codes.codes.items) ≡ order_in c.args.order.now)
kept c width top =
    let o : Order = order_in c.args.order.now in
    let n : ℕ = length c.args.order.now in
    let names : List (List ℕ) = c.in_ok-names.names.items in
    let same : names ≡ c.args.names.now = c.in_ok-names.ensures in
    let found : c.as_slice.result.now ≡ filter (is_meet_irreducible o) (numbers n) = c.as_slice.ensures.value ∙ c.in_ok-irreducibles.ensures in
    let coding : List ℕ → List ℕ = λ ms. map (λ x. number_of (map (is_in_code o x) ms)) (numbers n) in
    let codes_are : c.in_ok-codes.codes.items ≡ coding (filter (is_meet_irreducible o) (numbers n)) = c.in_ok-codes.ensures ∙ ap coding found in
    kept_by c.args.order.now c.requires.joins names (subst KeepsNames (sym same) c.requires.names) (c.requires.count ∙ ap length (sym same))
    c.in_ok-codes.codes.items c.len.result c.new.result c.new-2.result
    codes_are
    (width ∙ ap length found)
    (c.new.ensures ∙ c.requires.bottom)
    (c.new-2.ensures ∙ top)

pub invariant_of-result : goal.invariant_of-result
invariant_of-result c =
    let at = goal.at.invariant_of-result c in
    (kept at.After-new-2 (width_is at.After-len) (top_is at.After-unwrap_or-top)).0

pub returns-clause-order : goal.returns-clause-order
returns-clause-order c =
    let at = goal.at.returns-clause-order c in
    (kept at.After-new-2 (width_is at.After-len) (top_is at.After-unwrap_or-top)).1
