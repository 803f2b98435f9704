use Rattle.std.proofs.Common.{◌<◌, ◌∙◌, [], length, subst, arith}
use Rattle.std.proofs.lemmas.List.{get_or_read}
use Rattle.sap_lattice.specs.Pairs.{IsBroken}
use Rattle.sap_lattice.specs.Rows.{order_in}
use Rattle.sap_lattice.specs.Rules.{IsFirstPair}
use Rattle.sap_lattice.proofs.Judged.{same_first, cycle_at, cycle_from, no_join_at, no_join_from}
use Rattle.sap_lattice.proofs.build.check_pairs.Goals as goal

pub returns-in-Apart-clause-cycle : goal.returns-in-Apart-clause-cycle
returns-in-Apart-clause-cycle c = λ ne is pairs told kept.
    let names = c.args.names.now in
    let rows = c.args.order.now in
    let x = c.in-Some.x in
    let y = c.in-Some.y in
    let apart : x < y = c.in-Some.ensures.here.apart in
    let high : y < length names = let level = c.in-Some.ensures.here.level in let same = c.requires in omega arith in
    let low : x < length names = omega arith in
    let first = subst (λ rule. IsFirstPair (IsBroken (length rows) (order_in rows).le rule) x y) is c.in-Some.ensures in (
      kept,
      record {
        left = x;
        right = y;
        first = same_first _ _ x y (cycle_at names pairs rows told) (cycle_from names pairs rows told) first;
        left_name = c.in_ok-left-in-Some.ensures ∙ get_or_read names x c.index-names-x.result low c.index-names-x.is [];
        right_name = c.in_ok-right-in-Some.ensures ∙ get_or_read names y c.index-names-y.result high c.index-names-y.is [];
      },
    )

pub returns-in-Joined-clause-joinless : goal.returns-in-Joined-clause-joinless
returns-in-Joined-clause-joinless c = λ ne is pairs told kept.
    let names = c.args.names.now in
    let rows = c.args.order.now in
    let x = c.in-Some.x in
    let y = c.in-Some.y in
    let apart : x < y = c.in-Some.ensures.here.apart in
    let high : y < length names = let level = c.in-Some.ensures.here.level in let same = c.requires in omega arith in
    let low : x < length names = omega arith in
    let first = subst (λ rule. IsFirstPair (IsBroken (length rows) (order_in rows).le rule) x y) is c.in-Some.ensures in (
      kept,
      record {
        left = x;
        right = y;
        first = same_first _ _ x y (no_join_at names pairs rows told) (no_join_from names pairs rows told) first;
        left_name = c.in_ok-left-in-Some.ensures ∙ get_or_read names x c.index-names-x.result low c.index-names-x.is [];
        right_name = c.in_ok-right-in-Some.ensures ∙ get_or_read names y c.index-names-y.result high c.index-names-y.is [];
      },
    )
