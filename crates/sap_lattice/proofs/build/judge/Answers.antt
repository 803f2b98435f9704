use Rattle.std.proofs.Common.{sym, refl}
use Rattle.std.proofs.lemmas.Result.{err_from_is_err_and}
use Rattle.sap_lattice.proofs.Judged.{keeps_apart, keeps_joins, keeps_all, has_joins, bottom_found, no_least, is_lattice_of}
use Rattle.sap_lattice.proofs.build.judge.Goals as goal

pub returns-in_err-check_names-clause-refused : goal.returns-in_err-check_names-clause-refused
returns-in_err-check_names-clause-refused c =
    let p = err_from_is_err_and c.from_residual.result c.from_residual.ensures.1 in
    rw (p.1, p.2) (λ ne. c.in_err-check_names.ensures.broken ne c.args.pairs.now)

pub returns-in_err-check_pairs-clause-refused : goal.returns-in_err-check_pairs-clause-refused
returns-in_err-check_pairs-clause-refused c =
    let p = err_from_is_err_and c.from_residual-in_err-check_pairs.result c.from_residual-in_err-check_pairs.ensures.1 in
    rw (p.1, p.2) (λ ne. c.in_err-check_pairs.ensures.cycle ne refl c.args.pairs.now c.in_ok-order.ensures.order c.in_ok-order.ensures.known)

pub returns-in_err-check_pairs-2-clause-refused : goal.returns-in_err-check_pairs-2-clause-refused
returns-in_err-check_pairs-2-clause-refused c =
    let told = c.in_ok-order.ensures.order in
    let apart = keeps_apart c.args.names.now c.args.pairs.now c.in_ok-order.order told c.in_ok-order.ensures.known c.in_ok-check_pairs.ensures.kept in
    let p = err_from_is_err_and c.from_residual-in_err-check_pairs-2.result c.from_residual-in_err-check_pairs-2.ensures.1 in
    rw (p.1, p.2) (λ ne. c.in_err-check_pairs-2.ensures.joinless ne refl c.args.pairs.now told apart)

pub encode-requires-clause-joins : goal.encode-requires-clause-joins
encode-requires-clause-joins c =
    has_joins c.args.names.now c.args.pairs.now c.in_ok-order.order c.in_ok-order.ensures.order c.in_ok-check_pairs.ensures.kept c.in_ok-check_pairs-2.ensures.kept
    c.in-Some.bottom c.in-Some.ensures

pub encode-requires-clause-bottom : goal.encode-requires-clause-bottom
encode-requires-clause-bottom c =
    bottom_found c.args.names.now c.args.pairs.now c.in_ok-order.order c.in_ok-order.ensures.order c.in_ok-check_pairs.ensures.kept c.in_ok-check_pairs-2.ensures.kept
    c.in-Some.bottom c.in-Some.ensures

pub returns-in-Some-clause-accepted : goal.returns-in-Some-clause-accepted
returns-in-Some-clause-accepted c =
    let names = c.args.names.now in
    let pairs = c.args.pairs.now in
    let rows = c.in_ok-order.order in
    let told = c.in_ok-order.ensures.order in
    let no_cycle = c.in_ok-check_pairs.ensures.kept in
    let all_joined = c.in_ok-check_pairs-2.ensures.kept in
    let bottom = c.in-Some.bottom in
    let found = c.in-Some.ensures in
    let kept = keeps_all names pairs rows told no_cycle all_joined bottom found c.in_ok-order.ensures.known in
    let made = c.in_ok-encode-in-Some.ensures in
    is_lattice_of names pairs rows told no_cycle all_joined bottom found c.in_ok-encode-in-Some.field-0 kept made.names made.order

pub returns-clause-refused : goal.returns-clause-refused
returns-clause-refused c = λ ne.
    let names = c.args.names.now in
    let pairs = c.args.pairs.now in
    let rows = c.in_ok-order.order in
    let told = c.in_ok-order.ensures.order in
    let apart = keeps_apart names pairs rows told c.in_ok-order.ensures.known c.in_ok-check_pairs.ensures.kept in
    (keeps_joins names pairs rows told apart c.in_ok-check_pairs-2.ensures.kept, no_least names pairs rows told (sym c.in-None.ensures))
