use Rattle.std.proofs.lemmas.Result.{err_from_is_err_and}
use Rattle.sap_check.specs.Checked.{levels_in, tree_in}
use Rattle.sap_files.proofs.Streams.{one_length, stream_in}
use Rattle.sap_commands.proofs.StreamEnds.{no_first, no_second, no_verdict, told}
use Rattle.sap_commands.proofs.twin.compare.Goals as goal

pub returns-in_err-one : goal.returns-in_err-one
returns-in_err-one g c = λ lattice ls net is same some.
    let p = err_from_is_err_and c.from_residual.result c.from_residual.ensures.1 in
    rw (p.1, p.2) (no_first lattice ls (levels_in c.args.checked.now) (tree_in c.args.checked.now) is same c.args.first.now
    c.args.second.now c.args.word.now c.args.level _ _ _ c.in_err-one.ensures)

pub returns-in_err-other : goal.returns-in_err-other
returns-in_err-other g c = λ lattice ls net is same some.
    let p = err_from_is_err_and c.from_residual-in_err-other.result c.from_residual-in_err-other.ensures.1 in
    rw (p.1, p.2) (no_second lattice ls (levels_in c.args.checked.now) (tree_in c.args.checked.now) is same c.args.first.now
    c.args.second.now c.args.word.now c.args.level _ c.in_ok-one.one _ c.in_ok-one.ensures _ _ c.in_err-other.ensures)

pub returns-in_err-text : goal.returns-in_err-text
returns-in_err-text g c = λ lattice ls net is same some.
    let p = err_from_is_err_and c.from_residual-in_err-text.result c.from_residual-in_err-text.ensures.1 in
    rw (p.1, p.2) (no_verdict lattice ls (levels_in c.args.checked.now) (tree_in c.args.checked.now) is same c.args.first.now
    c.args.second.now c.args.word.now c.args.level _ c.in_ok-one.one _ c.in_ok-one.ensures c.in_ok-other.other _ c.in_ok-other.ensures _ c.in_err-text.ensures)

pub verdict-requires : goal.verdict-requires
verdict-requires g c =
    let k = levels_in c.args.checked.now in
    let d = tree_in c.args.checked.now in
    let (lattice, ls, is, same) = c.requires in
    let one = c.in_ok-one.ensures in
    let other = c.in_ok-other.ensures in
    one_length lattice ls is.lattice d one.0 other.0 c.in_ok-one.one c.in_ok-other.other
    (stream_in k ls same 1 d one.0 c.in_ok-one.one one.2) (stream_in k ls same 2 d other.0 c.in_ok-other.other other.2)

pub returns : goal.returns
returns g c = λ lattice ls net is same some.
    told lattice ls (levels_in c.args.checked.now) (tree_in c.args.checked.now) is same c.args.first.now c.args.second.now
    c.args.word.now c.args.level _ c.in_ok-one.one _ c.in_ok-one.ensures c.in_ok-other.other _ c.in_ok-other.ensures net
    c.in_ok-text.text _ _ some c.in_ok-text.ensures c.put.ensures
