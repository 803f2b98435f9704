use Rattle.std.proofs.Common.{◌≡◌, ◌≤◌, ◌+◌, ℕ, List, length, sym, ap, ◌∙◌, Ok, Err, arith}
use Rattle.std.specs.List.{after_first}
use Rattle.sap_text.specs.Lines.{lines_of}
use Rattle.sap_stim.proofs.Pieces.{is_mark, non_empty}
use Rattle.sap_machine.specs.Assembly.{and_word, words_of}
use Rattle.sap_cpu.proofs.Assembled.{begins, empty, finishes, goes_on, late, line_read, open_line, refuses, shorter}
use Rattle.sap_cpu.proofs.assemble.assemble.Goals as goal

pub loop-rest-init : goal.loop-rest-init
loop-rest-init c = begins c.args.text.now

pub returns-then-count-eq16 : goal.returns-then-count-eq16
returns-then-count-eq16 c =
    refuses c.args.text.now c.loop-rest.words c.loop-rest.rest.now c.loop-rest.count _ c.loop-rest.invariant
    (late c.loop-rest.rest.now (c.loop-rest.count + 1) (non_empty c.loop-rest.rest.now c.loop-rest-test.ensures) (ap (λ n. n + 1) c.if-count-eq16.true))

pub returns-then-here-rest : goal.returns-then-here-rest
returns-then-here-rest c =
    let small : c.loop-rest.count + 1 ≤ 16 = let few = c.loop-rest.invariant.few in let more = c.if-count-eq16.false in omega arith in
    refuses c.args.text.now c.loop-rest.words c.loop-rest.rest.now c.loop-rest.count _ c.loop-rest.invariant
    (open_line c.loop-rest.rest.now c.cut.result.0.now (c.loop-rest.count + 1) (non_empty c.loop-rest.rest.now c.loop-rest-test.ensures)
    small c.cut.ensures.before c.if-here-rest.true)

pub bounds-words-count : goal.bounds-words-count
bounds-words-count c = let few = c.loop-rest.invariant.few in let more = c.if-count-eq16.false in omega arith

pub returns-in-Err : goal.returns-in-Err
returns-in-Err c =
    let small : c.loop-rest.count + 1 ≤ 16 = let few = c.loop-rest.invariant.few in let more = c.if-count-eq16.false in omega arith in
    refuses c.args.text.now c.loop-rest.words c.loop-rest.rest.now c.loop-rest.count _ c.loop-rest.invariant
    (line_read c.loop-rest.rest.now c.cut.result.0.now (c.loop-rest.count + 1) (Err c.in-Err.code)
    (non_empty c.loop-rest.rest.now c.loop-rest-test.ensures) small c.cut.ensures.before c.if-here-rest.false (sym c.in-Err.is ∙ c.read_word.ensures))

pub loop-rest-smaller : goal.loop-rest-smaller
loop-rest-smaller c =
    let e : length c.cut.result.1.now ≡ length (after_first (is_mark 10) c.loop-rest.rest.now) = ap length c.cut.ensures.behind in
    let f = shorter c.loop-rest.rest.now (non_empty c.loop-rest.rest.now c.loop-rest-test.ensures) in
    omega arith

pub loop-rest-preserved : goal.loop-rest-preserved
loop-rest-preserved c =
    let small : c.loop-rest.count + 1 ≤ 16 = let few = c.loop-rest.invariant.few in let more = c.if-count-eq16.false in omega arith in
    goes_on c.args.text.now c.loop-rest.words c.loop-rest.rest.now c.cut.result.1.now c.loop-rest.count c.in-Ok.word c.loop-rest.invariant c.if-count-eq16.false
    (line_read c.loop-rest.rest.now c.cut.result.0.now (c.loop-rest.count + 1) (Ok c.in-Ok.word)
    (non_empty c.loop-rest.rest.now c.loop-rest-test.ensures) small c.cut.ensures.before c.if-here-rest.false (sym c.in-Ok.is ∙ c.read_word.ensures)
    ∙ ap (λ (later : List ℕ). and_word c.in-Ok.word (words_of (c.loop-rest.count + 1 + 1) (lines_of later))) (sym c.cut.ensures.behind))

pub returns : goal.returns
returns c = ap Ok c.new.ensures ∙ finishes c.args.text.now c.loop-rest.words c.loop-rest.rest.now c.loop-rest.count c.loop-rest.invariant
    (empty c.loop-rest.rest.now c.loop-rest-test.ensures)
