use Rattle.std.proofs.Common.{◌++◌, ℕ, List, sym, ◌∙◌, ap, arith}
use Rattle.std.proofs.lemmas.Result.{on_err_weaker, on_ok_weaker}
use Rattle.sap_desk.proofs.Steps.{on_err}
use Rattle.sap_pieces.proofs.Written.{all_last, cut_last, cut_on, fails_last, fails_on, put_on}
use Rattle.sap_pieces.proofs.writing.write_all.Goals as goal

pub loop-desk-preserved : goal.loop-desk-preserved
loop-desk-preserved g c =
    let inv = c.loop-desk.invariant in
    record {
      stands = let (rest, is, comes) = c.advance.ensures.more c.loop-desk-test.true inv.stands.0 inv.stands.1 in (rest, comes);
      written = λ text comes.
          let (rest, more, one) = inv.written text comes in
          let (left, is, last) = c.advance.ensures.more c.loop-desk-test.true rest more in (
            left,
            last,
            put_on c.args.channel text c.loop-desk.waiting.bytes rest c.piece.result.now left _ _ (is ∙ ap (λ (l : List ℕ). l ++ left) (sym c.piece.ensures)) one
                c.put.new.waiting.bytes _ c.in_ok-put.ensures.written,
          );
      few = c.in_ok-put.ensures.few;
      room = omega (arith, inv.room, c.in_ok-put.ensures.room);
      given = c.in_ok-put.ensures.given ∙ inv.given;
      faults = c.in_ok-put.ensures.counts.ok.0 ∙ inv.faults;
      lost = c.in_ok-put.ensures.counts.ok.1 ∙ inv.lost;
      sure = λ s. c.in_ok-put.ensures.sure (inv.sure s);
    }

pub returns-in_err-put-clause-failed : goal.returns-in_err-put-clause-failed
returns-in_err-put-clause-failed g c =
    on_err c.from_residual.result (λ text comes.
    let (rest, more, one) = c.loop-desk.invariant.written text comes in
    let (left, is, last) = c.advance.ensures.more c.loop-desk-test.true rest more in
    cut_on c.args.channel text c.loop-desk.waiting.bytes rest c.piece.result.now left _ _ (is ∙ ap (λ (l : List ℕ). l ++ left) (sym c.piece.ensures)) one _
    c.in_err-put.ensures.failed)

pub returns-in_err-put-clause-cause : goal.returns-in_err-put-clause-cause
returns-in_err-put-clause-cause g c =
    on_err c.from_residual.result (λ text comes sure.
    let (rest, more, one) = c.loop-desk.invariant.written text comes in
    let (left, is, last) = c.advance.ensures.more c.loop-desk-test.true rest more in
    fails_on c.args.channel text c.loop-desk.waiting.bytes rest c.piece.result.now left _ _ (is ∙ ap (λ (l : List ℕ). l ++ left) (sym c.piece.ensures)) one _
    (c.in_err-put.ensures.cause (c.loop-desk.invariant.sure sure)))

pub returns-clause-told : goal.returns-clause-told
returns-clause-told g c =
    on_ok_weaker c.flush.result
    (λ told text comes.
    let (rest, more, one) = c.loop-desk.invariant.written text comes in
    all_last c.args.channel text c.loop-desk.waiting.bytes rest _ _ (c.advance.ensures.end c.loop-desk-test.false rest more) one _ told)
    c.flush.ensures.told

pub returns-clause-failed : goal.returns-clause-failed
returns-clause-failed g c =
    on_err_weaker c.flush.result
    (λ cut text comes.
    let (rest, more, one) = c.loop-desk.invariant.written text comes in
    cut_last c.args.channel text c.loop-desk.waiting.bytes rest _ _ (c.advance.ensures.end c.loop-desk-test.false rest more) one _ cut)
    c.flush.ensures.failed

pub returns-clause-cause : goal.returns-clause-cause
returns-clause-cause g c =
    on_err_weaker c.flush.result
    (λ fails text comes sure.
    let (rest, more, one) = c.loop-desk.invariant.written text comes in
    fails_last c.args.channel text c.loop-desk.waiting.bytes rest _ _ (c.advance.ensures.end c.loop-desk-test.false rest more) one _ (fails (c.loop-desk.invariant.sure sure)))
    c.flush.ensures.cause
