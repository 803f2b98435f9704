use Rattle.sap_lemmas.proofs.Common.{◌≡◌, ◌-◌, length, drop, take, arith, take_all, length-drop}
use Rattle.sap_stim.proofs.LastPiece.{ends_behind, ends_whole, marks_before}
use Rattle.sap_stim.proofs.text.last_piece.Goals as goal
use Rattle.sap_stim.proofs.text.last_piece.Goals.{then-loop-start-test+else-line-start-ne32, else-loop-start-test}

pub returns-clause-last : goal.returns-clause-last
returns-clause-last c =
    let line = c.args.line.now in
    let n = c.loop-start.start in
    let piece : take (length line - n) (drop n line) ≡ drop n line = take_all (length line - n) (drop n line) (let l = length-drop n line in omega arith) in
    elim c.loop-start-test.branch [
      | then-loop-start-test+else-line-start-ne32 w ↦
          ends_behind 32 n line _ w.loop-start-test.true c.loop-start.invariant.within w.if-line-start-ne32.false c.loop-start.invariant.unmarked piece
      | else-loop-start-test w ↦ ends_whole 32 n line _ (omega (arith, w.loop-start-test.false)) c.loop-start.invariant.unmarked piece
    ]

pub returns-clause-spaces : goal.returns-clause-spaces
returns-clause-spaces c =
    let line = c.args.line.now in
    let n = c.loop-start.start in
    let piece : take (length line - n) (drop n line) ≡ drop n line = take_all (length line - n) (drop n line) (let l = length-drop n line in omega arith) in
    marks_before 32 n line _ c.loop-start.invariant.within c.loop-start.invariant.unmarked piece
