use Rattle.sap_lemmas.proofs.Common.{rules, ◌≡◌, [], ◌++◌, ℕ, List, sym, subst, on_err_weaker, on_ok_weaker}
use Rattle.sap_pieces.specs.Written.{PartWritten}
use Rattle.sap_pieces.proofs.Written.{written_behind, written_behind_none, written_then}
use Rattle.sap_lines.proofs.stepping.Pieces.{cut_then, text_cut}
use Rattle.sap_lines.proofs.stepping.waiting.show.Goals as goal

pub returns-then-text-gt-LARGE_BYTES-clause-written : goal.returns-then-text-gt-LARGE_BYTES-clause-written
returns-then-text-gt-LARGE_BYTES-clause-written g c =
    let a : List ℕ = c.args.waiting.now.bytes in
    let b : List ℕ = c.write_on.new.waiting.bytes in
    let none : b ≡ [] = search rules in
    on_ok_weaker c.write_text.result
    (λ told. written_then 1 (a ++ c.args.text.now) (b ++ c.args.text.now) _ _ (written_behind 1 a b c.args.text.now _ _ c.in_ok-write_on.ensures.written) b _
    (written_behind_none 1 b c.args.text.now none _ _ told))
    c.write_text.ensures.told

pub returns-then-text-gt-LARGE_BYTES-clause-failed : goal.returns-then-text-gt-LARGE_BYTES-clause-failed
returns-then-text-gt-LARGE_BYTES-clause-failed g c =
    let a : List ℕ = c.args.waiting.now.bytes in
    let b : List ℕ = c.write_on.new.waiting.bytes in
    let none : b ≡ [] = search rules in
    on_err_weaker c.write_text.result
    (λ failed. cut_then (a ++ c.args.text.now) (b ++ c.args.text.now) _ _ _ (written_behind 1 a b c.args.text.now _ _ c.in_ok-write_on.ensures.written)
    (text_cut b c.args.text.now none _ _ failed))
    c.write_text.ensures.failed

pub returns-clause-written : goal.returns-clause-written
returns-clause-written g c =
    let a : List ℕ = c.args.waiting.now.bytes in
    let b : List ℕ = c.write_on.new.waiting.bytes in
    subst (λ (l : List ℕ). PartWritten 1 (a ++ c.args.text.now) l (g.D.Desk.told c.args.desk.now) (g.D.Desk.told c.write_on.new.desk)) (sym c.add.ensures.bytes)
    (written_behind 1 a b c.args.text.now _ _ c.in_ok-write_on.ensures.written)
