use Rattle.std.proofs.Common.{◌≡◌, [], ◌++◌, ℕ, List}
use Rattle.std.proofs.lemmas.Result.{on_err_weaker, on_ok_weaker}
use Rattle.sap_pieces.proofs.Written.{cut_behind_none, cut_then, written_behind, written_behind_none, written_then}
use Rattle.sap_pieces.proofs.waiting.put.Goals as goal

pub returns-then-text-gt-LARGE_BYTES-clause-written : goal.returns-then-text-gt-LARGE_BYTES-clause-written
returns-then-text-gt-LARGE_BYTES-clause-written g c =
    let a : List ℕ = c.args.waiting.now.bytes in
    let b : List ℕ = c.make_room.new.waiting.bytes in
    let none : b ≡ [] = c.in_ok-make_room.ensures.none c.if-text-gt-LARGE_BYTES.true in
    on_ok_weaker c.write_text.result
    (λ told. written_then c.args.channel (a ++ c.args.text.now) (b ++ c.args.text.now)
    _ _ (written_behind c.args.channel a b c.args.text.now _ _ c.in_ok-make_room.ensures.written) b _
    (written_behind_none c.args.channel b c.args.text.now none _ _ told))
    c.write_text.ensures.told

pub returns-then-text-gt-LARGE_BYTES-clause-failed : goal.returns-then-text-gt-LARGE_BYTES-clause-failed
returns-then-text-gt-LARGE_BYTES-clause-failed g c =
    let a : List ℕ = c.args.waiting.now.bytes in
    let b : List ℕ = c.make_room.new.waiting.bytes in
    let none : b ≡ [] = c.in_ok-make_room.ensures.none c.if-text-gt-LARGE_BYTES.true in
    on_err_weaker c.write_text.result
    (λ cut. cut_then c.args.channel (a ++ c.args.text.now) (b ++ c.args.text.now) _ _ (written_behind c.args.channel a b c.args.text.now _ _ c.in_ok-make_room.ensures.written) _
    (cut_behind_none c.args.channel b c.args.text.now none _ _ cut))
    c.write_text.ensures.failed
