use Rattle.sap_lemmas.proofs.Common.{rules, tests, ◌≡◌, true, ◌++◌, ◌≤◌, [], length, take, refl, sym, arith, append-nil}
use Rattle.sap_desk.proofs.Steps.{on_err}
use Rattle.sap_lines.specs.Fetched.{IsDecided}
use Rattle.sap_lines.proofs.Reading.{no_more, behind_more, piece_more, same_more, failed_more, end_read, fails_now}
use Rattle.sap_lines.proofs.fetch.read_pieces.Goals as goal

pub loop-piece-init : goal.loop-piece-init
loop-piece-init g c = record {
  more = no_more c.args.channel c.args.held.now _ _;
  behind = ([], sym (append-nil c.args.held.now));
  bounded = λ small. small;
  faults = refl;
  lost = refl;
  sure = λ sure. sure;
}

pub loop-piece-preserved : goal.loop-piece-preserved
loop-piece-preserved g c =
    let items : c.add.new.self ≡ c.loop-piece.held ++ take c.in_ok-count.count c.read.new.buf = search rules in
    let within : c.in_ok-count.count ≤ length c.read.new.buf = search rules in
    let undecided : IsDecided c.loop-piece.held → ⊥ =
    λ decided. (let told : c.is_decided.result ≡ true = c.is_decided.ensures.1 decided in let no : ⊥ = search (rules, tests) in no) in
    let few : c.in_ok-count.count ≤ 4096 = omega (arith, within) in
    record {
      more = piece_more c.args.channel c.in_ok-count.count _ _ _ _ _ _ _ _ _ _ _ c.loop-piece.invariant.more undecided within few
          c.in_ok-count.ensures.told c.in_ok-count.ensures.gave c.in_ok-count.ensures.given items;
      behind = behind_more c.args.held.now c.loop-piece.held c.add.new.self (take c.in_ok-count.count c.read.new.buf) c.loop-piece.invariant.behind items;
      bounded = λ small. c.in_ok-count.ensures.bounded;
      faults = search rules;
      lost = search rules;
      sure = search rules;
    }

pub returns-in_err-count-clause-failed : goal.returns-in_err-count-clause-failed
returns-in_err-count-clause-failed g c =
    on_err c.from_residual.result (failed_more _ _ _ _ _ _ _ _ _ c.loop-piece.invariant.more c.in_err-count.ensures.failed c.in_err-count.ensures.given_stands)

pub returns-in_err-count-clause-cause : goal.returns-in_err-count-clause-cause
returns-in_err-count-clause-cause g c =
    on_err c.from_residual.result (λ sure. fails_now _ _ _ _ _ _ _ (omega arith) c.in_err-count.ensures.failed
    c.in_err-count.ensures.given_stands (c.in_err-count.ensures.cause (c.loop-piece.invariant.sure sure)))

pub returns-then-count-eq0-clause-more : goal.returns-then-count-eq0-clause-more
returns-then-count-eq0-clause-more g c =
    let undecided : IsDecided c.loop-piece.held → ⊥ =
    λ decided. (let told : c.is_decided.result ≡ true = c.is_decided.ensures.1 decided in let no : ⊥ = search (rules, tests) in no) in
    same_more _ _ _ _ _ _ _ _ _ _ c.loop-piece.invariant.more undecided c.if-count-eq0.true c.in_ok-count.ensures.told c.in_ok-count.ensures.given

pub returns-then-count-eq0-clause-decided : goal.returns-then-count-eq0-clause-decided
returns-then-count-eq0-clause-decided g c = end_read _ _ _ _ _ _ _ c.if-count-eq0.true c.in_ok-count.ensures.told c.in_ok-count.ensures.gave (omega arith)

pub returns-in_err-count-clause-wanted : goal.returns-in_err-count-clause-wanted
returns-in_err-count-clause-wanted g c =
    on_err c.from_residual.result (λ decided.
    (let told : c.is_decided.result ≡ true = c.is_decided.ensures.1 decided in let no : ⊥ = search (rules, tests) in no))
