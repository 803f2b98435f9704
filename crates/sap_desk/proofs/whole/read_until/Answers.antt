use Rattle.sap_lemmas.proofs.Common.{rules, ◌≡◌, ◌+◌, ◌++◌, ◌≤◌, ◌<◌, ◌^◌, length, take, ap, ◌∙◌, arith, length-append, length-take}
use Rattle.sap_desk.proofs.Steps.{read_more, read_end, number-at}
use Rattle.sap_desk.proofs.ReadFiles.{front_all, front_more, gave_more, so_asked, so_failed, so_more, so_read}
use Rattle.sap_desk.proofs.whole.read_until.Goals as goal

pub loop-piece-preserved : goal.loop-piece-preserved
loop-piece-preserved g c =
    let items : c.extend_from_slice.new.self.items ≡ c.loop-piece.bytes.items ++ take c.in_ok-count.count c.read.new.buf = search rules in
    let within : c.in_ok-count.count ≤ length c.read.new.buf = search rules in
    let size : length c.extend_from_slice.new.self.items ≡ length c.loop-piece.bytes.items + c.in_ok-count.count
    = ap length items ∙ length-append c.loop-piece.bytes.items (take c.in_ok-count.count c.read.new.buf) ∙ omega (arith, length-take c.in_ok-count.count c.read.new.buf) in
    let few : c.in_ok-count.count ≤ 4096 = first_of (search rules, grind (arith, rules)) in
    let given : g.D.Desk.given c.read.new.self c.args.channel ≡ g.D.Desk.given c.args.desk.now c.args.channel + length c.extend_from_slice.new.self.items
    = number-at _ _ _ _ c.in_ok-count.ensures.given ∙ omega (arith, size, c.loop-piece.invariant.given) in
    let bounded : g.D.Desk.given c.read.new.self c.args.channel < 2 ^ 32 = c.in_ok-count.ensures.bounded in
    record {
      so = so_more _ _ _ _ _ _ _ _ c.loop-piece.invariant.so (omega (arith, c.len.ensures, c.loop-piece-test.true)) few size c.in_ok-count.ensures.told;
      bytes = rw (size, items) (read_more _ _ _ _ _ _ _ _ _ c.loop-piece.invariant.so.told c.loop-piece.invariant.bytes c.in_ok-count.ensures.gave);
      most = omega (arith, size, few, c.len.ensures, c.loop-piece-test.true);
      short = omega (arith, given, bounded);
      given = given;
      gave = gave_more _ _ _ _ (g.D.Desk.given c.args.desk.now) (g.D.Desk.given c.loop-piece.desk) (g.D.Desk.given c.read.new.self) c.loop-piece.invariant.gave c.in_ok-count.ensures.given size;
      faults = search rules;
      lost = search rules;
      sure = search rules;
    }

pub returns-then-count-eq0-clause-bytes : goal.returns-then-count-eq0-clause-bytes
returns-then-count-eq0-clause-bytes g c =
    front_all c.args.channel c.args.limit c.loop-piece.bytes.items _
    (read_end _ _ _ _ _ _ _ _ c.loop-piece.invariant.so.told c.loop-piece.invariant.bytes (rw c.if-count-eq0.true at c.in_ok-count.ensures.gave) (omega arith))

pub returns-then-count-eq0-clause-told : goal.returns-then-count-eq0-clause-told
returns-then-count-eq0-clause-told g c =
    so_asked _ _ _ c.loop-piece.bytes.items _ _ _ c.loop-piece.invariant.so c.loop-piece.invariant.bytes (omega (arith, c.len.ensures, c.loop-piece-test.true))
    c.if-count-eq0.true c.in_ok-count.ensures.told

pub returns-in_err-extend_from_slice-clause-memory :
    goal.returns-in_err-extend_from_slice-clause-memory
returns-in_err-extend_from_slice-clause-memory g c = λ _.
    let few : c.in_ok-count.count ≤ 4096 = first_of (search rules, grind (arith, rules)) in
    let within : c.in_ok-count.count ≤ length c.read.new.buf = search rules in
    let some : 0 < c.in_ok-count.count = omega (arith, c.if-count-eq0.false) in
    let size : length (c.loop-piece.bytes.items ++ take c.in_ok-count.count c.read.new.buf) ≡ length c.loop-piece.bytes.items + c.in_ok-count.count
    = length-append c.loop-piece.bytes.items (take c.in_ok-count.count c.read.new.buf) ∙ omega (arith, length-take c.in_ok-count.count c.read.new.buf) in (
      length (c.loop-piece.bytes.items ++ take c.in_ok-count.count c.read.new.buf),
      so_read _ _ (c.loop-piece.bytes.items ++ take c.in_ok-count.count c.read.new.buf) _ _
          (so_more _ _ _ _ _ _ _ _ c.loop-piece.invariant.so (omega (arith, c.len.ensures, c.loop-piece-test.true)) few size c.in_ok-count.ensures.told)
          (rw size (read_more _ _ _ _ _ _ _ _ _ c.loop-piece.invariant.so.told c.loop-piece.invariant.bytes c.in_ok-count.ensures.gave))
          (omega (arith, size, some)),
    )

pub returns-in_err-count-clause-failed : goal.returns-in_err-count-clause-failed
returns-in_err-count-clause-failed g c = λ _. (
  length c.loop-piece.bytes.items,
  so_failed _ _ c.loop-piece.bytes.items _ _ _ c.requires c.loop-piece.invariant.so c.loop-piece.invariant.bytes (omega (arith, c.len.ensures, c.loop-piece-test.true))
      c.in_err-count.ensures.failed,
)

pub returns-clause-bytes : goal.returns-clause-bytes
returns-clause-bytes g c =
    front_more c.args.channel c.args.limit (length c.loop-piece.bytes.items) c.loop-piece.bytes.items _
    (omega (arith, c.len.ensures, c.loop-piece-test.false)) c.loop-piece.invariant.bytes

pub returns-clause-told : goal.returns-clause-told
returns-clause-told g c = so_read _ _ c.loop-piece.bytes.items _ _ c.loop-piece.invariant.so c.loop-piece.invariant.bytes (omega (arith, c.len.ensures, c.loop-piece-test.false))
