use Rattle.sap_lemmas.proofs.Common.{rules, ◌≡◌, ◌<◌, ◌+◌, ℕ, List, [], ◌++◌, take, refl, sym, ◌∙◌, ap, subst, arith, ◌^◌, IfSome, IsTrue}
use Rattle.sap_desk.specs.Desk.{rest_of}
use Rattle.sap_desk.specs.Cause.{counted}
use Rattle.sap_desk.specs.Whole.{Between}
use Rattle.sap_desk.proofs.Steps.{number-at}
use Rattle.sap_lattice.specs.Levels.{Levels}
use Rattle.sap_stream.specs.Spans.{cycles_of}
use Rattle.sap_stim.specs.declared.field.Field.{Field}
use Rattle.sap_stim.specs.Fits.{LineFits}
use Rattle.sap_lines.specs.declared.next.Next.TheVariants.{Line, End, Fault}
use Rattle.sap_lines.specs.Answers.{Tells}
use Rattle.sap_lines.specs.Fetched.{IsDecided}
use Rattle.sap_lines.specs.Reader.{Backed, to_come}
use Rattle.sap_lines.proofs.Reading.{read_count}
use Rattle.sap_lines.proofs.stepping.Along.{ReadFor, along_begins, along_more, read_known}
use Rattle.sap_lines.proofs.stepping.Answered.{broken, broken_cause, cut, cut_cause, ended, refused}
use Rattle.sap_lines.proofs.stepping.EveryDesk.{fault_of_some, gave_more, none_of_some}
use Rattle.sap_lines.proofs.stepping.printing.step_on.Goals as goal

pub loop-desk-init : goal.loop-desk-init
loop-desk-init g c = record {
  along = along_begins (g.S.Steps.shows c.args.steps.now) (g.S.Steps.levels c.args.steps.now) (g.S.Steps.fields c.args.steps.now)
      c.args.channel (g.S.Steps.behind c.args.steps.now) c.args.lines.now (g.D.Desk.given c.args.desk.now c.args.channel) c.args.waiting.now.bytes (g.D.Desk.told c.args.desk.now)
      c.lines_follow.ensures.begins c.requires.lines c.requires.unread c.requires.waiting c.requires.behind c.requires.shows;
  gave = ([], c.lines_follow.ensures.begins_some (g.S.Steps.levels c.args.steps.now) (g.S.Steps.fields c.args.steps.now) c.args.lines.now c.requires.lines);
  back = λ lines text h. h;
  live = c.requires.lines.live;
  fields = c.requires.lines.fields;
  same_levels = refl;
  same_fields = refl;
  same_room = refl;
  room = c.requires.room;
  few = rw c.requires.waiting (omega arith);
  large = c.requires.large;
  backed = rw (c.requires.lines.count, c.requires.lines.pending) (omega arith);
  bounded = omega (arith, c.requires.unread);
  faults = refl;
  lost = refl;
  sure = λ s. s;
}

pub next-requires-clause-live : goal.next-requires-clause-live
next-requires-clause-live g c = c.loop-desk.invariant.live

pub next-requires-clause-channel : goal.next-requires-clause-channel
next-requires-clause-channel g c = λ is. omega (arith, is, c.requires.above)

pub step_line-requires-clause-stands : goal.step_line-requires-clause-stands
step_line-requires-clause-stands g c = (cycles_of c.loop-desk.invariant.along.lines, c.loop-desk.invariant.along.behind)

pub step_line-requires-clause-line : goal.step_line-requires-clause-line
step_line-requires-clause-line g c =
    let inv = c.loop-desk.invariant in
    let live : IsTrue c.next.new.self.live = rw c.in-Line.ensures.live (search rules) in
    let fields : c.next.new.self.fields ≡ g.S.Steps.fields c.loop-desk.steps = c.in-Line.ensures.fields ∙ inv.fields ∙ sym inv.same_fields in
    subst (λ (ls : Levels). LineFits ls (g.S.Steps.fields c.loop-desk.steps) c.next.new.self.line.inputs) c.lattice.ensures
    (subst (λ (fs : List Field). LineFits c.lattice.result.now fs c.next.new.self.line.inputs) fields (c.in-Line.ensures.fits live))

pub step_line-requires-clause-cycle : goal.step_line-requires-clause-cycle
step_line-requires-clause-cycle g c =
    let inv = c.loop-desk.invariant in
    omega (arith, inv.backed, inv.bounded, inv.along.few)

pub step_line-requires-clause-room : goal.step_line-requires-clause-room
step_line-requires-clause-room g c = omega (arith, c.loop-desk.invariant.same_room, c.loop-desk.invariant.room)

pub step_line-requires-clause-few : goal.step_line-requires-clause-few
step_line-requires-clause-few g c = c.loop-desk.invariant.few

pub step_line-requires-clause-large : goal.step_line-requires-clause-large
step_line-requires-clause-large g c = c.loop-desk.invariant.large

pub loop-desk-smaller : goal.loop-desk-smaller
loop-desk-smaller g c =
    let few : c.loop-desk.lines.count < 2 ^ 32 = omega (arith, c.loop-desk.invariant.backed, c.loop-desk.invariant.bounded) in
    let counts : c.next.new.self.count ≡ counted c.loop-desk.lines.count = c.in-Line.ensures.count in
    omega (arith, few, counts)

pub loop-desk-preserved : goal.loop-desk-preserved
loop-desk-preserved g c =
    let inv = c.loop-desk.invariant in
    let few : c.loop-desk.lines.count < 2 ^ 32 = omega (arith, c.loop-desk.invariant.backed, c.loop-desk.invariant.bounded) in
    let same : c.lattice.result.now ≡ g.S.Steps.levels c.args.steps.now = c.lattice.ensures ∙ c.loop-desk.invariant.same_levels in
    let known : IfSome (g.D.Desk.told c.loop-desk.desk)
    (ReadFor (g.S.Steps.levels c.args.steps.now) c.args.channel Line c.loop-desk.lines c.next.new.self c.in-Line.ensures.read.asked c.in-Line.ensures.read.count)
    = read_known (g.S.Steps.levels c.args.steps.now) c.lattice.result.now c.args.channel Line c.loop-desk.lines c.next.new.self
    c.in-Line.ensures.read.asked c.in-Line.ensures.read.count _ (g.D.Desk.told c.loop-desk.desk) same
    (read_count c.args.channel c.in-Line.ensures.read.count (g.D.Desk.given c.loop-desk.desk) (g.D.Desk.given c.next.new.desk)
    c.in-Line.ensures.read.given) c.in-Line.ensures.read.least (c.in-Line.ensures.by few) in
    let stays : g.D.Desk.given c.step_line.new.desk c.args.channel ≡ g.D.Desk.given c.next.new.desk c.args.channel = ap (λ (f : ℕ → ℕ). f c.args.channel) c.in-Ok.ensures.given in
    let gave : g.D.Desk.given c.step_line.new.desk c.args.channel ≡ g.D.Desk.given c.loop-desk.desk c.args.channel
    + c.in-Line.ensures.read.count = stays ∙ number-at _ _ _ _ c.in-Line.ensures.read.given in
    record {
      along = along_more (g.S.Steps.shows c.args.steps.now) (g.S.Steps.shows c.loop-desk.steps) (g.S.Steps.shows c.step_line.new.steps)
          c.loop-desk.invariant.back (g.S.Steps.levels c.args.steps.now) (g.S.Steps.fields c.args.steps.now) c.args.channel
          (g.S.Steps.behind c.loop-desk.steps) (g.S.Steps.behind c.step_line.new.steps) c.loop-desk.lines c.next.new.self c.loop-desk.cycle
          c.step_line.new.cycle (g.D.Desk.given c.loop-desk.desk c.args.channel) (g.D.Desk.given c.step_line.new.desk c.args.channel)
          c.in-Line.ensures.read.asked c.in-Line.ensures.read.count c.loop-desk.waiting.bytes c.step_line.new.waiting.bytes (g.D.Desk.told c.args.desk.now)
          (g.D.Desk.told c.loop-desk.desk) (g.D.Desk.told c.next.new.desk) (g.D.Desk.told c.step_line.new.desk)
          c.lines_follow.ensures.goes_on few c.in-Line.ensures.fields c.in-Line.ensures.count c.in-Ok.ensures.cycle c.in-Ok.ensures.most
          c.in-Ok.ensures.behind c.in-Ok.ensures.shown c.in-Ok.ensures.quiet gave c.in-Line.ensures.read.told known inv.along;
      gave = gave_more (g.S.Steps.levels c.args.steps.now) c.lattice.result.now (g.S.Steps.fields c.args.steps.now) c.loop-desk.lines c.next.new.self same
          c.lines_follow.ensures.goes_on_some few c.in-Line.ensures.fields c.in-Line.ensures.count (c.in-Line.ensures.some few) inv.gave;
      back = λ cycles text h. inv.back cycles text (c.in-Ok.ensures.same_shows cycles text h);
      live = c.in-Line.ensures.live;
      fields = c.in-Line.ensures.fields ∙ inv.fields;
      same_levels = c.in-Ok.ensures.same_levels ∙ inv.same_levels;
      same_fields = c.in-Ok.ensures.same_fields ∙ inv.same_fields;
      same_room = c.in-Ok.ensures.same_room ∙ inv.same_room;
      room = omega (arith, inv.room, c.in-Ok.ensures.room);
      few = c.in-Ok.ensures.few;
      large = omega (arith, c.in-Ok.ensures.large, inv.large);
      backed = subst (λ (n : ℕ). Backed c.next.new.self n) (sym stays) (c.in-Line.ensures.backed inv.backed);
      bounded = subst (λ (n : ℕ). n < 2 ^ 32) (sym stays) (c.in-Line.ensures.bounded inv.bounded);
      faults = c.in-Ok.ensures.counts.ok ∙ c.in-Line.ensures.faults ∙ inv.faults;
      lost = c.in-Ok.ensures.lost ∙ c.in-Line.ensures.lost ∙ inv.lost;
      sure = λ s. c.in-Ok.ensures.sure (c.in-Line.ensures.sure (inv.sure s));
    }

pub returns-in-Err-clause-broken : goal.returns-in-Err-clause-broken
returns-in-Err-clause-broken g c =
    let few : c.loop-desk.lines.count < 2 ^ 32 = omega (arith, c.loop-desk.invariant.backed, c.loop-desk.invariant.bounded) in
    let same : c.lattice.result.now ≡ g.S.Steps.levels c.args.steps.now = c.lattice.ensures ∙ c.loop-desk.invariant.same_levels in
    let known : IfSome (g.D.Desk.told c.loop-desk.desk)
    (ReadFor (g.S.Steps.levels c.args.steps.now) c.args.channel Line c.loop-desk.lines c.next.new.self c.in-Line.ensures.read.asked c.in-Line.ensures.read.count)
    = read_known (g.S.Steps.levels c.args.steps.now) c.lattice.result.now c.args.channel Line c.loop-desk.lines c.next.new.self
    c.in-Line.ensures.read.asked c.in-Line.ensures.read.count _ (g.D.Desk.told c.loop-desk.desk) same
    (read_count c.args.channel c.in-Line.ensures.read.count (g.D.Desk.given c.loop-desk.desk) (g.D.Desk.given c.next.new.desk)
    c.in-Line.ensures.read.given) c.in-Line.ensures.read.least (c.in-Line.ensures.by few) in
    cut (g.S.Steps.shows c.args.steps.now) (g.S.Steps.shows c.loop-desk.steps) (g.S.Steps.shows c.step_line.new.steps)
    c.loop-desk.invariant.back (λ cycles text h. c.loop-desk.invariant.back cycles text (c.in-Err.ensures.same_shows cycles text h))
    (g.S.Steps.levels c.args.steps.now) (g.S.Steps.fields c.args.steps.now) c.args.channel (g.S.Steps.behind c.loop-desk.steps)
    c.loop-desk.lines c.next.new.self c.loop-desk.cycle (g.D.Desk.given c.loop-desk.desk c.args.channel) c.in-Line.ensures.read.asked c.in-Line.ensures.read.count c.loop-desk.waiting.bytes
    c.lines_follow.ensures.goes_on few c.in-Line.ensures.fields c.in-Line.ensures.count (g.D.Desk.told c.args.desk.now)
    (g.D.Desk.told c.loop-desk.desk) (g.D.Desk.told c.next.new.desk) (g.D.Desk.told c.step_line.new.desk) c.in-Line.ensures.read.told
    c.in-Err.ensures.cut known c.loop-desk.invariant.along

pub returns-in-Err-clause-faults : goal.returns-in-Err-clause-faults
returns-in-Err-clause-faults g c = c.in-Err.ensures.counts.failed ∙ ap counted (c.in-Line.ensures.faults ∙ c.loop-desk.invariant.faults)

pub returns-in-Err-clause-lost : goal.returns-in-Err-clause-lost
returns-in-Err-clause-lost g c = c.in-Err.ensures.lost ∙ c.in-Line.ensures.lost ∙ c.loop-desk.invariant.lost

pub returns-in-Err-clause-sure : goal.returns-in-Err-clause-sure
returns-in-Err-clause-sure g c = λ s. c.in-Err.ensures.sure (c.in-Line.ensures.sure (c.loop-desk.invariant.sure s))

pub returns-in-Err-clause-cause : goal.returns-in-Err-clause-cause
returns-in-Err-clause-cause g c = λ sure.
    cut_cause (g.S.Steps.shows c.args.steps.now) (g.S.Steps.shows c.loop-desk.steps) (g.S.Steps.levels c.args.steps.now)
    (g.S.Steps.fields c.args.steps.now) c.args.channel (g.S.Steps.behind c.loop-desk.steps) c.loop-desk.lines c.loop-desk.cycle
    (g.D.Desk.given c.loop-desk.desk c.args.channel) c.in-Line.ensures.read.asked c.in-Line.ensures.read.count c.loop-desk.waiting.bytes (c.loop-desk.waiting.bytes ++ c.in-Err.ensures.cut.text)
    c.requires.above (g.D.Desk.told c.args.desk.now) (g.D.Desk.told c.loop-desk.desk) (g.D.Desk.told c.next.new.desk)
    (g.D.Desk.told c.step_line.new.desk) c.in-Line.ensures.read.told c.in-Err.ensures.cut.cut
    (c.in-Err.ensures.cause (c.in-Line.ensures.sure (c.loop-desk.invariant.sure sure))) c.loop-desk.invariant.along

pub returns-in-End-clause-done : goal.returns-in-End-clause-done
returns-in-End-clause-done g c =
    let few : c.loop-desk.lines.count < 2 ^ 32 = omega (arith, c.loop-desk.invariant.backed, c.loop-desk.invariant.bounded) in
    let same : c.lattice.result.now ≡ g.S.Steps.levels c.args.steps.now = c.lattice.ensures ∙ c.loop-desk.invariant.same_levels in
    let tells : Between (g.D.Desk.told c.loop-desk.desk) (g.D.Desk.told c.next.new.desk)
    (λ t n. Tells End (to_come (g.S.Steps.levels c.args.steps.now) c.loop-desk.lines (rest_of t c.args.channel)) c.next.new.self.line
    (to_come (g.S.Steps.levels c.args.steps.now) c.next.new.self (rest_of n c.args.channel)))
    = subst (λ (ls : Levels). Between (g.D.Desk.told c.loop-desk.desk) (g.D.Desk.told c.next.new.desk)
    (λ t n. Tells End (to_come ls c.loop-desk.lines (rest_of t c.args.channel)) c.next.new.self.line
    (to_come ls c.next.new.self (rest_of n c.args.channel)))) same (c.in-End.ensures.lines few) in
    let known : IfSome (g.D.Desk.told c.loop-desk.desk)
    (ReadFor (g.S.Steps.levels c.args.steps.now) c.args.channel End c.loop-desk.lines c.next.new.self c.in-End.ensures.read.asked c.in-End.ensures.read.count)
    = read_known (g.S.Steps.levels c.args.steps.now) c.lattice.result.now c.args.channel End c.loop-desk.lines c.next.new.self
    c.in-End.ensures.read.asked c.in-End.ensures.read.count _ (g.D.Desk.told c.loop-desk.desk) same
    (read_count c.args.channel c.in-End.ensures.read.count (g.D.Desk.given c.loop-desk.desk) (g.D.Desk.given c.next.new.desk)
    c.in-End.ensures.read.given) c.in-End.ensures.read.least (c.in-End.ensures.by few) in
    ended (g.S.Steps.shows c.args.steps.now) (g.S.Steps.shows c.loop-desk.steps) c.loop-desk.invariant.back
    (g.S.Steps.levels c.args.steps.now) (g.S.Steps.fields c.args.steps.now) c.args.channel (g.S.Steps.behind c.loop-desk.steps)
    c.loop-desk.lines c.loop-desk.cycle (g.D.Desk.given c.loop-desk.desk c.args.channel) c.in-End.ensures.read.asked c.in-End.ensures.read.count
    c.loop-desk.waiting.bytes c.next.new.self (g.D.Desk.told c.args.desk.now) (g.D.Desk.told c.loop-desk.desk) (g.D.Desk.told c.next.new.desk)
    c.lines_follow.ensures.ends c.in-End.ensures.read.told tells known c.loop-desk.invariant.along

pub returns-in-End-clause-some : goal.returns-in-End-clause-some
returns-in-End-clause-some g c =
    let inv = c.loop-desk.invariant in
    let few : c.loop-desk.lines.count < 2 ^ 32 = omega (arith, inv.backed, inv.bounded) in
    none_of_some (g.S.Steps.levels c.args.steps.now) c.lattice.result.now (g.S.Steps.fields c.args.steps.now) c.loop-desk.lines
    c.next.new.self (c.lattice.ensures ∙ inv.same_levels)
    c.lines_follow.ensures.ends_some (c.in-End.ensures.some few) inv.gave

pub returns-in-End-clause-faults : goal.returns-in-End-clause-faults
returns-in-End-clause-faults g c = c.in-End.ensures.faults ∙ c.loop-desk.invariant.faults

pub returns-in-End-clause-lost : goal.returns-in-End-clause-lost
returns-in-End-clause-lost g c = c.in-End.ensures.lost ∙ c.loop-desk.invariant.lost

pub returns-in-End-clause-sure : goal.returns-in-End-clause-sure
returns-in-End-clause-sure g c = λ s. c.in-End.ensures.sure (c.loop-desk.invariant.sure s)

pub returns-in-Fault-clause-done : goal.returns-in-Fault-clause-done
returns-in-Fault-clause-done g c =
    let few : c.loop-desk.lines.count < 2 ^ 32 = omega (arith, c.loop-desk.invariant.backed, c.loop-desk.invariant.bounded) in
    let same : c.lattice.result.now ≡ g.S.Steps.levels c.args.steps.now = c.lattice.ensures ∙ c.loop-desk.invariant.same_levels in
    let tells : Between (g.D.Desk.told c.loop-desk.desk) (g.D.Desk.told c.next.new.desk)
    (λ t n. Tells (Fault c.in-Fault.fault) (to_come (g.S.Steps.levels c.args.steps.now) c.loop-desk.lines (rest_of t c.args.channel))
    c.next.new.self.line (to_come (g.S.Steps.levels c.args.steps.now) c.next.new.self (rest_of n c.args.channel)))
    = subst (λ (ls : Levels). Between (g.D.Desk.told c.loop-desk.desk) (g.D.Desk.told c.next.new.desk)
    (λ t n. Tells (Fault c.in-Fault.fault) (to_come ls c.loop-desk.lines (rest_of t c.args.channel)) c.next.new.self.line
    (to_come ls c.next.new.self (rest_of n c.args.channel)))) same (c.in-Fault.ensures.lines few) in
    let known : IfSome (g.D.Desk.told c.loop-desk.desk)
    (ReadFor (g.S.Steps.levels c.args.steps.now) c.args.channel (Fault c.in-Fault.fault) c.loop-desk.lines c.next.new.self c.in-Fault.ensures.read.asked c.in-Fault.ensures.read.count)
    = read_known (g.S.Steps.levels c.args.steps.now) c.lattice.result.now c.args.channel (Fault c.in-Fault.fault) c.loop-desk.lines
    c.next.new.self c.in-Fault.ensures.read.asked c.in-Fault.ensures.read.count _ (g.D.Desk.told c.loop-desk.desk) same
    (read_count c.args.channel c.in-Fault.ensures.read.count (g.D.Desk.given c.loop-desk.desk) (g.D.Desk.given c.next.new.desk)
    c.in-Fault.ensures.read.given) c.in-Fault.ensures.read.least (c.in-Fault.ensures.by few) in
    refused (g.S.Steps.shows c.args.steps.now) (g.S.Steps.shows c.loop-desk.steps) c.loop-desk.invariant.back
    (g.S.Steps.levels c.args.steps.now) (g.S.Steps.fields c.args.steps.now) c.args.channel (g.S.Steps.behind c.loop-desk.steps)
    c.loop-desk.lines c.loop-desk.cycle (g.D.Desk.given c.loop-desk.desk c.args.channel) c.in-Fault.ensures.read.asked c.in-Fault.ensures.read.count
    c.loop-desk.waiting.bytes c.next.new.self c.in-Fault.fault (g.D.Desk.told c.args.desk.now) (g.D.Desk.told c.loop-desk.desk) (g.D.Desk.told c.next.new.desk)
    c.lines_follow.ensures.stops c.in-Fault.ensures.read.told tells known c.loop-desk.invariant.along

pub returns-in-Fault-clause-some : goal.returns-in-Fault-clause-some
returns-in-Fault-clause-some g c =
    let inv = c.loop-desk.invariant in
    let few : c.loop-desk.lines.count < 2 ^ 32 = omega (arith, inv.backed, inv.bounded) in
    fault_of_some (g.S.Steps.levels c.args.steps.now) c.lattice.result.now (g.S.Steps.fields c.args.steps.now) c.loop-desk.lines
    c.next.new.self (c.lattice.ensures ∙ inv.same_levels)
    c.in-Fault.fault c.lines_follow.ensures.stops_some (c.in-Fault.ensures.some few) inv.gave

pub returns-in-Fault-clause-faults : goal.returns-in-Fault-clause-faults
returns-in-Fault-clause-faults g c = c.in-Fault.ensures.faults ∙ c.loop-desk.invariant.faults

pub returns-in-Fault-clause-lost : goal.returns-in-Fault-clause-lost
returns-in-Fault-clause-lost g c = c.in-Fault.ensures.lost ∙ c.loop-desk.invariant.lost

pub returns-in-Fault-clause-sure : goal.returns-in-Fault-clause-sure
returns-in-Fault-clause-sure g c = λ s. c.in-Fault.ensures.sure (c.loop-desk.invariant.sure s)

pub returns-in-Failed-clause-broken : goal.returns-in-Failed-clause-broken
returns-in-Failed-clause-broken g c =
    let wants : IfSome (g.D.Desk.told c.loop-desk.desk) (λ m. IsDecided (c.loop-desk.lines.pending ++ take c.in-Failed.ensures.read.count (rest_of m c.args.channel)) → ⊥)
    = subst (λ (n : ℕ). IfSome (g.D.Desk.told c.loop-desk.desk) (λ m. IsDecided (c.loop-desk.lines.pending ++ take n (rest_of m c.args.channel)) → ⊥))
    (read_count c.args.channel c.in-Failed.ensures.read.count (g.D.Desk.given c.loop-desk.desk) (g.D.Desk.given c.next.new.desk)
    c.in-Failed.ensures.read.given) (c.in-Failed.ensures.wanted (search rules)) in
    broken (g.S.Steps.shows c.args.steps.now) (g.S.Steps.shows c.loop-desk.steps) c.loop-desk.invariant.back
    (g.S.Steps.levels c.args.steps.now) (g.S.Steps.fields c.args.steps.now) c.args.channel (g.S.Steps.behind c.loop-desk.steps)
    c.loop-desk.lines c.loop-desk.cycle (g.D.Desk.given c.loop-desk.desk c.args.channel) c.in-Failed.ensures.read.asked c.in-Failed.ensures.read.count
    c.loop-desk.waiting.bytes c.requires.above (g.D.Desk.told c.args.desk.now) (g.D.Desk.told c.loop-desk.desk) (g.D.Desk.told c.next.new.desk)
    c.in-Failed.ensures.read.told wants c.in-Failed.ensures.read.least c.loop-desk.invariant.along

pub returns-in-Failed-clause-faults : goal.returns-in-Failed-clause-faults
returns-in-Failed-clause-faults g c = c.in-Failed.ensures.faults ∙ ap counted c.loop-desk.invariant.faults

pub returns-in-Failed-clause-lost : goal.returns-in-Failed-clause-lost
returns-in-Failed-clause-lost g c = c.in-Failed.ensures.lost ∙ c.loop-desk.invariant.lost

pub returns-in-Failed-clause-sure : goal.returns-in-Failed-clause-sure
returns-in-Failed-clause-sure g c = λ s. c.in-Failed.ensures.sure (c.loop-desk.invariant.sure s)

pub returns-in-Failed-clause-cause : goal.returns-in-Failed-clause-cause
returns-in-Failed-clause-cause g c = λ sure.
    let wants : IfSome (g.D.Desk.told c.loop-desk.desk) (λ m. IsDecided (c.loop-desk.lines.pending ++ take c.in-Failed.ensures.read.count (rest_of m c.args.channel)) → ⊥)
    = subst (λ (n : ℕ). IfSome (g.D.Desk.told c.loop-desk.desk) (λ m. IsDecided (c.loop-desk.lines.pending ++ take n (rest_of m c.args.channel)) → ⊥))
    (read_count c.args.channel c.in-Failed.ensures.read.count (g.D.Desk.given c.loop-desk.desk) (g.D.Desk.given c.next.new.desk)
    c.in-Failed.ensures.read.given) (c.in-Failed.ensures.wanted (search rules)) in
    broken_cause (g.S.Steps.shows c.args.steps.now) (g.S.Steps.shows c.loop-desk.steps) c.loop-desk.invariant.back
    (g.S.Steps.levels c.args.steps.now) (g.S.Steps.fields c.args.steps.now) c.args.channel (g.S.Steps.behind c.loop-desk.steps)
    c.loop-desk.lines c.loop-desk.cycle (g.D.Desk.given c.loop-desk.desk c.args.channel) c.in-Failed.ensures.read.asked c.in-Failed.ensures.read.count c.loop-desk.waiting.bytes
    (g.D.Desk.given c.next.new.desk c.args.channel) (g.D.Desk.told c.args.desk.now) (g.D.Desk.told c.loop-desk.desk) (g.D.Desk.told c.next.new.desk) c.loop-desk.invariant.bounded
    (number-at _ _ _ _ c.in-Failed.ensures.read.given) (c.in-Failed.ensures.bounded c.loop-desk.invariant.bounded)
    c.in-Failed.ensures.read.told wants (c.in-Failed.ensures.cause (search rules) (c.loop-desk.invariant.sure sure)) c.loop-desk.invariant.along
