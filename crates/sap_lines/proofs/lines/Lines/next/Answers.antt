use Rattle.sap_lemmas.proofs.Common.{ℕ, ◌-◌, List, [], ◌++◌, take, refl, sym, ap, ◌∙◌, subst, IfSome}
use Rattle.sap_desk.specs.Desk.{rest_of}
use Rattle.sap_meaning.specs.Cycle.{Tagged as Given}
use Rattle.sap_stream.specs.Spans.{Span}
use Rattle.sap_lines.specs.Answers.{ReadOn}
use Rattle.sap_lines.specs.Fetched.{IsDecided}
use Rattle.sap_lines.specs.Reader.{Reader}
use Rattle.sap_lines.specs.declared.next.Next.TheVariants.{Failed, Line}
use Rattle.sap_lines.proofs.Answered.{answered_on, failed_on, if_told, next_by, next_read, next_told, still_decided, still_takes, still_tells, takes_read, takes_some}
use Rattle.sap_lines.proofs.Reading.{held_read_so, read_count, wanted_so}
use Rattle.sap_lines.proofs.lines.Lines.next.Goals as goal

abbrev line_so : (inputs : List Given) (cycles : ℕ) → Span
line_so inputs cycles = record { inputs = inputs; count = cycles }

-- a line that is taken in one look

pub returns-in-Some-clause-lines : goal.returns-in-Some-clause-lines
returns-in-Some-clause-lines g c =
    next_told c.args.lattice.now c.as_slice.result.now c.self.inside.fields.items c.args.channel c.self.inside.count c.saturating_add-self-inside.result
    c.self.inside.held c.fetch.new.held c.take_ahead.new.held
    _ (line_so c.take_ahead.new.inputs c.in-Some.cycles) c.self.inside.live c.self.inside.live Line _ _ _ _ c.args.self.now
    c.self.view_is c.as_slice.ensures.value c.saturating_add-self-inside.ensures
    c.in-Ok.ensures.more c.in-Ok.ensures.decided (λ rest decided small. c.in-Some.ensures.tells c.self.inside.count rest)

pub returns-in-Some-clause-some : goal.returns-in-Some-clause-some
returns-in-Some-clause-some g c = λ small.
    let behind = c.fetch.ensures.behind in (
      behind.0,
      next_by c.args.lattice.now c.as_slice.result.now c.self.inside.fields.items c.self.inside.count c.saturating_add-self-inside.result c.self.inside.held
          behind.0 c.fetch.new.held c.take_ahead.new.held
          _ (line_so c.take_ahead.new.inputs c.in-Some.cycles) c.self.inside.live c.self.inside.live Line c.args.self.now
          c.self.view_is c.as_slice.ensures.value c.saturating_add-self-inside.ensures
          behind.1 (λ _. c.in-Some.ensures.decided) (λ rest decided small. c.in-Some.ensures.tells c.self.inside.count rest) small,
    )

pub returns-in-Some-clause-by : goal.returns-in-Some-clause-by
returns-in-Some-clause-by g c = λ small.
    let told = g.D.Desk.told c.args.desk.now in
    let read : ℕ = g.D.Desk.given c.fetch.new.desk c.args.channel - g.D.Desk.given c.args.desk.now c.args.channel in
    next_read c.args.lattice.now c.as_slice.result.now c.self.inside.fields.items c.args.channel read c.self.inside.count c.saturating_add-self-inside.result
    c.self.inside.held c.fetch.new.held c.take_ahead.new.held
    _ (line_so c.take_ahead.new.inputs c.in-Some.cycles) c.self.inside.live c.self.inside.live Line c.args.self.now told
    c.self.view_is c.as_slice.ensures.value c.saturating_add-self-inside.ensures
    (held_read_so c.args.channel c.self.inside.held c.fetch.new.held told (g.D.Desk.told c.fetch.new.desk) (g.D.Desk.given c.args.desk.now)
    (g.D.Desk.given c.fetch.new.desk) c.in-Ok.ensures.more)
    (λ _. c.in-Some.ensures.decided) (λ rest decided small. c.in-Some.ensures.tells c.self.inside.count rest) small

pub returns-in-Some-clause-takes : goal.returns-in-Some-clause-takes
returns-in-Some-clause-takes g c = λ _.
    let told = g.D.Desk.told c.args.desk.now in
    let read : ℕ = g.D.Desk.given c.fetch.new.desk c.args.channel - g.D.Desk.given c.args.desk.now c.args.channel in
    takes_read c.args.lattice.now c.as_slice.result.now c.self.inside.held c.fetch.new.held c.take_ahead.new.held (line_so c.take_ahead.new.inputs c.in-Some.cycles)
    c.args.self.now (c.as_slice.ensures.value ∙ ap (λ (r : Reader). r.fields) c.self.view_is) (ap (λ (r : Reader). r.pending) c.self.view_is)
    c.in-Some.ensures.takes c.args.channel read told
    (held_read_so c.args.channel c.self.inside.held c.fetch.new.held told (g.D.Desk.told c.fetch.new.desk) (g.D.Desk.given c.args.desk.now)
    (g.D.Desk.given c.fetch.new.desk) c.in-Ok.ensures.more)

pub returns-in-Some-clause-takes_some : goal.returns-in-Some-clause-takes_some
returns-in-Some-clause-takes_some g c = λ _.
    takes_some c.args.lattice.now c.as_slice.result.now c.self.inside.held c.fetch.new.held c.take_ahead.new.held (line_so c.take_ahead.new.inputs c.in-Some.cycles)
    c.args.self.now (c.as_slice.ensures.value ∙ ap (λ (r : Reader). r.fields) c.self.view_is) (ap (λ (r : Reader). r.pending) c.self.view_is)
    c.in-Some.ensures.takes c.args.channel (g.D.Desk.told c.args.desk.now) (g.D.Desk.told c.fetch.new.desk) (g.D.Desk.given c.args.desk.now)
    (g.D.Desk.given c.fetch.new.desk) c.in-Ok.ensures.more c.fetch.ensures.behind.0 c.fetch.ensures.behind.1

-- another answer

pub returns-in_default-clause-lines : goal.returns-in_default-clause-lines
returns-in_default-clause-lines g c =
    next_told c.args.lattice.now c.as_slice-in-Ok.result.now c.self.inside.fields.items c.args.channel c.self.inside.count c.keep.new.count
    c.self.inside.held c.fetch.new.held c.take_line-next.new.held
    _ (line_so c.take_line-next.new.inputs c.take_line-next.new.cycles) c.self.inside.live c.keep.new.live c.take_line-next.result _ _ _ _ c.args.self.now
    c.self.view_is c.as_slice-in-Ok.ensures.value c.keep.ensures.count
    c.in-Ok.ensures.more c.in-Ok.ensures.decided
    (still_tells c.args.lattice.now c.as_slice-in-Ok.result.now c.self.inside.count c.fetch.new.held c.take_ahead.new.held c.take_line-next.new.held _ c.take_line-next.result
    (c.take_ahead.ensures.stands c.in_default.is) c.take_line-next.ensures.tells)

pub returns-in_default-clause-some : goal.returns-in_default-clause-some
returns-in_default-clause-some g c = λ small.
    let behind = c.fetch.ensures.behind in
    let still = c.take_ahead.ensures.stands c.in_default.is in (
      behind.0,
      next_by c.args.lattice.now c.as_slice-in-Ok.result.now c.self.inside.fields.items c.self.inside.count c.keep.new.count c.self.inside.held
          behind.0 c.fetch.new.held c.take_line-next.new.held
          _ (line_so c.take_line-next.new.inputs c.take_line-next.new.cycles) c.self.inside.live c.keep.new.live c.take_line-next.result c.args.self.now
          c.self.view_is c.as_slice-in-Ok.ensures.value c.keep.ensures.count behind.1
          (still_decided c.fetch.new.held c.take_ahead.new.held c.take_line-next.result still c.take_line-next.ensures.decided)
          (still_tells c.args.lattice.now c.as_slice-in-Ok.result.now c.self.inside.count c.fetch.new.held c.take_ahead.new.held c.take_line-next.new.held
          _ c.take_line-next.result still c.take_line-next.ensures.tells)
          small,
    )

pub returns-in_default-clause-by : goal.returns-in_default-clause-by
returns-in_default-clause-by g c = λ small.
    let told = g.D.Desk.told c.args.desk.now in
    let read : ℕ = g.D.Desk.given c.fetch.new.desk c.args.channel - g.D.Desk.given c.args.desk.now c.args.channel in
    let still = c.take_ahead.ensures.stands c.in_default.is in
    next_read c.args.lattice.now c.as_slice-in-Ok.result.now c.self.inside.fields.items c.args.channel read c.self.inside.count c.keep.new.count
    c.self.inside.held c.fetch.new.held c.take_line-next.new.held
    _ (line_so c.take_line-next.new.inputs c.take_line-next.new.cycles) c.self.inside.live c.keep.new.live c.take_line-next.result c.args.self.now told
    c.self.view_is c.as_slice-in-Ok.ensures.value c.keep.ensures.count
    (held_read_so c.args.channel c.self.inside.held c.fetch.new.held told (g.D.Desk.told c.fetch.new.desk) (g.D.Desk.given c.args.desk.now)
    (g.D.Desk.given c.fetch.new.desk) c.in-Ok.ensures.more)
    (still_decided c.fetch.new.held c.take_ahead.new.held c.take_line-next.result still c.take_line-next.ensures.decided)
    (still_tells c.args.lattice.now c.as_slice-in-Ok.result.now c.self.inside.count c.fetch.new.held c.take_ahead.new.held c.take_line-next.new.held
    _ c.take_line-next.result still c.take_line-next.ensures.tells)
    small

pub returns-in_default-clause-takes : goal.returns-in_default-clause-takes
returns-in_default-clause-takes g c = λ given.
    let told = g.D.Desk.told c.args.desk.now in
    let read : ℕ = g.D.Desk.given c.fetch.new.desk c.args.channel - g.D.Desk.given c.args.desk.now c.args.channel in
    let line : Span = line_so c.take_line-next.new.inputs c.take_line-next.new.cycles in
    takes_read c.args.lattice.now c.as_slice-in-Ok.result.now c.self.inside.held c.fetch.new.held c.take_line-next.new.held line
    c.args.self.now (c.as_slice-in-Ok.ensures.value ∙ ap (λ (r : Reader). r.fields) c.self.view_is) (ap (λ (r : Reader). r.pending) c.self.view_is)
    (still_takes c.args.lattice.now c.as_slice-in-Ok.result.now c.fetch.new.held c.take_ahead.new.held c.take_line-next.new.held line c.take_line-next.result
    (c.take_ahead.ensures.stands c.in_default.is) c.take_line-next.ensures.takes given) c.args.channel read told
    (held_read_so c.args.channel c.self.inside.held c.fetch.new.held told (g.D.Desk.told c.fetch.new.desk) (g.D.Desk.given c.args.desk.now)
    (g.D.Desk.given c.fetch.new.desk) c.in-Ok.ensures.more)

pub returns-in_default-clause-takes_some : goal.returns-in_default-clause-takes_some
returns-in_default-clause-takes_some g c = λ given.
    let line : Span = line_so c.take_line-next.new.inputs c.take_line-next.new.cycles in
    takes_some c.args.lattice.now c.as_slice-in-Ok.result.now c.self.inside.held c.fetch.new.held c.take_line-next.new.held line
    c.args.self.now (c.as_slice-in-Ok.ensures.value ∙ ap (λ (r : Reader). r.fields) c.self.view_is) (ap (λ (r : Reader). r.pending) c.self.view_is)
    (still_takes c.args.lattice.now c.as_slice-in-Ok.result.now c.fetch.new.held c.take_ahead.new.held c.take_line-next.new.held line c.take_line-next.result
    (c.take_ahead.ensures.stands c.in_default.is) c.take_line-next.ensures.takes given) c.args.channel (g.D.Desk.told c.args.desk.now)
    (g.D.Desk.told c.fetch.new.desk) (g.D.Desk.given c.args.desk.now) (g.D.Desk.given c.fetch.new.desk) c.in-Ok.ensures.more
    c.fetch.ensures.behind.0 c.fetch.ensures.behind.1

pub returns-in-Err-clause-by : goal.returns-in-Err-clause-by
returns-in-Err-clause-by g c = λ _. if_told (g.D.Desk.told c.args.desk.now) _ (λ t rest _. tt)

pub returns-in-Err-clause-some : goal.returns-in-Err-clause-some
returns-in-Err-clause-some g c = λ _. ([], λ rest _. tt)

pub returns-in-Err-clause-wanted : goal.returns-in-Err-clause-wanted
returns-in-Err-clause-wanted g c = λ _.
    let more = c.in-Err.ensures.failed in
    let told = g.D.Desk.told c.args.desk.now in
    let count = g.D.Desk.given c.fetch.new.desk c.args.channel - g.D.Desk.given c.args.desk.now c.args.channel in
    subst (λ (r : Reader). IfSome told (λ t. IsDecided (r.pending ++ take count (rest_of t c.args.channel)) → ⊥)) c.self.view_is
    (subst (λ (n : ℕ). IfSome told (λ t. IsDecided (c.self.inside.held ++ take n (rest_of t c.args.channel)) → ⊥))
    (sym (read_count c.args.channel more.count (g.D.Desk.given c.args.desk.now) (g.D.Desk.given c.fetch.new.desk) more.given))
    (wanted_so c.args.channel more.count c.self.inside.held c.fetch.new.held told more.size more.bytes c.in-Err.ensures.wanted))

-- how much was read, and where the last piece was asked for

pub returns-in-Some-clause-read : goal.returns-in-Some-clause-read
returns-in-Some-clause-read g c =
    subst (λ (r : Reader). ReadOn Line c.args.channel r.pending (g.D.Desk.told c.args.desk.now) (g.D.Desk.told c.fetch.new.desk)
    (g.D.Desk.given c.args.desk.now) (g.D.Desk.given c.fetch.new.desk)) c.self.view_is
    (answered_on Line c.args.channel c.self.inside.held c.fetch.new.held (g.D.Desk.told c.args.desk.now) (g.D.Desk.told c.fetch.new.desk)
    (g.D.Desk.given c.args.desk.now) (g.D.Desk.given c.fetch.new.desk) refl c.in-Ok.ensures.more)

pub returns-in_default-clause-read : goal.returns-in_default-clause-read
returns-in_default-clause-read g c =
    subst (λ (r : Reader). ReadOn c.take_line-next.result c.args.channel r.pending (g.D.Desk.told c.args.desk.now) (g.D.Desk.told c.fetch.new.desk)
    (g.D.Desk.given c.args.desk.now) (g.D.Desk.given c.fetch.new.desk)) c.self.view_is
    (answered_on c.take_line-next.result c.args.channel c.self.inside.held c.fetch.new.held (g.D.Desk.told c.args.desk.now) (g.D.Desk.told c.fetch.new.desk)
    (g.D.Desk.given c.args.desk.now) (g.D.Desk.given c.fetch.new.desk) c.take_line-next.ensures.answered c.in-Ok.ensures.more)

pub returns-in-Err-clause-read : goal.returns-in-Err-clause-read
returns-in-Err-clause-read g c =
    subst (λ (r : Reader). ReadOn Failed c.args.channel r.pending (g.D.Desk.told c.args.desk.now) (g.D.Desk.told c.fetch.new.desk)
    (g.D.Desk.given c.args.desk.now) (g.D.Desk.given c.fetch.new.desk)) c.self.view_is
    (failed_on c.args.channel c.self.inside.held c.fetch.new.held (g.D.Desk.told c.args.desk.now) (g.D.Desk.told c.fetch.new.desk)
    (g.D.Desk.given c.args.desk.now) (g.D.Desk.given c.fetch.new.desk) c.in-Err.ensures.failed c.in-Err.ensures.wanted)
