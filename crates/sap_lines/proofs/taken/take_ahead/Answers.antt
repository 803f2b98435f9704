use Rattle.sap_lemmas.proofs.Common.{rules, ◌≡◌, ℕ, List, ◌++◌, Ok, Result, length, take, drop, sym, ap, ◌∙◌, subst, take-append_seam}
use Rattle.sap_meaning.specs.Cycle.{Tagged as Given}
use Rattle.sap_stream.specs.Spans.{Span}
use Rattle.sap_stim.specs.declared.fault.StimCode.{StimCode}
use Rattle.sap_stim.specs.Line.{with_inputs}
use Rattle.sap_lines.proofs.FirstLine.{ahead_begins, ahead_decided, ahead_of}
use Rattle.sap_lines.proofs.taken.take_ahead.Goals as goal

-- a slice that was lent from a vector, as the vector has it back
whole_back : (new items : List Given) (k : ℕ) → length new ≡ length items → k ≡ length items → take k (new ++ drop (length new) items) ≡ new
whole_back new items k same whole =
    subst (λ (n : ℕ). take n (new ++ drop (length new) items) ≡ new) (same ∙ sym whole) (take-append_seam new (drop (length new) items))

-- what a line gives that has nothing wrong with it
read_given : (read : Result ℕ StimCode) (cycles : ℕ) (new : List Given) (line : Result Span StimCode) → read ≡ Ok cycles
    → with_inputs read new ≡ line → with_inputs (Ok cycles) new ≡ line
read_given read cycles new line is given = ap (λ (r : Result ℕ StimCode). with_inputs r new) (sym is) ∙ given

pub returns-clause-tells : goal.returns-clause-tells
returns-clause-tells c = λ count rest.
    let new = c.line_ahead.new.inputs in
    let items = c.inputs.inside.values.items in
    let places : length new ≡ length items = c.line_ahead.ensures.places ∙ sym c.requires.places ∙ sym (ap length c.inputs.view_is) in
    let whole : take c.inputs.inside.values.len (new ++ drop (length new) items) ≡ new = whole_back _ _ _ places (search rules) in
    let given = read_given c.in_ok-read.read c.in-Ok.cycles new _ c.in-Ok.is c.in_ok-read.ensures.given in
    rw whole (ahead_of c.args.lattice.now c.args.fields.now count c.in_ok-read.len c.args.held.now c.as_slice.result.now rest c.skip.new.self
    _ c.as_slice.ensures c.in_ok-read.ensures.end c.in_ok-read.ensures.within given c.skip.ensures)

pub returns-clause-takes : goal.returns-clause-takes
returns-clause-takes c =
    let new = c.line_ahead.new.inputs in
    let items = c.inputs.inside.values.items in
    let places : length new ≡ length items = c.line_ahead.ensures.places ∙ sym c.requires.places ∙ sym (ap length c.inputs.view_is) in
    let whole : take c.inputs.inside.values.len (new ++ drop (length new) items) ≡ new = whole_back _ _ _ places (search rules) in
    let given = read_given c.in_ok-read.read c.in-Ok.cycles new _ c.in-Ok.is c.in_ok-read.ensures.given in
    rw whole (ahead_begins c.args.lattice.now c.args.fields.now c.in_ok-read.len c.args.held.now c.as_slice.result.now c.skip.new.self
    _ c.as_slice.ensures c.in_ok-read.ensures.end c.in_ok-read.ensures.within given c.skip.ensures)

pub returns-clause-decided : goal.returns-clause-decided
returns-clause-decided c =
    ahead_decided c.args.held.now c.as_slice.result.now c.in_ok-read.len c.as_slice.ensures c.in_ok-read.ensures.end c.in_ok-read.ensures.within
