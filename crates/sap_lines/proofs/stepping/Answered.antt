-- The last answer of a reader, or a failed call: what comes of all lines.
use Rattle.sap_lemmas.proofs.Common.{◌≡◌, ℕ, ◌+◌, ◌-◌, ◌<◌, ◌≤◌, List, [], ◌∷◌, ◌++◌, length, replicate, take, drop, append_assoc, refl, sym, ◌∙◌, ap, subst, inl, inr, ◌⊎◌, arith, length-drop, ◌^◌, Bool, true, false, cond, eqb, codes, Option, Some, None, IfSome, option_map, append-nil, take-append-drop}
use Rattle.std.specs.Prelude.{IsSomeAnd}
use Rattle.sap_stream.proofs.SpansLemmas.{cycles_more}
use Rattle.sap_desk.proofs.DeskLemmas.{name_read_on}
use Rattle.sap_desk.specs.Desk.{Told, IsReading, IsWriting, added, blame_at, blamed, name_if_reading, read_on, read_on_use, rest_of}
use Rattle.sap_desk.specs.Cause.{FailsToRead}
use Rattle.sap_desk.specs.Whole.{Between, CutOutput}
use Rattle.sap_desk.proofs.Steps.{at_number-same, last_asked, other_number, rest-read_on}
use Rattle.sap_desk.proofs.WholeFiles.{blame_is}
use Rattle.sap_lattice.specs.Levels.{Levels}
use Rattle.sap_meaning.specs.Cycle.{Tagged as Given}
use Rattle.sap_stream.specs.Spans.{Span, cycles_of}
use Rattle.sap_stim.specs.declared.fault.StimFault.{StimFault}
use Rattle.sap_stim.specs.declared.field.Field.{Field}
use Rattle.sap_stim.specs.declared.stimulus.Parsed.{Parsed}
use Rattle.sap_stim.specs.Stimulus.{stimulus_of}
use Rattle.sap_lines.specs.declared.next.Next.{Next}
use Rattle.sap_lines.specs.declared.next.Next.TheVariants.{Line, End, Fault}
use Rattle.sap_lines.specs.Fetched.{IsDecided, ReadsLeast}
use Rattle.sap_lines.specs.declared.stepping.stopped.FailedCall.TheVariants.{Input, Output}
use Rattle.sap_lines.specs.Answers.{Tells, count_after}
use Rattle.sap_lines.specs.Follows.{Ends, Follows, GoesOn, Stops, parsed_as}
use Rattle.sap_lines.specs.Reader.{Reader, to_come}
use Rattle.sap_lines.specs.Stepping.Cycles.{Adds, CyclesCut}
use Rattle.sap_lines.specs.Stepping.Followed.{Broken, FailsFor, Followed, GoesTooFar, IsPartShown, last_place}
use Rattle.sap_lines.specs.Stepping.Pace.{IsNeeded, IsTooLong, Shows, printed_fault, printed_text}
use Rattle.sap_lines.proofs.stepping.Between.{knowing, knowing_two, known_two, through_known}
use Rattle.sap_lines.proofs.stepping.Going.{going_blamed, going_more, going_read, least_none, output_use, reading_on, use_now}
use Rattle.sap_lines.proofs.stepping.Pace.{all_written, not_told, written_more}
use Rattle.sap_lines.proofs.stepping.Cycles.{cycles_cut}
use Rattle.sap_lines.proofs.stepping.Along.{Along, ReadFor, SoFar, front_is, left_is, line_follows, needed_on, read_on_so, written_on}

-- a read failed where it brought what was given to its bound

fails_unblamed : (b : Bool) (channel given size : ℕ) (name : List ℕ) (t : Told) → FailsToRead channel given size (cond b t (blamed name t)) → FailsToRead channel given size t
fails_unblamed true channel given size name t f = f
fails_unblamed false channel given size name t f = record { why = f.why }

-- so then does all that is left, and no more than a piece lacks
record Reaches (given count : ℕ) (left : List ℕ) : Type 0 where
  all : 2 ^ 32 ≤ given + length left
  near : 2 ^ 32 ≤ given + count + 4096

fails_before : (channel : ℕ) (asked : Option ℕ) (count given now : ℕ) (name : List ℕ) (t : Told) → now ≡ given + count → now < 2 ^ 32
    → FailsToRead channel now 4096 (blame_at channel name (read_on channel asked count t)) → (IsReading (t.uses channel) → ⊥) ⊎ Reaches given count (rest_of t channel)
fails_before channel asked count given now name t gave bound fails =
    let f : FailsToRead channel now 4096 (read_on channel asked count t)
    = fails_unblamed (eqb channel 2) channel now 4096 (cond (eqb channel 1) (codes "output") name) (read_on channel asked count t) fails in
    elim f.why [
      | inl closed_now ↦
          inl (λ reading. closed_now (subst IsReading (sym (at_number-same channel (read_on_use asked count (t.uses channel)) t.uses)) (reading_on asked count (t.uses channel) reading)))
      | inr full ↦
          let left : length (rest_of (read_on channel asked count t) channel) ≡ length (drop count (rest_of t channel)) = ap length (rest-read_on channel asked count t) in
          inr (record {
            all = omega (arith, left, full, gave, bound, length-drop count (rest_of t channel));
            near = omega (arith, full, gave);
          })
    ]

known_before : (f : Told → Told) (F : Told → Type 0) (mid one : Option Told) → one ≡ option_map f mid → IfSome one F → IfSome mid (λ m. F (f m))
known_before f F None one is h = tt
known_before f F (Some m) one is h = let P : Option Told → Type 0 = λ o. IfSome o F in subst P is h

module _ (base shows : Shows) (back : (lines : List (List Given)) (text : List ℕ) → shows lines text → base lines text)
    (ls : Levels) (fs : List Field) (channel : ℕ) (stands : List (List Given) → Type 0) (r : Reader) (cycle given : ℕ) (asked : Option ℕ) (k : ℕ) (waiting : List ℕ) where
  -- all lines were given, and what the steps in their cycles show is written, but what waits
  module _ (s : Reader) (next : Next) (lines : List Span) (fault : Option StimFault) (quiet : IsDecided r.pending ⊎ (waiting ≡ [])) (t m : Told)
      (so : SoFar base shows ls fs channel given lines r waiting t m) (read : ReadFor ls channel next r s asked k m) where
    closed_told : stimulus_of ls fs (rest_of t channel) ≡ parsed_as (cycles_of lines) fault
        → stimulus_of ls fs (take (given + k) (rest_of t channel)) ≡ parsed_as (cycles_of lines) fault
        → Followed base ls fs channel fault waiting t (read_on channel asked k m)
    closed_told is enough = record {
      asked = last_asked so.asked given asked;
      count = given + k;
      gained = so.gained;
      going = going_read channel so.asked given so.gained t m so.going asked k (least_none channel r.pending asked k m read.least);
      read = read_on_so base shows back ls fs channel given asked k lines r s waiting quiet t m so read.least;
      is_fault = sym (ap (λ (p : Parsed). p.fault) is);
      shown = subst (λ (p : Parsed). base p.stream (so.gained ++ waiting)) (sym is) (back (cycles_of lines) (so.gained ++ waiting) so.shown);
      enough = enough ∙ sym is;
      needed = needed_on base shows back ls fs channel given asked k lines r s waiting quiet t m so read.least;
      written = written_on base shows back ls fs channel given asked k lines r s waiting quiet t m so read.least;
      blame = so.blame;
    }

    -- what all bytes give, and what those give that were read
    all_give : (law : (bytes rest : List ℕ) → Follows ls fs bytes lines r rest → Tells next (to_come ls r rest) s.line (to_come ls s [])
        → stimulus_of ls fs bytes ≡ parsed_as (cycles_of lines) fault)
        → stimulus_of ls fs (take (given + k) (rest_of t channel)) ≡ parsed_as (cycles_of lines) fault
    all_give law =
        let piece : List ℕ = take k (rest_of m channel) in
        ap (stimulus_of ls fs) (sym (front_is base shows back ls fs channel given asked k lines r s waiting quiet t m so [] ∙ append-nil (take (given + k) (rest_of t channel))))
        ∙ law (take given (rest_of t channel) ++ (piece ++ [])) (piece ++ []) (so.follows (piece ++ [])) (read.by [] (inr refl))

  -- what a reader's lines are behind all that there was
  follows_all : (lines : List Span) (t m : Told) (so : SoFar base shows ls fs channel given lines r waiting t m) → Follows ls fs (rest_of t channel) lines r (rest_of m channel)
  follows_all lines t m so =
      let left = left_is channel so.asked given so.gained t m so.going in
      subst (λ (bytes : List ℕ). Follows ls fs bytes lines r (rest_of m channel))
      (ap (λ (l : List ℕ). take given (rest_of t channel) ++ l) left ∙ take-append-drop given (rest_of t channel)) (so.follows (rest_of m channel))

  pub ended : (s : Reader) (before mid one : Option Told) → Ends → one ≡ option_map (read_on channel asked k) mid
      → Between mid one (λ t n. Tells End (to_come ls r (rest_of t channel)) s.line (to_come ls s (rest_of n channel)))
      → IfSome mid (ReadFor ls channel End r s asked k) → Along base shows ls fs channel stands r cycle given waiting before mid
      → Between before one (Followed base ls fs channel None waiting)
  ended s before mid one law moved_on tells read a =
      through_known (SoFar base shows ls fs channel given a.lines r waiting) (Followed base ls fs channel None waiting) (read_on channel asked k)
      (λ t n. Tells End (to_come ls r (rest_of t channel)) s.line (to_come ls s (rest_of n channel))) (ReadFor ls channel End r s asked k) before mid one moved_on
      (λ t m so told known. closed_told s End a.lines None a.quiet t m so known
      (law ls fs (rest_of t channel) a.lines r (rest_of m channel) s.line (to_come ls s (rest_of (read_on channel asked k m) channel)) (follows_all a.lines t m so) told)
      (all_give s End a.lines None a.quiet t m so known (λ bytes rest follows is. law ls fs bytes a.lines r rest s.line (to_come ls s []) follows is))) a.told tells read

  pub refused : (s : Reader) (fault : StimFault) (before mid one : Option Told) → Stops → one ≡ option_map (read_on channel asked k) mid
      → Between mid one (λ t n. Tells (Fault fault) (to_come ls r (rest_of t channel)) s.line (to_come ls s (rest_of n channel)))
      → IfSome mid (ReadFor ls channel (Fault fault) r s asked k) → Along base shows ls fs channel stands r cycle given waiting before mid
      → Between before one (Followed base ls fs channel (Some fault) waiting)
  refused s fault before mid one law moved_on tells read a =
      through_known (SoFar base shows ls fs channel given a.lines r waiting) (Followed base ls fs channel (Some fault) waiting) (read_on channel asked k)
      (λ t n. Tells (Fault fault) (to_come ls r (rest_of t channel)) s.line (to_come ls s (rest_of n channel))) (ReadFor ls channel (Fault fault) r s asked k) before mid one moved_on
      (λ t m so told known. closed_told s (Fault fault) a.lines (Some fault) a.quiet t m so known
      (law ls fs (rest_of t channel) a.lines r (rest_of m channel) s.line (to_come ls s (rest_of (read_on channel asked k m) channel)) fault (follows_all a.lines t m so) told)
      (all_give s (Fault fault) a.lines (Some fault) a.quiet t m so known
      (λ bytes rest follows is. law ls fs bytes a.lines r rest s.line (to_come ls s []) fault follows is))) a.told tells read

  -- a read failed: the lines before it are shown

  part_of : (lines : List Span) (left : List ℕ) (gained : List ℕ) (t : Told) → Follows ls fs (rest_of t channel) lines r left
      → base (cycles_of lines) (gained ++ waiting) → IsPartShown base ls fs (rest_of t channel) gained
  part_of lines left gained t follows shown = record {
    lines = cycles_of lines;
    more = (to_come ls r left).stream;
    stream = sym (ap (λ (p : Parsed). p.stream) follows.parsed);
    rest = waiting;
    shown = shown;
  }

  -- so those are that the bytes give which were read
  part_given : (bytes gained : List ℕ) → printed_text base ls fs bytes gained → IsPartShown base ls fs bytes gained
  part_given bytes gained given_so = record {
    lines = (stimulus_of ls fs bytes).stream;
    more = [];
    stream = sym (append-nil (stimulus_of ls fs bytes).stream);
    rest = [];
    shown = subst (base (stimulus_of ls fs bytes).stream) (sym (append-nil gained)) given_so;
  }

  -- the bytes before the failed read don't tell the next line
  abbrev WantsMore : Told → Type 0
  WantsMore m = IsDecided (r.pending ++ take k (rest_of m channel)) → ⊥

  wants_of : (lines : List Span) (t m : Told) (so : SoFar base shows ls fs channel given lines r waiting t m) → WantsMore m
      → IsDecided (r.pending ++ take k (drop given (rest_of t channel))) → ⊥
  wants_of lines t m so wants = subst (λ (l : List ℕ). IsDecided (r.pending ++ take k l) → ⊥) (left_is channel so.asked given so.gained t m so.going) wants

  written_now : (lines : List Span) → IsDecided r.pending ⊎ (waiting ≡ []) → (t m : Told) (so : SoFar base shows ls fs channel given lines r waiting t m) → WantsMore m
      → printed_text base ls fs (take (given + k) (rest_of t channel)) so.gained
  written_now lines quiet t m so wants =
      all_written base ls fs (rest_of t channel) given lines r so.gained waiting so.follows
      (back (cycles_of lines) (so.gained ++ waiting) so.shown) quiet k (wants_of lines t m so wants) 0

  needed_now : (lines : List Span) → IsDecided r.pending ⊎ (waiting ≡ []) → (t m : Told) (so : SoFar base shows ls fs channel given lines r waiting t m) → WantsMore m
      → (count : ℕ) → count ≤ given + k → IsNeeded (printed_fault ls fs) (take count (rest_of t channel))
  needed_now lines quiet t m so wants count far =
      not_told base ls fs (rest_of t channel) given lines r so.gained waiting so.follows
      (back (cycles_of lines) (so.gained ++ waiting) so.shown) quiet k count (wants_of lines t m so wants)
      (omega (arith, far))

  broken_told : 2 < channel → (lines : List Span) → IsDecided r.pending ⊎ (waiting ≡ []) → (t m : Told) → SoFar base shows ls fs channel given lines r waiting t m → WantsMore m → ReadsLeast channel r.pending asked k m
      → Broken base ls fs channel Input t (blame_at channel (name_if_reading (m.uses channel)) (read_on channel asked k m))
  broken_told above lines quiet t m so wants least =
      let name : name_if_reading (m.uses channel) ≡ name_if_reading (t.uses channel)
      = ap name_if_reading (use_now channel so.asked given so.gained t m so.going) ∙ name_read_on so.asked given (t.uses channel) in
      subst (λ (n : Told). Broken base ls fs channel Input t n)
      (sym (blame_is channel (name_if_reading (m.uses channel)) m above (name_if_reading (m.uses channel)) (read_on channel asked k m)))
      (record {
        asked = last_asked so.asked given asked;
        count = given + k;
        gained = so.gained;
        going = going_blamed channel (last_asked so.asked given asked) (given + k) so.gained (name_if_reading (m.uses channel)) t (read_on channel asked k m)
            (going_read channel so.asked given so.gained t m so.going asked k (least_none channel r.pending asked k m least));
        read = read_on_so base shows back ls fs channel given asked k lines r r waiting quiet t m so least;
        part = part_of lines (rest_of m channel) so.gained t (follows_all lines t m so) (back (cycles_of lines) (so.gained ++ waiting) so.shown);
        part_read = part_given (take (given + k) (rest_of t channel)) so.gained (written_now lines quiet t m so wants);
        needed = needed_on base shows back ls fs channel given asked k lines r r waiting quiet t m so least;
        written = written_now lines quiet t m so wants;
        blame = name;
      })

  abbrev failed_read : Told → Told
  failed_read m = blame_at channel (name_if_reading (m.uses channel)) (read_on channel asked k m)

  -- what is known of where the last piece was asked for, which wasn't given
  record WantedFor (m : Told) : Type 0 where
    wants : WantsMore m
    least : ReadsLeast channel r.pending asked k m

  wanted_for : (mid : Option Told) → IfSome mid WantsMore → IfSome mid (ReadsLeast channel r.pending asked k) → IfSome mid WantedFor
  wanted_for None wants least = tt
  wanted_for (Some m) wants least = record { wants = wants; least = least }

  pub broken : 2 < channel → (before mid one : Option Told) → one ≡ option_map failed_read mid
      → IfSome mid WantsMore → IfSome mid (ReadsLeast channel r.pending asked k) → Along base shows ls fs channel stands r cycle given waiting before mid → Between before one (Broken base ls fs channel Input)
  broken above before mid one read wants least a =
      knowing (SoFar base shows ls fs channel given a.lines r waiting) (Broken base ls fs channel Input) failed_read WantedFor
      before mid one read (λ t m so known. broken_told above a.lines a.quiet t m so known.wants known.least) a.told (wanted_for mid wants least)

  -- why: what is read brings what was given to its bound, and none of it tells a refused line

  reaches : (t m : Told) (lines : List Span) → IsDecided r.pending ⊎ (waiting ≡ []) → (so : SoFar base shows ls fs channel given lines r waiting t m) → given < 2 ^ 32 → WantsMore m
      → (IsReading (m.uses channel) → ⊥) ⊎ Reaches given k (rest_of m channel) → IsReading (t.uses channel) → IsTooLong (printed_fault ls fs) (rest_of t channel)
  reaches t m lines quiet so few wants why reading = elim why [
    | inl closed ↦ absurd (closed (subst IsReading (sym (use_now channel so.asked given so.gained t m so.going)) (reading_on so.asked given (t.uses channel) reading)))
    | inr far ↦
        let left : length (rest_of m channel) ≡ length (drop given (rest_of t channel)) = ap length (left_is channel so.asked given so.gained t m so.going) in
        record {
          long = omega (arith, left, far.all, few, length-drop given (rest_of t channel));
          needed = needed_now lines quiet t m so wants (2 ^ 32 - 4096) (omega (arith, far.near));
        }
  ]

  -- what is known of a failed read
  record FailedFor (now : ℕ) (m : Told) : Type 0 where
    wants : WantsMore m
    fails : FailsToRead channel now 4096 (failed_read m)

  failed_for : (now : ℕ) (mid : Option Told) → IfSome mid WantsMore → IfSome mid (λ m. FailsToRead channel now 4096 (failed_read m)) → IfSome mid (FailedFor now)
  failed_for now None wants fails = tt
  failed_for now (Some m) wants fails = record { wants = wants; fails = fails }

  pub broken_cause : (now : ℕ) (before mid one : Option Told) → given < 2 ^ 32 → now ≡ given + k → now < 2 ^ 32 → one ≡ option_map failed_read mid → IfSome mid WantsMore
      → IfSome one (FailsToRead channel now 4096) → Along base shows ls fs channel stands r cycle given waiting before mid
      → Between before one (FailsFor (GoesTooFar (printed_fault ls fs) channel) Input)
  broken_cause now before mid one few gave bound is wants why a =
      knowing (SoFar base shows ls fs channel given a.lines r waiting) (FailsFor (GoesTooFar (printed_fault ls fs) channel) Input) failed_read (FailedFor now)
      before mid one is (λ t m so known. reaches t m a.lines a.quiet so few known.wants
      (fails_before channel asked k given now (name_if_reading (m.uses channel)) m gave bound known.fails)) a.told
      (failed_for now mid wants (known_before failed_read (FailsToRead channel now 4096) mid one is why))

-- a write failed: what waits and the texts of the last line are cut

module _ (base shows later : Shows) (was : (lines : List (List Given)) (text : List ℕ) → shows lines text
    → base lines text) (back : (lines : List (List Given)) (text : List ℕ) → later lines text → base lines text)
    (ls : Levels) (fs : List Field) (channel : ℕ) (stands : List (List Given) → Type 0) (r s : Reader) (cycle given : ℕ) (asked : Option ℕ) (k : ℕ) (waiting : List ℕ)
    (law : GoesOn) (few : r.count < 2 ^ 32) (fields : s.fields ≡ r.fields) (counts : s.count ≡ count_after Line r.count) where
  module _ (first : ℕ) (within : first ≤ s.line.count) (text : List ℕ) (adds : Adds stands shows later cycle (replicate first s.line.inputs) text) (part : ℕ) where
    abbrev whole_text : List ℕ
    whole_text = waiting ++ text

    cut_told : (lines : List Span) → stands (cycles_of lines) → cycle ≡ length (cycles_of lines) → IsDecided r.pending ⊎ (waiting ≡ []) → (t m : Told)
        → SoFar base shows ls fs channel given lines r waiting t m → ReadFor ls channel Line r s asked k m
        → Broken base ls fs channel Output t (blamed (codes "output") (added 1 (take part whole_text) (read_on channel asked k m)))
    cut_told lines behind is quiet t m so read =
        let whole : (so.gained ++ take part whole_text) ++ drop part whole_text ≡ (so.gained ++ waiting) ++ text
        = append_assoc so.gained (take part whole_text) (drop part whole_text) ∙ ap (λ (l : List ℕ). so.gained ++ l) (take-append-drop part whole_text)
        ∙ sym (append_assoc so.gained waiting text) in
        let shown : later (cycles_of lines ++ replicate first s.line.inputs) ((so.gained ++ waiting) ++ text) = adds (cycles_of lines) (so.gained ++ waiting) behind is so.shown in
        let left : List ℕ = drop (given + k) (rest_of t channel) in
        let follows : Follows ls fs (rest_of t channel) (lines ++ s.line ∷ []) s left
        = subst (λ (bytes : List ℕ). Follows ls fs bytes (lines ++ s.line ∷ []) s left) (take-append-drop (given + k) (rest_of t channel))
        (line_follows ls fs channel given asked k lines r s law few fields counts base shows was waiting quiet t m so read left) in
        let front : List ℕ = take (given + k) (rest_of t channel) in
        let follows_read : Follows ls fs front (lines ++ s.line ∷ []) s [] = subst (λ (bytes : List ℕ). Follows ls fs bytes (lines ++ s.line ∷ []) s []) (append-nil front)
        (line_follows ls fs channel given asked k lines r s law few fields counts base shows was waiting quiet t m so read []) in
        let part_of_line : (bytes left : List ℕ) → Follows ls fs bytes (lines ++ s.line ∷ []) s left
        → IsPartShown base ls fs bytes (so.gained ++ take part whole_text) = λ bytes left follows. record {
          lines = cycles_of lines ++ replicate first s.line.inputs;
          more = replicate (s.line.count - first) s.line.inputs ++ (to_come ls s left).stream;
          stream =
              sym (ap (λ (p : Parsed). p.stream) follows.parsed)
              ∙ ap (λ (cycles : List (List Given)). cycles ++ (to_come ls s left).stream) (cycles_more lines s.line)
              ∙ cycles_cut (cycles_of lines) (to_come ls s left).stream s.line first within;
          rest = drop part whole_text;
          shown = back (cycles_of lines ++ replicate first s.line.inputs) ((so.gained ++ take part whole_text) ++ drop part whole_text)
              (subst (later (cycles_of lines ++ replicate first s.line.inputs)) (sym whole) shown);
        } in
        record {
          asked = last_asked so.asked given asked;
          count = given + k;
          gained = so.gained ++ take part whole_text;
          going = going_blamed channel (last_asked so.asked given asked) (given + k) (so.gained ++ take part whole_text) (codes "output") t
              (added 1 (take part whole_text) (read_on channel asked k m))
              (going_more channel so.asked given so.gained t m so.going asked k (least_none channel r.pending asked k m read.least) (take part whole_text));
          read = read_on_so base shows was ls fs channel given asked k lines r s waiting quiet t m so read.least;
          part = part_of_line (rest_of t channel) left follows;
          part_read = part_of_line front [] follows_read;
          needed = needed_on base shows was ls fs channel given asked k lines r s waiting quiet t m so read.least;
          written = written_more base ls fs (rest_of t channel) (given + k) (last_place (last_asked so.asked given asked)) so.gained (take part whole_text)
              (written_on base shows was ls fs channel given asked k lines r s waiting quiet t m so read.least);
          blame = refl;
        }

  pub cut : (before mid one two : Option Told) → one ≡ option_map (read_on channel asked k) mid → CyclesCut stands shows later cycle s.line waiting one two
      → IfSome mid (ReadFor ls channel Line r s asked k) → Along base shows ls fs channel stands r cycle given waiting before mid → Between before two (Broken base ls fs channel Output)
  cut before mid one two moved_on failed read a =
      knowing_two (SoFar base shows ls fs channel given a.lines r waiting) (Broken base ls fs channel Output) (ReadFor ls channel Line r s asked k)
      (read_on channel asked k) (λ t. blamed (codes "output") (added 1 (take failed.cut.count (waiting ++ failed.text)) t)) before mid one two moved_on failed.cut.told
      (λ t m so known. cut_told failed.first failed.within failed.text failed.adds failed.cut.count a.lines a.behind a.cycle_is a.quiet t m so known) a.told read

-- why: it fills the room
pub cut_cause : (base shows : Shows) (ls : Levels) (fs : List Field) (channel : ℕ) (stands : List (List Given) → Type 0) (r : Reader) (cycle given : ℕ) (asked : Option ℕ) (k : ℕ) (waiting text : List ℕ)
    → 2 < channel → (before mid one two : Option Told) → one ≡ option_map (read_on channel asked k) mid → CutOutput text one two
    → Between one two (λ n p. IsWriting (n.uses 1) → length (p.written 1) ≡ p.room) → Along base shows ls fs channel stands r cycle given waiting before mid
    → Between before two (FailsFor (GoesTooFar (printed_fault ls fs) channel) Output)
cut_cause base shows ls fs channel stands r cycle given asked k waiting text above before mid one two read failed full a =
    known_two (SoFar base shows ls fs channel given a.lines r waiting) (FailsFor (GoesTooFar (printed_fault ls fs) channel) Output)
    (λ n o. IsSomeAnd o (λ p. IsWriting (n.uses 1) → length (p.written 1) ≡ p.room)) (read_on channel asked k)
    (λ t. blamed (codes "output") (added 1 (take failed.count text) t)) before mid one two read failed.told
    (λ t m so because. λ writing. because (subst IsWriting (one_use m) (subst IsWriting (sym (output_use channel so.asked given so.gained t m so.going above)) writing))) a.told full where
      one_use : (m : Told) → m.uses 1 ≡ (read_on channel asked k m).uses 1
      one_use m = sym (ap (λ (b : Bool). cond b (read_on_use asked k (m.uses channel)) (m.uses 1)) (other_number 1 channel (omega arith)))
