-- From what comes of a stimulus that is printed to how the command ends.
use Rattle.sap_lemmas.proofs.Common.{◌≡◌, ℕ, ◌-◌, List, [], ◌++◌, take, refl, sym, ◌∙◌, ap, subst, inl, inr, ◌⊎◌, ◌^◌, Bool, cond, Option, Some, None, append-nil}
use Rattle.sap_desk.specs.Desk.{Told, Use, reads, IsWriting, blamed, bytes_of}
use Rattle.sap_desk.specs.Cause.{counted}
use Rattle.sap_desk.specs.Whole.{Between}
use Rattle.sap_desk.proofs.Steps.{other_number}
use Rattle.sap_lattice.specs.Levels.{Levels}
use Rattle.sap_stim.specs.declared.fault.StimFault.{StimFault}
use Rattle.sap_stim.specs.declared.field.Field.{Field}
use Rattle.sap_lines.specs.Stepping.Followed.{FailsFor, IsFaultOfSome, IsPartShown, blamed_for}
use Rattle.sap_lines.specs.Stepping.Pace.{FaultOf, IsWritten, Prints, Shows, TellsRefusal, printed_fault, printed_text}
use Rattle.sap_lines.specs.Stepping.Printed.{CallFailed, CutShort, MissingOrTooLong, Printed, StaysOpen, Stops}
use Rattle.sap_lines.specs.declared.stepping.stopped.FailedCall.{FailedCall}
use Rattle.sap_lines.specs.declared.stepping.stopped.FailedCall.TheVariants.{Input, Output as OnOutput}
use Rattle.sap_lines.specs.declared.stepping.stopped.Stopped.TheVariants.{Call, Memory}
use Rattle.sap_files.specs.Prelude.{Ending, done, refused, failed, no_memory, IsFree, prints, Cause, Files, IsCut, Leaves, MayEnd, Output, Shows as ShowsOn, end_of, Blames, Stands, OutsideOf, Counted, Ends, FaultRose, HasWhole, Left, Moment}
use Rattle.sap_files.proofs.Ended.{between_map, starved_left}

-- with why it failed
between_caused : (F : Type 0) (P C Q : Told → Told → Type 0) (old new : Option Told) → ((t n : Told) → P t n → (F → C t n) → Q t n) → Between old new P
    → (F → Between old new C) → Between old new Q
between_caused F P C Q None new h p c = tt
between_caused F P C Q (Some t) None h p c = p
between_caused F P C Q (Some t) (Some n) h p c = h t n p c

-- channel 2 is open as before

stays_lines : (why : FailedCall) (name : List ℕ) (text : Prints) (fault : FaultOf) (t : Told) (gained : List ℕ) (before after : ℕ → Use)
    → StaysOpen why name text fault t gained before after
    → after 2 ≡ before 2
stays_lines why name text fault t gained before after s =
    ap (λ (u : ℕ → Use). u 2) s.uses ∙ ap (λ (b : Bool). cond b (reads name s.asked s.position) (before 2)) (other_number 2 s.channel s.above)

module _ (shows : Shows) (ls : Levels) (fs : List Field) (name : List ℕ) where
  abbrev pub text : (bytes given : List ℕ) → Type 0
  text = printed_text shows ls fs

  abbrev pub faults_of : (bytes : List ℕ) → Option StimFault
  faults_of = printed_fault ls fs

  -- it is done, or a line is refused

  leaves_end : (t : Told) (files : Files) (fault : Option StimFault) → files ≡ t.files → Leaves (prints name text faults_of) t files (end_of fault)
  leaves_end t files None is = is
  leaves_end t files (Some fault) is = is

  shows_end : (t : Told) (gained : List ℕ) (fault : Option StimFault) (bytes : List ℕ) → t.files name ≡ Some bytes → fault ≡ faults_of bytes → text bytes gained
      → Output (prints name text faults_of) t gained (end_of fault)
  shows_end t gained None bytes there is shown = (bytes, there, ap end_of is, shown)
  shows_end t gained (Some fault) bytes there is shown = (bytes, there, ap end_of is, shown)

  blames_end : (before blame : List ℕ) (fault : Option StimFault) → blame ≡ before → Blames before blame (end_of fault)
  blames_end before blame None is = is
  blames_end before blame (Some fault) is = is

  stands_end : (t : Told) (fault : Option StimFault) (gained : List ℕ) (before after : ℕ → Use) → after ≡ before
      → Stands (prints name text faults_of) t (end_of fault) gained before after
  stands_end t None gained before after is = is
  stands_end t (Some fault) gained before after is = is

  counted_end : (fault : Option StimFault) (faults now : ℕ) → now ≡ faults → Counted faults now (end_of fault)
  counted_end None faults now is = is
  counted_end (Some fault) faults now is = is

  printed_left : (fault : Option StimFault) (F : Type 0) (t n : Told) → (F → ⊥) → Printed shows ls fs name fault t n
      → Left (prints name text faults_of) (end_of fault) F t n
  printed_left fault F t n never p = record {
    leaves = leaves_end t n.files fault p.grew.files;
    gained = p.gained;
    output = p.grew.output;
    shows = shows_end t p.gained fault p.bytes p.file p.is_fault p.shown;
    blames = blames_end t.blame n.blame fault p.blame;
    stands = stands_end t fault p.gained t.uses n.uses p.uses;
    same = record { lines = p.grew.lines; lines_use = ap (λ (u : ℕ → Use). u 2) p.uses; others = λ k other open_now. p.grew.others k other; room = p.grew.room };
    cause = inr (p.bytes, p.file, ap end_of p.is_fault);
    outside = λ rose. absurd (never rose);
  }

  may_end : (fault : Option StimFault) → IsFaultOfSome ls fs fault → MayEnd (prints name text faults_of) (end_of fault)
  may_end fault (bytes, is) = (bytes, ap end_of is)

  pub printed_ends : (fault : Option StimFault) (a b : Moment) → IsFaultOfSome ls fs fault
      → Between a.told b.told (Printed shows ls fs name fault) → b.faults ≡ a.faults → b.lost ≡ a.lost
      → (a.sure → b.sure) → Ends (prints name text faults_of) (end_of fault) a b
  printed_ends fault a b some told faults lost sure = record {
    told = between_map (Printed shows ls fs name fault) (Left (prints name text faults_of) (end_of fault) (FaultRose a b)) a.told b.told
        (λ t n p. printed_left fault (FaultRose a b) t n (λ (changed, s). changed faults) p) told;
    faults = counted_end fault a.faults b.faults faults;
    lost = lost;
    sure = sure;
    may = inr (may_end fault some);
  }

  -- a call failed

  cut_of : HasWhole shows ls fs → (bytes gained : List ℕ) (t : Told) → t.files name ≡ Some bytes → IsPartShown shows ls fs bytes gained
      → IsCut (prints name text faults_of) t gained
  cut_of whole bytes gained t file part =
      let (all, shown, prefix) = whole bytes gained part in
      inr (all, (end_of (faults_of bytes), (bytes, file, refl, shown)), prefix)

  cut_left : HasWhole shows ls fs → (why : FailedCall) (F : Type 0) (t n : Told) → CutShort shows ls fs name why t n → (F → OutsideOf (prints name text faults_of) t n)
      → Left (prints name text faults_of) (failed (blamed_for why name)) F t n
  cut_left whole why F t n s outside = record {
    leaves = inl s.grew.files;
    gained = s.gained;
    output = s.grew.output;
    shows = cut_of whole s.stays.bytes s.gained t s.stays.file s.part;
    blames = s.blame;
    stands = inr (why, refl, s.stays, whole (take s.stays.position s.stays.bytes) s.gained s.part_read);
    same = record {
      lines = s.grew.lines;
      lines_use = stays_lines why name text faults_of t s.gained t.uses n.uses s.stays;
      others = λ k other open_now. s.grew.others k other;
      room = s.grew.room;
    };
    cause = inl tt;
    outside = outside;
  }

  -- the file could not be opened
  unopened_left : (F : Type 0) (t n : Told) → n ≡ blamed name t → (F → OutsideOf (prints name text faults_of) t n) → Left (prints name text faults_of) (failed name) F t n
  unopened_left F t n is outside = record {
    leaves = inl (ap (λ (x : Told). x.files) is);
    gained = [];
    output = ap (λ (x : Told). x.written 1) is ∙ sym (append-nil (t.written 1));
    shows = inl refl;
    blames = ap (λ (x : Told). x.blame) is;
    stands = inl (refl, refl, ap (λ (x : Told). x.uses) is);
    same = record {
      lines = ap (λ (x : Told). x.written 2) is;
      lines_use = ap (λ (x : Told). x.uses 2) is;
      others = λ k other open_now. ap (λ (x : Told). x.written k) is;
      room = ap (λ (x : Told). x.room) is;
    };
    cause = inl tt;
    outside = outside;
  }

  outside_for : (why : FailedCall) (t n : Told) → FailsFor (MissingOrTooLong faults_of name) why t n → OutsideOf (prints name text faults_of) t n
  outside_for Input t n unreadable = inl unreadable
  outside_for OnOutput t n full = inr (λ is. full (subst IsWriting (sym is) tt))

  failed_left : HasWhole shows ls fs → (why : FailedCall) (F : Type 0) (t n : Told) → CallFailed shows ls fs name why t n → (F → FailsFor (MissingOrTooLong faults_of name) why t n)
      → Left (prints name text faults_of) (failed (blamed_for why name)) F t n
  failed_left whole why F t n (inl (on_input, is)) cause =
      subst (λ (by : FailedCall). Left (prints name text faults_of) (failed (blamed_for by name)) F t n) (sym on_input)
      (unopened_left F t n is (λ rose. outside_for why t n (cause rose)))
  failed_left whole why F t n (inr s) cause = cut_left whole why F t n s (λ rose. outside_for why t n (cause rose))

  -- there was no memory
  memory_left : (F : Type 0) (t n : Told) → n ≡ t → (F → ⊥) → Left (prints name text faults_of) no_memory F t n
  memory_left F t n is never = subst (λ (x : Told). Left (prints name text faults_of) no_memory F t x) (sym is) (starved_left (prints name text faults_of) F t never)

  pub failed_ends : HasWhole shows ls fs → (why : FailedCall) (a b : Moment) → Between a.told b.told (Stops (CallFailed shows ls fs name) (Call why))
      → (a.sure → Between a.told b.told (Stops (FailsFor (MissingOrTooLong faults_of name)) (Call why)))
      → b.faults ≡ counted a.faults → b.lost ≡ a.lost → (a.sure → b.sure) → Ends (prints name text faults_of) (failed (blamed_for why name)) a b
  failed_ends whole why a b told cause faults lost sure = record {
    told = between_caused (FaultRose a b) (Stops (CallFailed shows ls fs name) (Call why)) (Stops (FailsFor (MissingOrTooLong faults_of name)) (Call why))
        (Left (prints name text faults_of) (failed (blamed_for why name)) (FaultRose a b)) a.told b.told
        (λ t n broke reason. failed_left whole why (FaultRose a b) t n broke reason) told (λ rose. cause rose.1);
    faults = faults;
    lost = lost;
    sure = sure;
    may = inl tt;
  }

  pub memory_ends : (a b : Moment) → Between a.told b.told (Stops (CallFailed shows ls fs name) Memory) → b.faults ≡ a.faults → b.lost ≡ a.lost → (a.sure → b.sure)
      → Ends (prints name text faults_of) no_memory a b
  memory_ends a b told faults lost sure = record {
    told = between_map (Stops (CallFailed shows ls fs name) Memory) (Left (prints name text faults_of) no_memory (FaultRose a b)) a.told b.told
        (λ t n is. memory_left (FaultRose a b) t n is (λ (changed, s). changed faults)) told;
    faults = faults;
    lost = lost;
    sure = sure;
    may = inl tt;
  }

-- the same asked in other words

module _ (name : List ℕ) (one other : (bytes given : List ℕ) → Type 0) (first later : (bytes : List ℕ) → Option StimFault)
    (holds : (bytes given : List ℕ) → one bytes given → other bytes given) (faults : (bytes : List ℕ) → first bytes ≡ later bytes) where
  end_same : (e : Ending) (bytes : List ℕ) → e ≡ end_of (first bytes) → e ≡ end_of (later bytes)
  end_same e bytes is = is ∙ ap end_of (faults bytes)

  shows_same : (t : Told) (e : Ending) (gained : List ℕ) → ShowsOn (prints name one first) t e gained → ShowsOn (prints name other later) t e gained
  shows_same t e gained (bytes, there, is, shown) = (bytes, there, end_same e bytes is, holds bytes gained shown)

  cut_same : (t : Told) (gained : List ℕ) → IsCut (prints name one first) t gained → IsCut (prints name other later) t gained
  cut_same t gained (inl none) = inl none
  cut_same t gained (inr (whole, (e, shown), prefix)) = inr (whole, (e, shows_same t e whole shown), prefix)

  output_same : (t : Told) (e : Ending) (gained : List ℕ) → Output (prints name one first) t gained e → Output (prints name other later) t gained e
  output_same t done gained h = shows_same t done gained h
  output_same t (refused why) gained h = shows_same t (refused why) gained h
  output_same t (failed by) gained h = cut_same t gained h
  output_same t no_memory gained h = h

  leaves_same : (t : Told) (files : Files) (e : Ending) → Leaves (prints name one first) t files e → Leaves (prints name other later) t files e
  leaves_same t files done h = h
  leaves_same t files (refused why) h = h
  leaves_same t files (failed by) h = h
  leaves_same t files no_memory h = h

  tells_same : (bytes : List ℕ) → TellsRefusal later bytes → TellsRefusal first bytes
  tells_same bytes (why, all) = (why, λ rest. faults (bytes ++ rest) ∙ all rest)

  written_same : (why : FailedCall) (before front gained : List ℕ) → IsWritten why one before front gained → IsWritten why other before front gained
  written_same Input before front gained is = holds front gained is
  written_same OnOutput before front gained (whole, more, is, all) = (whole, more, holds before whole is, all)

  stays_same : (why : FailedCall) (t : Told) (gained : List ℕ) (before after : ℕ → Use) → StaysOpen why name one first t gained before after
      → StaysOpen why name other later t gained before after
  stays_same why t gained before after s = record {
    channel = s.channel;
    above = s.above;
    fresh = s.fresh;
    asked = s.asked;
    position = s.position;
    uses = s.uses;
    bytes = s.bytes;
    file = s.file;
    read = s.read;
    needed = λ told. s.needed (tells_same (take s.asked s.bytes) told);
    written = written_same why (take s.asked s.bytes) (take s.position s.bytes) gained s.written;
  }

  stands_same : (t : Told) (e : Ending) (gained : List ℕ) (before after : ℕ → Use) → Stands (prints name one first) t e gained before after
      → Stands (prints name other later) t e gained before after
  unfolding stays_same
  stands_same t done gained before after h = h
  stands_same t (refused why) gained before after h = h
  stands_same t (failed name_blamed) gained before after (inl unopened) = inl unopened
  stands_same t (failed name_blamed) gained before after (inr (why, is, s, (whole, given, prefix))) =
      inr (why, is, stays_same why t gained before after s, (whole, holds (take s.position s.bytes) whole given, prefix))
  stands_same t no_memory gained before after h = h

  cause_same : (t : Told) (e : Ending) → IsFree e ⊎ Cause (prints name one first) t e → IsFree e ⊎ Cause (prints name other later) t e
  cause_same t e (inl free) = inl free
  cause_same t e (inr (bytes, there, is)) = inr (bytes, there, end_same e bytes is)

  may_same : (e : Ending) → IsFree e ⊎ MayEnd (prints name one first) e → IsFree e ⊎ MayEnd (prints name other later) e
  may_same e (inl free) = inl free
  may_same e (inr (bytes, is)) = inr (bytes, end_same e bytes is)

  outside_same : (t n : Told) → OutsideOf (prints name one first) t n → OutsideOf (prints name other later) t n
  outside_same t n (inl (inl missing)) = inl (inl missing)
  outside_same t n (inl (inr far)) = inl (inr (record { long = far.long; needed = λ told. far.needed (tells_same (take (2 ^ 32 - 4096) (bytes_of t name)) told) }))
  outside_same t n (inr full) = inr full

  left_same : (e : Ending) (F : Type 0) (t n : Told) → Left (prints name one first) e F t n → Left (prints name other later) e F t n
  left_same e F t n l = record {
    leaves = leaves_same t n.files e l.leaves;
    gained = l.gained;
    output = l.output;
    shows = output_same t e l.gained l.shows;
    blames = l.blames;
    stands = stands_same t e l.gained t.uses n.uses l.stands;
    same = l.same;
    cause = cause_same t e l.cause;
    outside = λ rose. outside_same t n (l.outside rose);
  }

  pub printed_same : (e : Ending) (a b : Moment) → Ends (prints name one first) e a b → Ends (prints name other later) e a b
  printed_same e a b ended = record {
    told = between_map (Left (prints name one first) e (FaultRose a b)) (Left (prints name other later) e (FaultRose a b)) a.told b.told
        (λ t n l. left_same e (FaultRose a b) t n l) ended.told;
    faults = ended.faults;
    lost = ended.lost;
    sure = ended.sure;
    may = may_same e ended.may;
  }
