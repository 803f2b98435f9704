-- What is read of a design file says of a design what the whole file says.
use Rattle.sap_lemmas.proofs.Common.{◌≡◌, ◌<◌, ◌≤◌, ◌+◌, ◌++◌, ℕ, List, length, refl, sym, ◌∙◌, ap, subst, inl, inr, arith, length-append, Option, Some, None, IfSome}
use Rattle.sap_desk.specs.Desk.{Told}
use Rattle.sap_desk.specs.Cause.{counted}
use Rattle.sap_desk.specs.Whole.{Between, FailedReading, IsFront, IsFrontOf, MissingOrFar, StoodWithin}
use Rattle.sap_desk.specs.Whole.IsFront.{all, more}
use Rattle.sap_lattice.specs.Levels.{Levels}
use Rattle.sap_tree.specs.Syntax.{DesignTree}
use Rattle.sap_parse.specs.Limits.{most_bytes}
use Rattle.sap_parse.specs.Text.{IsText, IsReadFault, too_long, no_token, unexpected, over}
use Rattle.sap_lex.specs.declared.fault.ReadFault.{ReadFault}
use Rattle.sap_files.specs.declared.fault.DesignFault.{DesignFault}
use Rattle.sap_files.specs.declared.fault.DesignFault.TheVariants.{Read, Check}
use Rattle.sap_files.specs.Prelude.{IsDesignFault, Ending, failed, IsWellFormedText, design_file, design_text_file, IsUnreadable, FaultRose, Moment, NotRead, Quiet, Reads, Refuses, Stops}

longer : (bytes front rest : List ℕ) → front ++ rest ≡ bytes → most_bytes < length front → most_bytes < length bytes
longer bytes front rest is long =
    let size : length bytes ≡ length front + length rest = ap length (sym is) ∙ length-append front rest in
    omega (arith, long, size)

pub text_of : (bytes front : List ℕ) (d : DesignTree) → IsFront most_bytes bytes front → IsText front d → IsText bytes d
text_of bytes front d (all is) text = subst (λ (b : List ℕ). IsText b d) is text
text_of bytes front d (more long rest is) text = let fits : length front ≤ most_bytes = text.fits in absurd (omega (arith, long, fits))

pub fault_of : (bytes front : List ℕ) (fault : ReadFault) → IsFront most_bytes bytes front → IsReadFault front fault → IsReadFault bytes fault
fault_of bytes front fault (all is) h = subst (λ (b : List ℕ). IsReadFault b fault) is h
fault_of bytes front fault (more long rest is) (too_long h) = too_long (longer bytes front rest is long)
fault_of bytes front fault (more long rest is) (no_token fits bad) = absurd (omega (arith, long, fits))
fault_of bytes front fault (more long rest is) (unexpected fits lexed at never) = absurd (omega (arith, long, fits))
fault_of bytes front fault (more long rest is) (over fits lexed at) = absurd (omega (arith, long, fits))

well_formed_of : (ls : Levels) (bytes front : List ℕ) (d : DesignTree) → IsFront most_bytes bytes front → IsWellFormedText ls front d → IsWellFormedText ls bytes d
well_formed_of ls bytes front d f w = record { is_text = text_of bytes front d f w.is_text; well_formed = w.well_formed }

design_fault_of : (ls : Levels) (bytes front : List ℕ) (fault : DesignFault) → IsFront most_bytes bytes front → IsDesignFault ls front fault → IsDesignFault ls bytes fault
design_fault_of ls bytes front (Read fault) f h = fault_of bytes front fault f h
design_fault_of ls bytes front (Check fault) f (d, is, first) = (d, text_of bytes front d f is, first)

-- the same for what reading and checking come to

pub refused_text : {bytes front : List ℕ} {e : Ending} → IsFront most_bytes bytes front → Refuses design_text_file front e → Refuses design_text_file bytes e
refused_text f (inl is) = inl is
refused_text {bytes = bytes} {front = front} f (inr (why, is, (fault, was, first))) = inr (why, is, (fault, was, fault_of bytes front fault f first))

pub refused_design : (ls : Levels) {bytes front : List ℕ} {e : Ending} → IsFront most_bytes bytes front → Refuses (design_file ls) front e
    → Refuses (design_file ls) bytes e
refused_design ls f (inl is) = inl is
refused_design ls {bytes = bytes} {front = front} f (inr (why, is, (fault, was, first))) =
    inr (why, is, (fault, was, design_fault_of ls bytes front fault f first))

pub text_whole : {bytes front : List ℕ} {d : DesignTree} → IsFront most_bytes bytes front → IsText front d → IsText bytes d
text_whole {bytes = bytes} {front = front} {d = d} f text = text_of bytes front d f text

pub checked_whole : {ls : Levels} {bytes front : List ℕ} {d : DesignTree} → IsFront most_bytes bytes front → IsWellFormedText ls front d
    → IsWellFormedText ls bytes d
checked_whole {ls = ls} {bytes = bytes} {front = front} {d = d} f w = well_formed_of ls bytes front d f w

-- what was read of a file is the front of one

found : (name front : List ℕ) (o : Option Told) → IfSome o (IsFrontOf most_bytes name front)
    → (bytes : List ℕ) × IfSome o (λ t. t.files name ≡ Some bytes) × IsFront most_bytes bytes front
found name front None h = (front, tt, all refl)
found name front (Some t) h = (h.whole, h.file, h.front)

pub read_front_of : (name front : List ℕ) (a b : Moment) → Quiet a b → IfSome a.told (IsFrontOf most_bytes name front)
    → (bytes : List ℕ) × Reads name bytes a b × IsFront most_bytes bytes front
read_front_of name front a b quiet h =
    let (bytes, file, part) = found name front a.told h in
    (bytes, record { quiet = quiet; file = file }, part)

-- a file could not be read

not_read : (most : Option ℕ) (name : List ℕ) (F : Type 0) (t n : Told) → FailedReading name t n → StoodWithin most name t n → (F → IsUnreadable most name t)
    → NotRead most name (failed name) F t n
not_read most name F t n r stood why = record {
  files = r.files;
  output = r.channels.output;
  same = record { lines = r.channels.lines; lines_use = r.channels.lines_use; others = λ k other. r.channels.open_written k; room = r.channels.room };
  blames = r.blame;
  opens = (refl, stood);
  outside = why;
}

not_read_between : (most : Option ℕ) (name : List ℕ) (F : Type 0) (old new : Option Told) → Between old new (FailedReading name) → Between old new (StoodWithin most name)
    → (F → IfSome old (IsUnreadable most name)) → Between old new (NotRead most name (failed name) F)
not_read_between most name F None new r stood why = tt
not_read_between most name F (Some t) None r stood why = r
not_read_between most name F (Some t) (Some n) r stood why = not_read most name F t n r stood why

pub unread : (most : Option ℕ) (name : List ℕ) (before after : Moment) → Between before.told after.told (FailedReading name)
    → Between before.told after.told (StoodWithin most name) → after.faults ≡ counted before.faults
    → after.lost ≡ before.lost → (before.sure → after.sure) → (before.sure → IfSome before.told (IsUnreadable most name))
    → Stops most name (failed name) before after
unread most name before after r stood faults lost sure why = record {
  free = tt;
  told = not_read_between most name (FaultRose before after) before.told after.told r stood (λ rose. why rose.1);
  faults = faults;
  lost = lost;
  sure = sure;
}

-- a design file that can't be read is missing

missing : (name : List ℕ) (t : Told) → MissingOrFar most_bytes name t → IsUnreadable (Some most_bytes) name t
missing name t (inl none) = none
missing name t (inr far) = absurd (omega (arith, far))

missing_of : (name : List ℕ) (o : Option Told) → IfSome o (MissingOrFar most_bytes name) → IfSome o (IsUnreadable (Some most_bytes) name)
missing_of name None far = tt
missing_of name (Some t) far = missing name t far

pub front_unread : (name : List ℕ) (before after : Moment) → Between before.told after.told (FailedReading name)
    → Between before.told after.told (StoodWithin (Some most_bytes) name) → after.faults ≡ counted before.faults
    → after.lost ≡ before.lost → (before.sure → after.sure) → (before.sure → IfSome before.told (MissingOrFar most_bytes name))
    → Stops (Some most_bytes) name (failed name) before after
front_unread name before after r stood faults lost sure far =
    unread (Some most_bytes) name before after r stood faults lost sure (λ s. missing_of name before.told (far s))
