-- A stimulus that was opened, followed and finished, or not to its end.
use Rattle.sap_lemmas.proofs.Common.{◌≡◌, ℕ, ◌+◌, ◌<◌, List, [], ◌++◌, refl, sym, take, ◌∙◌, ap, subst, inl, inr, arith, Bool, cond, Option, Some, None, IfSome, IsSome, option_map, append-nil}
use Rattle.sap_desk.specs.Desk.{Told, Use, IsOpen, IsReading, IsWriting, at_number, blame_at, blamed, bytes_of, closed, finished, name_if_open, name_if_reading, opened, read_on_use, reads, rest_of, rest_of_use}
use Rattle.sap_desk.specs.Whole.{Between, IsReadTo}
use Rattle.sap_desk.proofs.Steps.{at_number-keeps, at_number-same, at_number-twice, file_there, other_number}
use Rattle.sap_desk.proofs.WholeFiles.{blame_is}
use Rattle.sap_lattice.specs.Levels.{Levels}
use Rattle.sap_stim.specs.declared.fault.StimFault.{StimFault}
use Rattle.sap_stim.specs.declared.field.Field.{Field}
use Rattle.sap_stim.specs.declared.stimulus.Parsed.{Parsed}
use Rattle.sap_stim.specs.Stimulus.{stimulus_of}
use Rattle.sap_lines.specs.declared.stepping.stopped.FailedCall.{FailedCall}
use Rattle.sap_lines.specs.declared.stepping.stopped.FailedCall.TheVariants.{Input, Output}
use Rattle.sap_lines.specs.declared.stepping.stopped.Stopped.TheVariants.{Call, Memory}
use Rattle.sap_lines.specs.Stepping.Followed.{Broken, FailsFor, Followed, Going, GoesTooFar, IsPartShown, blamed_for, last_place}
use Rattle.sap_lines.specs.Stepping.Pace.{FaultOf, IsNeeded, IsTooLong, IsWritten, Prints, Shows, printed_fault, printed_text}
use Rattle.sap_lines.specs.Stepping.Printed.{CallFailed, CutShort, MissingOrTooLong, OutputGrew, Printed, StaysOpen, Stops}

-- what is known of a desk whose file is opened

pub record CanOpen (channel : ℕ) (name : List ℕ) (t : Told) : Type 0 where
  pub fresh : t.uses channel ≡ closed
  pub there : IsSome (t.files name)

pub can_open : (channel : ℕ) (name : List ℕ) (o : Option Told) → IfSome o (λ t. t.uses channel ≡ closed) → IfSome o (λ t. IsSome (t.files name))
    → IfSome o (CanOpen channel name)
can_open channel name None fresh there = tt
can_open channel name (Some t) fresh there = record { fresh = fresh; there = there }

-- from what comes of the open file to what comes of the file
module _ (channel : ℕ) (name : List ℕ) (R Q : Told → Told → Type 0) where
  pub from_open : (old one two : Option Told) → one ≡ option_map (opened channel name) old → IfSome old (CanOpen channel name)
      → ((t n : Told) → CanOpen channel name t → R (opened channel name t) n → Q t n) → Between one two R → Between old two Q
  from_open None one two is can h b = tt
  from_open (Some t) one two is can h b =
      let here : Between (Some (opened channel name t)) two R = subst (λ (o : Option Told). Between o two R) is b in
      onto two here where
        onto : (two : Option Told) → Between (Some (opened channel name t)) two R → Between (Some t) two Q
        onto None r = r
        onto (Some n) r = h t n can r

  pub from_open_then : (f : Told → Told) (old one two three : Option Told) → one ≡ option_map (opened channel name) old
      → three ≡ option_map f two → IfSome old (CanOpen channel name)
      → ((t n : Told) → CanOpen channel name t → R (opened channel name t) n → Q t (f n)) → Between one two R → Between old three Q
  from_open_then f None one two three is also can h b = tt
  from_open_then f (Some t) one two three is also can h b =
      let here : Between (Some (opened channel name t)) two R = subst (λ (o : Option Told). Between o two R) is b in
      onto two also here where
        onto : (two : Option Told) → three ≡ option_map f two → Between (Some (opened channel name t)) two R → Between (Some t) three Q
        onto None last r = absurd r
        onto (Some n) last r = subst (λ (o : Option Told). Between (Some t) o Q) (sym last) (h t n can r)

-- what reads make of a file that was just opened
opened_on : (asked : Option ℕ) (count : ℕ) (name : List ℕ) → read_on_use asked count (reads name 0 0) ≡ reads name (last_place asked) (0 + count)
opened_on None count name = refl
opened_on (Some few) count name = ap (λ (n : ℕ). reads name n (0 + count)) (omega arith)

module _ (channel : ℕ) (name : List ℕ) (above : 2 < channel) (t n : Told) (can : CanOpen channel name t) where
  whole : rest_of (opened channel name t) channel ≡ bytes_of t name
  whole = ap (rest_of_use (opened channel name t)) (at_number-same channel (reads name 0 0) t.uses)

  file : t.files name ≡ Some (bytes_of t name)
  file = file_there (t.files name) can.there

  module _ (asked : Option ℕ) (count : ℕ) (gained : List ℕ) (going : Going channel asked count gained (opened channel name t) n) where
    uses_open : n.uses ≡ at_number channel (reads name (last_place asked) (0 + count)) t.uses
    uses_open =
        going.uses
        ∙ ap (λ (u : Use). at_number channel (read_on_use asked count u) (at_number channel (reads name 0 0) t.uses)) (at_number-same channel (reads name 0 0) t.uses)
        ∙ at_number-twice channel (reads name 0 0) (read_on_use asked count (reads name 0 0)) t.uses
        ∙ ap (λ (u : Use). at_number channel u t.uses) (opened_on asked count name)

    uses_finished : at_number channel closed n.uses ≡ t.uses
    uses_finished =
        ap (at_number channel closed) uses_open ∙ at_number-twice channel (reads name (last_place asked) (0 + count)) closed t.uses
        ∙ at_number-keeps channel closed t.uses can.fresh

    use_is : n.uses channel ≡ reads name (last_place asked) (0 + count)
    use_is = ap (λ (u : ℕ → Use). u channel) uses_open ∙ at_number-same channel (reads name (last_place asked) (0 + count)) t.uses

    left_open : (why : FailedCall) (text : Prints) (fault : FaultOf) → IsReadTo None (rest_of (opened channel name t) channel) (last_place asked) count
        → IsNeeded fault (take (last_place asked) (rest_of (opened channel name t) channel))
        → IsWritten why text (take (last_place asked) (rest_of (opened channel name t) channel)) (take count (rest_of (opened channel name t) channel)) gained
        → StaysOpen why name text fault t gained t.uses n.uses
    left_open why text fault read needed written =
        let so_far : count ≡ 0 + count = omega arith in
        record {
          channel = channel;
          above = above;
          fresh = can.fresh;
          asked = last_place asked;
          position = 0 + count;
          uses = uses_open;
          bytes = bytes_of t name;
          file = file;
          read = subst (λ (n : ℕ). IsReadTo None (bytes_of t name) (last_place asked) n) so_far (subst (λ (bytes : List ℕ). IsReadTo None bytes (last_place asked) count) whole read);
          needed = subst (λ (bytes : List ℕ). IsNeeded fault (take (last_place asked) bytes)) whole needed;
          written = subst (λ (n : ℕ). IsWritten why text (take (last_place asked) (bytes_of t name)) (take n (bytes_of t name)) gained) so_far
              (subst (λ (bytes : List ℕ). IsWritten why text (take (last_place asked) bytes) (take count bytes) gained) whole written);
        }

    grew : OutputGrew gained t n
    grew = record {
      files = going.files;
      output = going.output;
      lines = going.others 2 (omega arith);
      others = going.others;
      room = going.room;
    }

    -- of the desk that finished the channel, or blames its file for it

    finished_grew : OutputGrew gained t (finished channel n)
    finished_grew = record { files = grew.files; output = grew.output; lines = grew.lines; others = grew.others; room = grew.room }

    blamed_grew : OutputGrew gained t (blamed (name_if_open (n.uses channel)) n)
    blamed_grew = record { files = grew.files; output = grew.output; lines = grew.lines; others = grew.others; room = grew.room }

  module _ (shows : Shows) (ls : Levels) (fs : List Field) where
    all_shown : (fault : Option StimFault) (f : Followed shows ls fs channel fault [] (opened channel name t) n)
        → shows (stimulus_of ls fs (rest_of (opened channel name t) channel)).stream f.gained
    all_shown fault f = subst (shows (stimulus_of ls fs (rest_of (opened channel name t) channel)).stream) (append-nil f.gained) f.shown

    pub printed : (fault : Option StimFault) → Followed shows ls fs channel fault [] (opened channel name t) n → Printed shows ls fs name fault t (finished channel n)
    printed fault f = record {
      bytes = bytes_of t name;
      file = file;
      is_fault = f.is_fault ∙ ap (λ (bytes : List ℕ). (stimulus_of ls fs bytes).fault) whole;
      gained = f.gained;
      shown = subst (λ (bytes : List ℕ). shows (stimulus_of ls fs bytes).stream f.gained) whole (all_shown fault f);
      grew = finished_grew f.asked f.count f.gained f.going;
      uses = uses_finished f.asked f.count f.gained f.going;
      blame = f.blame;
    }

    -- what the bytes give that were read of the channel, since they are the first of the file
    read_from_start : (count : ℕ) (gained : List ℕ) → IsPartShown shows ls fs (take count (rest_of (opened channel name t) channel)) gained
        → IsPartShown shows ls fs (take (0 + count) (bytes_of t name)) gained
    read_from_start count gained part =
        let so_far : count ≡ 0 + count = omega arith in
        subst (λ (n : ℕ). IsPartShown shows ls fs (take n (bytes_of t name)) gained) so_far
        (subst (λ (bytes : List ℕ). IsPartShown shows ls fs (take count bytes) gained) whole part)

    pub cut_short : (why : FailedCall) → Broken shows ls fs channel why (opened channel name t) n → CutShort shows ls fs name why t n
    unfolding left_open
    cut_short why b = record {
      gained = b.gained;
      grew = grew b.asked b.count b.gained b.going;
      blame = b.blame ∙ ap (λ (u : Use). blamed_for why (name_if_reading u)) (at_number-same channel (reads name 0 0) t.uses);
      stays = left_open b.asked b.count b.gained b.going why (printed_text shows ls fs) (printed_fault ls fs) b.read b.needed b.written;
      part = subst (λ (bytes : List ℕ). IsPartShown shows ls fs bytes b.gained) whole b.part;
      part_read = read_from_start b.count b.gained b.part_read;
    }

    -- it was followed to its end, and could not be finished
    pub unfinished : (fault : Option StimFault) → Followed shows ls fs channel fault [] (opened channel name t) n
        → CutShort shows ls fs name Input t (blame_at channel (name_if_open (n.uses channel)) n)
    unfolding left_open
    unfinished fault f =
        let read : List ℕ = rest_of (opened channel name t) channel in
        subst (λ (x : Told). CutShort shows ls fs name Input t x) (sym (blame_is channel name n above (name_if_open (n.uses channel)) n))
        (record {
          gained = f.gained;
          grew = blamed_grew f.asked f.count f.gained f.going;
          blame = ap name_if_open (use_is f.asked f.count f.gained f.going);
          stays = left_open f.asked f.count f.gained f.going Input (printed_text shows ls fs) (printed_fault ls fs) f.read f.needed
              (subst (λ (p : Parsed). shows p.stream f.gained) (sym f.enough) (all_shown fault f));
          part = subst (λ (bytes : List ℕ). IsPartShown shows ls fs bytes f.gained) whole (record {
            lines = (stimulus_of ls fs read).stream;
            more = [];
            stream = sym (append-nil (stimulus_of ls fs read).stream);
            rest = [];
            shown = f.shown;
          });
          part_read = read_from_start f.count f.gained (record {
            lines = (stimulus_of ls fs (take f.count read)).stream;
            more = [];
            stream = sym (append-nil (stimulus_of ls fs (take f.count read)).stream);
            rest = [];
            shown = subst (λ (p : Parsed). shows p.stream (f.gained ++ [])) (sym f.enough) f.shown;
          });
        })

  -- why, at a desk on which no call is still to fail by its number
  pub fails_for : (why : FailedCall) (fault : FaultOf) → FailsFor (GoesTooFar fault channel) why (opened channel name t) n → FailsFor (MissingOrTooLong fault name) why t n
  fails_for Input fault far = inr (subst (IsTooLong fault) whole (far (subst IsReading (sym (at_number-same channel (reads name 0 0) t.uses)) tt)))
  fails_for Output fault full = λ writing.
      full (subst IsWriting (sym (ap (λ (b : Bool). cond b (reads name 0 0) (t.uses 1)) (other_number 1 channel (omega arith)))) writing)

-- it could not be opened

pub unopened : (shows : Shows) (ls : Levels) (fs : List Field) (name : List ℕ) (old new : Option Told) → new ≡ option_map (blamed name) old
    → Between old new (Stops (CallFailed shows ls fs name) (Call Input))
unopened shows ls fs name None new is = tt
unopened shows ls fs name (Some t) new is = subst (λ (o : Option Told). Between (Some t) o (Stops (CallFailed shows ls fs name) (Call Input))) (sym is) (inl (refl, refl))

pub missing : (fault : FaultOf) (name : List ℕ) (old new : Option Told) → new ≡ option_map (blamed name) old → IfSome old (λ t. t.files name ≡ None)
    → Between old new (Stops (FailsFor (MissingOrTooLong fault name)) (Call Input))
missing fault name None new is none = tt
missing fault name (Some t) new is none = subst (λ (o : Option Told). Between (Some t) o (Stops (FailsFor (MissingOrTooLong fault name)) (Call Input))) (sym is) (inl none)

-- a channel that is open can be finished
pub never_unfinished : (channel : ℕ) (name : List ℕ) (R Q : Told → Told → Type 0) (f : Told → Told) (old one two three : Option Told) → one ≡ option_map (opened channel name) old
    → three ≡ option_map f two → ((t n : Told) → R (opened channel name t) n → IsOpen (n.uses channel)) → Between one two R
    → IfSome two (λ n. IsOpen (n.uses channel) → ⊥) → Between old three Q
never_unfinished channel name R Q f None one two three is also open_now b shut = tt
never_unfinished channel name R Q f (Some t) one two three is also open_now b shut =
    let here : Between (Some (opened channel name t)) two R = subst (λ (o : Option Told). Between o two R) is b in
    onto two here shut where
      onto : (two : Option Told) → Between (Some (opened channel name t)) two R → IfSome two (λ n. IsOpen (n.uses channel) → ⊥) → Between (Some t) three Q
      onto None r s = absurd r
      onto (Some n) r s = absurd (s (open_now t n r))

pub still_open : (channel : ℕ) (asked : Option ℕ) (count : ℕ) (name gained : List ℕ) (t n : Told) → Going channel asked count gained (opened channel name t) n → IsOpen (n.uses channel)
still_open channel asked count name gained t n going =
    let reading : n.uses channel ≡ reads name (last_place asked) (0 + count)
    = ap (λ (u : ℕ → Use). u channel) going.uses
    ∙ at_number-same channel (read_on_use asked count ((opened channel name t).uses channel)) (opened channel name t).uses
    ∙ ap (read_on_use asked count) (at_number-same channel (reads name 0 0) t.uses)
    ∙ opened_on asked count name in
    subst IsOpen (sym reading) tt

-- there was no memory to open it
pub unchanged : (Failure : FailedCall → Told → Told → Type 0) (old new : Option Told) → new ≡ old → Between old new (Stops Failure Memory)
unchanged Failure None new is = tt
unchanged Failure (Some t) new is = subst (λ (o : Option Told). Between (Some t) o (Stops Failure Memory)) (sym is) refl
