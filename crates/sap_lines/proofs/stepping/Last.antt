-- The last of the text is written, when all lines were given.
use Rattle.sap_lemmas.proofs.Common.{◌≡◌, ℕ, ◌<◌, List, [], ◌++◌, take, drop, append_assoc, refl, sym, ◌∙◌, ap, subst, codes, Option, Some, IfSome, option_map, append-nil, take-append-drop}
use Rattle.sap_desk.specs.Desk.{Told, IsWriting, added, blamed, rest_of}
use Rattle.sap_desk.specs.Cause.{FillsRoom}
use Rattle.sap_desk.specs.Whole.{Between, CutOutput}
use Rattle.sap_lattice.specs.Levels.{Levels}
use Rattle.sap_stim.specs.declared.fault.StimFault.{StimFault}
use Rattle.sap_stim.specs.declared.field.Field.{Field}
use Rattle.sap_stim.specs.declared.stimulus.Parsed.{Parsed}
use Rattle.sap_stim.specs.Stimulus.{stimulus_of}
use Rattle.sap_lines.specs.declared.stepping.stopped.FailedCall.TheVariants.{Output}
use Rattle.sap_lines.specs.Stepping.Followed.{Broken, FailsFor, Followed, GoesTooFar, last_place}
use Rattle.sap_lines.specs.Stepping.Pace.{Shows, printed_fault}
use Rattle.sap_lines.proofs.stepping.Between.{known_after, onward}
use Rattle.sap_lines.proofs.stepping.Going.{going_added, going_blamed, output_use}
use Rattle.sap_lines.proofs.stepping.Pace.{written_more}

module _ (shows : Shows) (ls : Levels) (fs : List Field) (channel : ℕ) (fault : Option StimFault) (waiting : List ℕ) where
  last_written : (t m : Told) → Followed shows ls fs channel fault waiting t m → Followed shows ls fs channel fault [] t (added 1 waiting m)
  last_written t m f = record {
    asked = f.asked;
    count = f.count;
    gained = f.gained ++ waiting;
    going = going_added channel f.asked f.count f.gained t m f.going waiting;
    read = f.read;
    is_fault = f.is_fault;
    shown = subst (shows (stimulus_of ls fs (rest_of t channel)).stream) (sym (append-nil (f.gained ++ waiting))) f.shown;
    enough = f.enough;
    needed = f.needed;
    written = written_more shows ls fs (rest_of t channel) f.count (last_place f.asked) f.gained waiting f.written;
    blame = f.blame;
  }

  pub whole_written : (before mid one : Option Told) → one ≡ option_map (added 1 waiting) mid → Between before mid (Followed shows ls fs channel fault waiting)
      → Between before one (Followed shows ls fs channel fault [])
  whole_written before mid one wrote f =
      onward (Followed shows ls fs channel fault waiting) (Followed shows ls fs channel fault []) (added 1 waiting) before mid one wrote last_written f

  -- or a part of it

  abbrev cut_at : (part : ℕ) → Told → Told
  cut_at part m = blamed (codes "output") (added 1 (take part waiting) m)

  last_cut : (part : ℕ) (t m : Told) → Followed shows ls fs channel fault waiting t m → Broken shows ls fs channel Output t (cut_at part m)
  last_cut part t m f =
      let stream = (stimulus_of ls fs (rest_of t channel)).stream in
      let front : List ℕ = take f.count (rest_of t channel) in
      let whole : (f.gained ++ take part waiting) ++ drop part waiting ≡ f.gained ++ waiting
      = append_assoc f.gained (take part waiting) (drop part waiting) ∙ ap (λ (l : List ℕ). f.gained ++ l) (take-append-drop part waiting) in
      record {
        asked = f.asked;
        count = f.count;
        gained = f.gained ++ take part waiting;
        going = going_blamed channel f.asked f.count (f.gained ++ take part waiting) (codes "output") t (added 1 (take part waiting) m)
            (going_added channel f.asked f.count f.gained t m f.going (take part waiting));
        read = f.read;
        part = record {
          lines = stream;
          more = [];
          stream = sym (append-nil stream);
          rest = drop part waiting;
          shown = subst (shows stream) (sym whole) f.shown;
        };
        part_read = record {
          lines = (stimulus_of ls fs front).stream;
          more = [];
          stream = sym (append-nil (stimulus_of ls fs front).stream);
          rest = drop part waiting;
          shown = subst (λ (p : Parsed). shows p.stream ((f.gained ++ take part waiting) ++ drop part waiting)) (sym f.enough) (subst (shows stream) (sym whole) f.shown);
        };
        needed = f.needed;
        written = written_more shows ls fs (rest_of t channel) f.count (last_place f.asked) f.gained (take part waiting) f.written;
        blame = refl;
      }

  pub whole_cut : (before mid one : Option Told) → CutOutput waiting mid one → Between before mid (Followed shows ls fs channel fault waiting)
      → Between before one (Broken shows ls fs channel Output)
  whole_cut before mid one failed f =
      onward (Followed shows ls fs channel fault waiting) (Broken shows ls fs channel Output) (cut_at failed.count) before mid one failed.told (last_cut failed.count) f

  -- why: it fills the room

  last_cause : 2 < channel → (part : ℕ) (t m : Told) → Followed shows ls fs channel fault waiting t m
      → (IsWriting (m.uses 1) → FillsRoom 1 waiting m (Some (cut_at part m))) → FailsFor (GoesTooFar (printed_fault ls fs) channel) Output t (cut_at part m)
  last_cause above part t m f full =
      λ writing. (full (subst IsWriting (sym (output_use channel f.asked f.count f.gained t m f.going above)) writing)).full

  pub whole_cause : 2 < channel → (before mid one : Option Told) → CutOutput waiting mid one
      → IfSome mid (λ m. IsWriting (m.uses 1) → FillsRoom 1 waiting m one) → Between before mid (Followed shows ls fs channel fault waiting)
      → Between before one (FailsFor (GoesTooFar (printed_fault ls fs) channel) Output)
  whole_cause above before mid one failed full f =
      known_after (Followed shows ls fs channel fault waiting) (FailsFor (GoesTooFar (printed_fault ls fs) channel) Output)
      (cut_at failed.count) (λ m o. IsWriting (m.uses 1) → FillsRoom 1 waiting m o)
      before mid one failed.told (last_cause above failed.count) f full
