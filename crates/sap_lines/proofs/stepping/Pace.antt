-- How far a channel was read, and what was written by then, from one line to the next.
use Rattle.sap_lemmas.proofs.Common.{◌≡◌, ℕ, ◌+◌, ◌-◌, ◌≤◌, List, [], ◌++◌, take, drop, append_assoc, refl, sym, ◌∙◌, ap, ap₂, subst, inl, inr, ◌⊎◌, arith, length-drop, Option, Some, None, append-nil, drop-take, take-append-drop, take-take}
use Rattle.sap_desk.specs.Whole.{IsReadTo}
use Rattle.sap_desk.proofs.Steps.{last_asked}
use Rattle.sap_lattice.specs.Levels.{Levels}
use Rattle.sap_meaning.specs.Cycle.{Tagged as Given}
use Rattle.sap_stream.specs.Spans.{Span, cycles_of}
use Rattle.sap_stim.specs.declared.field.Field.{Field}
use Rattle.sap_stim.specs.declared.stimulus.Parsed.{Parsed}
use Rattle.sap_stim.specs.Stimulus.{behind, read_from, stimulus_of}
use Rattle.sap_lines.specs.declared.stepping.stopped.FailedCall.TheVariants.{Input, Output}
use Rattle.sap_lines.specs.Fetched.{IsDecided}
use Rattle.sap_lines.specs.Follows.{Follows}
use Rattle.sap_lines.specs.Reader.{Reader}
use Rattle.sap_lines.specs.Stepping.Followed.{last_place}
use Rattle.sap_lines.specs.Stepping.Pace.{FaultOf, IsNeeded, IsWritten, Shows, TellsRefusal, printed_fault, printed_text}
use Rattle.sap_lines.proofs.Undecided.{no_cycles, no_fault, undecided_front}

-- so many bytes, and then more behind them
pub front_more : (count k : ℕ) (bytes : List ℕ) → take (count + k) bytes ≡ take count bytes ++ take k (drop count bytes)
front_more count k bytes =
    sym (take-append-drop count (take (count + k) bytes))
    ∙ ap₂ (λ (l m : List ℕ). l ++ m) (take-take count (count + k) bytes (omega arith)) (drop-take count k bytes)

-- what some bytes tell, more of them tell too
pub tells_on : (fault : FaultOf) (bytes : List ℕ) (few many : ℕ) → few ≤ many → TellsRefusal fault (take few bytes) → TellsRefusal fault (take many bytes)
tells_on fault bytes few many less (why, all) = (why, so) where
  rest_of_many : List ℕ
  rest_of_many = take (many - few) (drop few bytes)

  both : take many bytes ≡ take few bytes ++ rest_of_many
  both = let sum : many ≡ few + (many - few) = omega (arith, less) in ap (λ (n : ℕ). take n bytes) sum ∙ front_more few (many - few) bytes

  so : (rest : List ℕ) → fault (take many bytes ++ rest) ≡ Some why
  so rest = ap fault (ap (λ (l : List ℕ). l ++ rest) both ∙ append_assoc (take few bytes) rest_of_many rest) ∙ all (rest_of_many ++ rest)

-- a reader gave some lines of these bytes, and the bytes behind them don't tell the next

module _ (ls : Levels) (fs : List Field) (front : List ℕ) (lines : List Span) (r : Reader) (follows : (rest : List ℕ) → Follows ls fs (front ++ rest) lines r rest) (more : List ℕ)
    (wants : IsDecided (r.pending ++ more) → ⊥) where
  read_behind : (rest : List ℕ) → stimulus_of ls fs (front ++ (more ++ rest)) ≡ behind (cycles_of lines) (read_from ls r.fields (r.count + 1) ((r.pending ++ more) ++ rest))
  read_behind rest =
      sym ((follows (more ++ rest)).parsed) ∙ ap (λ (l : List ℕ). behind (cycles_of lines) (read_from ls r.fields (r.count + 1) l)) (sym (append_assoc r.pending more rest))

  pub untold : TellsRefusal (printed_fault ls fs) (front ++ more) → ⊥
  untold (why, all) =
      no_fault ls r.fields (r.count + 1) (r.pending ++ more) why wants (λ rest.
      sym (ap (λ (p : Parsed). p.fault) (read_behind rest)) ∙ ap (printed_fault ls fs) (sym (append_assoc front more rest)) ∙ all rest)

  pub lines_alone : (stimulus_of ls fs (front ++ more)).stream ≡ cycles_of lines
  lines_alone =
      let whole : (r.pending ++ more) ++ [] ≡ r.pending ++ more = append-nil (r.pending ++ more) in
      ap (λ (l : List ℕ). (stimulus_of ls fs (front ++ l)).stream) (sym (append-nil more))
      ∙ ap (λ (p : Parsed). p.stream) (read_behind [])
      ∙ ap (λ (l : List ℕ). cycles_of lines ++ (read_from ls r.fields (r.count + 1) l).stream) whole
      ∙ ap (λ (cycles : List (List Given)). cycles_of lines ++ cycles) (no_cycles ls r.fields (r.count + 1) (r.pending ++ more) wants)
      ∙ append-nil (cycles_of lines)

module _ (base : Shows) (ls : Levels) (fs : List Field) (bytes : List ℕ) (count : ℕ) where
  abbrev Needed : (before : ℕ) → Type 0
  Needed before = IsNeeded (printed_fault ls fs) (take before bytes)

  abbrev WrittenBefore : (before n : ℕ) → (gained : List ℕ) → Type 0
  WrittenBefore before n gained = IsWritten Output (printed_text base ls fs) (take before bytes) (take n bytes) gained

  -- what was written more
  pub written_more : (before : ℕ) (gained piece : List ℕ) → WrittenBefore before count gained → WrittenBefore before count (gained ++ piece)
  written_more before gained piece (whole, more, is, all) = (whole, more ++ piece, is, ap (λ (l : List ℕ). l ++ piece) all ∙ append_assoc whole more piece)

  module _ (lines : List Span) (r : Reader) (gained waiting : List ℕ) (follows : (rest : List ℕ) → Follows ls fs (take count bytes ++ rest) lines r rest)
      (shown : base (cycles_of lines) (gained ++ waiting)) (quiet : IsDecided r.pending ⊎ (waiting ≡ [])) where
    -- nothing waits where the bytes behind the lines don't tell the next
    none_waits : (more : List ℕ) → (IsDecided (r.pending ++ more) → ⊥) → waiting ≡ []
    none_waits more wants = elim quiet [
      | inl told ↦ absurd (undecided_front r.pending more wants told)
      | inr none ↦ none
    ]

    all_gained : (k : ℕ) → (IsDecided (r.pending ++ take k (drop count bytes)) → ⊥) → gained ++ waiting ≡ gained
    all_gained k wants = ap (λ (l : List ℕ). gained ++ l) (none_waits (take k (drop count bytes)) wants) ∙ append-nil gained

    lines_are : (k : ℕ) → (IsDecided (r.pending ++ take k (drop count bytes)) → ⊥) → (stimulus_of ls fs (take (count + k) bytes)).stream ≡ cycles_of lines
    lines_are k wants =
        ap (λ (l : List ℕ). (stimulus_of ls fs l).stream) (front_more count k bytes) ∙ lines_alone ls fs (take count bytes) lines r follows (take k (drop count bytes)) wants

    -- all is written that the bytes give
    pub all_written : (k : ℕ) → (IsDecided (r.pending ++ take k (drop count bytes)) → ⊥) → (before : ℕ)
        → IsWritten Input (printed_text base ls fs) (take before bytes) (take (count + k) bytes) gained
    all_written k wants before = subst (λ (cycles : List (List Given)). base cycles gained) (sym (lines_are k wants)) (subst (base (cycles_of lines)) (all_gained k wants) shown)

    -- none of them tells a refused line, nor do fewer
    pub not_told : (k few : ℕ) → (IsDecided (r.pending ++ take k (drop count bytes)) → ⊥) → few ≤ count + k → TellsRefusal (printed_fault ls fs) (take few bytes) → ⊥
    not_told k few wants less told =
        untold ls fs (take count bytes) lines r follows (take k (drop count bytes)) wants
        (subst (TellsRefusal (printed_fault ls fs)) (front_more count k bytes) (tells_on (printed_fault ls fs) bytes few (count + k) less told))

    -- where the last piece was wanted for the next line

    abbrev pub Wanted : (k : ℕ) → (asked : Option ℕ) → Type 0
    Wanted k None = k ≡ 0
    Wanted k (Some few) = IsReadTo None (drop count bytes) few k × (IsDecided (r.pending ++ take few (drop count bytes)) → ⊥)

    pub needed_read : (first : Option ℕ) (k : ℕ) (asked : Option ℕ) → Wanted k asked → Needed (last_place first) → Needed (last_place (last_asked first count asked))
    needed_read first k None none needed = needed
    needed_read first k (Some few) (read, wants) needed = not_told few (count + few) wants (omega arith)

    pub written_read : (first : Option ℕ) (k : ℕ) (asked : Option ℕ) → Wanted k asked → WrittenBefore (last_place first) count gained
        → WrittenBefore (last_place (last_asked first count asked)) (count + k) gained
    written_read first k None none written = written
    written_read first k (Some few) (read, wants) written = (gained, [], all_written few wants 0, sym (append-nil gained))

    pub read_further : (first : Option ℕ) (k : ℕ) (asked : Option ℕ) → Wanted k asked → IsReadTo None bytes (last_place first) count
        → IsReadTo None bytes (last_place (last_asked first count asked)) (count + k)
    read_further first k None none so_far = subst (λ (n : ℕ). IsReadTo None bytes (last_place first) n) (let e : count ≡ count + k = omega (arith, none) in e) so_far
    read_further first k (Some few) (read, wants) so_far = record {
      within = omega (arith, read.within, so_far.within, length-drop count bytes);
      from = omega (arith, read.from);
      piece = omega (arith, read.piece);
      most = tt;
    }

-- where nothing was read

pub needed_none : (ls : Levels) (fs : List Field) (bytes : List ℕ) → IsNeeded (printed_fault ls fs) (take 0 bytes)
needed_none ls fs bytes told = let (why, all) = told in let e : None ≡ Some why = all [] in let f : ⊥ = cc in f

pub written_none : (base : Shows) (ls : Levels) (fs : List Field) (bytes : List ℕ) → base [] [] → IsWritten Output (printed_text base ls fs) (take 0 bytes) (take 0 bytes) []
written_none base ls fs bytes shown = ([], [], shown, refl)

pub read_none : (bytes : List ℕ) → IsReadTo None bytes 0 0
read_none bytes = record { within = omega arith; from = omega arith; piece = omega arith; most = tt }
