-- Lines, read one after another.
use Rattle.sap_lemmas.proofs.Common.{◌≡◌, ℕ, ◌+◌, ◌*◌, ◌<◌, ◌≤◌, Bool, true, false, Option, Some, Result, Ok, Err, ltb, List, [], ◌∷◌, ◌++◌, length, refl, sym, ap, ap₂, subst, IfOk, ◌∙◌, inl, inr, append_assoc, length-append, arith, position_or_len, before_first, after_first, append-nil, length-drop, length-replicate, cases_lt, le-ltb, lt-ltb}
use Rattle.sap_stream.proofs.SpansLemmas.{cycles_more}
use Rattle.sap_lattice.specs.Levels.{Levels}
use Rattle.sap_meaning.specs.Cycle.{Tagged as Given}
use Rattle.sap_stream.specs.Spans.{Span, IsCount, cycles_in, cycles_of}
use Rattle.sap_stim.specs.declared.fault.StimCode.{StimCode}
use Rattle.sap_stim.specs.declared.fault.StimFault.{StimFault}
use Rattle.sap_stim.specs.declared.field.Field.{Field}
use Rattle.sap_stim.specs.declared.stimulus.Parsed.{Parsed}
use Rattle.sap_text.specs.Lines.{split_at}
use Rattle.sap_stim.specs.Line.{line_of}
use Rattle.sap_stim.specs.Stimulus.{finished, going_on, read_pieces, read_from, behind}
use Rattle.sap_stim.proofs.Fitting.{line_counts}
use Rattle.sap_stim.proofs.Pieces.{is_mark, split_marked, split_unmarked, before_unmarked, after_unmarked, length_before, split_count}

abbrev before : List ℕ → List ℕ
before s = before_first (is_mark 10) s

abbrev after : List ℕ → List ℕ
after s = after_first (is_mark 10) s

pieces_go_on : (ls : Levels) (fs : List Field) (n : ℕ) (text : List ℕ) (ps : List (List ℕ)) → 0 < length ps
    → read_pieces ls fs n (text ∷ ps) ≡ going_on n (line_of ls fs true text) (read_pieces ls fs (n + 1) ps)
pieces_go_on ls fs n text [] h = absurd (omega arith)
pieces_go_on ls fs n text (next ∷ rest) h = refl

last_piece : (ls : Levels) (fs : List Field) (n : ℕ) (text : List ℕ) → 0 < length text → read_pieces ls fs n (text ∷ []) ≡ going_on n (line_of ls fs false text) finished
last_piece ls fs n [] h = absurd (omega arith)
last_piece ls fs n (b ∷ bs) h = refl

-- one line, and then the others
pub read_line : (ls : Levels) (fs : List Field) (n : ℕ) (s : List ℕ) → 0 < length s
    → read_from ls fs n s ≡ going_on n (line_of ls fs (ltb (length (before_first (is_mark 10) s)) (length s)) (before_first (is_mark 10) s))
    (read_from ls fs (n + 1) (after_first (is_mark 10) s))
read_line ls fs n s h =
    elim (cases_lt (position_or_len (is_mark 10) s) (length s)) [
      | inr unmarked ↦
          let whole : before s ≡ s = before_unmarked 10 s unmarked in
          ap (read_pieces ls fs n) (split_unmarked 10 s unmarked)
          ∙ last_piece ls fs n s h
          ∙ ap₂ (λ (b : Bool) (t : List ℕ). going_on n (line_of ls fs b t) finished)
          (sym (le-ltb (length (before s)) (length s) (let e : length (before s) ≡ length s = ap length whole in omega arith))) (sym whole)
          ∙ ap (λ (t : List ℕ). going_on n (line_of ls fs (ltb (length (before s)) (length s)) (before s)) (read_from ls fs (n + 1) t)) (sym (after_unmarked 10 s unmarked))
      | inl marked ↦
          ap (read_pieces ls fs n) (split_marked 10 s marked)
          ∙ pieces_go_on ls fs n (before s) (split_at 10 (after s)) (let e = split_count 10 (after s) in omega arith)
          ∙ ap (λ (b : Bool). going_on n (line_of ls fs b (before s)) (read_from ls fs (n + 1) (after s)))
          (sym (lt-ltb (length (before s)) (length s) (let e = length_before 10 s marked in omega arith)))
    ]

pub shorter : (m : ℕ) (s : List ℕ) → 0 < length s → length (after_first (is_mark m) s) < length s
shorter m s h = let e = length-drop (position_or_len (is_mark m) s + 1) s in omega arith

-- a line that gives its cycles
pub parse_more : (ls : Levels) (fs : List Field) (spans next : List Span) (s text later : List ℕ) (span : Span) → 0 < length s
    → Ok span ≡ line_of ls fs (ltb (length text) (length s)) text → text ≡ before_first (is_mark 10) s → later ≡ after_first (is_mark 10) s → next ≡ spans ++ span ∷ []
    → behind (cycles_of next) (read_from ls fs (length next + 1) later) ≡ behind (cycles_of spans) (read_from ls fs (length spans + 1) s)
parse_more ls fs spans next s text later span h given t l e =
    let n : length (spans ++ span ∷ []) + 1 ≡ length spans + 1 + 1 = simp length-append (omega arith) in
    let rest : Parsed = read_from ls fs (length spans + 1 + 1) (after s) in
    ap₂ (λ (xs : List Span) (y : List ℕ). behind (cycles_of xs) (read_from ls fs (length xs + 1) y)) e l
    ∙ ap (λ (k : ℕ). behind (cycles_of (spans ++ span ∷ [])) (read_from ls fs k (after s))) n
    ∙ ap (λ (xs : List (List Given)). let p : Parsed = record { stream = xs; fault = rest.fault } in p)
    (ap (λ (xs : List (List Given)). xs ++ rest.stream) (cycles_more spans span) ∙ append_assoc (cycles_of spans) (cycles_in span) rest.stream)
    ∙ ap (λ (r : Result Span StimCode). behind (cycles_of spans) (going_on (length spans + 1) r rest)) (given ∙ ap (λ (y : List ℕ). line_of ls fs (ltb (length y) (length s)) y) t)
    ∙ ap (behind (cycles_of spans)) (sym (read_line ls fs (length spans + 1) s h))

-- a line that is refused
pub parse_stops : (ls : Levels) (fs : List Field) (spans : List Span) (s text : List ℕ) (code : StimCode) (p : Parsed) → 0 < length s
    → Err code ≡ line_of ls fs (ltb (length text) (length s)) text → text ≡ before_first (is_mark 10) s → p.stream ≡ cycles_of spans
    → p.fault ≡ Some (record { line = length spans + 1; code = code })
    → p ≡ behind (cycles_of spans) (read_from ls fs (length spans + 1) s)
parse_stops ls fs spans s text code p h given t stream fault =
    ap₂ (λ (xs : List (List Given)) (f : Option StimFault). let q : Parsed = record { stream = xs; fault = f } in q) (stream ∙ sym (append-nil (cycles_of spans))) fault
    ∙ ap (λ (r : Result Span StimCode). behind (cycles_of spans)
    (going_on (length spans + 1) r (read_from ls fs (length spans + 1 + 1) (after s)))) (given ∙ ap (λ (y : List ℕ). line_of ls fs (ltb (length y) (length s)) y) t)
    ∙ ap (behind (cycles_of spans)) (sym (read_line ls fs (length spans + 1) s h))

-- the lines that were read are few
pub few_more : (spans next : List Span) (span : Span) (s later : List ℕ) (n : ℕ) → 0 < length s → length spans + length s ≤ n
    → later ≡ after_first (is_mark 10) s → next ≡ spans ++ span ∷ [] → length next + length later ≤ n
few_more spans next span s later n h few l e =
    let a : length next ≡ length spans + 1 = ap length e ∙ length-append spans (span ∷ []) in
    let b : length later < length s = let q : length later ≡ length (after_first (is_mark 10) s) = ap length l in let r = shorter 10 s h in omega arith in
    omega arith

-- each of them is for few cycles
pub short_more : (ls : Levels) (fs : List Field) (ended : Bool) (text : List ℕ) (spans next : List Span) (span : Span)
    → Ok span ≡ line_of ls fs ended text → next ≡ spans ++ span ∷ []
    → length (cycles_of spans) ≤ 65535 * length spans → length (cycles_of next) ≤ 65535 * length next
short_more ls fs ended text spans next span given e short =
    let P : Result Span StimCode → Type 0 = λ r. IfOk r (λ x. IsCount x.count) in
    let count : IsCount span.count = subst P (sym given) (line_counts ls fs ended text) in
    let most : span.count ≤ 65535 = count.1 in
    let a : length next ≡ length spans + 1 = ap length e ∙ length-append spans (span ∷ []) in
    let b : length (cycles_of next) ≡ length (cycles_of spans) + span.count =
    ap (λ (xs : List Span). length (cycles_of xs)) e ∙ ap length (cycles_more spans span) ∙ length-append (cycles_of spans) (cycles_in span)
    ∙ ap (λ (k : ℕ). length (cycles_of spans) + k) (length-replicate span.count span.inputs) in
    omega arith
