-- The first line of bytes, whatever comes behind them.
use Rattle.sap_lemmas.proofs.Common.{◌≡◌, ℕ, suc, ◌+◌, ◌-◌, ◌<◌, ◌≤◌, Bool, true, false, not, cond, eqb, ltb, Result, Ok, Err, List, [], ◌∷◌, ◌++◌, length, take, drop, refl, sym, ap, ap₂, ◌∙◌, inl, inr, length-append, length-take, length-drop, arith, if◌then◌else◌, min, ◌⊎◌, ◌||◌, nat_lt, position_or_len, before_first, after_first, list_any, append-nil, take-append-le, drop-append-le, cases_lt, ltb-true as is_below, lt-ltb, nat_tests}
use Rattle.sap_lattice.specs.Levels.{Levels}
use Rattle.sap_stream.specs.Spans.{Span}
use Rattle.sap_stim.specs.declared.fault.StimCode.{StimCode}
use Rattle.sap_stim.specs.declared.fault.StimCode.TheVariants.{S1, S5}
use Rattle.sap_stim.specs.declared.field.Field.{Field}
use Rattle.sap_stim.specs.Line.{line_of}
use Rattle.sap_stim.specs.Stimulus.{ahead, finished, stopped, going_on, read_from}
use Rattle.sap_stim.proofs.Pieces.{is_mark, before_unmarked, length_before}
use Rattle.sap_stim.proofs.Lines.{read_line}
use Rattle.sap_lines.specs.Answers.{BeginsWith}
use Rattle.sap_lines.specs.Fetched.{IsDecided}

abbrev pub place : List ℕ → ℕ
place s = position_or_len (is_mark 10) s

abbrev pub before : List ℕ → List ℕ
before s = before_first (is_mark 10) s

abbrev pub after : List ℕ → List ℕ
after s = after_first (is_mark 10) s

-- an LF among the bytes has a place there
pub any_marked : (s : List ℕ) → list_any (is_mark 10) s ≡ true → place s < length s
any_marked [] e = absurd (let f : ⊥ = cc in f)
any_marked (b ∷ bs) e =
    elim (eqb b 10) as (λ t. (t || list_any (is_mark 10) bs) ≡ true → cond (not t) (1 + place bs) 0 < suc (length bs)) [
      | true ↦ λ _. omega arith
      | false ↦ λ h. let r = any_marked bs h in omega arith
    ] e

pub marked_any : (s : List ℕ) → place s < length s → list_any (is_mark 10) s ≡ true
marked_any [] h = absurd (omega arith)
marked_any (b ∷ bs) h =
    elim (eqb b 10) as (λ t. cond (not t) (1 + place bs) 0 < suc (length bs) → (t || list_any (is_mark 10) bs) ≡ true) [
      | true ↦ λ _. refl
      | false ↦ λ small. marked_any bs (omega arith)
    ] h

-- bytes behind an LF don't move it
place_more : (s rest : List ℕ) → place s < length s → place (s ++ rest) ≡ place s
place_more [] rest h = absurd (omega arith)
place_more (b ∷ bs) rest h =
    elim (eqb b 10) as (λ t. cond (not t) (1 + place bs) 0 < suc (length bs) → cond (not t) (1 + place (bs ++ rest)) 0 ≡ cond (not t) (1 + place bs) 0) [
      | true ↦ λ _. refl
      | false ↦ λ small. ap (λ (k : ℕ). 1 + k) (place_more bs rest (omega arith))
    ] h

-- where there is none, one comes behind
place_none : (s rest : List ℕ) → length s ≤ place s → length s ≤ place (s ++ rest)
place_none [] rest h = omega arith
place_none (b ∷ bs) rest h =
    elim (eqb b 10) as (λ t. suc (length bs) ≤ cond (not t) (1 + place bs) 0 → suc (length bs) ≤ cond (not t) (1 + place (bs ++ rest)) 0) [
      | true ↦ λ large. absurd (omega arith)
      | false ↦ λ large. let r = place_none bs rest (omega arith) in omega arith
    ] h

too_long : (ls : Levels) (fs : List Field) (ended : Bool) (text : List ℕ) → 65536 < length text → line_of ls fs ended text ≡ Err S1
too_long ls fs ended text h = let e : nat_lt 65536 (length text) ≡ true = lt-ltb 65536 (length text) h in rw e refl

-- what the first line gives, with its end or without
abbrev pub first_of : Levels → List Field → List ℕ → Result Span StimCode
first_of ls fs s = line_of ls fs (ltb (length (before s)) (length s)) (before s)

before_more : (s rest : List ℕ) → place s < length s → before (s ++ rest) ≡ before s
before_more s rest h = ap (λ (k : ℕ). take k (s ++ rest)) (place_more s rest h) ∙ take-append-le (place s) s rest (omega arith)

marked_same : (ls : Levels) (fs : List Field) (s rest : List ℕ) → place s < length s → first_of ls fs (s ++ rest) ≡ first_of ls fs s
marked_same ls fs s rest h =
    let same : before (s ++ rest) ≡ before s = before_more s rest h in
    let size : length (before s) ≡ place s = length_before 10 s h in
    let sizes : length (before (s ++ rest)) ≡ length (before s) = ap length same in
    let whole : length (s ++ rest) ≡ length s + length rest = length-append s rest in
    let one : ltb (length (before (s ++ rest))) (length (s ++ rest)) ≡ true = lt-ltb (length (before (s ++ rest))) (length (s ++ rest)) (omega arith) in
    let other : ltb (length (before s)) (length s) ≡ true = lt-ltb (length (before s)) (length s) (omega arith) in
    ap₂ (λ (b : Bool) (t : List ℕ). line_of ls fs b t) (one ∙ sym other) same

long_same : (ls : Levels) (fs : List Field) (s rest : List ℕ) → length s ≤ place s → 65536 < length s → first_of ls fs (s ++ rest) ≡ first_of ls fs s
long_same ls fs s rest unmarked long =
    let none = place_none s rest unmarked in
    let whole : length (s ++ rest) ≡ length s + length rest = length-append s rest in
    let size : length (before (s ++ rest)) ≡ min (place (s ++ rest)) (length (s ++ rest)) = length-take (place (s ++ rest)) (s ++ rest) in
    let size_one : length (before s) ≡ min (place s) (length s) = length-take (place s) s in
    too_long ls fs (ltb (length (before (s ++ rest))) (length (s ++ rest))) (before (s ++ rest)) (omega arith)
    ∙ sym (too_long ls fs (ltb (length (before s)) (length s)) (before s) (omega arith))

first_same : (ls : Levels) (fs : List Field) (s rest : List ℕ) → IsDecided s ⊎ (rest ≡ []) → first_of ls fs (s ++ rest) ≡ first_of ls fs s
first_same ls fs s rest (inl (inl long)) =
    elim (cases_lt (place s) (length s)) [
      | inl marked ↦ marked_same ls fs s rest marked
      | inr unmarked ↦ long_same ls fs s rest unmarked long
    ]
first_same ls fs s rest (inl (inr found)) = marked_same ls fs s rest (any_marked s found)
first_same ls fs s rest (inr none) = ap (first_of ls fs) (ap (λ (r : List ℕ). s ++ r) none ∙ append-nil s)

-- one line, and then the others
pub line_read : (ls : Levels) (fs : List Field) (n : ℕ) (s rest : List ℕ) → 0 < length s → IsDecided s ⊎ (rest ≡ [])
    → read_from ls fs n (s ++ rest) ≡ going_on n (first_of ls fs s) (read_from ls fs (n + 1) (after (s ++ rest)))
line_read ls fs n s rest some decided =
    let whole : length (s ++ rest) ≡ length s + length rest = length-append s rest in
    read_line ls fs n (s ++ rest) (omega arith)
    ∙ ap (λ (r : Result Span StimCode). going_on n r (read_from ls fs (n + 1) (after (s ++ rest)))) (first_same ls fs s rest decided)

-- what is behind it
pub after_more : (s rest : List ℕ) → place s < length s → after (s ++ rest) ≡ after s ++ rest
after_more s rest marked = ap (λ (k : ℕ). drop (k + 1) (s ++ rest)) (place_more s rest marked) ∙ drop-append-le (place s + 1) s rest (omega arith)

not_ended : (long : Bool) (x : Span) → Ok x ≡ (if long then Err S1 else Err S5) → ⊥
not_ended true x e = cc
not_ended false x e = cc

-- only a line with its end isn't refused
pub ok_ended : (ls : Levels) (fs : List Field) (ended : Bool) (text : List ℕ) (x : Span) → Ok x ≡ line_of ls fs ended text → ended ≡ true
ok_ended ls fs true text x e = refl
ok_ended ls fs false text x e = absurd (not_ended (nat_lt 65536 (length text)) x e)

ok_marked : (s : List ℕ) → ltb (length (before s)) (length s) ≡ true → place s < length s
ok_marked s e =
    elim (cases_lt (place s) (length s)) [
      | inl marked ↦ marked
      | inr unmarked ↦
          let same : length (before s) ≡ length s = ap length (before_unmarked 10 s unmarked) in
          let small : length (before s) < length s = is_below (length (before s)) (length s) e in
          absurd (omega arith)
    ]

pub line_taken : (ls : Levels) (fs : List Field) (n m : ℕ) (s rest text now : List ℕ) (ended : Bool) (line : Span) → 0 < length s → IsDecided s ⊎ (rest ≡ [])
    → text ≡ before s → ended ≡ ltb (length text) (length s) → Ok line ≡ line_of ls fs ended text → now ≡ drop (length text + 1) s → m ≡ n + 1
    → read_from ls fs n (s ++ rest) ≡ ahead line (read_from ls fs m (now ++ rest))
line_taken ls fs n m s rest text now ended line some decided is_line test given left next =
    let same : line_of ls fs ended text ≡ first_of ls fs s = ap (λ (b : Bool). line_of ls fs b text) test
    ∙ ap (λ (t : List ℕ). line_of ls fs (ltb (length t) (length s)) t) is_line in
    let is : Ok line ≡ first_of ls fs s = given ∙ same in
    let marked : place s < length s = ok_marked s (ok_ended ls fs (ltb (length (before s)) (length s)) (before s) line is) in
    let size : length text ≡ place s = ap length is_line ∙ length_before 10 s marked in
    let behind : after (s ++ rest) ≡ drop (place s + 1) s ++ rest = after_more s rest marked in
    let behind_now : now ++ rest ≡ drop (place s + 1) s ++ rest = ap (λ (x : List ℕ). x ++ rest) left ∙ ap (λ (k : ℕ). drop (k + 1) s ++ rest) size in
    line_read ls fs n s rest some decided
    ∙ ap (λ (r : Result Span StimCode). going_on n r (read_from ls fs (n + 1) (after (s ++ rest)))) (sym is)
    ∙ ap₂ (λ (k : ℕ) (x : List ℕ). ahead line (read_from ls fs k x)) (sym next) (behind ∙ sym behind_now)

pub line_refused : (ls : Levels) (fs : List Field) (n line : ℕ) (s rest text : List ℕ) (ended : Bool) (code : StimCode) → 0 < length s → IsDecided s ⊎ (rest ≡ [])
    → text ≡ before s → ended ≡ ltb (length text) (length s) → Err code ≡ line_of ls fs ended text → line ≡ n
    → read_from ls fs n (s ++ rest) ≡ stopped line code
line_refused ls fs n line s rest text ended code some decided is_line test given number =
    let same : line_of ls fs ended text ≡ first_of ls fs s = ap (λ (b : Bool). line_of ls fs b text) test
    ∙ ap (λ (t : List ℕ). line_of ls fs (ltb (length t) (length s)) t) is_line in
    line_read ls fs n s rest some decided
    ∙ ap (λ (r : Result Span StimCode). going_on n r (read_from ls fs (n + 1) (after (s ++ rest)))) (sym (given ∙ same))
    ∙ ap (λ (k : ℕ). stopped k code) (sym number)

pub none_left : (ls : Levels) (fs : List Field) (n : ℕ) (s rest : List ℕ) → length s ≡ 0 → IsDecided s ⊎ (rest ≡ []) → read_from ls fs n (s ++ rest) ≡ finished
none_left ls fs n (b ∷ bs) rest h decided = absurd (omega arith)
none_left ls fs n [] rest h (inl (inl long)) = absurd (omega arith)
none_left ls fs n [] rest h (inl (inr found)) = absurd (let f : ⊥ = cc in f)
none_left ls fs n [] rest h (inr none) = ap (read_from ls fs n) none

-- the same of bytes that are those that are held

pub nothing_held : (s bytes : List ℕ) (b : Bool) → b ≡ eqb (length bytes) 0 → b ≡ true → bytes ≡ s → length s ≡ 0
nothing_held s bytes b test is same =
    let e : eqb (length bytes) 0 ≡ true = sym test ∙ is in
    let l : length bytes ≡ length s = ap length same in
    grind (arith, nat_tests)

pub taken_of : (ls : Levels) (fs : List Field) (count : ℕ) (s bytes rest text now : List ℕ) (line : Span) → bytes ≡ s → 0 < length bytes → IsDecided s ⊎ (rest ≡ [])
    → text ≡ before bytes → Ok line ≡ line_of ls fs (ltb (length text) (length bytes)) text → now ≡ drop (length text + 1) s
    → read_from ls fs (count + 1) (s ++ rest) ≡ ahead line (read_from ls fs (count + 2) (now ++ rest))
taken_of ls fs count s bytes rest text now line same some decided is_line given left =
    let l : length bytes ≡ length s = ap length same in
    line_taken ls fs (count + 1) (count + 2) s rest text now (ltb (length text) (length s)) line (omega arith) decided (is_line ∙ ap before same) refl
    (given ∙ ap (λ (x : List ℕ). line_of ls fs (ltb (length text) (length x)) text) same) left (omega arith)

pub refused_of : (ls : Levels) (fs : List Field) (count line : ℕ) (s bytes rest text : List ℕ) (code : StimCode) → bytes ≡ s → 0 < length bytes → IsDecided s ⊎ (rest ≡ [])
    → text ≡ before bytes → Err code ≡ line_of ls fs (ltb (length text) (length bytes)) text → line ≡ count + 1
    → read_from ls fs (count + 1) (s ++ rest) ≡ stopped line code
refused_of ls fs count line s bytes rest text code same some decided is_line given number =
    let l : length bytes ≡ length s = ap length same in
    line_refused ls fs (count + 1) line s rest text (ltb (length text) (length s)) code (omega arith) decided (is_line ∙ ap before same) refl
    (given ∙ ap (λ (x : List ℕ). line_of ls fs (ltb (length text) (length x)) text) same) number

-- a line that isn't refused has its end among the bytes
pub end_there : (ls : Levels) (fs : List Field) (s bytes text : List ℕ) (line : Span) → bytes ≡ s
    → Ok line ≡ line_of ls fs (ltb (length text) (length bytes)) text → length text + 1 ≤ length s
end_there ls fs s bytes text line same given =
    let b = is_below (length text) (length bytes) (ok_ended ls fs (ltb (length text) (length bytes)) text line given) in
    let l : length bytes ≡ length s = ap length same in
    omega arith

marked_by : (ls : Levels) (fs : List Field) (s bytes text : List ℕ) (line : Span) → bytes ≡ s → text ≡ before bytes
    → Ok line ≡ line_of ls fs (ltb (length text) (length bytes)) text → place s < length s
marked_by ls fs s bytes text line same is_line given =
    let test : ltb (length (before s)) (length s) ≡ ltb (length text) (length bytes) = sym (ap₂ (λ (x y : List ℕ). ltb (length x) (length y)) (is_line ∙ ap before same) same) in
    ok_marked s (test ∙ ok_ended ls fs (ltb (length text) (length bytes)) text line given)

pub decided_by : (ls : Levels) (fs : List Field) (s bytes text : List ℕ) (line : Span) → bytes ≡ s → text ≡ before bytes
    → Ok line ≡ line_of ls fs (ltb (length text) (length bytes)) text → IsDecided s
decided_by ls fs s bytes text line same is_line given = inr (marked_any s (marked_by ls fs s bytes text line same is_line given))

-- they begin with it
pub begins_by : (ls : Levels) (fs : List Field) (s bytes text now : List ℕ) (line : Span) → bytes ≡ s → text ≡ before bytes
    → Ok line ≡ line_of ls fs (ltb (length text) (length bytes)) text → now ≡ drop (length text + 1) s → BeginsWith ls fs s line now
begins_by ls fs s bytes text now line same is_line given left =
    let marked : place s < length s = marked_by ls fs s bytes text line same is_line given in
    let first : text ≡ before s = is_line ∙ ap before same in
    let size : length text ≡ place s = ap length first ∙ length_before 10 s marked in
    record {
      ended = marked_any s marked;
      gives = sym (given
          ∙ ap₂ (λ (b : Bool) (t : List ℕ). line_of ls fs b t) (ok_ended ls fs (ltb (length text) (length bytes)) text line given) first);
      behind = left ∙ ap (λ (k : ℕ). drop (k + 1) s) size;
    }

pub shorter_by : (s now : List ℕ) (n : ℕ) → n + 1 ≤ length s → now ≡ drop (n + 1) s → length now + 1 ≤ length s
shorter_by s now n h left =
    let l : length now ≡ length s - (n + 1) = ap length left ∙ length-drop (n + 1) s in
    omega arith

-- the same of a line that is read in one look, whose LF stands behind so many bytes

pub has_lf : (s bytes : List ℕ) (len : ℕ) → bytes ≡ s → len ≡ place bytes → len < length bytes → place s < length s
has_lf s bytes len same at within =
    let l : length bytes ≡ length s = ap length same in
    let there : place bytes ≡ place s = ap place same in
    omega (arith, at, within)

pub ahead_of : (ls : Levels) (fs : List Field) (count len : ℕ) (s bytes rest now : List ℕ) (line : Span) → bytes ≡ s → len ≡ place bytes → len < length bytes
    → Ok line ≡ line_of ls fs true (before bytes) → now ≡ drop (len + 1) s
    → read_from ls fs (count + 1) (s ++ rest) ≡ ahead line (read_from ls fs (count + 2) (now ++ rest))
ahead_of ls fs count len s bytes rest now line same at within given left =
    let marked : place s < length s = has_lf s bytes len same at within in
    let size : length (before s) ≡ place s = length_before 10 s marked in
    let sizes : len ≡ length (before s) = at ∙ ap place same ∙ sym size in
    let test : ltb (length (before s)) (length s) ≡ true = lt-ltb (length (before s)) (length s) (omega (arith, size, marked)) in
    line_taken ls fs (count + 1) (count + 2) s rest (before s) now true line (omega (arith, marked)) (inl (inr (marked_any s marked))) refl (sym test)
    (given ∙ ap (λ (x : List ℕ). line_of ls fs true (before x)) same) (left ∙ ap (λ (k : ℕ). drop (k + 1) s) sizes) (omega arith)

pub ahead_begins : (ls : Levels) (fs : List Field) (len : ℕ) (s bytes now : List ℕ) (line : Span) → bytes ≡ s → len ≡ place bytes → len < length bytes
    → Ok line ≡ line_of ls fs true (before bytes) → now ≡ drop (len + 1) s → BeginsWith ls fs s line now
ahead_begins ls fs len s bytes now line same at within given left = record {
  ended = marked_any s (has_lf s bytes len same at within);
  gives = sym (given ∙ ap (λ (x : List ℕ). line_of ls fs true (before x)) same);
  behind = left ∙ ap (λ (k : ℕ). drop (k + 1) s) (at ∙ ap place same);
}

pub ahead_decided : (s bytes : List ℕ) (len : ℕ) → bytes ≡ s → len ≡ place bytes → len < length bytes → IsDecided s
ahead_decided s bytes len same at within = inr (marked_any s (has_lf s bytes len same at within))
