-- Bytes that don't tell the next line: neither its cycles nor its fault is known.
use Rattle.sap_lemmas.proofs.Common.{◌≡◌, ℕ, zero, suc, ◌+◌, ◌<◌, ◌≤◌, Bool, true, false, not, cond, eqb, ltb, Err, List, [], ◌∷◌, ◌++◌, length, replicate, refl, sym, ap, ap₂, ◌∙◌, inl, inr, length-append, arith, ◌||◌, Some, None, nat_lt, list_any, append-nil, length-replicate, list_any-append, cases_lt, le-ltb, lt-ltb, some_unique}
use Rattle.sap_lattice.specs.Levels.{Levels}
use Rattle.sap_stim.specs.declared.fault.StimCode.{StimCode}
use Rattle.sap_stim.specs.declared.fault.StimCode.TheVariants.{S1, S5}
use Rattle.sap_stim.specs.declared.fault.StimFault.{StimFault}
use Rattle.sap_stim.specs.declared.field.Field.{Field}
use Rattle.sap_stim.specs.declared.stimulus.Parsed.{Parsed}
use Rattle.sap_stim.specs.Line.{line_of}
use Rattle.sap_stim.specs.Stimulus.{going_on, read_from, stopped}
use Rattle.sap_stim.proofs.Pieces.{is_mark, before_unmarked}
use Rattle.sap_stim.proofs.Lines.{read_line}
use Rattle.sap_lines.specs.Fetched.{IsDecided}
use Rattle.sap_lines.proofs.FirstLine.{after, before, marked_any, place}

-- there is no LF among them, and they are not too long

unmarked : (s : List ℕ) → (IsDecided s → ⊥) → length s ≤ place s
unmarked s wants = elim (cases_lt (place s) (length s)) [
  | inl marked ↦ absurd (wants (inr (marked_any s marked)))
  | inr none ↦ omega (arith, none)
]

short : (s : List ℕ) → (IsDecided s → ⊥) → length s ≤ 65536
short s wants = elim (cases_lt 65536 (length s)) [
  | inl long ↦ absurd (wants (inl long))
  | inr fits ↦ omega (arith, fits)
]

-- an unmarked line is refused: for its length, or for its missing end
unended : (ls : Levels) (fs : List Field) (n : ℕ) (s : List ℕ) (code : StimCode) → 0 < length s → length s ≤ place s
    → line_of ls fs false s ≡ Err code → read_from ls fs n s ≡ stopped n code
unended ls fs n s code some none refused =
    let whole : before s ≡ s = before_unmarked 10 s none in
    let size : length (before s) ≡ length s = ap length whole in
    let test : ltb (length (before s)) (length s) ≡ false = le-ltb (length (before s)) (length s) (omega (arith, size)) in
    let line : line_of ls fs (ltb (length (before s)) (length s)) (before s) ≡ Err code = ap₂ (λ (b : Bool) (t : List ℕ). line_of ls fs b t) test whole ∙ refused in
    read_line ls fs n s some ∙ ap (λ r. going_on n r (read_from ls fs (n + 1) (after s))) line

no_end : (ls : Levels) (fs : List Field) (s : List ℕ) → length s ≤ 65536 → line_of ls fs false s ≡ Err S5
no_end ls fs s fits = let e : nat_lt 65536 (length s) ≡ false = le-ltb 65536 (length s) fits in rw e refl

too_long : (ls : Levels) (fs : List Field) (s : List ℕ) → 65536 < length s → line_of ls fs false s ≡ Err S1
too_long ls fs s long = let e : nat_lt 65536 (length s) ≡ true = lt-ltb 65536 (length s) long in rw e refl

-- more of an unmarked line may come

no_marks : (n : ℕ) → place (replicate n 0) ≡ n
no_marks zero = refl
no_marks (suc n) = let e = no_marks n in omega (arith, e)

place_both : (s rest : List ℕ) → length s ≤ place s → place (s ++ rest) ≡ length s + place rest
place_both [] rest none = omega arith
place_both (b ∷ bs) rest none =
    elim (eqb b 10) as (λ t. suc (length bs) ≤ cond (not t) (1 + place bs) 0 → cond (not t) (1 + place (bs ++ rest)) 0 ≡ suc (length bs) + place rest) [
      | true ↦ λ large. absurd (omega (arith, large))
      | false ↦ λ large. let e = place_both bs rest (omega (arith, large)) in omega (arith, e)
    ] none

-- they give no cycles
pub no_cycles : (ls : Levels) (fs : List Field) (n : ℕ) (s : List ℕ) → (IsDecided s → ⊥) → (read_from ls fs n s).stream ≡ []
no_cycles ls fs n [] wants = refl
no_cycles ls fs n (b ∷ bs) wants =
    let s : List ℕ = b ∷ bs in
    ap (λ (p : Parsed). p.stream) (unended ls fs n s S5 (omega arith) (unmarked s wants) (no_end ls fs s (short s wants)))

other_code : S5 ≡ S1 → ⊥
other_code same = let f : ⊥ = cc in f

codes_apart : (n : ℕ) (why : StimFault) → Some (record { line = n; code = S5 }) ≡ Some why → Some (record { line = n; code = S1 }) ≡ Some why → ⊥
codes_apart n why one other =
    let a : StimFault = record { line = n; code = S5 } in
    let b : StimFault = record { line = n; code = S1 } in
    let is : a ≡ why = some_unique (Some why) a why (sym one) refl in
    let was : b ≡ why = some_unique (Some why) b why (sym other) refl in
    other_code (ap (λ (f : StimFault). f.code) (is ∙ sym was))

-- a longer one without LF is refused for its length
still_longer : (ls : Levels) (fs : List Field) (n more : ℕ) (s : List ℕ) → length s ≤ place s → 65536 < more → read_from ls fs n (s ++ replicate more 0) ≡ stopped n S1
still_longer ls fs n more s none far =
    let zeros : List ℕ = replicate more 0 in
    let size : length (s ++ zeros) ≡ length s + length zeros = length-append s zeros in
    let sizes : length zeros ≡ more = length-replicate more 0 in
    let behind : place (s ++ zeros) ≡ length s + place zeros = place_both s zeros none in
    let none_more : place zeros ≡ more = no_marks more in
    unended ls fs n (s ++ zeros) S1 (omega (arith, size, sizes, far)) (omega (arith, size, sizes, behind, none_more))
    (too_long ls fs (s ++ zeros) (omega (arith, size, sizes, far)))

-- and no fault that stands whatever comes behind them
pub no_fault : (ls : Levels) (fs : List Field) (n : ℕ) (s : List ℕ) (why : StimFault) → (IsDecided s → ⊥) → ((rest : List ℕ) → (read_from ls fs n (s ++ rest)).fault ≡ Some why) → ⊥
no_fault ls fs n [] why wants all = let e : None ≡ Some why = all [] in let f : ⊥ = cc in f
no_fault ls fs n (b ∷ bs) why wants all =
    let s : List ℕ = b ∷ bs in
    let none : length s ≤ place s = unmarked s wants in
    let one : read_from ls fs n (s ++ []) ≡ stopped n S5 = ap (read_from ls fs n) (append-nil s) ∙ unended ls fs n s S5 (omega arith) none (no_end ls fs s (short s wants)) in
    let other : read_from ls fs n (s ++ replicate 65537 0) ≡ stopped n S1 = still_longer ls fs n 65537 s none (omega arith) in
    codes_apart n why (sym (ap (λ (p : Parsed). p.fault) one) ∙ all []) (sym (ap (λ (p : Parsed). p.fault) other) ∙ all (replicate 65537 0))

-- fewer bytes don't tell it either
pub undecided_front : (s rest : List ℕ) → (IsDecided (s ++ rest) → ⊥) → IsDecided s → ⊥
undecided_front s rest wants (inl long) = wants (inl (let size : length (s ++ rest) ≡ length s + length rest = length-append s rest in omega (arith, size, long)))
undecided_front s rest wants (inr found) = wants (inr (list_any-append (is_mark 10) s rest ∙ ap (λ (b : Bool). b || list_any (is_mark 10) rest) found))
