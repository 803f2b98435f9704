-- Lines of assembly, read one after another.
use Rattle.std.proofs.Common.{◌≡◌, ◌≢◌, ℕ, zero, suc, ◌+◌, ◌<◌, ◌≤◌, Bool, true, false, Result, Ok, Err, eqb, ltb, nat_lt, List, [], ◌∷◌, ◌++◌, length, take, get_or, slice_set, refl, sym, ap, ap₂, ◌∙◌, inl, inr, append_assoc, add-one, arith}
use Rattle.std.specs.Prelude.{replicate}
use Rattle.std.specs.List.{position_or_len, before_first, after_first}
use Rattle.std.proofs.Math.ListN.{length-set}
use Rattle.std.proofs.Math.Seq.{take-suc-set}
use Rattle.std.proofs.lemmas.Grind.{common_steps}
use Rattle.std.proofs.lemmas.List.{append-nil, length-drop, get_or-set_other}
use Rattle.std.proofs.lemmas.Bool.{cases_lt, le-ltb, lt-ltb, false≢true}
use Rattle.sap_text.specs.Lines.{Line, split_at, lines_between, lines_of}
use Rattle.sap_stim.proofs.Pieces.{is_mark, split_marked, split_unmarked, before_unmarked, after_unmarked, length_before, split_count}
use Rattle.sap_machine.specs.declared.fault.AsmCode.{AsmCode}
use Rattle.sap_machine.specs.declared.fault.AsmCode.TheVariants.{B3, B4}
use Rattle.sap_machine.specs.declared.fault.AsmFault.{AsmFault}
use Rattle.sap_machine.specs.Assembly.{Assembled, and_word, all_filled, assembled, filled, refused, with_word, word_of, words_of}

length_take_at_most : (n : ℕ) (s : List ℕ) → length (take n s) ≤ length s
length_take_at_most zero s = omega arith
length_take_at_most (suc n) [] = omega arith
length_take_at_most (suc n) (b ∷ bs) = let e = length_take_at_most n bs in omega arith

get_or_zeros : (n k : ℕ) → (let zeros : List ℕ = replicate n 0 in get_or zeros k 0) ≡ 0
get_or_zeros zero k = refl
get_or_zeros (suc n) zero = refl
get_or_zeros (suc n) (suc k) = get_or_zeros n k

abbrev before : List ℕ → List ℕ
before s = before_first (is_mark 10) s

abbrev after : List ℕ → List ℕ
after s = after_first (is_mark 10) s

-- the first line of a text
abbrev pub first_line : List ℕ → Line
first_line s = record { text = before s; ended = ltb (length (before s)) (length s) }

more_pieces : (text : List ℕ) (ps : List (List ℕ)) → 0 < length ps → lines_between (text ∷ ps) ≡ record { text = text; ended = true } ∷ lines_between ps
more_pieces text [] h = absurd (omega arith)
more_pieces text (p ∷ ps) h = refl

last_piece : (text : List ℕ) → 0 < length text → lines_between (text ∷ []) ≡ record { text = text; ended = false } ∷ []
last_piece [] h = absurd (omega arith)
last_piece (b ∷ bs) h = let e : eqb (suc (length bs)) 0 ≡ false = grind (arith, common_steps) in rw e refl

abbrev line_with : (text : List ℕ) → Bool → Line
line_with text ended = record { text = text; ended = ended }

-- one line, and then the others
pub line_more : (s : List ℕ) → 0 < length s → lines_of s ≡ first_line s ∷ lines_of (after s)
unfolding lines_of
line_more s h =
    elim (cases_lt (position_or_len (is_mark 10) s) (length s)) [
      | inr unmarked ↦
          let whole : before s ≡ s = before_unmarked 10 s unmarked in
          let open_line : ltb (length (before s)) (length s) ≡ false =
          le-ltb (length (before s)) (length s) (let e : length (before s) ≡ length s = ap length whole in omega arith) in
          ap lines_between (split_unmarked 10 s unmarked) ∙ last_piece s h
          ∙ ap₂ (λ (t : List ℕ) (b : Bool). line_with t b ∷ []) (sym whole) (sym open_line)
          ∙ ap (λ (t : List ℕ). first_line s ∷ lines_between (split_at 10 t)) (sym (after_unmarked 10 s unmarked))
      | inl marked ↦
          ap lines_between (split_marked 10 s marked)
          ∙ more_pieces (before s) (split_at 10 (after s)) (let e = split_count 10 (after s) in omega arith)
          ∙ ap (λ (b : Bool). line_with (before s) b ∷ lines_of (after s)) (sym (lt-ltb (length (before s)) (length s) (let e = length_before 10 s marked in omega arith)))
    ]

pub no_line : lines_of [] ≡ []
unfolding lines_of
no_line = refl

pub shorter : (s : List ℕ) → 0 < length s → length (after s) < length s
shorter s h = let e = length-drop (position_or_len (is_mark 10) s + 1) s in omega arith

-- words that were read before others
abbrev pub behind : List ℕ → Assembled → Assembled
behind words (Ok later) = Ok (words ++ later)
behind words (Err fault) = Err fault

not_late : (n : ℕ) → n ≤ 16 → nat_lt 16 n ≡ false
not_late n small = grind (arith, common_steps)

pub late : (s : List ℕ) (n : ℕ) → 0 < length s → n ≡ 17 → words_of n (lines_of s) ≡ refused B3 n
late s n h is = ap (words_of n) (line_more s h) ∙ (let e : nat_lt 16 n ≡ true = grind (arith, common_steps) in rw e refl)

pub open_line : (s here : List ℕ) (n : ℕ) → 0 < length s → n ≤ 16 → here ≡ before s → length here ≡ length s → words_of n (lines_of s) ≡ refused B4 n
open_line s here n h small is all =
    ap (words_of n) (line_more s h)
    ∙ (let e : ltb (length (before s)) (length s) ≡ false =
    le-ltb (length (before s)) (length s) (let f : length (before s) ≡ length s = ap length (sym is) ∙ all in omega arith) in rw (not_late n small, e) refl)

-- a line that is read
pub line_read : (s here : List ℕ) (n : ℕ) (r : Result ℕ AsmCode) → 0 < length s → n ≤ 16 → here ≡ before s → length here ≢ length s → r ≡ word_of here
    → words_of n (lines_of s) ≡ with_word r n (words_of (n + 1) (lines_of (after s)))
line_read s here n r h small is part reads =
    let short : length (before s) ≤ length s = length_take_at_most (position_or_len (is_mark 10) s) s in
    let differ : length (before s) ≢ length s = λ e. part (ap length is ∙ e) in
    let closed : ltb (length (before s)) (length s) ≡ true = lt-ltb (length (before s)) (length s) (omega arith) in
    ap (words_of n) (line_more s h)
    ∙ rw (not_late n small, closed) (ap (λ r. with_word r n (words_of (n + 1) (lines_of (after s)))) (ap word_of (sym is) ∙ sym reads))

pub behind_none : (x : Assembled) → behind [] x ≡ x
behind_none (Ok words) = refl
behind_none (Err fault) = refl

pub behind_one : (words later : List ℕ) (x : ℕ) (y : Assembled) → later ≡ words ++ x ∷ [] → behind later y ≡ behind words (and_word x y)
behind_one words later x (Ok more) is = ap Ok (ap (λ (l : List ℕ). l ++ more) is ∙ append_assoc words (x ∷ []) more)
behind_one words later x (Err fault) is = refl

-- the words so far, of which the others are 0
pub record Assembling (text : List ℕ) (words : List ℕ) (count : ℕ) (rest : List ℕ) : Type 0 where
  pub read : behind (take count words) (words_of (count + 1) (lines_of rest)) ≡ words_of 1 (lines_of text)
  pub size : length words ≡ 16
  pub few : count ≤ 16
  pub zero : (k : ℕ) → count ≤ k → get_or words k 0 ≡ 0

pub refuses : (text words rest : List ℕ) (count : ℕ) (fault : AsmFault) → Assembling text words count rest
    → words_of (count + 1) (lines_of rest) ≡ Err fault → Err fault ≡ assembled text
unfolding assembled
refuses text words rest count fault so_far is = ap all_filled (ap (behind (take count words)) (sym is) ∙ so_far.read)

pub goes_on : (text words rest later : List ℕ) (count x : ℕ) → Assembling text words count rest → count ≢ 16
    → words_of (count + 1) (lines_of rest) ≡ and_word x (words_of (count + 1 + 1) (lines_of later))
    → Assembling text (slice_set words count x) (count + 1) later
goes_on text words rest later count x so_far more is =
    let inside : count < length words = omega (arith, so_far.size, so_far.few, more) in
    let next : take (count + 1) (slice_set words count x) ≡ take count words ++ x ∷ [] =
    ap (λ n. take n (slice_set words count x)) (add-one count) ∙ take-suc-set words count x inside in
    record {
      read = behind_one (take count words) (take (count + 1) (slice_set words count x)) x (words_of (count + 1 + 1) (lines_of later)) next
          ∙ ap (behind (take count words)) (sym is) ∙ so_far.read;
      size = length-set words count x ∙ so_far.size;
      few = omega (arith, so_far.few, more);
      zero = λ k after_it. get_or-set_other words count k x 0 (λ e. absurd (omega arith)) ∙ so_far.zero k (omega arith);
    }

filled_is : (n : ℕ) (words : List ℕ) (count : ℕ) → length words ≡ n → ((k : ℕ) → count ≤ k → get_or words k 0 ≡ 0) → filled n (take count words) ≡ words
filled_is zero [] count size rest_zero = refl
filled_is zero (w ∷ words) count size rest_zero = absurd (omega arith)
filled_is (suc n) [] count size rest_zero = absurd (omega arith)
filled_is (suc n) (w ∷ words) zero size rest_zero =
    ap₂ (λ (x : ℕ) (xs : List ℕ). x ∷ xs) (sym (rest_zero 0 (omega arith))) (filled_is n words 0 (omega arith) (λ k h. rest_zero (suc k) (omega arith)))
filled_is (suc n) (w ∷ words) (suc count) size rest_zero = ap (λ (xs : List ℕ). w ∷ xs) (filled_is n words count (omega arith) (λ k h. rest_zero (suc k) (omega arith)))

pub finishes : (text words rest : List ℕ) (count : ℕ) → Assembling text words count rest → rest ≡ [] → Ok words ≡ assembled text
unfolding assembled
finishes text words rest count so_far none =
    let last : words_of (count + 1) (lines_of rest) ≡ Ok [] = ap (λ r. words_of (count + 1) (lines_of r)) none ∙ ap (words_of (count + 1)) no_line in
    let all : words_of 1 (lines_of text) ≡ Ok (take count words) = sym so_far.read ∙ ap (behind (take count words)) last ∙ ap Ok (append-nil (take count words)) in
    ap Ok (sym (filled_is 16 words count so_far.size so_far.zero)) ∙ ap all_filled (sym all)

pub begins : (text : List ℕ) → Assembling text (replicate 16 0) 0 text
begins text = record { read = behind_none (words_of 1 (lines_of text)); size = refl; few = omega arith; zero = λ k h. none k }
  where
    none : (k : ℕ) → (let zeros : List ℕ = replicate 16 0 in get_or zeros k 0) ≡ 0
    none k = get_or_zeros 16 k

pub empty : (s : List ℕ) → true ≡ eqb (length s) 0 → s ≡ []
empty [] e = refl
empty (b ∷ bs) e = absurd (let f : eqb (suc (length bs)) 0 ≡ false = grind (arith, common_steps) in false≢true (sym f ∙ sym e))
