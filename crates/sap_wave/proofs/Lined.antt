-- The lines of a text that is made of forms.
use Rattle.sap_lemmas.proofs.Common.{◌≡◌, ℕ, zero, suc, ◌<◌, ◌≤◌, List, [], ◌∷◌, ◌++◌, Bool, true, false, length, get_or, refl, ap, ◌∙◌, arith, ◌==◌, if◌then◌else◌, list_all, and_parts, nat_tests, append-nil, append_assoc, test_of_positive}
use Rattle.std.specs.List.{join_with_byte, slice_split}
use Rattle.std.proofs.lemmas.List.Splits.{slice_split_at, slice_split_none, length-slice_split, join_with_byte-slice_split}
use Rattle.sap_text.specs.Blanks.{is_in_line}
use Rattle.sap_text.specs.Places.{line}
use Rattle.sap_text.specs.Lines.{Line, lines_between, lines_of}
use Rattle.sap_wave.specs.Lines.{Form, form_text, ended}

abbrev pub ended_line : Form → Line
ended_line f = record { text = form_text f; ended = true }

abbrev is_end : ℕ → Bool
is_end b = b == 10

no_end : (b : ℕ) → is_in_line b ≡ true → is_end b ≡ false
no_end b h = grind (arith, nat_tests)

none_ends : (zs : List ℕ) → list_all is_in_line zs ≡ true → (k d : ℕ) → k < length zs → is_end (get_or zs k d) ≡ false
none_ends [] h k d l = absurd (omega arith)
none_ends (z ∷ zs) h zero d l = no_end z (and_parts (is_in_line z) (list_all is_in_line zs) h).0
none_ends (z ∷ zs) h (suc k) d l = none_ends zs (and_parts (is_in_line z) (list_all is_in_line zs) h).1 k d (omega arith)

split_line : (xs ys : List ℕ) → list_all is_in_line xs ≡ true → slice_split is_end (xs ++ (10 ∷ ys)) ≡ xs ∷ slice_split is_end ys
split_line xs ys h = slice_split_at is_end xs 10 ys (none_ends xs h) refl

some_pieces : (ys : List ℕ) → 1 ≤ length (slice_split is_end ys)
some_pieces ys = let e = length-slice_split is_end ys in omega (arith, e)

first_line : (x : List ℕ) (ps : List (List ℕ)) → 1 ≤ length ps → lines_between (x ∷ ps) ≡ record { text = x; ended = true } ∷ lines_between ps
first_line x [] h = absurd (omega arith)
first_line x (p ∷ ps) h = refl

-- one line and then the others
pub lines_cut : (text bytes : List ℕ) → list_all is_in_line text ≡ true → lines_of (text ++ (10 ∷ bytes)) ≡ ended text ∷ lines_of bytes
unfolding lines_of
lines_cut text bytes h = ap lines_between (split_line text bytes h) ∙ first_line text (slice_split is_end bytes) (some_pieces bytes)

not_empty : (text : List ℕ) → 0 < length text → lines_between (text ∷ []) ≡ record { text = text; ended = false } ∷ []
not_empty text l = let z : (length text == 0) ≡ false = test_of_positive (length text) l in rw z refl

-- no line ends
pub line_last : (text : List ℕ) → 0 < length text → list_all is_in_line text ≡ true → lines_of text ≡ record { text = text; ended = false } ∷ []
unfolding lines_of
line_last text l h = ap lines_between (slice_split_none is_end text (none_ends text h)) ∙ not_empty text l

pub lines_more : (f : Form) (bytes : List ℕ) → list_all is_in_line (form_text f) ≡ true → lines_of (line (form_text f) ++ bytes) ≡ ended_line f ∷ lines_of bytes
unfolding lines_of
lines_more f bytes h =
    ap lines_of (append_assoc (form_text f) (10 ∷ []) bytes)
    ∙ lines_cut (form_text f) bytes h

pub lines_none : lines_of [] ≡ []
unfolding lines_of
lines_none = refl

-- The text that lines are cut from.

abbrev pub text_of_lines : List Line → List ℕ
text_of_lines [] = []
text_of_lines (l ∷ ls) = (l.text ++ (if l.ended then 10 ∷ [] else [])) ++ text_of_lines ls

lines_joined : (ps : List (List ℕ)) → text_of_lines (lines_between ps) ≡ join_with_byte 10 ps
lines_joined [] = refl
lines_joined ([] ∷ []) = refl
lines_joined ((b ∷ bs) ∷ []) = let some : (length (b ∷ bs) == 0) ≡ false = grind (arith, nat_tests) in rw some (append-nil ((b ∷ bs) ++ []) ∙ append-nil (b ∷ bs))
lines_joined (p ∷ (q ∷ ps)) = append_assoc p (10 ∷ []) (text_of_lines (lines_between (q ∷ ps))) ∙ ap (λ (z : List ℕ). p ++ (10 ∷ z)) (lines_joined (q ∷ ps))

pub lines_back : (bytes : List ℕ) → text_of_lines (lines_of bytes) ≡ bytes
unfolding lines_of
lines_back bytes = lines_joined (slice_split is_end bytes) ∙ join_with_byte-slice_split 10 bytes
