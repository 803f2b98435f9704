-- Fields, read from the left while nothing is wrong.
use Rattle.sap_lemmas.proofs.Common.{◌≡◌, ℕ, zero, suc, ◌+◌, ◌-◌, ◌<◌, ◌≤◌, Bool, true, false, cond, Ok, List, [], ◌∷◌, ◌++◌, length, get_or, drop, take, refl, sym, ap, ◌∙◌, inl, inr, append_assoc, length-append, arith, position_or_len, before_first, after_first, cases_lt}
use Rattle.sap_lattice.specs.Levels.{Levels}
use Rattle.sap_meaning.specs.Cycle.{Tagged as Given}
use Rattle.sap_stim.specs.declared.field.Field.{Field}
use Rattle.sap_text.specs.Lines.{split_at}
use Rattle.sap_stim.specs.Line.{field_of, is_starred, fields_in, fields_of, inputs_of}
use Rattle.sap_stim.proofs.Marks.{front_length, line, mark_behind}
use Rattle.sap_stim.proofs.Pieces.{is_mark, split_marked, split_unmarked, before_unmarked}
use Rattle.sap_stim.proofs.LastPiece.{IsUnmarked, fields_last}
use Rattle.sap_stim.proofs.EachField.{read_on, EnoughLeft}

-- behind so many pieces of a line this is left
abbrev pub IsLeft : List ℕ → ℕ → List ℕ → Type 0
IsLeft line k rest = (others : List (List ℕ)) × (length others ≡ k) × (split_at 32 line ≡ others ++ split_at 32 rest)

-- behind so many pieces of a line this is the last
abbrev pub IsLast : List ℕ → ℕ → List ℕ → Type 0
IsLast line k piece = (others : List (List ℕ)) × (length others ≡ k) × (split_at 32 line ≡ others ++ piece ∷ [])

-- where the line has as many fields as are asked for, these are the inputs so far
abbrev pub IsRead : Levels → List Field → List ℕ → ℕ → List Given → List ℕ → Type 0
IsRead ls fs line k inputs rest = length (fields_of line) ≡ length fs → (read_on ls fs k inputs rest ≡ inputs_of ls fs (fields_of line)) × EnoughLeft fs k rest

pub none_left : (line : List ℕ) → IsLeft line 0 line
none_left line = ([], refl, refl)

-- a piece with a space behind it
pub left_behind : (line : List ℕ) (k : ℕ) (rest text later : List ℕ) → IsLeft line k rest → text ≡ before_first (is_mark 32) rest
    → later ≡ after_first (is_mark 32) rest → length text < length rest → IsLeft line (k + 1) later
left_behind line k rest text later left t l h =
    elim (cases_lt (position_or_len (is_mark 32) rest) (length rest)) [
      | inr unmarked ↦ absurd (let whole : length text ≡ length rest = ap length (t ∙ before_unmarked 32 rest unmarked) in omega (arith, whole))
      | inl marked ↦
          let first = before_first (is_mark 32) rest in (
            left.0 ++ first ∷ [],
            simp length-append (let n = left.1 in omega arith),
            left.2 ∙ ap (λ (ps : List (List ℕ)). left.0 ++ ps) (split_marked 32 rest marked
                ∙ ap (λ (s : List ℕ). first ∷ split_at 32 s) (sym l)) ∙ sym (append_assoc left.0 (first ∷ []) (split_at 32 later)),
          )
    ]

pub left_whole : (line : List ℕ) (k : ℕ) (rest : List ℕ) → IsLeft line k rest → IsUnmarked 32 rest → IsLast line k rest
left_whole line k rest left u = (left.0, left.1, left.2 ∙ ap (λ (ps : List (List ℕ)). left.0 ++ ps) (split_unmarked 32 rest u))

fields_by_last : (line : List ℕ) (k : ℕ) (piece : List ℕ) → 0 < length line → (last : IsLast line k piece) → fields_of line ≡ cond (is_starred piece) last.0 (last.0 ++ piece ∷ [])
fields_by_last [] k piece h last = absurd (omega arith)
fields_by_last (b ∷ bs) k piece h last = ap fields_in last.2 ∙ fields_last last.0 piece

pub fields_with : (line : List ℕ) (k : ℕ) (piece : List ℕ) → 0 < length line → IsLast line k piece → is_starred piece ≡ false → length (fields_of line) ≡ k + 1
fields_with line k piece h last plain =
    ap length (fields_by_last line k piece h last ∙ ap (λ (t : Bool). cond t last.0 (last.0 ++ piece ∷ [])) plain)
    ∙ simp length-append (let n = last.1 in omega arith)

pub fields_before : (line : List ℕ) (k : ℕ) (piece : List ℕ) → 0 < length line → IsLast line k piece → is_starred piece ≡ true → length (fields_of line) ≡ k
fields_before line k piece h last starred =
    ap length (fields_by_last line k piece h last ∙ ap (λ (t : Bool). cond t last.0 (last.0 ++ piece ∷ [])) starred)
    ∙ last.1

-- what a field gives, where it stands in a text that is another's end
pub field_given : (ls : Levels) (fs : List Field) (k : ℕ) (d : Field) (x : Given) (rest s : List ℕ) → rest ≡ s
    → Ok x ≡ field_of ls (get_or fs k d) (before_first (is_mark 32) (line rest))
    → Ok x ≡ field_of ls (get_or fs k d) (before_first (is_mark 32) (line s))
field_given ls fs k d x rest s same e = e ∙ ap (λ (l : List ℕ). field_of ls (get_or fs k d) (before_first (is_mark 32) (line l))) same

-- the last piece of the line at the front of a text, behind so many others: it stands at a place, and the line ends with it
abbrev pub EndsAhead : List ℕ → ℕ → ℕ → ℕ → Type 0
EndsAhead s k at size = IsLast (line s) k (take (at + size - at) (drop at s)) × (at + size ≡ position_or_len (is_mark 10) s)

pub piece_same : (s : List ℕ) (at size : ℕ) (rest : List ℕ) → rest ≡ drop at s → take (at + size - at) (drop at s) ≡ take size rest
piece_same s at size rest same =
    let size_is : at + size - at ≡ size = omega arith in
    ap (λ (j : ℕ). take j (drop at s)) size_is ∙ ap (take size) (sym same)

pub last_ahead : (s : List ℕ) (k at size : ℕ) (rest : List ℕ) → rest ≡ drop at s → IsLeft (line s) k (line (drop at s)) → at ≤ position_or_len (is_mark 10) s
    → size ≡ position_or_len (is_mark 32) (line rest) → size ≡ position_or_len (is_mark 10) rest → EndsAhead s k at size
last_ahead s k at size rest same left within field whole =
    let field_here : size ≡ position_or_len (is_mark 32) (line (drop at s)) = field ∙ ap (λ (l : List ℕ). position_or_len (is_mark 32) (line l)) same in
    let whole_here : size ≡ position_or_len (is_mark 10) (drop at s) = whole ∙ ap (position_or_len (is_mark 10)) same in
    let last : IsLast (line s) k (line (drop at s)) = left_whole (line s) k (line (drop at s)) left (omega (arith, front_length 10 (drop at s), field_here, whole_here)) in
    let size_is : at + size - at ≡ position_or_len (is_mark 10) (drop at s) = omega (arith, whole_here) in
    let piece : line (drop at s) ≡ take (at + size - at) (drop at s) = ap (λ (j : ℕ). take j (drop at s)) (sym size_is) in (
      (last.0, last.1, last.2 ∙ ap (λ (p : List ℕ). last.0 ++ p ∷ []) piece),
      omega (arith, whole_here, mark_behind 10 s at within),
    )

-- a piece that begins with `*` has a byte
pub starred_some : (size : ℕ) (s : List ℕ) → is_starred (take size s) ≡ true → 0 < size
starred_some zero s e = absurd (let f : false ≡ true = e in let g : ⊥ = cc in g)
starred_some (suc n) s e = omega arith
