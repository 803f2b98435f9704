-- Fields, read one after another.
use Rattle.sap_lemmas.proofs.Common.{◌≡◌, ℕ, zero, suc, ◌+◌, ◌-◌, ◌<◌, ◌≤◌, Result, Ok, Err, List, [], ◌∷◌, ◌++◌, length, get_or, take, drop, refl, sym, ap, ap₂, ◌∙◌, inl, inr, append_assoc, arith, position_or_len, before_first, after_first, append-nil, drop_all, drop-cons, cases_lt}
use Rattle.sap_lattice.specs.Levels.{Levels}
use Rattle.sap_meaning.specs.Cycle.{Tagged as Given}
use Rattle.sap_stim.specs.declared.fault.StimCode.{StimCode}
use Rattle.sap_stim.specs.declared.field.Field.{Field}
use Rattle.sap_text.specs.Lines.{split_at}
use Rattle.sap_stim.specs.Line.{fields_of, and_then, field_of, inputs_of}
use Rattle.sap_stim.proofs.Pieces.{is_mark, split_marked, split_unmarked, before_unmarked}
use Rattle.sap_stim.proofs.LastPiece.{fields_front}

-- inputs that were read, and then others
abbrev pub onto : List Given → Result (List Given) StimCode → Result (List Given) StimCode
onto xs (Ok ys) = Ok (xs ++ ys)
onto xs (Err code) = Err code

-- the pieces of a text that are still to be read
abbrev pub left_of : List ℕ → ℕ → List (List ℕ)
left_of rest k = take k (split_at 32 rest)

-- what is read when i fields were, and the text that is left
abbrev pub read_on : Levels → List Field → ℕ → List Given → List ℕ → Result (List Given) StimCode
read_on ls fs i inputs rest = onto inputs (inputs_of ls (drop i fs) (left_of rest (length fs - i)))

-- no fewer pieces are left than fields
abbrev pub EnoughLeft : List Field → ℕ → List ℕ → Type 0
EnoughLeft fs i rest = i < length fs → length fs - i ≤ length (split_at 32 rest)

abbrev before : List ℕ → List ℕ
before s = before_first (is_mark 32) s

abbrev after : List ℕ → List ℕ
after s = after_first (is_mark 32) s

take_none : {X : Type 0} (n : ℕ) (xs : List X) → n ≡ 0 → take n xs ≡ []
take_none zero xs e = refl
take_none (suc n) xs e = absurd (omega arith)

-- the first of the pieces that are left, and the others
left_more : (s : List ℕ) (k : ℕ) → k + 1 ≤ length (split_at 32 s) → (left_of s (k + 1) ≡ before s ∷ left_of (after s) k) × (0 < k → k ≤ length (split_at 32 (after s)))
left_more s k h =
    elim (cases_lt (position_or_len (is_mark 32) s) (length s)) [
      | inr unmarked ↦
          let one : split_at 32 s ≡ s ∷ [] = split_unmarked 32 s unmarked in
          let none : k ≡ 0 = last one in (
            ap (λ (ps : List (List ℕ)). take (k + 1) ps) one ∙ ap (λ (n : ℕ). take n (s ∷ [])) (let e : k + 1 ≡ 1 = omega arith in e)
                ∙ ap₂ (λ (x : List ℕ) (y : List (List ℕ)). x ∷ y) (sym (before_unmarked 32 s unmarked)) (sym (take_none k (split_at 32 (after s)) none)),
            λ more. absurd (omega arith),
          )
      | inl marked ↦
          let more : split_at 32 s ≡ before s ∷ split_at 32 (after s) = split_marked 32 s marked in (
            ap (λ (ps : List (List ℕ)). take (k + 1) ps) more ∙ ap (λ (n : ℕ). take n (before s ∷ split_at 32 (after s))) (let e : k + 1 ≡ suc k = omega arith in e),
            λ some. others more,
          )
    ]
  where
    last : split_at 32 s ≡ s ∷ [] → k ≡ 0
    last e = let f : length (split_at 32 s) ≡ 1 = ap length e in omega arith

    others : split_at 32 s ≡ before s ∷ split_at 32 (after s) → k ≤ length (split_at 32 (after s))
    others e = let f : length (split_at 32 s) ≡ suc (length (split_at 32 (after s))) = ap length e in omega arith

onto_more : (inputs : List Given) (x : Given) (r : Result (List Given) StimCode) → onto inputs (and_then r (λ xs. Ok (x ∷ xs))) ≡ onto (inputs ++ x ∷ []) r
onto_more inputs x (Ok xs) = ap Ok (sym (append_assoc inputs (x ∷ []) xs))
onto_more inputs x (Err code) = refl

-- the reading of one field, and then the others
read_one : (ls : Levels) (fs : List Field) (i : ℕ) (d : Field) (inputs : List Given) (rest : List ℕ) → i < length fs → EnoughLeft fs i rest
    → read_on ls fs i inputs rest ≡ onto inputs
    (and_then (field_of ls (get_or fs i d) (before rest)) (λ x. and_then (inputs_of ls (drop (i + 1) fs) (left_of (after rest) (length fs - (i + 1)))) (λ xs. Ok (x ∷ xs))))
read_one ls fs i d inputs rest h enough =
    let k : ℕ = length fs - (i + 1) in
    let s : suc i ≡ i + 1 = omega arith in
    let n : length fs - i ≡ length fs - (i + 1) + 1 = omega arith in
    let more : left_of rest (k + 1) ≡ before rest ∷ left_of (after rest) k = (left_more rest k (let e = enough h in omega arith)).0 in
    let first : drop i fs ≡ get_or fs i d ∷ drop (i + 1) fs = drop-cons fs i d h ∙ ap (λ (j : ℕ). get_or fs i d ∷ drop j fs) s in
    ap₂ (λ (x : List Field) (y : List (List ℕ)). onto inputs (inputs_of ls x y)) first (ap (λ (j : ℕ). left_of rest j) n ∙ more)

pub enough_more : (fs : List Field) (i : ℕ) (rest later : List ℕ) → i < length fs → EnoughLeft fs i rest → later ≡ after_first (is_mark 32) rest → EnoughLeft fs (i + 1) later
enough_more fs i rest later h enough e = λ more.
    let k : ℕ = length fs - (i + 1) in
    let n : length fs - i ≡ length fs - (i + 1) + 1 = omega arith in
    let same : length (split_at 32 later) ≡ length (split_at 32 (after rest)) = ap (λ (s : List ℕ). length (split_at 32 s)) e in
    let left = (left_more rest k (let e = enough h in omega arith)).1 (omega arith) in
    omega arith

pub read_more : (ls : Levels) (fs : List Field) (i : ℕ) (d : Field) (inputs next : List Given) (rest text later : List ℕ) (x : Given) → i < length fs → EnoughLeft fs i rest
    → Ok x ≡ field_of ls (get_or fs i d) text → text ≡ before_first (is_mark 32) rest → later ≡ after_first (is_mark 32) rest → next ≡ inputs ++ x ∷ []
    → read_on ls fs (i + 1) next later ≡ read_on ls fs i inputs rest
read_more ls fs i d inputs next rest text later x h enough given t l n =
    let others : Result (List Given) StimCode = inputs_of ls (drop (i + 1) fs) (left_of (after rest) (length fs - (i + 1))) in
    ap₂ (λ (xs : List Given) (s : List ℕ). read_on ls fs (i + 1) xs s) n l
    ∙ sym (read_one ls fs i d inputs rest h enough
    ∙ ap (λ (r : Result Given StimCode). onto inputs (and_then r (λ y. and_then others (λ ys. Ok (y ∷ ys))))) (sym (given ∙ ap (field_of ls (get_or fs i d)) t))
    ∙ onto_more inputs x others)

pub read_stops : (ls : Levels) (fs : List Field) (i : ℕ) (d : Field) (inputs : List Given) (rest text : List ℕ) (code : StimCode) → i < length fs → EnoughLeft fs i rest
    → Err code ≡ field_of ls (get_or fs i d) text → text ≡ before_first (is_mark 32) rest → Err code ≡ read_on ls fs i inputs rest
read_stops ls fs i d inputs rest text code h enough given t =
    let others : Result (List Given) StimCode = inputs_of ls (drop (i + 1) fs) (left_of (after rest) (length fs - (i + 1))) in
    sym (read_one ls fs i d inputs rest h enough
    ∙ ap (λ (r : Result Given StimCode). onto inputs (and_then r (λ y. and_then others (λ ys. Ok (y ∷ ys))))) (sym (given ∙ ap (field_of ls (get_or fs i d)) t)))

onto_nothing : (r : Result (List Given) StimCode) → onto [] r ≡ r
onto_nothing (Ok xs) = refl
onto_nothing (Err code) = refl

-- before the first field
pub read_begins : (ls : Levels) (fs : List Field) (line : List ℕ) → length (fields_of line) ≡ length fs
    → (read_on ls fs 0 [] line ≡ inputs_of ls fs (fields_of line)) × EnoughLeft fs 0 line
read_begins ls fs line h =
    let n : length fs - 0 ≡ length fs = omega arith in
    let first = fields_front line (length fs) h in (
      onto_nothing (inputs_of ls fs (left_of line (length fs - 0)))
          ∙ ap (λ (ps : List (List ℕ)). inputs_of ls fs ps) (ap (λ (k : ℕ). left_of line k) n ∙ sym first.0),
      λ some. let enough = first.1 in omega arith,
    )

pub nothing_read : (ls : Levels) (fs : List Field) (inputs : List Given) (line : List ℕ) → inputs ≡ [] → length (fields_of line) ≡ length fs
    → read_on ls fs 0 inputs line ≡ inputs_of ls fs (fields_of line)
nothing_read ls fs inputs line e h = ap (λ (xs : List Given). read_on ls fs 0 xs line) e ∙ (read_begins ls fs line h).0

-- after the last
pub read_ends : (ls : Levels) (fs : List Field) (i : ℕ) (inputs : List Given) (rest : List ℕ) → length fs ≤ i → read_on ls fs i inputs rest ≡ Ok inputs
read_ends ls fs i inputs rest h =
    ap₂ (λ (x : List Field) (y : List (List ℕ)). onto inputs (inputs_of ls x y)) (drop_all i fs h) (take_none (length fs - i) (split_at 32 rest) (omega arith))
    ∙ ap Ok (append-nil inputs)
