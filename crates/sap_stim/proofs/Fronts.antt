-- The field at the front of a text.
use Rattle.sap_lemmas.proofs.Common.{◌≡◌, ℕ, ◌+◌, ◌<◌, ◌≤◌, true, Some, List, [], length, get_or, take, drop, refl, sym, ap, ◌∙◌, ◌⊎◌, arith, is_ascii_digit, before_first, list_all, position_or_len}
use Rattle.sap_lattice.proofs.LevelsLemmas.{level_in_same}
use Rattle.sap_lattice.proofs.NameLemmas.{found_at}
use Rattle.sap_lattice.specs.Prelude.{level_in, level_named, KeepsNames}
use Rattle.sap_text.proofs.NamesLemmas.{word_inner}
use Rattle.sap_text.specs.Names.{is_inner, is_word}
use Rattle.sap_stim.proofs.Pieces.{is_mark}
use Rattle.sap_stim.proofs.Marks.{field_ends, front_length, front_take, kind_inside, kind_within, line, mark_behind}

-- a word that is the field at the front of a text
pub word_first : (name text : List ℕ) → is_word name ≡ true → take (length name) text ≡ name → length name ≤ length text
    → (length text ≡ length name) ⊎ ((get_or text (length name) 0 ≡ 32) ⊎ (get_or text (length name) 0 ≡ 10))
    → (length name ≡ position_or_len (is_mark 32) (line text)) × (name ≡ before_first (is_mark 32) (line text))
word_first name text word front within behind =
    let n : ℕ = length name in
    let inner : list_all is_inner (take n text) ≡ true = ap (list_all is_inner) front ∙ word_inner name word in
    let inside : n ≤ position_or_len (is_mark 10) text = kind_within is_inner 10 refl text n within inner in
    let same : take n (line text) ≡ take n text = front_take 10 text n inside in
    let more : n ≤ position_or_len (is_mark 32) (line text) =
    kind_within is_inner 32 refl (line text) n (omega (arith, inside, front_length 10 text)) (ap (list_all is_inner) same ∙ inner) in
    let end : n ≡ position_or_len (is_mark 32) (line text) = omega (arith, more, field_ends text n within behind) in (
      end,
      sym front ∙ sym same ∙ ap (λ (j : ℕ). take j (line text)) end,
    )

-- where the field ends that begins with these digits and the mark behind them
pub ends_behind : (s : List ℕ) (k : ℕ) → k < length s → list_all is_ascii_digit (take k s) ≡ true → get_or s k 0 ≡ 64
    → position_or_len (is_mark 32) s ≡ k + 1 + position_or_len (is_mark 32) (drop (k + 1) s)
ends_behind s k h all e = mark_behind 32 s (k + 1) (let inside = kind_inside is_ascii_digit 32 refl s k h all (λ space. omega (arith, space, e)) in omega (arith, inside))

-- the level of this place has the name that stands first
pub named_last : (names : List (List ℕ)) → KeepsNames names → (last : ℕ) (name first : List ℕ) → last < length names → name ≡ get_or names (level_in (length names) last) []
    → name ≡ first → Some last ≡ level_named names first
named_last names kept last name first low is same = found_at names kept first last low (sym (is ∙ ap (λ (k : ℕ). get_or names k []) (level_in_same (length names) last low)) ∙ same)
