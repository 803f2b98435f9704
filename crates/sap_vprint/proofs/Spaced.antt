-- Pieces that don't run into one another are read as the tokens that they stand for.
use Rattle.sap_lemmas.proofs.Common.{◌≡◌, ◌+◌, ℕ, List, [], ◌∷◌, ◌++◌, length, drop, Bool, true, false, eqb, refl, sym, subst, slice_index, ◌||◌, ◌&&◌, decimal, and_parts}
use Rattle.sap_lemmas.proofs.Lists.{drop_front}
use Rattle.sap_net.specs.Names.{is_inner}
use Rattle.sap_vtext.specs.Items.{Operand}
use Rattle.sap_vtext.specs.Items as item
use Rattle.sap_vtext.specs.Lexing.{word_text, sign_text, Lexed, end, blank_first, token_first}
use Rattle.sap_vtext.specs.Tokens.{Sign, Kind, Token}
use Rattle.sap_vtext.specs.Tokens as t
use Rattle.sap_vprint.specs.Text.{Piece, space, line, comment, zero, one, word, sign, name, number, operand, operand_text, piece_text, text_of}
use Rattle.sap_vprint.proofs.Spelled.{clings, IsSpelled, piece_spelled}

abbrev pub is_blank : Piece → Bool
is_blank space = true
is_blank line = true
is_blank _ = false

-- it ends a name or a number
abbrev pub ends_run : Piece → Bool
ends_run (sign s) = true
ends_run q = is_blank q

-- the second may stand right behind the first
abbrev pub may_follow : Piece → Piece → Bool
may_follow (sign t.is) q = is_blank q
may_follow (sign t.less) q = is_blank q
may_follow (sign s) q = true
may_follow space q = true
may_follow line q = true
may_follow comment line = true
may_follow comment q = false
may_follow p q = ends_run q

abbrev pub follows : Piece → List Piece → Bool
follows comment [] = false
follows p [] = true
follows p (q ∷ qs) = may_follow p q

abbrev pub is_spaced : List Piece → Bool
is_spaced [] = true
is_spaced (p ∷ ps) = follows p ps && is_spaced ps

abbrev pub AreSpelled : List Piece → Type 0
AreSpelled [] = Unit {0}
AreSpelled (name n ∷ ps) = IsSpelled (name n) × AreSpelled ps
AreSpelled (number n ∷ ps) = IsSpelled (number n) × AreSpelled ps
AreSpelled (operand x ∷ ps) = IsSpelled (operand x) × AreSpelled ps
AreSpelled (p ∷ ps) = AreSpelled ps

abbrev pub kind_of_operand : Operand → Kind
kind_of_operand (item.named x) = t.name x.name
kind_of_operand (item.constant c) = t.constant c.width c.value

abbrev at_place : ℕ → Kind → Token
at_place place kind = record { place = place; kind = kind }

-- the tokens of pieces that begin at a place
abbrev pub tokens_at : ℕ → List Piece → List Token
tokens_at from [] = []
tokens_at from (space ∷ ps) = tokens_at (from + 1) ps
tokens_at from (line ∷ ps) = tokens_at (from + 1) ps
tokens_at from (comment ∷ ps) = tokens_at (from + length (piece_text comment)) ps
tokens_at from (zero ∷ ps) = at_place from (t.number 0 1) ∷ tokens_at (from + 1) ps
tokens_at from (one ∷ ps) = at_place from (t.number 1 1) ∷ tokens_at (from + 1) ps
tokens_at from (word w ∷ ps) = at_place from (t.word w) ∷ tokens_at (from + length (word_text w)) ps
tokens_at from (sign s ∷ ps) = at_place from (t.sign s) ∷ tokens_at (from + length (sign_text s)) ps
tokens_at from (name n ∷ ps) = at_place from (t.name n) ∷ tokens_at (from + length n) ps
tokens_at from (number n ∷ ps) = at_place from (t.number n (length (decimal n))) ∷ tokens_at (from + length (decimal n)) ps
tokens_at from (operand x ∷ ps) = at_place from (kind_of_operand x) ∷ tokens_at (from + length (operand_text x)) ps

-- no piece joins what may follow it
behind_sign : (s : Sign) (rest : List ℕ) → (is_inner (slice_index (sign_text s ++ rest) 0) || eqb (slice_index (sign_text s ++ rest) 0) 39) ≡ false
behind_sign t.open_paren rest = refl
behind_sign _ rest = refl

behind_run : (q : Piece) (rest : List ℕ) → ends_run q ≡ true → (is_inner (slice_index (piece_text q ++ rest) 0) || eqb (slice_index (piece_text q ++ rest) 0) 39) ≡ false
behind_run space rest h = refl
behind_run line rest h = refl
behind_run (sign s) rest h = behind_sign s rest
behind_run _ rest h = absurd (cc)

behind_open : (s : Sign) (q : Piece) (rest : List ℕ) → is_blank q ≡ true → clings (sign s) (slice_index (piece_text q ++ rest) 0) ≡ false
behind_open s space rest h = blank_byte s where
  blank_byte : (s : Sign) → clings (sign s) 32 ≡ false
  blank_byte t.is = refl
  blank_byte _ = refl
behind_open s line rest h = line_byte s where
  line_byte : (s : Sign) → clings (sign s) 10 ≡ false
  line_byte t.is = refl
  line_byte _ = refl
behind_open s _ rest h = absurd (cc)

sign_apart : (s : Sign) (q : Piece) (rest : List ℕ) → may_follow (sign s) q ≡ true → clings (sign s) (slice_index (piece_text q ++ rest) 0) ≡ false
sign_apart t.is q rest h = behind_open t.is q rest h
sign_apart t.less q rest h = behind_open t.less q rest h
sign_apart _ q rest h = refl

apart : (p q : Piece) (rest : List ℕ) → may_follow p q ≡ true → clings p (slice_index (piece_text q ++ rest) 0) ≡ false
apart (sign s) q rest h = sign_apart s q rest h
apart space q rest h = refl
apart line q rest h = refl
apart comment line rest h = refl
apart comment _ rest h = absurd (cc)
apart _ q rest h = behind_run q rest h

behind : (p : Piece) (qs : List Piece) → follows p qs ≡ true → clings p (slice_index (text_of qs) 0) ≡ false
behind p [] h = at_end p h where
  at_end : (p : Piece) → follows p [] ≡ true → clings p 0 ≡ false
  at_end comment g = absurd (cc)
  at_end (sign t.is) g = refl
  at_end _ g = refl
behind p (q ∷ qs) h = apart p q (text_of qs) h

-- what is left behind a piece
lexed_behind : (p : Piece) (qs : List Piece) (from : ℕ) (ts : List Token) → Lexed (from + length (piece_text p)) (text_of qs) ts
    → Lexed (from + length (piece_text p)) (drop (length (piece_text p)) (piece_text p ++ text_of qs)) ts
lexed_behind p qs from ts h = subst (λ bs. Lexed (from + length (piece_text p)) bs ts) (sym (drop_front (piece_text p) (text_of qs))) h

pub pieces_lexed : (ps : List Piece) (from : ℕ) → AreSpelled ps → is_spaced ps ≡ true → Lexed from (text_of ps) (tokens_at from ps)
pieces_lexed [] from h sp = end
pieces_lexed (space ∷ ps) from h sp =
    let w = and_parts (follows space ps) (is_spaced ps) sp in
    blank_first 1 (piece_spelled space (text_of ps) tt (behind space ps w.0)) (pieces_lexed ps (from + 1) h w.1)
pieces_lexed (line ∷ ps) from h sp =
    let w = and_parts (follows line ps) (is_spaced ps) sp in
    blank_first 1 (piece_spelled line (text_of ps) tt (behind line ps w.0)) (pieces_lexed ps (from + 1) h w.1)
pieces_lexed (comment ∷ ps) from h sp =
    let w = and_parts (follows comment ps) (is_spaced ps) sp in
    let p = comment in
    blank_first (length (piece_text p)) (piece_spelled p (text_of ps) tt (behind p ps w.0)) (pieces_lexed ps (from + length (piece_text p)) h w.1)
pieces_lexed (zero ∷ ps) from h sp =
    let w = and_parts (follows zero ps) (is_spaced ps) sp in
    token_first (t.number 0 1) 1 (piece_spelled zero (text_of ps) tt (behind zero ps w.0)) (pieces_lexed ps (from + 1) h w.1)
pieces_lexed (one ∷ ps) from h sp =
    let w = and_parts (follows one ps) (is_spaced ps) sp in
    token_first (t.number 1 1) 1 (piece_spelled one (text_of ps) tt (behind one ps w.0)) (pieces_lexed ps (from + 1) h w.1)
pieces_lexed (word w ∷ ps) from h sp =
    let v = and_parts (follows (word w) ps) (is_spaced ps) sp in
    let p = word w in
    token_first (t.word w) (length (piece_text p)) (piece_spelled p (text_of ps) tt (behind p ps v.0))
    (lexed_behind p ps from _ (pieces_lexed ps (from + length (piece_text p)) h v.1))
pieces_lexed (sign s ∷ ps) from h sp =
    let v = and_parts (follows (sign s) ps) (is_spaced ps) sp in
    let p = sign s in
    token_first (t.sign s) (length (piece_text p)) (piece_spelled p (text_of ps) tt (behind p ps v.0))
    (lexed_behind p ps from _ (pieces_lexed ps (from + length (piece_text p)) h v.1))
pieces_lexed (name n ∷ ps) from h sp =
    let v = and_parts (follows (name n) ps) (is_spaced ps) sp in
    let p = name n in
    token_first (t.name n) (length (piece_text p)) (piece_spelled p (text_of ps) h.0 (behind p ps v.0))
    (lexed_behind p ps from _ (pieces_lexed ps (from + length (piece_text p)) h.1 v.1))
pieces_lexed (number n ∷ ps) from h sp =
    let v = and_parts (follows (number n) ps) (is_spaced ps) sp in
    let p = number n in
    token_first (t.number n (length (decimal n))) (length (piece_text p)) (piece_spelled p (text_of ps) h.0 (behind p ps v.0))
    (lexed_behind p ps from _ (pieces_lexed ps (from + length (piece_text p)) h.1 v.1))
pieces_lexed (operand (item.named x) ∷ ps) from h sp =
    let p = operand (item.named x) in
    let v = and_parts (follows p ps) (is_spaced ps) sp in
    token_first (t.name x.name) (length (piece_text p)) (piece_spelled p (text_of ps) h.0 (behind p ps v.0))
    (lexed_behind p ps from _ (pieces_lexed ps (from + length (piece_text p)) h.1 v.1))
pieces_lexed (operand (item.constant c) ∷ ps) from h sp =
    let p = operand (item.constant c) in
    let v = and_parts (follows p ps) (is_spaced ps) sp in
    token_first (t.constant c.width c.value) (length (piece_text p)) (piece_spelled p (text_of ps) h.0 (behind p ps v.0))
    (lexed_behind p ps from _ (pieces_lexed ps (from + length (piece_text p)) h.1 v.1))
