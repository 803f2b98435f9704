-- A line of a stimulus whose numbers are written out is read back.
use Rattle.sap_lemmas.proofs.Common.{◌≡◌, ℕ, suc, ◌+◌, ◌<◌, ◌≤◌, ◌^◌, Bool, true, false, not, cond, eqb, Some, None, Result, Ok, Err, List, [], ◌∷◌, ◌++◌, length, take, drop, refl, sym, ap, ap₂, ◌∙◌, arith, nat_lt, is_ascii_digit, before_first, after_first, list_all, position_or_len, decimal, digits_value, append_assoc, take-append_seam, and_from, and_parts, ne_eqb, eq-eqb, le-leb, lt-ltb, not-true, length-decimal-le, decimal_nonempty, digits_decimal, digits_value-decimal, digits_model}
use Rattle.std.specs.List.{onto_first}
use Rattle.std.proofs.lemmas.List.Folds.{list_all-append}
use Rattle.std.proofs.lemmas.List.Splits.{slice_split-cons_no, slice_split-cons_yes}
use Rattle.sap_text.specs.Lines.{split_at}
use Rattle.sap_text.specs.Places.{line}
use Rattle.sap_lattice.specs.Levels.{Levels, level_named}
use Rattle.sap_meaning.specs.Cycle.{Tagged as Given}
use Rattle.sap_stream.specs.Spans.{Span, cycles_in}
use Rattle.sap_stim.specs.declared.fault.StimCode.{StimCode}
use Rattle.sap_stim.specs.declared.fault.StimCode.TheVariants.{S1, S2, S6}
use Rattle.sap_stim.specs.declared.field.Field.{Field}
use Rattle.sap_stim.specs.declared.field.Field.TheVariants.{Tagged}
use Rattle.sap_stim.specs.Line.{and_then, is_value, value_of, with_level, tagged_of, inputs_of, pieces_of, fields_of, fields_in, is_starred, is_count, count_in, count_of, line_of}
use Rattle.sap_stim.specs.Stimulus.{ahead, going_on, read_from, read_pieces}
use Rattle.sap_stim.proofs.Fitting.{line_given}
use Rattle.sap_stim.proofs.Pieces.{is_mark, split_count}

-- ---- bytes among which a mark isn't

abbrev pub avoids : (mark : ℕ) → List ℕ → Bool
avoids mark s = list_all (λ b. not (eqb b mark)) s

pub split_behind : (m : ℕ) (xs ys : List ℕ) → avoids m xs ≡ true → split_at m (xs ++ m ∷ ys) ≡ xs ∷ split_at m ys
split_behind m [] ys h = slice_split-cons_yes (is_mark m) m ys (eq-eqb m m refl)
split_behind m (x ∷ xs) ys h =
    let p = and_parts (not (eqb x m)) (avoids m xs) h in
    slice_split-cons_no (is_mark m) x (xs ++ m ∷ ys) (not-true (eqb x m) p.0) ∙ ap (onto_first x) (split_behind m xs ys p.1)

pub split_whole : (m : ℕ) (xs : List ℕ) → avoids m xs ≡ true → split_at m xs ≡ xs ∷ []
split_whole m [] h = refl
split_whole m (x ∷ xs) h =
    let p = and_parts (not (eqb x m)) (avoids m xs) h in
    slice_split-cons_no (is_mark m) x xs (not-true (eqb x m) p.0) ∙ ap (onto_first x) (split_whole m xs p.1)

place_behind : (m : ℕ) (xs ys : List ℕ) → avoids m xs ≡ true → position_or_len (is_mark m) (xs ++ m ∷ ys) ≡ length xs
place_behind m [] ys h = ap (λ (t : Bool). cond (not t) (1 + position_or_len (is_mark m) ys) 0) (eq-eqb m m refl)
place_behind m (x ∷ xs) ys h =
    let p = and_parts (not (eqb x m)) (avoids m xs) h in
    let rest = place_behind m xs ys p.1 in
    let next : 1 + position_or_len (is_mark m) (xs ++ m ∷ ys) ≡ suc (length xs) = omega (arith, rest) in
    ap (λ (t : Bool). cond (not t) (1 + position_or_len (is_mark m) (xs ++ m ∷ ys)) 0) (not-true (eqb x m) p.0) ∙ next

drop_seam : (m : ℕ) (xs ys : List ℕ) → drop (length xs + 1) (xs ++ m ∷ ys) ≡ ys
drop_seam m [] ys = refl
drop_seam m (x ∷ xs) ys =
    let e : suc (length xs) + 1 ≡ suc (length xs + 1) = omega arith in
    ap (λ (k : ℕ). drop k (x ∷ (xs ++ m ∷ ys))) e ∙ drop_seam m xs ys

front_is : (m : ℕ) (xs ys : List ℕ) → avoids m xs ≡ true → before_first (is_mark m) (xs ++ m ∷ ys) ≡ xs
front_is m xs ys h = ap (λ (k : ℕ). take k (xs ++ m ∷ ys)) (place_behind m xs ys h) ∙ take-append_seam xs (m ∷ ys)

rest_is : (m : ℕ) (xs ys : List ℕ) → avoids m xs ≡ true → after_first (is_mark m) (xs ++ m ∷ ys) ≡ ys
rest_is m xs ys h = ap (λ (k : ℕ). drop (k + 1) (xs ++ m ∷ ys)) (place_behind m xs ys h) ∙ drop_seam m xs ys

pub avoids_both : (m : ℕ) (xs ys : List ℕ) → avoids m xs ≡ true → avoids m ys ≡ true → avoids m (xs ++ ys) ≡ true
avoids_both m xs ys h k = list_all-append (λ b. not (eqb b m)) xs ys ∙ and_from (avoids m xs) (avoids m ys) h k

digits_avoid : (m : ℕ) → is_ascii_digit m ≡ false → (s : List ℕ) → list_all is_ascii_digit s ≡ true → avoids m s ≡ true
digits_avoid m none [] h = refl
digits_avoid m none (b ∷ bs) h =
    let p = and_parts (is_ascii_digit b) (list_all is_ascii_digit bs) h in
    let other : eqb b m ≡ false = ne_eqb b m (λ same. absurd (let e : is_ascii_digit m ≡ true = ap is_ascii_digit (sym same) ∙ p.0 in let f : ⊥ = cc in f)) in
    and_from (not (eqb b m)) (avoids m bs) (ap not other) (digits_avoid m none bs p.1)

-- ---- numbers

small : (n : ℕ) → n < 65536 → n < 2 ^ 64
small n h = omega arith

pub decimal_avoids : (m n : ℕ) → is_ascii_digit m ≡ false → n < 65536 → avoids m (decimal n) ≡ true
decimal_avoids m n none h = digits_avoid m none (decimal n) (digits_decimal digits_model n (small n h))

pub decimal_short : (n : ℕ) → n < 65536 → length (decimal n) ≤ 5
decimal_short n h = length-decimal-le 5 n (omega arith) (let e : n < 10 ^ 5 = omega arith in e) (small n h)

number_is : (n : ℕ) → n < 65536 → digits_value 10 (decimal n) ≡ n
number_is n h = digits_value-decimal digits_model n (small n h)

abbrev fitting : (width number : ℕ) → Result ℕ StimCode
fitting width number = cond (nat_lt number (2 ^ width)) (Ok number) (Err S2)

value_read : (width n : ℕ) → n < 65536 → n < 2 ^ width → value_of width (decimal n) ≡ Ok n
value_read width n h fits =
    let s : List ℕ = decimal n in
    let short : length s ≤ 20 = omega (arith, decimal_short n h) in
    let is : is_value s ≡ true =
    and_from _ _ (and_from _ _ (digits_decimal digits_model n (small n h)) (le-leb 1 (length s) (decimal_nonempty n (small n h)))) (le-leb (length s) 20 short) in
    ap (λ (t : Bool). cond (not t) (Err S1) (fitting width (digits_value 10 s))) is
    ∙ ap (fitting width) (number_is n h)
    ∙ ap (λ (t : Bool). cond t (Ok n) (Err S2)) (lt-ltb n (2 ^ width) fits)

abbrev parts_of : Levels → (width : ℕ) → (digits name : List ℕ) → Result Given StimCode
parts_of ls width digits name = cond (eqb (length name) 0) (Err S1) (and_then (value_of width digits) (λ value. with_level value (level_named ls.names name)))

-- NUMBER@NAME
pub field_read : (ls : Levels) (width n level : ℕ) (name : List ℕ) → n < 65536 → n < 2 ^ width → 0 < length name → level_named ls.names name ≡ Some level
    → tagged_of ls width (decimal n ++ 64 ∷ name) ≡ Ok (record { number = n; level = level })
field_read ls width n level name h fits some named =
    let free : avoids 64 (decimal n) ≡ true = decimal_avoids 64 n refl h in
    let filled : eqb (length name) 0 ≡ false = ne_eqb (length name) 0 (λ none. omega (arith, none, some)) in
    ap₂ (parts_of ls width) (front_is 64 (decimal n) name free) (rest_is 64 (decimal n) name free)
    ∙ ap (λ (t : Bool). cond t (Err S1) (and_then (value_of width (decimal n)) (λ value. with_level value (level_named ls.names name)))) filled
    ∙ ap (λ (r : Result ℕ StimCode). and_then r (λ value. with_level value (level_named ls.names name))) (value_read width n h fits)
    ∙ ap (with_level n) named

-- *NUMBER
pub count_read : (m : ℕ) → 1 ≤ m → m ≤ 65535 → count_of (Some (42 ∷ decimal m)) ≡ Ok m
count_read m some few =
    let s : List ℕ = decimal m in
    let h : m < 65536 = omega arith in
    let value : digits_value 10 s ≡ m = number_is m h in
    let is : is_count s ≡ true =
    and_from _ _ (and_from _ _ (and_from _ _ (and_from _ _ (digits_decimal digits_model m (small m h)) (le-leb 1 (length s) (decimal_nonempty m (small m h)))) (le-leb (length s) 5 (decimal_short m h)))
    (le-leb 1 (digits_value 10 s) (omega (arith, value, some)))) (le-leb (digits_value 10 s) 65535 (omega (arith, value, few))) in
    ap (λ (t : Bool). cond t (Ok (digits_value 10 s)) (Err S6)) is ∙ ap (λ (n : ℕ). Ok n) value

-- ---- lines of two fields

abbrev pub two : (width : ℕ) → List Field
two width = Tagged width ∷ Tagged width ∷ []

two_read : (ls : Levels) (width : ℕ) (p q : List ℕ) (s t : Given) → tagged_of ls width p ≡ Ok s → tagged_of ls width q ≡ Ok t
    → inputs_of ls (two width) (p ∷ q ∷ []) ≡ Ok (s ∷ t ∷ [])
two_read ls width p q s t one other =
    ap (λ (r : Result Given StimCode). and_then r (λ input. and_then (inputs_of ls (Tagged width ∷ []) (q ∷ [])) (λ inputs. Ok (input ∷ inputs)))) one
    ∙ ap (λ (r : Result Given StimCode). and_then (and_then r (λ input. Ok (input ∷ []))) (λ inputs. Ok (s ∷ inputs))) other

pieces_split : (s : List ℕ) → 0 < length s → pieces_of s ≡ split_at 32 s
pieces_split [] h = absurd (omega arith)
pieces_split (b ∷ bs) h = refl

not_starred : (s : List ℕ) → avoids 42 s ≡ true → is_starred s ≡ false
not_starred [] h = refl
not_starred (b ∷ bs) h = not-true (eqb b 42) (and_parts (not (eqb b 42)) (avoids 42 bs) h).0

module _ (ls : Levels) (width : ℕ) (text p q : List ℕ) (s t : Given) (short : length text ≤ 65536) (some : 0 < length text)
    (one : tagged_of ls width p ≡ Ok s) (other : tagged_of ls width q ≡ Ok t) where
  -- without a count
  pub plain_line : split_at 32 text ≡ p ∷ q ∷ [] → avoids 42 q ≡ true → Ok (record { inputs = s ∷ t ∷ []; count = 1 }) ≡ line_of ls (two width) true text
  plain_line split free =
      let pieces : pieces_of text ≡ p ∷ q ∷ [] = pieces_split text some ∙ split in
      let fields : fields_of text ≡ p ∷ q ∷ [] =
      ap fields_in pieces ∙ ap (λ (b : Bool). p ∷ cond b [] (q ∷ [])) (not_starred q free) in
      line_given ls (two width) text (s ∷ t ∷ []) 1 short (ap length fields)
      (sym (ap (inputs_of ls (two width)) fields ∙ two_read ls width p q s t one other))
      (sym (ap (λ ps. count_of (count_in ps)) pieces ∙ ap (λ (b : Bool). count_of (cond b (Some q) None)) (not_starred q free)))

  -- with one
  pub counted_line : (m : ℕ) → 1 ≤ m → m ≤ 65535 → split_at 32 text ≡ p ∷ q ∷ (42 ∷ decimal m) ∷ [] → Ok (record { inputs = s ∷ t ∷ []; count = m }) ≡ line_of ls (two width) true text
  counted_line m least most split =
      let pieces : pieces_of text ≡ p ∷ q ∷ (42 ∷ decimal m) ∷ [] = pieces_split text some ∙ split in
      let fields : fields_of text ≡ p ∷ q ∷ [] = ap fields_in pieces in
      line_given ls (two width) text (s ∷ t ∷ []) m short (ap length fields)
      (sym (ap (inputs_of ls (two width)) fields ∙ two_read ls width p q s t one other))
      (sym (ap (λ ps. count_of (count_in ps)) pieces ∙ count_read m least most))

-- ---- lines, one after another

-- from whichever line on a text is read, without a fault, as these cycles
abbrev pub Gives : Levels → List Field → (text : List ℕ) → List (List Given) → Type 0
Gives ls fs text stream = (n : ℕ) → read_from ls fs n text ≡ record { stream = stream; fault = None }

module _ (ls : Levels) (fs : List Field) where
  pub none_given : Gives ls fs [] []
  none_given n = refl

  more_pieces : (n : ℕ) (text : List ℕ) (ps : List (List ℕ)) → 0 < length ps
      → read_pieces ls fs n (text ∷ ps) ≡ going_on n (line_of ls fs true text) (read_pieces ls fs (n + 1) ps)
  more_pieces n text [] h = absurd (omega arith)
  more_pieces n text (p ∷ ps) h = refl

  pub line_more : (text rest : List ℕ) (span : Span) (stream : List (List Given)) → avoids 10 text ≡ true → Ok span ≡ line_of ls fs true text → Gives ls fs rest stream
      → Gives ls fs (line text ++ rest) (cycles_in span ++ stream)
  line_more text rest span stream free is gives n =
      ap (λ (s : List ℕ). read_pieces ls fs n (split_at 10 s)) (append_assoc text (10 ∷ []) rest)
      ∙ ap (read_pieces ls fs n) (split_behind 10 text rest free)
      ∙ more_pieces n text (split_at 10 rest) (omega (arith, split_count 10 rest))
      ∙ ap (λ (r : Result Span StimCode). going_on n r (read_from ls fs (n + 1) rest)) (sym is)
      ∙ ap (ahead span) (gives (n + 1))
