-- A field whose digits were read in one look.
use Rattle.sap_lemmas.proofs.Common.{◌≡◌, ℕ, zero, suc, ◌+◌, ◌-◌, ◌*◌, ◌<◌, ◌≤◌, ◌^◌, Bool, true, false, not, cond, eqb, Some, Result, Ok, Err, List, [], ◌∷◌, length, get_or, take, drop, refl, sym, ap, ap₂, ◌∙◌, arith, nat_lt, digit_value, is_ascii_digit, before_first, list_all, position_or_len, digits_value, and_parts, and_from, le-leb, leb-true, nat_tests, drop-take, get_or-take, length-drop, length-take-le, take-take, digits_model}
use Rattle.std.proofs.lemmas.Int.Digits.{digits_value_more}
use Rattle.std.proofs.lemmas.List.Folds.{list_all_more}
use Rattle.std.proofs.lemmas.Str.Parse.{digits_value_short}
use borrow.Author.Tests.{eq-eqb, ne_eqb}
use Rattle.sap_lattice.specs.Levels.{Levels, level_named}
use Rattle.sap_meaning.specs.Cycle.{Tagged as Given}
use Rattle.sap_stim.specs.declared.fault.StimCode.{StimCode}
use Rattle.sap_stim.specs.declared.fault.StimCode.TheVariants.{S1, S2}
use Rattle.sap_stim.specs.Line.{and_then, is_value, value_of, with_level, tagged_of}
use Rattle.sap_stim.proofs.Fronts.{ends_behind}
use Rattle.sap_stim.proofs.Marks.{front_behind, front_byte, front_length, front_take, kind_inside, line}
use Rattle.sap_stim.proofs.Pieces.{is_mark, piece_ends}

-- where a byte lies that is a digit
digit_bounds : (b : ℕ) → is_ascii_digit b ≡ true → (48 ≤ b) × (b ≤ 57)
digit_bounds b e = let p = and_parts _ _ e in (leb-true 48 b p.0, leb-true b 57 p.1)

digit_is : (b : ℕ) → 48 ≤ b → b ≤ 57 → digit_value b ≡ b - 48
digit_is b low high = grind (arith, nat_tests)

-- a further digit
pub digit_more : (s : List ℕ) (k number : ℕ) → k < length s → is_ascii_digit (get_or s k 0) ≡ true → number ≡ digits_value 10 (take k s)
    → number * 10 + (get_or s k 0 - 48) ≡ digits_value 10 (take (k + 1) s)
digit_more s k number h is e =
    let bounds = digit_bounds (get_or s k 0) is in
    omega (arith, e, digit_is (get_or s k 0) bounds.0 bounds.1, digits_value_more 10 s k h)

pub digits_more : (s : List ℕ) (k : ℕ) → k < length s → is_ascii_digit (get_or s k 0) ≡ true → list_all is_ascii_digit (take k s) ≡ true
    → list_all is_ascii_digit (take (k + 1) s) ≡ true
digits_more s k h is all = list_all_more is_ascii_digit s k 0 h ∙ and_from _ _ all is

-- a number of at most 18 digits
pub few_small : (s : List ℕ) (k number : ℕ) → k < length s → k < 19 → list_all is_ascii_digit (take k s) ≡ true → number ≡ digits_value 10 (take k s) → number < 10 ^ 18
few_small s k number h few all e =
    let short : length (take k s) ≤ 18 = omega (arith, few, length-take-le k s (omega (arith, h))) in
    let small : digits_value 10 (take k s) < 10 ^ 18 = digits_value_short digits_model (take k s) 18 all short in
    omega (arith, e, small)

-- the first mark stands behind digits
at_mark : (s : List ℕ) (k : ℕ) → k < length s → list_all is_ascii_digit (take k s) ≡ true → get_or s k 0 ≡ 64 → position_or_len (is_mark 64) s ≡ k
at_mark [] k h all e = absurd (omega arith)
at_mark (b ∷ bs) zero h all e = ap (λ (t : Bool). cond (not t) (1 + position_or_len (is_mark 64) bs) 0) (eq-eqb b 64 e)
at_mark (b ∷ bs) (suc k) h all e =
    let p = and_parts (is_ascii_digit b) (list_all is_ascii_digit (take k bs)) all in
    let bounds = digit_bounds b p.0 in
    let other : eqb b 64 ≡ false = ne_eqb b 64 (λ same. omega (arith, same, bounds.1)) in
    let rest : position_or_len (is_mark 64) bs ≡ k = at_mark bs k (omega arith) p.1 e in
    let next : 1 + position_or_len (is_mark 64) bs ≡ suc k = omega (arith, rest) in
    ap (λ (t : Bool). cond (not t) (1 + position_or_len (is_mark 64) bs) 0) other ∙ next

some_digits : (s : List ℕ) → 0 < length s → length s ≤ 20 → list_all is_ascii_digit s ≡ true → is_value s ≡ true
some_digits s some few all = and_from _ _ (and_from _ _ all (le-leb 1 (length s) some)) (le-leb (length s) 20 few)

abbrev fitting : ℕ → ℕ → Result ℕ StimCode
fitting width number = cond (nat_lt number (2 ^ width)) (Ok number) (Err S2)

value_small : (width number : ℕ) (s : List ℕ) → is_value s ≡ true → number ≡ digits_value 10 s → nat_lt number (2 ^ width) ≡ true → value_of width s ≡ Ok number
value_small width number s is e small =
    ap (λ (t : Bool). cond (not t) (Err S1) (fitting width (digits_value 10 s))) is
    ∙ ap (fitting width) (sym e)
    ∙ ap (λ (t : Bool). cond t (Ok number) (Err S2)) small

-- what a field of these two parts gives
abbrev parts_of : Levels → (width : ℕ) → List ℕ → List ℕ → Result Given StimCode
parts_of ls width digits name = cond (eqb (length name) 0) (Err S1) (and_then (value_of width digits) (λ value. with_level value (level_named ls.names name)))

tagged_small : (ls : Levels) (width : ℕ) (s : List ℕ) (k number level : ℕ) → 0 < k → k ≤ 20 → k + 1 < length s → list_all is_ascii_digit (take k s) ≡ true → get_or s k 0 ≡ 64
    → number ≡ digits_value 10 (take k s) → nat_lt number (2 ^ width) ≡ true → Some level ≡ level_named ls.names (drop (k + 1) s)
    → Ok (record { number = number; level = level }) ≡ tagged_of ls width s
tagged_small ls width s k number level some few more all mark is small named =
    let place : position_or_len (is_mark 64) s ≡ k = at_mark s k (omega arith) all mark in
    let size : length (take k s) ≡ k = length-take-le k s (omega arith) in
    let value : value_of width (take k s) ≡ Ok number = value_small width number (take k s) (some_digits (take k s) (omega (arith, size)) (omega (arith, size)) all) is small in
    let filled : eqb (length (drop (k + 1) s)) 0 ≡ false = ne_eqb (length (drop (k + 1) s)) 0 (λ none. let l = length-drop (k + 1) s in omega (arith, none)) in
    sym (ap₂ (parts_of ls width) (ap (λ (j : ℕ). take j s) place) (ap (λ (j : ℕ). drop (j + 1) s) place)
    ∙ ap (λ (t : Bool). cond t (Err S1) (and_then (value_of width (take k s)) (λ value. with_level value (level_named ls.names (drop (k + 1) s))))) filled
    ∙ ap (λ (r : Result ℕ StimCode). and_then r (λ value. with_level value (level_named ls.names (drop (k + 1) s)))) value
    ∙ ap (with_level number) (sym named))

-- the field at the front of a text, whose level's name is so long
pub tagged_first : (ls : Levels) (width : ℕ) (s : List ℕ) (k number level p : ℕ) → 0 < k → k ≤ 20 → k < length s → list_all is_ascii_digit (take k s) ≡ true → get_or s k 0 ≡ 64
    → number ≡ digits_value 10 (take k s) → nat_lt number (2 ^ width) ≡ true → p ≡ position_or_len (is_mark 32) (drop (k + 1) s) → 0 < p
    → Some level ≡ level_named ls.names (before_first (is_mark 32) (drop (k + 1) s))
    → (k + 1 + p ≡ position_or_len (is_mark 32) s) × (Ok (record { number = number; level = level }) ≡ tagged_of ls width (before_first (is_mark 32) s))
tagged_first ls width s k number level p some few more all mark is small ends named_some named =
    let end : k + 1 + p ≡ position_or_len (is_mark 32) s = omega (arith, ends_behind s k more all mark, ends) in
    let text : List ℕ = take (k + 1 + p) s in
    let whole : text ≡ before_first (is_mark 32) s = ap (λ (j : ℕ). take j s) end in
    let size : length text ≡ k + 1 + p = ap length whole ∙ piece_ends 32 s (before_first (is_mark 32) s) refl ∙ sym end in
    let front : take k text ≡ take k s = take-take k (k + 1 + p) s (omega arith) in
    let name : before_first (is_mark 32) (drop (k + 1) s) ≡ drop (k + 1) text = ap (λ (j : ℕ). take j (drop (k + 1) s)) (sym ends) ∙ sym (drop-take (k + 1) p s) in (
      end,
      tagged_small ls width text k number level some few (omega (arith, size)) (ap (list_all is_ascii_digit) front ∙ all) (get_or-take (k + 1 + p) s k 0 (omega arith) ∙ mark)
          (is ∙ ap (digits_value 10) (sym front)) small (named ∙ ap (level_named ls.names) name)
          ∙ ap (tagged_of ls width) whole,
    )

-- the same of a text that has lines behind
pub tagged_ahead : (ls : Levels) (width : ℕ) (s : List ℕ) (k number level p : ℕ) → 0 < k → k ≤ 20 → k < length s → list_all is_ascii_digit (take k s) ≡ true → get_or s k 0 ≡ 64
    → number ≡ digits_value 10 (take k s) → nat_lt number (2 ^ width) ≡ true → p ≡ position_or_len (is_mark 32) (line (drop (k + 1) s)) → 0 < p
    → Some level ≡ level_named ls.names (before_first (is_mark 32) (line (drop (k + 1) s)))
    → (k + 1 + p ≡ position_or_len (is_mark 32) (line s)) × (Ok (record { number = number; level = level }) ≡ tagged_of ls width (before_first (is_mark 32) (line s)))
tagged_ahead ls width s k number level p some few more all mark is small ends named_some named =
    let inside : k < position_or_len (is_mark 10) s = kind_inside is_ascii_digit 10 refl s k more all (λ lf. omega (arith, lf, mark)) in
    let front : take k (line s) ≡ take k s = front_take 10 s k (omega (arith, inside)) in
    let rest : drop (k + 1) (line s) ≡ line (drop (k + 1) s) = front_behind 10 s (k + 1) (omega (arith, inside)) in
    tagged_first ls width (line s) k number level p some few (omega (arith, inside, front_length 10 s)) (ap (list_all is_ascii_digit) front ∙ all) (front_byte 10 s k inside ∙ mark)
    (is ∙ ap (digits_value 10) (sym front)) small (ends ∙ ap (position_or_len (is_mark 32)) (sym rest)) named_some
    (named ∙ ap (λ (l : List ℕ). level_named ls.names (before_first (is_mark 32) l)) (sym rest))
