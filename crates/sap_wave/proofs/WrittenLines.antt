-- Lines that are written one after another, from left to right.
use Rattle.sap_lemmas.proofs.Common.{◌≡◌, ℕ, zero, suc, ◌+◌, ◌<◌, List, [], ◌∷◌, ◌++◌, Bool, true, false, Result, OnOk, length, length-append, get_or, drop, refl, sym, ap, ◌∙◌, arith, append_assoc, ◌==◌, if◌then◌else◌, drop-cons, append-nil, append_three, on_ok}
use Rattle.sap_text.specs.Places.{line}
use Rattle.sap_wave.specs.declared.variable.Variable.{Variable}
use Rattle.sap_wave.specs.Prelude.{numeral, Form, timescale, scope, upscope, end_definitions, block, form_text, text_of, declaration, declarations, set_to, all_set, changes, head}

-- a part more is written
pub grows : (out old next here rest whole : List ℕ) → out ++ whole ≡ old → whole ≡ here ++ rest → next ≡ out ++ here → next ++ rest ≡ old
grows out old next here rest whole before more grown =
    ap (λ (x : List ℕ). x ++ rest) grown ∙ append_assoc out here rest ∙ ap (λ (x : List ℕ). out ++ x) (sym more) ∙ before

-- nothing is left
pub written : (out old whole : List ℕ) → out ++ whole ≡ old → whole ≡ [] → out ≡ old
written out old whole before none = sym (append-nil out) ∙ ap (λ (x : List ℕ). out ++ x) (sym none) ∙ before

-- what has no room for a part has none for the whole
pub full_more : (out old here rest whole : List ℕ) (capacity : ℕ) → out ++ whole ≡ old → whole ≡ here ++ rest → capacity < length out + length here → capacity < length old
full_more out old here rest whole capacity before more full =
    let a : length old ≡ length out + length whole = sym (ap length before) ∙ length-append out whole in
    let b : length whole ≡ length here + length rest = ap length more ∙ length-append here rest in
    omega (arith, a, b, full)

pub one_more : {A : Type 0} (xs : List A) (i : ℕ) (x : A) → i < length xs → x ≡ get_or xs i x → drop i xs ≡ x ∷ drop (i + 1) xs
one_more {A = A} xs i x h e =
    let s : suc i ≡ i + 1 = omega arith in
    drop-cons xs i x h ∙ ap (λ (y : A). y ∷ drop (suc i) xs) (sym e) ∙ ap (λ (k : ℕ). x ∷ drop k xs) s

number_more : (ns : List ℕ) (i : ℕ) → i < length ns → drop i ns ≡ get_or ns i 0 ∷ drop (i + 1) ns
number_more ns i h =
    let s : suc i ≡ i + 1 = omega arith in
    drop-cons ns i 0 h ∙ ap (λ (k : ℕ). get_or ns i 0 ∷ drop k ns) s

-- The head.

pub text_append : (fs gs : List Form) → text_of (fs ++ gs) ≡ text_of fs ++ text_of gs
text_append [] gs = refl
text_append (f ∷ fs) gs = ap (λ (x : List ℕ). line (form_text f) ++ x) (text_append fs gs) ∙ append_three (line (form_text f)) (text_of fs) (text_of gs)

abbrev pub opening : List ℕ
opening = text_of (timescale ∷ (scope ∷ []))

abbrev pub closing : List ℕ
closing = text_of (upscope ∷ (end_definitions ∷ []))

head_parts : (xs : List Variable) (first : List ℕ)
    → opening ++ (text_of (declarations 0 xs) ++ (closing ++ (line (form_text (block (numeral 0))) ++ text_of (all_set 0 xs first)))) ≡ text_of (head xs first)
head_parts xs first = ap (λ (x : List ℕ). opening ++ x) (sym (text_append (declarations 0 xs) (upscope ∷ (end_definitions ∷ (block (numeral 0) ∷ all_set 0 xs first)))))

five_parts : (out a b c d e p q r s t : List ℕ) → a ≡ out ++ p → b ≡ a ++ q → c ≡ b ++ r → d ≡ c ++ s → e ≡ d ++ t → e ≡ out ++ (p ++ (q ++ (r ++ (s ++ t))))
five_parts out a b c d e p q r s t i j k l m =
    m
    ∙ ap (λ (x : List ℕ). x ++ t) l
    ∙ append_assoc c s t
    ∙ ap (λ (x : List ℕ). x ++ (s ++ t)) k
    ∙ append_assoc b r (s ++ t)
    ∙ ap (λ (x : List ℕ). x ++ (r ++ (s ++ t))) j
    ∙ append_assoc a q (r ++ (s ++ t))
    ∙ ap (λ (x : List ℕ). x ++ (q ++ (r ++ (s ++ t)))) i
    ∙ append_assoc out p (q ++ (r ++ (s ++ t)))

pub head_written : {T E : Type 0} (result : Result T E) (xs : List Variable) (first out a b c d e : List ℕ) → a ≡ out ++ opening → b ≡ a ++ text_of (declarations 0 xs)
    → c ≡ b ++ closing → d ≡ c ++ line (form_text (block (numeral 0))) → OnOk result (e ≡ d ++ text_of (all_set 0 xs first))
    → OnOk result (e ≡ out ++ text_of (head xs first))
head_written result xs first out a b c d e i j k l m =
    on_ok result (e ≡ d ++ text_of (all_set 0 xs first)) (e ≡ out ++ text_of (head xs first))
    (λ n. five_parts out a b c d e opening (text_of (declarations 0 xs)) closing (line (form_text (block (numeral 0)))) (text_of (all_set 0 xs first)) i j k l n
    ∙ ap (λ (x : List ℕ). out ++ x) (head_parts xs first))
    m

-- Declarations, from a place on.

abbrev pub declared_from : List Variable → ℕ → List ℕ
declared_from xs i = text_of (declarations i (drop i xs))

pub declared_more : (xs : List Variable) (i : ℕ) (x : Variable) → i < length xs → x ≡ get_or xs i x
    → declared_from xs i ≡ line (form_text (declaration i x)) ++ declared_from xs (i + 1)
declared_more xs i x h e = ap (λ (ys : List Variable). text_of (declarations i ys)) (one_more xs i x h e)

-- First numbers, from a place on.

abbrev pub set_from : List Variable → List ℕ → ℕ → List ℕ
set_from xs ns i = text_of (all_set i (drop i xs) (drop i ns))

pub set_more : (xs : List Variable) (ns : List ℕ) (i : ℕ) (x : Variable) → i < length xs → length ns ≡ length xs → x ≡ get_or xs i x
    → set_from xs ns i ≡ line (form_text (set_to i x (get_or ns i 0))) ++ set_from xs ns (i + 1)
set_more xs ns i x h l e =
    ap (λ (ys : List Variable). text_of (all_set i ys (drop i ns))) (one_more xs i x h e)
    ∙ ap (λ (ms : List ℕ). text_of (all_set i (x ∷ drop (i + 1) xs) ms)) (number_more ns i (omega arith))

-- Changes, from a place on.

abbrev pub changes_from : List Variable → (before after : List ℕ) → ℕ → List ℕ
changes_from xs ms ns i = text_of (changes i (drop i xs) (drop i ms) (drop i ns))

changes_at : (xs : List Variable) (ms ns : List ℕ) (i : ℕ) (x : Variable) → i < length xs → length ms ≡ length xs → length ns ≡ length xs → x ≡ get_or xs i x
    → changes_from xs ms ns i ≡ text_of (changes i (x ∷ drop (i + 1) xs) (get_or ms i 0 ∷ drop (i + 1) ms) (get_or ns i 0 ∷ drop (i + 1) ns))
changes_at xs ms ns i x h l m e =
    ap (λ (ys : List Variable). text_of (changes i ys (drop i ms) (drop i ns))) (one_more xs i x h e)
    ∙ ap (λ (ks : List ℕ). text_of (changes i (x ∷ drop (i + 1) xs) ks (drop i ns))) (number_more ms i (omega arith))
    ∙ ap (λ (ks : List ℕ). text_of (changes i (x ∷ drop (i + 1) xs) (get_or ms i 0 ∷ drop (i + 1) ms) ks)) (number_more ns i (omega arith))

pub changes_more : (xs : List Variable) (ms ns : List ℕ) (i : ℕ) (x : Variable) → i < length xs → length ms ≡ length xs → length ns ≡ length xs → x ≡ get_or xs i x
    → (get_or ms i 0 == get_or ns i 0) ≡ false → changes_from xs ms ns i ≡ line (form_text (set_to i x (get_or ns i 0))) ++ changes_from xs ms ns (i + 1)
changes_more xs ms ns i x h l m e other =
    changes_at xs ms ns i x h l m e
    ∙ ap (λ (b : Bool). text_of (if b then changes (i + 1) (drop (i + 1) xs) (drop (i + 1) ms) (drop (i + 1) ns) else set_to i x
    (get_or ns i 0) ∷ changes (i + 1) (drop (i + 1) xs) (drop (i + 1) ms) (drop (i + 1) ns)))
    other

pub no_change : (xs : List Variable) (ms ns : List ℕ) (i : ℕ) → i < length xs → length ms ≡ length xs → length ns ≡ length xs
    → (get_or ms i 0 == get_or ns i 0) ≡ true → changes_from xs ms ns i ≡ changes_from xs ms ns (i + 1)
no_change xs ms ns i h l m same =
    let there = at_place xs i h in
    changes_at xs ms ns i there.0 h l m there.1
    ∙ ap (λ (b : Bool). text_of (if b then changes (i + 1) (drop (i + 1) xs) (drop (i + 1) ms) (drop (i + 1) ns) else set_to i there.0
    (get_or ns i 0) ∷ changes (i + 1) (drop (i + 1) xs) (drop (i + 1) ms) (drop (i + 1) ns)))
    same
  where
    at_place : (ys : List Variable) (k : ℕ) → k < length ys → (y : Variable) × (y ≡ get_or ys k y)
    at_place [] k q = absurd (omega arith)
    at_place (y ∷ ys) zero q = (y, refl)
    at_place (y ∷ ys) (suc k) q = at_place ys k (omega arith)
