-- A text in assembly that is taken stands for sixteen words, of twelve bits each.
use Rattle.sap_lemmas.proofs.Common.{◌≡◌, ℕ, zero, suc, ◌+◌, ◌*◌, ◌<◌, ◌≤◌, Bool, true, false, not, cond, Result, Ok, Err, List, [], ◌∷◌, length, refl, ap, subst, arith, nat_le, nat_lt, nat_tests, All, bytes_eq, codes, digits_value}
use Rattle.std.specs.List.{before_first, after_first}
use Rattle.std.proofs.lemmas.List.Elements.{All-cons, All-head, All-nil, All-tail}
use Rattle.sap_text.specs.Lines.{Line, lines_of}
use Rattle.sap_machine.specs.declared.fault.AsmCode.{AsmCode}
use Rattle.sap_machine.specs.declared.fault.AsmCode.TheVariants.{B1, B2, B3, B4}
use Rattle.sap_machine.specs.Assembly.{Assembled, all_filled, and_word, assembled, filled, is_number, is_space, numbered, refused, with_number, with_value, with_word, word_of, words_of}
use Rattle.sap_machine.specs.Text.{in_file}
use Rattle.sap_cpu.specs.Streams.{AreWords}

-- ---- the word of a line

abbrev IsSmall : Result ℕ AsmCode → Type 0
IsSmall (Ok x) = x < 4096
IsSmall (Err code) = Unit {0}

chosen : (b : Bool) (r s : Result ℕ AsmCode) → IsSmall r → IsSmall s → IsSmall (cond b r s)
chosen true r s one other = one
chosen false r s one other = other

value_small : (operation largest value : ℕ) → operation < 15 → largest < 256 → IsSmall (with_value operation largest value)
value_small operation largest value few small = by (nat_le value largest) refl
  where
    by : (b : Bool) → nat_le value largest ≡ b → IsSmall (cond b (Ok (256 * operation + value)) (Err B2))
    by true within = let e : value ≤ largest = grind (arith, nat_tests) in omega arith
    by false past = tt

numbered_small : (operation largest : ℕ) (text : List ℕ) → operation < 15 → largest < 256 → IsSmall (numbered operation largest text)
numbered_small operation largest text few small =
    chosen (is_number text) (with_value operation largest (digits_value 10 text)) (Err B1) (value_small operation largest (digits_value 10 text) few small) tt

number_small : (name text : List ℕ) → IsSmall (with_number name text)
number_small name text =
    chosen (bytes_eq name (codes "ldi")) (numbered 1 255 text) _ (numbered_small 1 255 text (omega arith) (omega arith))
    (chosen (bytes_eq name (codes "ld")) (numbered 2 15 text) _ (numbered_small 2 15 text (omega arith) (omega arith))
    (chosen (bytes_eq name (codes "st")) (numbered 3 15 text) _ (numbered_small 3 15 text (omega arith) (omega arith))
    (chosen (bytes_eq name (codes "add")) (numbered 4 15 text) _ (numbered_small 4 15 text (omega arith) (omega arith))
    (chosen (bytes_eq name (codes "sub")) (numbered 5 15 text) _ (numbered_small 5 15 text (omega arith) (omega arith))
    (chosen (bytes_eq name (codes "jmp")) (numbered 6 15 text) _ (numbered_small 6 15 text (omega arith) (omega arith))
    (chosen (bytes_eq name (codes "jz")) (numbered 7 15 text) (Err B1) (numbered_small 7 15 text (omega arith) (omega arith)) tt))))))

word_small : (text : List ℕ) → IsSmall (word_of text)
word_small text =
    chosen (bytes_eq text (codes "nop")) (Ok 0) _ (omega arith)
    (chosen (bytes_eq text (codes "halt")) (Ok (256 * 8)) _ (omega arith) (number_small (before_first is_space text) (after_first is_space text)))

-- ---- the words of a text

abbrev AreSmall : Assembled → Type 0
AreSmall (Ok words) = All (λ x. x < 4096) words
AreSmall (Err fault) = Unit {0}

with_small : (x : ℕ) (later : Assembled) → x < 4096 → AreSmall later → AreSmall (and_word x later)
with_small x (Ok words) small rest = All-cons (λ x. x < 4096) x words small rest
with_small x (Err fault) small rest = tt

line_small : (r : Result ℕ AsmCode) (n : ℕ) (later : Assembled) → IsSmall r → AreSmall later → AreSmall (with_word r n later)
line_small (Ok x) n later small rest = with_small x later small rest
line_small (Err code) n later small rest = tt

either : (b : Bool) (r s : Assembled) → AreSmall r → AreSmall s → AreSmall (cond b r s)
either true r s one other = one
either false r s one other = other

words_small : (n : ℕ) (ls : List Line) → AreSmall (words_of n ls)
words_small n [] = All-nil (λ x. x < 4096)
words_small n (l ∷ ls) =
    either (nat_lt 16 n) (refused B3 n) _ tt
    (either (not l.ended) (refused B4 n) _ tt (line_small (word_of l.text) n (words_of (n + 1) ls) (word_small l.text) (words_small (n + 1) ls)))

filled_long : (count : ℕ) (words : List ℕ) → length (filled count words) ≡ count
filled_long zero words = refl
filled_long (suc k) [] = ap suc (filled_long k [])
filled_long (suc k) (x ∷ words) = ap suc (filled_long k words)

filled_small : (count : ℕ) (words : List ℕ) → All (λ x. x < 4096) words → All (λ x. x < 4096) (filled count words)
filled_small zero words small = All-nil (λ x. x < 4096)
filled_small (suc k) [] small = All-cons (λ x. x < 4096) 0 (filled k []) (omega arith) (filled_small k [] small)
filled_small (suc k) (x ∷ words) small =
    All-cons (λ x. x < 4096) x (filled k words) (All-head (λ x. x < 4096) x words small) (filled_small k words (All-tail (λ x. x < 4096) x words small))

pub assembled_words : (text words : List ℕ) → assembled text ≡ Ok words → AreWords words
unfolding assembled
assembled_words text words is = by (words_of 1 (lines_of text)) (words_small 1 (lines_of text)) is
  where
    by : (r : Assembled) → AreSmall r → all_filled r ≡ Ok words → AreWords words
    by (Ok found) small e =
        let same : filled 16 found ≡ words = cc in
        subst AreWords same (record { sixteen = filled_long 16 found; twelve_bits = filled_small 16 found small })
    by (Err fault) small e = absurd (cc)

-- ---- two texts

abbrev of_words : (gives : (a b : List ℕ) → List ℕ) → (r s : Assembled) → Result (List ℕ) (List ℕ)
of_words gives r s = in_file 1 r (λ a. in_file 2 s (λ b. Ok (gives a b)))

pub both_words : (gives : (a b : List ℕ) → List ℕ) (r s : Assembled) (text : List ℕ) → of_words gives r s ≡ Ok text
    → (a : List ℕ) × (b : List ℕ) × (r ≡ Ok a) × (s ≡ Ok b) × (gives a b ≡ text)
both_words gives (Ok a) (Ok b) text is = let same : gives a b ≡ text = cc in (a, b, refl, refl, same)
both_words gives (Ok a) (Err f) text is = absurd (cc)
both_words gives (Err f) s text is = absurd (cc)
