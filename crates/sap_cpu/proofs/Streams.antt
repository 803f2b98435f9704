-- The stimulus of two programs is read as a stream that brings their words.
use Rattle.sap_lemmas.proofs.Common.{◌≡◌, ℕ, zero, suc, ◌+◌, ◌*◌, ◌<◌, ◌≤◌, Bool, true, false, Some, Ok, List, [], ◌∷◌, ◌++◌, length, get_or, refl, sym, ap, subst, ◌∙◌, arith, replicate, nat_lt, nat_tests, All, decimal, codes, append_assoc, append-nil, length-append, length-replicate, get_or_past}
use Rattle.std.specs.Prelude.{◌&&◌, if◌then◌else◌}
use Rattle.std.proofs.lemmas.List.Elements.{All-head, All-tail}
use Rattle.sap_text.specs.Lines.{split_at}
use Rattle.sap_text.specs.Places.{line}
use Rattle.sap_lattice.specs.Diamond.{diamond}
use Rattle.sap_lattice.specs.Levels.{level_named}
use Rattle.sap_meaning.specs.Cycle.{Tagged, given}
use Rattle.sap_meaning.specs.State.{InputsFit, StreamFits}
use Rattle.sap_stream.specs.Spans.{IsCount}
use Rattle.sap_stim.specs.Line.{line_of, tagged_of}
use Rattle.sap_machine.specs.declared.user.User.{User}
use Rattle.sap_machine.specs.declared.user.User.TheVariants.{A, B}
use Rattle.sap_machine.specs.Examples.{given_words}
use Rattle.sap_machine.specs.Laws.{word}
use Rattle.sap_machine.specs.Machine as the
use Rattle.sap_machine.specs.Text.{stimulus_text, word_line, word_lines}
use Rattle.sap_machine.proofs.Literal.{machine_world}
use Rattle.sap_machine.proofs.Resolved.{machine_is}
use Rattle.sap_cpu.specs.Streams.{AsmBringsPrograms, IsReadAs, StimulusBringsPrograms}
use Rattle.sap_cpu.proofs.Reading.{avoids, avoids_both, counted_line, decimal_avoids, decimal_short, field_read, Gives, line_more, none_given, plain_line, split_behind, split_whole, two}
use Rattle.sap_cpu.proofs.Programs.{assembled_words, both_words}

-- a number at a level, and the inputs of a cycle that brings a word of each user
abbrev at : (level number : ℕ) → Tagged
at t n = record { number = n; level = t }

abbrev pair : (x y : ℕ) → List Tagged
pair x y = at 1 x ∷ at 2 y ∷ []

abbrev idle : List Tagged
idle = at 0 0 ∷ at 0 0 ∷ []

-- ---- a line of words

abbrev IsWord : ℕ → Type 0
IsWord x = x < 4096

level_a : level_named diamond.names (codes "a") ≡ Some 1
unfolding diamond
level_a = refl

level_b : level_named diamond.names (codes "b") ≡ Some 2
unfolding diamond
level_b = refl

abbrev word_text : (x y : ℕ) → List ℕ
word_text x y = decimal x ++ (codes "@a " ++ (decimal y ++ codes "@b"))

module _ (x y : ℕ) (small_x : IsWord x) (small_y : IsWord y) where
  wide_x : x < 65536
  wide_x = omega arith

  wide_y : y < 65536
  wide_y = omega arith

  abbrev first_field : List ℕ
  first_field = decimal x ++ codes "@a"

  abbrev second_field : List ℕ
  second_field = decimal y ++ codes "@b"

  second_free : (m : ℕ) → avoids m (decimal y) ≡ true → avoids m (codes "@b") ≡ true → avoids m second_field ≡ true
  second_free m h k = avoids_both m (decimal y) (codes "@b") h k

  no_end : avoids 10 (word_text x y) ≡ true
  no_end =
      avoids_both 10 (decimal x) (codes "@a " ++ second_field) (decimal_avoids 10 x refl wide_x)
      (avoids_both 10 (codes "@a ") second_field refl (second_free 10 (decimal_avoids 10 y refl wide_y) refl))

  word_pieces : split_at 32 (word_text x y) ≡ first_field ∷ second_field ∷ []
  word_pieces =
      ap (split_at 32) (sym (append_assoc (decimal x) (codes "@a") (32 ∷ second_field)))
      ∙ split_behind 32 first_field second_field (avoids_both 32 (decimal x) (codes "@a") (decimal_avoids 32 x refl wide_x) refl)
      ∙ ap (λ (ps : List (List ℕ)). first_field ∷ ps) (split_whole 32 second_field (second_free 32 (decimal_avoids 32 y refl wide_y) refl))

  size : length (word_text x y) ≡ length (decimal x) + (3 + (length (decimal y) + 2))
  size =
      length-append (decimal x) (codes "@a " ++ second_field)
      ∙ (let rest = length-append (decimal y) (codes "@b") in omega (arith, rest))

  word_read : Ok (record { inputs = pair x y; count = 1 }) ≡ line_of diamond (two 12) true (word_text x y)
  word_read =
      plain_line diamond 12 (word_text x y) first_field second_field (at 1 x) (at 2 y)
      (omega (arith, size, decimal_short x wide_x, decimal_short y wide_y)) (omega (arith, size))
      (field_read diamond 12 x 1 (codes "a") wide_x small_x (omega arith) level_a)
      (field_read diamond 12 y 2 (codes "b") wide_y small_y (omega arith) level_b)
      word_pieces (second_free 42 (decimal_avoids 42 y refl wide_y) refl)

line_is : (x y : ℕ) → word_line x y ≡ line (word_text x y)
line_is x y = simp append_assoc

-- a line for each pair of words
words_given : (a b rest : List ℕ) (stream : List (List Tagged)) → All IsWord a → All IsWord b → Gives diamond (two 12) rest stream
    → Gives diamond (two 12) (word_lines a b ++ rest) (given_words a b ++ stream)
words_given [] b rest stream small small_b gives = gives
words_given (x ∷ a) [] rest stream small small_b gives = gives
words_given (x ∷ a) (y ∷ b) rest stream small small_b gives =
    let more : Gives diamond (two 12) (word_lines a b ++ rest) (given_words a b ++ stream) =
    words_given a b rest stream (All-tail IsWord x a small) (All-tail IsWord y b small_b) gives in
    let here_x : IsWord x = All-head IsWord x a small in
    let here_y : IsWord y = All-head IsWord y b small_b in
    let parts : (word_line x y ++ word_lines a b) ++ rest ≡ line (word_text x y) ++ (word_lines a b ++ rest) =
    append_assoc (word_line x y) (word_lines a b) rest ∙ ap (λ (l : List ℕ). l ++ (word_lines a b ++ rest)) (line_is x y) in
    subst (λ (text : List ℕ). Gives diamond (two 12) text (pair x y ∷ (given_words a b ++ stream))) (sym parts)
    (line_more diamond (two 12) (word_text x y) (word_lines a b ++ rest) (record { inputs = pair x y; count = 1 }) (given_words a b ++ stream)
    (no_end x y here_x here_y) (word_read x y here_x here_y) more)

-- ---- the last line

idle_field : tagged_of diamond 12 (codes "0@low") ≡ Ok (at 0 0)
unfolding diamond
idle_field = refl

module _ (m : ℕ) (count : IsCount m) where
  abbrev last_text : List ℕ
  last_text = codes "0@low 0@low *" ++ decimal m

  wide : m < 65536
  wide = omega (arith, count.1)

  last_pieces : split_at 32 last_text ≡ codes "0@low" ∷ codes "0@low" ∷ (42 ∷ decimal m) ∷ []
  last_pieces =
      split_behind 32 (codes "0@low") (codes "0@low *" ++ decimal m) refl
      ∙ ap (λ (ps : List (List ℕ)). codes "0@low" ∷ ps)
      (split_behind 32 (codes "0@low") (42 ∷ decimal m) refl
      ∙ ap (λ (ps : List (List ℕ)). codes "0@low" ∷ ps) (split_whole 32 (42 ∷ decimal m) (decimal_avoids 32 m refl wide)))

  last_read : Ok (record { inputs = idle; count = m }) ≡ line_of diamond (two 12) true last_text
  last_read =
      counted_line diamond 12 last_text (codes "0@low") (codes "0@low") (at 0 0) (at 0 0) (omega (arith, decimal_short m wide)) (omega arith)
      idle_field idle_field m count.0 count.1 last_pieces

  last_given : Gives diamond (two 12) (line last_text) (replicate m idle)
  last_given =
      subst (λ (text : List ℕ). Gives diamond (two 12) text (replicate m idle)) (append-nil (line last_text))
      (subst (λ (stream : List (List Tagged)). Gives diamond (two 12) (line last_text ++ []) stream) (append-nil (replicate m idle))
      (line_more diamond (two 12) last_text [] (record { inputs = idle; count = m }) []
      (avoids_both 10 (codes "0@low 0@low *") (decimal m) refl (decimal_avoids 10 m refl wide)) last_read (none_given diamond (two 12))))

-- ---- the stream

abbrev stream_of : (a b : List ℕ) → (slices : ℕ) → List (List Tagged)
stream_of a b n = given_words a b ++ replicate (1 + 6 * n) idle

is_read : (a b : List ℕ) (n : ℕ) → All IsWord a → All IsWord b → IsCount (1 + 6 * n) → IsReadAs (stimulus_text a b n) (stream_of a b n)
unfolding stimulus_text
is_read a b n small_a small_b count =
    words_given a b (line (codes "0@low 0@low *" ++ decimal (1 + 6 * n))) (replicate (1 + 6 * n) idle) small_a small_b (last_given (1 + 6 * n) count) 1

given_long : (a b : List ℕ) → length a ≡ length b → length (given_words a b) ≡ length a
given_long [] b same = refl
given_long (x ∷ a) [] same = absurd (omega (arith, same))
given_long (x ∷ a) (y ∷ b) same = ap suc (given_long a b (omega (arith, same)))

given_fit : (a b : List ℕ) (rest : List (List Tagged)) → All IsWord a → All IsWord b → StreamFits machine_world rest → StreamFits machine_world (given_words a b ++ rest)
given_fit [] b rest small small_b fit = fit
given_fit (x ∷ a) [] rest small small_b fit = fit
given_fit (x ∷ a) (y ∷ b) rest small small_b fit = (
  (All-head IsWord x a small, omega arith, (All-head IsWord y b small_b, omega arith, tt)),
  given_fit a b rest (All-tail IsWord x a small) (All-tail IsWord y b small_b) fit,
)

idle_fits : InputsFit machine_world idle
idle_fits = (omega arith, omega arith, (omega arith, omega arith, tt))

idles_fit : (m : ℕ) → StreamFits machine_world (replicate m idle)
idles_fit zero = tt
idles_fit (suc m) = (idle_fits, idles_fit m)

here : (a b : List ℕ) (rest : List (List Tagged)) (i : ℕ) → length a ≡ length b → i < length a → get_or (given_words a b ++ rest) i [] ≡ pair (get_or a i 0) (get_or b i 0)
here [] b rest i same below = absurd (omega (arith, below))
here (x ∷ a) [] rest i same below = absurd (omega (arith, same))
here (x ∷ a) (y ∷ b) rest zero same below = refl
here (x ∷ a) (y ∷ b) rest (suc i) same below = here a b rest i (omega (arith, same)) (omega (arith, below))

module _ (a b : List ℕ) (rest : List (List Tagged)) (long : length a ≡ 16) (long_b : length b ≡ 16) (i : ℕ) where
  abbrev whole : List (List Tagged)
  whole = given_words a b ++ rest

  abbrev word_by : (early : Bool) → Tagged → (allowed : Bool) → ℕ
  word_by early t allowed = if early && allowed then t.number else 0

  of_a : word machine_world A whole i ≡ get_or a i 0
  unfolding word
  of_a = by (nat_lt i 16) refl
    where
      by : (early : Bool) → nat_lt i 16 ≡ early
          → (let t = given machine_world (get_or whole i []) 0 in word_by early t (machine_world.order.le t.level 1)) ≡ get_or a i 0
      by true e =
          let below : i < 16 = grind (arith, nat_tests) in
          ap (λ (inputs : List Tagged). let t = given machine_world inputs 0 in word_by true t (machine_world.order.le t.level 1))
          (here a b rest i (long ∙ sym long_b) (omega (arith, long, below)))
      by false e =
          let past : 16 ≤ i = grind (arith, nat_tests) in
          sym (get_or_past a i 0 (omega (arith, long, past)))

  of_b : word machine_world B whole i ≡ get_or b i 0
  unfolding word
  of_b = by (nat_lt i 16) refl
    where
      by : (early : Bool) → nat_lt i 16 ≡ early
          → (let t = given machine_world (get_or whole i []) 1 in word_by early t (machine_world.order.le t.level 2)) ≡ get_or b i 0
      by true e =
          let below : i < 16 = grind (arith, nat_tests) in
          ap (λ (inputs : List Tagged). let t = given machine_world inputs 1 in word_by true t (machine_world.order.le t.level 2))
          (here a b rest i (long ∙ sym long_b) (omega (arith, long, below)))
      by false e =
          let past : 16 ≤ i = grind (arith, nat_tests) in
          sym (get_or_past b i 0 (omega (arith, long_b, past)))

-- of either user
brings : (u : User) (words : List ℕ) (stream : List (List Tagged)) → ((i : ℕ) → word machine_world u stream i ≡ get_or words i 0)
    → (i : ℕ) → word the.machine.world u stream i ≡ get_or words i 0
brings u words stream of_words i = subst (λ p. word p.world u stream i ≡ get_or words i 0) (sym machine_is) (of_words i)

pub stimulus_brings_programs : StimulusBringsPrograms
stimulus_brings_programs a b n are_a are_b count =
    let rest : List (List Tagged) = replicate (1 + 6 * n) idle in
    let fit : StreamFits machine_world (stream_of a b n) = given_fit a b rest are_a.twelve_bits are_b.twelve_bits (idles_fit (1 + 6 * n)) in (
      stream_of a b n,
      is_read a b n are_a.twelve_bits are_b.twelve_bits count,
      record {
        cycles =
            let whole = length-append (given_words a b) rest in
            let given_part = given_long a b (are_a.sixteen ∙ sym are_b.sixteen) in
            let last_part : length rest ≡ 1 + 6 * n = length-replicate (1 + 6 * n) idle in
            omega (arith, whole, given_part, last_part, are_a.sixteen);
        fits = subst (λ p. StreamFits p.world (stream_of a b n)) (sym machine_is) fit;
        words_of_a = brings A a (stream_of a b n) (of_a a b rest are_a.sixteen are_b.sixteen);
        words_of_b = brings B b (stream_of a b n) (of_b a b rest are_a.sixteen are_b.sixteen);
      },
    )

pub asm_brings_programs : AsmBringsPrograms
asm_brings_programs first second text n gives count =
    let (a, b, one, other, same) = both_words (λ a b. stimulus_text a b n) _ _ text gives in
    let (stream, read, brought) = stimulus_brings_programs a b n (assembled_words first a one) (assembled_words second b other) count in
    (a, b, stream, one, other, subst (λ (t : List ℕ). IsReadAs t stream) same read, brought)
