-- What stands first in small texts.
use Rattle.sap_lemmas.proofs.Common.{◌≡◌, ℕ, ◌+◌, ◌<◌, ◌≤◌, List, [], ◌∷◌, true, get_or, refl, ap, arith, inl, inr, codes, digits_value, true_is_not_false}
use Rattle.sap_maps.specs.Ranges.{IsWidth}
use Rattle.sap_net.specs.Names.{is_name}
use Rattle.sap_wave.specs.declared.fault.WaveCode.{WaveCode}
use Rattle.sap_wave.specs.declared.fault.WaveCode.TheVariants.{Y1, Y2, Y3, Y5}
use Rattle.sap_wave.specs.declared.variable.Variable.{Variable}
use Rattle.sap_wave.specs.Prelude.{identifier, bits_number, number_spelled, Form, timescale, scope, upscope, end_definitions, variable, block, change, is_formed, OpenBlock, State, before_timescale, before_scope, declaring, before_end, before_blocks, in_block, changed, first_block, next_block, is_for, IsVariable, IsKnown, IsChange, IsNextBlock, Takes, after, other_id, unknown, IsIdle, IsLeast, IsWrong, StopsFrom, Nothing, NotEnded, NoBlock, OtherIdentifier, UnknownVariable, SameNumber, NoNumber}
use Rattle.sap_text.specs.Lines.{Line, lines_of}
use Rattle.sap_wave.proofs.Each.{least_stands, one_least}
use Rattle.sap_wave.proofs.Lined.{ended_line}
use Rattle.sap_wave.proofs.Reached.{lacks}
use Rattle.sap_wave.proofs.ReadUpTo.{begins, not_ended, stops_at_end}
use Rattle.sap_wave.proofs.Stepping.{idle, misdeclared, misplaced, well_placed}

pub nothing : Nothing
nothing = stops_at_end [] [] 1 before_timescale 1 Y1 (begins []) refl refl (record { stands = tt; least = λ d h. one_least d })

pub not_ended_line : NotEnded
not_ended_line = not_ended (codes "$timescale 1ns $end") (codes "$timescale 1ns $end") 1 before_timescale (begins (codes "$timescale 1ns $end")) (omega arith) refl

step : (n : ℕ) (s : State) (f : Form) (rest : List Line) (line : ℕ) (code : WaveCode) → is_formed f ≡ true → Takes s f → StopsFrom (n + 1) (after s f) rest line code
    → StopsFrom n s (ended_line f ∷ rest) line code
step n s f rest line code formed t more = inr (f, record { ended = refl; text = refl; formed = formed }, t, more)

stop : (n : ℕ) (s : State) (f : Form) (rest : List Line) (code : WaveCode) → is_formed f ≡ true → is_for s f ≡ true → IsLeast (IsWrong s f) code
    → StopsFrom n s (ended_line f ∷ rest) n code
stop n s f rest code formed p w = inl (refl, least_stands s (ended_line f) f (record { ended = refl; text = refl; formed = formed }) p code w)

abbrev one : Variable
one = record { name = codes "v"; width = digits_value 10 (codes "1") }

abbrev declared : Form
declared = variable (codes "1") (codes "!") (codes "v")

is_variable : IsVariable [] (codes "1") (codes "!") (codes "v")
unfolding identifier is_name
is_variable =
    let width : IsWidth 1 = (omega arith, omega arith) in
    record { numbered = refl; sized = width; named = refl; new = refl }

abbrev from_fifth : List Line → List Line
from_fifth rest = ended_line end_definitions ∷ rest

abbrev from_fourth : List Line → List Line
from_fourth rest = ended_line upscope ∷ from_fifth rest

abbrev from_third : List Line → List Line
from_third rest = ended_line declared ∷ from_fourth rest

abbrev from_second : List Line → List Line
from_second rest = ended_line scope ∷ from_third rest

abbrev with_head : List Line → List Line
with_head rest = ended_line timescale ∷ from_second rest

head_read : (rest : List Line) (line : ℕ) (code : WaveCode) → StopsFrom 6 (before_blocks (one ∷ [])) rest line code → StopsFrom 1 before_timescale (with_head rest) line code
head_read rest line code more =
    step 1 before_timescale timescale (from_second rest) line code refl tt
    (step 2 before_scope scope (from_third rest) line code refl tt
    (step 3 (declaring []) declared (from_fourth rest) line code refl is_variable
    (step 4 (declaring (one ∷ [])) upscope (from_fifth rest) line code refl tt (step 5 (before_end (one ∷ [])) end_definitions rest line code refl tt more))))

pub no_block : NoBlock
unfolding lines_of
no_block =
    record {
      stops =
          head_read [] 6 Y1 (refl, record { stands = tt; least = λ d h. one_least d });
    }

abbrev other : Form
other = variable (codes "1") (codes "\"") (codes "v")

not_first : codes "\"" ≡ identifier 0 → ⊥
unfolding identifier
not_first e = let d : 34 ≡ 33 = ap (λ (z : List ℕ). get_or z 0 0) e in omega (arith, d)

pub other_identifier : OtherIdentifier
unfolding lines_of
other_identifier =
    record {
      stops =
          step 1 before_timescale timescale (ended_line scope ∷ (ended_line other ∷ [])) 3 Y2 refl tt
          (step 2 before_scope scope (ended_line other ∷ []) 3 Y2 refl tt
          (stop 3 (declaring []) other [] Y2 refl refl (misdeclared [] (codes "1") (codes "\"") (codes "v") (other_id not_first))));
    }

abbrev block_0 : OpenBlock
block_0 = first_block (one ∷ [])

abbrev unknown_change : List Line
unknown_change = ended_line (change (codes "0") (codes "\"")) ∷ []

not_known : IsKnown (one ∷ []) (codes "\"") → ⊥
unfolding number_spelled
not_known k = let w : 1 < 1 = k.within in omega (arith, w)

pub unknown_variable : UnknownVariable
unfolding lines_of
unknown_variable =
    record {
      stops =
          head_read (ended_line (block (codes "0")) ∷ unknown_change) 7 Y3
          (step 6 (before_blocks (one ∷ [])) (block (codes "0")) unknown_change 7 Y3 refl refl
          (stop 7 (in_block (one ∷ []) block_0) (change (codes "0") (codes "\"")) [] Y3 refl refl
          (misplaced (one ∷ []) block_0 (codes "0") (codes "\"") (unknown not_known))));
    }

pub no_number : NoNumber
unfolding lines_of
no_number =
    record {
      stops =
          head_read (ended_line (block (codes "0")) ∷ []) 7 Y5 (step 6 (before_blocks (one ∷ [])) (block (codes "0")) [] 7 Y5 refl refl (refl, lacks (one ∷ []) block_0 refl));
    }

abbrev from_ninth : List Line
from_ninth = ended_line (change (codes "0") (codes "!")) ∷ []

abbrev from_eighth : List Line
from_eighth = ended_line (block (codes "1")) ∷ from_ninth

abbrev from_seventh : List Line
from_seventh = ended_line (change (codes "0") (codes "!")) ∷ from_eighth

known : IsKnown (one ∷ []) (codes "!")
unfolding identifier number_spelled
known = let w : 0 < 1 = omega arith in record { within = w; spells = refl }

abbrev set_0 : OpenBlock
set_0 = changed block_0 (codes "0") (codes "!")

first_change : IsChange (one ∷ []) block_0 (codes "0") (codes "!")
unfolding number_spelled
first_change =
    let later : 0 ≤ 0 = omega arith in
    record { known = known; later = later; sized = refl; changes = λ e. absurd (true_is_not_false e) }

abbrev block_1 : OpenBlock
block_1 = next_block set_0

next : IsNextBlock set_0 (codes "1")
unfolding number_spelled bits_number
next = record { full = refl; in_turn = refl }

is_idle : IsIdle (one ∷ []) block_1 (codes "0") (codes "!")
unfolding number_spelled bits_number
is_idle = record { later_block = refl; known = known; same = refl }

is_placed : codes "!" ≡ identifier 0
unfolding identifier
is_placed = refl

pub same_number : SameNumber
unfolding lines_of
same_number =
    record {
      stops =
          head_read (ended_line (block (codes "0")) ∷ from_seventh) 9 Y5
          (step 6 (before_blocks (one ∷ [])) (block (codes "0")) from_seventh 9 Y5 refl refl
          (step 7 (in_block (one ∷ []) block_0) (change (codes "0") (codes "!")) from_eighth 9 Y5 refl first_change
          (step 8 (in_block (one ∷ []) set_0) (block (codes "1")) from_ninth 9 Y5 refl next
          (stop 9 (in_block (one ∷ []) block_1) (change (codes "0") (codes "!")) [] Y5 refl refl
          (idle (one ∷ []) block_1 (codes "0") (codes "!") is_idle
          (well_placed (one ∷ []) block_1 (codes "0") (codes "!") 0 is_placed (omega arith) (omega arith) refl))))));
    }
