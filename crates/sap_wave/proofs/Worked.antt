-- The worked dump: its reading, and the fault of one with another number.
use Rattle.sap_lemmas.proofs.Common.{◌≡◌, ℕ, ◌+◌, ◌≤◌, List, [], ◌∷◌, ◌++◌, true, false, Some, length, map, refl, sym, arith, subst, inl, inr, codes}
use Rattle.sap_net.specs.Names.{is_name}
use Rattle.sap_wave.specs.declared.fault.WaveCode.{WaveCode}
use Rattle.sap_wave.specs.declared.fault.WaveCode.TheVariants.{Y4, Y5}
use Rattle.sap_wave.specs.Prelude.{number, identifier, bits, numeral, Form, block, change, IsLine, State, before_timescale, in_block, after, Stands, no_form, wrong, IsWrong, StopsFrom, AreVariables, NumbersFit, head, variables, first, second, text, Written, Read, OtherNumber}
use Rattle.sap_text.specs.Lines.{Line, lines_of}
use Rattle.sap_wave.proofs.Forms.{one_form}
use Rattle.sap_wave.proofs.Lined.{ended_line}
use Rattle.sap_wave.proofs.Going.{Goes}
use Rattle.sap_wave.proofs.Changing.{open_at}
use Rattle.sap_wave.proofs.Dumping.{head_goes}

are_variables : AreVariables variables
unfolding is_name
are_variables =
    record {
      named = (refl, (refl, (refl, (refl, tt))));
      sized = ((omega arith, omega arith), ((omega arith, omega arith), ((omega arith, omega arith), ((omega arith, omega arith), tt))));
      distinct = (refl, (refl, (refl, (refl, tt))));
    }

first_fit : NumbersFit variables first
first_fit = (omega arith, (omega arith, (omega arith, (omega arith, tt))))

second_fit : NumbersFit variables second
second_fit = (omega arith, (omega arith, (omega arith, (omega arith, tt))))

pub written : Written
unfolding numeral identifier bits
written = refl

pub read : Read
read = record { fits = record { variables = are_variables; begun = omega arith; numbers = (first_fit, (second_fit, tt)) }; is_dump = sym written }

goes_stops : (n : ℕ) (s t : State) (fs : List Form) (rest : List Line) (line : ℕ) (code : WaveCode) → Goes s fs t → StopsFrom (n + length fs) t rest line code
    → StopsFrom n s (map ended_line fs ++ rest) line code
goes_stops n s t [] rest line code g h =
    let e : n + 0 ≡ n = omega arith in
    subst (λ (z : State). StopsFrom n z rest line code) (sym g) (subst (λ (z : ℕ). StopsFrom z t rest line code) e h)
goes_stops n s t (f ∷ fs) rest line code g h =
    let is : IsLine (ended_line f) f = record { ended = refl; text = refl; formed = g.0.formed } in
    let e : n + length (f ∷ fs) ≡ (n + 1) + length fs = omega arith in
    inr (f, is, g.1, goes_stops (n + 1) (after s f) t fs rest line code g.2 (subst (λ (z : ℕ). StopsFrom z t rest line code) e h))

abbrev other_block : Form
other_block = block (codes "2")

is_other : IsLine (ended_line other_block) other_block
is_other = record { ended = refl; text = refl; formed = refl }

other_stands : (next : ℕ) → Stands (in_block variables (open_at [] (map Some first) next)) (ended_line other_block) Y4
other_stands next = wrong other_block is_other (λ e. absurd (omega (arith, e)))

none_lower : (next : ℕ) (c : WaveCode) → Stands (in_block variables (open_at [] (map Some first) next)) (ended_line other_block) c → 4 ≤ number c
none_lower next c (no_form e none) = let no : true ≡ false = none other_block is_other in absurd (cc)
none_lower next c (wrong f k bad) = by_code c (subst (λ (z : Form). IsWrong (in_block variables (open_at [] (map Some first) next)) z c) (one_form k is_other) bad) where
  by_code : (d : WaveCode) → IsWrong (in_block variables (open_at [] (map Some first) next)) other_block d → 4 ≤ number d
  by_code Y4 h = omega arith
  by_code Y5 h = omega arith
  by_code _ h = absurd h

abbrev other_rest : List Line
other_rest = ended_line other_block ∷ (ended_line (change (codes "00000010") (codes "!")) ∷ (ended_line (change (codes "00000001") (codes "#")) ∷ []))

other_lines : lines_of (text (codes "#2")) ≡ map ended_line (head variables first) ++ other_rest
unfolding lines_of numeral identifier bits
other_lines = refl

pub other_number : OtherNumber
other_number =
    let h = head_goes variables first are_variables first_fit in
    record {
      stops =
          subst (λ (ls : List Line). StopsFrom 1 before_timescale ls 14 Y4) (sym other_lines)
          (goes_stops 1 before_timescale (in_block variables (open_at [] (map Some first) h.next)) (head variables first) other_rest 14 Y4 h.goes
          (inl (refl, record { stands = other_stands h.next; least = none_lower h.next })));
    }
