-- A text has at most one reading, at most one first fault, and not both.
use Rattle.std.proofs.Common.{◌≡◌, ℕ, ◌+◌, ◌≤◌, length, List, [], ◌∷◌, Bool, true, false, refl, sym, ◌∙◌, arith, inl, inr, subst}
use Rattle.sap_wave.specs.declared.fault.WaveCode.{WaveCode}
use Rattle.sap_wave.specs.declared.fault.WaveCode.TheVariants.{Y1, Y2, Y3, Y4, Y5}
use Rattle.sap_wave.specs.Prelude.{number, Form, timescale, scope, upscope, end_definitions, variable, block, change, IsLine, OpenBlock, State, before_timescale, before_scope, declaring, before_end, before_blocks, in_block, is_for, Takes, after, Reads, Ends, width_at, number_spelled, IsKnown, IsVariable, ReadsSo, Misdeclared, other_id, no_width, no_name, again, Misplaced, unknown, not_later, other_width, IsWrong, Stands, no_form, wrong, StandsAtEnd, IsLeast, StopsFrom, IsFault, Wave, OneWaveOrFault}
use Rattle.sap_text.specs.Lines.{Line, lines_of}
use Rattle.sap_wave.specs.declared.variable.Variable.{Variable}
use Rattle.sap_wave.proofs.Forms.{one_form}
use Rattle.sap_wave.proofs.Telling.{reading_so}

pub takes_is_for : (s : State) (f : Form) → Takes s f → is_for s f ≡ true
takes_is_for before_timescale timescale h = refl
takes_is_for before_scope scope h = refl
takes_is_for (declaring xs) (variable width id name) h = refl
takes_is_for (declaring xs) upscope h = refl
takes_is_for (before_end xs) end_definitions h = refl
takes_is_for (before_blocks xs) (block n) h = refl
takes_is_for (in_block xs o) (block n) h = refl
takes_is_for (in_block xs o) (change digits id) h = refl
takes_is_for _ _ h = absurd h

pub true_false : (b : Bool) → b ≡ true → b ≡ false → ⊥
true_false b h k = cc

declared_well : (xs : List Variable) (w i n : List ℕ) → IsVariable xs w i n → Misdeclared xs w i n → ⊥
declared_well xs w i n h (other_id e) = e h.numbered
declared_well xs w i n h (no_width e) = e h.sized
declared_well xs w i n h (no_name e) = true_false _ h.named e
declared_well xs w i n h (again e) = true_false _ e h.new

pub record Placed (xs : List Variable) (o : OpenBlock) (digits id : List ℕ) : Type 0 where
  pub known : IsKnown xs id
  pub later : o.next ≤ number_spelled id
  pub sized : length digits ≡ width_at xs (number_spelled id)

pub not_misplaced : (xs : List Variable) (o : OpenBlock) (d i : List ℕ) → Placed xs o d i → Misplaced xs o d i → ⊥
not_misplaced xs o d i h (unknown e) = e h.known
not_misplaced xs o d i h (not_later k l) = let g = h.later in omega (arith, g, l)
not_misplaced xs o d i h (other_width k e) = e h.sized

takes_not_wrong : (s : State) (f : Form) (c : WaveCode) → Takes s f → IsWrong s f c → ⊥
takes_not_wrong (declaring xs) (variable width id name) Y2 h bad = declared_well xs width id name h bad
takes_not_wrong (before_blocks xs) (block n) Y4 h bad = bad h
takes_not_wrong (in_block xs o) (block n) Y4 h bad = bad h.in_turn
takes_not_wrong (in_block xs o) (block n) Y5 h bad = true_false _ h.full bad
takes_not_wrong (in_block xs o) (change digits id) Y3 h bad = not_misplaced xs o digits id (record { known = h.known; later = h.later; sized = h.sized }) bad
takes_not_wrong (in_block xs o) (change digits id) Y5 h bad = h.changes bad.later_block bad.same
takes_not_wrong _ _ _ h bad = absurd bad

-- nothing stands at a line that can come next
pub taken_well : (s : State) (l : Line) (g : Form) (c : WaveCode) → IsLine l g → Takes s g → Stands s l c → ⊥
taken_well s l g c h t (no_form e none) = true_false _ (takes_is_for s g t) (none g h)
taken_well s l g c h t (wrong f k bad) = takes_not_wrong s g c t (subst (λ (z : Form). IsWrong s z c) (one_form k h) bad)

ended_well : (s : State) (w : Wave) (c : WaveCode) → Ends s w → StandsAtEnd s c → ⊥
ended_well (in_block xs o) w Y5 h bad = true_false _ h.0 bad
ended_well (in_block xs o) w _ h bad = absurd bad
ended_well _ w _ h bad = absurd h

reads_once : (s t u : State) (ls : List Line) → Reads s ls t → Reads s ls u → t ≡ u
reads_once s t u [] a b = sym a ∙ b
reads_once s t u (l ∷ ls) a b =
    reads_once (after s a.0) t u ls a.3 (subst (λ (z : Form). Reads (after s z) ls u) (one_form b.1 a.1) b.3)

ends_once : (s : State) (v w : Wave) → Ends s v → Ends s w → v ≡ w
ends_once (in_block xs o) v w a b = a.1 ∙ sym b.1
ends_once _ v w a b = absurd a

one_so : (bytes : List ℕ) (v w : Wave) → ReadsSo bytes v → ReadsSo bytes w → v ≡ w
one_so bytes v w a b =
    ends_once a.last v w a.ends (subst (λ (z : State). Ends z w) (sym (reads_once before_timescale a.last b.last (lines_of bytes) a.lines b.lines)) b.ends)

same_code : (c d : WaveCode) → number c ≡ number d → c ≡ d
same_code Y1 Y1 e = refl
same_code Y2 Y2 e = refl
same_code Y3 Y3 e = refl
same_code Y4 Y4 e = refl
same_code Y5 Y5 e = refl
same_code _ _ e = absurd (omega arith)

least_once : (P : WaveCode → Type 0) (c d : WaveCode) → IsLeast P c → IsLeast P d → c ≡ d
least_once P c d a b =
    let p = a.least d b.stands in
    let q = b.least c a.stands in
    same_code c d (omega (arith, p, q))

pub record SameStop (i j : ℕ) (c d : WaveCode) : Type 0 where
  pub line : i ≡ j
  pub code : c ≡ d

stops_once : (n : ℕ) (s : State) (ls : List Line) (i j : ℕ) (c d : WaveCode) → StopsFrom n s ls i c → StopsFrom n s ls j d → SameStop i j c d
stops_once n s [] i j c d a b = record { line = a.0 ∙ sym b.0; code = least_once (StandsAtEnd s) c d a.1 b.1 }
stops_once n s (l ∷ ls) i j c d (inl a) (inl b) = record { line = a.0 ∙ sym b.0; code = least_once (Stands s l) c d a.1 b.1 }
stops_once n s (l ∷ ls) i j c d (inl a) (inr b) = absurd (taken_well s l b.0 c b.1 b.2 a.1.stands)
stops_once n s (l ∷ ls) i j c d (inr a) (inl b) = absurd (taken_well s l a.0 d a.1 a.2 b.1.stands)
stops_once n s (l ∷ ls) i j c d (inr a) (inr b) =
    stops_once (n + 1) (after s a.0) ls i j c d a.3 (subst (λ (z : Form). StopsFrom (n + 1) (after s z) ls j d) (one_form b.1 a.1) b.3)

one_fault : (bytes : List ℕ) (i j : ℕ) (c d : WaveCode) → IsFault bytes i c → IsFault bytes j d → (i ≡ j) × (c ≡ d)
one_fault bytes i j c d a b = let r = stops_once 1 before_timescale (lines_of bytes) i j c d a.stops b.stops in (r.line, r.code)

reads_or_stops : (n : ℕ) (s t : State) (ls : List Line) (w : Wave) (i : ℕ) (c : WaveCode) → Reads s ls t → Ends t w → StopsFrom n s ls i c → ⊥
reads_or_stops n s t [] w i c a e b = ended_well s w c (subst (λ (z : State). Ends z w) (sym a) e) b.1.stands
reads_or_stops n s t (l ∷ ls) w i c a e (inl b) = taken_well s l a.0 c a.1 a.2 b.1.stands
reads_or_stops n s t (l ∷ ls) w i c a e (inr b) =
    reads_or_stops (n + 1) (after s a.0) t ls w i c a.3 e (subst (λ (z : Form). StopsFrom (n + 1) (after s z) ls i c) (one_form b.1 a.1) b.3)

so_or_stops : (bytes : List ℕ) (w : Wave) (i : ℕ) (c : WaveCode) → ReadsSo bytes w → IsFault bytes i c → ⊥
so_or_stops bytes w i c a b = reads_or_stops 1 before_timescale a.last (lines_of bytes) w i c a.lines a.ends b.stops

pub one_wave_or_fault : OneWaveOrFault
one_wave_or_fault =
    record {
      one_wave = λ bytes v w a b. one_so bytes v w (reading_so bytes v a) (reading_so bytes w b);
      one_fault = one_fault;
      not_both = λ bytes w i c a b. so_or_stops bytes w i c (reading_so bytes w a) b;
    }
