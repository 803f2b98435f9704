-- Each text has a reading or a first fault.
use Rattle.sap_lemmas.proofs.Common.{◌≡◌, ℕ, zero, suc, ◌+◌, ◌<◌, ◌≤◌, List, [], ◌∷◌, ◌++◌, Bool, true, false, nat_eq, Option, Some, None, drop, length, get_or, refl, sym, ap, ◌∙◌, arith, subst, inl, inr, cond, ◌⊎◌, ◌≢◌, ◌==◌, codes, list_all, byte, bytes_eq, digits_value, and_parts, cases_Bool, cases_eq, cases_lt, nat_tests, equal_of_bytes_eq, bytes_eq_same, some_same}
use Rattle.std.specs.List.{slice_split}
use Rattle.std.proofs.lemmas.List.Splits.{slice_split_at, slice_split_none}
use Rattle.sap_maps.specs.Ranges.{IsWidth}
use Rattle.sap_net.specs.Names.{is_name, is_among}
use Rattle.sap_wave.specs.declared.fault.WaveCode.{WaveCode}
use Rattle.sap_wave.specs.declared.fault.WaveCode.TheVariants.{Y1, Y2, Y3, Y4, Y5}
use Rattle.sap_wave.specs.Prelude.{number, are_digits, identifier, number_spelled, bits_number, Form, timescale, scope, upscope, end_definitions, variable, block, change, form_text, is_id, is_formed, IsLine, OpenBlock, State, before_timescale, before_scope, declaring, before_end, before_blocks, in_block, is_for, is_first, is_full, blocks_of, width_at, number_now, IsVariable, IsKnown, IsChange, IsNextBlock, Takes, after, Reads, Ends, Misdeclared, other_id, no_width, no_name, again, Misplaced, unknown, not_later, other_width, IsIdle, IsWrong, Stands, no_form, wrong, StandsAtEnd, IsLeast, StopsFrom, IsFault, Wave, names_of, IsReading, EachWaveOrFault}
use Rattle.sap_text.specs.Lines.{Line, lines_of}
use Rattle.sap_wave.specs.declared.variable.Variable.{Variable}
use Rattle.sap_wave.proofs.Forms.{mark_of, one_form, is_no_space, are_digits_no_space, variable_formed, change_formed}
use Rattle.sap_wave.proofs.Once.{Placed, not_misplaced, true_false}
use Rattle.sap_wave.proofs.Telling.{so_is_reading}

-- Which form a line has.

abbrev is_space : ℕ → Bool
is_space b = b == byte " "

abbrev variable_in : List (List ℕ) → Form
variable_in (w ∷ (i ∷ (n ∷ rest))) = variable w i n
variable_in _ = timescale

abbrev change_in : List (List ℕ) → Form
change_in (d ∷ (i ∷ rest)) = change d i
change_in _ = timescale

-- what the line is, if it is of a form
abbrev likely : (mark : ℕ) → List ℕ → Form
likely mark text =
    cond (nat_eq mark 116) timescale
    (cond (nat_eq mark 115) scope
    (cond (nat_eq mark 117) upscope
    (cond (nat_eq mark 101) end_definitions
    (cond (nat_eq mark 118) (variable_in (slice_split is_space (drop 9 text)))
    (cond (nat_eq mark 35) (block (drop 1 text)) (change_in (slice_split is_space (drop 1 text))))))))

not_spaces : (zs : List ℕ) → list_all is_no_space zs ≡ true → (k d : ℕ) → k < length zs → is_space (get_or zs k d) ≡ false
not_spaces [] h k d l = absurd (omega arith)
not_spaces (z ∷ zs) h zero d l = let q = (and_parts (is_no_space z) (list_all is_no_space zs) h).0 in grind (arith, nat_tests)
not_spaces (z ∷ zs) h (suc k) d l = not_spaces zs (and_parts (is_no_space z) (list_all is_no_space zs) h).1 k d (omega arith)

split_piece : (xs ys : List ℕ) → list_all is_no_space xs ≡ true → slice_split is_space (xs ++ (32 ∷ ys)) ≡ xs ∷ slice_split is_space ys
split_piece xs ys h = slice_split_at is_space xs 32 ys (not_spaces xs h) refl

split_whole : (xs : List ℕ) → list_all is_no_space xs ≡ true → slice_split is_space xs ≡ xs ∷ []
split_whole xs h = slice_split_none is_space xs (not_spaces xs h)

variable_pieces : (w i n : List ℕ) → is_formed (variable w i n) ≡ true → variable_in (slice_split is_space (w ++ (32 ∷ (i ++ (32 ∷ (n ++ codes " $end")))))) ≡ variable w i n
variable_pieces w i n h =
    let p = variable_formed w i n h in
    ap variable_in (split_piece w (i ++ (32 ∷ (n ++ codes " $end"))) p.0)
    ∙ ap (λ z. variable_in (w ∷ z)) (split_piece i (n ++ codes " $end") p.1)
    ∙ ap (λ z. variable_in (w ∷ (i ∷ z))) (split_piece n (codes "$end") p.2)

change_pieces : (d i : List ℕ) → is_formed (change d i) ≡ true → change_in (slice_split is_space (d ++ (32 ∷ i))) ≡ change d i
change_pieces d i h =
    let p = change_formed d i h in
    let q = (and_parts (are_digits 48 2 d) (is_id i) h).1 in
    ap change_in (split_piece d i p) ∙ ap (λ z. change_in (d ∷ z)) (split_whole i (are_digits_no_space 33 94 i (omega arith) q))

likely_is : (f : Form) → is_formed f ≡ true → likely (mark_of (form_text f)) (form_text f) ≡ f
likely_is timescale h = refl
likely_is (variable w i n) h = variable_pieces w i n h
likely_is (change d i) h = change_pieces d i h
likely_is _ h = refl

abbrev form_of : Line → Form
form_of l = likely (mark_of l.text) l.text

form_of_is : (l : Line) (f : Form) → IsLine l f → form_of l ≡ f
form_of_is l f h = ap (λ z. likely (mark_of z) z) (sym h.text) ∙ likely_is f h.formed

pub line_form : (l : Line) → ((f : Form) × IsLine l f) ⊎ ((f : Form) → IsLine l f → ⊥)
line_form l = by (cases_Bool l.ended) (cases_Bool (bytes_eq (form_text (form_of l)) l.text)) (cases_Bool (is_formed (form_of l))) where
  own : (f : Form) → IsLine l f → IsLine l (form_of l)
  own f h = subst (λ (z : Form). IsLine l z) (sym (form_of_is l f h)) h

  by : (l.ended ≡ true) ⊎ (l.ended ≡ false) → (bytes_eq (form_text (form_of l)) l.text ≡ true) ⊎ (bytes_eq (form_text (form_of l)) l.text ≡ false)
      → (is_formed (form_of l) ≡ true) ⊎ (is_formed (form_of l) ≡ false) → ((f : Form) × IsLine l f) ⊎ ((f : Form) → IsLine l f → ⊥)
  by (inl a) (inl b) (inl c) = inl (form_of l, record { ended = a; text = equal_of_bytes_eq (form_text (form_of l)) l.text b; formed = c })
  by (inr a) b c = inr (λ f h. true_false l.ended h.ended a)
  by (inl a) (inr b) c = inr (λ f h. true_false _ (subst (λ (z : List ℕ). bytes_eq (form_text (form_of l)) z ≡ true) (own f h).text (bytes_eq_same (form_text (form_of l)))) b)
  by (inl a) (inl b) (inr c) = inr (λ f h. true_false _ (own f h).formed c)

-- What is wrong with a line of a form that has this position.

same_bytes : (a b : List ℕ) → (a ≡ b) ⊎ (a ≢ b)
same_bytes a b =
    elim (cases_Bool (bytes_eq a b)) [
      | inl t ↦ inl (equal_of_bytes_eq a b t)
      | inr e ↦ inr (λ q. true_false _ (subst (λ (z : List ℕ). bytes_eq a z ≡ true) q (bytes_eq_same a)) e)
    ]

a_width : (w : ℕ) → IsWidth w ⊎ (IsWidth w → ⊥)
a_width w =
    elim (cases_lt w 1) [
      | inl l ↦ inr (λ h. let k = h.0 in omega (arith, l, k))
      | inr l ↦ elim (cases_lt 64 w) [ inl m ↦ inr (λ h. let k = h.1 in omega (arith, m, k)) | inr m ↦ inl (l, m) ]
    ]

declared_or_not : (xs : List Variable) (w i n : List ℕ) → IsVariable xs w i n ⊎ Misdeclared xs w i n
declared_or_not xs w i n = by (same_bytes i (identifier (length xs))) (a_width (digits_value 10 w)) (cases_Bool (is_name n)) (cases_Bool (is_among n (names_of xs))) where
  by : (i ≡ identifier (length xs)) ⊎ (i ≢ identifier (length xs)) → IsWidth (digits_value 10 w) ⊎ (IsWidth (digits_value 10 w) → ⊥)
      → (is_name n ≡ true) ⊎ (is_name n ≡ false) → (is_among n (names_of xs) ≡ true) ⊎ (is_among n (names_of xs) ≡ false) → IsVariable xs w i n ⊎ Misdeclared xs w i n
  by (inr a) b c d = inr (other_id a)
  by (inl a) (inr b) c d = inr (no_width b)
  by (inl a) (inl b) (inr c) d = inr (no_name c)
  by (inl a) (inl b) (inl c) (inl d) = inr (again d)
  by (inl a) (inl b) (inl c) (inr d) = inl (record { numbered = a; sized = b; named = c; new = d })

known_or_not : (xs : List Variable) (id : List ℕ) → IsKnown xs id ⊎ (IsKnown xs id → ⊥)
known_or_not xs id = by (cases_lt (number_spelled id) (length xs)) (same_bytes id (identifier (number_spelled id))) where
  by : (number_spelled id < length xs) ⊎ (length xs ≤ number_spelled id) → (id ≡ identifier (number_spelled id)) ⊎ (id ≢ identifier (number_spelled id))
      → IsKnown xs id ⊎ (IsKnown xs id → ⊥)
  by (inr l) b = inr (λ h. let k = h.within in omega (arith, k, l))
  by (inl l) (inr b) = inr (λ h. b h.spells)
  by (inl l) (inl b) = inl (record { within = l; spells = b })

some_or_not : (o : Option ℕ) (m : ℕ) → (o ≡ Some m) ⊎ (o ≢ Some m)
some_or_not None m = inr (λ e. cc)
some_or_not (Some k) m =
    elim (cases_eq k m) [ inl e ↦ inl (ap Some e) | inr d ↦ inr (λ e. d (some_same k m e)) ]

placed_or_not : (xs : List Variable) (o : OpenBlock) (d i : List ℕ) → Placed xs o d i ⊎ Misplaced xs o d i
placed_or_not xs o d i = by (known_or_not xs i) (cases_lt (number_spelled i) o.next) (cases_eq (length d) (width_at xs (number_spelled i))) where
  by : IsKnown xs i ⊎ (IsKnown xs i → ⊥) → (number_spelled i < o.next) ⊎ (o.next ≤ number_spelled i)
      → (length d ≡ width_at xs (number_spelled i)) ⊎ (length d ≡ width_at xs (number_spelled i) → ⊥) → Placed xs o d i ⊎ Misplaced xs o d i
  by (inr a) b c = inr (unknown a)
  by (inl a) (inl b) c = inr (not_later a b)
  by (inl a) (inr b) (inr c) = inr (other_width a c)
  by (inl a) (inr b) (inl c) = inl (record { known = a; later = b; sized = c })

changed_or_idle : (xs : List Variable) (o : OpenBlock) (d i : List ℕ) → Placed xs o d i → IsChange xs o d i ⊎ IsIdle xs o d i
changed_or_idle xs o d i h = by (cases_Bool (is_first o)) (some_or_not (number_now o i) (bits_number d)) where
  by : (is_first o ≡ true) ⊎ (is_first o ≡ false) → (number_now o i ≡ Some (bits_number d)) ⊎ (number_now o i ≢ Some (bits_number d)) → IsChange xs o d i ⊎ IsIdle xs o d i
  by (inl a) b = inl (record { known = h.known; later = h.later; sized = h.sized; changes = λ e. absurd (true_false _ a e) })
  by (inr a) (inr b) = inl (record { known = h.known; later = h.later; sized = h.sized; changes = λ e. b })
  by (inr a) (inl b) = inr (record { later_block = a; known = h.known; same = b })

abbrev Faulty : (WaveCode → Type 0) → Type 0
Faulty Stand = (c : WaveCode) × IsLeast Stand c

change_or_wrong : (xs : List Variable) (o : OpenBlock) (d i : List ℕ) → IsChange xs o d i ⊎ Faulty (IsWrong (in_block xs o) (change d i))
change_or_wrong xs o d i = by (placed_or_not xs o d i) where
  above_three : (c : WaveCode) → IsWrong (in_block xs o) (change d i) c → 3 ≤ number c
  above_three Y3 h = omega arith
  above_three Y5 h = omega arith
  above_three _ h = absurd h

  above_five : Placed xs o d i → (c : WaveCode) → IsWrong (in_block xs o) (change d i) c → 5 ≤ number c
  above_five p Y3 h = absurd (not_misplaced xs o d i p h)
  above_five p Y5 h = omega arith
  above_five p _ h = absurd h

  idle : Placed xs o d i → IsChange xs o d i ⊎ IsIdle xs o d i → IsChange xs o d i ⊎ Faulty (IsWrong (in_block xs o) (change d i))
  idle p (inl h) = inl h
  idle p (inr h) = inr (Y5, record { stands = h; least = above_five p })

  by : Placed xs o d i ⊎ Misplaced xs o d i → IsChange xs o d i ⊎ Faulty (IsWrong (in_block xs o) (change d i))
  by (inr m) = inr (Y3, record { stands = m; least = above_three })
  by (inl p) = idle p (changed_or_idle xs o d i p)

block_or_wrong : (xs : List Variable) (o : OpenBlock) (n : List ℕ) → IsNextBlock o n ⊎ Faulty (IsWrong (in_block xs o) (block n))
block_or_wrong xs o n = by (cases_eq (digits_value 10 n) (length o.before + 1)) (cases_Bool (is_full o.now)) where
  above_four : (c : WaveCode) → IsWrong (in_block xs o) (block n) c → 4 ≤ number c
  above_four Y4 h = omega arith
  above_four Y5 h = omega arith
  above_four _ h = absurd h

  above_five : digits_value 10 n ≡ length o.before + 1 → (c : WaveCode) → IsWrong (in_block xs o) (block n) c → 5 ≤ number c
  above_five e Y4 h = absurd (h e)
  above_five e Y5 h = omega arith
  above_five e _ h = absurd h

  by : (digits_value 10 n ≡ length o.before + 1) ⊎ (digits_value 10 n ≡ length o.before + 1 → ⊥) → (is_full o.now ≡ true) ⊎ (is_full o.now ≡ false)
      → IsNextBlock o n ⊎ Faulty (IsWrong (in_block xs o) (block n))
  by (inr a) b = inr (Y4, record { stands = a; least = above_four })
  by (inl a) (inr b) = inr (Y5, record { stands = b; least = above_five a })
  by (inl a) (inl b) = inl (record { full = b; in_turn = a })

first_or_wrong : (xs : List Variable) (n : List ℕ) → (digits_value 10 n ≡ 0) ⊎ Faulty (IsWrong (before_blocks xs) (block n))
first_or_wrong xs n = by (cases_eq (digits_value 10 n) 0) where
  above_four : (c : WaveCode) → IsWrong (before_blocks xs) (block n) c → 4 ≤ number c
  above_four Y4 h = omega arith
  above_four _ h = absurd h

  by : (digits_value 10 n ≡ 0) ⊎ (digits_value 10 n ≡ 0 → ⊥) → (digits_value 10 n ≡ 0) ⊎ Faulty (IsWrong (before_blocks xs) (block n))
  by (inl a) = inl a
  by (inr a) = inr (Y4, record { stands = a; least = above_four })

variable_or_wrong : (xs : List Variable) (w i n : List ℕ) → IsVariable xs w i n ⊎ Faulty (IsWrong (declaring xs) (variable w i n))
variable_or_wrong xs w i n = by (declared_or_not xs w i n) where
  above_two : (c : WaveCode) → IsWrong (declaring xs) (variable w i n) c → 2 ≤ number c
  above_two Y2 h = omega arith
  above_two _ h = absurd h

  by : IsVariable xs w i n ⊎ Misdeclared xs w i n → IsVariable xs w i n ⊎ Faulty (IsWrong (declaring xs) (variable w i n))
  by (inl a) = inl a
  by (inr a) = inr (Y2, record { stands = a; least = above_two })

taken_or_wrong : (s : State) (f : Form) → is_for s f ≡ true → Takes s f ⊎ Faulty (IsWrong s f)
taken_or_wrong before_timescale timescale h = inl tt
taken_or_wrong before_scope scope h = inl tt
taken_or_wrong (declaring xs) (variable w i n) h = variable_or_wrong xs w i n
taken_or_wrong (declaring xs) upscope h = inl tt
taken_or_wrong (before_end xs) end_definitions h = inl tt
taken_or_wrong (before_blocks xs) (block n) h = first_or_wrong xs n
taken_or_wrong (in_block xs o) (block n) h = block_or_wrong xs o n
taken_or_wrong (in_block xs o) (change d i) h = change_or_wrong xs o d i
taken_or_wrong _ _ h = absurd (cc)

pub one_least : (c : WaveCode) → 1 ≤ number c
one_least Y1 = omega arith
one_least _ = omega arith

pub least_stands : (s : State) (l : Line) (f : Form) → IsLine l f → is_for s f ≡ true → (c : WaveCode) → IsLeast (IsWrong s f) c → IsLeast (Stands s l) c
least_stands s l f h p c w = record { stands = wrong f h w.stands; least = below } where
  below : (d : WaveCode) → Stands s l d → number c ≤ number d
  below d (no_form e none) = absurd (true_false _ p (none f h))
  below d (wrong g k bad) = w.least d (subst (λ (z : Form). IsWrong s z d) (one_form k h) bad)

line_or_fault : (s : State) (l : Line) → ((f : Form) × IsLine l f × Takes s f) ⊎ Faulty (Stands s l)
line_or_fault s l = by (line_form l) where
  first_code : ((f : Form) → IsLine l f → is_for s f ≡ false) → Faulty (Stands s l)
  first_code none = (Y1, record { stands = no_form refl none; least = λ d k. one_least d })

  taken : (f : Form) → IsLine l f → is_for s f ≡ true → Takes s f ⊎ Faulty (IsWrong s f) → ((f : Form) × IsLine l f × Takes s f) ⊎ Faulty (Stands s l)
  taken f h p (inl t) = inl (f, h, t)
  taken f h p (inr w) = inr (w.0, least_stands s l f h p w.0 w.1)

  placed : (f : Form) → IsLine l f → (is_for s f ≡ true) ⊎ (is_for s f ≡ false) → ((f : Form) × IsLine l f × Takes s f) ⊎ Faulty (Stands s l)
  placed f h (inl p) = taken f h p (taken_or_wrong s f p)
  placed f h (inr e) = inr (first_code (λ g k. subst (λ (z : Form). is_for s z ≡ false) (one_form h k) e))

  by : ((f : Form) × IsLine l f) ⊎ ((f : Form) → IsLine l f → ⊥) → ((f : Form) × IsLine l f × Takes s f) ⊎ Faulty (Stands s l)
  by (inl x) = placed x.0 x.1 (cases_Bool (is_for s x.0))
  by (inr none) = inr (first_code (λ g k. absurd (none g k)))

block_ends : (xs : List Variable) (o : OpenBlock) → (is_full o.now ≡ true) ⊎ (is_full o.now ≡ false) → ((w : Wave) × Ends (in_block xs o) w) ⊎ Faulty (StandsAtEnd (in_block xs o))
block_ends xs o (inl t) = inl (record { variables = xs; blocks = blocks_of o }, (t, refl))
block_ends xs o (inr e) = inr (Y5, record { stands = e; least = least }) where
  least : (d : WaveCode) → StandsAtEnd (in_block xs o) d → 5 ≤ number d
  least Y5 h = omega arith
  least _ h = absurd h

end_or_fault : (s : State) → ((w : Wave) × Ends s w) ⊎ Faulty (StandsAtEnd s)
end_or_fault (in_block xs o) = block_ends xs o (cases_Bool (is_full o.now))
end_or_fault _ = inr (Y1, record { stands = tt; least = λ d h. one_least d })

record ReadTo (s : State) (ls : List Line) : Type 0 where
  last : State
  wave : Wave
  reads : Reads s ls last
  ends : Ends last wave

record StopsAt (n : ℕ) (s : State) (ls : List Line) : Type 0 where
  line : ℕ
  code : WaveCode
  stops : StopsFrom n s ls line code

reads_or_stops : (n : ℕ) (s : State) (ls : List Line) → ReadTo s ls ⊎ StopsAt n s ls
reads_or_stops n s [] = by (end_or_fault s) where
  by : ((w : Wave) × Ends s w) ⊎ Faulty (StandsAtEnd s) → ReadTo s [] ⊎ StopsAt n s []
  by (inl x) = inl (record { last = s; wave = x.0; reads = refl; ends = x.1 })
  by (inr x) = inr (record { line = n; code = x.0; stops = (refl, x.1) })
reads_or_stops n s (l ∷ ls) = by (line_or_fault s l) (λ f. reads_or_stops (n + 1) (after s f) ls) where
  onward : (f : Form) → IsLine l f → Takes s f → ReadTo (after s f) ls ⊎ StopsAt (n + 1) (after s f) ls → ReadTo s (l ∷ ls) ⊎ StopsAt n s (l ∷ ls)
  onward f h t (inl r) = inl (record { last = r.last; wave = r.wave; reads = (f, h, t, r.reads); ends = r.ends })
  onward f h t (inr r) = inr (record { line = r.line; code = r.code; stops = inr (f, h, t, r.stops) })

  by : ((f : Form) × IsLine l f × Takes s f) ⊎ Faulty (Stands s l) → ((f : Form) → ReadTo (after s f) ls ⊎ StopsAt (n + 1) (after s f) ls)
      → ReadTo s (l ∷ ls) ⊎ StopsAt n s (l ∷ ls)
  by (inl x) more = onward x.0 x.1 x.2 (more x.0)
  by (inr x) more = inr (record { line = n; code = x.0; stops = inl (refl, x.1) })

pub each_wave_or_fault : EachWaveOrFault
each_wave_or_fault bytes = by (reads_or_stops 1 before_timescale (lines_of bytes)) where
  by : ReadTo before_timescale (lines_of bytes) ⊎ StopsAt 1 before_timescale (lines_of bytes) → ((w : Wave) × IsReading bytes w) ⊎ ((i : ℕ) × (c : WaveCode) × IsFault bytes i c)
  by (inl r) = inl (r.wave, so_is_reading bytes r.wave (record { last = r.last; lines = r.reads; ends = r.ends }))
  by (inr r) = inr (r.line, r.code, record { stops = r.stops })
