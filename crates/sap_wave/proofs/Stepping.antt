-- What is read of a line, by its form.
use Rattle.sap_lemmas.proofs.Common.{◌≡◌, ℕ, ◌+◌, ◌<◌, ◌≤◌, List, true, false, Result, Ok, Err, length, refl, sym, ap, ◌∙◌, arith, subst, inl, inr, ◌==◌, digits_value, bytes_eq, cases_Bool, cases_eq, nat_tests, true_is_not_false, test_of_equal, bytes_eq_same, equal_of_bytes_eq}
use Rattle.sap_wave.specs.declared.fault.WaveCode.{WaveCode}
use Rattle.sap_wave.specs.declared.fault.WaveCode.TheVariants.{Y1, Y2, Y3, Y4, Y5}
use Rattle.sap_wave.specs.declared.state.State.{State as Held}
use Rattle.sap_wave.specs.declared.state.Stop.{Stop}
use Rattle.sap_wave.specs.declared.state.Stop.TheVariants.{Code, Memory}
use Rattle.sap_wave.specs.declared.variable.Variable.{Variable}
use Rattle.sap_wave.specs.Prelude.{number, identifier, number_spelled, ended, Form, timescale, scope, upscope, end_definitions, variable, block, change, form_text, is_formed, IsLine, OpenBlock, State, before_timescale, before_scope, declaring, before_end, before_blocks, in_block, is_for, is_full, width_at, IsKnown, Takes, after, IsIdle, IsLeast, IsWrong, Misdeclared, Misplaced, unknown, not_later, other_width, Stands, no_form, FormRead, LineRead, Reaches}
use Rattle.sap_wave.proofs.DigitsLemmas.{number_back}
use Rattle.sap_wave.proofs.Each.{least_stands, one_least}

-- a line that is all of its form
pub taken : (s : State) (f : Form) (text : List ℕ) → is_formed f ≡ true → Takes s f → text ≡ form_text f → Reaches s (ended text) (after s f)
taken s f text formed t e = record { form = f; is_line = record { ended = refl; text = sym e; formed = formed }; takes = t; reached = refl }

-- no form of the line is for its position
pub refused : (s : State) (text : List ℕ) → ((f : Form) → IsLine (ended text) f → is_for s f ≡ false) → IsLeast (Stands s (ended text)) Y1
refused s text none = record { stands = no_form refl none; least = λ d k. one_least d }

pub not_timescale : (text : List ℕ) → (text ≡ form_text timescale → ⊥) → (f : Form) → IsLine (ended text) f → is_for before_timescale f ≡ false
not_timescale text against timescale h = absurd (against (sym h.text))
not_timescale text against _ h = refl

pub not_scope : (text : List ℕ) → (text ≡ form_text scope → ⊥) → (f : Form) → IsLine (ended text) f → is_for before_scope f ≡ false
not_scope text against scope h = absurd (against (sym h.text))
not_scope text against _ h = refl

pub not_end : (xs : List Variable) (text : List ℕ) → (text ≡ form_text end_definitions → ⊥) → (f : Form) → IsLine (ended text) f → is_for (before_end xs) f ≡ false
not_end xs text against end_definitions h = absurd (against (sym h.text))
not_end xs text against _ h = refl

pub not_declaring : (xs : List Variable) (text : List ℕ) → (text ≡ form_text upscope → ⊥) → ((w i n : List ℕ) → IsLine (ended text) (variable w i n) → ⊥)
    → (f : Form) → IsLine (ended text) f → is_for (declaring xs) f ≡ false
not_declaring xs text against none upscope h = absurd (against (sym h.text))
not_declaring xs text against none (variable w i n) h = absurd (none w i n h)
not_declaring xs text against none _ h = refl

pub not_first_block : (xs : List Variable) (text : List ℕ) → ((n : List ℕ) → IsLine (ended text) (block n) → ⊥) → (f : Form) → IsLine (ended text) f
    → is_for (before_blocks xs) f ≡ false
not_first_block xs text none (block n) h = absurd (none n h)
not_first_block xs text none _ h = refl

pub not_in_block : (xs : List Variable) (o : OpenBlock) (text : List ℕ) → ((n : List ℕ) → IsLine (ended text) (block n) → ⊥)
    → ((d i : List ℕ) → IsLine (ended text) (change d i) → ⊥) → (f : Form) → IsLine (ended text) f → is_for (in_block xs o) f ≡ false
not_in_block xs o text none against (block n) h = absurd (none n h)
not_in_block xs o text none against (change d i) h = absurd (against d i h)
not_in_block xs o text none against _ h = refl

-- what is read by its form is read of the line
pub form_read : (s : State) (f : Form) (text : List ℕ) (r : Result Held Stop) → IsLine (ended text) f → is_for s f ≡ true → FormRead s f r → LineRead s text r
form_read s f text (Ok t) l p h = (record { form = f; is_line = l; takes = h.0; reached = h.1 }, h.2)
form_read s f text (Err (Code c)) l p h = least_stands s (ended text) f l p c h
form_read s f text (Err Memory) l p h = tt

-- Declarations.

pub misdeclared : (xs : List Variable) (w i n : List ℕ) → Misdeclared xs w i n → IsLeast (IsWrong (declaring xs) (variable w i n)) Y2
misdeclared xs w i n m = record { stands = m; least = above } where
  above : (c : WaveCode) → IsWrong (declaring xs) (variable w i n) c → 2 ≤ number c
  above Y2 h = omega arith
  above _ h = absurd h

-- whether two identifiers are the same
pub same_identifiers : (id : List ℕ) (k n : ℕ) → id ≡ identifier k → (k == n) ≡ bytes_eq id (identifier n)
same_identifiers id k n e =
    elim (cases_eq k n) [
      | inl same ↦
          let t : (k == n) ≡ true = test_of_equal k n same in
          let u : bytes_eq id (identifier n) ≡ true = subst (λ (z : List ℕ). bytes_eq z (identifier n) ≡ true) (sym (e ∙ ap identifier same)) (bytes_eq_same (identifier n)) in
          t ∙ sym u
      | inr other ↦
          let f : (k == n) ≡ false = grind (arith, nat_tests) in
          let g : bytes_eq id (identifier n) ≡ false =
          elim (cases_Bool (bytes_eq id (identifier n))) [
            | inl t ↦ absurd (other (sym (number_back k) ∙ ap number_spelled (sym e ∙ equal_of_bytes_eq id (identifier n) t) ∙ number_back n))
            | inr h ↦ h
          ] in
          f ∙ sym g
    ]

pub not_identified : (id : List ℕ) (n : ℕ) → ((k : ℕ) → k < n + 1 → id ≡ identifier k → ⊥) → false ≡ bytes_eq id (identifier n)
not_identified id n none =
    elim (cases_Bool (bytes_eq id (identifier n))) [
      | inl t ↦ absurd (none n (omega arith) (equal_of_bytes_eq id (identifier n) t))
      | inr f ↦ sym f
    ]

pub differ : (a b : List ℕ) → bytes_eq a b ≡ false → a ≡ b → ⊥
differ a b f e = true_is_not_false (sym (bytes_eq_same b) ∙ ap (λ (z : List ℕ). bytes_eq z b) (sym e) ∙ f)

-- Blocks.

pub other_first : (xs : List Variable) (n : List ℕ) → (digits_value 10 n ≡ 0 → ⊥) → IsLeast (IsWrong (before_blocks xs) (block n)) Y4
other_first xs n against = record { stands = against; least = above } where
  above : (c : WaveCode) → IsWrong (before_blocks xs) (block n) c → 4 ≤ number c
  above Y4 h = omega arith
  above _ h = absurd h

pub other_next : (xs : List Variable) (o : OpenBlock) (n : List ℕ) → (digits_value 10 n ≡ length o.before + 1 → ⊥) → IsLeast (IsWrong (in_block xs o) (block n)) Y4
other_next xs o n against = record { stands = against; least = above } where
  above : (c : WaveCode) → IsWrong (in_block xs o) (block n) c → 4 ≤ number c
  above Y4 h = omega arith
  above Y5 h = omega arith
  above _ h = absurd h

pub not_full : (xs : List Variable) (o : OpenBlock) (n : List ℕ) → digits_value 10 n ≡ length o.before + 1 → is_full o.now ≡ false → IsLeast (IsWrong (in_block xs o) (block n)) Y5
not_full xs o n e lacks = record { stands = lacks; least = above } where
  above : (c : WaveCode) → IsWrong (in_block xs o) (block n) c → 5 ≤ number c
  above Y4 h = absurd (h e)
  above Y5 h = omega arith
  above _ h = absurd h

-- Changes.

pub misplaced : (xs : List Variable) (o : OpenBlock) (d i : List ℕ) → Misplaced xs o d i → IsLeast (IsWrong (in_block xs o) (change d i)) Y3
misplaced xs o d i m = record { stands = m; least = above } where
  above : (c : WaveCode) → IsWrong (in_block xs o) (change d i) c → 3 ≤ number c
  above Y3 h = omega arith
  above Y5 h = omega arith
  above _ h = absurd h

pub unidentified : (xs : List Variable) (id : List ℕ) → ((k : ℕ) → k < length xs → id ≡ identifier k → ⊥) → IsKnown xs id → ⊥
unidentified xs id none known = none (number_spelled id) known.within known.spells

pub is_known : (xs : List Variable) (id : List ℕ) (k : ℕ) → k < length xs → id ≡ identifier k → IsKnown xs id
is_known xs id k l e =
    let n : number_spelled id ≡ k = ap number_spelled e ∙ number_back k in
    record { within = subst (λ (z : ℕ). z < length xs) (sym n) l; spells = e ∙ ap identifier (sym n) }

pub number_is : (id : List ℕ) (k : ℕ) → id ≡ identifier k → number_spelled id ≡ k
number_is id k e = ap number_spelled e ∙ number_back k

pub idle : (xs : List Variable) (o : OpenBlock) (d i : List ℕ) → IsIdle xs o d i → (Misplaced xs o d i → ⊥) → IsLeast (IsWrong (in_block xs o) (change d i)) Y5
idle xs o d i h placed = record { stands = h; least = above } where
  above : (c : WaveCode) → IsWrong (in_block xs o) (change d i) c → 5 ≤ number c
  above Y3 m = absurd (placed m)
  above Y5 m = omega arith
  above _ m = absurd m

pub well_placed : (xs : List Variable) (o : OpenBlock) (d i : List ℕ) (k : ℕ) → i ≡ identifier k → k < length xs → o.next ≤ k → length d ≡ width_at xs k
    → Misplaced xs o d i → ⊥
well_placed xs o d i k e l n w (unknown against) = against (is_known xs i k l e)
well_placed xs o d i k e l n w (not_later known less) = let s = number_is i k e in omega (arith, n, less, s)
well_placed xs o d i k e l n w (other_width known other) = other (w ∙ ap (width_at xs) (sym (number_is i k e)))
