-- What a stimulus gives fits.
use Rattle.sap_lemmas.proofs.Common.{◌≡◌, ℕ, zero, suc, ◌+◌, ◌<◌, ◌^◌, Bool, true, false, not, Option, Some, None, Result, Ok, Err, IfOk, eqb, ltb, List, [], ◌∷◌, ◌++◌, length, drop, replicate, refl, sym, ap, subst, ◌∙◌, ◌≤◌, OnOk, if◌then◌else◌, arith, IfSome, nat_lt, position_or_len, before_first, after_first, bytes_eq, digits_value, nat_tests, le-ltb}
use borrow.Author.Tests.{eq-eqb, ltb-true}
use Rattle.sap_lattice.specs.Levels.{Levels, level_named, order_of, order_by}
use Rattle.sap_meaning.specs.Cycle.{Tagged as Given}
use Rattle.sap_stream.specs.Spans.{Span, IsCount}
use Rattle.sap_stim.specs.declared.fault.StimCode.{StimCode}
use Rattle.sap_stim.specs.declared.fault.StimCode.TheVariants.{S1, S2, S4, S5, S6}
use Rattle.sap_stim.specs.declared.field.Field.{Field}
use Rattle.sap_stim.specs.declared.field.Field.TheVariants.{Tagged, Plain}
use Rattle.sap_stim.specs.declared.stimulus.Parsed.{Parsed}
use Rattle.sap_text.specs.Lines.{split_at}
use Rattle.sap_stim.specs.Line.{pieces_of, fields_of, count_in, and_then, is_value, value_of, with_level, tagged_of, plain_of, field_of, inputs_of, is_count, count_of, line_of}
use Rattle.sap_stim.specs.Stimulus.{is_empty, finished, going_on, read_pieces}
use Rattle.sap_stim.specs.Fits.{InputFits, LineFits, StreamFits, StimulusFits}

-- what each part gives has a property
then_ok : {A B : Type 0} (P : A → Type 0) (Q : B → Type 0) (r : Result A StimCode) (f : A → Result B StimCode) → IfOk r P → ((x : A) → P x → IfOk (f x) Q) → IfOk (and_then r f) Q
then_ok P Q (Ok x) f h next = next x h
then_ok P Q (Err code) f h next = tt

-- what stands behind tests that refuse
unless : {A : Type 0} (P : A → Type 0) (b : Bool) (code : StimCode) (r : Result A StimCode) → IfOk r P → IfOk (if b then Err code else r) P
unless P true code r h = tt
unless P false code r h = h

within : (n k : ℕ) (b : Bool) → ltb n k ≡ b → IfOk {E = StimCode} (if b then Ok n else Err S2) (λ v. v < k)
within n k true e = ltb-true n k e
within n k false e = tt

value_within : (width : ℕ) (text : List ℕ) → IfOk (value_of width text) (λ v. v < 2 ^ width)
value_within width text =
    let n : ℕ = digits_value 10 text in
    unless (λ (v : ℕ). v < 2 ^ width) (not (is_value text)) S1 (if nat_lt n (2 ^ width) then Ok n else Err S2) (within n (2 ^ width) (ltb n (2 ^ width)) refl)

some_within : (n k : ℕ) (b : Bool) → ltb n k ≡ b → IfSome (if b then Some n else None) (λ i. i < k)
some_within n k true e = ltb-true n k e
some_within n k false e = tt

named_within : (names : List (List ℕ)) (name : List ℕ) → IfSome (level_named names name) (λ i. i < length names)
named_within names name = some_within (position_or_len (λ level. bytes_eq level name) names) (length names) _ refl

-- as many levels as names
named_count : (ls : Levels) → length ls.names ≡ (order_of ls).count
unfolding order_of order_by
named_count ls = refl

-- what a line gives has a property, where its inputs and its count have properties
line_has : (ls : Levels) (fs : List Field) (ended : Bool) (text : List ℕ) (P : List Given → Type 0) (Q : ℕ → Type 0) (R : Span → Type 0)
    → IfOk (inputs_of ls fs (fields_of text)) P → IfOk (count_of (count_in (pieces_of text))) Q
    → ((inputs : List Given) (count : ℕ) → P inputs → Q count → R (record { inputs = inputs; count = count })) → IfOk (line_of ls fs ended text) R
line_has ls fs ended text P Q R in_inputs in_count both =
    let counted : List Given → Result Span StimCode =
    λ inputs. and_then (count_of (count_in (pieces_of text))) (λ count. let span : Span = record { inputs = inputs; count = count } in Ok span) in
    let read : Result Span StimCode = and_then (inputs_of ls fs (fields_of text)) counted in
    let whole : Result Span StimCode = if not (eqb (length (fields_of text)) (length fs)) then Err S4 else read in
    unless R (nat_lt 65536 (length text)) S1 (if not ended then Err S5 else whole)
    (unless R (not ended) S5 whole
    (unless R (not (eqb (length (fields_of text)) (length fs))) S4 read
    (then_ok P R (inputs_of ls fs (fields_of text)) counted in_inputs
    (λ inputs p. then_ok Q R (count_of (count_in (pieces_of text))) (λ count. let span : Span = record { inputs = inputs; count = count } in
    Ok span) in_count (λ count q. both inputs count p q)))))

abbrev IsAny : {A : Type 0} → A → Type 0
IsAny x = Unit {0}

any : {A : Type 0} (r : Result A StimCode) → IfOk r IsAny
any (Ok x) = tt
any (Err code) = tt

count_within : (digits : List ℕ) (b : Bool) → is_count digits ≡ b → IfOk {E = StimCode} (if b then Ok (digits_value 10 digits) else Err S6) IsCount
count_within digits true e = grind (arith, nat_tests)
count_within digits false e = tt

count_fits : (piece : Option (List ℕ)) → IfOk (count_of piece) IsCount
count_fits None = (omega arith, omega arith)
count_fits (Some piece) = count_within (drop 1 piece) (is_count (drop 1 piece)) refl

-- for how many cycles a line stands
pub line_counts : (ls : Levels) (fs : List Field) (ended : Bool) (text : List ℕ) → IfOk (line_of ls fs ended text) (λ span. IsCount span.count)
line_counts ls fs ended text = line_has ls fs ended text IsAny IsCount (λ span. IsCount span.count) (any (inputs_of ls fs (fields_of text)))
    (count_fits (count_in (pieces_of text))) (λ inputs count p q. q)

module _ (ls : Levels) (bottom : (order_of ls).bottom < (order_of ls).count) where
  level_fits : (width value : ℕ) (level : Option ℕ) → value < 2 ^ width → IfSome level (λ i. i < length ls.names) → IfOk (with_level value level) (InputFits ls (Tagged width))
  level_fits width value None v l = tt
  level_fits width value (Some level) v l = record { value = v; level = subst (λ (n : ℕ). level < n) (named_count ls) l; bottom = λ e. absurd (differ e) } where
    differ : false ≡ true → ⊥
    differ e = cc

  tagged_fits : (width : ℕ) (text : List ℕ) → IfOk (tagged_of ls width text) (InputFits ls (Tagged width))
  tagged_fits width text =
      let name : List ℕ = after_first (λ b. eqb b 64) text in
      let digits : List ℕ = before_first (λ b. eqb b 64) text in
      unless (InputFits ls (Tagged width)) (eqb (length name) 0) S1 (and_then (value_of width digits) (λ value. with_level value (level_named ls.names name)))
      (then_ok (λ (v : ℕ). v < 2 ^ width) (InputFits ls (Tagged width)) (value_of width digits) (λ value. with_level value (level_named ls.names name)) (value_within width digits)
      (λ v h. level_fits width v (level_named ls.names name) h (named_within ls.names name)))

  plain_fits : (width : ℕ) (text : List ℕ) → IfOk (plain_of ls width text) (InputFits ls (Plain width))
  plain_fits width text =
      then_ok (λ (v : ℕ). v < 2 ^ width) (InputFits ls (Plain width)) (value_of width text)
      (λ value. Ok (record { number = value; level = (order_of ls).bottom })) (value_within width text)
      (λ v h. record { value = h; level = bottom; bottom = λ e. refl })

  field_fits : (f : Field) (text : List ℕ) → IfOk (field_of ls f text) (InputFits ls f)
  field_fits (Tagged width) text = tagged_fits width text
  field_fits (Plain width) text = plain_fits width text

  inputs_fit : (fs : List Field) (texts : List (List ℕ)) → IfOk (inputs_of ls fs texts) (LineFits ls fs)
  inputs_fit [] [] = tt
  inputs_fit [] (text ∷ texts) = tt
  inputs_fit (f ∷ fs) [] = tt
  inputs_fit (f ∷ fs) (text ∷ texts) =
      then_ok (InputFits ls f) (LineFits ls (f ∷ fs)) (field_of ls f text) (λ input. and_then (inputs_of ls fs texts) (λ inputs. Ok (input ∷ inputs))) (field_fits f text)
      (λ x h. then_ok (LineFits ls fs) (LineFits ls (f ∷ fs)) (inputs_of ls fs texts) (λ inputs. Ok (x ∷ inputs)) (inputs_fit fs texts) (λ xs hs. (h, hs)))

  line_fits : (fs : List Field) (ended : Bool) (text : List ℕ) → IfOk (line_of ls fs ended text) (λ span. LineFits ls fs span.inputs)
  line_fits fs ended text =
      line_has ls fs ended text (LineFits ls fs) IsAny (λ span. LineFits ls fs span.inputs) (inputs_fit fs (fields_of text))
      (any (count_of (count_in (pieces_of text)))) (λ inputs count h any. h)

  cycles_fit : (fs : List Field) (n : ℕ) (inputs : List Given) (rest : List (List Given)) → LineFits ls fs inputs → StreamFits ls fs rest
      → StreamFits ls fs (replicate n inputs ++ rest)
  cycles_fit fs zero inputs rest h others = others
  cycles_fit fs (suc n) inputs rest h others = (h, cycles_fit fs n inputs rest h others)

  going_fits : (fs : List Field) (n : ℕ) (r : Result Span StimCode) (p : Parsed) → IfOk r (λ span. LineFits ls fs span.inputs)
      → StreamFits ls fs p.stream → StreamFits ls fs (going_on n r p).stream
  going_fits fs n (Ok span) p h rest = cycles_fit fs span.count span.inputs p.stream h rest
  going_fits fs n (Err code) p h rest = tt

  pieces_fit : (fs : List Field) (n : ℕ) (ps : List (List ℕ)) → StreamFits ls fs (read_pieces ls fs n ps).stream
  pieces_fit fs n [] = tt
  pieces_fit fs n (text ∷ []) =
      elim (is_empty text) as (λ b. StreamFits ls fs (if b then finished else going_on n (line_of ls fs false text) finished).stream) [
        | true ↦ tt
        | false ↦ going_fits fs n (line_of ls fs false text) finished (line_fits fs false text) tt
      ]
  pieces_fit fs n (text ∷ (next ∷ rest)) =
      going_fits fs n (line_of ls fs true text) (read_pieces ls fs (n + 1) (next ∷ rest)) (line_fits fs true text) (pieces_fit fs (n + 1) (next ∷ rest))

pub fits : StimulusFits
fits ls fs bytes bottom = pieces_fit ls bottom fs 1 (split_at 10 bytes)

-- the inputs that are read of the fields of a line fit, whatever its count
pub given_fits : (ls : Levels) → (order_of ls).bottom < (order_of ls).count
    → (fs : List Field) (texts : List (List ℕ)) (inputs : List Given) → Ok inputs ≡ inputs_of ls fs texts → (count : Result ℕ StimCode) → OnOk count (LineFits ls fs inputs)
given_fits ls bottom fs texts inputs given (Ok count) =
    let P : Result (List Given) StimCode → Type 0 = λ x. IfOk x (LineFits ls fs) in
    subst P (sym given) (inputs_fit ls bottom fs texts)
given_fits ls bottom fs texts inputs given (Err code) = tt

-- what a line gives whose fields and count are read
pub line_given : (ls : Levels) (fs : List Field) (text : List ℕ) (inputs : List Given) (count : ℕ) → length text ≤ 65536 → length (fields_of text) ≡ length fs
    → Ok inputs ≡ inputs_of ls fs (fields_of text) → Ok count ≡ count_of (count_in (pieces_of text)) → Ok (record { inputs = inputs; count = count }) ≡ line_of ls fs true text
line_given ls fs text inputs count short n given number =
    let counted : List Given → Result ℕ StimCode → Result Span StimCode = λ xs r. and_then r (λ k. Ok (record { inputs = xs; count = k })) in
    let fields : Result (List Given) StimCode → Result Span StimCode = λ r. and_then r (λ xs. counted xs (count_of (count_in (pieces_of text)))) in
    let judged : Bool → Result Span StimCode = λ t. if not t then Err S4 else fields (inputs_of ls fs (fields_of text)) in
    sym (ap (λ (t : Bool). if t then Err S1 else judged (eqb (length (fields_of text)) (length fs))) (le-ltb 65536 (length text) short)
    ∙ ap judged (eq-eqb (length (fields_of text)) (length fs) n)
    ∙ ap fields (sym given)
    ∙ ap (counted inputs) (sym number))
