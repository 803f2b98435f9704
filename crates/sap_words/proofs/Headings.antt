-- The code's table is that of the rows.
use Rattle.sap_lemmas.proofs.Common.{◌≡◌, ◌∙◌, ℕ, List, [], ◌∷◌, Bool, true, false, Option, Some, None, ap, refl, sym, map, inl, inr, ◌&&◌, ◌||◌, bytes_eq, find, fold, is_some, length, not, option_and_then, option_map, take, list_all, cases_Bool, and_false}
use Rattle.std.proofs.lemmas.List.Folds.{list_all-map}
use Rattle.clap.specs.Words.{App, Text, with_subcommand}
use Rattle.clap.proofs.WalkLemmas.{find-map}
use Rattle.sap_words.specs.Words.{Maker, Row, Value, command_of, commands, is_number, is_operand, made, made_by, number_of, row_named, value_of}
use Rattle.sap_words.specs.Fits.{fit}
use Rattle.sap_words.specs.Found.{found, made_from, made_of_five, value_at}
use Rattle.sap_words.specs.Headings.{Heading, heading, texts, written}
use Rattle.sap_words.specs.Parser.{bare, command, parser}

-- ---- the operands that stand with a name

second : (o : Option Heading) → option_map texts (option_map (λ (h : Heading). h.1) o) ≡ option_map (λ (p : Text × List Text). p.1) (option_map written o)
second None = refl
second (Some h) = refl

second_of_row : (o : Option Row) → option_map (λ (p : Text × List Text). p.1) (option_map heading o) ≡ option_map (λ (r : Row). r.operands) o
second_of_row None = refl
second_of_row (Some r) = refl

pub operands_are : (name : Text) (hs : List Heading) → map written hs ≡ map heading commands
    → option_map texts (option_map (λ (h : Heading). h.1) (find (λ (h : Heading). bytes_eq name h.0.now) hs)) ≡ option_map (λ (r : Row). r.operands) (row_named name)
operands_are name hs same =
    let test : Text × List Text → Bool = λ p. bytes_eq name p.0 in
    second (find (λ (h : Heading). bytes_eq name h.0.now) hs)
    ∙ ap (option_map (λ (p : Text × List Text). p.1)) (find-map test written hs ∙ ap (find test) same ∙ sym (find-map test heading commands))
    ∙ second_of_row (row_named name)

-- ---- which words are a command

by_number : (operands : List Text) (words : List Text) (m : ℕ → Maker operands) (o : Option ℕ) → ((n : ℕ) → fit operands words ≡ is_some (made operands (m n) words))
    → (is_some o && fit operands words) ≡ is_some (option_and_then (λ v. made operands (m v) words) o)
by_number operands words m None rest = refl
by_number operands words m (Some n) rest = rest n

by_kind : (operands : List Text) (word : Text) (words : List Text) (b : Bool) (m : Value b → Maker operands)
    → ((v : Value b) → fit operands words ≡ is_some (made operands (m v) words))
    → ((not b || is_some (number_of word)) && fit operands words) ≡ is_some (option_and_then (λ v. made operands (m v) words) (value_of b word))
by_kind operands word words false m rest = rest word
by_kind operands word words true m rest = by_number operands words m (number_of word) rest

made_when : (operands : List Text) (make : Maker operands) (words : List Text) → fit operands words ≡ is_some (made operands make words)
made_when [] make [] = refl
made_when [] make (word ∷ words) = refl
made_when (operand ∷ operands) make [] = refl
made_when (operand ∷ operands) make (word ∷ words) = by_kind operands word words (is_number operand) make (λ v. made_when operands (make v) words)

as_command : (name : Text) (words : List Text) (b : Bool) → b ≡ is_some (made_by name words) → (list_all is_operand words && b) ≡ is_some (command_of (name ∷ words))
as_command name words b h =
    elim (cases_Bool (list_all is_operand words)) [
      | inl t ↦ rw t h
      | inr f ↦ rw f refl
    ]

fit_by : (name : Text) (operands : List Text) (words : List Text) (o : Option Row) → row_named name ≡ o
    → Some operands ≡ option_map (λ (r : Row). r.operands) o → fit operands words ≡ is_some (made_by name words)
fit_by name operands words None e h = absurd (cc)
fit_by name operands words (Some r) e h =
    let same : operands ≡ r.operands = cc in
    ap (λ (os : List Text). fit os words) same ∙ made_when r.operands r.make words
    ∙ sym (ap (λ (p : Option Row). is_some (option_and_then (λ (q : Row). made q.operands q.make words) p)) e)

none_by : (name : Text) (words : List Text) (o : Option Row) → row_named name ≡ o → None ≡ option_map (λ (r : Row). r.operands) o → false ≡ is_some (made_by name words)
none_by name words None e h = sym (ap (λ (p : Option Row). is_some (option_and_then (λ (q : Row). made q.operands q.make words) p)) e)
none_by name words (Some r) e h = absurd (cc)

pub named_fits : {S : Type 0} (text : S → Text) (name : Text) (operands : List Text) (words : List S) → Some operands ≡ option_map (λ (r : Row). r.operands) (row_named name)
    → (list_all (λ w. is_operand (text w)) words && fit operands (map text words)) ≡ is_some (command_of (name ∷ map text words))
named_fits text name operands words h =
    ap (λ (b : Bool). b && fit operands (map text words)) (sym (list_all-map is_operand text words))
    ∙ as_command name (map text words) (fit operands (map text words)) (fit_by name operands (map text words) (row_named name) refl h)

pub unnamed : (name : Text) (words : List Text) → None ≡ option_map (λ (r : Row). r.operands) (row_named name) → false ≡ is_some (command_of (name ∷ words))
unnamed name words h = sym (and_false (list_all is_operand words)) ∙ as_command name words false (none_by name words (row_named name) refl h)

-- ---- what was found

found_by : (name : Text) (value : Text → Option Text) (os : List Text) (a b c d e : Text) (o : Option Row) → row_named name ≡ o → Some os ≡ option_map (λ (r : Row). r.operands) o
    → a ≡ value_at value os 0 → b ≡ value_at value os 1 → c ≡ value_at value os 2 → d ≡ value_at value os 3 → e ≡ value_at value os 4
    → made_of_five name a b c d e ≡ found name value
found_by name value os a b c d e None is h ea eb ec ed ee = absurd (cc)
found_by name value os a b c d e (Some r) is h ea eb ec ed ee =
    let same : os ≡ r.operands = cc in
    let to = λ (k : ℕ). ap (λ (ids : List Text). value_at value ids k) same in
    let fa = ea ∙ to 0 in
    let fb = eb ∙ to 1 in
    let fc = ec ∙ to 2 in
    let fd = ed ∙ to 3 in
    let fe = ee ∙ to 4 in
    ap (option_and_then (λ (q : Row). made q.operands q.make (take (length q.operands) (a ∷ b ∷ c ∷ d ∷ e ∷ [])))) is
    ∙ (λ i. made r.operands r.make (take (length r.operands) (fa i ∷ fb i ∷ fc i ∷ fd i ∷ fe i ∷ [])))
    ∙ sym (ap (option_and_then (made_from value)) is)

pub found_is : (name : Text) (value : Text → Option Text) (operands : List Text) (a b c d e : Text) → Some operands ≡ option_map (λ (r : Row). r.operands) (row_named name)
    → a ≡ value_at value operands 0 → b ≡ value_at value operands 1 → c ≡ value_at value operands 2 → d ≡ value_at value operands 3 → e ≡ value_at value operands 4
    → made_of_five name a b c d e ≡ found name value
found_is name value operands a b c d e h = found_by name value operands a b c d e (row_named name) refl h

found_none : (name : Text) (value : Text → Option Text) (o : Option Row) → row_named name ≡ o → None ≡ option_map (λ (r : Row). r.operands) o → None ≡ found name value
found_none name value None is h = sym (ap (option_and_then (made_from value)) is)
found_none name value (Some r) is h = absurd (cc)

pub none_found : (name : Text) (value : Text → Option Text) → None ≡ option_map (λ (r : Row). r.operands) (row_named name) → None ≡ found name value
none_found name value h = found_none name value (row_named name) refl h

-- ---- the command line, as it is made

abbrev pub with_heading : App → Heading → App
with_heading a h = with_subcommand a (command h.0.now (texts h.1))

abbrev with_pair : App → Text × List Text → App
with_pair a p = with_subcommand a (command p.0 p.1)

by_pairs : (a : App) (hs : List Heading) → fold with_heading a hs ≡ fold with_pair a (map written hs)
by_pairs a [] = refl
by_pairs a (h ∷ hs) = by_pairs (with_heading a h) hs

by_rows : fold with_pair bare (map heading commands) ≡ parser
by_rows = refl

pub all_headings : (hs : List Heading) → map written hs ≡ map heading commands → fold with_heading bare hs ≡ parser
all_headings hs same = by_pairs bare hs ∙ ap (fold with_pair bare) same ∙ by_rows
