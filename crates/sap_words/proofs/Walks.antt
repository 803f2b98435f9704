-- What `clap` makes of the operands of a command.
use Rattle.sap_lemmas.proofs.Common.{◌≡◌, ◌∙◌, ◌+◌, ◌++◌, ℕ, List, [], ◌∷◌, Option, Some, None, Bool, true, false, ap, ap₂, refl, subst, arith, map, ◌&&◌, inl, inr, append_assoc, ◌||◌, not, nat_eq, min, fold, take, length, slice_get, unwrap_or, bytes_eq, Contains, if◌then◌else◌, AllByRecursion, list_all, cases_Bool, append-nil, and_false}
use Rattle.std.specs.Option.{option_map_or}
use Rattle.clap.specs.Lexer.{usize_max}
use Rattle.clap.specs.Values.{reading_of}
use Rattle.clap.specs.Words.{Row, Rule, Text, first_of}
use Rattle.clap.specs.Simple.{Shape, filled, filled_from, new_shape, with_index}
use Rattle.clap.specs.Takes.{default_passes, is_valid, level_passes, positional_passes, settle_passes, step_passes, turn_passes, use_passes, values_pass, walk_passes}
use Rattle.clap.specs.Walk.{Held, Walk, arg_by_id, arg_by_index, at_row, has_row, idle, more_values, nothing_held, pushed, rows_after, settled, to_positional, used, used_by_id, value, walked, with_default, with_values}
use Rattle.clap.specs.declared.builder.value_parser.ValueParser.TheVariants as vp
use Rattle.clap.specs.declared.parser.matches.ValueSource.TheVariants.{CommandLine}
use Rattle.sap_words.specs.Words.{Row as Line, commands, is_operand}
use Rattle.sap_words.specs.Table.{AreOperands}
use Rattle.sap_words.specs.Found.{value_at}
use Rattle.sap_words.specs.Parser.{operand}
use Rattle.sap_words.proofs.Rows.{at_one}

-- ---- one operand

-- where the walk stands before an operand
abbrev pub at : Held → ℕ → Walk
at h position = record { held = h; waiting = idle; position = position; is_trailing = false; stopped = None }

step : (c : List Rule) (h : Held) (position : ℕ) (word : Text) → is_operand word ≡ true
    → walked c [] (at h position) word ≡ to_positional c (arg_by_index c position) word (at h position) h
unfolding walked
step c h position [] t = refl
step c h position (x ∷ xs) t = let f : (nat_eq x 45) ≡ false = grind (arith, t) in rw f (rw f refl)

turn : (s : Shape) (h : Held) (position : ℕ) (word : Text) → is_operand word ≡ true
    → turn_passes s [] (at h position) word ≡ step_passes s position h value
turn s h position [] t = refl
turn s h position (x ∷ xs) t = let f : (nat_eq x 45) ≡ false = grind (arith, t) in rw f (rw f refl)

more : (s : Shape) (h : Held) (position : ℕ) (word : Text) (rest : List Text) → is_operand word ≡ true
    → walk_passes s [] (at h position) (word ∷ rest)
    ≡ (step_passes s position h value && walk_passes s [] (to_positional s.rules (arg_by_index s.rules position) word (at h position) h) rest)
unfolding walk_passes
more s h position word rest t = ap₂ (λ p w. p && walk_passes s [] w rest) (turn s h position word t) (step s.rules h position word t)

-- ---- the operands of a command

-- an operand by its place
abbrev rule : ℕ → Text → Rule
rule k id = with_index k (filled (operand id))

-- the command of this name, as it is built
abbrev pub leaf : Text → List Text → Shape
leaf name ids = record (new_shape name) {
  rules = filled_from 1 (map operand ids);
  no_binary_name = true;
  disable_help_flag =
      true;
  disable_help_subcommand = true;
  is_built = true;
}

abbrev pub given : Text → Text → Row
given id v = record { id = id; values = v ∷ []; count = None; source = Some CommandLine; reading = reading_of vp.String }

abbrev pub givens : List Text → List Text → List Row
givens [] words = []
givens (id ∷ ids) [] = []
givens (id ∷ ids) (word ∷ words) = given id word ∷ givens ids words

abbrev word_of : Row → Text
word_of r = unwrap_or (slice_get r.values 0) []

-- one for each
abbrev pub AsMany : List Text → List Text → Type 0
AsMany [] [] = Unit {0}
AsMany [] (word ∷ words) = ⊥
AsMany (id ∷ ids) [] = ⊥
AsMany (id ∷ ids) (word ∷ words) = AsMany ids words

-- the rows are whole: nothing is missing, and each value is found by the name of its operand
record Whole (s : Shape) (all : List Text) (rows : List Row) : Type 0 where
  pub defaults : fold with_default rows s.rules ≡ rows
  pub valid : (list_all default_passes s.rules && is_valid s rows false) ≡ true
  pub reads : take (length all) (value_at (λ id. first_of id rows) all 0 ∷ value_at (λ id. first_of id rows) all 1
      ∷ value_at (λ id. first_of id rows) all 2 ∷ value_at (λ id. first_of id rows) all 3 ∷ value_at (λ id. first_of id rows) all 4 ∷ [])
      ≡ map word_of rows

-- from these rows and this place on the command has these operands
abbrev Goes : (s : Shape) (all : List Text) → List Row → ℕ → List Text → Type 0
Goes s all rows k [] = Whole s all rows
Goes s all rows k (id ∷ ids) = (arg_by_index s.rules k ≡ Some (rule k id)) × (arg_by_id s.rules id ≡ Some (rule k id)) × (min (k + 1) usize_max ≡ k + 1) × (has_row id rows ≡ false)
    × ((v : Text) → Goes s all (rows ++ given id v ∷ []) (k + 1) ids)

-- each command of the table has its operands
all_go : AllByRecursion (λ (r : Line). Goes (leaf r.name r.operands) r.operands [] 1 r.operands) commands
all_go = search (refl)

-- ---- an operand that is waiting is used

abbrev held : List Row → Text → Text → Held
held rows id v = record { rows = rows; pending = Some (id, v ∷ []); skip = 0 }

at_absent : (id : Text) (change : Row → List Row) (missing rows : List Row) → has_row id rows ≡ false → at_row id change missing rows ≡ rows ++ missing
at_absent id change missing [] h = refl
at_absent id change missing (r ∷ rows) h =
    elim (cases_Bool (bytes_eq r.id id)) [
      | inl t ↦ let g : true ≡ false = rw t at h in absurd (cc)
      | inr f ↦ let g : has_row id rows ≡ false = rw f at h in rw f (ap (λ (rs : List Row). r ∷ rs) (at_absent id change missing rows g))
    ]

used_is : (k : ℕ) (id v : Text) (rows : List Row) → has_row id rows ≡ false → used (rule k id) (v ∷ []) rows ≡ rows ++ given id v ∷ []
used_is k id v rows fresh =
    ap (with_values id (reading_of vp.String) CommandLine (v ∷ [])) (at_absent id (λ _. []) [] rows fresh ∙ append-nil rows)
    ∙ at_absent id (more_values CommandLine (v ∷ [])) (given id v ∷ []) rows fresh

settles : (c : List Rule) (again : Bool) (rows : List Row) (k : ℕ) (id v : Text) → arg_by_id c id ≡ Some (rule k id)
    → has_row id rows ≡ false → settle_passes c again (held rows id v) ≡ true
settles c again rows k id v known fresh =
    ap (λ (o : Option Rule). option_map_or (λ a. use_passes again a (v ∷ []) rows) o true) known
    ∙ ap (λ (b : Bool). (not b || again) && values_pass (rule k id) (v ∷ [])) fresh

settled_is : (c : List Rule) (rows : List Row) (k : ℕ) (id v : Text) → arg_by_id c id ≡ Some (rule k id) → has_row id rows ≡ false
    → (settled c (held rows id v)).rows ≡ rows ++ given id v ∷ []
settled_is c rows k id v known fresh = ap (λ (o : Option Rule). used_by_id o (v ∷ []) rows) known ∙ used_is k id v rows fresh

-- ---- one step

first_moves : (c : List Rule) (id word : Text) → arg_by_index c 1 ≡ Some (rule 1 id)
    → to_positional c (arg_by_index c 1) word (at nothing_held 1) nothing_held ≡ at (held [] id word) 2
first_moves c id word here = ap (λ (o : Option Rule). to_positional c o word (at nothing_held 1) nothing_held) here

moves : (c : List Rule) (rows : List Row) (j k : ℕ) (id v next word : Text) → arg_by_id c id ≡ Some (rule j id) → has_row id rows ≡ false
    → arg_by_index c k ≡ Some (rule k next) → min (k + 1) usize_max ≡ k + 1
    → to_positional c (arg_by_index c k) word (at (held rows id v) k) (held rows id v) ≡ at (held (rows ++ given id v ∷ []) next word) (k + 1)
moves c rows j k id v next word known fresh here further =
    ap (λ (o : Option Rule). to_positional c o word (at (held rows id v) k) (held rows id v)) here
    ∙ ap₂
    (λ (b : Bool) (p : ℕ). at (pushed next word (if b then held rows id v else settled c (held rows id v))) p)
    (and_false (bytes_eq id next)) further
    ∙ ap (λ (rs : List Row). at (held rs next word) (k + 1)) (settled_is c rows j id v known fresh)

first_steps : (s : Shape) (id : Text) → arg_by_index s.rules 1 ≡ Some (rule 1 id) → step_passes s 1 nothing_held value ≡ true
first_steps s id here = ap (λ (o : Option Rule). option_map_or (λ a. positional_passes s.rules s.args_override_self a nothing_held) o false) here

steps : (s : Shape) (rows : List Row) (j k : ℕ) (id v next : Text) → arg_by_id s.rules id ≡ Some (rule j id) → has_row id rows ≡ false
    → arg_by_index s.rules k ≡ Some (rule k next) → step_passes s k (held rows id v) value ≡ true
steps s rows j k id v next known fresh here =
    ap (λ (o : Option Rule). option_map_or (λ a. positional_passes s.rules s.args_override_self a (held rows id v)) o false) here
    ∙ ap₂ ◌||◌ (and_false (bytes_eq id next)) (settles s.rules s.args_override_self rows j id v known fresh)

-- ---- all the words

record Walks (s : Shape) (all : List Text) (from : Walk) (words : List Text) (rows : List Row) : Type 0 where
  pub passes : walk_passes s [] from words ≡ true
  pub settles : settle_passes s.rules s.args_override_self (fold (walked s.rules []) from words).held ≡ true
  pub rows_are : (settled s.rules (fold (walked s.rules []) from words).held).rows ≡ rows
  pub whole : Whole s all rows

one_more : (s : Shape) (all : List Text) (h : Held) (k : ℕ) (next : Walk) (word : Text) (words : List Text) (rows : List Row) → is_operand word ≡ true
    → step_passes s k h value ≡ true → to_positional s.rules (arg_by_index s.rules k) word (at h k) h ≡ next → Walks s all next words rows
    → Walks s all (at h k) (word ∷ words) rows
one_more s all h k next word words rows t passes moved rest =
    let goes : walked s.rules [] (at h k) word ≡ next = step s.rules h k word t ∙ moved in
    record {
      passes = more s h k word words t ∙ ap₂ (λ (p : Bool) (w : Walk). p && walk_passes s [] w words) passes moved ∙ rest.passes;
      settles = ap (λ (w : Walk). settle_passes s.rules s.args_override_self (fold (walked s.rules []) w words).held) goes ∙ rest.settles;
      rows_are = ap (λ (w : Walk). (settled s.rules (fold (walked s.rules []) w words).held).rows) goes ∙ rest.rows_are;
      whole = rest.whole;
    }

fits_first : (word : Text) (words : List Text) → AreOperands (word ∷ words) → is_operand word ≡ true
fits_first word words fit = grind (arith, fit)

fits_rest : (word : Text) (words : List Text) → AreOperands (word ∷ words) → AreOperands words
fits_rest word words fit = grind (arith, fit)

same_rows : (s : Shape) (all : List Text) (from : Walk) (words : List Text) (rows other : List Row) → rows ≡ other → Walks s all from words rows → Walks s all from words other
same_rows s all from words rows other e w = subst (Walks s all from words) e w

rest_walks : (s : Shape) (all : List Text) (rows : List Row) (j k : ℕ) (id v : Text) (ids words : List Text) → arg_by_id s.rules id ≡ Some (rule j id) → has_row id rows ≡ false
    → Goes s all (rows ++ given id v ∷ []) k ids → AsMany ids words → AreOperands words → Walks s all (at (held rows id v) k) words (rows ++ given id v ∷ givens ids words)
unfolding walk_passes
rest_walks s all rows j k id v [] [] known fresh goes many fit = record {
  passes = refl;
  settles = settles s.rules s.args_override_self rows j id v known fresh;
  rows_are = settled_is s.rules rows j id v known fresh;
  whole = goes;
}
rest_walks s all rows j k id v [] (word ∷ words) known fresh goes many fit = absurd many
rest_walks s all rows j k id v (next ∷ ids) [] known fresh goes many fit = absurd many
rest_walks s all rows j k id v (next ∷ ids) (word ∷ words) known fresh goes many fit =
    one_more s all (held rows id v) k (at (held (rows ++ given id v ∷ []) next word) (k + 1)) word words
    (rows ++ given id v ∷ givens (next ∷ ids) (word ∷ words)) (fits_first word words fit)
    (steps s rows j k id v next known fresh goes.0)
    (moves s.rules rows j k id v next word known fresh goes.0 goes.2)
    (same_rows s all (at (held (rows ++ given id v ∷ []) next word) (k + 1)) words
    ((rows ++ given id v ∷ []) ++ givens (next ∷ ids) (word ∷ words)) (rows ++ given id v ∷ givens (next ∷ ids) (word ∷ words))
    (append_assoc rows (given id v ∷ []) (givens (next ∷ ids) (word ∷ words)))
    (rest_walks s all (rows ++ given id v ∷ []) k (k + 1) next word ids words goes.1 goes.3 (goes.4 word) many (fits_rest word words fit)))

walks : (s : Shape) (all ids words : List Text) → Goes s all [] 1 ids → AsMany ids words → AreOperands words → Walks s all (at nothing_held 1) words (givens ids words)
unfolding walk_passes
walks s all [] [] goes many fit = record { passes = refl; settles = refl; rows_are = refl; whole = goes }
walks s all [] (word ∷ words) goes many fit = absurd many
walks s all (id ∷ ids) [] goes many fit = absurd many
walks s all (id ∷ ids) (word ∷ words) goes many fit =
    one_more s all nothing_held 1 (at (held [] id word) 2) word words (givens (id ∷ ids) (word ∷ words)) (fits_first word words fit)
    (first_steps s id goes.0) (first_moves s.rules id word goes.0)
    (rest_walks s all [] 1 2 id word ids words goes.1 goes.3 (goes.4 word) many (fits_rest word words fit))

-- ---- a level of a parse

words_back : (ids words : List Text) → AsMany ids words → map word_of (givens ids words) ≡ words
words_back [] [] many = refl
words_back [] (word ∷ words) many = absurd many
words_back (id ∷ ids) [] many = absurd many
words_back (id ∷ ids) (word ∷ words) many = ap (λ (ws : List Text). word ∷ ws) (words_back ids words many)

-- `clap` takes as many words as operands, has a row for each, and finds each by the name of its operand
pub record Level (s : Shape) (ids words : List Text) : Type 0 where
  pub passes : level_passes s [] nothing_held words false ≡ true
  pub rows : rows_after s.rules [] words ≡ givens ids words
  pub reads : take (length ids) (value_at (λ id. first_of id (givens ids words)) ids 0
      ∷ value_at (λ id. first_of id (givens ids words)) ids 1 ∷ value_at (λ id. first_of id (givens ids words)) ids 2
      ∷ value_at (λ id. first_of id (givens ids words)) ids 3 ∷ value_at (λ id. first_of id (givens ids words)) ids 4 ∷ [])
      ≡ words

level : (s : Shape) (ids words : List Text) → Goes s ids [] 1 ids → AsMany ids words → AreOperands words → Level s ids words
level s ids words goes many fit =
    let w : Walks s ids (at nothing_held 1) words (givens ids words) = walks s ids ids words goes many fit in
    let rows : rows_after s.rules [] words ≡ givens ids words = ap (λ (rs : List Row). fold with_default rs s.rules) w.rows_are ∙ w.whole.defaults in
    record {
      passes = ap₂ ◌&&◌ w.passes (ap₂ ◌&&◌ w.settles (ap (λ (rs : List Row). list_all default_passes s.rules && is_valid s rs false) rows ∙ w.whole.valid));
      rows = rows;
      reads = w.whole.reads ∙ words_back ids words many;
    }

pub row_level : (r : Line) (words : List Text) → Contains commands r → AsMany r.operands words → AreOperands words → Level (leaf r.name r.operands) r.operands words
row_level r words has many fit =
    level (leaf r.name r.operands) r.operands words (at_one (λ (q : Line). Goes (leaf q.name q.operands) q.operands [] 1 q.operands) commands r all_go has) many fit
