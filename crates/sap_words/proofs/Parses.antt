-- What `clap` makes of words whose first is the name of a row.
use Rattle.sap_lemmas.proofs.Common.{◌≡◌, ◌∙◌, List, [], ◌∷◌, ◌++◌, Some, Bool, true, false, ap, ap₂, refl, sym, map, ◌&&◌, Contains, Option, ◌||◌, bytes_eq, codes, find, fold, is_some, not, option_map, list_all, or_false, bytes_eq_symmetric}
use Rattle.std.specs.Option.{option_map_or}
use Rattle.clap.specs.Words.{App, Text, built, is_simple, subcommand_of, takes}
use Rattle.clap.specs.Simple.{Shape, entered, label_of, names_of, new_shape, rows_at}
use Rattle.clap.specs.Takes.{built_takes, default_passes, entered_passes, is_valid, level_passes, other_passes, settle_passes, step_passes, turn_passes, walk_passes}
use Rattle.clap.specs.Walk.{Names, Walk, after_step, answers_to, finished, idle, nothing_held, stop_after, subcommand_or_other, walk, walked}
use Rattle.clap.proofs.OnLiterals.{clap_on_literals}
use Rattle.clap.proofs.WalkLemmas.{find-map, walk_stopped}
use Rattle.sap_words.specs.Words.{Row, commands}
use Rattle.sap_words.specs.Table.{AreOperands}
use Rattle.sap_words.specs.Parser.{parser}
use Rattle.sap_words.proofs.Rows.{named}
use Rattle.sap_words.proofs.Walks.{AsMany, at, givens, leaf, row_level}

-- ---- the command line, as it is built

abbrev top : Shape
top = record (new_shape (codes "sapper")) { is_leaf = false; no_binary_name = true; disable_help_flag = true; disable_help_subcommand = true; is_built = true }

abbrev line : List Shape → App
line subs = record { top = top; subs = subs }

abbrev leaf_of : Row → Shape
leaf_of r = leaf r.name r.operands

built_is : built parser ≡ line (map leaf_of commands)
built_is = refl

pub simple : is_simple parser ≡ true
unfolding clap_on_literals
simple = refl

-- ---- the subcommand that is met

or_true : (b : Bool) → (b || true) ≡ true
or_true true = refl
or_true false = refl

label_met : (subs : List Shape) (s : Shape) → find (λ (x : Shape). answers_to s.name (label_of x)) subs ≡ Some s → find (answers_to s.name) (map label_of subs) ≡ Some (label_of s)
label_met subs s met = sym (find-map (answers_to s.name) label_of subs) ∙ ap (option_map label_of) met

-- where the walk stands behind the name of a subcommand
abbrev behind : Text → List Text → Walk
behind name words = record (at nothing_held 1) { stopped = Some (name, words) }

enters : (names : Names) (name : Text) (label : Text × List Text) → find (answers_to name) names ≡ Some label → walked [] names (at nothing_held 1) name ≡ behind label.0 []
unfolding walked
enters names name label met =
    ap
    (λ (o : Option (Text × List Text)).
    after_step [] name (at nothing_held 1) (subcommand_or_other [] (option_map (λ (s : Text × List Text). s.0) o) idle 1 name
    nothing_held).0 (subcommand_or_other [] (option_map (λ (s : Text × List Text). s.0) o) idle 1 name nothing_held).1)
    met

stops : (names : Names) (name : Text) (label : Text × List Text) (words : List Text) → find (answers_to name) names ≡ Some label
    → walk [] names nothing_held (name ∷ words) ≡ behind label.0 words
stops names name label words met =
    ap (λ (w : Walk). fold (walked [] names) w words) (enters names name label met) ∙ sym (walk_stopped [] names (at nothing_held 1) label.0 [] words)

behind_passes : (names : Names) (name : Text) (seen words : List Text) → walk_passes top names (behind name seen) words ≡ true
unfolding walk_passes walked
behind_passes names name seen [] = refl
behind_passes names name seen (word ∷ words) = behind_passes names name (seen ++ word ∷ []) words

name_passes : (names : Names) (name : Text) (label : Text × List Text) → find (answers_to name) names ≡ Some label → turn_passes top names (at nothing_held 1) name ≡ true
name_passes names name label met =
    ap
    (λ (o : Option (Text × List Text)). other_passes top (option_map (λ (s : Text × List Text). s.0) o) name nothing_held
    && step_passes top 1 (subcommand_or_other [] (option_map (λ (s : Text × List Text). s.0) o) idle 1 name nothing_held).0
    (subcommand_or_other [] (option_map (λ (s : Text × List Text). s.0) o) idle 1 name nothing_held).1)
    met
    ∙ ap (λ (b : Bool). b && true) (or_true (not (bytes_eq label.0 (codes "help"))))

top_passes : (names : Names) (name : Text) (label : Text × List Text) (words : List Text) → find (answers_to name) names ≡ Some label
    → walk_passes top names (at nothing_held 1) (name ∷ words) ≡ true
unfolding walk_passes
top_passes names name label words met =
    ap₂ (λ (p : Bool) (w : Walk). p && walk_passes top names w words) (name_passes names name label met) (enters names name label met) ∙ behind_passes names label.0 [] words

line_takes : (subs : List Shape) (s : Shape) (words : List Text) → find (λ (x : Shape). answers_to s.name (label_of x)) subs ≡ Some s
    → level_passes s [] nothing_held words false ≡ true
    → built_takes (line subs) nothing_held (s.name ∷ words) ≡ true
line_takes subs s words met passes =
    let names = names_of (line subs) in
    let stop : walk [] names nothing_held (s.name ∷ words) ≡ behind s.name words = stops names s.name (label_of s) words (label_met subs s met) in
    let inner : entered_passes (line subs) (Some (s.name, words)) ≡ true =
    ap (λ (o : Option Shape). option_map_or (λ x. level_passes x [] nothing_held words false) o true) met ∙ passes in
    ap
    (λ (w : Walk). entered_passes (line subs) w.stopped
    && (walk_passes top names (at nothing_held 1) (s.name ∷ words)
    && (settle_passes [] false w.held && (list_all default_passes [] && is_valid top (finished [] w.held) (is_some (entered (line subs) w.stopped))))))
    stop
    ∙ ap₂ (λ (x y : Bool). x && (y && true)) inner (top_passes names s.name (label_of s) words (label_met subs s met))

line_enters : (subs : List Shape) (s : Shape) (words : List Text) → find (λ (x : Shape). answers_to s.name (label_of x)) subs ≡ Some s
    → entered (line subs) (stop_after [] (names_of (line subs)) (s.name ∷ words)) ≡ Some (rows_at s words)
line_enters subs s words met =
    ap (λ (w : Walk). entered (line subs) w.stopped) (stops (names_of (line subs)) s.name (label_of s) words (label_met subs s met))
    ∙ ap (option_map (λ (x : Shape). rows_at x words)) met

-- ---- the rows of the table

same_name : (name : Text) (r : Row) → (bytes_eq r.name name || false) ≡ bytes_eq name r.name
same_name name r = or_false (bytes_eq r.name name) ∙ bytes_eq_symmetric r.name name

leaf_met : (r : Row) → Contains commands r → find (λ (x : Shape). answers_to r.name (label_of x)) (map leaf_of commands) ≡ Some (leaf_of r)
leaf_met r has =
    sym (find-map (λ (x : Shape). answers_to r.name (label_of x)) leaf_of commands)
    ∙ (λ i. option_map leaf_of (find (λ (q : Row). same_name r.name q i) commands))
    ∙ ap (option_map leaf_of) (named r has)

pub row_taken : (r : Row) (words : List Text) → Contains commands r → AsMany r.operands words → AreOperands words → takes parser (r.name ∷ words) ≡ true
row_taken r words has many fit =
    ap₂ ◌&&◌ simple
    (ap (λ (a : App). built_takes a nothing_held (r.name ∷ words)) built_is
    ∙ line_takes (map leaf_of commands) (leaf_of r) words (leaf_met r has) (row_level r words has many fit).passes)

pub row_enters : (r : Row) (words : List Text) → Contains commands r → AsMany r.operands words → AreOperands words
    → subcommand_of parser (r.name ∷ words) ≡ Some (r.name, givens r.operands words)
row_enters r words has many fit =
    ap (λ (a : App). entered a (stop_after a.top.rules (names_of a) (r.name ∷ words))) built_is
    ∙ line_enters (map leaf_of commands) (leaf_of r) words (leaf_met r has)
    ∙ ap (λ rows. Some (r.name, rows)) (row_level r words has many fit).rows
