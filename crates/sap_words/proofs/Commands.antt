-- What `clap` reads in the words of a command is that command.
use Rattle.std.proofs.Common.{◌≡◌, ◌∙◌, List, [], ◌∷◌, Option, Some, None, true, sym, ap, ap₂, refl}
use Rattle.std.specs.Prelude.{is_some, option_map, option_and_then, unwrap_or, Box}
use Rattle.std.specs.Box.{box_value}
use Rattle.clap.specs.Words.{Row, Text, first_of, first_value, rows_of, subcommand_name_of, subcommand_of, subcommand_rows, subcommand_rows_of, takes}
use Rattle.clap.specs.declared.parser.matches.ArgMatches.{ArgMatches}
use Rattle.clap.specs.declared.parser.matches.ArgMatches.TheViews.{out-ArgMatches, out-SubCommand}
use Rattle.clap.specs.declared.parser.matches.Found.{Found}
use Rattle.clap.specs.declared.parser.matches.SubCommand.{SubCommand}
use Rattle.clap.proofs.WalkLemmas.{first_value-rows}
use Rattle.sap_words.specs.Words.{Words, Maker, command_of, made}
use Rattle.sap_words.specs.Table.{IsCommand, Makes}
use Rattle.sap_words.specs.Found.{found, made_from}
use Rattle.sap_words.specs.Parser.{parser}
use Rattle.sap_words.proofs.Rows.{named}
use Rattle.sap_words.proofs.Walks.{AsMany, givens, row_level}
use Rattle.sap_words.proofs.Parses.{row_enters, row_taken}
use Rattle.sap_words.proofs.Tables.{is_made, tabled}

as_many : (operands : List Text) (make : Maker operands) (words : List Text) (c : Words) → Makes operands make words c → AsMany operands words
as_many [] make [] c h = tt
as_many [] make (word ∷ words) c h = absurd h
as_many (operand ∷ operands) make [] c h = absurd h
as_many (operand ∷ operands) make (word ∷ words) c h = as_many operands (make h.0) words c h.2

-- `clap` takes the words, and has the command's name and operands
record Reads (words : List Text) (c : Words) : Type 0 where
  pub name : Text
  pub rows : List Row
  pub taken : takes parser words ≡ true
  pub are : subcommand_of parser words ≡ Some (name, rows)
  pub is : found name (λ id. first_of id rows) ≡ Some c

reads : (words : List Text) (c : Words) → IsCommand words c → Reads words c
reads words c k =
    let r = k.row in
    let many : AsMany r.operands k.operands = as_many r.operands r.make k.operands c k.makes in
    record {
      name = r.name;
      rows = givens r.operands k.operands;
      taken = ap (takes parser) k.are ∙ row_taken r k.operands k.is_row many k.fit;
      are = ap (subcommand_of parser) k.are ∙ row_enters r k.operands k.is_row many k.fit;
      is = ap (option_and_then (made_from (λ id. first_of id (givens r.operands k.operands)))) (named r k.is_row)
          ∙ ap (made r.operands r.make) (row_level r k.operands k.is_row many k.fit).reads
          ∙ is_made r.operands r.make k.operands c k.makes;
    }

some_is : (words : List Text) (o : Option Words) → is_some o ≡ true → command_of words ≡ o → (c : Words) × (command_of words ≡ Some c)
some_is words None h e = absurd (cc)
some_is words (Some c) h e = (c, e)

-- words that are one, as one
pub is_one : (words : List Text) → is_some (command_of words) ≡ true → (c : Words) × IsCommand words c
is_one words h = let g = some_is words (command_of words) h refl in (g.0, (tabled words g.0).0 g.1)

pub taken : (words : List Text) → is_some (command_of words) ≡ true → takes parser words ≡ true
taken words h = let g = is_one words h in (reads words g.0 g.1).taken

-- what is read by the name and the rows that were met
pub read : (words : List Text) (m : ArgMatches) (got : Option Words) → is_some (command_of words) ≡ true
    → subcommand_rows_of m ≡ subcommand_of parser words
    → ((name : Text) (rows : List Row) → subcommand_rows_of m ≡ Some (name, rows) → got ≡ found name (λ id. first_of id rows))
    → got ≡ command_of words
read words m got h same gives =
    let g = some_is words (command_of words) h refl in
    let r = reads words g.0 ((tabled words g.0).0 g.1) in
    gives r.name r.rows (same ∙ r.are) ∙ (r.is ∙ sym g.1)

-- ---- the subcommand that was met

name_met : {Z : Type 0} (o : Option (Box SubCommand Z)) → option_map (λ b. (out-SubCommand (box_value b)).name.now) o ≡ option_map (λ p. p.0) (subcommand_rows o)
name_met None = refl
name_met (Some b) = refl

pub name_is : (m : ArgMatches) (name : Text) (rows : List Row) → subcommand_rows_of m ≡ Some (name, rows) → subcommand_name_of m ≡ Some name
name_is m name rows h = name_met (out-ArgMatches m).subcommand ∙ ap (option_map (λ (p : Text × List Row). p.0)) h

pub same_row : (met name : Text) (f : Found) (rows : List Row) → met ≡ name → rows_of f ≡ rows → found met (first_value f) ≡ found name (λ id. first_of id rows)
same_row met name f rows e same = ap₂ found e (λ i id. first_value-rows f id i) ∙ ap (λ (rs : List Row). found name (λ id. first_of id rs)) same

pub given_some : {A B : Type 0} (f : A → B) (o : Option A) (x : A) (y : B) → o ≡ Some x → option_map f o ≡ Some y → f x ≡ y
given_some {A} {B} f o x y is h = ap (λ (p : Option B). unwrap_or p (f x)) (ap (option_map f) (sym is) ∙ h)
