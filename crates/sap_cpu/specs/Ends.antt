-- How a run of the machine on the text of an `asm` ends: with what a `cpu` prints of the same programs.
use Rattle.std.specs.Prelude.{◌≡◌, ℕ, ◌+◌, ◌*◌, List, ◌++◌, length, codes, None, Ok}
use Rattle.std.specs.Fmt.{decimal}
use Rattle.sap_text.specs.Places.{line}
use Rattle.sap_lattice.specs.Diamond.{diamond}
use Rattle.sap_tree.specs.Bare.{bare}
use Rattle.sap_tree.specs.Syntax.{DesignTree}
use Rattle.sap_meaning.specs.Cycle.{Tagged}
use Rattle.sap_stream.specs.Spans.{IsCount}
use Rattle.sap_sim.specs.Labelled.LabelledRows.{labelled_rows}
use Rattle.sap_sim.specs.Labelled.RunOf.{read_for}
use Rattle.sap_machine.specs.declared.user.User.TheVariants.{A, B}
use Rattle.sap_machine.specs.Assembly.{assembled}
use Rattle.sap_machine.specs.Design.{machine_design}
use Rattle.sap_machine.specs.Laws.{Keeps, after_cycles}
use Rattle.sap_machine.specs.Machine.{machine}
use Rattle.sap_machine.specs.Table.{UserState}
use Rattle.sap_machine.specs.Text.{asm_text, cpu_text, user_after, user_line}

-- The end of a row: both users' program counters and accumulators as the kernel keeps them, each at its user's level.
abbrev pub kept_text : (a b : UserState) → List ℕ
kept_text a b = line (codes " apc=" ++ decimal a.pc ++ codes "@a aacc=" ++ decimal a.acc
    ++ codes "@a bpc=" ++ decimal b.pc ++ codes "@b bacc=" ++ decimal b.acc ++ codes "@b")

-- The rows are those of the machine's labelled run on a stream of 17 cycles and six for each slice. The last state
-- keeps both users as the instruction table has them after these slices of their words, and the last row ends with the
-- numbers that `cpu` prints of them.
pub record EndsAsPrinted (first second : List ℕ) (slices : ℕ) (rows : List ℕ) : Type 0 where
  -- the words of both texts
  pub a : List ℕ
  pub b : List ℕ
  pub words_of_a : assembled first ≡ Ok a
  pub words_of_b : assembled second ≡ Ok b
  pub prints : cpu_text first second slices
      ≡ Ok (user_line (codes "a") (user_after A a slices) ++ user_line (codes "b") (user_after B b slices))
  pub stream : List (List Tagged)
  pub cycles : length stream ≡ 17 + 6 * slices
  pub of_run : rows ≡ labelled_rows diamond machine_design stream
  pub keeps_a : Keeps A (user_after A a slices) (after_cycles machine (17 + 6 * slices) stream).store
  pub keeps_b : Keeps B (user_after B b slices) (after_cycles machine (17 + 6 * slices) stream).store
  pub before : List ℕ
  pub ends : rows ≡ before ++ kept_text (user_after A a slices) (user_after B b slices)

-- For a design that is the machine's, places aside, no line of an `asm`'s text is refused, and the rows of its run end
-- with what `cpu` prints.
abbrev pub RunsEndAsPrinted : Type 0
RunsEndAsPrinted = (design : DesignTree) (first second text : List ℕ) (slices : ℕ) → bare design ≡ bare machine_design
    → asm_text first second slices ≡ Ok text → IsCount (1 + 6 * slices)
    → ((read_for diamond design text).fault ≡ None)
    × EndsAsPrinted first second slices (labelled_rows diamond design (read_for diamond design text).stream)
