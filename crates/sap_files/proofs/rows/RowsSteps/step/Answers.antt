use Rattle.std.proofs.Common.{◌≡◌, ◌+◌, ℕ, List, [], ◌∷◌, ◌++◌, length, sym, ap, ◌∙◌, subst}
use Rattle.sap_net.specs.Net.{Net}
use Rattle.sap_sim.specs.Prelude.{numbers_of, row_of, shown_registers, AreRows, HasRowMore, IsAfter}
use Rattle.sap_sim.proofs.Stepped.{told_alone}
use Rattle.sap_files.proofs.rows.RowsSteps.step.Goals as goal

pub row_into-requires-clause-planned : goal.row_into-requires-clause-planned
row_into-requires-clause-planned c = c.requires.stands.1.planned

pub row_into-requires-clause-room : goal.row_into-requires-clause-room
row_into-requires-clause-room c = c.requires.room

pub returns-clause-behind : goal.returns-clause-behind
returns-clause-behind c = λ lines h.
    let same = (c.row_into.ensures.after _ c.requires.stands.0 c.requires.stands.1).net in
    subst (λ (m : Net). IsAfter c.args.self.now.lattice.now m (lines ++ c.args.line.now ∷ []) c.row_into.new.self) (sym same)
    (c.row_into.ensures.after c.args.self.now.simulation.runner.net lines h)

pub returns-clause-shows : goal.returns-clause-shows
returns-clause-shows c =
    let ls = c.args.self.now.lattice.now in
    let n = c.args.self.now.simulation.runner.net in
    let same = (c.row_into.ensures.after _ c.requires.stands.0 c.requires.stands.1).net in
    let row : List ℕ = c.row_into.ensures.more.0 in
    record {
      text = row;
      adds = λ count is lines shown h many so_far.
          let all = lines ++ c.args.line.now ∷ [] in
          let number : c.args.cycle ≡ length lines + 1 = is ∙ ap (λ (k : ℕ). k + 1) many in
          let alone : HasRowMore ls n all c.args.cycle [] row
          = told_alone n (numbers_of ls n) (row_of ls (shown_registers ls n)) all c.args.cycle c.args.out.now.bytes row c.row_into.new.out.bytes
          c.row_into.ensures.more.1 (c.row_into.ensures.row n lines h) in
          subst (λ (m : Net). AreRows ls m all (shown ++ row)) (sym same)
          (c.rows_add_up.ensures.goes_on lines c.args.line.now shown row so_far (subst (λ (k : ℕ). HasRowMore ls n all k [] row) number alone));
      holds = (c.row_into.ensures.more.1, c.row_into.ensures.more.2);
    }

pub returns-clause-same_shows : goal.returns-clause-same_shows
returns-clause-same_shows c = λ lines text h.
    subst (λ (m : Net). AreRows c.args.self.now.lattice.now m lines text) (c.row_into.ensures.after _ c.requires.stands.0 c.requires.stands.1).net h
