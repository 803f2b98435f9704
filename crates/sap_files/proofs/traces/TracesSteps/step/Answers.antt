use Rattle.std.proofs.Common.{◌≡◌, ◌+◌, ℕ, List, [], ◌∷◌, ◌++◌, length, sym, ap, ◌∙◌, subst}
use Rattle.sap_check.specs.Checked.{levels_in, tree_in}
use Rattle.sap_net.specs.Net.{Net}
use Rattle.sap_sim.proofs.Stepped.{told_alone}
use Rattle.sap_trace.specs.Given.{given}
use Rattle.sap_trace.specs.Seen.{cycle_lines}
use Rattle.sap_trace.specs.Stepping.{AreLines, HasLinesMore, IsAfter}
use Rattle.sap_files.proofs.traces.TracesSteps.step.Goals as goal

pub lines_into-requires-clause-planned : goal.lines_into-requires-clause-planned
lines_into-requires-clause-planned c = c.requires.stands.1.planned

pub lines_into-requires-clause-room : goal.lines_into-requires-clause-room
lines_into-requires-clause-room c = c.requires.room

pub returns-clause-behind : goal.returns-clause-behind
returns-clause-behind c = λ lines h.
    let same = (c.lines_into.ensures.after _ c.requires.stands.0 c.requires.stands.1).net in
    subst (λ (m : Net). IsAfter (levels_in c.args.self.now.checked.now) (tree_in c.args.self.now.checked.now) m (lines ++ c.args.line.now ∷ []) c.lines_into.new.self) (sym same)
    (c.lines_into.ensures.after c.args.self.now.tracing.runner.net lines h)

pub returns-clause-shows : goal.returns-clause-shows
returns-clause-shows c =
    let ls = levels_in c.args.self.now.checked.now in
    let d = tree_in c.args.self.now.checked.now in
    let n = c.args.self.now.tracing.runner.net in
    let same = (c.lines_into.ensures.after _ c.requires.stands.0 c.requires.stands.1).net in
    let told : List ℕ = c.lines_into.ensures.more.0 in
    record {
      text = told;
      adds = λ count is lines shown h many so_far.
          let all = lines ++ c.args.line.now ∷ [] in
          let number : c.args.cycle ≡ length lines + 1 = is ∙ ap (λ (k : ℕ). k + 1) many in
          let alone : HasLinesMore ls d n all c.args.cycle [] told
          = told_alone n (given ls) (cycle_lines ls d) all c.args.cycle c.args.out.now.bytes told c.lines_into.new.out.bytes
          c.lines_into.ensures.more.1 (c.lines_into.ensures.lines n lines h) in
          subst (λ (m : Net). AreLines ls d m all (shown ++ told)) (sym same)
          (c.lines_add_up.ensures.goes_on lines c.args.line.now shown told so_far (subst (λ (k : ℕ). HasLinesMore ls d n all k [] told) number alone));
      holds = (c.lines_into.ensures.more.1, c.lines_into.ensures.more.2);
    }

pub returns-clause-same_shows : goal.returns-clause-same_shows
returns-clause-same_shows c = λ lines text h.
    subst (λ (m : Net). AreLines (levels_in c.args.self.now.checked.now) (tree_in c.args.self.now.checked.now) m lines text)
    (c.lines_into.ensures.after _ c.requires.stands.0 c.requires.stands.1).net h

pub lines_add_up-requires : goal.lines_add_up-requires
lines_add_up-requires c = c.requires.stands.1.planned
