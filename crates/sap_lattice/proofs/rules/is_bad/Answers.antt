use Rattle.std.proofs.Common.{◌≡◌, ◌∙◌, ap, sym, ◌||◌, ℕ, not, ltb, List, [], length, inl, inr}
use Rattle.std.proofs.lemmas.Bool.{both_ways}
use Rattle.std.proofs.lemmas.List.{get_or_read}
use Rattle.sap_text.specs.Names.{is_word, is_among, design_keywords}
use Rattle.sap_lattice.specs.Closure.{name_at}
use Rattle.sap_lattice.specs.Rules.BadName.{repeated}
use Rattle.sap_lattice.specs.declared.TheConstants.{MOST_NAME_BYTES}
use Rattle.sap_lattice.proofs.NameLemmas.{unfit_bad, bad_cases}
use Rattle.sap_lattice.proofs.rules.is_bad.Goals as goal
use Rattle.sap_lattice.proofs.rules.is_bad.Goals.{After-is_unfit}

-- what the test on the name says, of the name at the place
unfit_is : (c : After-is_unfit) → c.is_unfit.result
    ≡ (not (is_word (name_at c.args.names.now c.args.k))
    || (is_among (name_at c.args.names.now c.args.k) design_keywords || ltb MOST_NAME_BYTES (length (name_at c.args.names.now c.args.k))))
unfit_is c =
    let names : List (List ℕ) = c.args.names.now in
    let same = c.as_bytes.ensures ∙ get_or_read names c.args.k c.index-names-k.result c.requires c.index-names-k.is [] in
    c.is_unfit.ensures ∙ ap (λ (name : List ℕ). not (is_word name) || (is_among name design_keywords || ltb MOST_NAME_BYTES (length name))) same

pub returns-then-is_unfit : goal.returns-then-is_unfit
returns-then-is_unfit c =
    let names : List (List ℕ) = c.args.names.now in
    let unfit = unfit_is (goal.at.returns-then-is_unfit c).After-is_unfit in
    (λ t. (c.requires, unfit_bad names c.args.k (sym unfit ∙ t)), λ _. c.if-is_unfit.true)

pub returns-else-is_unfit : goal.returns-else-is_unfit
returns-else-is_unfit c =
    let names : List (List ℕ) = c.args.names.now in
    let unfit = unfit_is (goal.at.returns-else-is_unfit c).After-is_unfit in (
      λ t. let (j, low, e) = c.stands_earlier.ensures.0 t in (c.requires, repeated j low e),
      λ bad.
          elim (bad_cases names c.args.k bad.1) [
            | inl e ↦ absurd (both_ways c.is_unfit.result c.if-is_unfit.false (unfit ∙ e))
            | inr e ↦ c.stands_earlier.ensures.1 e
          ],
    )
