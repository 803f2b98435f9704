use Rattle.sap_lemmas.proofs.Common.{◌≡◌, ◌≢◌, subst, List, ℕ, err_from_is_err_and, MatchOption, Option, Global}
use Rattle.std.specs.Prelude.{Vec}
use Rattle.toml.specs.View.{table_view}
use Rattle.sap_lattice.specs.Rules.{FirstBroken}
use Rattle.sap_lattice.specs.declared.fault.LatFault.{LatFault}
use Rattle.sap_lattice.specs.declared.pair.Pair.{Pair}
use Rattle.sap_lattice.specs.declared.fault.LatFault.TheVariants as rule
use Rattle.sap_latfile.specs.Document.{Lists}
use Rattle.sap_latfile.specs.LatticeFile.{IsFileOf}
use Rattle.sap_latfile.proofs.Answered.{wrapped_first}
use Rattle.sap_latfile.proofs.read.judge.Goals as goal

pub returns-in_err-build-clause-refused : goal.returns-in_err-build-clause-refused
returns-in_err-build-clause-refused c =
    let p = err_from_is_err_and c.from_residual-in_err-build.result c.from_residual-in_err-build.ensures.1 in
    let broken = c.in_err-build.ensures.refused in
    let names : List (List ℕ) = c.in-Some.names.items in
    let names_are : c.as_slice.result.now ≡ names = c.as_slice.ensures.value in
    let pairs : List Pair = c.in-Some.pairs.items in
    let pairs_are : c.as_slice-2.result.now ≡ pairs = c.as_slice-2.ensures.value in
    let P : Option (Vec (List ℕ) Global × Vec Pair Global) → Type 0 = λ o.
    MatchOption o ((ns : List (List ℕ)) (ps : List Pair) → ¬ Lists (table_view c.in_ok-table.table) ns ps) (λ p. Lists (table_view c.in_ok-table.table) p.0.items p.1.items) in
    let lists : Lists (table_view c.in_ok-table.table) names pairs = subst P c.in-Some.is c.in_ok-names.ensures in
    let file : IsFileOf c.args.bytes.now names pairs = record { document = table_view c.in_ok-table.table; is_document = c.in_ok-table.ensures.document; lists = lists } in
    let fault : LatFault = c.in_err-build.field-0.0 in
    let Q : List (List ℕ) → Type 0 = λ ns. fault ≢ rule.Memory → FirstBroken ns c.as_slice-2.result.now fault in
    let R : List Pair → Type 0 = λ ps. fault ≢ rule.Memory → FirstBroken names ps fault in
    rw (p.1, p.2) (wrapped_first c.args.bytes.now names pairs fault file (subst R pairs_are (subst Q names_are broken)))
