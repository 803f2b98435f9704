use Rattle.std.proofs.Common.{◌∙◌, ℕ, List, Some, None, inl, inr}
use Rattle.sap_lattice.proofs.NameLemmas.{place_cases}
use Rattle.sap_lattice.proofs.PairLemmas.{unknown_from}
use Rattle.sap_lattice.proofs.pairs.places_of.Goals as goal

pub returns-in_err-lower : goal.returns-in_err-lower
returns-in_err-lower c =
    let names : List (List ℕ) = c.args.names.now in
    let name : List ℕ = c.as_bytes.result.now in
    let none = unknown_from names name (place_cases names name None (c.in_err-lower.ensures)) in
    rw c.from_residual.ensures (inl (rw c.as_bytes.ensures at none))

pub returns-in_err-upper : goal.returns-in_err-upper
returns-in_err-upper c =
    let names : List (List ℕ) = c.args.names.now in
    let name : List ℕ = c.as_bytes-2.result.now in
    let none = unknown_from names name (place_cases names name None (c.in_err-upper.ensures)) in
    rw c.from_residual-in_err-upper.ensures (inr (rw c.as_bytes-2.ensures at none))

pub returns : goal.returns
returns c =
    let names : List (List ℕ) = c.args.names.now in
    let lower = place_cases names c.as_bytes.result.now (Some c.in_ok-lower.lower) (c.in_ok-lower.ensures) in
    let upper = place_cases names c.as_bytes-2.result.now (Some c.in_ok-upper.upper) (c.in_ok-upper.ensures) in
    record {
      lower_level = lower.0;
      upper_level = upper.0;
      lower_name = lower.1 ∙ c.as_bytes.ensures;
      upper_name = upper.1 ∙ c.as_bytes-2.ensures;
    }
