use Rattle.std.proofs.Common.{◌≡◌, ◌≢◌, ◌<◌, ◌∙◌, ap, subst, ℕ, arith, None, Some, Option}
use Rattle.std.specs.Prelude.{MatchOption, position, ◌==◌}
use Rattle.sap_lattice.specs.Codes.{code_of}
use Rattle.sap_lattice.specs.Levels.{Levels, order_of}
use Rattle.sap_lattice.specs.Kept.{levels_of}
use Rattle.sap_lattice.proofs.KeptLemmas.{code_cases, few, order_of-count}
use Rattle.sap_lattice.proofs.lattice.Lattice.search_code.Goals as goal
use Rattle.sap_lattice.proofs.lattice.Lattice.search_code.Goals.{After-place_of_code}

-- what the search says of the lattice
Says : Levels → ℕ → Option ℕ → Type 0
Says l code r =
    MatchOption r ((x : ℕ) → x < (order_of l).count → code_of (order_of l) x ≢ code) (λ x. (x < (order_of l).count) × (code_of (order_of l) x ≡ code))

found : (c : After-place_of_code) → Says (levels_of c.self.inside.names.items c.self.inside.codes.items) c.args.code c.place_of_code.result
unfolding Says
found c =
    let a = c.self.inside in
    let l : Levels = levels_of a.names.items a.codes.items in
    let r : Option ℕ = c.place_of_code.result in
    code_cases l a.codes.items a.width a.bottom a.top c.self.invariant c.args.code r
    (c.place_of_code.ensures ∙ ap (position (λ (d : ℕ). d == c.args.code)) c.as_slice.ensures.value)

pub returns-in_err-place : goal.returns-in_err-place
unfolding Says
returns-in_err-place c =
    let code : ℕ = c.args.code in
    let none : c.place_of_code.result ≡ None = c.in_err-place.was in
    let says = subst (λ (v : Levels). Says v code c.place_of_code.result) c.self.view_is (found (goal.at.returns-in_err-place c).After-place_of_code) in
    rw c.from_residual.ensures (subst (Says c.args.self.now code) none says)

pub overflow_cast-place : goal.overflow_cast-place
unfolding Says
overflow_cast-place c =
    let a = c.self.inside in
    let l : Levels = levels_of a.names.items a.codes.items in
    let is_place : c.place_of_code.result ≡ Some c.in_ok-place.place = c.in_ok-place.was in
    let says = subst (Says l c.args.code) is_place (found (goal.at.overflow_cast-place c).After-place_of_code) in
    let low : c.in_ok-place.place < (order_of l).count = says.0 in
    let count = order_of-count l in
    let bound = few l a.codes.items a.width a.bottom a.top c.self.invariant in
    omega arith

pub returns : goal.returns
unfolding Says
returns c =
    let code : ℕ = c.args.code in
    let is_place : c.place_of_code.result ≡ Some c.in_ok-place.place = c.in_ok-place.was in
    let says = subst (λ (v : Levels). Says v code c.place_of_code.result) c.self.view_is (found (goal.at.returns c).After-place_of_code) in
    rw c.new.ensures (subst (Says c.args.self.now code) is_place says)
