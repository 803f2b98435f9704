use Rattle.std.proofs.Common.{◌≡◌, ◌<◌, ◌∙◌, ap, sym, subst, length, get_or, arith}
use Rattle.std.proofs.lemmas.List.{get_or_read}
use Rattle.sap_lattice.specs.Codes.{code_of}
use Rattle.sap_lattice.specs.Levels.{Levels, order_of, level_in}
use Rattle.sap_lattice.specs.Kept.{levels_of}
use Rattle.sap_lattice.proofs.KeptLemmas.{codes_length, code_of_any}
use Rattle.sap_lattice.proofs.lattice.Lattice.code.Goals as goal
use Rattle.sap_lattice.proofs.lattice.Lattice.code.Goals.{After-place}

-- the place is that of a code
within : (c : After-place) → c.place.result < length c.self.inside.codes.items
within c =
    let a = c.self.inside in
    let l : Levels = levels_of a.names.items a.codes.items in
    let same : l ≡ c.args.self.now = c.self.view_is in
    let count : length a.codes.items ≡ length a.names.items = codes_length l a.codes.items a.width a.bottom a.top c.self.invariant in
    let low : c.place.result < length a.names.items = subst (λ (v : Levels). c.place.result < length v.names) (sym same) c.place.ensures.within in
    omega arith

pub index-requires : goal.index-requires
index-requires c =
    let low = within (goal.at.index-requires c).After-place in
    let len = c.self.inside.codes.ok.0 in
    omega arith

pub returns : goal.returns
returns c =
    let a = c.self.inside in
    let l : Levels = levels_of a.names.items a.codes.items in
    let same : l ≡ c.args.self.now = c.self.view_is in
    let low = within (goal.at.returns c).After-place in
    get_or_read a.codes.items c.place.result c.index.result.now low c.index.ensures 0
    ∙ ap (λ i. get_or a.codes.items i 0) c.place.ensures.place
    ∙ ap (λ (v : Levels). get_or a.codes.items (level_in (length v.names) c.args.level) 0) (sym same)
    ∙ code_of_any l a.codes.items a.width a.bottom a.top c.self.invariant c.args.level
    ∙ ap (λ v. code_of (order_of v) c.args.level) same
