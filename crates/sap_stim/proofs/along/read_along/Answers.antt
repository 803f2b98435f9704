use Rattle.std.proofs.Common.{◌≡◌, ◌-◌, ℕ, List, ◌∷◌, ◌++◌, [], take, drop, length, sym, ap, ◌∙◌, arith}
use Rattle.sap_stim.specs.Line.{fields_of, inputs_of}
use Rattle.sap_text.specs.Lines.{split_at}
use Rattle.sap_stim.proofs.Marks.{line, line_whole}
use Rattle.sap_stim.proofs.Pieces.{mark_within}
use Rattle.sap_stim.proofs.along.read_along.Goals as goal

pub returns-clause-last : goal.returns-clause-last
returns-clause-last c =
    let s = c.args.line.now in
    let start = c.in_ok-start.start in
    let whole : line s ≡ s = line_whole s c.in_ok-start.end c.in_ok-start.ensures.end c.if-end-line.false in
    let size : c.in_ok-start.end - start ≡ length s - start = omega (arith, c.in_ok-start.ensures.end, c.if-end-line.false, mark_within 10 s) in
    let last = c.in_ok-start.ensures.last in
    (last.0, sym (ap (split_at 32) whole) ∙ last.1 ∙ ap (λ (j : ℕ). last.0 ++ take j (drop start s) ∷ []) size)

pub returns-clause-count : goal.returns-clause-count
returns-clause-count c =
    let s = c.args.line.now in
    let whole : line s ≡ s = line_whole s c.in_ok-start.end c.in_ok-start.ensures.end c.if-end-line.false in
    sym (ap (λ (l : List ℕ). length (fields_of l)) whole) ∙ c.in_ok-start.ensures.count

pub returns-clause-given : goal.returns-clause-given
returns-clause-given c =
    let s = c.args.line.now in
    let whole : line s ≡ s = line_whole s c.in_ok-start.end c.in_ok-start.ensures.end c.if-end-line.false in
    c.in_ok-start.ensures.given ∙ ap (λ (l : List ℕ). inputs_of c.args.lattice.now c.args.fields.now (fields_of l)) whole
