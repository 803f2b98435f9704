use Rattle.std.proofs.Common.{◌≡◌, true, false, sym, ◌∙◌, inl, inr, slice_index_or}
use borrow.Author.Tests.{eq-eqb, eqb-true}
use Rattle.sap_stim.proofs.Marks.{line_ends, line_more}
use Rattle.sap_stim.proofs.ahead.ends_line.Goals as goal

pub returns-then-size-text-clause-whole : goal.returns-then-size-text-clause-whole
returns-then-size-text-clause-whole c = λ t. line_ends c.args.text.now c.args.size c.requires (inl c.if-size-text.true)

pub returns-clause-whole : goal.returns-clause-whole
returns-clause-whole c = λ t. line_ends c.args.text.now c.args.size c.requires (inr (eqb-true (slice_index_or c.args.text.now c.args.size 0) 10 t))

pub returns-clause-more : goal.returns-clause-more
returns-clause-more c = λ t.
    line_more c.args.text.now c.args.size c.requires c.if-size-text.false
    (λ lf. let f : true ≡ false = sym (eq-eqb (slice_index_or c.args.text.now c.args.size 0) 10 lf) ∙ t in let g : ⊥ = cc in g)
