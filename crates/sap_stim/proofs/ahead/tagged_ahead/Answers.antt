use Rattle.sap_lemmas.proofs.Common.{◌≡◌, ◌+◌, ◌-◌, ◌^◌, ℕ, List, Some, length, take, drop, sym, ap, ◌∙◌, arith, nat_lt, before_first, position_or_len, length-drop, take_all}
use Rattle.sap_lattice.specs.Levels.{level_named}
use Rattle.sap_stim.proofs.Marks.{field_within, line}
use Rattle.sap_stim.proofs.Pieces.{is_mark, mark_within}
use Rattle.sap_stim.proofs.SmallValues.{tagged_ahead}
use Rattle.sap_stim.proofs.ahead.tagged_ahead.Goals as goal

pub returns : goal.returns
returns c =
    let s = c.args.text.now in
    let k = c.leading_number-number.result.1 in
    let rest : take (length s - (k + 1)) (drop (k + 1) s) ≡ drop (k + 1) s = take_all (length s - (k + 1)) (drop (k + 1) s) (let l = length-drop (k + 1) s in omega arith) in
    let first =
    tagged_ahead c.args.lattice.now c.args.width s k c.new.result.number c.new.result.level c.in_ok-level.size
    (omega (arith, c.if-count-lt1.false)) (omega (arith, c.if-count-gt-MOST_DIGITS.false)) (omega (arith, c.if-count-text.false))
    c.leading_number-number.ensures.digits c.if-text-count-ne64.false
    (c.new.ensures.number ∙ c.leading_number-number.ensures.number)
    (ap (λ (n : ℕ). nat_lt n (2 ^ c.args.width)) c.new.ensures.number ∙ sym c.is_within.ensures ∙ c.if-not-is_within.false)
    (c.in_ok-level.ensures.end ∙ ap (λ (l : List ℕ). position_or_len (is_mark 32) (line l)) rest)
    (omega (arith, c.if-size-lt1.false))
    (ap Some c.new.ensures.level ∙ c.in_ok-level.ensures.level ∙ ap (λ (l : List ℕ). level_named c.args.lattice.now.names (before_first (is_mark 32) (line l))) rest) in
    record { end = first.0; within = omega (arith, first.0, field_within s, mark_within 10 s); given = first.1 }
