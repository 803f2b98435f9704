use Rattle.sap_lemmas.proofs.Common.{sym, ap, ◌∙◌, arith, and_parts}
use Rattle.sap_wave.specs.Prelude.{are_digits, is_id, in_block, open_of, now_of}
use Rattle.sap_wave.proofs.Reached.{changes_so, few_digits, idle_so, number_so}
use Rattle.sap_wave.proofs.Sounding.{one_each}
use Rattle.sap_wave.proofs.Stepping.{idle, misplaced, well_placed}
use Rattle.sap_wave.proofs.changes.changed.Goals as goal

pub placed-requires : goal.placed-requires
placed-requires c =
    let p = c.args.parts.now in
    record { id = (and_parts (are_digits 48 2 p.digits.now) (is_id p.id.now) c.requires.formed).1; number = c.requires.id }

pub returns-in_default-clause-wrong : goal.returns-in_default-clause-wrong
returns-in_default-clause-wrong c =
    let p = c.args.parts.now in
    misplaced c.args.variables.now (open_of c.args.reached.now) p.digits.now p.id.now c.in_default.ensures.none

pub stands-requires : goal.stands-requires
stands-requires c = omega (arith, one_each c.args.variables.now (now_of c.args.reached.now.numbers) c.requires.sound.1, c.in-Some.ensures.some.within)

pub set-requires : goal.set-requires
set-requires c = omega (arith, one_each c.args.variables.now (now_of c.args.reached.now.numbers) c.requires.sound.1, c.in-Some.ensures.some.within)

pub returns-then-stands-clause-wrong : goal.returns-then-stands-clause-wrong
returns-then-stands-clause-wrong c =
    let p = c.args.parts.now in
    let xs = c.args.variables.now in
    let o = open_of c.args.reached.now in
    let k = c.in-Some.place in
    let s = c.in-Some.ensures.some in
    let is = c.requires.number (few_digits xs k p.digits.now c.requires.sound.0.sized s.within s.sized) in
    idle xs o p.digits.now p.id.now (idle_so xs o p.digits.now p.id.now k p.number s.is s.within is (sym c.stands.ensures ∙ c.if-stands.true))
    (well_placed xs o p.digits.now p.id.now k s.is s.within s.later s.sized)

pub returns-clause-right : goal.returns-clause-right
returns-clause-right c =
    let p = c.args.parts.now in
    let xs = c.args.variables.now in
    let o = open_of c.args.reached.now in
    let k = c.in-Some.place in
    let s = c.in-Some.ensures.some in
    let is = c.requires.number (few_digits xs k p.digits.now c.requires.sound.0.sized s.within s.sized) in
    changes_so xs o p.digits.now p.id.now k p.number s.is s.within s.later s.sized is (sym c.stands.ensures ∙ c.if-stands.false)

pub returns-clause-after : goal.returns-clause-after
returns-clause-after c =
    let p = c.args.parts.now in
    let xs = c.args.variables.now in
    let o = open_of c.args.reached.now in
    let k = c.in-Some.place in
    let s = c.in-Some.ensures.some in
    let is = c.requires.number (few_digits xs k p.digits.now c.requires.sound.0.sized s.within s.sized) in
    ap (in_block xs) (c.set.ensures ∙ number_so o p.digits.now p.id.now k p.number s.is is)
