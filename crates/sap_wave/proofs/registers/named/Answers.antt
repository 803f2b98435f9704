use Rattle.std.proofs.Common.{◌<◌, length, sym, ◌∙◌, arith}
use Rattle.sap_wave.proofs.Shown.{is_at, not_absent}
use Rattle.sap_wave.proofs.registers.named.Goals as goal

pub offset_bounds-registers-k : goal.offset_bounds-registers-k
offset_bounds-registers-k c =
    let l : c.in-Some.k < length c.args.registers.now =
    (is_at c.args.registers.now c.args.name.now c.in-Some.k (sym (c.requires.indexed c.args.name.now) ∙ sym c.at_name.ensures ∙ c.in-Some.is)).within in
    omega arith

pub bounds-registers-k : goal.bounds-registers-k
bounds-registers-k c = (is_at c.args.registers.now c.args.name.now c.in-Some.k (sym (c.requires.indexed c.args.name.now) ∙ sym c.at_name.ensures ∙ c.in-Some.is)).within

pub unreachable-requires : goal.unreachable-requires
unreachable-requires c = not_absent c.args.places.now c.args.registers.now c.args.name.now c.requires.indexed c.requires.there (sym c.at_name.ensures ∙ c.in-None.is)

pub returns-clause-named : goal.returns-clause-named
returns-clause-named c =
    (is_at c.args.registers.now c.args.name.now c.in-Some.k (sym (c.requires.indexed c.args.name.now) ∙ sym c.at_name.ensures
    ∙ c.in-Some.is)).named c.index-registers-k.result c.index-registers-k.is

pub returns-clause-there : goal.returns-clause-there
returns-clause-there c = (
  c.in-Some.k,
  (is_at c.args.registers.now c.args.name.now c.in-Some.k (sym (c.requires.indexed c.args.name.now) ∙ sym c.at_name.ensures ∙ c.in-Some.is)).within,
  c.index-registers-k.is,
)
