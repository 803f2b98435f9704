use Rattle.std.proofs.Common.{ℕ, List, ◌∷◌, length, sym, ap, subst, arith}
use Rattle.sap_meaning.specs.Cycle.{Tagged as Given}
use Rattle.sap_wave_run.specs.Ahead.{cycles_ahead}
use Rattle.sap_wave_run.specs.ToCome.{CanGoOn, IsToCome}
use Rattle.sap_wave_run.proofs.Going.{none_more}
use Rattle.sap_wave_run.proofs.dump.DumpPieces.advance.Goals as goal

pub step-requires : goal.step-requires
step-requires c =
    let d = c.args.self.now in
    let (text, comes) = c.requires.stands in (
      cycles_ahead c.next.new.self,
      subst (λ (places : List ℕ). CanGoOn d.lattice.now d.simulation d.dumper places (c.in-Some.line.now ∷ cycles_ahead c.next.new.self)) (sym c.deref.ensures.value)
          (subst (λ (ahead : List (List Given)). CanGoOn d.lattice.now d.simulation d.dumper d.places.items ahead) c.in-Some.ensures comes.can),
    )

pub returns-in-Some-clause-more : goal.returns-in-Some-clause-more
returns-in-Some-clause-more c = λ is text comes.
    let d = c.args.self.now in
    let ahead = cycles_ahead c.next.new.self in
    let before =
    subst (λ (places : List ℕ). IsToCome d.lattice.now d.simulation d.dumper places (c.in-Some.line.now ∷ ahead) text) (sym c.deref.ensures.value)
    (subst (λ (lines : List (List Given)). IsToCome d.lattice.now d.simulation d.dumper d.places.items lines text) c.in-Some.ensures comes) in
    let (rest, is, after) = c.step.ensures ahead text before in (
      rest,
      is,
      subst (λ (places : List ℕ). IsToCome d.lattice.now c.step.new.simulation c.step.new.dumper places ahead rest) c.deref.ensures.value after,
    )

pub returns-in-Some-clause-fewer : goal.returns-in-Some-clause-fewer
returns-in-Some-clause-fewer c = λ is. omega (arith, ap length c.in-Some.ensures)

pub returns-in-None-clause-end : goal.returns-in-None-clause-end
returns-in-None-clause-end c = λ is text comes.
    let d = c.args.self.now in
    none_more d.lattice.now d.simulation d.dumper d.places.items text
    (subst (λ (ahead : List (List Given)). IsToCome d.lattice.now d.simulation d.dumper d.places.items ahead text) c.in-None.ensures comes)
