use Rattle.std.proofs.Common.{◌∙◌, ◌<◌, length, refl, arith}
use Rattle.sap_lattice.specs.Levels.{order_of}
use Rattle.sap_stim.proofs.RowRoom.{name_within}
use Rattle.sap_stim.proofs.RowLeast.{reached_more}
use Rattle.sap_stim.proofs.room.longest_level.Goals as goal

pub loop-place-preserved : goal.loop-place-preserved
loop-place-preserved c =
    let small : c.loop-place.place < length c.args.lattice.now.names = omega (arith, c.loop-place-test.true, c.from-place-end.ensures, c.count.ensures.names) in
    record {
      number = omega (arith, c.max-longest.ensures, c.loop-place.invariant.number);
      names = name_within c.args.lattice.now.names c.loop-place.longest c.max-longest.result c.loop-place.place c.level_at-level.result
          (length c.as_bytes.result.now) (order_of c.args.lattice.now).top c.as_bytes.result.now
          c.loop-place.invariant.names small c.level_at-level.ensures (c.as_bytes.ensures
          ∙ c.name.ensures) refl (omega (arith, c.max-longest.ensures)) (omega (arith, c.max-longest.ensures));
      some = reached_more c.args.lattice.now.names c.loop-place.longest c.max-longest.result c.loop-place.place c.level_at-level.result
          (length c.as_bytes.result.now) (order_of c.args.lattice.now).top c.as_bytes.result.now
          c.loop-place.invariant.some small c.level_at-level.ensures (c.as_bytes.ensures ∙ c.name.ensures) refl c.max-longest.ensures;
    }
