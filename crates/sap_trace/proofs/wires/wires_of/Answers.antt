use Rattle.std.proofs.Common.{◌≡◌, ◌+◌, ℕ, List, sym, subst, arith}
use Rattle.sap_net.specs.PortNames.{refused_name, refused_level_name}
use Rattle.sap_trace.specs.Seen.{ArePlaced}
use Rattle.sap_trace.proofs.SiteWires.{placed_none, placed_push, placed_all}
use Rattle.sap_trace.proofs.wires.wires_of.Goals as goal

pub refused_place-requires : goal.refused_place-requires
refused_place-requires c = c.requires.refused (c.loop-k.k + 1) (omega arith) (omega arith)

pub level_place-requires : goal.level_place-requires
level_place-requires c = c.requires.levels (c.loop-k.k + 1) (omega arith) (omega arith)

pub loop-k-init : goal.loop-k-init
loop-k-init c = record {
  refused =
      subst (λ (ks : List ℕ). ArePlaced c.args.runner.now.net refused_name 0 ks) (sym c.new-refused.ensures.items)
      (placed_none c.args.runner.now.net refused_name);
  levels =
      subst (λ (ks : List ℕ). ArePlaced c.args.runner.now.net refused_level_name 0 ks) (sym c.new-levels.ensures.items)
      (placed_none c.args.runner.now.net refused_level_name);
}

pub loop-k-preserved : goal.loop-k-preserved
loop-k-preserved c = record {
  refused =
      placed_push c.args.runner.now.net refused_name c.loop-k.k c.loop-k.refused.items _ _ c.loop-k.invariant.refused c.in_ok-refused_place.ensures.named
      c.in_ok-refused_place.ensures.within c.in_ok-push.ensures.items;
  levels =
      placed_push c.args.runner.now.net refused_level_name c.loop-k.k c.loop-k.levels.items _ _ c.loop-k.invariant.levels c.in_ok-level_place.ensures.named
      c.in_ok-level_place.ensures.within c.in_ok-push-2.ensures.items;
}

pub returns : goal.returns
returns c =
    let e : c.loop-k.k ≡ c.args.count = omega arith in
    record {
      refused = placed_all c.args.runner.now.net refused_name c.loop-k.k c.args.count _ e c.loop-k.invariant.refused;
      levels = placed_all c.args.runner.now.net refused_level_name c.loop-k.k c.args.count _ e c.loop-k.invariant.levels;
    }
