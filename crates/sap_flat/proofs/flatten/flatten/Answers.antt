use Rattle.std.proofs.Common.{sym, subst, arith}
use Rattle.sap_ir.specs.Prelude.{source_of, IsGuarded, nested_of}
use Rattle.sap_ir.specs.Parts.{parts_source}
use Rattle.sap_flat.proofs.Declared.{flat_is_guarded}
use Rattle.sap_flat.proofs.Result.{declares_of, same_of, once_of, bodies_of, small_of}
use Rattle.sap_flat.proofs.flatten.flatten.Goals as goal

pub new-requires : goal.new-requires
new-requires c =
    subst IsGuarded (sym c.in_ok-parts.ensures.source) (flat_is_guarded (nested_of c.args.program.now) c.rules.ensures (omega (arith, c.in_ok-parts.ensures.count)))

pub returns-clause-declares : goal.returns-clause-declares
returns-clause-declares c =
    declares_of (nested_of c.args.program.now) (source_of c.new.result) (parts_source c.in_ok-parts.parts) c.new.ensures c.in_ok-parts.ensures.source c.in_ok-parts.ensures.count

pub returns-clause-same : goal.returns-clause-same
returns-clause-same c =
    same_of (nested_of c.args.program.now) (source_of c.new.result) (parts_source c.in_ok-parts.parts) c.new.ensures c.in_ok-parts.ensures.source c.rules.ensures

pub returns-clause-once : goal.returns-clause-once
returns-clause-once c =
    once_of (nested_of c.args.program.now) (source_of c.new.result) (parts_source c.in_ok-parts.parts) c.new.ensures c.in_ok-parts.ensures.source c.rules.ensures

pub returns-clause-bodies : goal.returns-clause-bodies
returns-clause-bodies c =
    bodies_of (nested_of c.args.program.now) (source_of c.new.result) (parts_source c.in_ok-parts.parts) c.new.ensures c.in_ok-parts.ensures.source c.rules.ensures

pub returns-clause-small : goal.returns-clause-small
returns-clause-small c =
    small_of (nested_of c.args.program.now) (source_of c.new.result) (parts_source c.in_ok-parts.parts) c.new.ensures c.in_ok-parts.ensures.source
