-- What flattening promises of the program that it makes.
use Rattle.std.proofs.Common.{◌≡◌, ◌<◌, ◌≤◌, ◌^◌, sym, ◌∙◌, subst, refl, arith}
use Rattle.sap_ir.specs.Prelude.{Source, WritesOnce, Nested, PlainWritesOnce, IsPlain}
use Rattle.sap_size.specs.Flat.{source_weight}
use Rattle.sap_size.specs.Nested.{nested_weight}
use Rattle.sap_flat.specs.Gates.{gate_wires}
use Rattle.sap_flat.specs.Flat.{flattened}
use Rattle.sap_flat.specs.Once.{BodiesOnce}
use Rattle.sap_flat.specs.Same.{Declares, RunsAlike}
use Rattle.sap_flat.proofs.Listed.{gates_are}
use Rattle.sap_flat.proofs.Declared.{gate_count}
use Rattle.sap_flat.proofs.Whole.{runs_alike, writes_once}
use Rattle.sap_flat.proofs.Once.{bodies_once}
use Rattle.sap_flat.proofs.Small.{flattened_small}

declares : (p : Nested) → gate_count p < 2 ^ 64 → Declares p (flattened p)
declares p l =
    record {
      inputs = refl;
      registers = refl;
      memories = refl;
      ports = refl;
      wires = (gate_wires 0 (gate_count p), refl, gates_are 0 (gate_count p) (omega (arith, l)));
    }

pub declares_of : (p : Nested) (s t : Source) → s ≡ t → t ≡ flattened p → gate_count p < 2 ^ 64 → Declares p s
declares_of p s t a b l = subst (Declares p) (sym (a ∙ b)) (declares p l)

pub same_of : (p : Nested) (s t : Source) → s ≡ t → t ≡ flattened p → IsPlain p → RunsAlike p s
same_of p s t a b h = subst (RunsAlike p) (sym (a ∙ b)) (runs_alike p h)

pub once_of : (p : Nested) (s t : Source) → s ≡ t → t ≡ flattened p → IsPlain p → PlainWritesOnce p → WritesOnce s
once_of p s t a b h o = subst WritesOnce (sym (a ∙ b)) (writes_once p h o)

pub bodies_of : (p : Nested) (s t : Source) → s ≡ t → t ≡ flattened p → IsPlain p → BodiesOnce p s
bodies_of p s t a b h = subst (BodiesOnce p) (sym (a ∙ b)) (bodies_once p h)

pub small_of : (p : Nested) (s t : Source) → s ≡ t → t ≡ flattened p → source_weight s ≤ nested_weight p
small_of p s t a b = subst (λ (u : Source). source_weight u ≤ nested_weight p) (sym (a ∙ b)) (flattened_small p)
