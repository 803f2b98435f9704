use Rattle.sap_lemmas.proofs.Common.{◌≡◌, Option, Some, None, ℕ, ap, unwrap_or}
use Rattle.sap_maps.specs.Scope.{find}
use Rattle.sap_lower.proofs.calc.width_of_cells.Goals as goal

pub returns-in-Some : goal.returns-in-Some
returns-in-Some c =
    let f : Some c.in-Some.shape.now ≡ find c.args.memories.now c.args.memory.now = rw c.in-Some.is at c.get.ensures in
    ap (λ (o : Option (ℕ × ℕ)). (unwrap_or o (0, 0)).0) f

pub returns-in-None : goal.returns-in-None
returns-in-None c =
    let f : None ≡ find c.args.memories.now c.args.memory.now = rw c.in-None.is at c.get.ensures in
    ap (λ (o : Option (ℕ × ℕ)). (unwrap_or o (0, 0)).0) f
