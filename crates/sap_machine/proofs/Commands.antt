-- What hangs on commands of the machine: nothing, for all but the inputs is enforced.
use Rattle.std.proofs.Common.{◌≡◌, ℕ, Bool, false, ◌&&◌, refl}
use Rattle.sap_meaning.specs.Prelude.{within, is_dynamic, end_block, Store, After, stay, Home, does_block}
use Rattle.sap_meaning.proofs.Commands.{Quiet}
use Rattle.sap_machine.proofs.Literal.{machine_world}
use Rattle.sap_machine.proofs.Entities.{entities, past}

-- of the entities only the inputs, and what stands past the last, are dynamic
pub enforced : (h : ℕ → Bool) → h 0 ≡ false → h 1 ≡ false → ((x : ℕ) → h (past x) ≡ false) → Quiet (λ x. is_dynamic machine_world x && h x)
enforced h h0 h1 last = entities (λ x. is_dynamic machine_world x && h x ≡ false) h0 h1 refl refl refl refl refl refl refl refl refl refl
    refl refl refl refl refl refl refl refl last

pub nothing_raised : Quiet (λ x. false)
nothing_raised x = refl

pub finished : (at : Home) (enter : ℕ → ℕ → Store → After) (pc : ℕ) (s : Store) → does_block (within machine_world at enter) end_block pc s ≡ stay s
unfolding does_block
finished at enter pc s = refl
