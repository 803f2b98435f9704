-- A state agrees with itself at every level.
use Rattle.std.proofs.Common.{ℕ, List, [], ◌∷◌, refl, inl, inr}
use Rattle.std.proofs.lemmas.Bool.{cases_Bool}
use Rattle.sap_lattice.specs.Order.{Order}
use Rattle.sap_meaning.specs.Prelude.{Program, Store, own, start, next, start_whole, next_whole, level, Alike, ActiveState, PathsRelated, active_path, StatesAgree}

pub same_alike : (o : Order) (l : ℕ) (Same : Type 0) → Same → (t : ℕ) → Alike o l Same t t
same_alike o l Same same t = elim (cases_Bool (o.le t l)) [ inl low ↦ inl (same, refl, low) | inr high ↦ inr (high, high) ]

path_alike : (o : Order) (l : ℕ) (xs : List ActiveState) → PathsRelated (Alike o l) xs xs
path_alike o l [] = tt
path_alike o l (x ∷ xs) = same_alike o l _ (refl, path_alike o l xs) x.tag

pub agrees_itself : (p : Program) (l : ℕ) (s : Store) → StatesAgree p l s s
agrees_itself p l s = record {
  registers = λ x is. same_alike p.world.order l _ refl (level p.world (own x) s);
  enforced_memories = λ m i is e. (same_alike p.world.order l _ refl (level p.world (start m i) s), same_alike p.world.order l _ refl (level p.world (next m i) s));
  dynamic_memories = λ m is d. (
    same_alike p.world.order l _ (λ i. refl) (level p.world (start_whole m) s),
    same_alike p.world.order l _ (λ i. refl) (level p.world (next_whole m) s),
  );
  enforced_levels = λ z h e low. refl;
  paths = path_alike p.world.order l (active_path p s);
}
