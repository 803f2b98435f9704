-- What is seen of the variables of a netlist.
use Rattle.sap_lemmas.proofs.Common.{◌≡◌, ℕ, ◌+◌, ◌<◌, List, [], ◌∷◌, ◌++◌, true, Some, None, length, map, take, set, get_or, sym, ap, ap₂, ◌∙◌, subst, AllByRecursion, map-append, take_more, take_more_set}
use Rattle.sap_maps.specs.Prelude.{Name, Scope, find}
use Rattle.sap_net.specs.Prelude.{Net, is_among, IsNetlist, readable, register_names}
use Rattle.sap_net.specs.declared.parts.Register.{Register}
use Rattle.sap_net.proofs.NamesLemmas.{among_each}
use Rattle.sap_cycle.proofs.Distinct.{registers_readable}
use Rattle.sap_cycle.proofs.Learned.{all_get_or}
use Rattle.sap_wave.specs.declared.variable.Variable.{Variable}
use Rattle.sap_wave.specs.Runs.{variables_of}
use Rattle.sap_wave.proofs.Running.{all_names, each_shown}

some_not_none : (sc : Scope) (x : Name) (w : ℕ) → find sc x ≡ Some w → find sc x ≡ None → ⊥
some_not_none sc x w h k = let e : Some w ≡ None = sym h ∙ k in cc

-- a register can be read
pub can_be_found : (n : Net) → IsNetlist n → (x : Name) → is_among x (register_names n) ≡ true → find (readable n) x ≡ None → ⊥
can_be_found n rules x h =
    among_each (λ (y : Name). find (readable n) y ≡ None → ⊥) (register_names n)
    (all_names (λ (y : Name). find (readable n) y ≡ None → ⊥) (λ (r : Register). find (readable n) r.name ≡ Some r.width) n.registers
    (λ r e. some_not_none (readable n) r.name r.width e) (registers_readable n rules))
    x h

-- each variable is one
pub variable_is_register : (n : Net) → IsNetlist n → (xs : List Variable) (k : ℕ) (d : Variable) → xs ≡ variables_of n → k < length xs
    → is_among (get_or xs k d).name (register_names n) ≡ true
variable_is_register n rules xs k d e l =
    all_get_or (λ (y : Variable). is_among y.name (register_names n) ≡ true) xs k d
    (subst (λ (ys : List Variable). AllByRecursion (λ (y : Variable). is_among y.name (register_names n) ≡ true) ys) (sym e)
    (each_shown n (λ y. is_among y.name (register_names n) ≡ true) (λ y h. h) n.ports rules.ports_show))
    l

-- one element more is written over a list
pub written_more : {X Y : Type 0} (f : X → Y) (xs : List X) (ys : List Y) (k : ℕ) (d : X) (y : Y) → k < length xs → k < length ys
    → y ≡ f (get_or xs k d) → take k ys ≡ map f (take k xs)
    → take (k + 1) (set ys k y) ≡ map f (take (k + 1) xs)
written_more {X} {Y} f xs ys k d y h i e before =
    take_more_set ys k y i ∙ ap₂ (λ (zs : List Y) (z : Y). zs ++ z ∷ []) before e ∙ sym (map-append f (take k xs) (get_or xs k d ∷ [])) ∙ ap (map f) (sym (take_more xs k d h))
