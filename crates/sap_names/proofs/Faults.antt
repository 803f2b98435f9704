-- The first fault, found one after another.
use Rattle.std.proofs.Common.{◌≡◌, List, [], ◌∷◌, ◌++◌, Option, refl, ap, sym, ◌∙◌}
use Rattle.sap_text.proofs.BestLemmas as best
use Rattle.sap_names.specs.Fault.{Fault}
use Rattle.sap_names.specs.Best.{better, best_of, comes_first}

pub best_of-append : (o : Option Fault) (a b : List Fault) → best_of o (a ++ b) ≡ best_of (best_of o a) b
best_of-append o a b = best.best_of-append comes_first o a b

pub best_of-none : (o : Option Fault) → best_of o [] ≡ o
best_of-none o = best.best_of-none comes_first o

pub best_of-one : (o : Option Fault) (f : Fault) → best_of o (f ∷ []) ≡ better o f
best_of-one o f = best.best_of-one comes_first o f

-- one part after another
pub both : (o m n : Option Fault) (a b all : List Fault) → m ≡ best_of o a → n ≡ best_of m b → all ≡ a ++ b → n ≡ best_of o all
both o m n a b all h k e = k ∙ ap (λ (x : Option Fault). best_of x b) h ∙ sym (best_of-append o a b) ∙ ap (λ (l : List Fault). best_of o l) (sym e)

pub three : (o m n k : Option Fault) (a b d all : List Fault) → m ≡ best_of o a → n ≡ best_of m b → k ≡ best_of n d → all ≡ a ++ b ++ d → k ≡ best_of o all
three o m n k a b d all h i j e = both o n k (a ++ b) d all (both o m n a b (a ++ b) h i refl) j e

pub ruleset noting = (best_of-append, best_of-none, best_of-one)
