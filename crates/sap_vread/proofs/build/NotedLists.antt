-- What is noted of lists, element by element.
use Rattle.std.proofs.Common.{◌≡◌, ℕ, ◌+◌, List, [], ◌∷◌, None, refl}
use Rattle.sap_vtext.specs.Items.{Port, Item}
use Rattle.sap_vtext.specs.Modules.{first_of, when}
use Rattle.sap_vread.specs.Build.Noted.{noted, all_noted, ports_noted}
use Rattle.sap_vread.specs.declared.build.noting.Noting.{Noting}

pub all_noted-none : (noting : Noting) (n : List ℕ) (place : ℕ) → all_noted noting n place [] ≡ None
unfolding all_noted
all_noted-none noting n place = refl

pub all_noted-cons : (noting : Noting) (n : List ℕ) (place : ℕ) (x : Item) (xs : List Item)
    → all_noted noting n place (x ∷ xs) ≡ first_of (noted noting n place x) (all_noted noting n (place + 1) xs)
unfolding all_noted
all_noted-cons noting n place x xs = refl

pub ports_noted-none : (n : List ℕ) → ports_noted n [] ≡ None
unfolding ports_noted
ports_noted-none n = refl

pub ports_noted-cons : (n : List ℕ) (p : Port) (ps : List Port) → ports_noted n (p ∷ ps) ≡ first_of (when p.name.name n p.range.value) (ports_noted n ps)
unfolding ports_noted
ports_noted-cons n p ps = refl
