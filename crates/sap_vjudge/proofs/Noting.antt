-- The first of what is listed, found one after another.
use Rattle.sap_lemmas.proofs.Common.{◌≡◌, List, [], ◌∷◌, ◌++◌, Option, refl, flat_map-append, append-nil}
use Rattle.sap_vtext.specs.Items.{Mention, Operand, Number, Constant}
use Rattle.sap_vtext.specs.Names.{Declaration, Known}
use Rattle.sap_vtext.specs.Faults.{Use}
use Rattle.sap_text.proofs.BestLemmas as best
use Rattle.sap_vjudge.specs.Best.{Fault, better, best_of, comes_first}
use Rattle.sap_vjudge.specs.Listed.{declarations_faults, twice_faults, uses_faults, use_faults, ranges_faults, range_faults, constants_faults, constant_faults, indexes_faults, index_faults, unsets_faults, unset_faults}

pub best_of-append : (o : Option Fault) (a b : List Fault) → best_of o (a ++ b) ≡ best_of (best_of o a) b
best_of-append o a b = best.best_of-append comes_first o a b

pub best_of-none : (o : Option Fault) → best_of o [] ≡ o
best_of-none o = best.best_of-none comes_first o

pub best_of-one : (o : Option Fault) (f : Fault) → best_of o (f ∷ []) ≡ better o f
best_of-one o f = best.best_of-one comes_first o f

pub ruleset noting = (best_of-append, best_of-none, best_of-one)

pub declarations_faults-none : (k : Known) → declarations_faults k [] ≡ []
unfolding declarations_faults
declarations_faults-none k = refl

pub declarations_faults-one : (k : Known) (d : Declaration) → declarations_faults k (d ∷ []) ≡ twice_faults k d
unfolding declarations_faults
declarations_faults-one k d = append-nil _

pub ruleset declared = (declarations_faults-none, declarations_faults-one)

pub uses_faults-none : (k : Known) → uses_faults k [] ≡ []
unfolding uses_faults
uses_faults-none k = refl

pub uses_faults-cons : (k : Known) (u : Use) (us : List Use) → uses_faults k (u ∷ us) ≡ use_faults k u ++ uses_faults k us
unfolding uses_faults
uses_faults-cons k u us = refl

pub uses_faults-append : (k : Known) (us ws : List Use) → uses_faults k (us ++ ws) ≡ uses_faults k us ++ uses_faults k ws
unfolding uses_faults
uses_faults-append k us ws = flat_map-append (use_faults k) us ws

pub ruleset used = (uses_faults-none, uses_faults-cons, uses_faults-append)

pub ranges_faults-none : ranges_faults [] ≡ []
unfolding ranges_faults
ranges_faults-none = refl

pub ranges_faults-one : (n : Number) → ranges_faults (n ∷ []) ≡ range_faults n
unfolding ranges_faults
ranges_faults-one n = append-nil _

pub ruleset ranges = (ranges_faults-none, ranges_faults-one)

pub constants_faults-none : constants_faults [] ≡ []
unfolding constants_faults
constants_faults-none = refl

pub constants_faults-one : (c : Constant) → constants_faults (c ∷ []) ≡ constant_faults c
unfolding constants_faults
constants_faults-one c = append-nil _

pub constants_faults-append : (cs ds : List Constant) → constants_faults (cs ++ ds) ≡ constants_faults cs ++ constants_faults ds
unfolding constants_faults
constants_faults-append cs ds = flat_map-append constant_faults cs ds

pub ruleset constants = (constants_faults-none, constants_faults-one, constants_faults-append)

pub indexes_faults-none : (k : Known) → indexes_faults k [] ≡ []
unfolding indexes_faults
indexes_faults-none k = refl

pub indexes_faults-one : (k : Known) (p : Mention × Operand) → indexes_faults k (p ∷ []) ≡ index_faults k p
unfolding indexes_faults
indexes_faults-one k p = append-nil _

pub ruleset indexes = (indexes_faults-none, indexes_faults-one)

pub unsets_faults-none : (k : Known) → unsets_faults k [] ≡ []
unfolding unsets_faults
unsets_faults-none k = refl

pub unsets_faults-one : (k : Known) (d : Declaration) → unsets_faults k (d ∷ []) ≡ unset_faults k d
unfolding unsets_faults
unsets_faults-one k d = append-nil _

pub unsets_faults-append : (k : Known) (ds es : List Declaration) → unsets_faults k (ds ++ es) ≡ unsets_faults k ds ++ unsets_faults k es
unfolding unsets_faults
unsets_faults-append k ds es = flat_map-append (unset_faults k) ds es

pub ruleset unset = (unsets_faults-none, unsets_faults-one)
