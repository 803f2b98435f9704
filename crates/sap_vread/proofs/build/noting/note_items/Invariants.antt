use Rattle.std.proofs.Common.{◌≡◌, ℕ, List, drop}
use Rattle.sap_vtext.specs.Modules.{first_of}
use Rattle.sap_vread.specs.Build.Firsts.{number_of}
use Rattle.sap_vread.specs.Build.Noted.{all_noted}
use Rattle.sap_vparse.specs.Views.{items_of}
use Rattle.sap_vread.proofs.build.noting.note_items.Given as goal

abbrev pub invariant-loop-place : goal.invariant-loop-place
invariant-loop-place l = (n : List ℕ) → first_of (number_of l.firsts n) (all_noted l.noting n l.place (items_of (drop l.place l.items)))
    ≡ first_of (number_of l.initial.firsts n) (all_noted l.noting n 0 (items_of l.items))
