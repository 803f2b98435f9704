-- On what stands in Fits: what several crates cite.
use Rattle.std.proofs.Common.{List, [], ap, length, refl, suc, ◌∷◌, ◌≡◌}
use Rattle.sap_lattice.specs.Levels.{Levels}
use Rattle.sap_meaning.specs.Cycle.{Tagged as Given}
use Rattle.sap_stim.specs.Fits.{LineFits}
use Rattle.sap_stim.specs.declared.field.Field.{Field}

pub line_count : (ls : Levels) (fs : List Field) (xs : List Given) → LineFits ls fs xs → length xs ≡ length fs
line_count ls [] [] fits = refl
line_count ls [] (x ∷ xs) fits = absurd fits
line_count ls (f ∷ fs) [] fits = absurd fits
line_count ls (f ∷ fs) (x ∷ xs) fits = ap suc (line_count ls fs xs fits.1)
