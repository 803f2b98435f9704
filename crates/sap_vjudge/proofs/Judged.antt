-- The best of the listed faults is the first that stands.
use Rattle.sap_lemmas.proofs.Common.{◌≡◌, ℕ, ◌≤◌, arith, inl, inr, Some, None}
use Rattle.sap_vtext.specs.Items.{File}
use Rattle.sap_vtext.specs.Faults.{IsFaultless}
use Rattle.sap_vjudge.specs.declared.code.Code.{Code}
use Rattle.sap_vjudge.specs.declared.code.Code.TheVariants as code
use Rattle.sap_vjudge.specs.Best.{Fault, best_of}
use Rattle.sap_vjudge.specs.FirstFault.{Stands, IsFirstFault, number}
use Rattle.sap_vjudge.specs.Listed.{file_faults}
use Rattle.sap_vjudge.proofs.Complete.{all_listed, at_place}
use Rattle.sap_vjudge.proofs.First.{Before, none_first, best_stands, best_before}
use Rattle.sap_vjudge.proofs.Found.{all_stand, one_of_each}

module _ (f : File) where
  stands_none : IsFaultless f → (c : Code) (place : ℕ) → Stands f c place → ⊥
  stands_none h code.V3 place k = h.v3 place k
  stands_none h code.V4 place k = h.v4 place k
  stands_none h code.V5 place k = h.v5 place k
  stands_none h code.V6 place k = h.v6 place k
  stands_none h code.V7 place k = h.v7 place k

  stands_best : (a : Fault) → Some a ≡ best_of None (file_faults f) → Stands f a.code a.place
  stands_best a h = one_of_each (λ (b : Fault). Stands f b.code b.place) a (file_faults f) (all_stand f) (best_stands (file_faults f) a h)

  before_each : (a : Fault) → Some a ≡ best_of None (file_faults f) → (c : Code) (place : ℕ) → Stands f c place → Before a (at_place c place)
  before_each a h c place k = best_before (file_faults f) a (at_place c place) h (all_listed f c place k)

  pub first_is : (a : Fault) → Some a ≡ best_of None (file_faults f) → IsFirstFault f a.code a.place
  first_is a h =
      record {
        stands = stands_best a h;
        earliest = λ other place k. earlier other place (before_each a h other place k);
        lowest = λ other k. lower other (before_each a h other a.place k);
      }
    where
      earlier : (other : Code) (place : ℕ) → Before a (at_place other place) → a.place ≤ place
      earlier other place (inl less) = omega arith
      earlier other place (inr same) = let e = same.0 in omega arith

      lower : (other : Code) → Before a (at_place other a.place) → number a.code ≤ number other
      lower other (inl less) = absurd (omega arith)
      lower other (inr same) = same.1

  pub none_stands : None ≡ best_of None (file_faults f) → IsFaultless f
  none_stands h =
      record {
        v3 = λ place k. nothing code.V3 place k;
        v4 = λ place k. nothing code.V4 place k;
        v5 = λ place k. nothing code.V5 place k;
        v6 = λ place k. nothing code.V6 place k;
        v7 = λ place k. nothing code.V7 place k;
      }
    where
      nothing : (c : Code) (place : ℕ) → Stands f c place → ⊥
      nothing c place k = none_first (file_faults f) h (at_place c place) (all_listed f c place k)

  pub faultless_none : (a : Fault) → Some a ≡ best_of None (file_faults f) → IsFaultless f → ⊥
  faultless_none a h faultless = stands_none faultless a.code a.place (stands_best a h)
