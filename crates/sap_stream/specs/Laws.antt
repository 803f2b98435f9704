-- What no answer on two streams can be.
use Rattle.std.specs.Prelude.{◌≡◌, ℕ, List}
use Rattle.sap_lattice.specs.Order.{Order}
use Rattle.sap_meaning.specs.Agree.{StreamsAgree}
use Rattle.sap_meaning.specs.Cycle.{Tagged}
use Rattle.sap_stream.specs.declared.apart.Apart.{Apart}
use Rattle.sap_stream.specs.Apart.{IsApart}

-- At most one answer fits, and none where the streams agree.
pub record AtMostOne : Type 0 where
  pub same : (o : Order) (l : ℕ) (first second : List (List Tagged)) (a b : Apart)
      → IsApart o l first second a → IsApart o l first second b → a ≡ b
  pub none : (o : Order) (l : ℕ) (first second : List (List Tagged)) (a : Apart)
      → StreamsAgree o l first second → IsApart o l first second a → ⊥
