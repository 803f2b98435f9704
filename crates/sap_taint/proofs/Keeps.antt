-- What a relation between contents with tags has to keep, so that whole runs keep it.
use Rattle.sap_lemmas.proofs.Common.{ℕ, bit_or}
use Rattle.sap_meaning.specs.Agree.{Relation}

-- `Same` says that two contents are the same; t and u are their tags.
pub record Keeps (R : Relation) : Type 1 where
  -- the same contents without tags are related
  pub plain : (P : Type 0) → P → R P 0 0
  -- so is what comes of related contents
  pub follow : (P Q : Type 0) (t u : ℕ) → (P → Q) → R P t u → R Q t u
  -- What comes of two contents has both tags; that the second ones are related is asked where the first ones are the same.
  pub joined : (P Q : Type 0) (t u t' u' : ℕ) → R P t u → (P → R Q t' u') → R (P × Q) (bit_or t t') (bit_or u u')
