-- The definitions of maps, terms and valuations that proofs of other crates name, each from the file in which it
-- stands. Declares nothing.
pub use Rattle.sap_maps.specs.Maps.{Name, set_value, Valuation}
pub use Rattle.sap_maps.specs.Ranges.{IsWidth}
pub use Rattle.sap_maps.specs.Scope.{Agree, find, Scope}
pub use Rattle.sap_maps.specs.Term.{cell, choose, constant, CountFits, join, one, part, read, Term, term_width, two}
