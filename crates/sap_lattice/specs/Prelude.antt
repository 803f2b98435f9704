-- The definitions of levels and lattices that proofs of other crates name, each from the file in which it stands.
-- Declares nothing.
pub use Rattle.sap_lattice.specs.Built.{IsLatticeOf}
pub use Rattle.sap_lattice.specs.Closure.{Below, name_at}
unfoldable pub use Rattle.sap_lattice.specs.Codes.{code_of, meet_irreducibles}
pub use Rattle.sap_lattice.specs.Codes.{Codes, width_of}
unfoldable pub use Rattle.sap_lattice.specs.Diamond.{diamond}
pub use Rattle.sap_lattice.specs.Diamond.{level_names, level_pairs, table}
pub use Rattle.sap_lattice.specs.Examples.{low_high}
pub use Rattle.sap_lattice.specs.Lawful.{IsNarrow}
pub use Rattle.sap_lattice.specs.Levels.{every, first, is_below, level_in, level_named, Levels, numbers}
unfoldable pub use Rattle.sap_lattice.specs.Levels.{order_by, order_of}
pub use Rattle.sap_lattice.specs.Order.{Laws, Order}
pub use Rattle.sap_lattice.specs.Rules.{FirstBroken, KeepsAll, KeepsNames}
pub use Rattle.sap_lattice.specs.Rules.BadName.{no_word, repeated}
