-- The names of helping wires.
unfoldable pub use Rattle.sap_net.specs.Names.{helper}
