use Rattle.std.proofs.Common.{IsTrue, subst}
use Rattle.sap_check.specs.Checked.{levels_in, tree_in}
use Rattle.sap_tree.specs.Prelude.{design_of, is_whole}
use Rattle.sap_tags.proofs.Found.{sound_found}
use Rattle.sap_tags.proofs.insert.is_sound.Goals as goal

pub returns : goal.returns
returns c =
    let l = c.lawful-2.ensures in
    sound_found c.lattice-lattice.result.now (levels_in c.args.checked.now) (tree_in c.args.checked.now) c.lattice-lattice.ensures (record {
      names = l.names;
      laws = l.order;
      antisymmetric = l.antisymmetric;
      codes = l.codes;
      narrow = l.narrow;
    }) (subst (λ d. IsTrue (is_whole (design_of d))) c.design-design.ensures c.design_is_whole.ensures) c.lawful.ensures
