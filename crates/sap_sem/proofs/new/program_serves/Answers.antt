use Rattle.std.proofs.Common.{◌<◌, ◌^◌, IsTrue, length, subst, arith}
use Rattle.sap_lattice.specs.Prelude.{Laws, Levels, order_of}
use Rattle.sap_names.specs.Entities.{entities_of}
use Rattle.sap_check.specs.Checked.{levels_in, tree_in}
use Rattle.sap_tree.specs.Prelude.{design_of, is_whole}
use Rattle.sap_secure.proofs.check_sites.Counts.{numbers_are, count_is}
use Rattle.sap_sem.proofs.Served.{serves}
use Rattle.sap_sem.proofs.new.program_serves.Goals as goal

pub returns-clause-able : goal.returns-clause-able
returns-clause-able c =
    let ls = levels_in c.args.checked.now in
    let d = tree_in c.args.checked.now in
    let laws : Laws (order_of ls) = subst (λ (l : Levels). Laws (order_of l)) c.lattice-lattice.ensures c.lawful-2.ensures.order in
    let few : length (entities_of d) < 2 ^ 32 = (let e = c.entity_count.ensures in omega (arith, e)) in
    serves ls d c.well_formed_serves.ensures.fine c.sizes_fit.ensures c.widths_in_range.ensures laws c.lawful.ensures
    (subst (λ d. IsTrue (is_whole (design_of d))) c.design-design.ensures c.design_is_whole.ensures) few

pub returns-clause-exact : goal.returns-clause-exact
returns-clause-exact c = c.well_formed_serves.ensures.exact (levels_in c.args.checked.now) (tree_in c.args.checked.now)

pub returns-clause-initials : goal.returns-clause-initials
returns-clause-initials c =
    let ls = levels_in c.args.checked.now in
    let d = tree_in c.args.checked.now in
    let laws : Laws (order_of ls) = subst (λ (l : Levels). Laws (order_of l)) c.lattice-lattice.ensures c.lawful-2.ensures.order in
    (c.sizes_fit.ensures ls d laws c.lawful.ensures.names).initials

pub returns-clause-fine : goal.returns-clause-fine
returns-clause-fine c =
    let ls = levels_in c.args.checked.now in
    let d = tree_in c.args.checked.now in
    let laws : Laws (order_of ls) = subst (λ (l : Levels). Laws (order_of l)) c.lattice-lattice.ensures c.lawful-2.ensures.order in
    c.well_formed_serves.ensures.fine ls d laws c.lawful.ensures

pub returns-clause-sites : goal.returns-clause-sites
returns-clause-sites c =
    let ls = levels_in c.args.checked.now in
    let d = tree_in c.args.checked.now in
    numbers_are ls d (c.sites_agree.ensures ls d c.lawful.ensures)

pub returns-clause-count : goal.returns-clause-count
returns-clause-count c = count_is (tree_in c.args.checked.now)
