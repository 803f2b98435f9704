use Rattle.sap_lattice.specs.Prelude.{width_of, order_of}
use Rattle.sap_taint.proofs.CarriesCycle.{takes_tags}
use Rattle.sap_taint.proofs.Shown.{one_tagged_run, shows_taint, tags_stay_codes, runs_with_tags_agree}
use Rattle.sap_taint.proofs.laws.carried.Goals as goal

pub returns : goal.returns
returns c =
    let o = order_of c.args.lattice.now in
    let n = c.args.netlist.now in
    let m = c.args.tagged.now in
    let rules = c.rules.ensures in
    let carries = c.requires in
    record {
      takes = takes_tags (width_of o) n m carries.form;
      runs = one_tagged_run (width_of o) n m c.one_run.ensures.some c.one_run.ensures.one carries;
      shows = shows_taint (width_of o) n m rules carries;
      codes = tags_stay_codes o c.lawful.ensures.order c.lawful.ensures.codes (width_of o) n m rules carries;
      agree = runs_with_tags_agree o c.lawful.ensures.order c.lawful.ensures.codes (width_of o) n m rules carries;
    }
