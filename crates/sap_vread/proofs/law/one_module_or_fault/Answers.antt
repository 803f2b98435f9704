use Rattle.sap_vread.proofs.Faults.{one_fault, not_both}
use Rattle.sap_vread.proofs.law.one_module_or_fault.Goals as goal

pub returns : goal.returns
returns c = record {
  one_module = c.one_module.ensures;
  one_fault = one_fault c.one_reading.ensures.one_file c.one_reading.ensures.one_fault c.one_reading.ensures.not_both;
  not_both = not_both c.one_reading.ensures.one_file c.one_reading.ensures.one_fault c.one_reading.ensures.not_both;
}
