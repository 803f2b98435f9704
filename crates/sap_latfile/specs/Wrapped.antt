-- A fault of names and pairs as one of a file: out of memory stays out of memory.
use Rattle.sap_lattice.specs.declared.fault.LatFault.{LatFault}
use Rattle.sap_lattice.specs.declared.fault.LatFault.TheVariants as rule
use Rattle.sap_latfile.specs.declared.fault.LatFileFault.{LatFileFault}
use Rattle.sap_latfile.specs.declared.fault.LatFileFault.TheVariants.{Rule, Memory}

-- A fault of names and pairs as a fault of a file.
abbrev pub wrapped : LatFault → LatFileFault
wrapped rule.Memory = Memory
wrapped fault = Rule fault
