-- The fault of each part as one of compiling: out of memory stays out of memory.
use Rattle.sap_latfile.specs.declared.fault.LatFileFault.{LatFileFault}
use Rattle.sap_latfile.specs.declared.fault.LatFileFault.TheVariants as lattice_fault
use Rattle.sap_names.specs.declared.fault.CheckFault.{CheckFault}
use Rattle.sap_names.specs.declared.fault.CheckFault.TheVariants as check
use Rattle.sap_lex.specs.declared.fault.ReadFault.{ReadFault}
use Rattle.sap_lex.specs.declared.fault.ReadFault.TheVariants as read
use Rattle.sap_compile.specs.declared.fault.CompileFault.{CompileFault}
use Rattle.sap_compile.specs.declared.fault.CompileFault.TheVariants.{Lattice, Read, Check, Memory}

-- The fault of a compile whose lattice isn't read.
abbrev pub lattice_failure : LatFileFault → CompileFault
lattice_failure lattice_fault.Memory = Memory
lattice_failure fault = Lattice fault

-- The fault of a compile whose design isn't read.
abbrev pub read_failure : ReadFault → CompileFault
read_failure read.Memory = Memory
read_failure fault = Read fault

-- The fault of a compile whose design isn't well formed.
abbrev pub check_failure : CheckFault → CompileFault
check_failure check.Memory = Memory
check_failure fault = Check fault
