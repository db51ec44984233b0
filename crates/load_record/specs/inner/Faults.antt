-- The fault of a record whose segments are refused. Want of memory stays want of memory. This project's own.
-- No clause of `kexec` reaches what stands here: it serves laws, and contracts inside the crates.
use Rattle.segments.specs.declared.fault.SegFault.{SegFault}
use Rattle.segments.specs.declared.fault.SegFault.TheVariants as segment_faults
use Rattle.load_record.specs.declared.fault.RecFault.{RecFault}
use Rattle.load_record.specs.declared.fault.RecFault.TheVariants as faults

abbrev pub refused_by : SegFault → RecFault
refused_by segment_faults.Memory = faults.Memory
refused_by fault = faults.Segments fault
