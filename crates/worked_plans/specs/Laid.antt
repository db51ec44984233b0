-- What is laid in the examples (this project's own).
use Rattle.std.specs.Prelude.{ℕ, List, [], ◌∷◌, Some, None, Result, codes}
use Rattle.kexec_plan.specs.Laying.{Laid, PlanPart, tell, bytes_of, push}
use Rattle.plan_faults.specs.declared.fault.PlanFault.{PlanFault}
use Rattle.worked_plans.specs.Machines.{page_four}

-- a module, its segment, a command, an initrd, and a start with other numbers in all registers
abbrev pub laid : Laid
laid = record {
  taken = page_four;
  list = record { bytes = []; mem = 0x7000; memsz = 0x1000 } ∷ [];
  fault = None;
  command = codes "quiet";
  initrd = Some (0x6000, 9);
  slots = record { start = 0x7000; size = 5; text = codes "m0" } ∷ [];
  start = record { entry = 0x10; rax = 0x11; rbx = 0x12; rsi = 0x13 };
}

-- what a part at 0x5000 tells, the bytes that it has there, and a segment more there
abbrev pub tell_here : PlanPart → Laid
tell_here p = tell p (record { at = 0x5000; size = 0x2000 }) laid

abbrev pub bytes_here : PlanPart → Laid → Result (List ℕ) PlanFault
bytes_here p l = bytes_of p (record { at = 0x5000; size = 0x2000 }) l

abbrev pub push_here : Laid → Result (List ℕ) PlanFault → Laid
push_here l bytes = push l (record { at = 0x5000; size = 0x2000 }) bytes
