-- What is to be loaded, and the plan of it, as contracts see them (this project's own).
use Rattle.std.specs.Prelude.{ℕ, Bool, List, Option}
use Rattle.kx_pages.specs.declared.image.Start.{Start}
use Rattle.segments.specs.Values.{SegmentValue}
use Rattle.crash_headers.specs.declared.note.Note.{Note}
use Rattle.kx_pages.specs.declared.image.ImageType.{ImageType}
use Rattle.kexec_plan.specs.Modules.{AskedModule}

-- a request
pub record Asked : Type 0 where
  pub crash : Bool
  pub image : ImageType
  pub kernel : List ℕ
  pub initrd : Option (List ℕ)
  pub command : Option (List ℕ)
  pub modules : List AskedModule
  pub purgatory : Option (List ℕ)
  pub notes : List Note

-- a plan: the segments, the start, and the addresses of the purgatory's table of regions and of its digest
pub record Plan : Type 0 where
  pub segments : List SegmentValue
  pub start : Start
  pub regions : ℕ
  pub digest : ℕ
