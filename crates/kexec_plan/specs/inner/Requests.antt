-- What is to be loaded, and the plan of it, as contracts see them (this project's own).
-- No clause of `kexec` reaches what stands here: it serves laws, and contracts inside the crates.
use Rattle.std.specs.Prelude.{◌≡◌, true, ◌||◌, Option, is_some, option_map}
use Rattle.std.specs.Borrow.{Bor}
use Rattle.memory_map.specs.Maps.{MapValue}
use Rattle.kx_pages.specs.Types.{needs_map}
use Rattle.kexec_plan.specs.declared.request.Request.{Request}
use Rattle.kexec_plan.specs.declared.request.Planned.{Planned}
use Rattle.kexec_plan.specs.Requests.{Asked, Plan}

-- the program's request and plan as these values
abbrev pub request_of : Request → Asked
request_of r = record {
  crash = r.crash;
  image = r.image;
  kernel = r.kernel.items;
  initrd = option_map (λ v. v.items) r.initrd;
  command = option_map (λ v. v.items) r.command;
  modules = r.modules.items;
  purgatory = option_map (λ v. v.items) r.purgatory;
  notes = r.notes.items;
}

abbrev pub planned_of : Planned → Plan
planned_of p =
    record { segments = p.segments; start = p.start; regions = p.regions; digest = p.digest }

-- a value that may be lent
abbrev pub lent : {A : Type 0} → Option (Bor A) → Option A
lent o = option_map (λ x. x.now) o

-- there is a memory map where the request needs one
abbrev pub IsMapped : Asked → Option MapValue → Type 0
IsMapped r map =
    (r.crash || needs_map r.image (is_some r.purgatory)) ≡ true → is_some map ≡ true
