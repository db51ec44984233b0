-- What stands after `boot-resident`.
use Rattle.std.proofs.Common.{◌≡◌, ℕ, ◌-◌, List, [], length, None, Ok, refl, sym, ap, subst}
use Rattle.kx_edge.specs.Edge.{Files}
use Rattle.kx_edge.specs.declared.edge.Shelf.{Ghosts as Shelf}
use Rattle.kx_edge.specs.declared.edge.Sink.{Ghosts as Sink}
use Rattle.kx_pages.specs.Limits.{kernel_limit}
use Rattle.kx_pages.specs.declared.image.ImageType.TheVariants.{Raw}
use Rattle.file_commands.specs.Files.{optional_file, whole_file}
use Rattle.file_commands.specs.Taking.{reads}
use Rattle.file_commands.proofs.Steps.{reads_cases}
use Rattle.kexec_words.specs.Values.{BootResidentValue}
use Rattle.load_states.specs.States.{Load}
use Rattle.load_commands.specs.BootResident.{ResidentInputs, pairs_file, raw_inputs, resident_files}
use Rattle.load_commands.specs.Files.{map_file, pool_file}
use Rattle.command_parts.specs.Files.{memory_file}
use Rattle.load_commands.specs.Inputs.{KernelFiles, LoadInputs, kernel_files, load_inputs, purgatory_limit}
use Rattle.command_parts.specs.Runs.{after_runs}
use Rattle.plan_laws.specs.Memory.{HasArrived}
use Rattle.plan_laws.proofs.Bare.{raw_is_loaded}
use Rattle.boot_laws.specs.Resident.{ResidentMemoryStarts}
use Rattle.boot_laws.proofs.Booting.{AreRead, inputs_read, ok_is, starts}

-- ---- what was taken is a raw kernel, without a purgatory
no_purgatory : (kernel : List ℕ) (held : Files) (x : KernelFiles) → reads (kernel_files kernel None None []) held ≡ Ok x → x.purgatory ≡ None
no_purgatory kernel held x e =
    let k = reads_cases (whole_file kernel_limit kernel) _ held x e in
    let i = reads_cases (optional_file (whole_file (kernel_limit - length k.0)) None) _ held x k.2 in
    let p = reads_cases (optional_file (whole_file purgatory_limit) None) _ held x i.2 in
    let m = reads_cases _ _ held x p.2 in
    subst (λ (x : KernelFiles). x.purgatory ≡ None) (ok_is _ x held m.2) (sym (ok_is None p.0 held p.1))

record IsRawOf (b : BootResidentValue) (x : LoadInputs) : Type 0 where
  image : x.request.image ≡ Raw b.at b.at
  purgatory : x.request.purgatory ≡ None

raw_taken : (b : BootResidentValue) (held : Files) (x : LoadInputs) → reads (load_inputs (Raw b.at b.at) (raw_inputs b.memory b.pool b.kernel)) held ≡ Ok x → IsRawOf b x
raw_taken b held x e =
    let m = reads_cases (memory_file b.memory) _ held x e in
    let p = reads_cases (pool_file b.pool None) _ held x m.2 in
    let ram = reads_cases (optional_file map_file None) _ held x p.2 in
    let files = reads_cases (kernel_files b.kernel None None []) _ held x ram.2 in
    subst (IsRawOf b) (ok_is _ x held files.2) (record { image = refl; purgatory = no_purgatory b.kernel held files.0 files.1 })

record Taken (b : BootResidentValue) (x : ResidentInputs) : Type 0 where
  raw : IsRawOf b x.load
  map : AreRead x.load.map

taken : (b : BootResidentValue) (held : Files) (x : ResidentInputs) → reads (resident_files b) held ≡ Ok x → Taken b x
taken b held x e =
    let a = reads_cases (load_inputs (Raw b.at b.at) (raw_inputs b.memory b.pool b.kernel)) _ held x e in
    let rs = reads_cases (pairs_file b.pairs) _ held x a.2 in
    subst (Taken b) (ok_is _ x held rs.2) (record { raw = raw_taken b held a.0 a.1; map = inputs_read (Raw b.at b.at) (raw_inputs b.memory b.pool b.kernel) held a.0 a.1 })

module _ {S O : Type 0} (D : Shelf S) (E : Sink O) where
  pub resident_memory_starts : ResidentMemoryStarts D E
  resident_memory_starts held s o s' o' b (x, e, h) =
      let N = after_runs None h.checked in
      let t = taken b held x e in
      let planned = h.resident.planned in (
        x,
        e,
        h,
        h.is_memory,
        starts N x.load.request x.load.map h.planned planned (subst (HasArrived N) (ap (λ (l : Load). l.segments) h.of_list) h.leaves.0) t.map,
        raw_is_loaded x.load.request x.load.map h.planned b.at b.at t.raw.image t.raw.purgatory planned,
      )
