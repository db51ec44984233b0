-- What a plan of a kernel without parts of its own is made of: an ELF executable, and a raw kernel.
use Rattle.std.proofs.Common.{◌≡◌, ◌∙◌, ℕ, List, [], Bool, true, false, cond, Option, Some, None, Ok, refl, sym, ap, subst, inl, inr}
use Rattle.std.specs.Prelude.{nat_lt, option_map}
use Rattle.std.specs.List.{starts_with}
use Rattle.std.specs.Prelude.{nat_eq}
use Rattle.kx_laws.specs.Results.{unless}
use Rattle.kx_laws.proofs.Results.{bind_ok, guard_ok, ok_same}
use Rattle.kx_pages.specs.Limits.{segment_page_limit}
use Rattle.kx_pages.specs.declared.image.ImageType.TheVariants as types
use Rattle.memory_map.specs.Maps.{MapValue}
use Rattle.segments.specs.Values.{SegmentValue}
use Rattle.bzimage.specs.Signature as signature
use Rattle.crash_headers.specs.declared.note.Note.{Note}
use Rattle.elf_image.specs.FileHeader.{magic}
use Rattle.elf_image.specs.Image.{image, page_count, segments_of}
use Rattle.elf_image.specs.Loads.{Executable, exec_reading}
use Rattle.elf_image.specs.declared.fault.ElfFault.{ElfFault}
use Rattle.elf_image.specs.declared.fault.ElfFault.TheVariants as elf
use Rattle.elf_image.specs.declared.load.Load.{Load}
use Rattle.multiboot_image.specs.Header.{find_header}
use Rattle.plan_faults.specs.declared.fault.PlanFault.{PlanFault}
use Rattle.plan_faults.specs.declared.fault.PlanFault.TheVariants as faults
use Rattle.plan_faults.specs.Faults.{of_elf, told_by}
use Rattle.kexec_plan.specs.Formats.{format_of, given_format, ground_for, has_header, shown_format, unused_part}
use Rattle.kexec_plan.specs.Ground.{Ground, most, ram}
use Rattle.kexec_plan.specs.Kernels.{Kernel, elf_kernel, raw_kernel, read_kernel}
use Rattle.kexec_plan.specs.Laying.{place_parts}
use Rattle.kexec_plan.specs.Modules.{AskedModule}
use Rattle.kexec_plan.specs.Parts.{start_at}
use Rattle.kexec_plan.specs.Places.{place_some}
use Rattle.kexec_plan.specs.Plan.{begin, plan, plan_as}
use Rattle.kexec_plan.specs.Purgatory.{purgatory_rule, some_purgatory}
use Rattle.kexec_plan.specs.Requests.{Asked, Plan}
use Rattle.kexec_plan.proofs.Bare.{plain_as}
use Rattle.plan_laws.specs.Executable.{AreLoaded64, ElfIsLoaded, IsElf, RawIsLoaded, StartsElf, StartsRaw}
use Rattle.plan_laws.proofs.Headers.{entry64, loads64, parts_of}
use Rattle.plan_laws.proofs.Laying.{none_more, told_ok}
use Rattle.plan_laws.proofs.Planning.{ends_plain, no_purgatory}
use Rattle.plan_laws.proofs.Private.{Format, choose_false, choose_true}

-- ---- a kernel that was read and has no parts: its segments are those of the plan, its entry is where the plan starts
pub record Made (g : Ground) (r : Asked) (f : Format) (p : Plan) : Type 0 where
  pub kernel : Kernel
  pub read : read_kernel g f r.kernel r.initrd r.modules r.notes ≡ Ok kernel
  pub is : kernel.parts ≡ [] → plain_as kernel.list (start_at kernel.entry) ≡ p

made_as : (g : Ground) (f : Format) (r : Asked) (p : Plan) → r.purgatory ≡ None → plan_as r g f ≡ Ok p → Made g r f p
unfolding plan_as
made_as g f r p none e =
    let a = bind_ok (read_kernel g f r.kernel r.initrd r.modules r.notes) _ p e in
    let o = bind_ok (some_purgatory r.purgatory) _ p a.2 in
    let l = bind_ok (place_parts (ram g) (begin a.0.list a.0.entry r.command) a.0.parts) _ p o.2 in
    let s = bind_ok (place_some (ram g) l.0.taken (option_map (purgatory_rule (most g a.0.above4g)) o.0)) _ p l.2 in
    let u = bind_ok (unless l.0.fault) _ p s.2 in
    record {
      kernel = a.0;
      read = a.1;
      is = λ bare.
          let last = none_more (ram g) (begin a.0.list a.0.entry r.command) l.0 (subst (λ ps. place_parts (ram g) (begin a.0.list a.0.entry r.command) ps ≡ Ok l.0) bare l.1) in
          ap (λ l. plain_as l.list l.start) last ∙ ends_plain g l.0.list l.0.start o.0 s.0 p (no_purgatory r.purgatory o.0 none o.1) u.2;
    }

pub record Formed (r : Asked) (map : Option MapValue) (p : Plan) : Type 0 where
  pub ground : Ground
  pub form : Format
  pub formed : format_of r ≡ Ok form
  pub made : Made ground r form p

formed : (r : Asked) (map : Option MapValue) (p : Plan) → r.purgatory ≡ None → plan r map ≡ Ok p → Formed r map p
unfolding plan
formed r map p none e =
    let f = bind_ok (format_of r) _ p e in
    let g = bind_ok (ground_for r map f.0) _ p f.2 in
    let u = bind_ok (unless (option_map faults.Unused (unused_part r f.0))) _ p g.2 in
    record { ground = g.0; form = f.0; formed = f.1; made = made_as g.0 f.0 r p none u.2 }

-- ---- an ELF executable
elf_form : (r : Asked) (f : Format) → IsElf r → format_of r ≡ Ok f → given_format [] types.Elf ≡ Ok f
unfolding shown_format
elf_form r f (inl e) h = sym (ap (given_format r.kernel) e) ∙ h
elf_form r f (inr (e, linux, multiboot, elf)) h =
    sym (choose_false (signature.is_bzimage r.kernel) _ _ linux ∙ choose_false (has_header (find_header r.kernel)) _ _ multiboot ∙ choose_true (starts_with nat_eq r.kernel magic) _ _ elf)
    ∙ sym (ap (given_format r.kernel) e) ∙ h

as_elf : (g : Ground) (f : Format) (file : List ℕ) (initrd : Option (List ℕ)) (modules : List AskedModule) (notes : List Note) → given_format [] types.Elf ≡ Ok f
    → elf_kernel file ≡ read_kernel g f file initrd modules notes
unfolding read_kernel
as_elf g f file initrd modules notes e = ap (λ f. read_kernel g f file initrd modules notes) (ok_same {F = PlanFault} _ f e)

-- the image of loads, where there is one
pub image_is : (file : List ℕ) (ls : List Load) (ss : List SegmentValue) → image file ls ≡ Ok ss → segments_of file ls ≡ ss
unfolding image
image_is file ls ss e = ok_same {F = ElfFault} (segments_of file ls) ss (guard_ok (nat_lt segment_page_limit (page_count ls)) _ _ ss e).1

-- the executable is of this class
unless_wide : (b : Bool) (u : Unit {0}) → unless (cond b None (Some (faults.Elf elf.Class))) ≡ Ok u → b ≡ true
unless_wide true u e = refl
unless_wide false u e = cc

record Read (file : List ℕ) (k : Kernel) : Type 0 where
  executable : Executable
  read : exec_reading file ≡ Ok executable
  wide : executable.wide ≡ true
  list : segments_of file executable.loads ≡ k.list
  entry : executable.entry ≡ k.entry
  bare : k.parts ≡ []

elf_read : (file : List ℕ) (k : Kernel) → elf_kernel file ≡ Ok k → Read file k
unfolding elf_kernel
elf_read file k e =
    let a = bind_ok (told_by of_elf (exec_reading file)) _ k e in
    let b = bind_ok (unless (cond a.0.wide None (Some (faults.Elf elf.Class)))) _ k a.2 in
    let c = bind_ok (told_by of_elf (image file a.0.loads)) _ k b.2 in
    let same = ok_same {F = PlanFault} _ k c.2 in
    record {
      executable = a.0;
      read = told_ok of_elf (exec_reading file) a.0 a.1;
      wide = unless_wide a.0.wide b.0 b.1;
      list = image_is file a.0.loads c.0 (told_ok of_elf (image file a.0.loads) c.0 c.1) ∙ ap (λ (k : Kernel). k.list) same;
      entry = ap (λ (k : Kernel). k.entry) same;
      bare = sym (ap (λ (k : Kernel). k.parts) same);
    }

pub elf_is_loaded : ElfIsLoaded
elf_is_loaded r map p form none e =
    let f = formed r map p none e in
    let m = f.made in
    let k = elf_read r.kernel m.kernel (as_elf f.ground f.form r.kernel r.initrd r.modules r.notes (elf_form r f.form form f.formed) ∙ m.read) in
    let x = k.executable in
    let parts = parts_of r.kernel x k.read in
    let wide = sym parts.wide ∙ k.wide in
    subst (StartsElf r.kernel) (m.is k.bare) (record {
      e_entry = sym k.entry ∙ entry64 r.kernel x k.read parts wide;
      tells = record { rax = refl; rbx = refl; rsi = refl };
      loads = subst (AreLoaded64 r.kernel) k.list (loads64 r.kernel x k.read parts wide);
    })

-- ---- a raw kernel
as_raw : (g : Ground) (f : Format) (file : List ℕ) (initrd : Option (List ℕ)) (modules : List AskedModule) (notes : List Note) (at entry : ℕ) → given_format [] (types.Raw at entry) ≡ Ok f
    → Ok (raw_kernel at entry file) ≡ read_kernel g f file initrd modules notes
unfolding read_kernel
as_raw g f file initrd modules notes at entry e = ap (λ f. read_kernel g f file initrd modules notes) (ok_same {F = PlanFault} _ f e)

pub raw_is_loaded : RawIsLoaded
raw_is_loaded r map p at entry form none e =
    let f = formed r map p none e in
    let m = f.made in
    let same = ok_same {F = PlanFault} (raw_kernel at entry r.kernel) m.kernel (as_raw f.ground f.form r.kernel r.initrd r.modules r.notes at entry (sym (ap (given_format r.kernel) form) ∙ f.formed) ∙ m.read) in
    subst (StartsRaw r.kernel at entry) (ap (λ (k : Kernel). plain_as k.list (start_at k.entry)) same ∙ m.is (sym (ap (λ (k : Kernel). k.parts) same))) (record {
      entered = refl;
      tells = record { rax = refl; rbx = refl; rsi = refl };
      kernel = record { bytes = r.kernel; mem = at; memsz = _ };
      alone = refl;
      kernel_bytes = refl;
      kernel_place = refl;
    })
