-- `boot` and `load` are refused for pages exactly where the pool has too few: their files are refused for what they hold.
use Rattle.std.proofs.Common.{ℕ, ◌-◌, List, length, Option, inl, inr}
use Rattle.kx_edge.specs.Edge.{Files}
use Rattle.kx_pages.specs.Limits.{kernel_limit}
use Rattle.kx_pages.specs.declared.image.ImageType.{ImageType}
use Rattle.page_memory.specs.File.{reading}
use Rattle.page_pool.specs.File.{pool_reading}
use Rattle.memory_map.specs.Text.{map_reading}
use Rattle.file_commands.specs.Files.{all_files, from_reader, optional_file, whole_file}
use Rattle.file_commands.specs.Taking.{by, ok}
use Rattle.file_commands.proofs.Reasons.{Only, only_all, only_ok, only_optional, only_reader, only_then, only_whole}
use Rattle.kexec_words.specs.Values.{BootValue, InputsValue, LoadValue}
use Rattle.kexec_words.specs.Values as words
use Rattle.command_parts.specs.declared.reason.InputFault.TheVariants as inputs
use Rattle.command_parts.specs.declared.reason.Reason.{Reason}
use Rattle.command_parts.specs.declared.reason.Reason.TheVariants.{Input, NoPages}
use Rattle.load_commands.specs.Files.{map_file, pages_file, pool_file, usable_below}
use Rattle.command_parts.specs.Files.{memory_file, memory_limit, text_limit}
use Rattle.load_commands.specs.Inputs.{kernel_files, left_after, load_inputs, purgatory_limit, request_with}
use Rattle.kexec_main.specs.inner.TooFew.{BootLacksPages, BootRefusesForPages, IsRefusedForPages, LoadLacksPages, LoadRefusesForPages}

abbrev IsInput : Reason → Type 0
IsInput (Input f) = Unit {0}
IsInput other = ⊥

module _ (held : Files) where
  only_memory : (name : List ℕ) → Only IsInput held (memory_file name)
  only_memory name =
      only_then IsInput held (whole_file memory_limit name) (λ bytes. from_reader (λ e. Input (inputs.Mem e)) (reading bytes))
      (only_whole IsInput held memory_limit name) (λ bytes. only_reader IsInput held (λ e. Input (inputs.Mem e)) (reading bytes) (λ f. tt))

  only_pages : (name : List ℕ) → Only IsInput held (pages_file name)
  only_pages name =
      only_then IsInput held (whole_file text_limit name) (λ bytes. from_reader (λ e. Input (inputs.Pool e)) (pool_reading bytes))
      (only_whole IsInput held text_limit name) (λ bytes. only_reader IsInput held (λ e. Input (inputs.Pool e)) (pool_reading bytes) (λ f. tt))

  only_pool : (name : List ℕ) (below : Option ℕ) → Only IsInput held (pool_file name below)
  only_pool name below = only_then IsInput held (pages_file name) (λ pages. ok (usable_below below pages)) (only_pages name) (λ pages. only_ok IsInput held (usable_below below pages))

  only_map : (name : List ℕ) → Only IsInput held (map_file name)
  only_map name =
      only_then IsInput held (whole_file text_limit name) (λ bytes. from_reader (λ e. Input (inputs.Map e)) (map_reading bytes))
      (only_whole IsInput held text_limit name) (λ bytes. only_reader IsInput held (λ e. Input (inputs.Map e)) (map_reading bytes) (λ f. tt))

  only_kernel : (kernel : List ℕ) (initrd purgatory : Option (List ℕ)) (modules : List (List ℕ)) → Only IsInput held (kernel_files kernel initrd purgatory modules)
  only_kernel kernel initrd purgatory modules =
      only_then IsInput held (whole_file kernel_limit kernel) _ (only_whole IsInput held kernel_limit kernel) (λ k.
      only_then IsInput held (optional_file (whole_file (kernel_limit - length k)) initrd) _ (only_optional IsInput held (whole_file (kernel_limit - length k)) initrd (only_whole IsInput held (kernel_limit - length k))) (λ i.
      only_then IsInput held (optional_file (whole_file purgatory_limit) purgatory) _ (only_optional IsInput held (whole_file purgatory_limit) purgatory (only_whole IsInput held purgatory_limit)) (λ p.
      only_then IsInput held (all_files (left_after (kernel_limit - length k) i) modules) _ (only_all IsInput held (left_after (kernel_limit - length k) i) modules) (λ ms.
      only_ok IsInput held (record { kernel = k; initrd = i; purgatory = p; modules = ms })))))

  only_inputs : (image : ImageType) (i : InputsValue) → Only IsInput held (load_inputs image i)
  only_inputs image i =
      only_then IsInput held (memory_file i.memory) _ (only_memory i.memory) (λ m.
      only_then IsInput held (pool_file i.pool i.below) _ (only_pool i.pool i.below) (λ p.
      only_then IsInput held (optional_file map_file i.map) _ (only_optional IsInput held map_file i.map only_map) (λ ram.
      only_then IsInput held (kernel_files i.kernel i.initrd i.purgatory i.modules) _ (only_kernel i.kernel i.initrd i.purgatory i.modules) (λ files.
      only_ok IsInput held (record { memory = m; usable = p; map = ram; request = request_with image i.command files })))))

  boot_lacks : (b : BootValue) (pool n : ℕ) → IsRefusedForPages (words.boot b) held pool n → BootLacksPages b held pool n
  boot_lacks b pool n (inl r) = absurd (only_inputs b.image b.inputs (by (NoPages pool n)) r)
  boot_lacks b pool n (inr (x, read, inl (p, planned, few))) = (x, read, (p, planned, few.0, few.1, few.2))
  boot_lacks b pool n (inr (x, read, inr (p, c, l, f))) = absurd f

  load_lacks : (l : LoadValue) (pool n : ℕ) → IsRefusedForPages (words.load l) held pool n → LoadLacksPages l held pool n
  load_lacks l pool n (inl r) = absurd (only_inputs l.image l.inputs (by (NoPages pool n)) r)
  load_lacks l pool n (inr (x, read, inl (p, planned, few))) = (x, read, (p, planned, few.0, few.1, few.2))
  load_lacks l pool n (inr (x, read, inr (p, c, k, f))) = absurd f

pub boot_refuses_for_pages : BootRefusesForPages
boot_refuses_for_pages = λ b held pool n. (boot_lacks held b pool n, λ k. inr (k.0, k.1, inl (k.2.0, k.2.1, (k.2.2, k.2.3, k.2.4))))

pub load_refuses_for_pages : LoadRefusesForPages
load_refuses_for_pages = λ l held pool n. (load_lacks held l pool n, λ k. inr (k.0, k.1, inl (k.2.0, k.2.1, (k.2.2, k.2.3, k.2.4))))
