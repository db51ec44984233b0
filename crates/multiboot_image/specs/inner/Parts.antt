-- What a Multiboot kernel is loaded as (Multiboot Specification 0.6.96, sections 3.1.3 and 3.2): by the addresses in its
-- header, or as an ELF32 executable.
-- No clause of `kexec` reaches what stands here: it serves laws, and contracts inside the crates.
use Rattle.std.specs.Prelude.{◌≡◌, ℕ, Bool, List, IfSome}
use Rattle.kx_pages.specs.Ranges.{meets_page}
use Rattle.segments.specs.Values.{is_destination}
use Rattle.multiboot_image.specs.declared.header.Header.{Header}
use Rattle.multiboot_image.specs.declared.parts.Site.{Site}
use Rattle.multiboot_image.specs.Parts.{Loaded, memory_stop, site}

-- some byte of page p is one of the memory's
abbrev pub memory_meets_page : ℕ → Site → Bool
memory_meets_page p s = meets_page s.kludge.load_addr (memory_stop s) p

-- with addresses in the header the pages are those that some byte of the memory from load_addr on is in
abbrev pub HasPagesMet : List ℕ → Header → Loaded → Type 0
HasPagesMet file h r =
    IfSome h.kludge
    (λ k. (p : ℕ) → is_destination r.list p ≡ memory_meets_page p (site file h.at k))
