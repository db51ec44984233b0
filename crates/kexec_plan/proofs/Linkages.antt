-- A linked purgatory: it lies where it is linked at, and the symbols that are set lie in its bytes.
use Rattle.std.proofs.Common.{◌≡◌, ℕ, ◌+◌, ◌≤◌, List, false, cond, Option, Some, None, Result, Ok, Err, sym, ap, subst, arith, length}
use Rattle.std.specs.Prelude.{◌==◌, ◌&&◌, not, codes, nat_le}
use Rattle.std.proofs.lemmas.Bool.Decides.{nat_tests}
use Rattle.kx_laws.specs.Results.{◌>>=◌, unless_at}
use Rattle.kx_laws.proofs.Results.{bind_ok, guard_ok, ok_same}
use Rattle.elf_image.specs.Object.{Relocatable}
use Rattle.purgatory_link.specs.declared.fault.LinkFault.{LinkFault}
use Rattle.purgatory_link.specs.declared.fault.LinkFault.TheVariants as link
use Rattle.purgatory_link.specs.Layout.{linked_size, is_rel}
use Rattle.purgatory_link.specs.Link.{linking, link_at, starts_of, unlinked_bytes}
use Rattle.purgatory_link.specs.Sym.{Image}
use Rattle.purgatory_link.specs.Set.{symbol_of, is_inside}
use Rattle.purgatory_link.specs.Regions.{digest}
use Rattle.kexec_plan.specs.declared.places.Site.{Site}
use Rattle.kexec_plan.specs.declared.symbols.Symbols.{Symbols}
use Rattle.plan_faults.specs.Faults.{told_by, of_link}
use Rattle.kexec_plan.specs.Purgatory.{PurgatoryValue, Linkage, place_by, symbol_place, symbol_address, symbols_of, linked_at}
use Rattle.kexec_plan.specs.inner.Purgatory.{HasSymbols}
use Rattle.std.specs.List.{position}
use Rattle.purgatory_link.specs.Relocs.{relocate}
use Rattle.purgatory_link.specs.Symbols.{names_of}

told_ok : {A : Type 0} (r : Result A LinkFault) (x : A) → told_by of_link r ≡ Ok x → r ≡ Ok x
told_ok (Ok y) x h = ap Ok (ok_same y x h)
told_ok (Err link.Memory) x h = cc
told_ok (Err e) x h = cc

-- ---- it lies where it is linked at
base_of : (base : ℕ) (o : Relocatable) (file : List ℕ) (n : ℕ) (image : Image) → link_at base o file n ≡ Ok image → image.base ≡ base
unfolding link_at
base_of base o file n image h =
    let a = bind_ok (relocate base o file (starts_of o) (unlinked_bytes o file n)) (λ bytes. Ok (record { base = base; bytes = bytes; names = names_of base (starts_of o) o.symbols })) image h in
    sym (ap (λ (i : Image). i.base) (ok_same (record { base = base; bytes = a.0; names = names_of base (starts_of o) o.symbols }) image a.2))

base_is : (base : ℕ) (o : Relocatable) (file : List ℕ) (image : Image) → linking base o file ≡ Ok image → image.base ≡ base
unfolding linking
base_is base o file image h =
    let a = bind_ok (unless_at link.RelSection (position (is_rel o.sections) o.sections)) (λ _. linked_size o.sections >>= λ n. link_at base o file n) image h in
    let b = bind_ok (linked_size o.sections) (λ n. link_at base o file n) image a.2 in
    base_of base o file b.0 image b.2

-- ---- its symbols lie in its bytes
from_by : (base a size n long : ℕ) → not (n == size) ≡ false → not (nat_le base a && nat_le (a + size) (base + long)) ≡ false → base ≤ a
from_by base a size n long e h = grind (arith, nat_tests)

to_by : (base a size n long : ℕ) → not (n == size) ≡ false → not (nat_le base a && nat_le (a + size) (base + long)) ≡ false → a + n ≤ base + long
to_by base a size n long e h = grind (arith, nat_tests)

-- n bytes from an address on are linked bytes
record Lies (l : Image) (n a : ℕ) : Type 0 where
  from : l.base ≤ a
  to : a + n ≤ l.base + length l.bytes

place_lies : (l : Image) (name : List ℕ) (n : ℕ) (o : Option (ℕ × ℕ)) (a : ℕ) → place_by l name n o ≡ Ok a → Lies l n a
place_lies l name n None a h = cc
place_lies l name n (Some s) a h =
    let one = guard_ok (not (n == s.1)) (link.WrongSize s.1) (cond (not (is_inside l s.0 s.1)) (Err (link.WrongSize s.1)) (Ok s.0)) a h in
    let two = guard_ok (not (is_inside l s.0 s.1)) (link.WrongSize s.1) (Ok s.0) a one.1 in
    subst (Lies l n) (ok_same s.0 a two.1)
    (record { from = from_by l.base s.0 s.1 n (length l.bytes) one.0 two.0; to = to_by l.base s.0 s.1 n (length l.bytes) one.0 two.0 })

symbol_lies : (l : Image) (name : List ℕ) (n a : ℕ) → symbol_place l name n ≡ Ok a → Lies l n a
unfolding symbol_place
symbol_lies l name n a h = place_lies l name n (symbol_of l.names name) a h

-- the symbols behind those that were found
abbrev with_start : Image → ℕ → ℕ → ℕ → Result Symbols LinkFault
with_start l regs regions digest =
    symbol_address l (codes "purgatory_start") >>= λ start. Ok (record { regs = regs; regions = regions; digest = digest; start = start })

abbrev with_digest : Image → ℕ → ℕ → Result Symbols LinkFault
with_digest l regs regions = symbol_place l (codes "purgatory_sha256_digest") 32 >>= λ digest. with_start l regs regions digest

abbrev with_table : Image → ℕ → Result Symbols LinkFault
with_table l regs = symbol_place l (codes "purgatory_sha_regions") 256 >>= λ regions. with_digest l regs regions

symbols_lie : (l : Image) (x : Symbols) → symbols_of l ≡ Ok x → HasSymbols l.base (length l.bytes) x
unfolding symbols_of
symbols_lie l x h =
    let a = bind_ok (symbol_place l (codes "entry64_regs") 136) (λ regs. with_table l regs) x h in
    let b = bind_ok (symbol_place l (codes "purgatory_sha_regions") 256) (λ regions. with_digest l a.0 regions) x a.2 in
    let c = bind_ok (symbol_place l (codes "purgatory_sha256_digest") 32) (λ digest. with_start l a.0 b.0 digest) x b.2 in
    let d = bind_ok (symbol_address l (codes "purgatory_start")) (λ start. Ok (record { regs = a.0; regions = b.0; digest = c.0; start = start })) x c.2 in
    let regs = symbol_lies l (codes "entry64_regs") 136 a.0 a.1 in
    let regions = symbol_lies l (codes "purgatory_sha_regions") 256 b.0 b.1 in
    let digest = symbol_lies l (codes "purgatory_sha256_digest") 32 c.0 c.1 in
    subst (HasSymbols l.base (length l.bytes)) (ok_same (record { regs = a.0; regions = b.0; digest = c.0; start = d.0 }) x d.2)
    (record {
      regs_from = regs.from;
      regs_to = regs.to;
      regions_from = regions.from;
      regions_to = regions.to;
      digest_from = digest.from;
      digest_to = digest.to;
    })

pub record IsLinkage (s : Site) (l : Linkage) : Type 0 where
  pub base : l.base ≡ s.at
  pub symbols : HasSymbols l.base (length l.bytes) l.symbols

pub linkage_is : (p : PurgatoryValue) (s : Site) (l : Linkage) → linked_at p s ≡ Ok l → IsLinkage s l
unfolding linked_at
linkage_is p s l h =
    let a = bind_ok (told_by of_link (linking s.at p.object p.file)) (λ image. told_by of_link (symbols_of image) >>= λ symbols. Ok (record { base = image.base; bytes = image.bytes; symbols = symbols })) l h in
    let b = bind_ok (told_by of_link (symbols_of a.0)) (λ symbols. Ok (record { base = a.0.base; bytes = a.0.bytes; symbols = symbols })) l a.2 in
    subst (IsLinkage s) (ok_same (record { base = a.0.base; bytes = a.0.bytes; symbols = b.0 }) l b.2)
    (record {
      base = base_is s.at p.object p.file a.0 (told_ok (linking s.at p.object p.file) a.0 a.1);
      symbols = symbols_lie a.0 b.0 (told_ok (symbols_of a.0) b.0 b.1);
    })
