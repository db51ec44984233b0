-- The parts of the information, put one after another.
use Rattle.std.proofs.Common.{◌≡◌, ℕ, ◌+◌, ◌-◌, ◌*◌, ◌^◌, ◌<◌, ◌≤◌, List, [], ◌∷◌, ◌++◌, append_assoc, length, length-append, drop, get_or, codes, true, refl, sym, ap, ◌∙◌, arith}
use Rattle.std.specs.List.{find}
use Rattle.kx_fields.specs.Fields.{zeros}
use Rattle.kx_fields.proofs.Bytes.{length-zeros}
use Rattle.kx_fields.proofs.Formats.{length-written}
use Rattle.memory_map.specs.declared.row.Row.{Row}
use Rattle.multiboot_image.specs.declared.info.Info.{Info}
use Rattle.multiboot_image.specs.declared.map_rows.MapRow.{MapRow}
use Rattle.multiboot_image.specs.declared.modules.ModuleRow.{ModuleRow}
use Rattle.multiboot_image.specs.MapRows.{map_row, row_text, is_low, is_high, kib, kib_of, mem_lower, mem_upper, map_row_of, map_text}
use Rattle.multiboot_image.specs.Modules.{PlacedModule, module_row, module_text, module_row_of, module_table, with_nul, texts}
use Rattle.multiboot_image.specs.Info.{info_format, info_text, places_of, info_of, info, info_size}
use Rattle.multiboot_image.proofs.Search.{first_here, first_none}
use Rattle.kx_fields.specs.inner.Formats.{IsFormat}

-- the tables
pub info_format_is : IsFormat 88 info_format
info_format_is = record { numbered = λ at fits. refl; whole = λ at fits. refl; apart = refl }

pub map_row_is : IsFormat 24 map_row
map_row_is = record { numbered = λ at fits. refl; whole = λ at fits. refl; apart = refl }

pub module_row_is : IsFormat 16 module_row
module_row_is = record { numbered = λ at fits. refl; whole = λ at fits. refl; apart = refl }

-- what stands where no row does
abbrev pub no_row : Row
no_row = record { start = 0; size = 0; kind = 0 }

-- the first rows
pub lower_here : (rows : List Row) (i : ℕ) (d : Row) (n : ℕ) → i < length rows → is_low (get_or rows i d) ≡ true → find is_low (drop i rows) ≡ find is_low rows → n ≡ kib (get_or rows i d) 0 640 → n ≡ mem_lower rows
unfolding mem_lower
lower_here rows i d n less t so_far e = e ∙ ap (λ o. kib_of o 0 640) (sym (first_here is_low rows i d less t so_far))

pub lower_none : (rows : List Row) (i : ℕ) → length rows ≤ i → find is_low (drop i rows) ≡ find is_low rows → 0 ≡ mem_lower rows
unfolding mem_lower
lower_none rows i done so_far = ap (λ o. kib_of o 0 640) (sym (first_none is_low rows i done so_far))

pub upper_here : (rows : List Row) (i : ℕ) (d : Row) (n : ℕ) → i < length rows → is_high (get_or rows i d) ≡ true → find is_high (drop i rows) ≡ find is_high rows → n ≡ kib (get_or rows i d) (2 ^ 20) (2 ^ 32 - 1) → n ≡ mem_upper rows
unfolding mem_upper
upper_here rows i d n less t so_far e = e ∙ ap (λ o. kib_of o (2 ^ 20) (2 ^ 32 - 1)) (sym (first_here is_high rows i d less t so_far))

pub upper_none : (rows : List Row) (i : ℕ) → length rows ≤ i → find is_high (drop i rows) ≡ find is_high rows → 0 ≡ mem_upper rows
unfolding mem_upper
upper_none rows i done so_far = ap (λ o. kib_of o (2 ^ 20) (2 ^ 32 - 1)) (sym (first_none is_high rows i done so_far))

-- the parts, put one after another
six : (a b c d e f : List ℕ) → ((((a ++ b) ++ c) ++ d) ++ e) ++ f ≡ a ++ (b ++ (c ++ (d ++ (e ++ f))))
six a b c d e f =
    append_assoc (((a ++ b) ++ c) ++ d) e f
    ∙ append_assoc ((a ++ b) ++ c) d (e ++ f)
    ∙ append_assoc (a ++ b) c (d ++ (e ++ f))
    ∙ append_assoc a b (c ++ (d ++ (e ++ f)))

pub parts_joined : (at : ℕ) (rows : List Row) (command : List ℕ) (modules : List PlacedModule) (a b c d e f : List ℕ) → a ≡ info_text (info_of (places_of at (length rows) (length modules) (length command)) rows (length modules)) → b ≡ a ++ map_text rows → c ≡ b ++ module_table (places_of at (length rows) (length modules) (length command)).texts modules → d ≡ c ++ with_nul command → e ≡ d ++ with_nul (codes "kexec") → f ≡ e ++ texts modules → f ≡ info at rows command modules
unfolding info
parts_joined at rows command modules a b c d e f p q r s t u =
    u
    ∙ ap (λ x. x ++ texts modules) (t ∙ ap (λ x. x ++ with_nul (codes "kexec")) (s ∙ ap (λ x. x ++ with_nul command) (r ∙ ap (λ x. x ++ module_table (places_of at (length rows) (length modules) (length command)).texts modules) (q ∙ ap (λ x. x ++ map_text rows) p))))
    ∙ six (info_text (info_of (places_of at (length rows) (length modules) (length command)) rows (length modules))) (map_text rows) (module_table (places_of at (length rows) (length modules) (length command)).texts modules) (with_nul command) (with_nul (codes "kexec")) (texts modules)

info_long : (i : Info) → length (info_text i) ≡ 88
unfolding info_text
info_long i = length-written 88 info_format i (zeros 88) info_format_is (length-zeros 88)

row_long : (r : MapRow) → length (row_text r) ≡ 24
unfolding row_text
row_long r = length-written 24 map_row r (zeros 24) map_row_is (length-zeros 24)

module_long : (m : ModuleRow) → length (module_text m) ≡ 16
unfolding module_text
module_long m = length-written 16 module_row m (zeros 16) module_row_is (length-zeros 16)

map_long : (rows : List Row) → length (map_text rows) ≡ 24 * length rows
map_long [] = refl
map_long (r ∷ rows) = omega (arith, length-append (row_text (map_row_of r)) (map_text rows), row_long (map_row_of r), map_long rows)

table_long : (text : ℕ) (ms : List PlacedModule) → length (module_table text ms) ≡ 16 * length ms
table_long text [] = refl
table_long text (m ∷ ms) = omega (arith, length-append (module_text (module_row_of text m)) (module_table (text + length m.text + 1) ms), module_long (module_row_of text m), table_long (text + length m.text + 1) ms)

pub info_long_all : (at : ℕ) (rows : List Row) (command : List ℕ) (modules : List PlacedModule) → length (info at rows command modules) ≡ info_size (length rows) (length command) modules
unfolding info
info_long_all at rows command modules =
    let a = info_text (info_of (places_of at (length rows) (length modules) (length command)) rows (length modules)) in
    let b = map_text rows in
    let t = (places_of at (length rows) (length modules) (length command)).texts in
    let c = module_table t modules in
    let d = with_nul command in
    let e = with_nul (codes "kexec") in
    let f = texts modules in
    let six_long : length e ≡ 6 = refl in
    omega (arith, length-append a (b ++ (c ++ (d ++ (e ++ f)))), length-append b (c ++ (d ++ (e ++ f))), length-append c (d ++ (e ++ f)), length-append d (e ++ f), length-append e f, length-append command (0 ∷ []), six_long, table_long t modules, map_long rows, info_long (info_of (places_of at (length rows) (length modules) (length command)) rows (length modules)))
