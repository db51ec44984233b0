-- What callers may rely on in a command that is read (this project's own).
-- No clause of `kexec` reaches what stands here: it serves laws, and contracts inside the crates.
use Rattle.std.specs.Prelude.{◌≡◌, ◌<◌, ◌≤◌, ◌^◌, ◌%◌, true, false, length, is_some, IfSome, [], ◌∷◌}
use Rattle.kexec_words.specs.Values.{InputsValue, TraceValue, CommandValue}
use Rattle.kexec_words.specs.Values.{boot, load, load_panic, check, dump, exec, trace, migrate, sample, boot_resident, drill, core}
use Rattle.kx_pages.specs.Types.{needs_map}
use Rattle.kexec_words.specs.Meaning.{has_same_name, files_of, crash_files_of}
use Rattle.kx_pages.specs.declared.image.ImageType.{ImageType}
use Rattle.std.specs.Prelude.{Some}

-- at most 12 modules, and a map where the type or a purgatory needs it
abbrev pub HasParts : InputsValue → ImageType → Type 0
HasParts i image =
    (length i.modules ≤ 12)
    × (needs_map image (is_some i.purgatory) ≡ true → is_some i.map ≡ true)

-- at most 100,000,000 steps, and a swap page that is a page below 2^46
abbrev pub HasRange : TraceValue → Type 0
HasRange t = (t.limit ≤ 100000000) × IfSome t.swap (λ a. (a < 2 ^ 46) × (a % 4096 ≡ 0))

abbrev pub IsWithinLimits : CommandValue → Type 0
IsWithinLimits (boot b) = HasParts b.inputs b.image
IsWithinLimits (load l) = HasParts l.inputs l.image
IsWithinLimits (load_panic l) = Unit {0}
IsWithinLimits (check l) = Unit {0}
IsWithinLimits (dump l) = Unit {0}
IsWithinLimits (exec e) = Unit {0}
IsWithinLimits (trace t) = HasRange t
IsWithinLimits (migrate m) = Unit {0}
IsWithinLimits (sample n) = n < 10 ^ 18
IsWithinLimits (boot_resident b) = Unit {0}
IsWithinLimits (drill d) = Unit {0}
IsWithinLimits (core c) = (c.address < 2 ^ 46) × (c.address % 8 ≡ 0)

-- no output has the name of an input or of another output
abbrev pub HasOutputsApart : CommandValue → Type 0
HasOutputsApart (boot b) = has_same_name (b.out ∷ []) (files_of b.inputs) ≡ false
HasOutputsApart (load l) = has_same_name (l.out ∷ l.load_record ∷ []) (files_of l.inputs) ≡ false
HasOutputsApart (load_panic l) =
    has_same_name (l.out ∷ l.load_record ∷ []) (crash_files_of l.inputs (Some l.map)) ≡ false
HasOutputsApart (check l) = Unit {0}
HasOutputsApart (dump l) = Unit {0}
HasOutputsApart (exec e) = has_same_name (e.out ∷ []) (e.memory ∷ e.load_record ∷ []) ≡ false
HasOutputsApart (trace t) = has_same_name (t.out ∷ []) (t.memory ∷ []) ≡ false
HasOutputsApart (migrate m) = has_same_name (m.out ∷ []) (m.load_record ∷ []) ≡ false
HasOutputsApart (sample n) = Unit {0}
HasOutputsApart (boot_resident b) =
    has_same_name (b.out ∷ []) (b.memory ∷ b.pool ∷ b.kernel ∷ b.pairs ∷ []) ≡ false
HasOutputsApart (drill d) =
    has_same_name (d.out ∷ []) (d.memory ∷ d.pool ∷ d.map ∷ d.events ∷ []) ≡ false
HasOutputsApart (core c) = has_same_name (c.out ∷ []) (c.memory ∷ []) ≡ false
