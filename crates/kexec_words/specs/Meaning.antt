-- What the words after the program's name say, and the first reason to refuse them (this project's own).
use Rattle.std.specs.Prelude.{ℕ, ◌&&◌, ◌||◌, not, Bool, false, Option, Some, None, Result, Ok, Err, List, [], ◌∷◌, ◌++◌, length, nat_lt, codes, if◌then◌else◌, is_some, unwrap_or}
use Rattle.std.specs.List.{list_any}
use Rattle.std.specs.Str.{bytes_eq}
use Rattle.clap.specs.Words.{Text, fault_of, matches_of}
use Rattle.clap.specs.Kinds.{Kinds}
use Rattle.kexec_words.specs.Apps.{app_by}
use Rattle.kexec_words.specs.Given.{GivenValue, given_of, option_of, word_of, words_of, flag_of}
use Rattle.kexec_words.specs.Numbers.{plan_numbers_of, trace_numbers_of, address_of, sample_of, core_address_of}
use Rattle.kexec_words.specs.Values.{InputsValue, BootValue, LoadValue, CrashInputsValue, LoadPanicValue, LoadNamesValue, ExecValue, TraceValue, MigrateValue, BootResidentValue, DrillValue, CoreValue, CommandValue}
use Rattle.kexec_words.specs.Values.{boot, load, load_panic, check, dump, exec, trace, migrate, sample, boot_resident, drill, core}
use Rattle.kx_pages.specs.declared.image.ImageType.{ImageType}
use Rattle.kx_pages.specs.Types.{needs_map}
use Rattle.kx_pages.specs.declared.image.ImageType.TheVariants as image
use Rattle.kexec_words.specs.declared.numbers.TypeWord.{TypeWord}
use Rattle.kexec_words.specs.declared.numbers.TypeWord.TheVariants as kind
use Rattle.kexec_words.specs.declared.numbers.PlanNumbers.{PlanNumbers}
use Rattle.kexec_words.specs.declared.numbers.TraceNumbers.{TraceNumbers}
use Rattle.command_table.specs.declared.faults.Which.{Which}
use Rattle.command_table.specs.declared.faults.Which.TheVariants as which
use Rattle.command_table.specs.declared.faults.UsageWhy.{UsageWhy}
use Rattle.command_table.specs.declared.faults.UsageWhy.TheVariants as why
use Rattle.command_table.specs.Arguments.{arguments_by}
use Rattle.command_table.specs.Names.{name_of}
use Rattle.command_table.specs.declared.names.Name.{Name}
use Rattle.command_table.specs.declared.names.Name.TheVariants as name

-- ---- names of files

abbrev pub is_among : Text → List Text → Bool
is_among t names = list_any (λ n. bytes_eq n t) names

-- an output has the name of an input or of another output
abbrev pub has_same_name : List Text → List Text → Bool
has_same_name [] inputs = false
has_same_name (out ∷ outs) inputs = is_among out (outs ++ inputs) || has_same_name outs inputs

-- a name that is given, before others
abbrev pub with_name : Option Text → List Text → List Text
with_name None names = names
with_name (Some t) names = t ∷ names

-- the files that are read, in the order in which they are taken
abbrev pub files_of : InputsValue → List Text
files_of i =
    i.memory ∷ i.pool
    ∷ with_name i.map (i.kernel ∷ with_name i.initrd (with_name i.purgatory i.modules))

abbrev pub crash_files_of : CrashInputsValue → Option Text → List Text
crash_files_of i map =
    i.memory ∷ with_name map
    (with_name i.notes (i.kernel ∷ with_name i.initrd (with_name i.purgatory [])))

-- ---- answers

-- what the words say, where their numbers have their forms
abbrev pub with_numbers : {A B : Type 0} → Result A Which → (A → Result B UsageWhy)
    → Result B UsageWhy
with_numbers (Ok n) go = go n
with_numbers (Err which) go = Err (why.Number which)

abbrev pub map_answer : {A B : Type 0} → (A → B) → Result A UsageWhy → Result B UsageWhy
map_answer f (Ok a) = Ok (f a)
map_answer f (Err w) = Err w

-- ---- boot and load

-- the type with its addresses, or none where the type is raw and --at is not given
abbrev pub image_from : TypeWord → Option ℕ → Option ℕ → Option ImageType
image_from kind.Auto at entry = Some image.Auto
image_from kind.Raw None entry = None
image_from kind.Raw (Some at) entry = Some (image.Raw at (unwrap_or entry at))
image_from kind.Elf at entry = Some image.Elf
image_from kind.Bzimage at entry = Some image.Bzimage
image_from kind.Multiboot at entry = Some image.Multiboot

abbrev pub image_or_refusal : InputsValue → Option ImageType → Result ImageType UsageWhy
image_or_refusal i None = Err why.NeedsAt
image_or_refusal i (Some image) =
    if needs_map image (is_some i.purgatory) && not (is_some i.map) then Err why.NeedsMap
    else Ok image

-- the image's type, or the first reason after the numbers' forms: too many modules, a name used twice, no --at, no --map
abbrev pub image_where : InputsValue → Bool → PlanNumbers → Result ImageType UsageWhy
image_where i is_same n = if nat_lt 12 (length i.modules) then Err why.TooManyModules
    else (if is_same then Err why.SameName else image_or_refusal i (image_from n.kind n.at n.entry))

-- the type and the addresses, --kept RUNS among them where the command has it
abbrev pub plan_numbers_by : Option Text → List GivenValue → Result PlanNumbers Which
plan_numbers_by kept given =
    plan_numbers_of (option_of (codes "type") given) kept (option_of (codes "at") given)
    (option_of (codes "entry") given) (option_of (codes "below") given)

-- the first page past the limit of the pool is read among the numbers
abbrev pub inputs_of : Option ℕ → List GivenValue → InputsValue
inputs_of below given = record {
  memory = word_of (codes "MEMORY") given;
  pool = word_of (codes "POOL") given;
  below = below;
  map = option_of (codes "map") given;
  kernel = word_of (codes "KERNEL") given;
  initrd = option_of (codes "initrd") given;
  purgatory = option_of (codes "purgatory") given;
  modules = words_of (codes "MODULES") given;
  command = option_of (codes "command") given;
}

abbrev pub boot_by : InputsValue → Text → PlanNumbers → ImageType → BootValue
boot_by i out n image = record { inputs = i; out = out; kept = n.kept; image = image }

abbrev pub boot_with : InputsValue → Text → PlanNumbers → Result BootValue UsageWhy
boot_with i out n =
    map_answer (boot_by i out n) (image_where i (has_same_name (out ∷ []) (files_of i)) n)

abbrev pub boot_in : List GivenValue → Result BootValue UsageWhy
boot_in given = with_numbers (plan_numbers_by (option_of (codes "kept") given) given)
    (λ n. boot_with (inputs_of n.below given) (word_of (codes "OUT") given) n)

abbrev pub load_by : InputsValue → Text → Text → Bool → ImageType → LoadValue
load_by i out load_record kept image =
    record { inputs = i; out = out; load_record = load_record; kept = kept; image = image }

abbrev pub load_with : InputsValue → Text → Text → Bool → PlanNumbers → Result LoadValue UsageWhy
load_with i out load_record kept n =
    map_answer (load_by i out load_record kept)
    (image_where i (has_same_name (out ∷ load_record ∷ []) (files_of i)) n)

abbrev pub load_in : List GivenValue → Result LoadValue UsageWhy
load_in given = with_numbers (plan_numbers_by None given)
    (λ n. load_with (inputs_of n.below given) (word_of (codes "OUT") given)
    (word_of (codes "RECORD") given) (flag_of (codes "kept") given) n)

-- ---- load-panic

abbrev pub crash_inputs_of : List GivenValue → CrashInputsValue
crash_inputs_of given = record {
  memory = word_of (codes "MEMORY") given;
  notes = option_of (codes "notes") given;
  kernel = word_of (codes "KERNEL") given;
  initrd = option_of (codes "initrd") given;
  purgatory = option_of (codes "purgatory") given;
  command = option_of (codes "command") given;
}

abbrev pub with_map : CrashInputsValue → Text → Text → Option Text → Result LoadPanicValue UsageWhy
with_map i out load_record None = Err why.NeedsMap
with_map i out load_record (Some map) =
    Ok (record { inputs = i; map = map; out = out; load_record = load_record })

abbrev pub load_panic_with : CrashInputsValue → Option Text → Text → Text
    → Result LoadPanicValue UsageWhy
load_panic_with i map out load_record =
    if has_same_name (out ∷ load_record ∷ []) (crash_files_of i map) then Err why.SameName
    else with_map i out load_record map

abbrev pub load_panic_in : List GivenValue → Result LoadPanicValue UsageWhy
load_panic_in given =
    load_panic_with (crash_inputs_of given) (option_of (codes "map") given)
    (word_of (codes "OUT") given) (word_of (codes "RECORD") given)

-- ---- check, dump, exec, trace, migrate, sample, core

abbrev pub load_names_of : List GivenValue → LoadNamesValue
load_names_of given =
    record { memory = word_of (codes "MEMORY") given; load_record = word_of (codes "RECORD") given }

abbrev pub load_names_in : List GivenValue → Result LoadNamesValue UsageWhy
load_names_in given = Ok (load_names_of given)

abbrev pub exec_of : List GivenValue → ExecValue
exec_of given = record {
  memory = word_of (codes "MEMORY") given;
  load_record = word_of (codes "RECORD") given;
  out = word_of (codes "OUT") given;
  twice = flag_of (codes "twice") given;
}

abbrev pub exec_with : ExecValue → Result ExecValue UsageWhy
exec_with e =
    if has_same_name (e.out ∷ []) (e.memory ∷ e.load_record ∷ []) then Err why.SameName
    else Ok e

abbrev pub exec_in : List GivenValue → Result ExecValue UsageWhy
exec_in given = exec_with (exec_of given)

abbrev pub trace_with : Text → Text → TraceNumbers → Result TraceValue UsageWhy
trace_with memory out n = if has_same_name (out ∷ []) (memory ∷ []) then Err why.SameName
    else Ok (record { memory = memory; out = out; head = n.head; limit = n.limit; swap = n.swap })

abbrev pub trace_numbers_by : List GivenValue → Result TraceNumbers Which
trace_numbers_by given =
    trace_numbers_of (option_of (codes "swap") given) (word_of (codes "HEAD") given)
    (word_of (codes "LIMIT") given)

abbrev pub trace_in : List GivenValue → Result TraceValue UsageWhy
trace_in given =
    with_numbers (trace_numbers_by given)
    (trace_with (word_of (codes "MEMORY") given) (word_of (codes "OUT") given))

abbrev pub migrate_of : List GivenValue → MigrateValue
migrate_of given =
    record { load_record = word_of (codes "RECORD") given; out = word_of (codes "OUT") given }

abbrev pub migrate_with : MigrateValue → Result MigrateValue UsageWhy
migrate_with m = if has_same_name (m.out ∷ []) (m.load_record ∷ []) then Err why.SameName
    else Ok m

abbrev pub migrate_in : List GivenValue → Result MigrateValue UsageWhy
migrate_in given = migrate_with (migrate_of given)

abbrev pub sample_by : List GivenValue → Result ℕ Which
sample_by given = sample_of (word_of (codes "NUMBER") given)

abbrev pub sample_in : List GivenValue → Result ℕ UsageWhy
sample_in given = with_numbers (sample_by given) (λ n. Ok n)

-- --at must be given
abbrev pub boot_resident_at : Text → Text → Text → Text → Text → Option ℕ
    → Result BootResidentValue UsageWhy
boot_resident_at memory pool out kernel pairs None = Err why.NeedsAt
boot_resident_at memory pool out kernel pairs (Some at) =
    Ok (record {
      memory = memory;
      pool = pool;
      out = out;
      kernel = kernel;
      pairs = pairs;
      at = at;
    })

abbrev pub boot_resident_with : Text → Text → Text → Text → Text → Option ℕ
    → Result BootResidentValue UsageWhy
boot_resident_with memory pool out kernel pairs at =
    if has_same_name (out ∷ []) (memory ∷ pool ∷ kernel ∷ pairs ∷ []) then Err why.SameName
    else boot_resident_at memory pool out kernel pairs at

abbrev pub resident_address_by : List GivenValue → Result (Option ℕ) Which
resident_address_by given = address_of which.At (option_of (codes "at") given)

abbrev pub boot_resident_in : List GivenValue → Result BootResidentValue UsageWhy
boot_resident_in given =
    with_numbers (resident_address_by given)
    (boot_resident_with (word_of (codes "MEMORY") given) (word_of (codes "POOL") given)
    (word_of (codes "OUT") given) (word_of (codes "KERNEL") given) (word_of (codes "PAIRS") given))

-- --map must be given
abbrev pub drill_by : Text → Text → Text → Text → Option Text → Result DrillValue UsageWhy
drill_by memory pool out events None = Err why.NeedsMap
drill_by memory pool out events (Some map) =
    Ok (record { memory = memory; pool = pool; out = out; events = events; map = map })

abbrev pub drill_with : Text → Text → Text → Text → Option Text → Result DrillValue UsageWhy
drill_with memory pool out events map =
    if has_same_name (out ∷ []) (memory ∷ pool ∷ with_name map (events ∷ [])) then
    Err why.SameName
    else drill_by memory pool out events map

abbrev pub drill_in : List GivenValue → Result DrillValue UsageWhy
drill_in given =
    drill_with (word_of (codes "MEMORY") given) (word_of (codes "POOL") given)
    (word_of (codes "OUT") given) (word_of (codes "EVENTS") given) (option_of (codes "map") given)

abbrev pub core_by : List GivenValue → Result ℕ Which
core_by given = core_address_of (word_of (codes "ADDRESS") given)

abbrev pub core_with : Text → Text → ℕ → Result CoreValue UsageWhy
core_with memory out address = if has_same_name (out ∷ []) (memory ∷ []) then Err why.SameName
    else Ok (record { memory = memory; out = out; address = address })

abbrev pub core_in : List GivenValue → Result CoreValue UsageWhy
core_in given =
    with_numbers (core_by given)
    (core_with (word_of (codes "MEMORY") given) (word_of (codes "OUT") given))

-- ---- all commands

-- what is given for the arguments of a command says this
abbrev pub command_in : Name → List GivenValue → Result CommandValue UsageWhy
command_in name.Boot given = map_answer boot (boot_in given)
command_in name.Load given = map_answer load (load_in given)
command_in name.LoadPanic given = map_answer load_panic (load_panic_in given)
command_in name.Check given = map_answer check (load_names_in given)
command_in name.Dump given = map_answer dump (load_names_in given)
command_in name.Exec given = map_answer exec (exec_in given)
command_in name.Trace given = map_answer trace (trace_in given)
command_in name.Migrate given = map_answer migrate (migrate_in given)
command_in name.Sample given = map_answer sample (sample_in given)
command_in name.BootResident given = map_answer boot_resident (boot_resident_in given)
command_in name.Drill given = map_answer drill (drill_in given)
command_in name.Core given = map_answer core (core_in given)

abbrev pub answer_where : {A : Type 0} → Kinds → Result A UsageWhy → Result A UsageWhy
answer_where [] answer = answer
answer_where (k ∷ ks) answer = Err why.Parse

-- the words have to be taken by the command; then they say what is given for its arguments
abbrev pub answer_by : {A : Type 0} → Name → (List GivenValue → Result A UsageWhy) → List Text
    → Result A UsageWhy
answer_by name read words = answer_where (fault_of (app_by name) words)
    (read (given_of (arguments_by name) (matches_of (app_by name) words)))

abbrev pub command_by_name : Option Name → List Text → Result CommandValue UsageWhy
command_by_name None words = Err why.Command
command_by_name (Some name) words = answer_by name (command_in name) words

-- what the words after the program's name say, or the first reason to refuse them
abbrev pub command_of : List Text → Result CommandValue UsageWhy
command_of [] = Err why.Command
command_of (first ∷ words) = command_by_name (name_of first) words
