-- What the words say keeps the limits.
use Rattle.std.proofs.Common.{◌≡◌, ◌∙◌, ◌<◌, ◌≤◌, ◌^◌, ◌%◌, ◌&&◌, ◌==◌, ℕ, Bool, true, false, not, List, [], ◌∷◌, length, arith, rules, sym, subst, refl, is_some, Option, Some, None, IfSome, IfOk, Result, Ok, Err, nat_lt, nat_le, if◌then◌else◌, codes}
use Rattle.std.proofs.lemmas.Bool.{false≢true}
use Rattle.clap.specs.Words.{fault_of, matches_of}
use Rattle.command_table.specs.Arguments.{arguments_by}
use Rattle.command_table.specs.Table.{Text}
use Rattle.clap.specs.Kinds.{Kinds}
use Rattle.clap.proofs.WalkLemmas.{both}
use Rattle.kexec_words.specs.Given.{GivenValue, given_of, option_of, word_of, flag_of}
use Rattle.kx_pages.specs.Numbers.{is_page_address}
use Rattle.kexec_words.specs.Numbers.{number_of, if_passes, in_form, some_in_form, hex_of, page_address_of, steps_of, swap_of, head_of, limit_of, trace_numbers_from, is_headers_address, headers_address_of, core_address_of}
use Rattle.kexec_words.specs.Values.{InputsValue, CrashInputsValue, ExecValue, MigrateValue, CommandValue}
use Rattle.kexec_words.specs.Values.{boot, load, load_panic, check, dump, exec, trace, migrate, sample, boot_resident, drill, core}
use Rattle.kx_pages.specs.Types.{needs_map}
use Rattle.kexec_words.specs.Meaning.{has_same_name, files_of, crash_files_of, with_numbers, map_answer, image_from, image_or_refusal, image_where, inputs_of, boot_by, boot_with, boot_in, load_by, load_with, load_in, with_map, load_panic_with, load_panic_in, crash_inputs_of, exec_of, exec_with, exec_in, trace_with, trace_in, trace_numbers_by, migrate_of, migrate_with, migrate_in, sample_by, sample_in, boot_resident_at, boot_resident_with, boot_resident_in, resident_address_by, drill_by, drill_with, drill_in, core_by, core_with, core_in, answer_where, command_in, command_by_name, plan_numbers_by}
use Rattle.kexec_words.specs.Meaning.{load_names_in}
use Rattle.kexec_words.specs.inner.Meaning.{Answers}
use Rattle.kexec_words.specs.inner.Values.{command_value}
use Rattle.kexec_words.specs.Apps.{app_by}
use Rattle.kexec_words.specs.declared.commands.Command.{Command}
use Rattle.kexec_words.specs.declared.faults.WordsFault.{WordsFault}
use Rattle.kexec_words.specs.inner.Limits.{HasParts, IsWithinLimits, HasOutputsApart}
use Rattle.kx_pages.specs.declared.image.ImageType.{ImageType}
use Rattle.kexec_words.specs.declared.numbers.PlanNumbers.{PlanNumbers}
use Rattle.kexec_words.specs.declared.numbers.TraceNumbers.{TraceNumbers}
use Rattle.command_table.specs.declared.faults.Which.{Which}
use Rattle.command_table.specs.declared.faults.Which.TheVariants as which
use Rattle.command_table.specs.declared.faults.UsageWhy.{UsageWhy}
use Rattle.command_table.specs.declared.faults.UsageWhy.TheVariants as why
use Rattle.command_table.specs.declared.names.Name.{Name}
use Rattle.command_table.specs.declared.names.Name.TheVariants as name
use Rattle.kexec_words.proofs.Digits.{number_has}

abbrev Keeps : CommandValue → Type 0
Keeps v = IsWithinLimits v × HasOutputsApart v

mapped_has : {A B : Type 0} (f : A → B) (r : Result A UsageWhy) (P : A → Type 0) (Q : B → Type 0) → ((a : A) → P a → Q (f a)) → IfOk r P → IfOk (map_answer f r) Q
mapped_has f (Ok a) P Q to h = to a h
mapped_has f (Err w) P Q to h = tt

taken_has : {A : Type 0} (kinds : Kinds) (r : Result A UsageWhy) (P : A → Type 0) → IfOk r P → IfOk (answer_where kinds r) P
taken_has [] r P h = h
taken_has (k ∷ ks) r P h = tt

numbers_has : {A B : Type 0} (r : Result A Which) (go : A → Result B UsageWhy) (P : A → Type 0) (Q : B → Type 0)
    → IfOk r P → ((n : A) → P n → IfOk (go n) Q) → IfOk (with_numbers r go) Q
numbers_has (Ok n) go P Q h to = to n h
numbers_has (Err w) go P Q h to = tt

anything : {A E : Type 0} (r : Result A E) → IfOk r (λ _. Unit {0})
anything (Ok a) = tt
anything (Err e) = tt

-- ---- boot and load

typed_has : (i : InputsValue) (o : Option ImageType) → IfOk (image_or_refusal i o) (λ image. needs_map image (is_some i.purgatory) ≡ true → is_some i.map ≡ true)
typed_has i None = tt
typed_has i (Some image) = go (needs_map image (is_some i.purgatory)) refl (is_some i.map) refl
  where
    go : (x : Bool) → needs_map image (is_some i.purgatory) ≡ x → (y : Bool) → is_some i.map ≡ y
        → IfOk (if x && not y then Err why.NeedsMap else Ok image) (λ image. needs_map image (is_some i.purgatory) ≡ true → is_some i.map ≡ true)
    go true e true f = λ _. f
    go true e false f = tt
    go false e y f = λ t. absurd (false≢true (sym e ∙ t))

image_has : (i : InputsValue) (b : Bool) (n : PlanNumbers) → IfOk (image_where i b n) (λ image. HasParts i image × (b ≡ false))
image_has i b n = go (nat_lt 12 (length i.modules)) refl b (image_from n.kind n.at n.entry)
  where
    last : (o : Result ImageType UsageWhy) → length i.modules ≤ 12 → IfOk o (λ image. needs_map image (is_some i.purgatory) ≡ true → is_some i.map ≡ true)
        → IfOk o (λ image. HasParts i image × (false ≡ false))
    last (Ok image) few h = ((few, h), refl)
    last (Err w) few h = tt

    go : (x : Bool) → nat_lt 12 (length i.modules) ≡ x → (y : Bool) → (o : Option ImageType)
        → IfOk (if x then Err why.TooManyModules else (if y then Err why.SameName else image_or_refusal i o)) (λ image. HasParts i image × (y ≡ false))
    go true e y o = tt
    go false e true o = tt
    go false e false o = let few : length i.modules ≤ 12 = search (rules, e) in last (image_or_refusal i o) few (typed_has i o)

boot_has : (i : InputsValue) (o : Text) (n : PlanNumbers) → IfOk (boot_with i o n) (λ b. Keeps (boot b))
boot_has i o n = mapped_has (boot_by i o n) (image_where i (has_same_name (o ∷ []) (files_of i)) n) _ _ (λ image h. h)
    (image_has i (has_same_name (o ∷ []) (files_of i)) n)

load_has : (i : InputsValue) (o q : Text) (k : Bool) (n : PlanNumbers) → IfOk (load_with i o q k n) (λ l. Keeps (load l))
load_has i o q k n = mapped_has (load_by i o q k) (image_where i (has_same_name (o ∷ q ∷ []) (files_of i)) n) _ _ (λ image h. h)
    (image_has i (has_same_name (o ∷ q ∷ []) (files_of i)) n)

boot_keeps : (given : List GivenValue) → IfOk (boot_in given) (λ b. Keeps (boot b))
boot_keeps given = numbers_has (plan_numbers_by (option_of (codes "kept") given) given) (λ n. boot_with (inputs_of n.below given) (word_of (codes "OUT") given) n) (λ _. Unit {0}) _
    (anything (plan_numbers_by (option_of (codes "kept") given) given)) (λ n _. boot_has (inputs_of n.below given) (word_of (codes "OUT") given) n)

load_keeps : (given : List GivenValue) → IfOk (load_in given) (λ l. Keeps (load l))
load_keeps given = numbers_has (plan_numbers_by None given)
    (λ n. load_with (inputs_of n.below given) (word_of (codes "OUT") given) (word_of (codes "RECORD") given) (flag_of (codes "kept") given) n) (λ _. Unit {0}) _
    (anything (plan_numbers_by None given))
    (λ n _. load_has (inputs_of n.below given) (word_of (codes "OUT") given) (word_of (codes "RECORD") given) (flag_of (codes "kept") given) n)

-- ---- load-panic and exec

panic_has : (i : CrashInputsValue) (m : Option Text) (o q : Text) → IfOk (load_panic_with i m o q) (λ l. Keeps (load_panic l))
panic_has i None o q = go (has_same_name (o ∷ q ∷ []) (crash_files_of i None))
  where
    go : (x : Bool) → IfOk (if x then Err why.SameName else with_map i o q None) (λ l. Keeps (load_panic l))
    go true = tt
    go false = tt
panic_has i (Some m) o q = go (has_same_name (o ∷ q ∷ []) (crash_files_of i (Some m))) refl
  where
    go : (x : Bool) → has_same_name (o ∷ q ∷ []) (crash_files_of i (Some m)) ≡ x
        → IfOk (if x then Err why.SameName else with_map i o q (Some m)) (λ l. Keeps (load_panic l))
    go true e = tt
    go false e = (tt, e)

panic_keeps : (given : List GivenValue) → IfOk (load_panic_in given) (λ l. Keeps (load_panic l))
panic_keeps given = panic_has (crash_inputs_of given) (option_of (codes "map") given) (word_of (codes "OUT") given) (word_of (codes "RECORD") given)

exec_has : (v : ExecValue) → IfOk (exec_with v) (λ e. Keeps (exec e))
exec_has v = go (has_same_name (v.out ∷ []) (v.memory ∷ v.load_record ∷ [])) refl
  where
    go : (x : Bool) → has_same_name (v.out ∷ []) (v.memory ∷ v.load_record ∷ []) ≡ x → IfOk (if x then Err why.SameName else Ok v) (λ e. Keeps (exec e))
    go true e = tt
    go false e = (tt, e)

-- ---- trace, migrate and sample

passing_has : (test : ℕ → Bool) (o : Option ℕ) → IfSome (if_passes test o) (λ n. test n ≡ true)
passing_has test None = tt
passing_has test (Some n) = go (test n) refl
  where
    go : (x : Bool) → test n ≡ x → IfSome (if x then Some n else None) (λ n. test n ≡ true)
    go true e = e
    go false e = tt

in_form_has : {A : Type 0} (w : Which) (o : Option A) (P : A → Type 0) → IfSome o P → IfOk (in_form w o) P
in_form_has w (Some a) P h = h
in_form_has w None P h = tt

limit_has : (t : Text) → IfOk (limit_of t) (λ n. nat_le n 100000000 ≡ true)
limit_has t = in_form_has which.Limit (steps_of t) _ (passing_has (λ n. nat_le n 100000000) (number_of 10 9 t))

some_has : (w : Which) (o : Option ℕ) (P : ℕ → Type 0) → IfSome o P → IfOk (some_in_form w o) (λ s. IfSome s P)
some_has w (Some a) P h = h
some_has w None P h = tt

swap_has : (o : Option Text) → IfOk (swap_of o) (λ s. IfSome s (λ a. is_page_address a ≡ true))
swap_has None = tt
swap_has (Some t) = some_has which.Swap (page_address_of t) _ (passing_has is_page_address (hex_of t))

abbrev InRange : TraceNumbers → Type 0
InRange n = (nat_le n.limit 100000000 ≡ true) × IfSome n.swap (λ a. is_page_address a ≡ true)

trace_numbers_has : (s : Result (Option ℕ) Which) (h l : Result ℕ Which) → IfOk s (λ s. IfSome s (λ a. is_page_address a ≡ true))
    → IfOk l (λ n. nat_le n 100000000 ≡ true) → IfOk (trace_numbers_from s h l) InRange
trace_numbers_has (Err w) h l p q = tt
trace_numbers_has (Ok s) (Err w) l p q = tt
trace_numbers_has (Ok s) (Ok h) (Err w) p q = tt
trace_numbers_has (Ok s) (Ok h) (Ok l) p q = (q, p)

page_has : (s : Option ℕ) → IfSome s (λ a. is_page_address a ≡ true) → IfSome s (λ a. (a < 2 ^ 46) × (a % 4096 ≡ 0))
page_has None h = tt
page_has (Some a) h =
    let p = both (a % 4096 == 0) (nat_lt a (2 ^ 46)) h in
    let low : a < 2 ^ 46 = search (rules, p.1) in
    let whole : a % 4096 ≡ 0 = search (rules, p.0) in
    (low, whole)

trace_has : (m o : Text) (n : TraceNumbers) → InRange n → IfOk (trace_with m o n) (λ t. Keeps (trace t))
trace_has m o n h = go (has_same_name (o ∷ []) (m ∷ [])) refl
  where
    go : (x : Bool) → has_same_name (o ∷ []) (m ∷ []) ≡ x
        → IfOk (if x then Err why.SameName else Ok (record { memory = m; out = o; head = n.head; limit = n.limit; swap = n.swap })) (λ t. Keeps (trace t))
    go true e = tt
    go false e = let few : n.limit ≤ 100000000 = search (rules, h.0) in ((few, page_has n.swap h.1), e)

trace_keeps : (given : List GivenValue) → IfOk (trace_in given) (λ t. Keeps (trace t))
trace_keeps given = numbers_has (trace_numbers_by given) (trace_with (word_of (codes "MEMORY") given) (word_of (codes "OUT") given)) InRange _
    (trace_numbers_has (swap_of (option_of (codes "swap") given)) (head_of (word_of (codes "HEAD") given)) (limit_of (word_of (codes "LIMIT") given))
    (swap_has (option_of (codes "swap") given)) (limit_has (word_of (codes "LIMIT") given)))
    (trace_has (word_of (codes "MEMORY") given) (word_of (codes "OUT") given))

migrate_has : (v : MigrateValue) → IfOk (migrate_with v) (λ m. Keeps (migrate m))
migrate_has v = go (has_same_name (v.out ∷ []) (v.load_record ∷ [])) refl
  where
    go : (x : Bool) → has_same_name (v.out ∷ []) (v.load_record ∷ []) ≡ x → IfOk (if x then Err why.SameName else Ok v) (λ m. Keeps (migrate m))
    go true e = tt
    go false e = (tt, e)

sample_keeps : (given : List GivenValue) → IfOk (sample_in given) (λ n. Keeps (sample n))
sample_keeps given =
    let two : 2 ≤ 10 = omega arith in
    numbers_has (sample_by given) (λ n. Ok n) (λ n. n < 10 ^ 18) (λ n. Keeps (sample n))
    (in_form_has which.Number (number_of 10 18 (word_of (codes "NUMBER") given)) _ (number_has 10 18 (word_of (codes "NUMBER") given) two)) (λ n h. (h, tt))

address_has : (t : Text) → IfOk (core_address_of t) (λ a. is_headers_address a ≡ true)
address_has t = in_form_has which.Address (headers_address_of t) _ (passing_has is_headers_address (hex_of t))

core_has : (m o : Text) (a : ℕ) → is_headers_address a ≡ true → IfOk (core_with m o a) (λ c. Keeps (core c))
core_has m o a h = go (has_same_name (o ∷ []) (m ∷ [])) refl
  where
    go : (x : Bool) → has_same_name (o ∷ []) (m ∷ []) ≡ x
        → IfOk (if x then Err why.SameName else Ok (record { memory = m; out = o; address = a })) (λ c. Keeps (core c))
    go true e = tt
    go false e =
        let p = both (a % 8 == 0) (nat_lt a (2 ^ 46)) h in
        let low : a < 2 ^ 46 = search (rules, p.1) in
        let whole : a % 8 ≡ 0 = search (rules, p.0) in
        ((low, whole), e)

core_keeps : (given : List GivenValue) → IfOk (core_in given) (λ c. Keeps (core c))
core_keeps given = numbers_has (core_by given) (core_with (word_of (codes "MEMORY") given) (word_of (codes "OUT") given)) (λ a. is_headers_address a ≡ true) _
    (address_has (word_of (codes "ADDRESS") given)) (core_has (word_of (codes "MEMORY") given) (word_of (codes "OUT") given))

-- ---- boot-resident and drill

resident_has : (m p o k q : Text) (at : Option ℕ) → IfOk (boot_resident_with m p o k q at) (λ b. Keeps (boot_resident b))
resident_has m p o k q None = go (has_same_name (o ∷ []) (m ∷ p ∷ k ∷ q ∷ []))
  where
    go : (x : Bool) → IfOk (if x then Err why.SameName else boot_resident_at m p o k q None) (λ b. Keeps (boot_resident b))
    go true = tt
    go false = tt
resident_has m p o k q (Some at) = go (has_same_name (o ∷ []) (m ∷ p ∷ k ∷ q ∷ [])) refl
  where
    go : (x : Bool) → has_same_name (o ∷ []) (m ∷ p ∷ k ∷ q ∷ []) ≡ x
        → IfOk (if x then Err why.SameName else boot_resident_at m p o k q (Some at)) (λ b. Keeps (boot_resident b))
    go true e = tt
    go false e = (tt, e)

resident_keeps : (given : List GivenValue) → IfOk (boot_resident_in given) (λ b. Keeps (boot_resident b))
resident_keeps given = numbers_has (resident_address_by given)
    (boot_resident_with (word_of (codes "MEMORY") given) (word_of (codes "POOL") given) (word_of (codes "OUT") given) (word_of (codes "KERNEL") given) (word_of (codes "PAIRS") given))
    (λ _. Unit {0}) _ (anything (resident_address_by given))
    (λ at _. resident_has (word_of (codes "MEMORY") given) (word_of (codes "POOL") given) (word_of (codes "OUT") given) (word_of (codes "KERNEL") given) (word_of (codes "PAIRS") given) at)

drill_has : (m p o v : Text) (map : Option Text) → IfOk (drill_with m p o v map) (λ d. Keeps (drill d))
drill_has m p o v None = go (has_same_name (o ∷ []) (m ∷ p ∷ v ∷ []))
  where
    go : (x : Bool) → IfOk (if x then Err why.SameName else drill_by m p o v None) (λ d. Keeps (drill d))
    go true = tt
    go false = tt
drill_has m p o v (Some map) = go (has_same_name (o ∷ []) (m ∷ p ∷ map ∷ v ∷ [])) refl
  where
    go : (x : Bool) → has_same_name (o ∷ []) (m ∷ p ∷ map ∷ v ∷ []) ≡ x
        → IfOk (if x then Err why.SameName else drill_by m p o v (Some map)) (λ d. Keeps (drill d))
    go true e = tt
    go false e = (tt, e)

drill_keeps : (given : List GivenValue) → IfOk (drill_in given) (λ d. Keeps (drill d))
drill_keeps given = drill_has (word_of (codes "MEMORY") given) (word_of (codes "POOL") given) (word_of (codes "OUT") given) (word_of (codes "EVENTS") given) (option_of (codes "map") given)

-- ---- all commands

said : {A : Type 0} (as_command : A → CommandValue) (read : Result A UsageWhy) → IfOk read (λ a. Keeps (as_command a)) → IfOk (map_answer as_command read) Keeps
said as_command read keeps = mapped_has as_command read (λ a. Keeps (as_command a)) Keeps (λ a h. h) keeps

given_keeps : (n : Name) (given : List GivenValue) → IfOk (command_in n given) Keeps
given_keeps name.Boot given = said boot (boot_in given) (boot_keeps given)
given_keeps name.Load given = said load (load_in given) (load_keeps given)
given_keeps name.LoadPanic given = said load_panic (load_panic_in given) (panic_keeps given)
given_keeps name.Check given = said check (load_names_in given) (tt, tt)
given_keeps name.Dump given = said dump (load_names_in given) (tt, tt)
given_keeps name.Exec given = said exec (exec_in given) (exec_has (exec_of given))
given_keeps name.Trace given = said trace (trace_in given) (trace_keeps given)
given_keeps name.Migrate given = said migrate (migrate_in given) (migrate_has (migrate_of given))
given_keeps name.Sample given = said sample (sample_in given) (sample_keeps given)
given_keeps name.BootResident given = said boot_resident (boot_resident_in given) (resident_keeps given)
given_keeps name.Drill given = said drill (drill_in given) (drill_keeps given)
given_keeps name.Core given = said core (core_in given) (core_keeps given)

named_keeps : (o : Option Name) (words : List Text) → IfOk (command_by_name o words) Keeps
named_keeps None words = tt
named_keeps (Some n) words =
    let given = given_of (arguments_by n) (matches_of (app_by n) words) in
    taken_has (fault_of (app_by n) words) (command_in n given) Keeps (given_keeps n given)

-- a command that is answered keeps the limits
pub within_limits : (o : Option Name) (words : List Text) (r : Result Command WordsFault) → Answers command_value (command_by_name o words) r
    → IfOk r (λ c. IsWithinLimits (command_value c))
within_limits o words (Ok c) h = let keeps : Keeps (command_value c) = subst (λ x. IfOk x Keeps) h (named_keeps o words) in keeps.0
within_limits o words (Err e) h = tt

-- and its outputs are apart
pub outputs_apart : (o : Option Name) (words : List Text) (r : Result Command WordsFault) → Answers command_value (command_by_name o words) r
    → IfOk r (λ c. HasOutputsApart (command_value c))
outputs_apart o words (Ok c) h = let keeps : Keeps (command_value c) = subst (λ x. IfOk x Keeps) h (named_keeps o words) in keeps.1
outputs_apart o words (Err e) h = tt
