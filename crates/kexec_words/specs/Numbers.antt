-- Numbers and types in words (this project's own).
use Rattle.std.specs.Prelude.{ℕ, ◌&&◌, ◌==◌, ◌%◌, ◌/◌, ◌^◌, Bool, Option, Some, None, Result, Ok, Err, length, nat_lt, nat_le, codes, if◌then◌else◌, option_map}
use Rattle.std.specs.List.{list_all}
use Rattle.std.specs.Str.{bytes_eq}
use Rattle.std.specs.Char.{digit_value}
use Rattle.std.specs.Str.Parse.{digits_value}
use Rattle.clap.specs.Words.{Text}
use Rattle.kx_pages.specs.Numbers.{is_page_address}
use Rattle.kexec_words.specs.declared.commands.Runs.{Runs}
use Rattle.kexec_words.specs.declared.commands.Runs.TheVariants.{Once, Twice}
use Rattle.command_table.specs.declared.faults.Which.{Which}
use Rattle.command_table.specs.declared.faults.Which.TheVariants as which
use Rattle.kexec_words.specs.declared.numbers.TypeWord.{TypeWord}
use Rattle.kexec_words.specs.declared.numbers.TypeWord.TheVariants as kind
use Rattle.kexec_words.specs.declared.numbers.PlanNumbers.{PlanNumbers}
use Rattle.kexec_words.specs.declared.numbers.TraceNumbers.{TraceNumbers}

-- 1 to `most` digits in a base; those above 9 are letters, of either case
abbrev pub is_number : ℕ → ℕ → Text → Bool
is_number base most t =
    nat_lt 0 (length t) && (nat_le (length t) most && list_all (λ d. nat_lt (digit_value d) base) t)

abbrev pub number_of : ℕ → ℕ → Text → Option ℕ
number_of base most t = if is_number base most t then Some (digits_value base t) else None

-- an address or a head word: 1 to 16 hexadecimal digits
abbrev pub hex_of : Text → Option ℕ
hex_of = number_of 16 16

-- a number that passes a test
abbrev pub if_passes : (ℕ → Bool) → Option ℕ → Option ℕ
if_passes test None = None
if_passes test (Some n) = if test n then Some n else None

-- the address of a page
abbrev pub page_address_of : Text → Option ℕ
page_address_of t = if_passes is_page_address (hex_of t)

-- a limit of the pool's pages: a multiple of 4,096 up to 2 ^ 46
abbrev pub is_pool_limit : ℕ → Bool
is_pool_limit a = (a % 4096 == 0) && nat_le a (2 ^ 46)

abbrev pub pool_limit_of : Text → Option ℕ
pool_limit_of t = if_passes is_pool_limit (hex_of t)

-- the first page past a limit; none past 2 ^ 46, below which all pages lie
abbrev pub first_past : ℕ → Option ℕ
first_past limit = if nat_lt limit (2 ^ 46) then Some (limit / 4096) else None

-- the number of steps: 1 to 9 decimal digits, at most 100,000,000
abbrev pub steps_of : Text → Option ℕ
steps_of t = if_passes (λ n. nat_le n 100000000) (number_of 10 9 t)

abbrev pub type_word_of : Text → Option TypeWord
type_word_of t = if bytes_eq t (codes "raw") then Some kind.Raw
    else (if bytes_eq t (codes "elf") then Some kind.Elf
    else (if bytes_eq t (codes "bzimage") then Some kind.Bzimage
    else (if bytes_eq t (codes "multiboot") then Some kind.Multiboot else None)))

abbrev pub runs_of : Text → Option Runs
runs_of t = if bytes_eq t (codes "1") then Some Once
    else (if bytes_eq t (codes "2") then Some Twice else None)

-- what has its form, or the name of what has not
abbrev pub in_form : {A : Type 0} → Which → Option A → Result A Which
in_form w (Some a) = Ok a
in_form w None = Err w

abbrev pub some_in_form : {A : Type 0} → Which → Option A → Result (Option A) Which
some_in_form w (Some a) = Ok (Some a)
some_in_form w None = Err w

-- an option that is not given, or is given in its form
abbrev pub option_in_form : {A : Type 0} → Which → (Text → Option A) → Option Text
    → Result (Option A) Which
option_in_form w read None = Ok None
option_in_form w read (Some t) = some_in_form w (read t)

-- --type; auto where it is not given
abbrev pub type_of : Option Text → Result TypeWord Which
type_of None = Ok kind.Auto
type_of (Some t) = in_form which.Type (type_word_of t)

-- --kept RUNS
abbrev pub kept_of : Option Text → Result (Option Runs) Which
kept_of = option_in_form which.Kept runs_of

-- --at and --entry
abbrev pub address_of : Which → Option Text → Result (Option ℕ) Which
address_of w = option_in_form w hex_of

-- --below, as the first page past it; none where no page lies past it
abbrev pub below_of : Option Text → Result (Option ℕ) Which
below_of None = Ok None
below_of (Some t) = in_form which.Below (option_map first_past (pool_limit_of t))

-- --swap
abbrev pub swap_of : Option Text → Result (Option ℕ) Which
swap_of = option_in_form which.Swap page_address_of

abbrev pub head_of : Text → Result ℕ Which
head_of t = in_form which.Head (hex_of t)

abbrev pub limit_of : Text → Result ℕ Which
limit_of t = in_form which.Limit (steps_of t)

-- NUMBER: 1 to 18 decimal digits
abbrev pub sample_of : Text → Result ℕ Which
sample_of t = in_form which.Number (number_of 10 18 t)

-- ADDRESS: a multiple of 8 below 2 ^ 46
abbrev pub is_headers_address : ℕ → Bool
is_headers_address a = (a % 8 == 0) && nat_lt a (2 ^ 46)

abbrev pub headers_address_of : Text → Option ℕ
headers_address_of t = if_passes is_headers_address (hex_of t)

abbrev pub core_address_of : Text → Result ℕ Which
core_address_of t = in_form which.Address (headers_address_of t)

-- all five, or the first that has not its form
abbrev pub plan_numbers_from : Result TypeWord Which → Result (Option Runs) Which
    → Result (Option ℕ) Which → Result (Option ℕ) Which → Result (Option ℕ) Which
    → Result PlanNumbers Which
plan_numbers_from (Err w) r a e b = Err w
plan_numbers_from (Ok k) (Err w) a e b = Err w
plan_numbers_from (Ok k) (Ok r) (Err w) e b = Err w
plan_numbers_from (Ok k) (Ok r) (Ok a) (Err w) b = Err w
plan_numbers_from (Ok k) (Ok r) (Ok a) (Ok e) (Err w) = Err w
plan_numbers_from (Ok k) (Ok r) (Ok a) (Ok e) (Ok b) =
    Ok (record { kind = k; kept = r; at = a; entry = e; below = b })

abbrev pub plan_numbers_of : Option Text → Option Text → Option Text → Option Text → Option Text
    → Result PlanNumbers Which
plan_numbers_of kind kept at entry below =
    plan_numbers_from (type_of kind) (kept_of kept) (address_of which.At at)
    (address_of which.Entry entry) (below_of below)

abbrev pub trace_numbers_from : Result (Option ℕ) Which → Result ℕ Which → Result ℕ Which
    → Result TraceNumbers Which
trace_numbers_from (Err w) h l = Err w
trace_numbers_from (Ok s) (Err w) l = Err w
trace_numbers_from (Ok s) (Ok h) (Err w) = Err w
trace_numbers_from (Ok s) (Ok h) (Ok l) = Ok (record { swap = s; head = h; limit = l })

abbrev pub trace_numbers_of : Option Text → Text → Text → Result TraceNumbers Which
trace_numbers_of swap head limit = trace_numbers_from (swap_of swap) (head_of head) (limit_of limit)
