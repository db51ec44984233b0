-- From what is given for the arguments to what the words of a command say.
use Rattle.std.proofs.Common.{◌≡◌, ◌∙◌, ap, sym, refl, subst, true, List, [], ◌∷◌, Result, Ok, Err}
use Rattle.std.specs.Result.{IsErrAnd}
use Rattle.clap.specs.Words.{fault_of, found_of, is_simple_and_free, matches_of, rows_of}
use Rattle.clap.specs.declared.parser.matches.ArgMatches.{ArgMatches}
use Rattle.clap.specs.Kinds.{Kinds}
use Rattle.clap.proofs.OnLiterals.{clap_on_literals}
use Rattle.command_table.specs.Arguments.{arguments_by}
use Rattle.command_table.specs.Table.{Text}
use Rattle.command_table.specs.declared.faults.UsageWhy.{UsageWhy}
use Rattle.command_table.specs.declared.faults.UsageWhy.TheVariants as why
use Rattle.command_table.specs.declared.names.Name.{Name}
use Rattle.command_table.specs.declared.names.Name.TheVariants as name
use Rattle.kexec_words.specs.Apps.{app_by}
use Rattle.kexec_words.specs.Given.{GivenValue, given_of}
use Rattle.kexec_words.specs.Meaning.{answer_by, answer_where}
use Rattle.kexec_words.specs.inner.Given.{Parses}
use Rattle.kexec_words.specs.inner.Meaning.{Answers}
use Rattle.kexec_words.specs.declared.faults.WordsFault.{WordsFault}
use Rattle.kexec_words.specs.declared.faults.WordsFault.TheVariants.{Memory, Usage}

-- clap states of each command what it takes
pub simple : (n : Name) → is_simple_and_free (app_by n) ≡ true
unfolding clap_on_literals
simple name.Boot = refl
simple name.Load = refl
simple name.LoadPanic = refl
simple name.Check = refl
simple name.Dump = refl
simple name.Exec = refl
simple name.Trace = refl
simple name.Migrate = refl
simple name.Sample = refl
simple name.BootResident = refl
simple name.Drill = refl
simple name.Core = refl

-- what is found in words that are taken is what they give
pub given_taken : (n : Name) (words : List Text) (m : ArgMatches) (given : List GivenValue) → Parses (app_by n) words (Ok m)
    → given ≡ given_of (arguments_by n) (rows_of (found_of m)) → answer_by n (λ given. Ok given) words ≡ Ok given
given_taken n words m given p e =
    let found = given_of (arguments_by n) (matches_of (app_by n) words) in
    ap (λ kinds. answer_where kinds (Ok found)) p.0 ∙ ap (λ x. answer_where [] (Ok x)) (sym (e ∙ ap (given_of (arguments_by n)) p.1))

no_kind : {A : Type 0} (kinds : Kinds) (answer : Result A UsageWhy) → (kinds ≡ [] → ⊥) → answer_where kinds answer ≡ Err why.Parse
no_kind [] answer h = absurd (h refl)
no_kind (k ∷ ks) answer h = refl

-- words that are not taken are refused
pub given_refused : {A B : Type 0} (value : B → A) (n : Name) (read : List GivenValue → Result A UsageWhy) (words : List Text) (e : WordsFault)
    → Parses (app_by n) words (Err e) → Answers value (answer_by n read words) (Err e)
given_refused value n read words Memory p = tt
given_refused value n read words (Usage why.Parse) p =
    no_kind (fault_of (app_by n) words) (read (given_of (arguments_by n) (matches_of (app_by n) words))) p
given_refused value n read words (Usage why.Command) p = absurd p
given_refused value n read words (Usage (why.Number w)) p = absurd p
given_refused value n read words (Usage why.TooManyModules) p = absurd p
given_refused value n read words (Usage why.SameName) p = absurd p
given_refused value n read words (Usage why.NeedsAt) p = absurd p
given_refused value n read words (Usage why.NeedsMap) p = absurd p

abbrev IsOk : {A : Type 0} → A → Result A UsageWhy → Type 0
IsOk a (Ok b) = a ≡ b
IsOk a (Err w) = ⊥

abbrev IsErr : {A : Type 0} → UsageWhy → Result A UsageWhy → Type 0
IsErr v (Ok b) = ⊥
IsErr v (Err w) = v ≡ w

read_given : {A : Type 0} (kinds : Kinds) (found given : List GivenValue) (read : List GivenValue → Result A UsageWhy)
    → answer_where kinds (Ok found) ≡ Ok given → read given ≡ answer_where kinds (read found)
read_given [] found given read e = let same : found ≡ given = subst (IsOk found) e refl in ap read (sym same)
read_given (k ∷ ks) found given read e = absurd (subst (IsErr why.Parse) e refl)

read_refused : {A : Type 0} (kinds : Kinds) (found : List GivenValue) (w : UsageWhy) (read : List GivenValue → Result A UsageWhy)
    → answer_where kinds (Ok found) ≡ Err w → answer_where kinds (read found) ≡ Err w
read_refused [] found w read e = absurd (subst (IsOk found) e refl)
read_refused (k ∷ ks) found w read e = let same : why.Parse ≡ w = subst (IsErr why.Parse) e refl in rw same refl

-- words say what is read of what they give
pub answers_given : {A B : Type 0} (value : B → A) (n : Name) (read : List GivenValue → Result A UsageWhy) (words : List Text) (given : List GivenValue) (r : Result B WordsFault)
    → answer_by n (λ given. Ok given) words ≡ Ok given → Answers value (read given) r → Answers value (answer_by n read words) r
answers_given value n read words given r e h =
    subst (λ x. Answers value x r) (read_given (fault_of (app_by n) words) (given_of (arguments_by n) (matches_of (app_by n) words)) given read e) h

-- and what they do not give, they do not say
pub answers_refused : {A B : Type 0} (value : B → A) (n : Name) (read : List GivenValue → Result A UsageWhy) (words : List Text) (e : WordsFault)
    → ((w : UsageWhy) → e ≡ Usage w → answer_by n (λ given. Ok given) words ≡ Err w) → Answers value (answer_by n read words) (Err e)
answers_refused value n read words Memory h = tt
answers_refused value n read words (Usage w) h =
    read_refused (fault_of (app_by n) words) (given_of (arguments_by n) (matches_of (app_by n) words)) w read (h w refl)

-- the exit of a `?`
pub exits : {A B : Type 0} (value : B → A) (said : Result A UsageWhy) (r : Result B WordsFault) (e : WordsFault)
    → IsErrAnd r (λ f. f ≡ e) → Answers value said (Err e) → Answers value said r
exits value said (Ok b) e h a = absurd h
exits value said (Err f) e h a = subst (λ x. Answers value said (Err x)) (sym h) a
