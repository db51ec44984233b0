-- What the calls that take, make and deliver answer, read plainly: names are the bytes of the names, and the role of a file
-- is not seen. This project's own.
-- No clause of `kexec` reaches what stands here: it serves laws, and contracts inside the crates.
use Rattle.std.specs.Prelude.{◌≡◌, ℕ, List, ◌++◌, map, string_bytes, Result, Ok, Err}
use Rattle.file_commands.specs.declared.take.FileParts.{FileParts}
use Rattle.command_table.specs.declared.roles.Role.{Role}
use Rattle.kx_edge.specs.declared.edge.Shelf.{Ghosts as Shelf}
use Rattle.file_commands.specs.declared.stop.TakeFault.{TakeFault}
use Rattle.file_commands.specs.declared.stop.TakeFault.TheVariants as takes
use Rattle.file_commands.specs.declared.stop.MakeFault.{MakeFault}
use Rattle.file_commands.specs.declared.stop.MakeFault.TheVariants as makes
use Rattle.file_commands.specs.declared.stop.Stop.{Stop}
use Rattle.file_commands.specs.declared.stop.Stop.TheVariants as stop
use Rattle.file_commands.specs.declared.goods.File.{File as MadeFile}
use Rattle.file_commands.specs.declared.goods.Goods.{Goods as MadeGoods}
use Rattle.file_commands.specs.Taking.{File, Refusal, Take, Took, FailedAt, WantedAt, too_long, by}
use Rattle.file_commands.specs.Answers.{Answer, Goods, done, not_accepted, unread, unwritten, unsaid, memory, refused}

-- how a call ended
abbrev pub answer_of : {F R : Type 0} → Stop F R → Answer F R
answer_of (stop.NotAccepted fault) = not_accepted fault
answer_of (stop.Unread role name) = unread (string_bytes name)
answer_of (stop.Unwritten role name) = unwritten (string_bytes name)
answer_of stop.Unsaid = unsaid
answer_of (stop.TooLong role name limit) = refused (too_long (string_bytes name) limit)
answer_of (stop.Refused why) = refused (by why)
answer_of stop.Memory = memory

abbrev pub call_answer : {T F R : Type 0} → Result T (Stop F R) → Answer F R
call_answer (Ok v) = done
call_answer (Err s) = answer_of s

-- the answers that hand on why files were not taken, and why nothing was made
abbrev pub take_answer : {F R : Type 0} → TakeFault R → Answer F R
take_answer (takes.Unread role name) = unread (string_bytes name)
take_answer (takes.TooLong role name limit) = refused (too_long (string_bytes name) limit)
take_answer (takes.Refused why) = refused (by why)
take_answer takes.Memory = memory

abbrev pub make_answer : {F R : Type 0} → MakeFault R → Answer F R
make_answer (makes.Refused why) = refused (by why)
make_answer makes.Memory = memory

-- files that were not taken
unfoldable pub TakesNot : {S R X : Type 0} → Shelf S → Take R X → S → TakeFault R → S → Type 0
TakesNot D t old (takes.Refused why) new = Took D t old (Err (by why)) new
TakesNot D t old (takes.TooLong role name limit) new =
    Took D t old (Err (too_long (string_bytes name) limit)) new
TakesNot D t old (takes.Unread role name) new = FailedAt D t old (string_bytes name) new
TakesNot D t old takes.Memory new = WantedAt D t old new

-- a call that takes files, and makes a value of them that is seen so
abbrev pub Takes : {S R X T : Type 0} → Shelf S → Take R X → (T → X) → S → Result T (TakeFault R)
    → S → Type 0
Takes D t view old (Ok v) new = Took D t old (Ok (view v)) new
Takes D t view old (Err e) new = TakesNot D t old e new

-- a file that was not taken has this role
abbrev pub IsOfRole : {R : Type 0} → Role → TakeFault R → Type 0
IsOfRole asked (takes.Unread role name) = role ≡ asked
IsOfRole asked (takes.TooLong role name limit) = role ≡ asked
IsOfRole asked (takes.Refused why) = Unit {0}
IsOfRole asked takes.Memory = Unit {0}

-- files and goods, read plainly
abbrev pub file_of : MadeFile → File
file_of f = (string_bytes f.name, f.bytes.items)

-- the bytes of a file in two parts
abbrev pub bytes_of : FileParts → List ℕ
bytes_of f = f.front.items ++ f.rest.items

abbrev pub goods_of : {F : Type 0} → MadeGoods F → Goods F
goods_of g =
    record { outputs = map file_of g.outputs.items; text = string_bytes g.text; fault = g.fault }

-- why nothing was made: a refusal for a reason of which this holds, or want of memory
abbrev pub RefusedBy : {R : Type 0} → (R → Type 0) → MakeFault R → Type 0
RefusedBy P (makes.Refused why) = P why
RefusedBy P makes.Memory = Unit {0}

-- a call that makes a value of which P holds, or refuses for a reason of which Q holds, or wants memory
abbrev pub MakesOr : {T R : Type 0} → (T → Type 0) → (R → Type 0) → Result T (MakeFault R) → Type 0
MakesOr P Q (Ok v) = P v
MakesOr P Q (Err f) = RefusedBy Q f

-- a call that makes goods of what was taken
abbrev pub Makes : {X F R : Type 0} → (X → Result (Goods F) (Refusal R) → Type 0) → X
    → Result (MadeGoods F) (MakeFault R) → Type 0
Makes made x result =
    MakesOr (λ goods. made x (Ok (goods_of goods))) (λ why. made x (Err (by why))) result
