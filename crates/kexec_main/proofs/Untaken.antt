-- Want of memory before any take was made: it is one of the answers of every command, and leaves shelf and sink as they were.
use Rattle.std.proofs.Common.{Result, Ok, Err, refl, inl}
use Rattle.kx_edge.specs.declared.edge.Shelf.{Ghosts as Shelf}
use Rattle.kx_edge.specs.declared.edge.Sink.{Ghosts as Sink}
use Rattle.file_commands.specs.Answers.{Meets, memory}
use Rattle.file_commands.specs.Taking.{Take, WantedAt, by, file, ok, refuse}
use Rattle.kexec_words.specs.Values.{CommandValue}
use Rattle.command_table.specs.declared.faults.UsageWhy.{UsageWhy}
use Rattle.command_parts.specs.declared.reason.Reason.{Reason}
use Rattle.command_parts.specs.declared.reason.Reason.TheVariants.{Usage}
use Rattle.kexec_main.specs.Commands.{Holds, entry_of}

none_taken : {S R X : Type 0} (D : Shelf S) (t : Take R X) (s : S) → WantedAt D t s s
unfolding WantedAt
none_taken D (ok x) s = refl
none_taken D (refuse a) s = refl
none_taken D (file name most next) s = inl refl

pub memory_at_once : {S O : Type 0} (D : Shelf S) (E : Sink O) (s : S) (o : O) (said : Result CommandValue UsageWhy) → Holds (λ X c. Meets D E c s o memory s o) said
memory_at_once D E s o (Ok c) = (none_taken D (entry_of c).command.takes s, refl)
memory_at_once D E s o (Err why) = (none_taken {R = Reason} {X = Unit {0}} D (refuse (by (Usage why))) s, refl)
