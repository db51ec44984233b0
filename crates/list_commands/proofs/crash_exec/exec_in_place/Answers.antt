use Rattle.std.proofs.Common.{◌≡◌, ◌∙◌, ap, subst}
use Rattle.std.specs.Prelude.{string_bytes}
use Rattle.page_memory.specs.Contents.{at}
use Rattle.segments.specs.Values.{want}
use Rattle.list_checker.specs.Crash.{AcceptedCrash}
use Rattle.load_states.specs.States.{CrashLoad}
use Rattle.file_commands.specs.inner.Calls.{MakesOr, goods_of}
use Rattle.list_commands.specs.CrashExec.{RunsInPlace}
use Rattle.command_parts.specs.Outputs.{HasNoFile}
use Rattle.list_commands.proofs.Places.{ran_in_place}
use Rattle.list_commands.proofs.crash_exec.exec_in_place.Goals as goal

pub returns-in-Ok : goal.returns-in-Ok
returns-in-Ok c =
    let x = c.args.files in
    let out = string_bytes c.args.out in
    let loaded = c.from_parts-loaded.ensures in
    let accepted = c.in-Ok.ensures.accepted in
    let place = subst (λ (l : CrashLoad). AcceptedCrash (at l.memory) (want l.segments) l.head) loaded accepted.1 in
    let memory : c.in-Ok.accepted.memory ≡ x.memory = ap (λ (l : CrashLoad). l.memory) (accepted.0 ∙ loaded) in
    let ran = subst (λ m. MakesOr (λ g. RunsInPlace (at m) c.pages-pages.result x.startup out (goods_of g)) (HasNoFile (at m)) c.run_in_place.result) memory c.run_in_place.ensures in
    ran_in_place x c.args.twice out _ c.if-twice.false place
    (subst (λ n. MakesOr (λ g. RunsInPlace (at x.memory) n x.startup out (goods_of g)) (HasNoFile (at x.memory)) c.run_in_place.result) c.pages-pages.ensures.value ran)
