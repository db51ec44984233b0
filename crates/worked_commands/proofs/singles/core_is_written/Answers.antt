-- By the one core.
use Rattle.std.proofs.Common.{◌≡◌, ◌∙◌, [], ◌∷◌, Result, Ok, Err, refl, sym, ap}
use Rattle.std.specs.Prelude.{codes}
use Rattle.std.specs.Fmt.{digits}
use Rattle.kx_laws.proofs.Results.{ok_same}
use Rattle.page_memory.specs.Contents.{Contents, at}
use Rattle.vmcore_file.specs.File.{CoreValue, core_reading}
use Rattle.vmcore_file.specs.declared.fault.CoreFault.{CoreFault}
use Rattle.vmcore_file.specs.declared.fault.CoreFault.TheVariants as faults
use Rattle.load_commands.specs.CoreFile.{core_line}
use Rattle.command_parts.specs.Outputs.{Made}
use Rattle.worked_commands.specs.Singles.{core_makes, one_output}
use Rattle.worked_commands.specs.Texts.{core_of_five}
use Rattle.worked_commands.proofs.singles.core_is_written.Goals as goal

line_is : core_line core_of_five ≡ codes "core loads 2 notes 344 bytes 5\n"
unfolding digits
line_is = refl

one_core : (m : Contents) (core : CoreValue) → core_reading (at m) 0x3000 ≡ Ok core_of_five → core_reading (at m) 0x3000 ≡ Ok core → core ≡ core_of_five
one_core m core e f = ok_same {F = CoreFault} core core_of_five (sym f ∙ e)

alone : (m : Contents) (goods : Made) → core_reading (at m) 0x3000 ≡ Ok core_of_five → core_makes m (Ok goods) → goods ≡ one_output (codes "abcde") (codes "core loads 2 notes 344 bytes 5\n")
alone m goods e (core, read, text, fault, outputs) =
    let k = one_core m core e read in
    let said : goods.text ≡ codes "core loads 2 notes 344 bytes 5\n" = text ∙ ap core_line k ∙ line_is in
    let put : goods.outputs ≡ (codes "o", codes "abcde") ∷ [] = outputs ∙ ap (λ (core : CoreValue). (codes "o", core.bytes) ∷ []) k in
    λ i. record { outputs = put i; text = said i; fault = fault i }

not_refused : (m : Contents) → core_reading (at m) 0x3000 ≡ Ok core_of_five → core_reading (at m) 0x3000 ≡ Err faults.NotHeaders → ⊥
not_refused m e f = let h : ◌≡◌ {A = Result CoreValue CoreFault} (Ok core_of_five) (Err faults.NotHeaders) = sym e ∙ f in cc

pub returns-clause-made : goal.returns-clause-made
returns-clause-made c = λ m e. (core_of_five, e, sym line_is, refl, refl)

pub returns-clause-nothing_else : goal.returns-clause-nothing_else
returns-clause-nothing_else c = alone

pub returns-clause-not_refused : goal.returns-clause-not_refused
returns-clause-not_refused c = not_refused

pub returns-clause-can : goal.returns-clause-can
returns-clause-can c = λ m e. (core_of_five, e)
