use Rattle.std.proofs.Common.{rules, ◌≡◌, Ok, Err, map, refl}
use Rattle.page_memory.specs.Contents.{at}
use Rattle.list_checker.specs.Checked.{as_pair}
use Rattle.file_commands.proofs.Made.{handed_on_as}
use Rattle.kexec_plan.specs.Plan.{plan}
use Rattle.kexec_plan.specs.inner.Requests.{planned_of}
use Rattle.load_commands.specs.BootResident.{HasNoList, RefusesResident}
use Rattle.load_commands.specs.inner.Views.{IsKernel, inputs_of}
use Rattle.load_commands.proofs.Resident.{no_list_refuses}
use Rattle.load_commands.proofs.boot_resident.load_resident.Goals as goal

pub returns-in_err-made : goal.returns-in_err-made
returns-in_err-made c =
    let i = inputs_of c.args.load in
    let rs = map as_pair c.args.pairs.now in
    let p = planned_of c.in_ok-planned.planned in
    let planned : plan i.request i.map ≡ Ok p = search rules in
    let e : c.from_residual-in_err-made.result ≡ Err c.in_err-made.field-0.0 = search rules in
    handed_on_as (IsKernel i rs) (RefusesResident i rs) (HasNoList (at i.memory) p.segments i.usable rs) _ _ e (no_list_refuses i rs p planned) c.in_err-made.ensures

pub returns : goal.returns
returns c =
    let i = inputs_of c.args.load in
    let p = planned_of c.in_ok-planned.planned in
    let planned : plan i.request i.map ≡ Ok p = search rules in
    record {
      p = p;
      m = c.in_ok-made.made;
      resident = record { planned = planned; made = c.in_ok-made.ensures };
      start = refl;
      load = c.from_files.ensures;
      copied = refl;
    }
