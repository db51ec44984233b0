use Rattle.std.proofs.Common.{rules, ◌≡◌, Ok, Err}
use Rattle.file_commands.proofs.Made.{handed_on_as}
use Rattle.kexec_plan.specs.Plan.{plan}
use Rattle.kexec_plan.specs.inner.Requests.{planned_of}
use Rattle.load_commands.specs.inner.Views.{IsLoadedKernel, inputs_of}
use Rattle.load_commands.specs.Loading.{IsTooFew, RefusesLoad}
use Rattle.load_commands.proofs.Pages.{too_few_refuses}
use Rattle.load_commands.proofs.loading.load_request.Goals as goal

pub returns-in_err-loaded : goal.returns-in_err-loaded
returns-in_err-loaded c =
    let i = inputs_of c.args.inputs in
    let p = planned_of c.in_ok-planned.planned in
    let planned : plan i.request i.map ≡ Ok p = search rules in
    let e : c.from_residual-in_err-loaded.result ≡ Err c.in_err-loaded.field-0.0 = search rules in
    handed_on_as (IsLoadedKernel c.args.wish i) (RefusesLoad c.args.wish i) (IsTooFew i.usable c.args.wish p.segments) _ _ e
    (too_few_refuses c.args.wish i p planned) c.in_err-loaded.ensures

pub returns : goal.returns
returns c =
    let i = inputs_of c.args.inputs in
    let p = planned_of c.in_ok-planned.planned in
    let planned : plan i.request i.map ≡ Ok p = search rules in
    record {
      p = p;
      load = record { planned = planned; enough = c.in_ok-loaded.ensures.0; laid = c.in_ok-loaded.ensures.1 };
      startup = c.planned_startup-startup.ensures;
    }
