use Rattle.std.proofs.Common.{◌≡◌, ◌-◌, arith, sym, subst}
use Rattle.kx_laws.specs.inner.Results.{Gives}
use Rattle.load_record.specs.declared.fault.RecFault.TheVariants.{Memory}
use Rattle.load_record.proofs.Walking.{all_read, all_fail}
use Rattle.load_record.proofs.body.read_segments.Goals as goal

pub returns-in-Ok : goal.returns-in-Ok
returns-in-Ok c =
    let all : c.args.count - 0 ≡ c.args.count = omega arith in
    subst (λ d. Gives Memory (λ v. v.items) c.without_wrong.result d) (sym (all_read c.args.version _ c.args.count (c.args.count - 0) _ c.in-Ok.list.items c.in-Ok.wrong all (rw c.split_at.ensures.back at c.in-Ok.ensures.exact))) c.without_wrong.ensures

pub returns : goal.returns
returns c =
    let all : c.args.count - 0 ≡ c.args.count = omega arith in
    all_fail c.args.version _ c.args.count (c.args.count - 0) _ c.in-Err.fault all (rw c.split_at.ensures.back at c.in-Err.ensures.exact)
