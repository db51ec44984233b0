use Rattle.std.proofs.Common.{rules, ◌≡◌, ◌∙◌, ◌-◌, length, ap}
use Rattle.std.specs.Prelude.{option_map}
use Rattle.file_commands.proofs.Steps.{start, next, stopped, wanting, finished}
use Rattle.load_commands.specs.Inputs.{left_after}
use Rattle.load_commands.proofs.inputs.take_kernel.Goals as goal

pub returns-in_err-kernel-clause-takes : goal.returns-in_err-kernel-clause-takes
returns-in_err-kernel-clause-takes g c =
    stopped g.S.Shelf _ _ _ _ _ (search rules) (start g.S.Shelf _ c.args.shelf.now) c.in_err-kernel.ensures.takes

pub returns-in_err-initrd-clause-takes : goal.returns-in_err-initrd-clause-takes
returns-in_err-initrd-clause-takes g c =
    let left : c.len-left.result ≡ length c.in_ok-kernel.kernel.items = search rules in
    let kernel = next g.S.Shelf _ _ (start g.S.Shelf _ c.args.shelf.now) c.in_ok-kernel.ensures.takes in
    stopped g.S.Shelf _ _ _ _ _ (search rules) kernel (rw left at c.in_err-initrd.ensures.takes)

pub returns-in_err-purgatory-clause-takes : goal.returns-in_err-purgatory-clause-takes
returns-in_err-purgatory-clause-takes g c =
    let left : c.len-left.result ≡ length c.in_ok-kernel.kernel.items = search rules in
    let kernel = next g.S.Shelf _ _ (start g.S.Shelf _ c.args.shelf.now) c.in_ok-kernel.ensures.takes in
    let initrd = next g.S.Shelf _ _ kernel (rw left at c.in_ok-initrd.ensures.takes) in
    stopped g.S.Shelf _ _ _ _ _ (search rules) initrd c.in_err-purgatory.ensures.takes

pub returns-in_err-modules-clause-takes : goal.returns-in_err-modules-clause-takes
returns-in_err-modules-clause-takes g c =
    let left : c.len-left.result ≡ length c.in_ok-kernel.kernel.items = search rules in
    let kernel = next g.S.Shelf _ _ (start g.S.Shelf _ c.args.shelf.now) c.in_ok-kernel.ensures.takes in
    let initrd = next g.S.Shelf _ _ kernel (rw left at c.in_ok-initrd.ensures.takes) in
    let purgatory = next g.S.Shelf _ _ initrd c.in_ok-purgatory.ensures.takes in
    let rest = c.left_after-left.ensures ∙ ap (λ n. left_after (268435456 - n) (option_map (λ b. b.items) c.in_ok-initrd.initrd)) left in
    stopped g.S.Shelf _ _ _ _ _ (search rules) purgatory (rw rest at c.in_err-modules.ensures.takes)

pub returns-in_err-modules_of-clause-takes : goal.returns-in_err-modules_of-clause-takes
returns-in_err-modules_of-clause-takes g c =
    let left : c.len-left.result ≡ length c.in_ok-kernel.kernel.items = search rules in
    let kernel = next g.S.Shelf _ _ (start g.S.Shelf _ c.args.shelf.now) c.in_ok-kernel.ensures.takes in
    let initrd = next g.S.Shelf _ _ kernel (rw left at c.in_ok-initrd.ensures.takes) in
    let purgatory = next g.S.Shelf _ _ initrd c.in_ok-purgatory.ensures.takes in
    let rest = c.left_after-left.ensures ∙ ap (λ n. left_after (268435456 - n) (option_map (λ b. b.items) c.in_ok-initrd.initrd)) left in
    let modules = next g.S.Shelf _ _ purgatory (rw rest at c.in_ok-modules.ensures.takes) in
    wanting g.S.Shelf _ _ (search rules) modules

pub returns-clause-takes : goal.returns-clause-takes
returns-clause-takes g c =
    let left : c.len-left.result ≡ length c.in_ok-kernel.kernel.items = search rules in
    let kernel = next g.S.Shelf _ _ (start g.S.Shelf _ c.args.shelf.now) c.in_ok-kernel.ensures.takes in
    let initrd = next g.S.Shelf _ _ kernel (rw left at c.in_ok-initrd.ensures.takes) in
    let purgatory = next g.S.Shelf _ _ initrd c.in_ok-purgatory.ensures.takes in
    let rest = c.left_after-left.ensures ∙ ap (λ n. left_after (268435456 - n) (option_map (λ b. b.items) c.in_ok-initrd.initrd)) left in
    let modules = next g.S.Shelf _ _ purgatory (rw rest at c.in_ok-modules.ensures.takes) in
    rw c.in_ok-modules_of.ensures (finished g.S.Shelf modules)
