use Rattle.std.proofs.Common.{ap, ◌∙◌, arith, ◌∷◌, [], Ok, map}
use Rattle.elf_image.specs.Gathered.{one}
use Rattle.elf_image.specs.inner.Symbol.{named}
use Rattle.elf_image.proofs.Failing.{fails_on}
use Rattle.elf_image.proofs.Gathering.{more, fails, last, first}
use Rattle.elf_image.proofs.Named.{named_more}
use Rattle.elf_image.proofs.symbol.read_entries.Goals as goal

pub loop-k-init : goal.loop-k-init
loop-k-init c = first _ _ _ (ap (map (named c.args.strings.now)) (c.in_ok-reserve_exact.ensures.items ∙ c.new-symbols.ensures.items))

pub loop-k-preserved : goal.loop-k-preserved
loop-k-preserved c =
    more c.loop-k.invariant (omega arith) (ap one c.in-Ok.ensures) (named_more c.args.strings.now c.loop-k.symbols.items _ c.in-Ok.symbol c.in_ok-push-in-Ok.ensures.items)

pub returns-in-Err : goal.returns-in-Err
returns-in-Err c = fails c.in-Err.fault c.loop-k.invariant (omega arith) (fails_on c.in-Err.fault _ (λ y. Ok (y ∷ [])) c.in-Err.ensures)

pub returns : goal.returns
returns c = last c.loop-k.invariant (omega arith)
