use Rattle.std.proofs.Common.{◌≡◌, ◌+◌, ◌/◌, ◌^◌, ◌<◌, Some, sym, subst, arith}
use Rattle.relocate_machine.specs.Machine.{kind_of, word_address}
use Rattle.relocate_machine.specs.inner.Reading.{place_past}
use Rattle.relocate_machine.proofs.ReadSteps.{in_past, read_more, read_none}
use Rattle.relocate_machine.proofs.reading.read_page.Goals as goal

pub loop-steps-init : goal.loop-steps-init
loop-steps-init c = record {
  read = read_none c.args.page.now c.args.from;
  place = record { low = omega arith; high = omega arith; aligned = c.requires.aligned; destination = c.requires.to };
}

pub loop-steps-preserved : goal.loop-steps-preserved
loop-steps-preserved c =
    let place = c.loop-steps.invariant.place in
    let low = place.low in
    let high = place.high in
    let start = c.address-start.ensures in
    let inside : c.loop-steps.at.cursor < word_address c.args.from.cursor + 4096 = omega arith in
    let here : c.loop-steps.at.cursor / 4096 ≡ c.args.from.cursor / 4096 = omega arith in
    let near : c.loop-steps.at.cursor < 2 ^ 46 = omega arith in
    let past = sym c.in-Some.ensures in
    record {
      read = read_more c.args.page.now c.loop-steps.steps c.address-start.result c.word_in-word.result c.args.from c.loop-steps.at c.in-Some.next
          c.loop-steps.invariant.read here near c.word_in-word.ensures past;
      place = in_past c.args.from.cursor c.word_in-word.result c.loop-steps.at c.in-Some.next place inside
          (subst (λ a. place_past a c.loop-steps.at (kind_of c.word_in-word.result) (word_address c.word_in-word.result) ≡ Some c.in-Some.next) start past);
    }
