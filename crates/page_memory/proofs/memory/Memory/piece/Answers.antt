use Rattle.std.proofs.Common.{◌%◌, ◌-◌, refl, ap, ◌∙◌, arith}
use Rattle.page_memory.specs.Contents.{at}
use Rattle.page_memory.proofs.Addresses.{piece_is, rest_is}
use Rattle.page_memory.proofs.memory.Memory.piece.Goals as goal

pub returns-then-left-rest-clause-value : goal.returns-then-left-rest-clause-value
returns-then-left-rest-clause-value c =
    rest_is (at c.args.self.now) c.args.address (c.args.address % 4096) c.bytes-page.result.now c.split_at.result.1.now (c.bytes-page.ensures.value ∙ ap (at c.args.self.now) c.from_address.ensures) c.bytes-page.ensures.bytes.long refl c.split_at.ensures.back

pub returns-clause-value : goal.returns-clause-value
returns-clause-value c =
    piece_is (at c.args.self.now) c.args.address (c.args.end - c.args.address) (c.args.address % 4096) c.bytes-page.result.now c.split_at.result.1.now c.split_at-2.result.0.now (c.bytes-page.ensures.value ∙ ap (at c.args.self.now) c.from_address.ensures) c.bytes-page.ensures.bytes.long refl c.split_at.ensures.back (omega arith) c.split_at-2.ensures.front
