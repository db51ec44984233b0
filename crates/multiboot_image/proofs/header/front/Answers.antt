use Rattle.std.proofs.Common.{sym, arith}
use Rattle.std.proofs.lemmas.List.{take_all}
use Rattle.multiboot_image.proofs.header.front.Goals as goal

pub returns-then-bytes-lt-SEARCHED : goal.returns-then-bytes-lt-SEARCHED
returns-then-bytes-lt-SEARCHED c = sym (take_all 8192 c.args.bytes.now (omega arith))
