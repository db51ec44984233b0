use Rattle.std.proofs.Common.{◌≡◌, ◌++◌, ◌-◌, length, ap, sym, ◌∙◌, arith}
use Rattle.std.specs.Prelude.{replicate}
use Rattle.kx_pages.proofs.Bytes.{page_of-fits}
use Rattle.page_memory.proofs.buffer.fill_frame.Goals as goal

pub returns : goal.returns
returns c =
    let rest : length c.split_at_mut-front.result.1.now ≡ 4096 - length c.args.bytes.now = omega (arith, c.split_at_mut-front.ensures.back_len) in
    rw (c.copy_from_slice.ensures.after, c.fill.ensures.after (λ y h. h)) (ap (λ n. c.args.bytes.now ++ replicate n 0) rest ∙ sym (page_of-fits c.args.bytes.now c.requires.fits))
