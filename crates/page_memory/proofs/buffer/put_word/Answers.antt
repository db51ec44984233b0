use Rattle.std.proofs.Common.{ap, ◌++◌, take}
use Rattle.std.proofs.lemmas.List.{drop-drop}
use Rattle.byteorder.specs.Endian.{little_bytes}
use Rattle.page_memory.specs.inner.Contents.{page_with_word}
use Rattle.page_memory.proofs.buffer.put_word.Goals as goal

pub returns : goal.returns
unfolding page_with_word
returns c =
    let v = c.split_at_mut-rest.ensures.value in
    let f = c.split_at_mut-rest.ensures.front in
    let b = c.split_at_mut-rest.ensures.back in
    rw (c.write_u64.ensures, f, b) (ap (λ ys. take c.args.place c.args.frame.now ++ (little_bytes 8 c.args.v ++ ys)) (drop-drop 8 c.args.place c.args.frame.now))
