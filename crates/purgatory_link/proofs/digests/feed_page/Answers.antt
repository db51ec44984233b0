use Rattle.std.proofs.Common.{◌≡◌, ◌-◌, ◌++◌, length, sym, ap, ◌∙◌, subst, arith, append_assoc}
use Rattle.std.specs.Prelude.{replicate}
use Rattle.std.proofs.lemmas.List.{take-replicate}
use Rattle.sha2.specs.Hashers.{Holds256}
use Rattle.kx_pages.specs.Bytes.{page_of}
use Rattle.kx_pages.proofs.Bytes.{page_of-fits}
use Rattle.purgatory_link.proofs.digests.feed_page.Goals as goal

pub returns : goal.returns
returns c = λ m h.
    let bytes = c.args.bytes.now in
    let zs : c.split_at.result.0.now ≡ replicate (4096 - length bytes) 0 = c.split_at.ensures.front ∙ take-replicate (4096 - length bytes) 4096 0 (omega arith) in
    let e : (m ++ bytes) ++ c.split_at.result.0.now ≡ m ++ page_of bytes =
    append_assoc m bytes c.split_at.result.0.now ∙ ap (λ xs. m ++ (bytes ++ xs)) zs ∙ ap (λ xs. m ++ xs) (sym (page_of-fits bytes c.requires)) in
    subst (Holds256 c.update-2.new.self) e (c.update-2.ensures (m ++ bytes) (c.update.ensures m h))
