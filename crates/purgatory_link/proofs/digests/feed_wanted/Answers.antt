use Rattle.std.proofs.Common.{◌++◌, sym, ap, ◌∙◌, subst}
use Rattle.std.proofs.lemmas.List.{append-nil}
use Rattle.sha2.specs.Hashers.{Holds256}
use Rattle.kx_pages.specs.Bytes.{page_of}
use Rattle.segments.specs.Values.{want}
use Rattle.purgatory_link.proofs.Digesting.{wanted_is, wanted_not}
use Rattle.purgatory_link.proofs.digests.feed_wanted.Goals as goal

pub returns-in-Some : goal.returns-in-Some
returns-in-Some c = λ m h.
    subst (Holds256 c.feed_page.new.hasher) (ap (λ xs. m ++ xs) (sym (wanted_is (want c.args.segments.now) c.args.number c.from_number.result (page_of c.in-Some.bytes.now) c.from_number.ensures c.in-Some.ensures.filled))) (c.feed_page.ensures m h)

pub returns-in-None : goal.returns-in-None
returns-in-None c = λ m h.
    subst (Holds256 c.args.hasher.now) (sym (append-nil m) ∙ ap (λ xs. m ++ xs) (sym (wanted_not (want c.args.segments.now) c.args.number c.from_number.result c.from_number.ensures c.in-None.ensures.filled))) h
