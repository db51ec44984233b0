use Rattle.std.proofs.Common.{◌≡◌, ◌^◌, ap, sym, ◌∙◌, subst, length, arith, inl}
use Rattle.kx_pages.proofs.Spans.{passing_same}
use Rattle.elf_image.specs.Image.{page_count, segments_of}
use Rattle.elf_image.specs.inner.Joined.{AreLoads, AreSound}
use Rattle.elf_image.specs.Loads.{Executable}
use Rattle.elf_image.proofs.Pages.{segments_runs}
use Rattle.elf_image.proofs.Sound.{exec_sound, image_large, image_made}
use Rattle.elf_image.proofs.image.image_pages.Goals as goal

pub pages_of-requires : goal.pages_of-requires
pages_of-requires c =
    let n = length c.args.bytes.now in
    let same : c.deref.result.now ≡ c.args.exec.loads = c.deref.ensures.value ∙ ap (λ (e : Executable). e.loads) c.exec.view_is in
    (n, subst (AreLoads n) (sym same) (exec_sound c.args.bytes.now c.args.exec c.requires).each)

pub returns-then-total-gt-SEGMENT_PAGE_LIMIT-clause-exact : goal.returns-then-total-gt-SEGMENT_PAGE_LIMIT-clause-exact
returns-then-total-gt-SEGMENT_PAGE_LIMIT-clause-exact c =
    let same : c.deref.result.now ≡ c.args.exec.loads = c.deref.ensures.value ∙ ap (λ (e : Executable). e.loads) c.exec.view_is in
    let total : c.total-total.result ≡ page_count c.args.exec.loads = c.total-total.ensures.count (2 ^ 34) (omega arith) ∙ passing_same _ _ (2 ^ 34) c.in_ok-pages.ensures ∙ ap page_count same in
    inl (image_large c.args.bytes.now c.args.exec.loads c.total-total.result total c.if-total-gt-SEGMENT_PAGE_LIMIT.true)

pub make_segments-requires : goal.make_segments-requires
make_segments-requires c =
    let same : c.exec.inside.loads.items ≡ c.args.exec.loads = ap (λ (e : Executable). e.loads) c.exec.view_is in
    subst (AreSound (length c.args.bytes.now)) (sym same) (exec_sound c.args.bytes.now c.args.exec c.requires)

pub returns-clause-exact : goal.returns-clause-exact
returns-clause-exact c =
    let same : c.deref.result.now ≡ c.args.exec.loads = c.deref.ensures.value ∙ ap (λ (e : Executable). e.loads) c.exec.view_is in
    let also : c.exec.inside.loads.items ≡ c.args.exec.loads = ap (λ (e : Executable). e.loads) c.exec.view_is in
    let total : c.total-total.result ≡ page_count c.args.exec.loads = c.total-total.ensures.count (2 ^ 34) (omega arith) ∙ passing_same _ _ (2 ^ 34) c.in_ok-pages.ensures ∙ ap page_count same in
    image_made c.args.bytes.now c.args.exec.loads c.total-total.result c.in_ok-list.list.items total c.if-total-gt-SEGMENT_PAGE_LIMIT.false (c.in_ok-list.ensures ∙ ap (segments_of c.args.bytes.now) also)

pub returns-clause-maximal : goal.returns-clause-maximal
returns-clause-maximal c =
    let also : c.exec.inside.loads.items ≡ c.args.exec.loads = ap (λ (e : Executable). e.loads) c.exec.view_is in
    segments_runs c.args.bytes.now c.args.exec.loads c.in_ok-list.list.items (length c.args.bytes.now) (exec_sound c.args.bytes.now c.args.exec c.requires).each (c.in_ok-list.ensures ∙ ap (segments_of c.args.bytes.now) also)
