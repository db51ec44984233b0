use Rattle.std.proofs.Common.{◌∙◌, ◌≤◌, ◌++◌, ap, sym, subst, length, arith}
use Rattle.std.specs.Prelude.{All}
use Rattle.std.proofs.lemmas.List.{get_or_read}
use Rattle.resident_planner.specs.declared.link_pages.LinkPage.{LinkPage}
use Rattle.resident_planner.specs.inner.LinkPages.{laid_page, word_pages}
use Rattle.std.proofs.Common.{map, drop, ◌+◌}
use Rattle.resident_planner.proofs.LinkWords.{short_link_page}
use Rattle.resident_planner.proofs.Stepping.{link_pages_next, take_up_to, all_push}
use Rattle.resident_planner.proofs.link_pages.link_pages.Goals as goal

pub loop-i-preserved : goal.loop-i-preserved
loop-i-preserved c =
    let s : LinkPage = record { page = c.index-links-i.result; bytes = c.in_ok-bytes.bytes } in
    let up = take_up_to c.loop-i.rest.now c.min.result c.min.ensures in
    record {
      pages =
          ap (λ ss. map laid_page ss ++ word_pages (drop (c.loop-i.i + 1) c.args.links.now) c.split_at.result.1.now) c.in_ok-push.ensures.items
          ∙ link_pages_next c.args.links.now c.args.words.now c.loop-i.rest.now c.split_at.result.0.now c.split_at.result.1.now c.loop-i.i c.word_to.result c.loop-i.link_pages.items s c.loop-i-test.true
          (get_or_read c.args.links.now c.loop-i.i c.index-links-i.result c.loop-i-test.true c.index-links-i.is 0)
          (c.split_at.ensures.front ∙ up.0) (c.split_at.ensures.back ∙ up.1) c.word_to.ensures c.in_ok-bytes.ensures c.loop-i.invariant.pages;
      short =
          let a = ap length c.in_ok-bytes.ensures in
          let b = short_link_page c.split_at.result.0.now c.word_to.result (let f = c.split_at.ensures.front_len in let m = c.min.ensures in omega (arith, f, m)) in
          subst (All (λ (s : LinkPage). length s.bytes.items ≤ 4096)) (sym c.in_ok-push.ensures.items) (all_push (λ (s : LinkPage). length s.bytes.items ≤ 4096) c.loop-i.link_pages.items s c.loop-i.invariant.short (omega (arith, a, b)));
    }
