-- A load of segments that is written whole.
use Rattle.std.proofs.Common.{◌≡◌, ℕ, ◌+◌, ◌≤◌, List, Option, Some, None, refl, sym, ap, ◌∙◌, subst, arith, take, drop, Bool, true, false, cond}
use Rattle.std.proofs.lemmas.List.{take_all}
use Rattle.kx_pages.specs.Lists.{Has, has, count, sources}
use Rattle.kx_pages.specs.Spans.{in_spans}
use Rattle.kx_pages.specs.declared.image.Wish.{Wish}
use Rattle.kx_pages.specs.declared.image.Image.{Image}
use Rattle.page_memory.specs.Contents.{at}
use Rattle.kx_pages.specs.Bytes.{Mem}
use Rattle.page_pool.specs.Pages.{usable_of}
use Rattle.segments.specs.Values.{is_destination, want, pages, need}
use Rattle.segments.proofs.Laws.{Has-from_is_destination, Has-from_want}
use Rattle.kimage_list.specs.Load.{loading_after}
use Rattle.kimage_list.specs.inner.Load.{pages_of, starts}
use Rattle.kimage_list.specs.Laying.{list_of}
use Rattle.kimage_list.specs.inner.Writers.{History, IsAwaited}
use Rattle.kimage_list.specs.inner.Writers as writers
use Rattle.kimage_list.specs.inner.Calls.{IsWritten}
use Rattle.kimage_list.specs.declared.written.Written.{Written}
use Rattle.kimage_list.proofs.Awaiting.{awaited_exactly}
use Rattle.kimage_list.proofs.DrawnPools.{has_drawn}
use Rattle.list_checker.specs.Walk.{IsAccepted}
use Rattle.load_states.specs.Loads.{entries_of, loading_of, memory_of}
use Rattle.load_states.specs.Fillings.{IsSealed}
use Rattle.load_states.specs.inner.Fillings.{Fill, FillsFrom, left}
use Rattle.load_states.proofs.LaidPlan.{pages_of-entries_of, load_is_accepted}
use Rattle.load_states.proofs.FillSteps.{span_pages, need_same, starts-entries_of}
use Rattle.kx_pages.proofs.Lists.{has-from_Has}
use Rattle.kx_pages.specs.Modes.{swap_page}

module _ (M : Mem) (pool : List ℕ) (wish : Wish) (f : Fill) (k : FillsFrom M pool wish f) (done : left f ≡ 0) where
  all : take f.written f.segments ≡ f.segments
  all = take_all f.written f.segments (omega (arith, done, k.within))

  entries_whole : k.fills.load.entries ≡ entries_of f.segments
  entries_whole = k.fills.entries ∙ ap entries_of all

  pub none_to_start : f.writer.segments_left ≡ 0
  none_to_start = omega (arith, k.fills.stands.segments_left, ap starts entries_whole, starts-entries_of f.segments, k.fills.all_segments)

  pub none_awaited : (d : ℕ) → IsAwaited f.writer d → ⊥
  none_awaited d a =
      let t = (awaited_exactly k.fills.load f.writer k.fills.stands d).0 a in
      t.1 (subst (Has d) (sym (ap pages_of entries_whole ∙ pages_of-entries_of f.segments)) (Has-from_is_destination f.segments d k.good.placed (sym (k.fills.all_pages d) ∙ t.0)))

  -- each page was given what it is to have, and no other page was given anything
  bytes_whole : (q : ℕ) → k.fills.load.bytes q ≡ want f.segments q
  bytes_whole q = k.fills.bytes q ∙ ap (λ xs. cond (has q xs) (want f.segments q) None) (ap (λ ss. pages_of (entries_of ss)) all ∙ pages_of-entries_of f.segments) ∙ either (want f.segments q) refl
    where
      either : (o : Option (List ℕ)) → want f.segments q ≡ o → cond (has q (pages f.segments)) (want f.segments q) None ≡ want f.segments q
      either None e = ap (cond (has q (pages f.segments)) (want f.segments q)) (sym e) ∙ same (has q (pages f.segments)) (want f.segments q)
        where
          same : (b : Bool) (o : Option (List ℕ)) → cond b o o ≡ o
          same true o = refl
          same false o = refl
      either (Some b) e = ap (λ c. cond c (want f.segments q) None) (has-from_Has q (pages f.segments) (Has-from_want f.segments q b k.good.placed e))

  -- the load that was asked for
  abbrev whole : History
  whole = record { before = M; pool = pool; wanted = k.fills.load.wanted; segments = k.fills.load.segments; wish = wish; entries = entries_of f.segments; bytes = want f.segments }

  same_load : k.fills.load ≡ whole
  same_load = λ i. record { before = k.fills.from_memory i; pool = k.fills.from_pool i; wanted = k.fills.load.wanted; segments = k.fills.load.segments; wish = k.fills.as_wished i; entries = entries_whole i; bytes = λ q. bytes_whole q i }

  need_is : writers.need whole ≡ need wish f.segments
  need_is = need_same wish f.segments k.fills.load.segments _ k.fills.all_segments (span_pages f.segments k.fills.load.wanted k.good k.fills.stands.inside.apart k.fills.all_pages)

  pub sealed : (r : Written) → IsWritten k.fills.load r → IsSealed M pool wish f.segments (record { memory = r.memory; pool = r.pool; image = r.image; segments = f.segments })
  sealed r written =
      let w = subst (λ h. IsWritten h r) same_load written in
      let l = w.loading in
      let D : in_spans k.fills.load.wanted ≡ is_destination f.segments = λ i q. k.fills.all_pages q i in
      let requests : loading_of wish f.segments pool ≡ Some l = ap (λ d. loading_after d wish (entries_of f.segments) pool) (sym D) ∙ w.requests in
      let used : (x : ℕ) → count x l.spare + count x (sources l.pairs) ≡ count x (take (need wish f.segments) pool) = λ x. w.in_use x ∙ ap (λ n. count x (take n pool)) need_is in
      let a = load_is_accepted M wish f.segments pool l k.good w.once (λ x n. w.below x (subst (λ m. 1 ≤ m) (w.in_use x) n)) requests in
      let P : Mem → Image → Type 0 = λ N i. IsAccepted N (want f.segments) i.head i.control (swap_page i.mode) (list_of wish (entries_of f.segments) l) in
      let usable : usable_of r.pool ≡ drop (need wish f.segments) pool = w.usable ∙ ap (λ n. drop n pool) need_is in
      let laid : at r.memory ≡ memory_of M wish f.segments l = λ i p. w.memory p i in
      record {
        loading = l;
        requests = requests;
        once = w.once;
        image = w.image;
        memory = w.memory;
        segments = refl;
        usable = usable;
        in_use = used;
        unfiled = w.unfiled;
        drawn = λ p from whole. has_drawn (need wish f.segments) p r.pool (usable ∙ ap (drop (need wish f.segments)) from) whole;
        others = λ p z. w.others p (ap (λ n. count p (take n pool)) need_is ∙ z);
        accepted = subst (λ N. P N r.image) (sym laid) (subst (P (memory_of M wish f.segments l)) (sym w.image) a);
      }
