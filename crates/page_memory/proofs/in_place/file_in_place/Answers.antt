use Rattle.std.proofs.Common.{◌≡◌, ◌≤◌, ◌+◌, ◌*◌, ◌-◌, ◌++◌, ℕ, List, length, take, ap, ◌∙◌, arith}
use Rattle.std.specs.Prelude.{replicate}
use Rattle.std.proofs.lemmas.List.{length-map}
use Rattle.page_memory.specs.File.{text_of}
use Rattle.page_memory.specs.inner.InPlace.{slot_entries}
use Rattle.page_memory.specs.inner.Frames.{frame_entries, frame_in, stored_in}
use Rattle.page_memory.proofs.Frames.{vec_back}
use Rattle.page_memory.proofs.InPlace.{AreGathered-named, slot_entries-cut}
use Rattle.page_memory.proofs.in_place.file_in_place.Goals as goal

pub returns-clause-file : goal.returns-clause-file
returns-clause-file c =
    let old = c.args.frames.items in
    let pages = c.in_ok-pages.pages.items in
    let moved = c.gather.new.frames in
    let cut = c.resize.new.self.items in
    let written = c.write_heads.new.frames in
    let stored : frame_entries old pages ≡ stored_in old c.args.table.now.places = rw c.deref.ensures.value at c.in_ok-pages.ensures.stored in
    let few : length (stored_in old c.args.table.now.places) ≤ 131072 = omega (arith, ap length stored, c.in_ok-pages.ensures.limit, length-map {B = ℕ × List ℕ} pages (λ (e : ℕ × ℕ). (e.0, frame_in old e.1))) in
    let n = 16 + 4104 * c.len-2.result in
    let long : length moved ≡ length old = omega (arith, c.gather.auto.frames, c.deref_mut.ensures.len, c.args.frames.ok.0) in
    let zeros : List ℕ = replicate (n - c.args.frames.len) 0 in
    let back = vec_back c.args.frames.len old moved (omega (arith, c.args.frames.ok.0, long)) in
    let is_cut : cut ≡ take n moved ++ zeros = c.in_ok-resize.ensures.items ∙ ap (λ (xs : List ℕ). take n xs ++ zeros) back in
    let gathered = AreGathered-named c.deref_mut.result.now old moved c.deref-2.result.now pages c.deref_mut.ensures.value c.deref-2.ensures.value c.in_ok-gather.ensures in
    let end : n ≡ 16 + 4104 * length pages = omega (arith, c.len-2.ensures, c.in_ok-pages.pages.ok.0) in
    let entries = slot_entries-cut old moved cut zeros pages n (length c.args.table.now.places.entries) c.in_ok-pages.ensures.slots.slots end c.in_ok-pages.ensures.few c.requires.full long is_cut gathered in
    let text = c.write_heads.ensures ∙ ap (λ (xs : List ℕ). text_of (slot_entries xs 0 c.deref-3.result.now)) c.deref_mut-2.ensures.value ∙ ap (λ (es : List (ℕ × ℕ)). text_of (slot_entries cut 0 es)) c.deref-3.ensures.value in
    let all : c.resize.new.self.len ≡ length written = omega (arith, c.resize.new.self.ok.0, c.write_heads.auto.frames, c.deref_mut-2.ensures.len) in
    (few, vec_back c.resize.new.self.len cut written all ∙ text ∙ ap text_of (entries ∙ stored))
