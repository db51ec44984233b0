use Rattle.std.proofs.Common.{◌≡◌, ℕ, ◌*◌, ◌/◌, [], sym, ap, ◌∙◌, subst, arith}
use Rattle.page_memory.specs.Contents.{at}
use Rattle.page_memory.specs.inner.Contents.{IsHeld}
use Rattle.kimage_list.proofs.open_list.OpenList.take_link.Goals as goal
use Rattle.kimage_list.proofs.open_list.OpenList.take_link.Goals.{then-self-eq0, else-self-eq0}
use Rattle.kimage_list.proofs.Linking.{link_held, next_held, next_low, next_aligned, first, later, head_first, head_later}
use Rattle.kimage_list.specs.inner.Drafts.{Renders, with_link, HeadIs}
use Rattle.kx_pages.specs.Items.{code}
use Rattle.kx_pages.specs.declared.item.Item.TheVariants.{Link}
use Rattle.kx_pages.specs.Bytes.{page_of}
use Rattle.page_memory.specs.Memory.{put}
use Rattle.page_memory.specs.inner.Memory.{set_word}

pub fill-requires-clause-held : goal.fill-requires-clause-held
fill-requires-clause-held c =
    let s = c.take-link.new.self in
    let k = c.take-link.ensures.given c.requires.0 c.requires.1 c.requires.2 c.requires.3 in
    subst (IsHeld s.memory) (sym k.0) (link_held c.requires.0 c.requires.1 s.memory s.pool s.table s.next s.entries k.1 c.requires.4)

pub write_word-requires-clause-inside : goal.write_word-requires-clause-inside
write_word-requires-clause-inside c =
    let s = c.take-link.new.self in
    let k = c.take-link.ensures.given c.requires.0 c.requires.1 c.requires.2 c.requires.3 in
    let low = next_low c.requires.0 c.requires.1 s.memory s.pool s.table s.next s.entries k.1 c.requires.4 c.if-self-eq0.false in
    omega (arith, low)

pub write_word-requires-clause-aligned : goal.write_word-requires-clause-aligned
write_word-requires-clause-aligned c =
    let s = c.take-link.new.self in
    let k = c.take-link.ensures.given c.requires.0 c.requires.1 c.requires.2 c.requires.3 in
    next_aligned c.requires.0 c.requires.1 s.memory s.pool s.table s.next s.entries k.1 c.requires.4

pub write_word-requires-clause-held : goal.write_word-requires-clause-held
write_word-requires-clause-held c =
    let s = c.take-link.new.self in
    let k = c.take-link.ensures.given c.requires.0 c.requires.1 c.requires.2 c.requires.3 in
    c.fill.ensures.stay (s.next / 4096) (next_held c.requires.0 c.requires.1 s.memory s.pool s.table s.next s.entries k.1 c.requires.4 c.if-self-eq0.false)

pub returns-clause-written : goal.returns-clause-written
returns-clause-written c = λ d t h can full.
    let s = c.take-link.new.self in
    let k = c.take-link.ensures.given d t h can in
    let cleared : at c.fill.new.memory ≡ put (at s.memory) t.0 (page_of []) = c.fill.ensures.value ∙ ap (λ p. put (at s.memory) p (page_of [])) k.0 in
    let address : 4096 * t.0 ≡ c.address-self.result = sym (c.address-self.ensures.value ∙ ap (λ p. 4096 * p) k.0) in
    elim c.if-self-eq0.branch [
      | then-self-eq0 w ↦
          subst (λ v. Renders (with_link d t) [] v.memory v.pool v.table c.address-self.result v.entries) (sym w.self-is)
          (subst (λ a. Renders (with_link d t) [] c.fill.new.memory s.pool s.table a s.entries) address
          (first d t s.memory s.pool s.table s.next s.entries k.1 full c.fill.new.memory w.if-self-eq0.true cleared c.fill.ensures.stay))
      | else-self-eq0 w ↦
          subst (λ v. Renders (with_link d t) [] v.memory v.pool v.table c.address-self.result v.entries) (sym w.self-is)
          (subst (λ a. Renders (with_link d t) [] w.write_word.new.memory s.pool s.table a s.entries) address
          (later d t s.memory s.pool s.table s.next s.entries k.1 full w.write_word.new.memory w.if-self-eq0.false
          (w.write_word.ensures.value ∙ ap (λ m. set_word m s.next w.link_word.result) cleared ∙ ap (set_word (put (at s.memory) t.0 (page_of [])) s.next) (w.link_word.ensures ∙ ap (λ p. code (Link p)) k.0))
          (λ q g. w.write_word.ensures.stay q (c.fill.ensures.stay q g))))
    ]

pub returns-clause-head : goal.returns-clause-head
returns-clause-head c = λ d t h can full old.
    let s = c.take-link.new.self in
    let k = c.take-link.ensures.given d t h can in
    let P : ℕ → Type 0 = λ x. HeadIs d.links x in
    elim c.if-self-eq0.branch [
      | then-self-eq0 w ↦ head_first d t.0 c.if-self-eq0.self.head s.entries k.1.many full w.if-self-eq0.true (ap (λ v. v.head) w.self-is ∙ w.link_word-self.ensures ∙ ap (λ p. code (Link p)) k.0)
      | else-self-eq0 w ↦ head_later d.links t.0 c.if-self-eq0.self.head (omega (arith, w.if-self-eq0.false, k.1.many, full)) (subst P (sym (ap (λ v. v.head) w.self-is ∙ k.4)) old)
    ]
