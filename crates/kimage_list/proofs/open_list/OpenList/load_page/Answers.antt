use Rattle.std.proofs.Common.{◌≡◌, ℕ, ◌+◌, ◌∷◌, [], Some, sym, ap, ◌∙◌, subst, refl}
use Rattle.std.specs.Prelude.{IsSome}
use Rattle.page_memory.specs.Contents.{at}
use Rattle.page_memory.specs.inner.Contents.{IsHeld}
use Rattle.kimage_list.proofs.open_list.OpenList.load_page.Goals as goal
use Rattle.kimage_list.proofs.Arriving.{arrived, has_slot, home_of, hand_held, in_hand}
use Rattle.kimage_list.proofs.Entering.{filled_in, steady_more, same_writes}
use Rattle.kimage_list.specs.inner.Drafts.{with_move, HeadIs}
use Rattle.kimage_list.specs.Load.{Move}
use Rattle.kimage_list.specs.inner.Tables.{Slots, slot}
use Rattle.kx_pages.specs.Items.{code}
use Rattle.kx_pages.specs.declared.item.Item.TheVariants.{Source}
use Rattle.kx_pages.specs.Bytes.{page_of}
use Rattle.page_memory.specs.Memory.{put}
use Rattle.page_memory.specs.inner.Memory.{set_word}
use Rattle.page_memory.proofs.Laws.{put-same}

pub fill-requires-clause-held : goal.fill-requires-clause-held
fill-requires-clause-held c =
    let r = c.requires.ready in
    let s = c.take-source.new.self in
    let k = c.make_room.ensures.written r.0 r.1 r.3 r.4 in
    let m = c.take-source.ensures.given r.1 r.2 k.0 r.5 in
    subst (IsHeld s.memory) (sym m.0) (hand_held r.1 r.2 s.memory s.pool s.table s.next s.entries m.1)

pub write_entry-requires : goal.write_entry-requires
write_entry-requires c =
    let r = c.requires.ready in
    let e = r.1 in
    let t = r.2 in
    let s = c.take-source.new.self in
    let k = c.make_room.ensures.written r.0 e r.3 r.4 in
    let m = c.take-source.ensures.given e t k.0 r.5 in
    let f : at c.fill.new.memory ≡ put (at s.memory) t.0 (page_of c.args.bytes.now) = c.fill.ensures.value ∙ ap (λ p. put (at s.memory) p (page_of c.args.bytes.now)) m.0 in
    (record e { loading = t.1 }, t.0 ∷ [], filled_in (record e { loading = t.1 }) (t.0 ∷ []) s.memory c.fill.new.memory s.pool s.table s.next s.entries t.0 (page_of c.args.bytes.now) m.1 (in_hand t.0) f c.fill.ensures.stay, k.1)

pub set-requires : goal.set-requires
set-requires c =
    let r = c.requires.ready in
    let e = r.1 in
    let t = r.2 in
    let s = c.take-source.new.self in
    let s0 = c.make_room.new.self in
    let k = c.make_room.ensures.written r.0 e r.3 r.4 in
    let m = c.take-source.ensures.given e t k.0 r.5 in
    let f : at c.fill.new.memory ≡ put (at s.memory) t.0 (page_of c.args.bytes.now) = c.fill.ensures.value ∙ ap (λ p. put (at s.memory) p (page_of c.args.bytes.now)) m.0 in
    let w = filled_in (record e { loading = t.1 }) (t.0 ∷ []) s.memory c.fill.new.memory s.pool s.table s.next s.entries t.0 (page_of c.args.bytes.now) m.1 (in_hand t.0) f c.fill.ensures.stay in
    let here : at c.fill.new.memory t.0 ≡ page_of c.args.bytes.now = ap (λ N. N t.0) f ∙ put-same (at s.memory) t.0 (page_of c.args.bytes.now) in
    let P : Slots → Type 0 = λ x. IsSome (slot x c.args.p) in
    subst P (sym c.write_entry.ensures.others.1)
    (has_slot e t c.fill.new.memory s.pool s.table s.next s.entries w k.1 c.args.p c.args.bytes.now r.6 (home_of e s0.memory s0.pool s0.table s0.next s0.entries k.0 c.args.p t r.5) here)

pub returns-clause-written : goal.returns-clause-written
returns-clause-written c = λ d e t h r can n.
    let s = c.take-source.new.self in
    let s0 = c.make_room.new.self in
    let z = c.write_entry.new.self in
    let k = c.make_room.ensures.written d e h r in
    let m = c.take-source.ensures.given e t k.0 can in
    let f : at c.fill.new.memory ≡ put (at s.memory) t.0 (page_of c.args.bytes.now) = c.fill.ensures.value ∙ ap (λ p. put (at s.memory) p (page_of c.args.bytes.now)) m.0 in
    let w = filled_in (record e { loading = t.1 }) (t.0 ∷ []) s.memory c.fill.new.memory s.pool s.table s.next s.entries t.0 (page_of c.args.bytes.now) m.1 (in_hand t.0) f c.fill.ensures.stay in
    let here : at c.fill.new.memory t.0 ≡ page_of c.args.bytes.now = ap (λ N. N t.0) f ∙ put-same (at s.memory) t.0 (page_of c.args.bytes.now) in
    let home = home_of e s0.memory s0.pool s0.table s0.next s0.entries k.0 c.args.p t can in
    let o = c.write_entry.ensures.others in
    let x = c.write_entry.ensures.next in
    let word : at z.memory ≡ set_word (at c.fill.new.memory) s.next (code (Source t.0)) = c.write_entry.ensures.value ∙ ap (set_word (at c.fill.new.memory) s.next) (c.source_word.ensures ∙ ap (λ p. code (Source p)) m.0) in
    let Slot : ℕ → Type 0 = λ y. slot c.set.new.self c.args.p ≡ Some (Some (record { source = y; place = s.next })) in
    let new : slot c.set.new.self c.args.p ≡ Some (Some (record { source = t.0; place = s.next })) = subst Slot m.0 c.set.ensures.here in
    let T : Slots = c.set.new.self in
    let old = λ (y : ℕ) (g : c.args.p ≡ y → ⊥). c.set.ensures.others y g ∙ ap (λ v. slot v y) o.1 in (
      same_writes (with_move e c.args.p t) [] z.memory s.pool z.pool T T (s.next + 8) z.next (s.entries + 1) z.entries (sym o.0) refl (sym x.0) (sym x.1)
          (arrived e t c.fill.new.memory s.pool s.table s.next s.entries w k.1 c.args.p c.args.bytes.now n home here z.memory T word c.write_entry.ensures.stay new old),
      steady_more (record e { loading = t.1 }) (t.0 ∷ []) c.fill.new.memory s.pool s.table s.next s.entries w k.1 (Move c.args.p),
    )

pub returns-clause-head : goal.returns-clause-head
returns-clause-head c = λ d e t h r can old.
    let k = c.make_room.ensures.written d e h r in
    let m = c.take-source.ensures.given e t k.0 can in
    let P : ℕ → Type 0 = λ x. HeadIs e.links x in
    subst P (sym (c.write_entry.ensures.others.2 ∙ m.4)) (c.make_room.ensures.head d e h r old)
