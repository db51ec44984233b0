-- Room for one entry more, and the writer after a destination entry.
use Rattle.std.proofs.Common.{◌≡◌, ℕ, ◌+◌, ◌-◌, ◌*◌, ◌<◌, ◌≤◌, List, [], ◌∷◌, ◌++◌, length, Some, None, refl, sym, ap, ◌∙◌, subst, arith, length-append, Bool, true, false, cond}
use Rattle.std.specs.Prelude.{◌/◌, ◌%◌, eqb}
use Rattle.std.proofs.lemmas.Bool.{eqb-true}
use Rattle.kimage_list.specs.Load.{Loading, Start, take_page, give_page, serve}
use Rattle.kimage_list.specs.inner.Drafts.{Draft, Renders, IsSteady, HasRoom, Room, RoomBy, with_link, with_start, HeadIs}
use Rattle.kimage_list.specs.inner.Counted.{UnderWay}
use Rattle.kimage_list.specs.inner.Writers.{History, Writer, StandsAt, IsOpen, draft_of, is_wanted, need, pages_in, with_destination}
use Rattle.kimage_list.proofs.Going.{room_is_there, start_is_there}
use Rattle.kimage_list.proofs.Spanned.{length-pages_in}
use Rattle.kx_pages.specs.Needs.{first_count}
use Rattle.kimage_list.proofs.Standings.{stands_at, length-entries, starts-append, after-append, link_request, loaded-more, one_served, few_pages}

-- room for one more entry
pub record Roomy (h : History) (l : Loading) (first links : List ℕ) : Type 0 where
  pub then : Loading
  pub more : List ℕ
  pub room : Room (draft_of h l first links) (draft_of h then first more)
  pub under_way : UnderWay h.pool (pages_in h.wanted) (need h) (draft_of h then first more)
  pub has_room : HasRoom (draft_of h then first more)
  pub served : serve (is_wanted h) (link_request (length h.entries)) l ≡ Some then
  pub bound : 511 * length more ≤ length h.entries + 511

pub need_is : (h : History) (first : List ℕ) → length first ≡ first_count h.wish → need h ≡ length (pages_in h.wanted) + (h.segments + length (pages_in h.wanted) + 510) / 511 + length first
need_is h first n =
    ap (λ m. m + (h.segments + m + 510) / 511 + first_count h.wish) (sym (length-pages_in h.wanted))
    ∙ ap (λ m. length (pages_in h.wanted) + (h.segments + length (pages_in h.wanted) + 510) / 511 + m) (sym n)

pub make_room : (h : History) (l : Loading) (w : Writer) (o : IsOpen h l w) → length h.entries < h.segments + length (pages_in h.wanted) → Roomy h l o.first o.links
make_room h l w o few =
    let d = draft_of h l o.first o.links in
    let all = pages_in h.wanted in
    let n = need_is h o.first o.first_pages in
    let r = room_is_there h.pool (pages_in h.wanted) h.segments (draft_of h l o.first o.links) (subst (λ m. UnderWay h.pool (pages_in h.wanted) m (draft_of h l o.first o.links)) n o.under_way) o.steady few in
    let u : UnderWay h.pool (pages_in h.wanted) (need h) r.0 = subst (λ m. UnderWay h.pool (pages_in h.wanted) m r.0) (sym n) r.2 in
    go (eqb (length h.entries % 511) 0) refl r.0 r.1.1 u r.3
  where
    go : (b : Bool) → eqb (length h.entries % 511) 0 ≡ b → (e : Draft) → RoomBy (eqb (length h.entries % 511) 0) (draft_of h l o.first o.links) e → UnderWay h.pool (pages_in h.wanted) (need h) e → HasRoom e → Roomy h l o.first o.links
    go false f e by u free =
        let k : e ≡ draft_of h l o.first o.links = subst (λ b. RoomBy b (draft_of h l o.first o.links) e) f by in
        record {
          then = l;
          more = o.links;
          room = (o.steady, subst (λ b. RoomBy b (draft_of h l o.first o.links) (draft_of h l o.first o.links)) (sym f) refl);
          under_way = subst (UnderWay h.pool (pages_in h.wanted) (need h)) k u;
          has_room = subst HasRoom k free;
          served = ap (λ b. serve (is_wanted h) (cond b (None ∷ []) []) l) f;
          bound = omega (arith, o.steady);
        }
    go true f e by u free =
        let k = subst (λ b. RoomBy b (draft_of h l o.first o.links) e) f by in
        let t = k.0 in
        let g : take_page (is_wanted h) None l ≡ Some t = k.1.gives in
        record {
          then = give_page None t;
          more = o.links ++ t.0 ∷ [];
          room = (o.steady, subst (λ b. RoomBy b (draft_of h l o.first o.links) (with_link (draft_of h l o.first o.links) t)) (sym f) (t, k.1, refl));
          under_way = subst (UnderWay h.pool (pages_in h.wanted) (need h)) k.2 u;
          has_room = subst HasRoom k.2 free;
          served = ap (λ b. serve (is_wanted h) (cond b (None ∷ []) []) l) f ∙ one_served (is_wanted h) None l t g;
          bound = omega (arith, o.steady, o.under_way.within, eqb-true (length h.entries % 511) 0 f, length-append o.links (t.0 ∷ []));
        }

-- where a destination entry is still to be written there is room
pub start_room : (h : History) (w : Writer) (s : StandsAt h w) → 0 < w.segments_left → Roomy h s.loading s.inside.first s.inside.links
start_room h w s n = make_room h s.loading w s.inside (omega (arith, length-entries h.entries, few_pages h s.loading w s.inside, s.segments_left, n))

-- the writer after a destination entry
pub start_added : (h : History) (w v : Writer) (s : StandsAt h w) (p : ℕ) (r : Roomy h s.loading s.inside.first s.inside.links)
    → Renders (with_start (draft_of h r.then s.inside.first r.more) p) [] v.memory v.pool v.table v.next v.entries → IsSteady (with_start (draft_of h r.then s.inside.first r.more) p) → HeadIs r.more v.head
    → v.control ≡ w.control → v.mode ≡ w.mode → 0 < w.segments_left → v.segments_left ≡ w.segments_left - 1 → v.destination ≡ Some p → StandsAt (with_destination h p) v
start_added h w v s p r writes steady head control mode some segments destination =
    let o = s.inside in
    stands_at (with_destination h p) r.then v
    (loaded-more (is_wanted h) h.wish h.entries (Start p) h.pool s.loading r.then r.then s.requests r.served refl)
    (record {
      first = o.first;
      links = r.more;
      writes = writes;
      under_way = start_is_there h.pool (pages_in h.wanted) (need h) p (draft_of h r.then o.first r.more) r.under_way r.has_room;
      steady = steady;
      head = head;
      first_pages = o.first_pages;
      control = control ∙ o.control;
      mode = mode ∙ o.mode;
      apart = o.apart;
      some = o.some;
    })
    (omega (arith, starts-append h.entries (Start p ∷ []), s.segments_left, some, segments))
    (destination ∙ sym (after-append None h.entries (Start p ∷ [])))
