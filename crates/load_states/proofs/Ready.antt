-- Accepted lists whose pages are held, and their runs.
use Rattle.std.proofs.Common.{◌≡◌, ℕ, ◌%◌, ◌^◌, ◌<◌, List, [], ◌∷◌, length, Option, Some, None, refl, sym, ap, ◌∙◌, subst, inl, inr, ◌+◌, arith}
use Rattle.std.specs.List.{AllByRecursion}
use Rattle.std.specs.Prelude.{◌≢◌, IsSome, map, unwrap_or}
use Rattle.kx_pages.specs.declared.item.Item.{Item}
use Rattle.kx_pages.specs.declared.image.Mode.{Mode}
use Rattle.kx_pages.specs.declared.image.Mode.TheVariants.{Plain, Kept}
use Rattle.relocate_machine.specs.inner.Writes.{AreHeld, move_writes}
use Rattle.kx_pages.specs.Lists.{Has, destinations, sources}
use Rattle.page_memory.specs.Contents.{Contents, at}
use Rattle.page_memory.specs.inner.Contents.{IsHeld, after_set}
use Rattle.page_memory.proofs.Laws.{frame_at-insert_other, held-insert}
use Rattle.std.proofs.lemmas.Option.{none-some}
use Rattle.kx_pages.specs.Bytes.{Mem}
use Rattle.segments.specs.Values.{SegmentValue, want, overlay}
use Rattle.segments.specs.inner.Rules.{IsBare}
use Rattle.segments.proofs.Laws.{AreSegments-from_IsBare, Has-from_want, pages_below}
use Rattle.list_checker.specs.declared.earlier.Accept.{Accept}
use Rattle.list_checker.specs.Walk.{Accepted, AcceptedKept, PairsApart, IsAccepted, links, pairs}
use Rattle.list_checker.specs.Checked.{as_pair}
use Rattle.list_checker.specs.inner.Checked.{IsAccept}
use Rattle.load_states.specs.States.{CrashLoad, Load, Checked, swap_of}
use Rattle.load_states.specs.inner.States.{checked_of}
use Rattle.load_states.specs.Exchange.{exchange, partner}
use Rattle.load_states.proofs.Exchange.{arrives, link_kept, link_unwanted, restores, returns, no_source_wanted, sources_get}
use Rattle.load_states.specs.Runs.{EndsAfter}
use Rattle.load_states.specs.inner.Runs.{CrashRunsTo, RunsTo}
use Rattle.load_states.specs.Ready.{Told}
use Rattle.load_states.specs.inner.Ready.{HoldsPairs, IsReadyPlain, IsKept, IsReadyKept, IsToGoBack}
use Rattle.load_states.proofs.Bridge.{Comes, plain_runs, kept_runs, done_runs, done_leaves}
use Rattle.load_states.proofs.Holding.{Holds}
use Rattle.kx_pages.specs.declared.image.Image.{Image}
use Rattle.relocate_machine.specs.Machine.{start_at}
use Rattle.relocate_machine.specs.Run.{run_of}
use Rattle.relocate_machine.specs.inner.Run.{HeldFrom}
use Rattle.relocate_machine.specs.declared.step.Outcome.TheVariants as outcomes
use Rattle.kx_pages.proofs.Lists.{Each-map, Each-both}
use Rattle.kx_pages.specs.Modes.{swap_page}
use Rattle.kx_laws.proofs.Options.{some_of}

-- each destination of an accepted list is a page
below : (W : ℕ → Option (List ℕ)) (M : Mem) (qs : List (ℕ × ℕ)) → ((p : ℕ) (b : List ℕ) → W p ≡ Some b → p < 2 ^ 34) → AllByRecursion (λ q. W q.0 ≡ Some (M q.1)) qs → AllByRecursion (λ q. q.0 < 2 ^ 34) qs
below W M qs h k = Each-map qs (λ q e. h q.0 (M q.1) e) k

wanted_below : (S : List SegmentValue) → IsBare S → (p : ℕ) (b : List ℕ) → want S p ≡ Some b → p < 2 ^ 34
wanted_below S k p b e = let a = AreSegments-from_IsBare S k in pages_below S p a.placed (Has-from_want S p b a.placed e)

pub told_of : (s : Load) (a : Accept) → IsAccept s.memory s.segments s.image a → Told s a.words a.links (map as_pair a.pairs.items)
told_of s a h = record { items = h.0; accepted = h.1; count = h.2; link_pages = h.3; same_pairs = h.4 }

-- a plain list that is accepted and whose pages are held
pub plain_ready : (s : Load) (a : Accept) → IsAccept s.memory s.segments s.image a → IsBare s.segments → s.image.mode ≡ Plain → Holds s.memory s.image.mode (map as_pair a.pairs.items) → IsReadyPlain (checked_of s a)
plain_ready s a h k m held =
    let told = told_of s a h in
    let plain : Accepted (at s.memory) (want s.segments) s.image.head s.image.control h.0 = subst (λ mode. IsAccepted (at s.memory) (want s.segments) s.image.head s.image.control (swap_page mode) h.0) m h.1 in
    let low : AllByRecursion (λ q. q.0 < 2 ^ 34) (map as_pair a.pairs.items) = subst (AllByRecursion (λ q. q.0 < 2 ^ 34)) h.4 (below (want s.segments) (at s.memory) (pairs h.0) (wanted_below s.segments k) plain.right_bytes) in
    record {
      mode = m;
      told = told;
      held = Each-both (map as_pair a.pairs.items) (λ q x y. (x, y)) low (subst (λ mode. Holds s.memory mode (map as_pair a.pairs.items)) m held);
    }

-- the same with context preserved
pub kept_ready : (s : Load) (a : Accept) (swap : ℕ) → IsAccept s.memory s.segments s.image a → IsBare s.segments → s.image.mode ≡ Kept swap → Holds s.memory s.image.mode (map as_pair a.pairs.items) → IsReadyKept (checked_of s a)
kept_ready s a swap h k m held =
    let kept : AcceptedKept (at s.memory) (want s.segments) s.image.head s.image.control swap h.0 = subst (λ mode. IsAccepted (at s.memory) (want s.segments) s.image.head s.image.control (swap_page mode) h.0) m h.1 in
    let low : AllByRecursion (λ q. q.0 < 2 ^ 34) (map as_pair a.pairs.items) = subst (AllByRecursion (λ q. q.0 < 2 ^ 34)) h.4 (below (want s.segments) (at s.memory) (pairs h.0) (wanted_below s.segments k) kept.plain.right_bytes) in
    record {
      swap = swap;
      items = h.0;
      kept = record {
        mode = m;
        accepted = kept;
        count = h.2;
        link_pages = h.3;
        same_pairs = h.4;
        words = λ p x. refl;
        held = Each-both (map as_pair a.pairs.items) (λ q x y. (x, y)) low (subst (λ mode. Holds s.memory mode (map as_pair a.pairs.items)) m held);
      };
    }

-- pages that are held, so to say
abbrev Held : Type 0
Held = Unit {0}

as_held : (m : Contents) (mode : Mode) (qs : List (ℕ × ℕ)) → HoldsPairs m mode qs → AllByRecursion (λ q. (q.0 < 2 ^ 34) × (Held → AreHeld m (move_writes mode q.0 q.1))) qs
as_held m mode qs h = Each-map qs (λ q x. (x.0, λ u. x.1)) h

-- the run of a plain list
pub ready_runs : (c : Checked) → IsReadyPlain c → Comes Held c.words 0 (start_at c.load.memory c.load.image.head c.load.image.mode) (overlay (at c.load.memory) (want c.load.segments))
ready_runs c r =
    let items = r.told.items in
    let plain : Accepted (at c.load.memory) (want c.load.segments) c.load.image.head c.load.image.control items = subst (λ mode. IsAccepted (at c.load.memory) (want c.load.segments) c.load.image.head c.load.image.control (swap_page mode) items) r.mode r.told.accepted in
    let held : HoldsPairs c.load.memory Plain (pairs items) = subst (HoldsPairs c.load.memory Plain) (sym r.told.same_pairs) r.held in
    let run = plain_runs Held c.load.memory (want c.load.segments) c.load.image.head c.load.image.control items plain (as_held c.load.memory Plain (pairs items) held) in
    let counted = subst (λ n. Comes Held n 0 (start_at c.load.memory c.load.image.head Plain) (overlay (at c.load.memory) (want c.load.segments))) r.told.count run in
    subst (λ mode. Comes Held c.words 0 (start_at c.load.memory c.load.image.head mode) (overlay (at c.load.memory) (want c.load.segments))) (sym r.mode) counted

-- the run of the image's list ends after exactly so many steps, its pages are held, and it leaves M
pub record Ends (m : Contents) (i : Image) (words : ℕ) (M : Mem) : Type 0 where
  pub held : HeldFrom words (start_at m i.head i.mode)
  pub ends : (run_of m i.head i.mode words).1 ≡ outcomes.Done words
  pub leaves : (p : ℕ) → at (run_of m i.head i.mode words).0.memory p ≡ M p
  pub sets : (run_of m i.head i.mode words).0.memory.sets ≡ m.sets
  pub stay : (q : ℕ) → IsHeld m q → IsHeld (run_of m i.head i.mode words).0.memory q

ends_of : (m : Contents) (i : Image) (words : ℕ) (M : Mem) → Comes Held words 0 (start_at m i.head i.mode) M → Ends m i words M
ends_of m i words M f = let z : 0 + words ≡ words = omega arith in record { held = f.held tt; ends = f.out ∙ ap outcomes.Done z; leaves = f.leaves; sets = f.sets; stay = f.stay }

-- the same of a memory and an image that were handed over
ends_of_equals : (m n : Contents) (i j : Image) (words : ℕ) (M : Mem) → m ≡ n → i ≡ j → Ends n j words M → Ends m i words M
ends_of_equals m n i j words M e f h = subst (λ i. Ends m i words M) (sym f) (subst (λ m. Ends m j words M) (sym e) h)

-- the machine's run, as the load has it
pub runs_to : (s : Load) (m n : Contents) (i : Image) (words : ℕ) (M : Mem) → m ≡ s.memory → i ≡ s.image → Ends m i words M
    → n ≡ (run_of m i.head i.mode words).0.memory → RunsTo s words n
runs_to s m n i words M e f runs left = (
  ap (λ i. (run_of s.memory i.head i.mode words).1) (sym f) ∙ ap (λ m. (run_of m i.head i.mode words).1) (sym e) ∙ runs.ends,
  left ∙ ap (λ m. (run_of m i.head i.mode words).0.memory) e ∙ ap (λ i. (run_of s.memory i.head i.mode words).0.memory) f,
)

pub plain_ends : (c : Checked) (m : Contents) (i : Image) → IsReadyPlain c → m ≡ c.load.memory → i ≡ c.load.image → Ends m i c.words (overlay (at c.load.memory) (want c.load.segments))
plain_ends c m i r e f = ends_of_equals m c.load.memory i c.load.image c.words _ e f (ends_of c.load.memory c.load.image c.words _ (ready_runs c r))

-- the run of a list with context preserved, over a memory that has its words
pub swap_is : (M : Mem) (c : Checked) (swap : ℕ) (items : List Item) → IsKept M c swap items → swap_of c.load ≡ swap
swap_is M c swap items k = ap (λ mode. unwrap_or (swap_page mode) 0) k.mode

kept_comes : (M : Mem) (c : Checked) (swap : ℕ) (items : List Item) → IsKept M c swap items → Comes Held c.words 0 (start_at c.load.memory c.load.image.head c.load.image.mode) (exchange (at c.load.memory) c.pairs (swap_of c.load))
kept_comes M c swap items k =
    let held : HoldsPairs c.load.memory (Kept swap) (pairs items) = subst (HoldsPairs c.load.memory (Kept swap)) (sym k.same_pairs) k.held in
    let run = kept_runs Held M c.load.memory (want c.load.segments) c.load.image.head c.load.image.control swap items k.accepted k.words (as_held c.load.memory (Kept swap) (pairs items) held) in
    let counted = subst (λ n. Comes Held n 0 (start_at c.load.memory c.load.image.head (Kept swap)) (exchange (at c.load.memory) (pairs items) swap)) k.count run in
    let paired = subst (λ qs. Comes Held c.words 0 (start_at c.load.memory c.load.image.head (Kept swap)) (exchange (at c.load.memory) qs swap)) k.same_pairs counted in
    let swapped = subst (λ w. Comes Held c.words 0 (start_at c.load.memory c.load.image.head (Kept swap)) (exchange (at c.load.memory) c.pairs w)) (sym (swap_is M c swap items k)) paired in
    subst (λ mode. Comes Held c.words 0 (start_at c.load.memory c.load.image.head mode) (exchange (at c.load.memory) c.pairs (swap_of c.load))) (sym k.mode) swapped

pub kept_ends : (M : Mem) (c : Checked) (swap : ℕ) (items : List Item) (m : Contents) (i : Image) → IsKept M c swap items → m ≡ c.load.memory → i ≡ c.load.image → Ends m i c.words (exchange (at c.load.memory) c.pairs (swap_of c.load))
kept_ends M c swap items m i k e f = ends_of_equals m c.load.memory i c.load.image c.words _ e f (ends_of c.load.memory c.load.image c.words _ (kept_comes M c swap items k))

-- the runs of accepted lists end after as many steps as their walks have words
pub plain_done : (c : Checked) → IsReadyPlain c → EndsAfter c.load c.words
plain_done c r = (plain_ends c c.load.memory c.load.image r refl refl).ends

pub kept_done : (c : Checked) → IsReadyKept c → EndsAfter c.load c.words
kept_done c r = (kept_ends (at c.load.memory) c r.swap r.items c.load.memory c.load.image r.kept refl refl).ends

-- the pages that these runs write are held
pub plain_held : (c : Checked) → IsReadyPlain c → HoldsPairs c.load.memory c.load.image.mode c.pairs
plain_held c r = subst (λ mode. HoldsPairs c.load.memory mode c.pairs) (sym r.mode) r.held

pub kept_held : (c : Checked) → IsReadyKept c → HoldsPairs c.load.memory c.load.image.mode c.pairs
kept_held c r = subst (λ mode. HoldsPairs c.load.memory mode c.pairs) (sym r.kept.mode) r.kept.held

-- the pairs and the swap page have no page in common
pub pairs_apart : (M : Mem) (c : Checked) (swap : ℕ) (items : List Item) → IsKept M c swap items → PairsApart c.pairs × AllByRecursion (λ q. (q.0 ≢ swap_of c.load) × (q.1 ≢ swap_of c.load)) c.pairs
pairs_apart M c swap items k =
    let w = sym (swap_is M c swap items k) in (
      subst PairsApart k.same_pairs k.accepted.apart,
      subst (λ w. AllByRecursion (λ q. (q.0 ≢ w) × (q.1 ≢ w)) c.pairs) w (subst (AllByRecursion (λ q. (q.0 ≢ swap) × (q.1 ≢ swap))) k.same_pairs k.accepted.swap_apart.2),
    )

-- a list stays ready to run where its words stand, what is held stays held, and all else is as it was
pub record Same (c d : Checked) : Type 0 where
  pub image : d.load.image ≡ c.load.image
  pub segments : d.load.segments ≡ c.load.segments
  pub words : d.words ≡ c.words
  pub links : d.links ≡ c.links
  pub pairs : d.pairs ≡ c.pairs
  pub stay : (q : ℕ) → IsHeld c.load.memory q → IsHeld d.load.memory q

pub kept_stays : (M : Mem) (c d : Checked) (swap : ℕ) (items : List Item) → IsKept M c swap items → Same c d → ((p : ℕ) → Has p (links items) → at d.load.memory p ≡ M p) → IsKept M d swap items
kept_stays M c d swap items k s words = record {
  mode = ap (λ i. i.mode) s.image ∙ k.mode;
  accepted = subst (λ i. AcceptedKept M (want d.load.segments) i.head i.control swap items) (sym s.image) (subst (λ S. AcceptedKept M (want S) c.load.image.head c.load.image.control swap items) (sym s.segments) k.accepted);
  count = k.count ∙ sym s.words;
  link_pages = k.link_pages ∙ sym s.links;
  same_pairs = k.same_pairs ∙ sym s.pairs;
  words = words;
  held = subst (HoldsPairs d.load.memory (Kept swap)) (sym s.pairs) (Each-map c.pairs (λ q x. (x.0, (s.stay q.0 x.1.0, s.stay q.1 x.1.1, s.stay swap x.1.2))) k.held);
}

-- after the first run the list can run again
pub goes_back : (c d : Checked) → (r : IsReadyKept c) → Same c d → ((p : ℕ) → at d.load.memory p ≡ exchange (at c.load.memory) c.pairs (swap_of c.load) p) → IsToGoBack d
goes_back c d r s leaves = record {
  before = at c.load.memory;
  swap = r.swap;
  items = r.items;
  kept = kept_stays (at c.load.memory) c d r.swap r.items r.kept s (λ p h. leaves p ∙ unchanged p h);
}
  where
    unchanged : (p : ℕ) → Has p (links r.items) → exchange (at c.load.memory) c.pairs (swap_of c.load) p ≡ at c.load.memory p
    unchanged p h =
        ap (λ qs. exchange (at c.load.memory) qs (swap_of c.load) p) (sym r.kept.same_pairs)
        ∙ ap (λ w. exchange (at c.load.memory) (pairs r.items) w p) (swap_is (at c.load.memory) c r.swap r.items r.kept)
        ∙ link_kept (at c.load.memory) (want c.load.segments) c.load.image.head c.load.image.control r.swap r.items r.kept.accepted p h

-- one run of it leaves each page of the segments what it is to have
pub kept_arrives : (c : Checked) → IsReadyKept c → (p : ℕ) (b : List ℕ) → want c.load.segments p ≡ Some b → exchange (at c.load.memory) c.pairs (swap_of c.load) p ≡ b
kept_arrives c r p b e =
    ap (λ qs. exchange (at c.load.memory) qs (swap_of c.load) p) (sym r.kept.same_pairs)
    ∙ ap (λ w. exchange (at c.load.memory) (pairs r.items) w p) (swap_is (at c.load.memory) c r.swap r.items r.kept)
    ∙ arrives (at c.load.memory) (want c.load.segments) c.load.image.head c.load.image.control r.swap r.items r.kept.accepted p b e

-- what the second run leaves
pub record Undoes (c : Checked) (N : Mem) : Type 0 where
  pub restored : (M : Mem) → ((q : ℕ) → at c.load.memory q ≡ exchange M c.pairs (swap_of c.load) q) → (p : ℕ) → p ≢ swap_of c.load → N p ≡ M p
  pub undone : (M : Mem) → ((q : ℕ) → want c.load.segments q ≡ None → at c.load.memory q ≡ exchange M c.pairs (swap_of c.load) q) → (p : ℕ) → p ≢ swap_of c.load → (Has p (sources c.pairs) → ⊥) → N p ≡ M p
  pub sources : AllByRecursion (λ q. N q.1 ≡ at c.load.memory q.0) c.pairs

pub undoes : (c : Checked) → IsToGoBack c → (N : Mem) → ((p : ℕ) → N p ≡ exchange (at c.load.memory) c.pairs (swap_of c.load) p) → Undoes c N
undoes c r N leaves =
    let a = pairs_apart r.before c r.swap r.items r.kept in
    let whole : (p : ℕ) (b : List ℕ) → want c.load.segments p ≡ Some b → Has p (destinations c.pairs) =
    λ p b e. subst (λ qs. Has p (destinations qs)) r.kept.same_pairs (r.kept.accepted.plain.whole p b e) in
    record {
      restored = λ M same p n. restores (want c.load.segments) c.pairs (swap_of c.load) a.0 a.1 (at c.load.memory) N leaves M p n (same (partner c.pairs p));
      undone = λ M same p n s. restores (want c.load.segments) c.pairs (swap_of c.load) a.0 a.1 (at c.load.memory) N leaves M p n
          (same (partner c.pairs p) (no_source_wanted (want c.load.segments) c.pairs (swap_of c.load) a.0 a.1 (at c.load.memory) N leaves whole p s));
      sources = sources_get (want c.load.segments) c.pairs (swap_of c.load) a.0 a.1 (at c.load.memory) N leaves;
    }

destination_held : (m : Contents) (swap p : ℕ) (qs : List (ℕ × ℕ)) → HoldsPairs m (Kept swap) qs → Has p (destinations qs) → IsHeld m p
destination_held m swap p [] h i = absurd i
destination_held m swap p (q ∷ qs) h (inl e) = subst (IsHeld m) e h.0.1.0
destination_held m swap p (q ∷ qs) h (inr i) = destination_held m swap p qs h.1 i

-- a wanted page is held
pub wanted_held : (c : Checked) → IsToGoBack c → (p : ℕ) → IsSome (want c.load.segments p) → IsHeld c.load.memory p
wanted_held c r p h =
    let b = some_of (want c.load.segments p) h in
    destination_held c.load.memory r.swap p c.pairs r.kept.held (subst (λ qs. Has p (destinations qs)) r.kept.same_pairs (r.kept.accepted.plain.whole p b.0 b.1))

-- a write to a wanted page leaves the list's words
pub touch_goes_back : (c d : Checked) (p : ℕ) (bytes : List ℕ) → IsToGoBack c → IsSome (want c.load.segments p) → d.load ≡ record c.load { memory = after_set c.load.memory p bytes } → d.words ≡ c.words → d.links ≡ c.links → d.pairs ≡ c.pairs → IsToGoBack d
touch_goes_back c d p bytes r h e words link_count same =
    record {
      before = r.before;
      swap = r.swap;
      items = r.items;
      kept = kept_stays r.before c d r.swap r.items r.kept
          (record {
            image = ap (λ s. s.image) e;
            segments = ap (λ s. s.segments) e;
            words = words;
            links = link_count;
            pairs = same;
            stay = λ q x. subst (λ (s : Load). IsHeld s.memory q) (sym e) (held-insert c.load.memory.pages p bytes q x);
          })
          (λ q x. ap (λ (s : Load). at s.memory q) e ∙ frame_at-insert_other c.load.memory.pages p bytes q (apart q x) ∙ r.kept.words q x);
    }
  where
    apart : (q : ℕ) → Has q (links r.items) → q ≢ p
    apart q x same =
        let b = some_of (want c.load.segments p) h in
        none-some b.0 (sym (link_unwanted r.before (want c.load.segments) c.load.image.head c.load.image.control r.swap r.items r.kept.accepted q x) ∙ ap (want c.load.segments) same ∙ b.1)

-- the run of a done word alone
pub crash_ends : (m n : Contents) (head h : ℕ) → m ≡ n → head ≡ h → h % 4096 ≡ 4 → Ends m (record { head = head; mode = Plain; control = 0 }) 1 (at n)
crash_ends m n head h e f done =
    subst (λ x. Ends m (record { head = head; mode = Plain; control = 0 }) 1 (at x)) e
    (ends_of m (record { head = head; mode = Plain; control = 0 }) 1 (at m) (done_runs Held Plain m head (ap (λ x. x % 4096) f ∙ done)))

-- this run, as the crash load has it, and that it leaves the memory that it found
pub crash_runs : (c : CrashLoad) (m n : Contents) (head : ℕ) → m ≡ c.memory → head ≡ c.head → c.head % 4096 ≡ 4
    → n ≡ (run_of m head Plain 1).0.memory → CrashRunsTo c 1 n × (n ≡ c.memory)
crash_runs c m n head e f done left =
    let same : (run_of m head Plain 1).0.memory ≡ (run_of c.memory c.head Plain 1).0.memory = λ i. (run_of (e i) (f i) Plain 1).0.memory in (
      ((crash_ends c.memory c.memory c.head c.head refl refl done).ends, left ∙ same),
      left ∙ same ∙ done_leaves Plain c.memory c.head done,
    )

-- what runs leave of a load whose list was accepted with context preserved
module _ (c : Checked) (swap : ℕ) (mode : c.load.image.mode ≡ Kept swap) (t : Told c.load c.words c.links c.pairs) where
  accepted_kept : AcceptedKept (at c.load.memory) (want c.load.segments) c.load.image.head c.load.image.control swap t.items
  accepted_kept = subst (λ mode. IsAccepted (at c.load.memory) (want c.load.segments) c.load.image.head c.load.image.control (swap_page mode) t.items) mode t.accepted

  its_swap : swap_of c.load ≡ swap
  its_swap = ap (λ mode. unwrap_or (swap_page mode) 0) mode

  -- one run leaves each page of the segments what it is to have
  pub once_arrives : (p : ℕ) (b : List ℕ) → want c.load.segments p ≡ Some b → exchange (at c.load.memory) c.pairs (swap_of c.load) p ≡ b
  once_arrives p b e =
      ap (λ qs. exchange (at c.load.memory) qs (swap_of c.load) p) (sym t.same_pairs)
      ∙ ap (λ w. exchange (at c.load.memory) (pairs t.items) w p) its_swap
      ∙ arrives (at c.load.memory) (want c.load.segments) c.load.image.head c.load.image.control swap t.items accepted_kept p b e

  -- two runs restore each page but the swap page
  pub twice_returns : (p : ℕ) → p ≢ swap_of c.load → exchange (exchange (at c.load.memory) c.pairs (swap_of c.load)) c.pairs (swap_of c.load) p ≡ at c.load.memory p
  twice_returns p n =
      ap (λ qs. exchange (exchange (at c.load.memory) qs (swap_of c.load)) qs (swap_of c.load) p) (sym t.same_pairs)
      ∙ ap (λ w. exchange (exchange (at c.load.memory) (pairs t.items) w) (pairs t.items) w p) its_swap
      ∙ returns (at c.load.memory) (want c.load.segments) c.load.image.head c.load.image.control swap t.items accepted_kept p (λ s. n (s ∙ sym its_swap))

-- The machine's run of an accepted list is done after as many steps as its walk has words, whichever pages are held.
pub list_ends : (s : Load) (words link_count : ℕ) (qs : List (ℕ × ℕ)) → IsBare s.segments → Told s words link_count qs → EndsAfter s words
list_ends s words link_count qs bare told = by_mode s.image.mode refl
  where
    low : (M : Mem) → AllByRecursion (λ q. want s.segments q.0 ≡ Some (M q.1)) (pairs told.items) → AllByRecursion (λ q. (q.0 < 2 ^ 34) × (⊥ → ⊥)) (pairs told.items)
    low M right = Each-map (pairs told.items) (λ q x. (x, λ e. e)) (below (want s.segments) M (pairs told.items) (wanted_below s.segments bare) right)

    counted : (mode : Mode) → (run_of s.memory s.image.head mode (length told.items)).1 ≡ outcomes.Done (0 + length told.items) → (run_of s.memory s.image.head mode words).1 ≡ outcomes.Done words
    counted mode e = subst (λ n. (run_of s.memory s.image.head mode n).1 ≡ outcomes.Done n) told.count (e ∙ ap outcomes.Done (let z : 0 + length told.items ≡ length told.items = omega arith in z))

    by_mode : (mode : Mode) → s.image.mode ≡ mode → EndsAfter s words
    by_mode Plain e =
        let plain : Accepted (at s.memory) (want s.segments) s.image.head s.image.control told.items =
        subst (λ mode. IsAccepted (at s.memory) (want s.segments) s.image.head s.image.control (swap_page mode) told.items) e told.accepted in
        let run = plain_runs ⊥ s.memory (want s.segments) s.image.head s.image.control told.items plain
        (Each-map (pairs told.items) (λ q x. (x.0, λ n. absurd n)) (low (at s.memory) plain.right_bytes)) in
        subst (λ mode. (run_of s.memory s.image.head mode words).1 ≡ outcomes.Done words) (sym e) (counted Plain run.out)
    by_mode (Kept swap) e =
        let kept : AcceptedKept (at s.memory) (want s.segments) s.image.head s.image.control swap told.items =
        subst (λ mode. IsAccepted (at s.memory) (want s.segments) s.image.head s.image.control (swap_page mode) told.items) e told.accepted in
        let run = kept_runs ⊥ (at s.memory) s.memory (want s.segments) s.image.head s.image.control swap told.items kept (λ p h. refl)
        (Each-map (pairs told.items) (λ q x. (x.0, λ n. absurd n)) (low (at s.memory) kept.plain.right_bytes)) in
        subst (λ mode. (run_of s.memory s.image.head mode words).1 ≡ outcomes.Done words) (sym e) (counted (Kept swap) run.out)
