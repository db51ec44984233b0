-- Loads that read alike, with the same image and segments.
use Rattle.std.proofs.Common.{◌≡◌, ℕ, List, length, sym, ap, ◌∙◌, subst, Result, Ok, Err}
use Rattle.std.specs.Prelude.{IfOk}
use Rattle.kx_pages.specs.declared.image.Image.{Image}
use Rattle.page_memory.specs.Contents.{at}
use Rattle.kx_pages.specs.Bytes.{Mem}
use Rattle.segments.specs.Values.{SegmentValue, overlay, want}
use Rattle.list_checker.specs.Walk.{IsAccepted, links, pairs}
use Rattle.list_checker.proofs.Unique.{walk_same}
use Rattle.load_states.specs.Exchange.{exchange}
use Rattle.load_states.specs.Ready.{Told}
use Rattle.load_states.specs.inner.Runs.{TellsAlike, checked_in}
use Rattle.load_states.specs.inner.Answers.{IsAcceptedAs}
use Rattle.load_states.specs.declared.accepted.Accepted.{Accepted}
use Rattle.load_states.specs.declared.accepted.Accepted.TheVariants as variants
use Rattle.load_states.specs.States.{Checked, Load, swap_of}
use Rattle.load_states.specs.inner.States.{IsLeftAs}
use Rattle.load_states.proofs.Outside.{walk_in}
use Rattle.kx_pages.specs.Modes.{swap_page}
use Rattle.kx_pages.proofs.Bytes.{same_memory}

pub tells_alike : (c : Checked) → Told c.load c.words c.links c.pairs → TellsAlike c
tells_alike c told d same other =
    let memory : at d.load.memory ≡ at c.load.memory = same_memory (at d.load.memory) (at c.load.memory) same.reads in
    let P : Mem → List SegmentValue → Image → Type 0 = λ M S i. IsAccepted M (want S) i.head i.control (swap_page i.mode) other.items in
    let here : IsAccepted (at c.load.memory) (want c.load.segments) c.load.image.head c.load.image.control (swap_page c.load.image.mode) other.items =
    subst (P (at c.load.memory) c.load.segments) same.image (subst (λ S. P (at c.load.memory) S d.load.image) same.segments (subst (λ M. P M d.load.segments d.load.image) memory other.accepted)) in
    let items : other.items ≡ told.items =
    walk_same (at c.load.memory) c.load.image.head other.items told.items
    (walk_in (at c.load.memory) (want c.load.segments) c.load.image.head c.load.image.control (swap_page c.load.image.mode) other.items here)
    (walk_in (at c.load.memory) (want c.load.segments) c.load.image.head c.load.image.control (swap_page c.load.image.mode) told.items told.accepted) in
    let qs : d.pairs ≡ c.pairs = sym other.same_pairs ∙ ap pairs items ∙ told.same_pairs in
    let swap : swap_of d.load ≡ swap_of c.load = ap (λ i. swap_of (record c.load { image = i })) same.image in
    let once : exchange (at d.load.memory) d.pairs (swap_of d.load) ≡ exchange (at c.load.memory) c.pairs (swap_of c.load) =
    λ i. exchange (memory i) (qs i) (swap i) in
    record {
      words = sym other.count ∙ ap length items ∙ told.count;
      links = sym other.link_pages ∙ ap (λ is. length (links is)) items ∙ told.link_pages;
      pairs = qs;
      plain = λ i p. overlay (memory i) (want (same.segments i)) p;
      once = once;
      twice = λ i. exchange (once i) (qs i) (swap i);
    }

-- what is told of a list is told of it where nothing has changed but which pages are held
pub told_left : (s n : Load) (words link_count : ℕ) (qs : List (ℕ × ℕ)) → IsLeftAs s n → Told s words link_count qs → Told n words link_count qs
told_left s n words link_count qs left told =
    let memory : at s.memory ≡ at n.memory = sym (same_memory (at n.memory) (at s.memory) left.reads) in
    let P : Mem → List SegmentValue → Image → Type 0 = λ M S i. IsAccepted M (want S) i.head i.control (swap_page i.mode) told.items in
    record {
      items = told.items;
      accepted = subst (P (at n.memory) n.segments) (sym left.image)
          (subst (λ S. P (at n.memory) S s.image) (sym left.segments) (subst (λ M. P M s.segments s.image) memory told.accepted));
      count = told.count;
      link_pages = told.link_pages;
      same_pairs = told.same_pairs;
    }

alike_in : (s : Load) (a : Accepted) → IsAcceptedAs s a → TellsAlike (checked_in a)
alike_in s (variants.Plain c) h = tells_alike c (told_left s c.load c.words c.links c.pairs h.2 h.1)
alike_in s (variants.Kept c) h = tells_alike c (told_left s c.load c.words c.links c.pairs h.2 h.1)

-- what `accept` answers
pub accept_alike : {E : Type 0} (s : Load) (r : Result Accepted E) → IfOk r (λ a. IsAcceptedAs s a) → IfOk r (λ a. TellsAlike (checked_in a))
accept_alike s (Ok a) h = alike_in s a h
accept_alike s (Err e) h = h
