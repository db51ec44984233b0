-- The pages in the order of their numbers, by what a map has once a page is set.
use Rattle.std.proofs.Common.{◌≡◌, ◌∙◌, ℕ, List, [], ◌∷◌, length, filter, refl, sym, ap}
use Rattle.std.specs.Prelude.{codes, replicate}
use Rattle.std.specs.Cmp.{nat_cmp_total}
use Rattle.std.specs.Ordering.{nat_cmp}
use Rattle.std.specs.FinMap.{entries, entries-insert, empty, insert, len-empty, len-entries}
use Rattle.std.specs.FinMap.Entries.{put}
use Rattle.kx_pages.specs.Bytes.{page_of}
use Rattle.page_memory.specs.File.{is_stored, stored_pages, text_of}
use Rattle.worked_examples.specs.Memories.{three_held}
use Rattle.worked_examples.proofs.memories.file_of_a_memory.Goals as goal

abbrev a : List ℕ
a = page_of (codes "a")

abbrev b : List ℕ
b = page_of (codes "b")

abbrev zeros : List ℕ
zeros = replicate 4096 0

none : (es : List (ℕ × List ℕ)) → length es ≡ 0 → es ≡ []
none [] e = refl
none (f ∷ es) e = absurd cc

in_order : entries three_held.pages ≡ (2, a) ∷ (3, b) ∷ (5, zeros) ∷ []
in_order =
    entries-insert nat_cmp_total (insert (insert empty 3 b) 5 zeros) 2 a
    ∙ ap (put nat_cmp 2 a) (entries-insert nat_cmp_total (insert empty 3 b) 5 zeros)
    ∙ ap (λ es. put nat_cmp 2 a (put nat_cmp 5 zeros es)) (entries-insert nat_cmp_total empty 3 b)
    ∙ ap (λ es. put nat_cmp 2 a (put nat_cmp 5 zeros (put nat_cmp 3 b es))) (none (entries empty) (sym (len-entries empty) ∙ len-empty nat_cmp (List ℕ)))

stored : stored_pages three_held ≡ (2, a) ∷ (3, b) ∷ []
unfolding page_of
stored = ap (filter is_stored) in_order

pub returns-clause-stored : goal.returns-clause-stored
returns-clause-stored c = stored

pub returns-clause-bytes : goal.returns-clause-bytes
unfolding page_of text_of
returns-clause-bytes c = ap text_of stored
