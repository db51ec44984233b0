-- What the one output of a run, and the text that was said, tell of it.
use Rattle.std.proofs.Common.{◌≡◌, ◌∙◌, ℕ, List, [], None, ap, arith, refl, sym}
use Rattle.std.specs.Ordering.{nat_cmp}
use Rattle.std.specs.Cmp.Lexicographic.{slice_cmp}
use Rattle.std.specs.FinMap.{empty, get, get-empty, insert}
use Rattle.std.specs.Prelude.{get_or}
use Rattle.kx_laws.proofs.Options.{none_some, some_same}
use Rattle.kx_laws.proofs.Results.{ok_same}
use Rattle.kx_pages.specs.Bytes.{Mem, page_of}
use Rattle.page_memory.specs.Contents.{frame_at, zero_page}
use Rattle.page_memory.specs.File.{file, read_pages, text_of}
use Rattle.page_memory.specs.Memory.{Agree}
use Rattle.page_memory.specs.declared.fault.MemFault.{MemFault}
use Rattle.page_memory.proofs.RoundTrip.{file_read}
use Rattle.kx_edge.proofs.Names.{get_same}
use Rattle.command_parts.specs.Outputs.{IsFileOf}
use Rattle.worked_commands.specs.Fields.{IsPut, IsSaid}
use Rattle.worked_commands.specs.Memories.{abc_page}

-- what was put under the name is what the shelf has there
pub put_is : (name a b : List ℕ) → IsPut name a (insert empty name b) → a ≡ b
put_is name a b put =
    let same = some_same (insert empty name b) (insert empty name a) put in
    some_same a b (sym (get_same empty name name a refl) ∙ ap (λ m. get m name) (sym same) ∙ get_same empty name name b refl)

-- where nothing was put, it has nothing
pub put_something : (name a : List ℕ) → IsPut name a empty → ⊥
put_something name a put =
    let same = some_same empty (insert empty name a) put in
    none_some {A = List ℕ} None a refl (sym (get-empty (slice_cmp nat_cmp) name) ∙ ap (λ m. get m name) same ∙ get_same empty name name a refl)

pub is_put : (name a : List ℕ) → IsPut name a (insert empty name a)
is_put name a = refl

pub is_said : (text : List ℕ) → IsSaid text text
is_said text = refl

-- what was said is the text
pub said_is : (line text : List ℕ) → IsSaid line text → text ≡ line
said_is line text said = some_same text line said

-- no memory has an empty file
pub no_empty_file : (N : Mem) → IsFileOf N [] → ⊥
unfolding text_of
no_empty_file N f = let e : [] ≡ file f.0 = f.4 in cc

-- memories with the same file are the same
pub one_memory : (M N : Mem) (bytes : List ℕ) → IsFileOf M bytes → IsFileOf N bytes → Agree M N
one_memory M N bytes f g = λ q.
    let r = file_read f.0 f.1 f.3 in
    let s = file_read g.0 g.1 g.3 in
    let e : r.0 ≡ s.0 = ok_same {F = MemFault} r.0 s.0 (sym r.1 ∙ ap read_pages (sym f.4 ∙ g.4) ∙ s.1) in
    sym (f.2 q) ∙ sym (r.2 q) ∙ ap (λ k. frame_at k q) e ∙ s.2 q ∙ g.2 q

-- a page of zeros is no page of `abc`
pub not_zeros : zero_page ≡ abc_page → ⊥
unfolding zero_page page_of
not_zeros e = let f : 0 ≡ 97 = ap (λ bytes. get_or bytes 0 0) e in omega (arith, f)
