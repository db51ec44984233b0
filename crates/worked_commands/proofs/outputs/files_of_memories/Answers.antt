-- A memory has one file; memories that agree have the same pages that are not all zeros.
use Rattle.std.proofs.Common.{◌≡◌, ◌∙◌, length, refl, sym, ap, arith}
use Rattle.kx_pages.specs.Bytes.{page_of}
use Rattle.page_memory.specs.Contents.{at}
use Rattle.page_memory.specs.File.{stored_pages, text_of}
use Rattle.page_memory.proofs.OneFile.{stored-agree}
use Rattle.worked_commands.specs.Memories.{loaded, loaded_file, run_file}
use Rattle.worked_commands.proofs.Memories.{loaded_is, one_file}
use Rattle.worked_commands.proofs.outputs.files_of_memories.Goals as goal

two_pages : length loaded_file ≡ 8224
unfolding page_of text_of
two_pages = refl

three_pages : length run_file ≡ 12328
unfolding page_of text_of
three_pages = refl

pub returns-clause-right : goal.returns-clause-right
returns-clause-right c = loaded_is

pub returns-clause-other_memory : goal.returns-clause-other_memory
returns-clause-other_memory c = λ f.
    let e : 8224 ≡ 12328 = sym two_pages ∙ ap length (one_file (at loaded) loaded_file run_file loaded_is f) ∙ three_pages in
    omega (arith, e)

pub returns-clause-most_pages : goal.returns-clause-most_pages
returns-clause-most_pages c = λ m is e. (m, is, (λ p. refl), omega (arith, e), refl)

pub returns-clause-a_page_more : goal.returns-clause-a_page_more
returns-clause-a_page_more c = λ m bytes e f.
    let same : length (stored_pages f.0) ≡ length (stored_pages m) = ap length (stored-agree f.0 m f.2) in
    omega (arith, same, e, f.3)
