use Rattle.std.proofs.Common.{◌≡◌, ◌∙◌, sym, map, length}
use Rattle.std.proofs.lemmas.List.{length-map}
use Rattle.list_checker.specs.Checked.{as_pair}
use Rattle.load_commands.proofs.load.loaded_text.Goals as goal

pub returns-in_ok-load_lines-in-Ok : goal.returns-in_ok-load_lines-in-Ok
returns-in_ok-load_lines-in-Ok c =
    let a = rw (c.memory.ensures, c.segments.ensures, c.image-image.ensures) at c.in-Ok.ensures.accepted in
    let items = c.in-Ok.accept.pairs.items in
    let counts = c.of_accept.ensures in
    let count : c.of_accept.result.pairs ≡ length (map as_pair items) = counts.pairs ∙ sym (length-map items as_pair) in (
      c.in-Ok.accept.words,
      c.in-Ok.accept.links,
      map as_pair items,
      record { items = a.0; accepted = a.1; count = a.2; link_pages = a.3; same_pairs = a.4 },
      rw (c.image-image.ensures, counts.words, counts.links, count) at c.in_ok-load_lines-in-Ok.ensures,
    )
