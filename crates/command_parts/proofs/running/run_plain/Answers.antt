use Rattle.std.proofs.Common.{◌∙◌, length, ap, refl, sym}
use Rattle.std.proofs.lemmas.List.{length-map}
use Rattle.page_memory.specs.Contents.{at}
use Rattle.list_checker.specs.Checked.{as_pair}
use Rattle.command_parts.proofs.running.run_plain.Goals as goal

pub returns : goal.returns
returns c =
    let told = c.accept_data-accept.ensures in
    let items = c.accept_data-accept.result.now.pairs.items in
    let counts = c.of_accept-counts.ensures in
    record {
      memory = λ p. ap (λ m. at m p) c.into_memory.ensures ∙ c.exec-ran.ensures.memory p;
      image = c.image-image.ensures.value;
      words = counts.words ∙ told.words;
      links = counts.links ∙ told.links;
      pairs = counts.pairs ∙ sym (length-map items as_pair) ∙ ap length told.pairs;
      ends = c.steps-steps.ensures ∙ c.exec-ran.ensures.steps;
      ends_again = refl;
    }
