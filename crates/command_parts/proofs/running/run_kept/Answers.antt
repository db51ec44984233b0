use Rattle.std.proofs.Common.{◌∙◌, Some, None, length, ap, refl, subst, sym}
use Rattle.std.proofs.lemmas.List.{length-map}
use Rattle.page_memory.specs.Contents.{at}
use Rattle.kexec_words.specs.declared.commands.Runs.TheVariants.{Once, Twice}
use Rattle.list_checker.specs.Checked.{as_pair}
use Rattle.load_states.specs.States.{Checked, swap_of}
use Rattle.command_parts.specs.declared.running.Ran.{Ran}
use Rattle.command_parts.specs.inner.Ran.{HasRun}
use Rattle.command_parts.proofs.Again.{exchanged_again}
use Rattle.command_parts.proofs.running.run_kept.Goals as goal

pub returns-in-Once : goal.returns-in-Once
returns-in-Once c =
    let a = c.args.accepted in
    let rest = c.exec-ran.ensures.rest in
    let told = c.accept_data-accept.ensures in
    let items = c.accept_data-accept.result.now.pairs.items in
    let counts = c.of_accept-counts.ensures in
    let left : Ran = record {
      memory = c.into_memory.result;
      image = c.image-image.result;
      counts = c.of_accept-counts.result;
      steps = c.steps-steps.result;
      back = None;
    } in
    let once : HasRun (Some Once) a left = record {
      memory = λ p. ap (λ m. at m p) c.into_memory.ensures ∙ c.exec-ran.ensures.memory p;
      image = c.image-image.ensures.value;
      words = counts.words ∙ told.words;
      links = counts.links ∙ told.links;
      pairs = counts.pairs ∙ sym (length-map items as_pair) ∙ ap length told.pairs;
      ends = c.steps-steps.ensures ∙ ap (λ (x : Checked). x.words) rest;
      ends_again = refl;
    } in
    subst (λ r. HasRun (Some r) a left) (sym c.in-Once.is) once

pub returns-in-Twice : goal.returns-in-Twice
returns-in-Twice c =
    let a = c.args.accepted in
    let ran = c.exec-ran.result in
    let rest = c.exec-ran.ensures.rest in
    let told = c.accept_data-accept.ensures in
    let items = c.accept_data-accept.result.now.pairs.items in
    let counts = c.of_accept-counts.ensures in
    let left : Ran = record {
      memory = c.run_back-memory.result.0;
      image = c.image-image.result;
      counts = c.of_accept-counts.result;
      steps = c.steps-steps.result;
      back = Some c.run_back-memory.result.1;
    } in
    let twice : HasRun (Some Twice) a left = record {
      memory = exchanged_again a ran (at c.run_back-memory.result.0) c.exec-ran.ensures.memory (ap (λ (x : Checked). x.pairs) rest) (ap (λ (x : Checked). swap_of x.load) rest) c.run_back-memory.ensures.memory;
      image = c.image-image.ensures.value;
      words = counts.words ∙ told.words;
      links = counts.links ∙ told.links;
      pairs = counts.pairs ∙ sym (length-map items as_pair) ∙ ap length told.pairs;
      ends = c.steps-steps.ensures ∙ ap (λ (x : Checked). x.words) rest;
      ends_again = ap Some (c.run_back-memory.ensures.ends ∙ ap (λ (x : Checked). x.words) rest);
    } in
    subst (λ r. HasRun (Some r) a left) (sym c.in-Twice.is) twice
