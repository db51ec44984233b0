-- By computing.
use Rattle.std.specs.Prelude.{refl}
use Rattle.hex.specs.Hex.{decode_pairs}
use Rattle.image_slots.specs.Texts.{bytes_in, caller_in, event_in, named_event, events_onto, events_reading, image_in, kind_in, page_in, segment_in}
use Rattle.text_lines.specs.Lines.{cut, lines, number, number_of, decimal}
use Rattle.worked_examples.proofs.events.texts_of_events.Goals as goal

pub returns-clause-read : goal.returns-clause-read
unfolding events_reading events_onto lines event_in cut named_event caller_in kind_in segment_in image_in page_in bytes_in decimal number number_of decode_pairs
returns-clause-read c = refl

pub returns-clause-calls : goal.returns-clause-calls
unfolding events_reading events_onto lines event_in cut named_event caller_in kind_in segment_in image_in page_in bytes_in decimal number number_of decode_pairs
returns-clause-calls c = refl

pub returns-clause-no_kind : goal.returns-clause-no_kind
unfolding events_reading events_onto lines event_in cut named_event caller_in kind_in segment_in image_in page_in bytes_in decimal number number_of decode_pairs
returns-clause-no_kind c = refl

pub returns-clause-half_a_byte : goal.returns-clause-half_a_byte
unfolding events_reading events_onto lines event_in cut named_event caller_in kind_in segment_in image_in page_in bytes_in decimal number number_of decode_pairs
returns-clause-half_a_byte c = refl

pub returns-clause-long_caller : goal.returns-clause-long_caller
unfolding events_reading events_onto lines event_in cut named_event caller_in kind_in segment_in image_in page_in bytes_in decimal number number_of decode_pairs
returns-clause-long_caller c = refl
