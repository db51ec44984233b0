use Rattle.std.proofs.Common.{◌≡◌, ◌-◌, inl, ◌∷◌, ◌++◌, length, take, drop, sym, ap, ◌∙◌, arith}
use Rattle.kx_fields.specs.Formats.{read}
use Rattle.bzimage.specs.Kernel.{Kernel}
use Rattle.boot_params.specs.ZeroPage.{zero_page, page_text, row_text}
use Rattle.boot_params.specs.SetupData.{extension, head_of}
use Rattle.boot_params.specs.Numbers.{numbers_of}
use Rattle.boot_params.proofs.Making.{fails, few, makes}
use Rattle.boot_params.proofs.Segment.{IsSegment, first_few, segment_numbers, segment_row, segment_header, segment_zero, segment_command}
use Rattle.boot_params.proofs.Behind.{segment_extended, segment_length, left_few, left_count, extended_is_filled, head_read, more_there, row_left}
use Rattle.boot_params.proofs.parameters.make.Goals as goal

pub returns-in-Err-clause-exact : goal.returns-in-Err-clause-exact
returns-in-Err-clause-exact c = inl (fails c.args.image.now c.args.rows.now c.args.command.now c.args.at c.args.initrd c.in-Err.fault (sym c.in-Err.ensures))

pub page-page-requires-clause-few : goal.page-page-requires-clause-few
page-page-requires-clause-few c =
    let first = first_few c.args.rows.now in
    let same = ap length c.rows_in_page.ensures in
    omega (arith, first, same)

pub behind_one_another-requires : goal.behind_one_another-requires
behind_one_another-requires c = record { few = few c.args.image.now c.args.rows.now c.args.command.now (sym c.in-Ok.ensures) }

kernel_header : (c : goal.In_ok-segment) → c.deref.result.now ≡ c.args.image.now.header
kernel_header c = c.deref.ensures.value ∙ ap (λ (k : Kernel). k.header) c.image.view_is

made_page : (c : goal.In_ok-segment) → c.page-page.result ≡ page_text c.args.image.now.header (numbers_of (length c.args.rows.now) (length c.args.command.now) c.args.at c.args.initrd) (take 128 c.args.rows.now)
made_page c =
    c.page-page.ensures.exact
    ∙ ap (λ h. page_text h c.new-numbers.result c.rows_in_page.result.now) (kernel_header c)
    ∙ ap (λ z. page_text c.args.image.now.header z c.rows_in_page.result.now) c.new-numbers.ensures
    ∙ ap (page_text c.args.image.now.header (numbers_of (length c.args.rows.now) (length c.args.command.now) c.args.at c.args.initrd)) c.rows_in_page.ensures

segment : (c : goal.In_ok-segment) → IsSegment c.args.image.now.header (numbers_of (length c.args.rows.now) (length c.args.command.now) c.args.at c.args.initrd) c.args.rows.now c.args.command.now (extension (length c.args.command.now) (drop 128 c.args.rows.now)) c.in_ok-segment.segment.items
segment c = record {
  is =
      c.in_ok-segment.ensures
      ∙ ap (λ l. l ++ (c.args.command.now ++ 0 ∷ extension (length c.args.command.now) (drop 128 c.args.rows.now))) (c.bytes.ensures.value ∙ made_page c);
  short = c.requires.header;
}

pub returns-clause-exact : goal.returns-clause-exact
returns-clause-exact c =
    makes c.args.image.now c.args.rows.now c.args.command.now c.args.at c.args.initrd c.in_ok-segment.segment.items (sym c.in-Ok.ensures) (segment c).is

pub returns-clause-length : goal.returns-clause-length
returns-clause-length c = segment_length _ _ c.args.rows.now c.args.command.now c.in_ok-segment.segment.items (segment c)

pub returns-clause-numbers : goal.returns-clause-numbers
returns-clause-numbers c =
    segment_numbers _ _ _ _ _ c.in_ok-segment.segment.items (segment c) (ap (read zero_page) (sym (made_page c)) ∙ c.page-page.ensures.read_back ∙ c.new-numbers.ensures)

pub returns-clause-rows : goal.returns-clause-rows
returns-clause-rows c = λ i d below first. segment_row _ _ _ _ _ c.in_ok-segment.segment.items i d (segment c) below first

pub returns-clause-header : goal.returns-clause-header
returns-clause-header c = λ k below out. segment_header _ _ _ _ _ c.in_ok-segment.segment.items k (segment c) below out

pub returns-clause-zeros : goal.returns-clause-zeros
returns-clause-zeros c = λ k un. segment_zero _ _ _ _ _ c.in_ok-segment.segment.items k (segment c) un

pub returns-clause-command : goal.returns-clause-command
returns-clause-command c = segment_command _ _ _ _ _ c.in_ok-segment.segment.items (segment c)

pub returns-clause-fill : goal.returns-clause-fill
returns-clause-fill c = λ more.
    extended_is_filled _ _ _ _ (segment_extended _ _ c.args.rows.now c.args.command.now c.in_ok-segment.segment.items (segment c) more)

pub returns-clause-record_head : goal.returns-clause-record_head
returns-clause-record_head c = λ more.
    head_read _ _ _ _ (segment_extended _ _ c.args.rows.now c.args.command.now c.in_ok-segment.segment.items (segment c) more)
    (left_few c.args.rows.now (few c.args.image.now c.args.rows.now c.args.command.now (sym c.in-Ok.ensures)))
    ∙ ap head_of (left_count c.args.rows.now)

pub returns-clause-more_rows : goal.returns-clause-more_rows
returns-clause-more_rows c = λ i d below past.
    let left = left_count c.args.rows.now in
    more_there _ _ _ _ (i - 128) d (segment_extended _ _ c.args.rows.now c.args.command.now c.in_ok-segment.segment.items (segment c) (omega (arith, below, past))) (omega (arith, left, below, past))
    ∙ ap row_text (row_left c.args.rows.now i d past)
