-- By computing.
use Rattle.std.specs.Prelude.{refl}
use Rattle.bzimage.specs.Kernel.{header_fault, read_header, tested_header, kernel_reading}
use Rattle.bzimage.specs.Signature.{is_bzimage}
use Rattle.kx_fields.specs.Fields.{field, with_field, zeros}
use Rattle.std.specs.Int.RustNames.{count_ones}
use Rattle.worked_examples.proofs.bzimages.setup_header_of_a_bzimage.Goals as goal

pub returns-clause-read : goal.returns-clause-read
unfolding kernel_reading tested_header with_field zeros read_header header_fault is_bzimage field count_ones
returns-clause-read c = refl

pub returns-clause-no_kernel : goal.returns-clause-no_kernel
unfolding kernel_reading with_field tested_header zeros read_header header_fault is_bzimage field count_ones
returns-clause-no_kernel c = refl

pub returns-clause-short : goal.returns-clause-short
unfolding kernel_reading tested_header with_field zeros read_header header_fault is_bzimage field count_ones
returns-clause-short c = refl

pub returns-clause-version : goal.returns-clause-version
unfolding kernel_reading with_field tested_header zeros read_header header_fault is_bzimage field count_ones
returns-clause-version c = refl

pub returns-clause-entry : goal.returns-clause-entry
unfolding kernel_reading with_field tested_header zeros read_header header_fault is_bzimage field count_ones
returns-clause-entry c = refl

pub returns-clause-relocatable : goal.returns-clause-relocatable
unfolding kernel_reading with_field tested_header zeros read_header header_fault is_bzimage field count_ones
returns-clause-relocatable c = refl

pub returns-clause-high : goal.returns-clause-high
unfolding kernel_reading with_field tested_header zeros read_header header_fault is_bzimage field count_ones
returns-clause-high c = refl

pub returns-clause-end : goal.returns-clause-end
unfolding kernel_reading with_field tested_header zeros read_header header_fault is_bzimage field count_ones
returns-clause-end c = refl

pub returns-clause-alignment : goal.returns-clause-alignment
unfolding kernel_reading with_field tested_header zeros read_header header_fault is_bzimage field count_ones
returns-clause-alignment c = refl

pub returns-clause-cut : goal.returns-clause-cut
unfolding kernel_reading tested_header with_field zeros read_header header_fault is_bzimage field count_ones
returns-clause-cut c = refl
