-- By computing.
use Rattle.std.specs.Prelude.{refl}
use Rattle.boot_params.specs.Params.{params, params_fault, params_text}
use Rattle.boot_params.specs.SetupData.{extension, head_text, record_text}
use Rattle.boot_params.specs.ZeroPage.{page_text, row_text}
use Rattle.kx_fields.specs.Fields.{field, with_field, zeros}
use Rattle.worked_examples.proofs.bzimages.boot_parameters.Goals as goal

pub returns-clause-length : goal.returns-clause-length
unfolding params_text page_text extension row_text zeros record_text with_field head_text
returns-clause-length c = refl

pub returns-clause-entries : goal.returns-clause-entries
unfolding field params_text page_text extension row_text zeros record_text with_field head_text
returns-clause-entries c = refl

pub returns-clause-loader : goal.returns-clause-loader
unfolding field params_text page_text extension row_text zeros record_text with_field head_text
returns-clause-loader c = refl

pub returns-clause-command_place : goal.returns-clause-command_place
unfolding field params_text page_text extension row_text zeros record_text with_field head_text
returns-clause-command_place c = refl

pub returns-clause-initrd : goal.returns-clause-initrd
unfolding field params_text page_text extension row_text zeros record_text with_field head_text
returns-clause-initrd c = refl

pub returns-clause-row : goal.returns-clause-row
unfolding params_text page_text extension row_text zeros record_text with_field head_text
returns-clause-row c = refl

pub returns-clause-behind_the_row : goal.returns-clause-behind_the_row
unfolding field params_text page_text extension row_text zeros record_text with_field head_text
returns-clause-behind_the_row c = refl

pub returns-clause-command : goal.returns-clause-command
unfolding params_text page_text extension row_text zeros record_text with_field head_text
returns-clause-command c = refl

pub returns-clause-version : goal.returns-clause-version
unfolding field params_text page_text extension row_text zeros record_text with_field head_text
returns-clause-version c = refl

pub returns-clause-made : goal.returns-clause-made
unfolding params params_fault params_text page_text extension with_field zeros row_text record_text head_text
returns-clause-made c = refl
