-- By computing.
use Rattle.std.proofs.Common.{refl}
use Rattle.boot_params.specs.Params.{params, params_fault}
use Rattle.memory_map.specs.Maps.{outside, without_area}
use Rattle.multiboot_image.specs.MapRows.{mem_lower, mem_upper}
use Rattle.multiboot_image.specs.Modules.{module_text}
use Rattle.worked_plans.proofs.laying.bytes_of_parts.Goals as goal

pub returns-clause-image : goal.returns-clause-image
unfolding params outside params_fault without_area mem_lower mem_upper module_text
returns-clause-image c = refl

pub returns-clause-initrd : goal.returns-clause-initrd
unfolding params outside params_fault without_area mem_lower mem_upper module_text
returns-clause-initrd c = refl

pub returns-clause-headers : goal.returns-clause-headers
unfolding params outside params_fault without_area mem_lower mem_upper module_text
returns-clause-headers c = refl

pub returns-clause-notes_in_the_area : goal.returns-clause-notes_in_the_area
unfolding params outside params_fault without_area mem_lower mem_upper module_text
returns-clause-notes_in_the_area c = refl

pub returns-clause-parameters : goal.returns-clause-parameters
unfolding params outside params_fault without_area mem_lower mem_upper module_text
returns-clause-parameters c = refl

pub returns-clause-long_command : goal.returns-clause-long_command
unfolding params outside params_fault without_area mem_lower mem_upper module_text
returns-clause-long_command c = refl

pub returns-clause-module : goal.returns-clause-module
unfolding params outside params_fault without_area mem_lower mem_upper module_text
returns-clause-module c = refl

pub returns-clause-information : goal.returns-clause-information
unfolding params outside params_fault mem_lower mem_upper without_area module_text
returns-clause-information c = refl
