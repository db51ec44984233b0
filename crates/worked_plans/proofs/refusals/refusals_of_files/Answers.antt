-- By computing.
use Rattle.std.proofs.Common.{refl}
use Rattle.boot_params.specs.Params.{params, params_fault, params_length, params_text}
use Rattle.boot_params.specs.SetupData.{extension, head_text, record_text}
use Rattle.boot_params.specs.ZeroPage.{page_text, row_text}
use Rattle.bzimage.specs.Kernel.{header_fault, kernel_reading, read_header, tested_header}
use Rattle.bzimage.specs.Signature.{is_bzimage}
use Rattle.crash_headers.specs.Headers.{headers}
use Rattle.elf_headers.specs.FileHeader.{header_text}
use Rattle.elf_headers.specs.ProgramHeader.{row_text as elf_headers_row_text}
use Rattle.elf_image.specs.FileHeader.{exec_fault, exec_header, object_fault, object_header, read_class, read_elf64, read_header as elf_image_read_header}
use Rattle.elf_image.specs.Gathered.{gather}
use Rattle.elf_image.specs.Loads.{exec_reading, load_fault, load_onto, loads_onto, read_loads}
use Rattle.elf_image.specs.Object.{object_reading}
use Rattle.elf_image.specs.Reloc.{entry_of, read_relocs, rela_fault, relocs_in, test_symbols}
use Rattle.elf_image.specs.Section.{read_table}
use Rattle.elf_image.specs.Symbol.{name_in, read_symbols, strings_of, symbol_in, symbols_in}
use Rattle.kexec_plan.specs.Finish.{armed_plan, finish, plain_plan}
use Rattle.kexec_plan.specs.Formats.{shown_format}
use Rattle.kexec_plan.specs.Ground.{ram}
use Rattle.kexec_plan.specs.Kernels.{elf_kernel, linux_kernel, multiboot_kernel, read_kernel}
use Rattle.kexec_plan.specs.Laying.{place_part, place_parts}
use Rattle.kexec_plan.specs.Places.{place, place_some, taken_by, taking}
use Rattle.kexec_plan.specs.Plan.{plan, plan_as}
use Rattle.kexec_plan.specs.Purgatory.{arm, linked_at, read_purgatory, registers_text, some_purgatory, symbol_address, symbol_place, symbols_of}
use Rattle.kexec_plan.specs.Rules.{first_refusal, test_segments}
use Rattle.kx_fields.specs.Fields.{field, with_field, zeros}
use Rattle.kx_pages.specs.Bytes.{page_of}
use Rattle.memory_map.specs.Maps.{outside, without_area}
use Rattle.multiboot_image.specs.Header.{find_header, header_of, header_place, unknown_bit}
use Rattle.multiboot_image.specs.Info.{info, info_text}
use Rattle.multiboot_image.specs.MapRows.{mem_lower, mem_upper, row_text as multiboot_image_row_text}
use Rattle.multiboot_image.specs.Modules.{module_text}
use Rattle.multiboot_image.specs.Parts.{elf_parts, kludge_parts}
use Rattle.purgatory_link.specs.Layout.{end, lay, linked_size, padding, starts}
use Rattle.purgatory_link.specs.Link.{link_at, linking}
use Rattle.purgatory_link.specs.Regions.{digest, region_table, wanted_bytes}
use Rattle.purgatory_link.specs.Relocs.{put_of, puts_of, relocate, test_place, with_puts}
use Rattle.purgatory_link.specs.Set.{symbol_of}
use Rattle.purgatory_link.specs.Symbols.{symbol_value}
use Rattle.segments.specs.Rules.{bare_refusal, refusal, shape_refusal}
use Rattle.std.specs.Int.RustNames.{count_ones}
use Rattle.worked_plans.proofs.refusals.refusals_of_files.Goals as goal

pub returns-clause-form : goal.returns-clause-form
unfolding plan plan_as read_kernel some_purgatory place_parts ram place_some finish shown_format elf_kernel linux_kernel multiboot_kernel read_purgatory place_part taken_by place linked_at armed_plan plain_plan is_bzimage find_header exec_reading kernel_reading object_reading linked_size taking linking symbols_of test_segments header_place exec_header read_loads tested_header read_table read_symbols read_relocs end params info link_at symbol_place symbol_address first_refusal field header_of elf_image_read_header exec_fault loads_onto read_header header_fault kludge_parts elf_parts object_header gather params_length outside params_fault params_text info_text relocate symbol_of bare_refusal refusal arm region_table digest unknown_bit read_class load_onto read_elf64 object_fault symbols_in relocs_in padding headers without_area page_text extension zeros mem_lower mem_upper multiboot_image_row_text puts_of with_puts starts lay shape_refusal registers_text wanted_bytes load_fault strings_of rela_fault test_symbols header_text row_text record_text module_text put_of with_field page_of symbol_in elf_headers_row_text head_text entry_of name_in test_place symbol_value count_ones
returns-clause-form c = refl

pub returns-clause-crash_needs_a_bzimage : goal.returns-clause-crash_needs_a_bzimage
unfolding plan plan_as read_kernel some_purgatory place_parts ram place_some finish shown_format elf_kernel linux_kernel multiboot_kernel read_purgatory place_part taken_by place linked_at armed_plan plain_plan is_bzimage find_header exec_reading kernel_reading object_reading linked_size taking linking symbols_of test_segments header_place exec_header read_loads tested_header read_table read_symbols read_relocs end params info link_at symbol_place symbol_address first_refusal field header_of elf_image_read_header exec_fault loads_onto read_header header_fault kludge_parts elf_parts object_header gather params_length outside params_fault params_text info_text relocate symbol_of bare_refusal refusal arm region_table digest unknown_bit read_class load_onto read_elf64 object_fault symbols_in relocs_in padding headers without_area page_text extension zeros mem_lower mem_upper multiboot_image_row_text puts_of with_puts starts lay shape_refusal registers_text wanted_bytes load_fault strings_of rela_fault test_symbols header_text row_text record_text module_text put_of with_field page_of symbol_in elf_headers_row_text head_text entry_of name_in test_place symbol_value count_ones
returns-clause-crash_needs_a_bzimage c = refl

pub returns-clause-area : goal.returns-clause-area
unfolding plan plan_as read_kernel some_purgatory place_parts ram place_some finish shown_format elf_kernel linux_kernel multiboot_kernel read_purgatory place_part taken_by place linked_at armed_plan plain_plan is_bzimage find_header exec_reading kernel_reading object_reading linked_size taking linking symbols_of test_segments header_place exec_header read_loads tested_header read_table read_symbols read_relocs end params info link_at symbol_place symbol_address first_refusal field header_of elf_image_read_header exec_fault loads_onto read_header header_fault kludge_parts elf_parts object_header gather params_length outside params_fault params_text info_text relocate symbol_of bare_refusal refusal arm region_table digest unknown_bit read_class load_onto read_elf64 object_fault symbols_in relocs_in padding headers without_area page_text extension zeros mem_lower mem_upper multiboot_image_row_text puts_of with_puts starts lay shape_refusal registers_text wanted_bytes load_fault strings_of rela_fault test_symbols header_text row_text record_text module_text put_of with_field page_of symbol_in elf_headers_row_text head_text entry_of name_in test_place symbol_value count_ones
returns-clause-area c = refl

pub returns-clause-use_of_a_part : goal.returns-clause-use_of_a_part
unfolding plan plan_as read_kernel some_purgatory place_parts ram place_some finish shown_format elf_kernel linux_kernel multiboot_kernel read_purgatory place_part taken_by place linked_at armed_plan plain_plan is_bzimage find_header exec_reading kernel_reading object_reading linked_size taking linking symbols_of test_segments header_place exec_header read_loads tested_header read_table read_symbols read_relocs end params info link_at symbol_place symbol_address first_refusal field header_of elf_image_read_header exec_fault loads_onto read_header header_fault kludge_parts elf_parts object_header gather params_length outside params_fault params_text info_text relocate symbol_of bare_refusal refusal arm region_table digest unknown_bit read_class load_onto read_elf64 object_fault symbols_in relocs_in padding headers without_area page_text extension zeros mem_lower mem_upper multiboot_image_row_text puts_of with_puts starts lay shape_refusal registers_text wanted_bytes load_fault strings_of rela_fault test_symbols header_text row_text record_text module_text put_of with_field page_of symbol_in elf_headers_row_text head_text entry_of name_in test_place symbol_value count_ones
returns-clause-use_of_a_part c = refl

pub returns-clause-kernel : goal.returns-clause-kernel
unfolding plan plan_as read_kernel some_purgatory place_parts ram place_some finish shown_format elf_kernel linux_kernel multiboot_kernel read_purgatory place_part taken_by place linked_at armed_plan plain_plan is_bzimage find_header exec_reading kernel_reading object_reading linked_size taking linking symbols_of test_segments header_place exec_header read_loads tested_header read_table read_symbols read_relocs end params info link_at symbol_place symbol_address first_refusal field header_of elf_image_read_header exec_fault loads_onto read_header header_fault kludge_parts elf_parts object_header gather params_length outside params_fault params_text info_text relocate symbol_of bare_refusal refusal arm region_table digest unknown_bit read_class load_onto read_elf64 object_fault symbols_in relocs_in padding headers without_area page_text extension zeros mem_lower mem_upper multiboot_image_row_text puts_of with_puts starts lay shape_refusal registers_text wanted_bytes load_fault strings_of rela_fault test_symbols header_text row_text record_text module_text put_of with_field page_of symbol_in elf_headers_row_text head_text entry_of name_in test_place symbol_value count_ones
returns-clause-kernel c = refl

pub returns-clause-kernel_of_a_crash : goal.returns-clause-kernel_of_a_crash
unfolding plan plan_as zeros read_kernel some_purgatory place_parts ram place_some finish with_field shown_format elf_kernel linux_kernel multiboot_kernel read_purgatory place_part taken_by place linked_at armed_plan plain_plan is_bzimage find_header exec_reading kernel_reading object_reading linked_size taking linking symbols_of test_segments header_place exec_header read_loads tested_header read_table read_symbols read_relocs end params info link_at symbol_place symbol_address first_refusal field header_of elf_image_read_header exec_fault loads_onto read_header header_fault kludge_parts elf_parts object_header gather params_length outside params_fault params_text info_text relocate symbol_of bare_refusal refusal arm region_table digest unknown_bit read_class load_onto read_elf64 object_fault symbols_in relocs_in padding headers without_area page_text extension mem_lower mem_upper multiboot_image_row_text puts_of with_puts starts lay shape_refusal registers_text wanted_bytes load_fault strings_of rela_fault test_symbols header_text row_text record_text module_text put_of page_of symbol_in elf_headers_row_text head_text entry_of name_in test_place symbol_value count_ones
returns-clause-kernel_of_a_crash c = refl

pub returns-clause-purgatory : goal.returns-clause-purgatory
unfolding plan plan_as read_kernel some_purgatory place_parts ram place_some finish shown_format elf_kernel linux_kernel multiboot_kernel read_purgatory place_part taken_by place linked_at armed_plan plain_plan is_bzimage find_header exec_reading kernel_reading object_reading linked_size taking linking symbols_of test_segments header_place exec_header read_loads tested_header read_table read_symbols read_relocs end params info link_at symbol_place symbol_address first_refusal field header_of elf_image_read_header exec_fault loads_onto read_header header_fault kludge_parts elf_parts object_header gather params_length outside params_fault params_text info_text relocate symbol_of bare_refusal refusal arm region_table digest unknown_bit read_class load_onto read_elf64 object_fault symbols_in relocs_in padding headers without_area page_text extension zeros mem_lower mem_upper multiboot_image_row_text puts_of with_puts starts lay shape_refusal registers_text wanted_bytes load_fault strings_of rela_fault test_symbols header_text row_text record_text module_text put_of with_field page_of symbol_in elf_headers_row_text head_text entry_of name_in test_place symbol_value count_ones
returns-clause-purgatory c = refl

pub returns-clause-address : goal.returns-clause-address
unfolding plan plan_as read_kernel some_purgatory place_parts ram place_some finish shown_format elf_kernel linux_kernel multiboot_kernel read_purgatory place_part taken_by place linked_at armed_plan plain_plan is_bzimage find_header exec_reading kernel_reading object_reading linked_size taking linking symbols_of test_segments header_place exec_header read_loads tested_header read_table read_symbols read_relocs end params info link_at symbol_place symbol_address first_refusal field header_of elf_image_read_header exec_fault loads_onto read_header header_fault kludge_parts elf_parts object_header gather params_length outside params_fault params_text info_text relocate symbol_of bare_refusal refusal arm region_table digest unknown_bit read_class load_onto read_elf64 object_fault symbols_in relocs_in padding headers without_area page_text extension zeros mem_lower mem_upper multiboot_image_row_text puts_of with_puts starts lay shape_refusal registers_text wanted_bytes load_fault strings_of rela_fault test_symbols header_text row_text record_text module_text put_of with_field page_of symbol_in elf_headers_row_text head_text entry_of name_in test_place symbol_value count_ones
returns-clause-address c = refl
