-- The setup header of a bzImage (Linux/x86 boot protocol, "The Real-Mode Kernel Header"), as far as a loader of the 64-bit
-- entry reads it. Places count bytes from the file's start.
use Rattle.std.specs.Prelude.{[]}
use Rattle.kx_fields.specs.Formats.{Format}
use Rattle.bzimage.specs.declared.setup_header.SetupHeader.{SetupHeader}

abbrev pub setup_header : Format SetupHeader
setup_header = record {
  layout = λ at. record {
    setup_sects = at 0x1f1 1;
    jump = at 0x201 1;
    version = at 0x206 2;
    loadflags = at 0x211 1;
    initrd_addr_max = at 0x22c 4;
    kernel_alignment = at 0x230 4;
    relocatable_kernel = at 0x234 1;
    xloadflags = at 0x236 2;
    cmdline_size = at 0x238 4;
    pref_address = at 0x258 8;
    init_size = at 0x260 4;
  };
  numbers = λ h. [];
}
