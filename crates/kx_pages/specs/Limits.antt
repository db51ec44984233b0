-- What a load may have at most. The limits but for that of segments are this project's own.
use Rattle.std.specs.Prelude.{ℕ}

-- how many segments: KEXEC_SEGMENT_MAX of kexec_load(2)
abbrev pub segment_limit : ℕ
segment_limit = 16

-- how many pages the segments may have together
abbrev pub segment_page_limit : ℕ
segment_page_limit = 65536

-- how many bytes a kernel, its initrd and its modules may have together
abbrev pub kernel_limit : ℕ
kernel_limit = 268435456
