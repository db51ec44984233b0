-- A load with context preserved: its list exchanges page 2, which begins with `old`, and page 13, which has `abc`, by way of
-- the swap page 11 (this project's own).
use Rattle.std.specs.Prelude.{ℕ, ◌++◌, List, [], ◌∷◌, None, codes, false}
use Rattle.kx_pages.specs.declared.item.Item.{Item}
use Rattle.kx_pages.specs.declared.item.Item.TheVariants.{Link, Destination, Source, Done}
use Rattle.kx_pages.specs.Bytes.{page_of}
use Rattle.kimage_list.specs.Laying.{in_bytes}
use Rattle.load_record.specs.File.{Record}
use Rattle.page_memory.specs.Contents.{Contents}
use Rattle.page_memory.specs.File.{text_of}
use Rattle.command_parts.specs.Outputs.{Made}
use Rattle.worked_commands.specs.Inputs.{three_bytes}
use Rattle.worked_commands.specs.Memories.{abc_page, memory_with}
use Rattle.worked_commands.specs.Texts.{kept_image, registers}

abbrev pub old_page : List ℕ
old_page = page_of (codes "old")

abbrev pub exchange_page : List ℕ
exchange_page = page_of (in_bytes (0x2001 ∷ 0x13008 ∷ 4 ∷ []))

abbrev pub one_exchange : List Item
one_exchange = Link 0x12 ∷ Destination 2 ∷ Source 0x13 ∷ Done 0 ∷ []

-- before the first run, after it, and after the second one
abbrev pub exchange_pages : List (ℕ × List ℕ)
exchange_pages = (2, old_page) ∷ (0x12, exchange_page) ∷ (0x13, abc_page) ∷ []

abbrev pub once_pages : List (ℕ × List ℕ)
once_pages =
    (2, abc_page) ∷ (0x11, abc_page) ∷ (0x12, exchange_page) ∷ (0x13, old_page) ∷ []

abbrev pub twice_pages : List (ℕ × List ℕ)
twice_pages =
    (2, old_page) ∷ (0x11, old_page) ∷ (0x12, exchange_page) ∷ (0x13, abc_page) ∷ []

abbrev pub exchange_memory : Contents
exchange_memory = memory_with exchange_pages

abbrev pub exchange_record : Record
exchange_record = record {
  crash = false;
  image = kept_image;
  start = registers;
  regions = 0;
  digest = 0;
  segments = three_bytes;
}

-- what is made of one run and of two
abbrev pub once_goods : Made
once_goods = record {
  outputs = (codes "x", text_of once_pages) ∷ [];
  text =
      codes "accepted words 4 links 1 pairs 1\nhead 12002 control 10000 swap 11000\n"
      ++ codes "start entry 2a00 rax 2badb002 rbx 9500 rsi 90000\nran 4\n";
  fault = None;
}

abbrev pub twice_goods : Made
twice_goods = record {
  outputs = (codes "x", text_of twice_pages) ∷ [];
  text =
      codes "accepted words 4 links 1 pairs 1\nhead 12002 control 10000 swap 11000\n"
      ++ codes "start entry 2a00 rax 2badb002 rbx 9500 rsi 90000\nran 4\nran 4\n";
  fault = None;
}
