-- The commands as values: the names of files and the kernel's command line as bytes (this project's own).
use Rattle.std.specs.Prelude.{ℕ, Bool, Option, List}
use Rattle.clap.specs.Words.{Text}
use Rattle.kexec_words.specs.declared.commands.Runs.{Runs}
use Rattle.kx_pages.specs.declared.image.ImageType.{ImageType}

-- what `boot` and `load` read
pub record InputsValue : Type 0 where
  pub memory : Text
  pub pool : Text
  pub below : Option ℕ  -- the number of the first page past the limit
  pub map : Option Text
  pub kernel : Text
  pub initrd : Option Text
  pub purgatory : Option Text
  pub modules : List Text
  pub command : Option Text

pub record BootValue : Type 0 where
  pub inputs : InputsValue
  pub out : Text
  pub kept : Option Runs
  pub image : ImageType

pub record LoadValue : Type 0 where
  pub inputs : InputsValue
  pub out : Text
  pub load_record : Text
  pub kept : Bool
  pub image : ImageType

-- what `load-panic` reads beside the memory map
pub record CrashInputsValue : Type 0 where
  pub memory : Text
  pub notes : Option Text
  pub kernel : Text
  pub initrd : Option Text
  pub purgatory : Option Text
  pub command : Option Text

pub record LoadPanicValue : Type 0 where
  pub inputs : CrashInputsValue
  pub map : Text
  pub out : Text
  pub load_record : Text

pub record LoadNamesValue : Type 0 where
  pub memory : Text
  pub load_record : Text

pub record ExecValue : Type 0 where
  pub memory : Text
  pub load_record : Text
  pub out : Text
  pub twice : Bool

pub record TraceValue : Type 0 where
  pub memory : Text
  pub out : Text
  pub head : ℕ
  pub limit : ℕ
  pub swap : Option ℕ

pub record MigrateValue : Type 0 where
  pub load_record : Text
  pub out : Text

pub record BootResidentValue : Type 0 where
  pub memory : Text
  pub pool : Text
  pub out : Text
  pub kernel : Text
  pub pairs : Text
  pub at : ℕ

pub record DrillValue : Type 0 where
  pub memory : Text
  pub pool : Text
  pub out : Text
  pub events : Text
  pub map : Text

pub record CoreValue : Type 0 where
  pub memory : Text
  pub out : Text
  pub address : ℕ

pub data CommandValue : Type 0 where
  boot : BootValue → CommandValue
  load : LoadValue → CommandValue
  load_panic : LoadPanicValue → CommandValue
  check : LoadNamesValue → CommandValue
  dump : LoadNamesValue → CommandValue
  exec : ExecValue → CommandValue
  trace : TraceValue → CommandValue
  migrate : MigrateValue → CommandValue
  sample : ℕ → CommandValue
  boot_resident : BootResidentValue → CommandValue
  drill : DrillValue → CommandValue
  core : CoreValue → CommandValue
