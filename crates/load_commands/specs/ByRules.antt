-- The loads of commands are laid by the rules of taking pages and laying a list (this project's own).
use Rattle.std.specs.Prelude.{◌≡◌, Ok}
use Rattle.file_commands.specs.Taking.{reads}
use Rattle.kx_edge.specs.Edge.{Files}
use Rattle.kx_edge.specs.declared.edge.Shelf.{Ghosts as Shelf}
use Rattle.kx_edge.specs.declared.edge.Sink.{Ghosts as Sink}
use Rattle.kexec_words.specs.Values.{BootValue, CommandValue, LoadValue}
use Rattle.kexec_words.specs.Values as words
use Rattle.load_commands.specs.Boot.{HasBooted}
use Rattle.load_commands.specs.Inputs.{LoadInputs, load_inputs}
use Rattle.load_commands.specs.Load.{HasLoaded, load_wish}
use Rattle.load_commands.specs.NormalLoad.{IsLaid}
use Rattle.command_parts.specs.Runs.{wish_of}

module _ {S O : Type 0} (D : Shelf S) (E : Sink O) (held : Files) (s : S) (o : O) (s' : S)
    (o' : O) where
  -- a boot was done, and its load is laid by the rules
  pub record HasBootedLaid (b : BootValue) : Type 0 where
    pub inputs : LoadInputs
    pub read : reads (load_inputs b.image b.inputs) held ≡ Ok inputs
    pub booted : HasBooted D E s o s' o' b inputs
    pub laid : IsLaid (wish_of b.kept) inputs booted.planned booted.checked

  -- a load was done, and is laid by the rules
  pub record HasLoadedLaid (l : LoadValue) : Type 0 where
    pub inputs : LoadInputs
    pub read : reads (load_inputs l.image l.inputs) held ≡ Ok inputs
    pub loaded : HasLoaded D E s o s' o' l inputs
    pub laid : IsLaid (load_wish l) inputs loaded.planned loaded.checked

  -- the load of a command that was done is laid by the rules of taking pages and laying a list
  abbrev pub HasLaid : CommandValue → Type 0
  HasLaid (words.boot b) = HasBootedLaid b
  HasLaid (words.load l) = HasLoadedLaid l
  HasLaid other = Unit {0}
