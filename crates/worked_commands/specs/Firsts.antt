-- The files after the load of `abc`, as `load` put them (this project's own).
use Rattle.std.specs.Prelude.{List, ◌∷◌, codes}
use Rattle.kx_edge.specs.Edge.{Files}
use Rattle.file_commands.specs.Taking.{File}
use Rattle.worked_commands.specs.Inputs.{each_of}
use Rattle.worked_commands.specs.Memories.{loaded_file}
use Rattle.worked_commands.specs.Shelves.{holding}

-- `m` is the memory after the load, and `r` its record
abbrev pub loaded_of : List File
loaded_of = (codes "m", loaded_file) ∷ each_of

abbrev pub loaded_files : Files
loaded_files = holding loaded_of
