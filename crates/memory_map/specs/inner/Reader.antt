-- The rows and areas so far, with the System RAM rows in order (this project's own).
-- No clause of `kexec` reaches what stands here: it serves laws, and contracts inside the crates.
use Rattle.memory_map.specs.declared.reader.Reader.{Reader}
use Rattle.memory_map.specs.inner.Index.{IsIndex}
use Rattle.memory_map.specs.inner.Rows.{AreBelow, HaveBytes}
use Rattle.memory_map.specs.Maps.{MapValue}

pub record IsReader (r : Reader) : Type 0 where
  pub rows : AreBelow r.rows.items
  pub some : HaveBytes r.rows.items
  pub areas : AreBelow r.areas.items
  pub index : IsIndex r.rows.items r.ram

-- what the lines so far say
abbrev pub map_value_of : Reader → MapValue
map_value_of r = record { rows = r.rows.items; areas = r.areas.items }
