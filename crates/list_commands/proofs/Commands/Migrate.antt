-- What is proved of `migrate`.
use Rattle.std.proofs.Common.{[], ◌∷◌}
use Rattle.kx_edge.specs.Edge.{Files}
use Rattle.kx_edge.specs.declared.edge.Shelf.{Ghosts as Shelf}
use Rattle.kx_edge.specs.declared.edge.Sink.{Ghosts as Sink}
use Rattle.load_record.specs.File.{record_file}
use Rattle.file_commands.specs.Answers.{MeetsTold, done}
use Rattle.kexec_words.specs.Values.{MigrateValue}
use Rattle.list_commands.specs.Migrate.{HasMigrated, migrate_entry}
use Rattle.file_commands.proofs.Keeping.{Keeps, put_as, said_as}

module _ {S O : Type 0} (D : Shelf S) (E : Sink O) (held : Files) (s : S) (o : O) (s' : S) (o' : O) where
  migrated : (v : MigrateValue) → (m : MeetsTold D E (migrate_entry v).command held s o done s' o') → HasMigrated D E s o s' o' v m.0
  migrated v (x, goods, read, m, fault, out) = record {
    read_back = m.3;
    put = put_as D E s o s' o' goods.outputs ((v.out, record_file x) ∷ []) m.2 out.put;
    said = said_as D E s o s' o' goods.text _ m.0 out.said;
  }

pub migrate_keeps : (v : MigrateValue) → Keeps (migrate_entry v)
migrate_keeps v = record {
  did = λ D E held s o s' o'. migrated D E held s o s' o' v;
  stands = λ x can. record { unrefused = λ a m. m; whole = λ goods m. m.1 };
  could = λ x goods m fault. tt;
  refuses = λ x why h. absurd h;
}
