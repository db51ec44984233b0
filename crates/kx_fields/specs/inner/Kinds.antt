-- A block that has a field of each kind, none at the front (this project's own).
-- No clause of `kexec` reaches what stands here: it serves laws, and contracts inside the crates.
use Rattle.std.specs.Prelude.{[], ◌∷◌}
use Rattle.kx_fields.specs.Fields.{signed}
use Rattle.kx_fields.specs.inner.Fields.{unsigned}
use Rattle.kx_fields.specs.Formats.{Format}
use Rattle.kx_fields.specs.declared.kinds.Kinds.{Kinds}

abbrev pub kinds : Format Kinds
kinds = record {
  layout = λ at. record {
    one = at 1 1;
    two = at 2 2;
    four = at 4 4;
    eight = at 8 8;
    signed = signed (at 16 8);
    two_of_four = at 24 2;
    four_of_eight = at 28 4;
  };
  numbers =
      λ k. k.one ∷ k.two ∷ k.four ∷ k.eight ∷ unsigned k.signed ∷ k.two_of_four
      ∷ k.four_of_eight ∷ [];
}
