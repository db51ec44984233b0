use Rattle.std.proofs.Common.{◌≡◌, map, take, string_bytes}
use Rattle.kexec_words.specs.inner.Given.{texts_in}
use Rattle.kexec_words.proofs.given.own_all.Given as goal

abbrev pub invariant-loop-text : goal.invariant-loop-text
invariant-loop-text l = map string_bytes l.names.items ≡ texts_in (take l.text-index l.texts)
