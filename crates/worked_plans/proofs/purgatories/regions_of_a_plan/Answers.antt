-- By computing.
use Rattle.std.proofs.Common.{refl}
use Rattle.kx_pages.specs.Bytes.{page_of}
use Rattle.purgatory_link.specs.Regions.{digest, wanted_bytes}
use Rattle.sha2.specs.Sha256.{compress, digest_bytes, first_words, hash_after, rounds, schedule, sha256}
use Rattle.worked_plans.proofs.purgatories.regions_of_a_plan.Goals as goal

pub returns-clause-others : goal.returns-clause-others
returns-clause-others c = refl

pub returns-clause-bytes : goal.returns-clause-bytes
unfolding wanted_bytes
returns-clause-bytes c = refl

pub returns-clause-digest : goal.returns-clause-digest
unfolding digest wanted_bytes page_of compress digest_bytes first_words hash_after rounds schedule sha256
returns-clause-digest c = refl
