-- By computing.
use Rattle.std.proofs.Common.{refl}
use Rattle.sample_load.specs.Samples.{pages_of}
use Rattle.sha2.specs.Sha256.{compress, digest_bytes, first_words, hash_after, rounds, schedule, sha256}
use Rattle.worked_plans.proofs.samples.digest_of_a_memory.Goals as goal

pub returns-clause-first_page : goal.returns-clause-first_page
unfolding pages_of compress digest_bytes first_words hash_after rounds schedule sha256
returns-clause-first_page c = refl

pub returns-clause-last_page : goal.returns-clause-last_page
unfolding pages_of compress digest_bytes first_words hash_after rounds schedule sha256
returns-clause-last_page c = refl

pub returns-clause-page_in_front : goal.returns-clause-page_in_front
unfolding pages_of compress digest_bytes first_words hash_after rounds schedule sha256
returns-clause-page_in_front c = refl

pub returns-clause-page_behind : goal.returns-clause-page_behind
unfolding pages_of compress digest_bytes first_words hash_after rounds schedule sha256
returns-clause-page_behind c = refl
