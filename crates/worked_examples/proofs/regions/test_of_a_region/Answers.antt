-- By computing.
use Rattle.std.specs.Prelude.{refl}
use Rattle.kx_fields.specs.Fields.{field}
use Rattle.kx_pages.specs.Bytes.{page_of}
use Rattle.page_memory.specs.Addresses.{bytes_in}
use Rattle.purgatory_link.specs.RegionTest.{first_wild_region, regions, regions_in, test, test_table}
use Rattle.sha2.specs.Sha256.{compress, digest_bytes, first_words, hash_after, rounds, schedule, sha256}
use Rattle.worked_examples.proofs.regions.test_of_a_region.Goals as goal

pub returns-clause-same : goal.returns-clause-same
unfolding test test_table bytes_in page_of first_wild_region regions regions_in field first_words schedule rounds compress hash_after digest_bytes sha256
returns-clause-same c = refl

pub returns-clause-differs : goal.returns-clause-differs
unfolding test test_table bytes_in page_of first_wild_region regions regions_in field first_words schedule rounds compress hash_after digest_bytes sha256
returns-clause-differs c = refl

pub returns-clause-wild_table : goal.returns-clause-wild_table
unfolding test test_table bytes_in page_of first_wild_region regions regions_in field first_words schedule rounds compress hash_after digest_bytes sha256
returns-clause-wild_table c = refl

pub returns-clause-wild_region : goal.returns-clause-wild_region
unfolding test test_table bytes_in first_wild_region regions regions_in field first_words schedule rounds compress hash_after digest_bytes sha256
returns-clause-wild_region c = refl
