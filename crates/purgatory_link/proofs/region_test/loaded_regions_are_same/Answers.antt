use Rattle.std.proofs.Common.{refl}
use Rattle.purgatory_link.proofs.Standing.{same_where_wanted}
use Rattle.purgatory_link.proofs.Replacing.{others_stay, digest_stays}
use Rattle.purgatory_link.proofs.Placing.{regions_put}
use Rattle.purgatory_link.proofs.region_test.loaded_regions_are_same.Goals as goal

pub returns-clause-same : goal.returns-clause-same
returns-clause-same c = same_where_wanted

pub returns-clause-others : goal.returns-clause-others
returns-clause-others c = others_stay

pub returns-clause-digest : goal.returns-clause-digest
returns-clause-digest c = λ ss g s bytes bare e. digest_stays ss g s (record s { bytes = bytes }) bare e refl refl

pub returns-clause-put : goal.returns-clause-put
returns-clause-put c = regions_put
