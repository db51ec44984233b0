use Rattle.std.proofs.Common.{◌≡◌, rules, subst, sym}
use Rattle.kx_pages.specs.Lists.{Distinct}
use Rattle.image_slots.proofs.Repeats.{never_repeats}
use Rattle.image_slots.proofs.normal_image.pool_of.Goals as goal

pub want_of-requires : goal.want_of-requires
want_of-requires c =
    let same : c.extend_from_slice.new.self.items ≡ c.args.pages.now = search rules in
    never_repeats _ c.in-Err.fault (subst Distinct (sym same) c.requires.once) c.in-Err.ensures.exact
