use Rattle.std.proofs.Common.{◌≡◌, ◌+◌, [], ◌∷◌, sym, ap, ◌∙◌, length-append, true}
use Rattle.std.specs.Prelude.{not, if◌then◌else◌}
use Rattle.std.specs.BTreeSet.{btree_set_len}
use Rattle.list_checker.proofs.Sets.{insert_adds}
use Rattle.list_checker.proofs.earlier.Earlier.add_link.Goals as goal

pub returns : goal.returns
returns c = λ swap s h n.
    let e = c.in_ok-insert.ensures in
    let added : c.in_ok-insert.field-0 ≡ true = e.added ∙ ap not (h.links c.args.p ∙ n) in
    record {
      links = insert_adds c.args.self.now.links c.insert.new.self c.args.p s.links e.updates h.links;
      count = e.len ∙ ap (λ b. btree_set_len c.args.self.now.links + (if b then 1 else 0)) added ∙ ap (λ x. x + 1) h.count ∙ sym (length-append s.links (c.args.p ∷ []));
      destinations = h.destinations;
      kept = h.kept;
      sources = h.sources;
      pairs = h.pairs;
      next = h.next;
    }
