use Rattle.std.proofs.Common.{◌≡◌, ℕ, ◌+◌, ◌++◌, [], ◌∷◌, Some, suc, sym, ap, ◌∙◌, subst, add-one}
use Rattle.std.specs.Prelude.{map, ◌&&◌}
use Rattle.kx_pages.specs.Lists.{destinations, sources, has}
use Rattle.list_checker.specs.Faults.{with_pair, is_kept}
use Rattle.list_checker.specs.Checked.{as_pair}
use Rattle.list_checker.specs.inner.Checked.{Shows}
use Rattle.list_checker.proofs.Sets.{insert_adds, inserted_among, map-push}
use Rattle.list_checker.proofs.earlier.Earlier.add_pair.Goals as goal

pub returns : goal.returns
returns c = λ swap s h n.
    let d = c.args.d in
    let p = c.args.p in
    let next : Some (c.number.result + 1) ≡ Some (suc d) = ap Some (add-one c.number.result ∙ ap suc c.number.ensures.value) in
    let o = c.args.self.now in
    let added = c.in_ok-add_source_page.ensures in
    subst (λ t. Shows swap record { links = o.links; destinations = c.insert.new.self; sources = c.add_source_page.new.sources; pairs = c.push.new.self; next = Some (c.number.result + 1) } (with_pair t s p)) (sym n)
    (record {
      links = h.links;
      count = h.count;
      destinations = λ q. insert_adds o.destinations c.insert.new.self d (destinations s.pairs) c.in_ok-insert.ensures.updates h.destinations q ∙ ap (has q) (sym (map-push (λ (r : ℕ × ℕ). r.0) s.pairs (d, p)));
      kept = added.kept ∙ h.kept;
      sources = λ q. inserted_among swap o.sources c.add_source_page.new.sources p (sources s.pairs) h.kept h.sources added.added q ∙ ap (λ xs. is_kept swap && has q xs) (sym (map-push (λ (r : ℕ × ℕ). r.1) s.pairs (d, p)));
      pairs = ap (map as_pair) c.in_ok-push.ensures.items ∙ map-push as_pair o.pairs.items (record { destination = d; source = p }) ∙ ap (λ xs. xs ++ (d, p) ∷ []) h.pairs;
      next = next;
    })
